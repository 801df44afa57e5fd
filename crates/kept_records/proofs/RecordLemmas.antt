-- Records that are put and renewed.
use Rattle.std.proofs.Common.{◌≡◌, ◌≢◌, ℕ, Bool, true, false, cond, List, [], ◌∷◌, ◌++◌, ap, sym, ◌∙◌, refl}
use Rattle.std.specs.Prelude.{Some, None, IsSome, option_map, map}
use Rattle.std.proofs.lemmas.Option.{none-some}
use Rattle.object_values.specs.Exact.{node_exact}
use Rattle.object_values.specs.declared.nodes.Node.{Node}
use Rattle.object_values.specs.contracts.nodes.NodePartialEq.TheImpl.{ghosts as node_eq}
use Rattle.object_values.specs.declared.records.Renewed.{Renewed}
use Rattle.object_values.specs.declared.records.NodeRecord.{NodeRecord}
use Rattle.kept_records.specs.Records.{put_record, record_of, renew_record, renewed}
use Rattle.kept_records.specs.Laws.{Lasting, lasting_of, nodes_of}

pub same_node : (a b : Node) → node_eq.eq a b ≡ true → a ≡ b
same_node a b e = (node_exact a b).0 e

pub is_node : (a : Node) → node_eq.eq a a ≡ true
is_node a = (node_exact a a).1 refl

-- a node that differs is not taken for it
pub other_node : (a b : Node) → a ≢ b → node_eq.eq a b ≡ false
other_node a b other = by (node_eq.eq a b) refl
  where
    by : (t : Bool) → node_eq.eq a b ≡ t → t ≡ false
    by true e = absurd (other (same_node a b e))
    by false e = refl

-- ---- a record that is put

module _ (noted : NodeRecord) where
  pub put_own : (records : List NodeRecord) → record_of noted.node (put_record noted records) ≡ Some noted
  put_own [] = ap (λ t. cond t (Some noted) None) (is_node noted.node)
  put_own (r ∷ records) = by (node_eq.eq noted.node r.node) refl (put_own records)
    where
      by : (t : Bool) → node_eq.eq noted.node r.node ≡ t → record_of noted.node (put_record noted records) ≡ Some noted → record_of noted.node (cond t (noted ∷ records) (r ∷ put_record noted records)) ≡ Some noted
      by true e rest = ap (λ t. cond t (Some noted) (record_of noted.node records)) (is_node noted.node)
      by false e rest = ap (λ t. cond t (Some r) (record_of noted.node (put_record noted records))) e ∙ rest

  pub put_others : (node : Node) → node ≢ noted.node → (records : List NodeRecord) → record_of node (put_record noted records) ≡ record_of node records
  put_others node other [] = ap (λ t. cond t (Some noted) None) (other_node node noted.node other)
  put_others node other (r ∷ records) = by (node_eq.eq noted.node r.node) refl (put_others node other records)
    where
      by : (t : Bool) → node_eq.eq noted.node r.node ≡ t → record_of node (put_record noted records) ≡ record_of node records → record_of node (cond t (noted ∷ records) (r ∷ put_record noted records)) ≡ record_of node (r ∷ records)
      by true e rest =
          ap (λ t. cond t (Some noted) (record_of node records)) (other_node node noted.node other)
          ∙ sym (ap (λ t. cond t (Some r) (record_of node records)) (other_node node r.node (λ is. other (is ∙ sym (same_node noted.node r.node e)))))
      by false e rest = ap (λ o. cond (node_eq.eq node r.node) (Some r) o) rest

  pub put_nodes : (records : List NodeRecord) → IsSome (record_of noted.node records) → nodes_of (put_record noted records) ≡ nodes_of records
  put_nodes [] some = let no : ⊥ = cc in absurd no
  put_nodes (r ∷ records) some = by (node_eq.eq noted.node r.node) refl some (put_nodes records)
    where
      by : (t : Bool) → node_eq.eq noted.node r.node ≡ t → IsSome (cond t (Some r) (record_of noted.node records)) → (IsSome (record_of noted.node records) → nodes_of (put_record noted records) ≡ nodes_of records) → nodes_of (cond t (noted ∷ records) (r ∷ put_record noted records)) ≡ nodes_of (r ∷ records)
      by true e there rest = ap (λ (n : Node). n ∷ nodes_of records) (same_node noted.node r.node e)
      by false e there rest = ap (λ (nodes : List Node). r.node ∷ nodes) (rest there)

  pub put_last : (records : List NodeRecord) → record_of noted.node records ≡ None → put_record noted records ≡ records ++ noted ∷ []
  put_last [] none = refl
  put_last (r ∷ records) none = by (node_eq.eq noted.node r.node) none (put_last records)
    where
      by : (t : Bool) → cond t (Some r) (record_of noted.node records) ≡ None → (record_of noted.node records ≡ None → put_record noted records ≡ records ++ noted ∷ []) → cond t (noted ∷ records) (r ∷ put_record noted records) ≡ r ∷ (records ++ noted ∷ [])
      by true there rest = absurd (none-some r (sym there))
      by false there rest = ap (λ (l : List NodeRecord). r ∷ l) (rest there)

-- ---- a record that is renewed

module _ (node : Node) (present : Renewed) (epoch : ℕ) where
  pub renew_own : (records : List NodeRecord) → record_of node (renew_record node present epoch records) ≡ option_map (renewed present epoch) (record_of node records)
  renew_own [] = refl
  renew_own (r ∷ records) = by (node_eq.eq node r.node) refl (renew_own records)
    where
      by : (t : Bool) → node_eq.eq node r.node ≡ t → record_of node (renew_record node present epoch records) ≡ option_map (renewed present epoch) (record_of node records) → record_of node (cond t (renewed present epoch r ∷ records) (r ∷ renew_record node present epoch records)) ≡ option_map (renewed present epoch) (cond t (Some r) (record_of node records))
      by true e rest = ap (λ t. cond t (Some (renewed present epoch r)) (record_of node records)) e
      by false e rest = ap (λ t. cond t (Some r) (record_of node (renew_record node present epoch records))) e ∙ rest

  pub renew_others : (other : Node) → other ≢ node → (records : List NodeRecord) → record_of other (renew_record node present epoch records) ≡ record_of other records
  renew_others other apart [] = refl
  renew_others other apart (r ∷ records) = by (node_eq.eq node r.node) refl (renew_others other apart records)
    where
      by : (t : Bool) → node_eq.eq node r.node ≡ t → record_of other (renew_record node present epoch records) ≡ record_of other records → record_of other (cond t (renewed present epoch r ∷ records) (r ∷ renew_record node present epoch records)) ≡ record_of other (r ∷ records)
      by true e rest =
          let no = other_node other r.node (λ is. apart (is ∙ sym (same_node node r.node e))) in
          ap (λ t. cond t (Some (renewed present epoch r)) (record_of other records)) no ∙ sym (ap (λ t. cond t (Some r) (record_of other records)) no)
      by false e rest = ap (λ o. cond (node_eq.eq other r.node) (Some r) o) rest

  pub renew_lasting : (records : List NodeRecord) → map lasting_of (renew_record node present epoch records) ≡ map lasting_of records
  renew_lasting [] = refl
  renew_lasting (r ∷ records) = by (node_eq.eq node r.node) (renew_lasting records)
    where
      by : (t : Bool) → map lasting_of (renew_record node present epoch records) ≡ map lasting_of records → map lasting_of (cond t (renewed present epoch r ∷ records) (r ∷ renew_record node present epoch records)) ≡ map lasting_of (r ∷ records)
      by true rest = refl
      by false rest = ap (λ (l : List Lasting). lasting_of r ∷ l) rest
