-- Where the record of a node stands, and how it is found by its marks.
use Rattle.std.proofs.Common.{◌≡◌, ◌⊎◌, ℕ, zero, suc, Bool, true, false, cond, List, [], ◌∷◌, ◌++◌, inl, inr, length, ap, sym, ◌∙◌, subst, refl, true≢false, arith}
use Rattle.std.proofs.Math.ListN.{set}
use Rattle.std.specs.Prelude.{◌↔◌, ◌<◌, IsTrue, Option, Some, None, is_some, option_map, slice_get}
use Rattle.std.proofs.lemmas.Option.{none-some, same_Some, slice_get_within}
use Rattle.content_store.specs.Marks.{Finds, KeepsNumbers}
use Rattle.content_store.specs.declared.marks.Marks.{Marks}
use Rattle.content_store.proofs.Lemmas.{index_kept, index_more, stands_nowhere}
use Rattle.object_values.specs.Exact.{node_exact}
use Rattle.object_values.specs.declared.nodes.Node.{Node}
use Rattle.object_values.specs.contracts.nodes.NodePartialEq.TheImpl.{ghosts as node_eq}
use Rattle.object_values.specs.declared.records.Renewed.{Renewed}
use Rattle.object_values.specs.declared.records.NodeRecord.{NodeRecord}
use Rattle.kept_records.specs.Records.{EachNodeOnce, node_at, put_record, record_of, renew_record, renewed}
use Rattle.kept_records.specs.NodeMarks.{IsNodeIndex, marks_of}
use Rattle.kept_records.specs.Laws.{nodes_of}
use Rattle.kept_records.proofs.RecordLemmas.{is_node, put_last, put_nodes, same_node}

-- ---- the place of a node

pub nowhere_none : (node : Node) (records : List NodeRecord) → ((i : ℕ) → ¬ (node_at records i ≡ Some node)) → record_of node records ≡ None
nowhere_none node [] nowhere = refl
nowhere_none node (r ∷ records) nowhere = by (node_eq.eq node r.node) refl (nowhere_none node records (λ i. nowhere (suc i)))
  where
    by : (t : Bool) → node_eq.eq node r.node ≡ t → record_of node records ≡ None → cond t (Some r) (record_of node records) ≡ None
    by true e rest = absurd (nowhere 0 (ap Some (sym (same_node node r.node e))))
    by false e rest = rest

pub none_nowhere : (node : Node) (records : List NodeRecord) → record_of node records ≡ None → (i : ℕ) → ¬ (node_at records i ≡ Some node)
none_nowhere node [] none i at = absurd (none-some node at)
none_nowhere node (r ∷ records) none i at = by (node_eq.eq node r.node) refl none (none_nowhere node records) i at
  where
    by : (t : Bool) → node_eq.eq node r.node ≡ t → cond t (Some r) (record_of node records) ≡ None
        → (record_of node records ≡ None → (k : ℕ) → ¬ (node_at records k ≡ Some node)) → (k : ℕ) → ¬ (node_at (r ∷ records) k ≡ Some node)
    by true e there rest k here = absurd (none-some r (sym there))
    by false e there rest zero here = true≢false (sym (is_node node) ∙ ap (node_eq.eq node) (sym (same_Some r.node node here)) ∙ e)
    by false e there rest (suc k) here = rest there k here

-- of the place at which alone it stands
module _ (node : Node) where
  abbrev Alone : List NodeRecord → ℕ → Type 0
  Alone records i = (j : ℕ) → node_at records j ≡ Some node → j ≡ i

  later_alone : (r : NodeRecord) (records : List NodeRecord) (i : ℕ) → Alone (r ∷ records) (suc i) → Alone records i
  later_alone r records i alone j at = let e : suc j ≡ suc i = alone (suc j) at in omega (arith, e)

  -- before its place is another node
  not_before : (r : NodeRecord) (records : List NodeRecord) (i : ℕ) → Alone (r ∷ records) (suc i) → node_eq.eq node r.node ≡ false
  not_before r records i alone = by (node_eq.eq node r.node) refl
    where
      by : (t : Bool) → node_eq.eq node r.node ≡ t → t ≡ false
      by true e = let no : 0 ≡ suc i = alone 0 (ap Some (sym (same_node node r.node e))) in absurd (omega (arith, no))
      by false e = refl

  is_here : (r : NodeRecord) → r.node ≡ node → node_eq.eq node r.node ≡ true
  is_here r is = ap (node_eq.eq node) is ∙ is_node node

  pub record_there : (records : List NodeRecord) (i : ℕ) (r : NodeRecord) → Alone records i → slice_get records i ≡ Some r → r.node ≡ node → record_of node records ≡ Some r
  record_there [] i r alone at is = absurd (none-some r at)
  record_there (x ∷ records) zero r alone at is =
      ap (λ t. cond t (Some x) (record_of node records)) (is_here x (ap (λ (y : NodeRecord). y.node) (same_Some x r at) ∙ is)) ∙ at
  record_there (x ∷ records) (suc i) r alone at is =
      ap (λ t. cond t (Some x) (record_of node records)) (not_before x records i alone) ∙ record_there records i r (later_alone x records i alone) at is

  pub put_there : (noted : NodeRecord) → noted.node ≡ node → (records : List NodeRecord) (i : ℕ) → Alone records i → node_at records i ≡ Some node → put_record noted records ≡ set records i noted
  put_there noted is [] i alone at = absurd (none-some node at)
  put_there noted is (x ∷ records) zero alone at =
      ap (λ t. cond t (noted ∷ records) (x ∷ put_record noted records)) (ap (λ (n : Node). node_eq.eq n x.node) is ∙ is_here x (same_Some x.node node at))
  put_there noted is (x ∷ records) (suc i) alone at =
      ap (λ t. cond t (noted ∷ records) (x ∷ put_record noted records)) (ap (λ (n : Node). node_eq.eq n x.node) is ∙ not_before x records i alone)
      ∙ ap (λ (l : List NodeRecord). x ∷ l) (put_there noted is records i (later_alone x records i alone) at)

  pub renew_there : (present : Renewed) (epoch : ℕ) (records : List NodeRecord) (i : ℕ) (r : NodeRecord) → Alone records i → slice_get records i ≡ Some r → r.node ≡ node
      → renew_record node present epoch records ≡ set records i (renewed present epoch r)
  renew_there present epoch [] i r alone at is = absurd (none-some r at)
  renew_there present epoch (x ∷ records) zero r alone at is =
      ap (λ t. cond t (renewed present epoch x ∷ records) (x ∷ renew_record node present epoch records)) (is_here x (ap (λ (y : NodeRecord). y.node) (same_Some x r at) ∙ is))
      ∙ ap (λ (y : NodeRecord). renewed present epoch y ∷ records) (same_Some x r at)
  renew_there present epoch (x ∷ records) (suc i) r alone at is =
      ap (λ t. cond t (renewed present epoch x ∷ records) (x ∷ renew_record node present epoch records)) (not_before x records i alone)
      ∙ ap (λ (l : List NodeRecord). x ∷ l) (renew_there present epoch records i r (later_alone x records i alone) at is)

module _ (records : List NodeRecord) (once : EachNodeOnce records) (i : ℕ) where
  pub record_found : (node : Node) → node_at records i ≡ Some node → record_of node records ≡ slice_get records i
  record_found node at = by (slice_get records i) refl at
    where
      by : (o : Option NodeRecord) → slice_get records i ≡ o → option_map (λ r. r.node) o ≡ Some node → record_of node records ≡ slice_get records i
      by None here named = absurd (none-some node named)
      by (Some r) here named = record_there node records i r (λ j there. once j i node there at) here (same_Some r.node node named) ∙ sym here

  pub put_at : (noted : NodeRecord) → node_at records i ≡ Some noted.node → set records i noted ≡ put_record noted records
  put_at noted at = sym (put_there noted.node noted refl records i (λ j there. once j i noted.node there at) at)

  pub renew_at : (node : Node) (present : Renewed) (epoch : ℕ) (r : NodeRecord) → node_at records i ≡ Some node → slice_get records i ≡ Some r
      → set records i (renewed present epoch r) ≡ renew_record node present epoch records
  renew_at node present epoch r at here =
      let named : Some r.node ≡ Some node = sym (ap (option_map (λ (x : NodeRecord). x.node)) here) ∙ at in
      sym (renew_there node present epoch records i r (λ j there. once j i node there at) here (same_Some r.node node named))

-- whether it stands at a place
module _ (node : Node) (records : List NodeRecord) (i : ℕ) where
  pub stands_at : (there : NodeRecord) (b : Bool) → slice_get records i ≡ Some there → b ≡ node_eq.eq there.node node → IsTrue b ↔ (node_at records i ≡ Some node)
  stands_at there b at test =
      let named : node_at records i ≡ Some there.node = ap (option_map (λ (x : NodeRecord). x.node)) at in (
        λ yes. named ∙ ap Some ((node_exact there.node node).0 (sym test ∙ yes)),
        λ is. test ∙ (node_exact there.node node).1 (same_Some there.node node (sym named ∙ is)),
      )

  pub stands_past : slice_get records i ≡ None → IsTrue false ↔ (node_at records i ≡ Some node)
  stands_past at = (
    λ no. absurd (true≢false (sym no)),
    λ is. absurd (none-some node (sym (ap (option_map (λ (x : NodeRecord). x.node)) at) ∙ is)),
  )

  pub node_within : node_at records i ≡ Some node → i < length records
  node_within at = by (slice_get records i) refl at
    where
      by : (o : Option NodeRecord) → slice_get records i ≡ o → option_map (λ r. r.node) o ≡ Some node → i < length records
      by None here named = absurd (none-some node named)
      by (Some r) here named = slice_get_within records i r here

-- ---- the nodes in their order

pub set_nodes : (records : List NodeRecord) (i : ℕ) (new : NodeRecord) → node_at records i ≡ Some new.node → nodes_of (set records i new) ≡ nodes_of records
set_nodes [] i new at = refl
set_nodes (r ∷ records) zero new at = ap (λ (n : Node). n ∷ nodes_of records) (sym (same_Some r.node new.node at))
set_nodes (r ∷ records) (suc i) new at = ap (λ (l : List Node). r.node ∷ l) (set_nodes records i new at)

at_of_nodes : (records : List NodeRecord) (i : ℕ) → node_at records i ≡ slice_get (nodes_of records) i
at_of_nodes [] i = refl
at_of_nodes (r ∷ records) zero = refl
at_of_nodes (r ∷ records) (suc i) = at_of_nodes records i

pub same_places : (old new : List NodeRecord) → nodes_of new ≡ nodes_of old → (i : ℕ) → node_at new i ≡ node_at old i
same_places old new same i = at_of_nodes new i ∙ ap (λ (l : List Node). slice_get l i) same ∙ sym (at_of_nodes old i)

pub same_once : (old new : List NodeRecord) → nodes_of new ≡ nodes_of old → EachNodeOnce old → EachNodeOnce new
same_once old new same once i j node at_i at_j = once i j node (sym (same_places old new same i) ∙ at_i) (sym (same_places old new same j) ∙ at_j)

pub renew_nodes : (node : Node) (present : Renewed) (epoch : ℕ) (records : List NodeRecord) → nodes_of (renew_record node present epoch records) ≡ nodes_of records
renew_nodes node present epoch [] = refl
renew_nodes node present epoch (r ∷ records) = by (node_eq.eq node r.node) (renew_nodes node present epoch records)
  where
    by : (t : Bool) → nodes_of (renew_record node present epoch records) ≡ nodes_of records → nodes_of (cond t (renewed present epoch r ∷ records) (r ∷ renew_record node present epoch records)) ≡ nodes_of (r ∷ records)
    by true rest = refl
    by false rest = ap (λ (l : List Node). r.node ∷ l) rest

pub last_or_before : (records : List NodeRecord) (new : NodeRecord) (i : ℕ) (node : Node) → node_at (records ++ new ∷ []) i ≡ Some node
    → (node_at records i ≡ Some node) ⊎ ((i ≡ length records) × (node ≡ new.node))
last_or_before [] new zero node at = inr (refl, sym (same_Some new.node node at))
last_or_before [] new (suc i) node at = absurd (none-some node at)
last_or_before (x ∷ records) new zero node at = inl at
last_or_before (x ∷ records) new (suc i) node at = elim (last_or_before records new i node at) [ inl before ↦ inl before | inr last ↦ inr (ap suc last.0, last.1) ]

pub once_more : (records : List NodeRecord) (new : NodeRecord) → record_of new.node records ≡ None → EachNodeOnce records → EachNodeOnce (records ++ new ∷ [])
once_more records new none once i j node at_i at_j =
    let fresh = none_nowhere new.node records none in
    elim (last_or_before records new i node at_i) [
      | inl i_before ↦ elim (last_or_before records new j node at_j) [
        | inl j_before ↦ once i j node i_before j_before
        | inr j_last ↦ absurd (fresh i (i_before ∙ ap Some j_last.1))
      ]
      | inr i_last ↦ elim (last_or_before records new j node at_j) [
        | inl j_before ↦ absurd (fresh j (j_before ∙ ap Some i_last.1))
        | inr j_last ↦ i_last.0 ∙ sym j_last.0
      ]
    ]

pub put_once : (noted : NodeRecord) (records : List NodeRecord) → EachNodeOnce records → EachNodeOnce (put_record noted records)
put_once noted records once = by (record_of noted.node records) refl
  where
    by : (o : Option NodeRecord) → record_of noted.node records ≡ o → EachNodeOnce (put_record noted records)
    by None e = subst EachNodeOnce (sym (put_last noted records e)) (once_more records noted e once)
    by (Some r) e = same_once records (put_record noted records) (put_nodes noted records (ap is_some e)) once

-- ---- records by the marks of their nodes

module _ (records : List NodeRecord) (table : Marks) (index : IsNodeIndex records table) where
  pub index_same : (new : List NodeRecord) → nodes_of new ≡ nodes_of records → IsNodeIndex new table
  index_same new same = record {
    once = same_once records new same index.once;
    found = λ i node at. index.found i node (sym (same_places records new same i) ∙ at);
  }

  pub records_kept : (next : Marks) → KeepsNumbers table next → IsNodeIndex records next
  records_kept next kept = index_kept (node_at records) marks_of table next index kept

  pub found_nowhere : (node : Node) → ((i : ℕ) → Finds table (marks_of node) i → ¬ (node_at records i ≡ Some node)) → record_of node records ≡ None
  found_nowhere node nowhere = nowhere_none node records (stands_nowhere (node_at records) marks_of table node index nowhere)

  pub index_new : (new : NodeRecord) (next : Marks) → record_of new.node records ≡ None → KeepsNumbers table next → Finds next (marks_of new.node) (length records) → IsNodeIndex (records ++ new ∷ []) next
  index_new new next none kept there =
      index_more (node_at records) marks_of table next index kept (node_at (records ++ new ∷ [])) new.node (length records) (last_or_before records new) (none_nowhere new.node records none) there

-- nothing is found where there is nothing
pub index_empty : (table : Marks) → IsNodeIndex [] table
index_empty table = record { once = λ i j node at_i at_j. absurd (none-some node at_i); found = λ i node at. absurd (none-some node at) }
