-- What a store's records of nodes say, once facts are noted of nodes, and what records came to is said.
use Rattle.std.proofs.Common.{◌≡◌, ◌≢◌, ℕ, Bool, true, false, cond, List, [], ◌∷◌, map, inl, inr, refl, sym, ap, subst, ◌∙◌, eq-eqb}
use Rattle.std.specs.Prelude.{◌↔◌, Option, Some, None, IsNone, IsSome, nat_eq, option_map, slice_get}
use Rattle.std.specs.List.{All}
use Rattle.std.proofs.lemmas.List.Elements.{All-head, All-tail}
use Rattle.object_values.specs.Exact.{node_exact}
use Rattle.object_values.specs.declared.facts.Fact.{Fact}
use Rattle.object_values.specs.declared.facts.Fresh.{Fresh}
use Rattle.object_values.specs.declared.facts.RenewedNode.{RenewedNode}
use Rattle.object_values.specs.declared.messages.Status.TheVariants.{Abort}
use Rattle.object_values.specs.declared.nodes.Node.{Node}
use Rattle.object_values.specs.contracts.nodes.NodePartialEq.TheImpl.{ghosts as node_eq}
use Rattle.object_values.specs.declared.records.NodeRecord.{NodeRecord}
use Rattle.object_values.specs.declared.records.Renewed.{Renewed}
use Rattle.object_values.specs.declared.views.Value.{Value}
use Rattle.meaning_texts.specs.Lists.{IsIn}
use Rattle.meaning_texts.proofs.Lemmas.{same_some}
use Rattle.meaning_derive.specs.Chains.{AreDifferent}
use Rattle.meaning_records.specs.Batches.{facts_of}
use Rattle.meaning_records.specs.Tables.{put_fact, put_facts}
use Rattle.meaning_true.specs.Knowing.{KeptRecord, KeptRecords}
use Rattle.meaning_true.specs.Numbered.{Contents, fact_by, is_at, kept_by}
use Rattle.kept_records.specs.Laws.{nodes_of}
use Rattle.kept_records.specs.Records.{put_record, put_records, record_of, renew_record, renewed}
use Rattle.kept_records.proofs.Lemmas.{put_own, put_others, renew_own, renew_others}
use Rattle.kept_notes.specs.Facts as said
use Rattle.kept_tables.specs.Holdings.{Holding, MayRenew}
use Rattle.odin_store.specs.declared.store.Store.{Store}
use Rattle.odin_store.specs.Changes.{HasInMemory}
use Rattle.odin_store.specs.OnDisk.{HoldsOn}
use Rattle.derive_walk.specs.Told.{fresh_nodes, noted_record, renewed_nodes}
use Rattle.derive_walk.specs.Knowing.{noted_of, noted_or, present_of, records_with, renewed_if}
use Rattle.kept_derive.specs.Knowing.{store_records}
use Rattle.kept_derive.specs.Noting.{renew_records}
use Rattle.kept_derive.proofs.KnowLemmas.{SaysFacts, contents_in, fact_in, fact_there, same_kept}

-- whether two nodes are one
one_node : (n m : Node) → node_eq.eq n m ≡ true → n ≡ m
one_node n m e = (node_exact n m).0 e

not_one : (n m : Node) → node_eq.eq n m ≡ false → n ≢ m
not_one n m e is = let yes : node_eq.eq n m ≡ true = (node_exact n m).1 is in cc

same_number : (n : ℕ) → nat_eq n n ≡ true
same_number n = eq-eqb n n refl

map_same : {A : Type 0} (o : Option A) → o ≡ option_map (λ x. x) o
map_same None = refl
map_same (Some x) = refl

-- ---- records that are put

abbrev record_or : Option NodeRecord → Option NodeRecord → Option NodeRecord
record_or None kept = kept
record_or (Some noted) kept = Some noted

none_of : (notes : List NodeRecord) (n : Node) → ¬ IsIn n (nodes_of notes) → record_of n notes ≡ None
none_of [] n outside = refl
none_of (x ∷ notes) n outside = by (node_eq.eq n x.node) refl (none_of notes n (λ i. outside (inr i)))
  where
    by : (t : Bool) → node_eq.eq n x.node ≡ t → record_of n notes ≡ None → cond t (Some x) (record_of n notes) ≡ None
    by true e rest = absurd (outside (inl (one_node n x.node e)))
    by false e rest = rest

none_in : (notes : List NodeRecord) (n : Node) → record_of n notes ≡ None → ¬ IsIn n (nodes_of notes)
none_in [] n none i = i
none_in (x ∷ notes) n none i = by (node_eq.eq n x.node) refl none i (none_in notes n)
  where
    by : (t : Bool) → node_eq.eq n x.node ≡ t → cond t (Some x) (record_of n notes) ≡ None → IsIn n (nodes_of (x ∷ notes))
        → (record_of n notes ≡ None → ¬ IsIn n (nodes_of notes)) → ⊥
    by true e there j rest = cc
    by false e there (inl is) rest = not_one n x.node e is
    by false e there (inr j) rest = rest there j

put_there : (notes records : List NodeRecord) → AreDifferent (nodes_of notes) → (n : Node)
    → record_of n (put_records notes records) ≡ record_or (record_of n notes) (record_of n records)
put_there [] records once n = refl
put_there (x ∷ notes) records once n = by (node_eq.eq n x.node) refl (put_there notes (put_record x records) once.1 n)
  where
    by : (t : Bool) → node_eq.eq n x.node ≡ t
        → record_of n (put_records notes (put_record x records)) ≡ record_or (record_of n notes) (record_of n (put_record x records))
        → record_of n (put_records notes (put_record x records)) ≡ record_or (cond t (Some x) (record_of n notes)) (record_of n records)
    by true e rest =
        let is = one_node n x.node e in
        let none = none_of notes n (λ i. once.0 (subst (λ m. IsIn m (nodes_of notes)) is i)) in
        rest ∙ ap (λ o. record_or o (record_of n (put_record x records))) none ∙ ap (λ m. record_of m (put_record x records)) is ∙ put_own x records
    by false e rest = rest ∙ ap (record_or (record_of n notes)) (put_others x n (not_one n x.node e) records)

-- ---- facts that are noted

put_other : (fact : Fact) (facts : List Fact) (n : Node) → n ≢ fact.node → fact_in n (put_fact fact facts) ≡ fact_in n facts
put_other fact [] n other = by (node_eq.eq n fact.node) refl
  where
    by : (t : Bool) → node_eq.eq n fact.node ≡ t → cond t (Some fact) None ≡ None
    by true e = absurd (other (one_node n fact.node e))
    by false e = refl
put_other fact (f ∷ facts) n other = by (node_eq.eq fact.node f.node) refl (put_other fact facts n other)
  where
    passed : (t : Bool) → node_eq.eq n fact.node ≡ t → (o : Option Fact) → cond t (Some fact) o ≡ o
    passed true e o = absurd (other (one_node n fact.node e))
    passed false e o = refl

    skipped : (t : Bool) → node_eq.eq n f.node ≡ t → fact.node ≡ f.node → (o : Option Fact) → cond t (Some f) o ≡ o
    skipped true e is o = absurd (other (one_node n f.node e ∙ sym is))
    skipped false e is o = refl

    by : (t : Bool) → node_eq.eq fact.node f.node ≡ t → fact_in n (put_fact fact facts) ≡ fact_in n facts
        → fact_in n (cond t (fact ∷ facts) (f ∷ put_fact fact facts)) ≡ fact_in n (f ∷ facts)
    by true e rest = passed (node_eq.eq n fact.node) refl (fact_in n facts)
        ∙ sym (skipped (node_eq.eq n f.node) refl (one_node fact.node f.node e) (fact_in n facts))
    by false e rest = ap (cond (node_eq.eq n f.node) (Some f)) rest

put_all_others : (fresh : List Fresh) (facts : List Fact) (n : Node) → ¬ IsIn n (fresh_nodes fresh)
    → fact_in n (put_facts (facts_of fresh) facts) ≡ fact_in n facts
put_all_others [] facts n outside = refl
put_all_others (f ∷ fresh) facts n outside = put_all_others fresh (put_fact f.fact facts) n (λ i. outside (inr i))
    ∙ put_other f.fact facts n (λ e. outside (inl e))

-- ---- what records say that are noted

module _ (contents : List Value) (epoch : ℕ) where
  nodes_said : (notes : List NodeRecord) (fresh : List Fresh) → said.facts_of contents notes ≡ facts_of fresh → nodes_of notes ≡ fresh_nodes fresh
  nodes_said [] [] say = refl
  nodes_said [] (f ∷ fresh) say = let no : ⊥ = cc in absurd no
  nodes_said (r ∷ notes) [] say = let no : ⊥ = cc in absurd no
  nodes_said (r ∷ notes) (f ∷ fresh) say =
      let first : said.fact_of contents r ≡ f.fact = cc in
      let rest : said.facts_of contents notes ≡ facts_of fresh = cc in
      let more = nodes_said notes fresh rest in
      λ i. (first i).node ∷ more i

  noted_there : (notes : List NodeRecord) (fresh : List Fresh) → said.facts_of contents notes ≡ facts_of fresh
      → map (λ (r : NodeRecord). r.present) notes ≡ map (λ (f : Fresh). f.present) fresh
      → All (λ (r : NodeRecord). r.checked ≡ Some epoch) notes → (n : Node)
      → option_map (kept_by (λ number. slice_get contents number) epoch) (record_of n notes) ≡ noted_of fresh n
  noted_there [] [] say present checked n = refl
  noted_there [] (f ∷ fresh) say present checked n = let no : ⊥ = cc in absurd no
  noted_there (r ∷ notes) [] say present checked n = let no : ⊥ = cc in absurd no
  noted_there (r ∷ notes) (f ∷ fresh) say present checked n =
      let first : said.fact_of contents r ≡ f.fact = cc in
      let rest : said.facts_of contents notes ≡ facts_of fresh = cc in
      let came : r.present ≡ f.present = cc in
      let more : map (λ (r : NodeRecord). r.present) notes ≡ map (λ (f : Fresh). f.present) fresh = cc in
      let now = ap (is_at epoch) (All-head (λ (x : NodeRecord). x.checked ≡ Some epoch) r notes checked) ∙ same_number epoch in
      let is : kept_by (λ number. slice_get contents number) epoch r ≡ noted_record f =
      λ i. record {
        fact = first i;
        status = (came i).status;
        messages = (came i).messages;
        height = (came i).height;
        tight = (came i).tight;
        checked =
            now i;
      } in
      let below = noted_there notes fresh rest more (All-tail (λ (x : NodeRecord). x.checked ≡ Some epoch) r notes checked) n in
      let node : node_eq.eq n r.node ≡ node_eq.eq n f.fact.node = ap (λ (x : Fact). node_eq.eq n x.node) first in
      ap (λ t. option_map (kept_by (λ number. slice_get contents number) epoch) (cond t (Some r) (record_of n notes))) node
      ∙ by r f notes fresh is below (node_eq.eq n f.fact.node)
    where
      by : (r : NodeRecord) (f : Fresh) (notes : List NodeRecord) (fresh : List Fresh) → kept_by (λ number. slice_get contents number) epoch r ≡ noted_record f
          → option_map (kept_by (λ number. slice_get contents number) epoch) (record_of n notes) ≡ noted_of fresh n
          → (t : Bool) → option_map (kept_by (λ number. slice_get contents number) epoch) (cond t (Some r) (record_of n notes))
          ≡ cond t (Some (noted_record f)) (noted_of fresh n)
      by r f notes fresh is below true = ap Some is
      by r f notes fresh is below false = below

-- ---- a store in which facts are noted

module _ (old new : Store) (fresh : List Fresh) (once : AreDifferent (fresh_nodes fresh)) (memory : HasInMemory old.epoch fresh old.kept new.kept) where
  notes_once : AreDifferent (nodes_of memory.noted)
  notes_once = subst AreDifferent (sym (nodes_said new.kept.tables.contents old.epoch memory.noted fresh memory.say)) once

  now_there : (n : Node) → record_of n new.kept.records.records ≡ record_or (record_of n memory.noted) (record_of n old.kept.records.records)
  now_there n = ap (record_of n) memory.records ∙ put_there memory.noted old.kept.records.records notes_once n

  -- a node of which nothing is noted
  pub others_there : (n : Node) → ¬ IsIn n (fresh_nodes fresh) → record_of n new.kept.records.records ≡ record_of n old.kept.records.records
  others_there n outside =
      let none = none_of memory.noted n (λ i. outside (subst (IsIn n) (nodes_said new.kept.tables.contents old.epoch memory.noted fresh memory.say) i)) in
      now_there n ∙ ap (λ o. record_or o (record_of n old.kept.records.records)) none

  module _ (said_old : SaysFacts old) (says : SaysFacts new) (facts : new.kept.tables.records ≡ put_facts (facts_of fresh) old.kept.tables.records) where
    same_others : (n : Node) → ¬ IsIn n (fresh_nodes fresh)
        → option_map (fact_by (contents_in new)) (record_of n old.kept.records.records)
        ≡ option_map (fact_by (contents_in old)) (record_of n old.kept.records.records)
    same_others n outside =
        ap (option_map (fact_by (contents_in new))) (sym (others_there n outside))
        ∙ fact_there new.kept.tables.contents new.kept.records.records new.kept.tables.records says n
        ∙ ap (fact_in n) facts
        ∙ put_all_others fresh old.kept.tables.records n outside
        ∙ sym (fact_there old.kept.tables.contents old.kept.records.records old.kept.tables.records said_old n)

    pub records_noted : (n : Node)
        → option_map (kept_by (contents_in new) old.epoch) (record_of n new.kept.records.records) ≡ noted_or (noted_of fresh n) (store_records old n)
    records_noted n = ap (option_map (kept_by (contents_in new) old.epoch)) (now_there n) ∙ by (record_of n memory.noted) refl
      where
        noted : option_map (kept_by (contents_in new) old.epoch) (record_of n memory.noted) ≡ noted_of fresh n
        noted = noted_there new.kept.tables.contents old.epoch memory.noted fresh memory.say memory.present memory.checked n

        by : (o : Option NodeRecord) → record_of n memory.noted ≡ o
            → option_map (kept_by (contents_in new) old.epoch) (record_or (record_of n memory.noted) (record_of n old.kept.records.records))
            ≡ noted_or (noted_of fresh n) (store_records old n)
        by (Some r) is =
            ap (λ o. option_map (kept_by (contents_in new) old.epoch) (record_or o (record_of n old.kept.records.records))) is
            ∙ ap (λ o. noted_or o (store_records old n)) (sym (ap (option_map (kept_by (contents_in new) old.epoch)) is) ∙ noted)
        by None is =
            let outside : ¬ IsIn n (fresh_nodes fresh) = λ i. none_in memory.noted n is (subst (IsIn n)
            (sym (nodes_said new.kept.tables.contents old.epoch memory.noted fresh memory.say)) i) in
            ap (λ o. option_map (kept_by (contents_in new) old.epoch) (record_or o (record_of n old.kept.records.records))) is
            ∙ same_kept (contents_in new) (contents_in old) old.epoch (record_of n old.kept.records.records) (same_others n outside)
            ∙ ap (λ o. noted_or o (store_records old n)) (sym (ap (option_map (kept_by (contents_in new) old.epoch)) is) ∙ noted)

-- ---- records that are renewed

abbrev renewed_at : ℕ → Option Renewed → NodeRecord → NodeRecord
renewed_at epoch None r = r
renewed_at epoch (Some present) r = renewed present epoch r

none_present : (told : List RenewedNode) (n : Node) → ¬ IsIn n (renewed_nodes told) → present_of told n ≡ None
none_present [] n outside = refl
none_present (x ∷ told) n outside = by (node_eq.eq n x.node) refl (none_present told n (λ i. outside (inr i)))
  where
    by : (t : Bool) → node_eq.eq n x.node ≡ t → present_of told n ≡ None → cond t (Some x.present) (present_of told n) ≡ None
    by true e rest = absurd (outside (inl (one_node n x.node e)))
    by false e rest = rest

own_renewed : (n : Node) (x : RenewedNode) (epoch : ℕ) (records : List NodeRecord) → n ≡ x.node
    → record_of n (renew_record x.node x.present epoch records) ≡ option_map (renewed x.present epoch) (record_of n records)
own_renewed n x epoch records is =
    ap (λ m. record_of m (renew_record x.node x.present epoch records)) is ∙ renew_own x.node x.present epoch records
    ∙ ap (λ m. option_map (renewed x.present epoch) (record_of m records)) (sym is)

renewed_there : (epoch : ℕ) (told : List RenewedNode) (records : List NodeRecord) → AreDifferent (renewed_nodes told) → (n : Node)
    → record_of n (renew_records epoch told records) ≡ option_map (renewed_at epoch (present_of told n)) (record_of n records)
renewed_there epoch [] records once n = map_same (record_of n records)
renewed_there epoch (x ∷ told) records once n = by (node_eq.eq n x.node) refl (renewed_there epoch told (renew_record x.node x.present epoch records) once.1 n)
  where
    by : (t : Bool) → node_eq.eq n x.node ≡ t
        → record_of n (renew_records epoch told (renew_record x.node x.present epoch records))
        ≡ option_map (renewed_at epoch (present_of told n)) (record_of n (renew_record x.node x.present epoch records))
        → record_of n (renew_records epoch told (renew_record x.node x.present epoch records))
        ≡ option_map (renewed_at epoch (cond t (Some x.present) (present_of told n))) (record_of n records)
    by true e rest =
        let is = one_node n x.node e in
        let none = none_present told n (λ i. once.0 (subst (λ m. IsIn m (renewed_nodes told)) is i)) in
        rest ∙ ap (λ o. option_map (renewed_at epoch o) (record_of n (renew_record x.node x.present epoch records))) none
        ∙ sym (map_same (record_of n (renew_record x.node x.present epoch records))) ∙ own_renewed n x epoch records is
    by false e rest = rest ∙ ap (option_map (renewed_at epoch (present_of told n))) (renew_others x.node x.present epoch n (not_one n x.node e) records)

-- what they say then
kept_renewed : (contents : Contents) (epoch : ℕ) (p : Option Renewed) (o : Option NodeRecord)
    → option_map (kept_by contents epoch) (option_map (renewed_at epoch p) o) ≡ option_map (renewed_if p) (option_map (kept_by contents epoch) o)
kept_renewed contents epoch p None = refl
kept_renewed contents epoch None (Some r) = refl
kept_renewed contents epoch (Some present) (Some r) =
    let now = same_number epoch in
    λ i. Some (record {
      fact = fact_by contents r;
      status = present.status;
      messages = present.messages;
      height = present.height;
      tight = present.tight;
      checked = now i;
    })

module _ (old new : Store) (told : List RenewedNode) (once : AreDifferent (renewed_nodes told)) (same : HoldsOn old new)
    (records : new.kept.records.records ≡ renew_records old.epoch told old.kept.records.records) where
  records_renewed : (n : Node) → store_records new n ≡ option_map (renewed_if (present_of told n))
      (option_map (kept_by (contents_in old) old.epoch) (record_of n old.kept.records.records))
  records_renewed n =
      (λ i. option_map (kept_by (λ number. slice_get (same.tables i).contents number) (same.epoch i)) (record_of n (records i)))
      ∙ ap (option_map (kept_by (contents_in old) old.epoch)) (renewed_there old.epoch told old.kept.records.records once n)
      ∙ kept_renewed (contents_in old) old.epoch (present_of told n) (record_of n old.kept.records.records)

-- ---- both

pub noted_in : (fresh : List Fresh) (n : Node) (k : KeptRecord) → noted_of fresh n ≡ Some k → IsIn n (fresh_nodes fresh)
noted_in [] n k e = let no : ⊥ = cc in absurd no
noted_in (f ∷ fresh) n k e = by (node_eq.eq n f.fact.node) refl e (noted_in fresh n k)
  where
    by : (t : Bool) → node_eq.eq n f.fact.node ≡ t → cond t (Some (noted_record f)) (noted_of fresh n) ≡ Some k
        → (noted_of fresh n ≡ Some k → IsIn n (fresh_nodes fresh)) → IsIn n (fresh_nodes (f ∷ fresh))
    by true t there rest = inl (one_node n f.fact.node t)
    by false t there rest = inr (rest there)

module _ (fresh : List Fresh) (told : List RenewedNode) (apart : (n : Node) → IsIn n (fresh_nodes fresh) → IsIn n (renewed_nodes told) → ⊥) where
  -- what is noted is not renewed
  with_both : (n : Node) (kept : Option KeptRecord)
      → option_map (renewed_if (present_of told n)) (noted_or (noted_of fresh n) kept)
      ≡ noted_or (noted_of fresh n) (option_map (renewed_if (present_of told n)) kept)
  with_both n kept = by (noted_of fresh n) refl
    where
      by : (o : Option KeptRecord) → noted_of fresh n ≡ o
          → option_map (renewed_if (present_of told n)) (noted_or o kept) ≡ noted_or o (option_map (renewed_if (present_of told n)) kept)
      by None is = refl
      by (Some k) is = ap (λ p. Some (renewed_if p k)) (none_present told n (apart n (noted_in fresh n k is)))

  -- The records are those that were, with what is told.
  pub records_told : (old mid new : Store) → AreDifferent (renewed_nodes told)
      → ((n : Node) → option_map (kept_by (contents_in mid) mid.epoch) (record_of n mid.kept.records.records)
      ≡ noted_or (noted_of fresh n) (store_records old n))
      → HoldsOn mid new → new.kept.records.records ≡ renew_records mid.epoch told mid.kept.records.records
      → ◌≡◌ {A = KeptRecords} (store_records new) (records_with fresh told (store_records old))
  records_told old mid new once noted same records = λ i. λ n. at n i
    where
      at : (n : Node) → store_records new n ≡ records_with fresh told (store_records old) n
      at n = records_renewed mid new told once same records n ∙ ap (option_map (renewed_if (present_of told n))) (noted n) ∙ with_both n (store_records old n)

-- ---- what may be renewed

pub same_record_may : (kept next : Holding) (n : Node) (present : Renewed) → record_of n next.records.records ≡ record_of n kept.records.records
    → MayRenew kept n present → MayRenew next n present
same_record_may kept next n present same may = record {
  has = subst IsSome (sym same) may.has;
  least = may.least;
  most = may.most;
  valued = λ r at. may.valued r (sym same ∙ at);
}

-- it still may, once another was renewed, or the same
pub renewed_may : (kept next : Holding) (n m : Node) (present other : Renewed) (epoch : ℕ)
    → next.records.records ≡ renew_record m other epoch kept.records.records → MayRenew kept n present → MayRenew next n present
renewed_may kept next n m present other epoch records may = by (node_eq.eq n m) refl
  where
    some_on : (o : Option NodeRecord) → IsSome o → IsSome (option_map (renewed other epoch) o)
    some_on None some = some
    some_on (Some r) some = refl

    was : (o : Option NodeRecord) (r : NodeRecord) → option_map (renewed other epoch) o ≡ Some r → (x : NodeRecord) × (o ≡ Some x) × (x.value ≡ r.value)
    was None r e = let no : ⊥ = cc in absurd no
    was (Some x) r e = (x, refl, ap (λ (y : NodeRecord). y.value) (same_some e))

    by : (t : Bool) → node_eq.eq n m ≡ t → MayRenew next n present
    by true e =
        let there = ap (record_of n) records ∙ own_renewed n (record { node = m; present = other }) epoch kept.records.records (one_node n m e) in
        record {
          has = subst IsSome (sym there) (some_on (record_of n kept.records.records) may.has);
          least = may.least;
          most = may.most;
          valued = λ r at.
              let x = was (record_of n kept.records.records) r (sym there ∙ at) in
              subst (λ (v : Option ℕ). IsNone v ↔ (present.status ≡ Abort)) x.2 (may.valued x.0 x.1);
        }
    by false e = same_record_may kept next n present (ap (record_of n) records ∙ renew_others m other epoch n (not_one n m e) kept.records.records) may
