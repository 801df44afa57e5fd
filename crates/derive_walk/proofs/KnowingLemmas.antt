-- The records, once what a walk tells of them is kept: each is true, and those that are checked hold.
use Rattle.std.proofs.Common.{◌≡◌, ◌≤◌, ◌⊎◌, Bool, true, false, cond, List, [], ◌∷◌, inl, inr, sym, ap, ◌∙◌, subst, refl}
use Rattle.std.specs.Prelude.{◌≢◌, Option, Some, None, IsSome, option_map}
use Rattle.object_values.specs.declared.nodes.Node.{Node}
use Rattle.object_values.specs.contracts.nodes.NodePartialEq.TheImpl.{ghosts as node_eq}
use Rattle.object_values.specs.Exact.{node_exact}
use Rattle.object_values.specs.declared.facts.Fact.{Fact}
use Rattle.object_values.specs.declared.facts.FactDep.{FactDep}
use Rattle.object_values.specs.declared.facts.Fresh.{Fresh}
use Rattle.object_values.specs.declared.facts.RenewedNode.{RenewedNode}
use Rattle.object_values.specs.declared.records.Renewed.{Renewed}
use Rattle.meaning_texts.specs.Limits.{height_limit}
use Rattle.meaning_texts.specs.Lists.{IsIn}
use Rattle.meaning_texts.proofs.Lemmas.{some_or_none, value_of_some, same_some}
use Rattle.meaning_tasks.specs.Needs.{nodes_of}
use Rattle.meaning_derive.specs.Derive.{derive, HasHeight}
use Rattle.meaning_true.specs.Checked.{RecordHolds}
use Rattle.meaning_true.specs.Facts.{RecordIsTrue, needs_in}
use Rattle.meaning_true.specs.Knowing.{KeptRecord, KeptRecords, IsChecked, IsPresent, Knows, TellsTight, view_kept}
use Rattle.meaning_true.proofs.Lemmas.{of_dep}
use Rattle.derive_walk.specs.declared.done.Done.{Done}
use Rattle.derive_walk.specs.Knowing.{noted_of, present_of, renewed_if, noted_or, records_with}
use Rattle.derive_walk.specs.Tables.{done_in}
use Rattle.derive_walk.specs.Told.{fresh_nodes, renewed_nodes, noted_record, renewed_record}
use Rattle.derive_walk.specs.Walks.{Walked, IsRight}
use Rattle.derive_walk.specs.Worlds.{World, IsNeedIn}

-- ---- what is told of a node

noted_is : (fresh : List Fresh) (n : Node) (k : KeptRecord) → noted_of fresh n ≡ Some k → (f : Fresh) × IsIn f fresh × (n ≡ f.fact.node) × (k ≡ noted_record f)
noted_is [] n k e = cc
noted_is (f ∷ fresh) n k e = by_test (node_eq.eq n f.fact.node) refl e (λ q. noted_is fresh n k q)
  where
    by_test : (b : Bool) → node_eq.eq n f.fact.node ≡ b → cond b (Some (noted_record f)) (noted_of fresh n) ≡ Some k
        → (noted_of fresh n ≡ Some k → (x : Fresh) × IsIn x fresh × (n ≡ x.fact.node) × (k ≡ noted_record x))
        → (x : Fresh) × IsIn x (f ∷ fresh) × (n ≡ x.fact.node) × (k ≡ noted_record x)
    by_test true t q below = (f, inl refl, (node_exact n f.fact.node).0 t, same_some (sym q))
    by_test false t q below = let r = below q in (r.0, inr r.1, r.2, r.3)

noted_there : (fresh : List Fresh) (n : Node) → IsIn n (fresh_nodes fresh) → IsSome (noted_of fresh n)
noted_there [] n i = absurd i
noted_there (f ∷ fresh) n i = by_test (node_eq.eq n f.fact.node) refl i (λ j. noted_there fresh n j)
  where
    by_test : (b : Bool) → node_eq.eq n f.fact.node ≡ b → IsIn n (fresh_nodes (f ∷ fresh)) → (IsIn n (fresh_nodes fresh) → IsSome (noted_of fresh n))
        → IsSome (cond b (Some (noted_record f)) (noted_of fresh n))
    by_test true t j below = refl
    by_test false t (inl q) below = let yes : node_eq.eq n f.fact.node ≡ true = (node_exact n f.fact.node).1 q in cc
    by_test false t (inr j) below = below j

present_is : (renewed : List RenewedNode) (n : Node) (p : Renewed) → present_of renewed n ≡ Some p
    → (r : RenewedNode) × IsIn r renewed × (n ≡ r.node) × (p ≡ r.present)
present_is [] n p e = cc
present_is (r ∷ renewed) n p e = by_test (node_eq.eq n r.node) refl e (λ q. present_is renewed n p q)
  where
    by_test : (b : Bool) → node_eq.eq n r.node ≡ b → cond b (Some r.present) (present_of renewed n) ≡ Some p
        → (present_of renewed n ≡ Some p → (x : RenewedNode) × IsIn x renewed × (n ≡ x.node) × (p ≡ x.present))
        → (x : RenewedNode) × IsIn x (r ∷ renewed) × (n ≡ x.node) × (p ≡ x.present)
    by_test true t q below = (r, inl refl, (node_exact n r.node).0 t, same_some (sym q))
    by_test false t q below = let x = below q in (x.0, inr x.1, x.2, x.3)

present_there : (renewed : List RenewedNode) (n : Node) → IsIn n (renewed_nodes renewed) → IsSome (present_of renewed n)
present_there [] n i = absurd i
present_there (r ∷ renewed) n i = by_test (node_eq.eq n r.node) refl i (λ j. present_there renewed n j)
  where
    by_test : (b : Bool) → node_eq.eq n r.node ≡ b → IsIn n (renewed_nodes (r ∷ renewed)) → (IsIn n (renewed_nodes renewed) → IsSome (present_of renewed n))
        → IsSome (cond b (Some r.present) (present_of renewed n))
    by_test true t j below = refl
    by_test false t (inl q) below = let yes : node_eq.eq n r.node ≡ true = (node_exact n r.node).1 q in cc
    by_test false t (inr j) below = below j

node_of_renewed : (renewed : List RenewedNode) (n : Node) → IsIn n (renewed_nodes renewed) → (r : RenewedNode) × IsIn r renewed × (n ≡ r.node)
node_of_renewed [] n i = absurd i
node_of_renewed (r ∷ renewed) n (inl e) = (r, inl refl, e)
node_of_renewed (r ∷ renewed) n (inr i) = let x = node_of_renewed renewed n i in (x.0, inr x.1, x.2)

kept_is : (kept : Option KeptRecord) (p : Option Renewed) (k : KeptRecord) → option_map (renewed_if p) kept ≡ Some k
    → (x : KeptRecord) × (kept ≡ Some x) × (k ≡ renewed_if p x)
kept_is None p k e = cc
kept_is (Some x) p k e = (x, refl, same_some (sym e))

still_checked : (p : Option Renewed) (k : KeptRecord) → k.checked ≡ true → (renewed_if p k).checked ≡ true
still_checked None k e = e
still_checked (Some present) k e = refl

-- ---- the records, with what is told of them

module _ (fresh : List Fresh) (renewed : List RenewedNode) (records : KeptRecords) where
  abbrev now : KeptRecords
  now = records_with fresh renewed records

  -- what is noted
  abbrev IsNoted : Node → KeptRecord → Type 0
  IsNoted n k = (f : Fresh) × IsIn f fresh × (n ≡ f.fact.node) × (k ≡ noted_record f)

  -- what a record came to
  abbrev CameTo : Node → KeptRecord → KeptRecord → Type 0
  CameTo n kept k = (r : RenewedNode) × IsIn r renewed × (n ≡ r.node) × (k ≡ renewed_record r.present kept)

  -- a record that was there, as it was or as it came to be
  abbrev WasThere : Node → KeptRecord → Type 0
  WasThere n k = (kept : KeptRecord) × (records n ≡ Some kept) × (CameTo n kept k ⊎ (k ≡ kept))

  -- each is noted, or was there
  each_is : (n : Node) (k : KeptRecord) → now n ≡ Some k → IsNoted n k ⊎ WasThere n k
  each_is n k e = by_note (noted_of fresh n) refl e
    where
      by_present : (kept : KeptRecord) (p : Option Renewed) → present_of renewed n ≡ p → k ≡ renewed_if p kept → CameTo n kept k ⊎ (k ≡ kept)
      by_present kept None q is = inr is
      by_present kept (Some p) q is = let r = present_is renewed n p q in inl (r.0, r.1, r.2, is ∙ ap (λ x. renewed_record x kept) r.3)

      by_note : (o : Option KeptRecord) → noted_of fresh n ≡ o → noted_or o (option_map (renewed_if (present_of renewed n)) (records n)) ≡ Some k
          → IsNoted n k ⊎ WasThere n k
      by_note (Some x) q is = inl (noted_is fresh n k (q ∙ is))
      by_note None q is =
          let kept = kept_is (records n) (present_of renewed n) k is in
          inr (kept.0, kept.1, by_present kept.0 (present_of renewed n) refl kept.2)

  -- ---- which of them are checked

  noted_checked : (n : Node) (k : KeptRecord) → noted_of fresh n ≡ Some k → IsChecked now n
  noted_checked n k e =
      let f = noted_is fresh n k e in
      record {
        kept = k;
        is = ap (λ o. noted_or o (option_map (renewed_if (present_of renewed n)) (records n))) e;
        checked = ap (λ (x : KeptRecord). x.checked) f.3;
      }

  came_checked : (n : Node) (k : KeptRecord) → records n ≡ Some k → (renewed_if (present_of renewed n) k).checked ≡ true → IsChecked now n
  came_checked n k e checked = elim (some_or_none (noted_of fresh n)) [
    | inl x ↦ noted_checked n x.0 x.1
    | inr none ↦ record {
      kept = renewed_if (present_of renewed n) k;
      is = ap (λ o. noted_or o (option_map (renewed_if (present_of renewed n)) (records n))) none ∙ ap (option_map (renewed_if (present_of renewed n))) e;
      checked = checked;
    }
  ]

  -- those that were
  pub checked_on : (n : Node) → IsChecked records n → IsChecked now n
  checked_on n c = came_checked n c.kept c.is (still_checked (present_of renewed n) c.kept c.checked)

  -- those of which something is noted
  pub fresh_checked : (n : Node) → IsIn n (fresh_nodes fresh) → IsChecked now n
  fresh_checked n i = let k = value_of_some (noted_of fresh n) (noted_there fresh n i) in noted_checked n k.0 k.1

  -- and those that came to something
  pub renewed_checked : (n : Node) (k : KeptRecord) → records n ≡ Some k → IsIn n (renewed_nodes renewed) → IsChecked now n
  renewed_checked n k e i =
      let p = value_of_some (present_of renewed n) (present_there renewed n i) in
      came_checked n k e (ap (λ o. (renewed_if o k).checked) p.1)

-- ---- after a walk that is right

module _ (w : World) (walked : Walked) (right : IsRight w walked) where
  abbrev later : KeptRecords
  later = records_with walked.fresh walked.renewed w.records

  -- each node with steps that has a result
  done_checked : (n : Node) (d : Done) → done_in walked.done n ≡ Some d → n.steps ≢ [] → IsChecked later n
  done_checked n d e stepped = elim (right.told.all n d e stepped) [
    | inl c ↦ checked_on walked.fresh walked.renewed w.records n c
    | inr told ↦ elim told [
      | inl i ↦ fresh_checked walked.fresh walked.renewed w.records n i
      | inr i ↦
          let r = node_of_renewed walked.renewed n i in
          let so = right.told.kept r.0 r.1 in
          renewed_checked walked.fresh walked.renewed w.records n so.kept (ap w.records r.2 ∙ so.has) i
    ]
  ]

  abbrev IsClosedNode : Node → Type 0
  IsClosedNode m = (m.steps ≡ []) ⊎ IsChecked later m

  done_closed : (n : Node) (d : Done) → done_in walked.done n ≡ Some d → IsClosedNode n
  done_closed n d e = by_steps n.steps refl
    where
      by_steps : (steps : List _) → n.steps ≡ steps → IsClosedNode n
      by_steps [] none = inl none
      by_steps (x ∷ steps) some = inr (done_checked n d e (λ none. let no : ⊥ = cc in no))

  needs_closed : (n : Node) → ((m : Node) → IsNeedIn w n m → IsSome (done_in walked.done m)) → (fact : Fact) → fact.node ≡ n
      → IsPresent w.graph w.sources w.outcomes fact → (d : FactDep) → IsIn d fact.deps → IsClosedNode d.node
  needs_closed n each fact node present d i =
      let one : IsNeedIn w fact.node d.node = record { needs = nodes_of (needs_in fact.deps); listed = present.needs; one = of_dep fact.deps d i } in
      let need : IsNeedIn w n d.node = subst (λ z. IsNeedIn w z d.node) node one in
      let x = value_of_some (done_in walked.done d.node) (each d.node need) in
      done_closed d.node x.0 x.1

  -- ---- what is noted

  module _ (f : Fresh) (i : IsIn f walked.fresh) where
    noted_holds : RecordHolds w.graph w.sources w.outcomes f.fact (view_kept (noted_record f)) f.present.height
    noted_holds =
        let so = right.told.noted f i in
        let done = right.done.each f.fact.node so.entry so.is in
        let present = right.rightly.present f i in
        let comes = so.comes in
        let view : view_kept (noted_record f) ≡ so.entry.view = λ j. record { value = so.value j; status = comes.status j; messages = comes.messages j } in
        record {
          needs = present.needs;
          seen = present.seen;
          value = refl;
          high = subst (λ h. h ≤ height_limit) (sym so.comes.height) done.high;
          is = ap (λ h. derive w.graph w.sources w.outcomes h f.fact.node) so.comes.height ∙ done.is ∙ ap Some (sym view);
          has = subst (HasHeight w.graph w.sources w.outcomes f.fact.node) (sym so.comes.height) done.has;
        }

    -- a record of its node that was checked would be present
    not_checked : ¬ IsChecked w.records f.fact.node
    not_checked c =
        let holds = right.knows.holds f.fact.node c.kept c.is c.checked in
        right.rightly.anew f i c.kept c.is (record { needs = holds.needs; seen = holds.seen })

    noted_closed : (d : FactDep) → IsIn d f.fact.deps → IsClosedNode d.node
    noted_closed =
        let so = right.told.noted f i in
        elim (right.done.needs f.fact.node so.entry so.is) [
          | inl c ↦ absurd (not_checked c)
          | inr each ↦ needs_closed f.fact.node each f.fact refl (right.rightly.present f i)
        ]

  -- ---- what a record came to

  module _ (r : RenewedNode) (i : IsIn r walked.renewed) (k : KeptRecord) (e : w.records r.node ≡ Some k) where
    renewed_holds : RecordHolds w.graph w.sources w.outcomes k.fact (view_kept (renewed_record r.present k)) r.present.height
    renewed_holds =
        let so = right.told.kept r i in
        let done = right.done.each r.node so.entry so.is in
        let present = right.rightly.current r i k e in
        let node : k.fact.node ≡ r.node = (right.knows.each r.node k e).0 in
        let value : k.fact.value ≡ so.entry.view.value = ap (λ (x : KeptRecord). x.fact.value) (same_some (sym e ∙ so.has)) ∙ so.value in
        let height : r.present.height ≡ so.entry.height = so.comes.height in
        let view : view_kept (renewed_record r.present k) ≡ so.entry.view =
        λ j. record { value = value j; status = so.comes.status j; messages = so.comes.messages j } in
        let is : derive w.graph w.sources w.outcomes r.present.height r.node ≡ Some so.entry.view =
        ap (λ h. derive w.graph w.sources w.outcomes h r.node) height ∙ done.is in
        let has : HasHeight w.graph w.sources w.outcomes r.node r.present.height =
        subst (HasHeight w.graph w.sources w.outcomes r.node) (sym height) done.has in
        record {
          needs = present.needs;
          seen = present.seen;
          value = refl;
          high = subst (λ h. h ≤ height_limit) (sym height) done.high;
          is = ap (derive w.graph w.sources w.outcomes r.present.height) node ∙ is ∙ ap Some (sym view);
          has = subst (λ z. HasHeight w.graph w.sources w.outcomes z r.present.height) (sym node) has;
        }

    renewed_closed : (d : FactDep) → IsIn d k.fact.deps → IsClosedNode d.node
    renewed_closed d j =
        let so = right.told.kept r i in
        elim (right.done.needs r.node so.entry so.is) [
          | inl c ↦ kept_closed c (same_some (sym c.is ∙ e))
          | inr each ↦ needs_closed r.node each k.fact (right.knows.each r.node k e).0 (right.rightly.current r i k e) d j
        ]
      where
        kept_closed : (c : IsChecked w.records r.node) → c.kept ≡ k → IsClosedNode d.node
        kept_closed c same = elim (right.knows.closed r.node k e (ap (λ (x : KeptRecord). x.checked) (sym same) ∙ c.checked) d j) [
          | inl none ↦ inl none
          | inr checked ↦ inr (checked_on walked.fresh walked.renewed w.records d.node checked)
        ]

  -- ---- all that is kept then

  abbrev HasBecome : Node → KeptRecord → Type 0
  HasBecome n k = IsNoted walked.fresh walked.renewed w.records n k ⊎ WasThere walked.fresh walked.renewed w.records n k

  became : (n : Node) (k : KeptRecord) → later n ≡ Some k → HasBecome n k
  became n k e = each_is walked.fresh walked.renewed w.records n k e

  is_true : (n : Node) (k : KeptRecord) → HasBecome n k → (k.fact.node ≡ n) × RecordIsTrue w.graph w.outcomes k.fact
  is_true n k (inl f) =
      subst (λ (x : KeptRecord). (x.fact.node ≡ n) × RecordIsTrue w.graph w.outcomes x.fact) (sym f.3) (sym f.2, (right.told.noted f.0 f.1).truth)
  is_true n k (inr kept) =
      subst (λ (x : Fact). (x.node ≡ n) × RecordIsTrue w.graph w.outcomes x) (elim kept.2 [
        | inl r ↦ sym (ap (λ (x : KeptRecord). x.fact) r.3)
        | inr same ↦ sym (ap (λ (x : KeptRecord). x.fact) same)
      ]) (right.knows.each n kept.0 kept.1)

  abbrev Holds : KeptRecord → Type 0
  Holds k = RecordHolds w.graph w.sources w.outcomes k.fact (view_kept k) k.height

  abbrev IsClosed : KeptRecord → Type 0
  IsClosed k = (d : FactDep) → IsIn d k.fact.deps → IsClosedNode d.node

  abbrev Tells : KeptRecord → Type 0
  Tells k = TellsTight w.graph w.sources w.outcomes k

  -- what is so of each
  module _ (P : KeptRecord → Type 0) (of_noted : (f : Fresh) → IsIn f walked.fresh → P (noted_record f))
      (of_renewed : (r : RenewedNode) → IsIn r walked.renewed → (k : KeptRecord) → w.records r.node ≡ Some k → P (renewed_record r.present k))
      (of_kept : (n : Node) (k : KeptRecord) → w.records n ≡ Some k → k.checked ≡ true → P k) where
    of_each : (n : Node) (k : KeptRecord) → HasBecome n k → k.checked ≡ true → P k
    of_each n k (inl f) checked = subst P (sym f.3) (of_noted f.0 f.1)
    of_each n k (inr kept) checked = elim kept.2 [
      | inl r ↦ subst P (sym r.3) (of_renewed r.0 r.1 kept.0 (ap w.records (sym r.2) ∙ kept.1))
      | inr same ↦ subst P (sym same) (of_kept n kept.0 kept.1 (ap (λ (x : KeptRecord). x.checked) (sym same) ∙ checked))
    ]

  still_closed : (n : Node) (k : KeptRecord) → w.records n ≡ Some k → k.checked ≡ true → IsClosed k
  still_closed n k e checked d i = elim (right.knows.closed n k e checked d i) [
    | inl none ↦ inl none
    | inr c ↦ inr (checked_on walked.fresh walked.renewed w.records d.node c)
  ]

  pub told_known : Knows w.graph w.sources w.outcomes later
  told_known = record {
    each = λ n k e. is_true n k (became n k e);
    holds = λ n k e. of_each Holds noted_holds renewed_holds right.knows.holds n k (became n k e);
    closed = λ n k e. of_each IsClosed noted_closed renewed_closed still_closed n k (became n k e);
    tight = λ n k e. of_each Tells right.rightly.tight right.rightly.renewed_tight right.knows.tight n k (became n k e);
  }
