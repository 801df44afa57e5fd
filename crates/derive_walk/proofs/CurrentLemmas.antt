-- What a record gives over the results so far, where what is kept of nodes is true: its node's result, and its needs.
use Rattle.std.proofs.Common.{◌≡◌, ℕ, suc, ◌≤◌, ◌<◌, ◌⊎◌, List, [], ◌∷◌, inl, inr, sym, ap, ◌∙◌, subst, refl, arith, map, is_some, true, false}
use Rattle.std.specs.Prelude.{Option, Some, None, IsNone, IsSome, option_map}
use Rattle.object_values.specs.declared.nodes.Node.{Node}
use Rattle.object_values.specs.declared.facts.FactDep.{FactDep}
use Rattle.object_values.specs.declared.views.View.{View}
use Rattle.meaning_texts.specs.Limits.{height_limit}
use Rattle.meaning_texts.specs.Lists.{IsIn}
use Rattle.meaning_texts.proofs.Lemmas.{same_some, in_map, from_map}
use Rattle.meaning_tasks.specs.Nodes.{Fits, reached_type}
use Rattle.meaning_tasks.specs.Laws.{AgreeAt}
use Rattle.meaning_tasks.specs.Needs.{Needs, nodes_of}
use Rattle.meaning_tasks.proofs.Lemmas.{one_list_of_needs}
use Rattle.meaning_derive.specs.Derive.{derive, HasHeight}
use Rattle.meaning_derive.proofs.Lemmas.{derived_sound, valued_exactly}
use Rattle.meaning_true.specs.Checked.{RecordHolds, IsDepAt}
use Rattle.meaning_true.specs.Facts.{RecordIsTrue, needs_in, counted_in, view_of_record}
use Rattle.meaning_true.specs.Knowing.{KeptRecord, IsPresent}
use Rattle.meaning_true.proofs.Lemmas.{renews, counted_sub, dep_of, of_dep, view_same}
use Rattle.derive_walk.specs.declared.done.Done.{Done}
use Rattle.derive_walk.specs.declared.trial.Current.{Current}
use Rattle.derive_walk.specs.declared.walk.Walk.{Walk}
use Rattle.derive_walk.specs.Keeping.{IsReadable}
use Rattle.derive_walk.specs.States.{heights_in, HoldsIn}
use Rattle.derive_walk.specs.Tables.{Entries, Waits, done_in, results_of, heights_of, height_in, height_or, height_or_zero, top_of}
use Rattle.derive_walk.specs.Trials.{AreSeenAt, IsCurrent, IsTried, IsValued, top_of_deps}
use Rattle.derive_walk.specs.Walks.{IsDone, IsFormedDone}
use Rattle.derive_walk.specs.Worlds.{World, IsWorld, seen_in, IsNeedIn}
use Rattle.derive_walk.proofs.NeedLemmas.{done_is_derived}
use Rattle.derive_walk.proofs.Tables.{height_if_done}
use Rattle.derive_walk.proofs.TopLemmas.{below_top, one_at_top}

-- ---- options

pub none_is : {A : Type 0} (o : Option A) → IsNone o → o ≡ None
none_is None h = refl
none_is (Some x) h = cc

pub is_none_so : {A : Type 0} (o : Option A) → o ≡ None → IsNone o
is_none_so None e = refl
is_none_so (Some x) e = cc

-- ---- the deps' nodes

dep_nodes : (deps : List FactDep) → map (λ (d : FactDep). d.node) deps ≡ nodes_of (needs_in deps)
dep_nodes [] = refl
dep_nodes (d ∷ deps) = ap (λ l. d.node ∷ l) (dep_nodes deps)

-- the heights of what is done
abbrev heights_done : Entries → Node → Option ℕ
heights_done done = heights_of done []

-- ---- a record whose deps are as they were seen

module _ (w : World) (walk : Walk) (holds : HoldsIn w walk) (n : Node) (k : KeptRecord) (kept : w.records n ≡ Some k)
    (seen : AreSeenAt walk.done k.fact.deps) where
  is_true : RecordIsTrue w.graph w.outcomes k.fact
  is_true = (holds.knows.each n k kept).1

  of_node : k.fact.node ≡ n
  of_node = (holds.knows.each n k kept).0

  dep_height : (d : FactDep) (i : IsIn d k.fact.deps) → heights_done walk.done d.node ≡ Some (seen d i).entry.height
  dep_height d i = height_if_done walk.done [] d.node (seen d i).entry (seen d i).is

  -- each is at its height, which is no greater than the top
  dep_at : (d : FactDep) → IsIn d k.fact.deps
      → IsDepAt w.graph w.sources w.outcomes d (height_or_zero (heights_done walk.done d.node)) × (height_or_zero (heights_done walk.done d.node) ≤ top_of_deps walk.done k.fact.deps)
  dep_at d i =
      let at = seen d i in
      let e : height_or_zero (heights_done walk.done d.node) ≡ at.entry.height = ap height_or_zero (dep_height d i) in
      let done = holds.done.each d.node at.entry at.is in
      let below = below_top (heights_done walk.done) (map (λ (x : FactDep). x.node) k.fact.deps) d.node at.entry.height (in_map (λ (x : FactDep). x.node) d k.fact.deps i) (dep_height d i) in (
        record {
          has = subst (HasHeight w.graph w.sources w.outcomes d.node) (sym e) done.has;
          seen = ap (option_map (λ (v : View). v.value)) (done_is_derived w walk holds d.node at.entry at.is) ∙ ap Some at.value;
        },
        subst (λ h. h ≤ top_of_deps walk.done k.fact.deps) (sym e) below,
      )

  one_tight : (top_of_deps walk.done k.fact.deps ≡ 0) ⊎ ((d : FactDep) × IsIn d k.fact.deps × (height_or_zero (heights_done walk.done d.node) ≡ top_of_deps walk.done k.fact.deps))
  one_tight = elim (one_at_top (heights_done walk.done) (map (λ (x : FactDep). x.node) k.fact.deps)) [
    | inl z ↦ inl z
    | inr m ↦
        let d = from_map (λ (x : FactDep). x.node) m.0 k.fact.deps m.1 in
        inr (d.0, d.1, ap (λ z. height_or_zero (heights_done walk.done z)) (sym d.2) ∙ ap height_or_zero m.2)
  ]

  -- it holds one above the top
  renewed : top_of_deps walk.done k.fact.deps < height_limit
      → RecordHolds w.graph w.sources w.outcomes k.fact (view_of_record (seen_in w) k.fact) (suc (top_of_deps walk.done k.fact.deps))
  renewed low = renews w.graph w.sources w.outcomes k.fact is_true (λ m. height_or_zero (heights_done walk.done m)) (top_of_deps walk.done k.fact.deps) low dep_at one_tight

  -- the table has what is derived of each that counts
  agree : AgreeAt (results_of walk.done) (seen_in w) (counted_in k.fact.deps)
  agree m i =
      let d = dep_of k.fact.deps m (counted_sub (needs_in k.fact.deps) m i) in
      let at = seen d.0 d.1 in
      let here : results_of walk.done d.0.node ≡ seen_in w d.0.node =
      ap (option_map (λ (x : Done). x.view)) at.is ∙ sym (done_is_derived w walk holds d.0.node at.entry at.is) in
      ap (results_of walk.done) d.2 ∙ here ∙ ap (seen_in w) (sym d.2)

  same_view : view_of_record (results_of walk.done) k.fact ≡ view_of_record (seen_in w) k.fact
  same_view = view_same (results_of walk.done) (seen_in w) k.fact agree

  -- so what it gives is the node's result
  gives : (low : top_of_deps walk.done k.fact.deps < height_limit)
      → derive w.graph w.sources w.outcomes (suc (top_of_deps walk.done k.fact.deps)) n ≡ Some (view_of_record (results_of walk.done) k.fact)
  gives low =
      ap (derive w.graph w.sources w.outcomes (suc (top_of_deps walk.done k.fact.deps))) (sym of_node) ∙ (renewed low).is ∙ ap Some (sym same_view)

  gives_valued : top_of_deps walk.done k.fact.deps < height_limit → IsValued (view_of_record (results_of walk.done) k.fact)
  gives_valued low =
      let view = view_of_record (results_of walk.done) k.fact in
      let valued = valued_exactly view (derived_sound w.graph w.sources w.outcomes (suc (top_of_deps walk.done k.fact.deps)) n view (gives low)) in
      (λ none. valued.0 (none_is view.value none), λ abort. is_none_so view.value (valued.1 abort))

  pub seen_needs : top_of_deps walk.done k.fact.deps < height_limit → (m : Node) → IsNeedIn w n m → IsSome (done_in walk.done m)
  seen_needs low m need =
      let listed : Needs w.graph n (seen_in w) (nodes_of (needs_in k.fact.deps)) = subst (λ z. Needs w.graph z (seen_in w) (nodes_of (needs_in k.fact.deps))) of_node (renewed low).needs in
      let same : need.needs ≡ nodes_of (needs_in k.fact.deps) = one_list_of_needs w.graph n (seen_in w) need.needs (nodes_of (needs_in k.fact.deps)) need.listed listed in
      let d = dep_of k.fact.deps m (subst (λ l. IsIn m l) same need.one) in
      ap (λ z. is_some (done_in walk.done z)) d.2 ∙ ap is_some (seen d.0 d.1).is

-- ---- a current record

module _ (w : World) (walk : Walk) (holds : HoldsIn w walk) (n : Node) (k : KeptRecord) (kept : w.records n ≡ Some k) (c : Current)
    (current : IsCurrent walk.done k.fact c) where
  low_top : top_of_deps walk.done k.fact.deps < height_limit
  low_top = omega (arith, current.height, current.high)

  -- it gives the node's result
  pub current_is_done : IsDone w n c.done
  current_is_done =
      let top = top_of_deps walk.done k.fact.deps in
      let record_holds = renewed w walk holds n k kept current.seen low_top in
      let of = of_node w walk holds n k kept current.seen in
      record {
        fits = subst (Fits w.graph) of (is_true w walk holds n k kept current.seen).fits;
        high = current.high;
        is = ap (λ h. derive w.graph w.sources w.outcomes h n) current.height ∙ gives w walk holds n k kept current.seen low_top ∙ ap Some (sym current.view);
        has = subst (HasHeight w.graph w.sources w.outcomes n) (sym current.height) (subst (λ z. HasHeight w.graph w.sources w.outcomes z (suc top)) of record_holds.has);
      }

  -- it is one of the present results
  pub current_is_present : IsPresent w.graph w.sources w.outcomes k.fact
  current_is_present = let h = renewed w walk holds n k kept current.seen low_top in record { needs = h.needs; seen = h.seen }

  -- its needs by all results stand in the table
  pub current_needs : (m : Node) → IsNeedIn w n m → IsSome (done_in walk.done m)
  current_needs = seen_needs w walk holds n k kept current.seen low_top

-- whatever is kept, what it gives is formed
pub current_is_formed : (w : World) → IsWorld w → (n : Node) (k : KeptRecord) → w.records n ≡ Some k → (done : Entries) (c : Current) → IsCurrent done k.fact c → IsFormedDone w.graph n c.done
current_is_formed w is n k kept done c current =
    let readable : IsReadable w.graph n k = is.readable n k kept in
    let value : c.done.view.value ≡ k.fact.value = ap (λ (v : View). v.value) current.view in
    record {
      result = record {
        result = record {
          fits = subst (Fits w.graph) readable.is readable.fits.node;
          valued = (λ none. current.valued.0 (is_none_so c.done.view.value none), λ abort. none_is c.done.view.value (current.valued.1 abort));
          kind = λ t kind v typed named e. readable.fits.kind t kind v (ap (reached_type w.graph) readable.is ∙ typed) named (sym value ∙ e);
        };
        short = λ v e. readable.short v (sym value ∙ e);
      };
      low = omega (arith, current.height);
      high = current.high;
    }

-- ---- a record that isn't current

-- without those that wait the top is no higher
top_without : (done : Entries) (waits : Waits) (nodes : List Node) → top_of (heights_of done []) nodes ≤ top_of (heights_of done waits) nodes
top_without done waits [] = omega arith
top_without done waits (n ∷ nodes) =
    let below = top_without done waits nodes in
    let one = without (option_map (λ (d : Done). d.height) (done_in done n)) in
    omega (arith, below, one)
  where
    without : (o : Option ℕ) → height_or_zero (height_or o None) ≤ height_or_zero (height_or o (height_in waits n))
    without None = omega arith
    without (Some h) = omega arith

-- where each of the node's needs is done and none is as high as the limit it isn't one of the present results
pub not_current_lacks : (w : World) (walk : Walk) → HoldsIn w walk → (n : Node) (k : KeptRecord) → w.records n ≡ Some k → IsTried walk.done k.fact None
    → (needs : List Node) → Needs w.graph n (seen_in w) needs → ((m : Node) → IsIn m needs → IsSome (done_in walk.done m)) → top_of (heights_in walk) needs < height_limit
    → IsPresent w.graph w.sources w.outcomes k.fact → ⊥
not_current_lacks w walk holds n k kept tried needs listed each low present = by_case tried
  where
    same : nodes_of (needs_in k.fact.deps) ≡ needs
    same = one_list_of_needs w.graph n (seen_in w) (nodes_of (needs_in k.fact.deps)) needs
        (subst (λ z. Needs w.graph z (seen_in w) (nodes_of (needs_in k.fact.deps))) (holds.knows.each n k kept).0 present.needs) listed

    low_top_of : top_of_deps walk.done k.fact.deps < height_limit
    low_top_of =
        let e : top_of_deps walk.done k.fact.deps ≡ top_of (heights_of walk.done []) needs = ap (top_of (heights_of walk.done [])) (dep_nodes k.fact.deps ∙ same) in
        let t = top_without walk.done walk.waiting needs in
        omega (arith, e, t, low)

    by_case : IsTried walk.done k.fact None → ⊥
    by_case (inl lacks) =
        let done = each lacks.dep.node (subst (λ l. IsIn lacks.dep.node l) same (of_dep k.fact.deps lacks.dep lacks.one)) in
        let no : true ≡ false = sym done ∙ ap is_some lacks.none in
        cc
    by_case (inr (inl differs)) =
        differs.other (same_some (sym (ap (option_map (λ (v : View). v.value)) (done_is_derived w walk holds differs.dep.node differs.entry differs.is)) ∙ present.seen differs.dep differs.one))
    by_case (inr (inr stuck)) = elim stuck.why [
      | inl high ↦ omega (arith, low_top_of, high)
      | inr unvalued ↦ unvalued (gives_valued w walk holds n k kept stuck.seen low_top_of)
    ]
