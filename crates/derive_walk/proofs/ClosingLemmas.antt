-- The closing of a node whose needs are done.
use Rattle.std.proofs.Common.{◌≡◌, ℕ, suc, ◌≤◌, ◌<◌, List, [], ◌∷◌, ◌++◌, length, ◌⊎◌, inl, inr, sym, ap, ◌∙◌, subst, refl, arith, length-append}
use Rattle.std.specs.Prelude.{Some, None, IsSome, option_map}
use Rattle.object_values.specs.declared.nodes.Node.{Node}
use Rattle.object_values.specs.declared.views.View.{View}
use Rattle.object_values.specs.declared.calls.Call.{Call}
use Rattle.meaning_texts.specs.Limits.{height_limit}
use Rattle.meaning_texts.specs.Lists.{IsIn}
use Rattle.meaning_texts.proofs.Lemmas.{same_some, in_right}
use Rattle.meaning_tasks.specs.Nodes.{Fits}
use Rattle.meaning_tasks.specs.Calls.{CallOf}
use Rattle.meaning_tasks.specs.Laws.{AgreeAt}
use Rattle.meaning_derive.specs.Chains.{Chain, IsNeed, IsMet}
use Rattle.meaning_derive.specs.Derive.{derive, HasHeight}
use Rattle.meaning_derive.specs.Calls.{Runs}
use Rattle.meaning_derive.proofs.Lemmas.{grows_to, settles_to, height_above, none_by_call, one_run}
use Rattle.node_tasks.specs.declared.needed.Needed.{Needed}
use Rattle.derive_walk.specs.declared.done.Done.{Done}
use Rattle.derive_walk.specs.Tables.{done_in, results_of, top_of}
use Rattle.derive_walk.specs.declared.walk.Walk.{Walk}
use Rattle.derive_walk.specs.Paths.{IsLast, IsLed, IsClosing, AreVisited}
use Rattle.derive_walk.specs.Settled.{HasSettled, NodeHasStopped}
use Rattle.derive_walk.specs.States.{heights_in, IsWaiting, HoldsIn}
use Rattle.derive_walk.specs.Walks.{IsDone}
use Rattle.derive_walk.specs.Worlds.{World, seen_in, IsNeedIn, StopsAtCall}
use Rattle.derive_walk.proofs.Tables.{height_if_done}
use Rattle.derive_walk.proofs.TopLemmas.{each_done, below_top, one_at_top}
use Rattle.derive_walk.proofs.NeedLemmas.{carried, is_need, from_need, waits_at}

-- ---- the last node of the path

module _ (w : World) (walk : Walk) (n : Node) (last : IsLast w walk n) where
  pub on_path : IsIn n walk.path
  on_path = subst (λ l. IsIn n l) (sym last.is) (in_right n last.front (n ∷ []) (inl refl))

  pub last_fits : Fits w.graph n
  last_fits = last.path.fit n on_path

  pub last_is_new : heights_in walk n ≡ None
  last_is_new = last.path.apart n on_path

  -- where the path leads there
  pub met_here : IsLed w walk → IsMet w.graph (seen_in w) walk.root n
  met_here led =
      let few : length (last.front ++ n ∷ []) ≤ height_limit = subst (λ l. length l ≤ height_limit) last.is last.path.few in
      record {
        front = last.front;
        leads = subst (λ l. Chain w.graph (seen_in w) walk.root l) last.is led.leads;
        short = omega (arith, few, length-append last.front (n ∷ []));
      }

  -- a call that it runs, and that has no outcome, is one at which the derivation of the root stops
  pub stops_here : IsLed w walk → (call : Call) → Runs w.graph (seen_in w) n call → w.outcomes call ≡ None → StopsAtCall w walk.root call
  stops_here led call runs outside = record { from = record { node = n; met = met_here led; runs = runs }; outside = outside }

-- ---- needs that are done

module _ (w : World) (walk : Walk) (holds : HoldsIn w walk) (n : Node) {needed : Needed} (height : ℕ) (closing : IsClosing w walk n needed height) where
  pub need_done : (m : Node) → IsIn m closing.needs → (d : Done) × (done_in walk.done m ≡ Some d)
  need_done m i = each_done walk.done closing.needs closing.done m i

  pub all_visited : AreVisited w walk n closing.needs
  all_visited = record {
    listed = closing.listed;
    each = λ m i. let d = need_done m i in subst IsSome (sym (height_if_done walk.done walk.waiting m d.0 d.1)) refl;
  }

  known : (m : Node) → IsIn m closing.needs → IsSome (results_of walk.done m)
  known m i = let d = need_done m i in subst IsSome (sym (ap (option_map (λ (d : Done). d.view)) d.1)) refl

  pub needs_stay : (m : Node) → IsNeedIn w n m → IsSome (done_in walk.done m)
  needs_stay m need = let d = need_done m (from_need w walk holds n closing.needs all_visited m need) in subst IsSome (sym d.1) refl

  -- from the greatest height of the needs on the table agrees with Derive(h) on them
  agrees : (h : ℕ) → top_of (heights_in walk) closing.needs ≤ h → AgreeAt (results_of walk.done) (derive w.graph w.sources w.outcomes h) closing.needs
  agrees h le m i =
      let d = need_done m i in
      let low : d.0.height ≤ h = let z = below_top (heights_in walk) closing.needs m d.0.height i (height_if_done walk.done walk.waiting m d.0 d.1) in omega (arith, z, le) in
      ap (option_map (λ (d : Done). d.view)) d.1 ∙ sym (grows_to w.graph w.sources w.outcomes d.0.height h low m d.0.view (holds.done.each m d.0 d.1).is)

  -- settled: done, one above the greatest height
  pub settled_is_done : Fits w.graph n → (view : View) → HasSettled w n (results_of walk.done) view → IsDone w n (record { view = view; height = height })
  settled_is_done fits view so =
      let h : ℕ = top_of (heights_in walk) closing.needs in
      let up : suc h ≡ height = omega (arith, closing.above) in
      let le : h ≤ height_limit = omega (arith, closing.above, closing.high) in
      let is : derive w.graph w.sources w.outcomes (suc h) n ≡ Some view = settles_to w.graph w.sources w.outcomes h n (results_of walk.done) closing.needs closing.listed (agrees h (omega arith)) known so.call so.outcome so.called so.given view so.settles in
      let one : (h ≡ 0) ⊎ ((m : Node) × IsNeed w.graph (seen_in w) n m × HasHeight w.graph w.sources w.outcomes m h) = elim (one_at_top (heights_in walk) closing.needs) [
        | inl z ↦ inl z
        | inr m ↦ let d = need_done m.0 m.1 in
            let same : d.0.height ≡ h = same_some (sym (height_if_done walk.done walk.waiting m.0 d.0 d.1) ∙ m.2) in
            inr (m.0, is_need w walk holds n closing.needs all_visited m.0 m.1, subst (λ k. HasHeight w.graph w.sources w.outcomes m.0 k) same (holds.done.each m.0 d.0 d.1).has)
      ] in
      record {
        fits = fits;
        high = closing.high;
        is = subst (λ k. derive w.graph w.sources w.outcomes k n ≡ Some view) up is;
        has = subst (λ k. HasHeight w.graph w.sources w.outcomes n k) up (height_above w.graph w.sources w.outcomes n h le (subst IsSome (sym is) refl) one);
      }

  -- its call runs
  pub called_runs : (call : Call) → CallOf w.graph n (results_of walk.done) (Some call) → Runs w.graph (seen_in w) n call
  called_runs call called =
      let c = carried w walk holds n closing.needs all_visited in
      record {
        needs = closing.needs;
        listed = c.needs;
        known = λ m i. subst IsSome (agrees height_limit (omega (arith, closing.above, closing.high)) m i) (known m i);
        called = c.call (Some call) called;
      }

  pub stopped_runs : (call : Call) → NodeHasStopped w n (results_of walk.done) call → Runs w.graph (seen_in w) n call
  stopped_runs call so = called_runs call so.called

  -- and it waits
  pub stopped_waits : Fits w.graph n → (call : Call) → NodeHasStopped w n (results_of walk.done) call → (wanted : List Call) → IsIn call wanted → IsWaiting w (heights_in walk) wanted n height
  stopped_waits fits call so wanted there =
      let runs = stopped_runs call so in
      let low : top_of (heights_in walk) closing.needs < height_limit = omega (arith, closing.above, closing.high) in
      subst (λ k. IsWaiting w (heights_in walk) wanted n k) (sym closing.above)
      (waits_at w walk holds n closing.needs all_visited fits low (none_by_call w.graph w.sources w.outcomes n call runs so.outside) wanted (λ c r. subst (λ z. IsIn z wanted) (one_run w.graph (seen_in w) n call c runs r) there))
