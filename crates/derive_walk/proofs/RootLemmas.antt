-- What a walk from the root shows.
use Rattle.std.proofs.Common.{refl, ◌≡◌, ℕ, List, [], ◌∷◌, ◌++◌, inl, inr, sym, ap, ◌∙◌, subst, arith}
use Rattle.std.specs.Prelude.{Option, Some, None, IsSome, IfSome, Result, Ok, Err, IfOk, option_map}
use Rattle.object_values.specs.declared.nodes.Node.{Node}
use Rattle.object_values.specs.declared.views.View.{View}
use Rattle.object_values.specs.declared.calls.Call.{Call}
use Rattle.meaning_texts.specs.Limits.{height_limit}
use Rattle.meaning_texts.specs.Lists.{IsIn}
use Rattle.meaning_texts.proofs.Lemmas.{some_is_none, value_of_some}
use Rattle.meaning_tasks.specs.Nodes.{Fits}
use Rattle.meaning_derive.specs.Derive.{derive}
use Rattle.meaning_derive.specs.Given.{OutcomesFit}
use Rattle.meaning_derive.specs.Chains.{Chain}
use Rattle.meaning_derive.proofs.Lemmas.{grows_to, none_by_call, none_refused}
use Rattle.derive_walk.specs.declared.done.Done.{Done}
use Rattle.derive_walk.specs.declared.found.Found.{Found}
use Rattle.derive_walk.specs.declared.found.Found.TheVariants.{Answer}
use Rattle.derive_walk.specs.Tables.{done_in, height_in}
use Rattle.derive_walk.specs.Calls.{GivenOutcomes, AreOnce}
use Rattle.derive_walk.specs.declared.walk.Walk.{Walk}
use Rattle.derive_walk.specs.Told.{AreTold, AreToldRightly}
use Rattle.derive_walk.specs.Worlds.{World, IsWorld, seen_in, StopsAtCall}
use Rattle.derive_walk.specs.Founds.{IsFound, NodesFit, IsChain, IsFitChain}
use Rattle.meaning_true.specs.Knowing.{MayLook, the_root}
use Rattle.derive_walk.specs.Walks.{Walked, AreFormedDone, AreFormedCalls, IsFormed, AreDone, AreMet, IsRight, AreFrontier, FindsOrWants}
use Rattle.derive_walk.specs.DerivedHeights.{heights_or}
use Rattle.derive_walk.specs.States.{heights_in, IsFormedIn, HoldsIn, GoesOnFrom}
use Rattle.derive_walk.specs.Looked.{AreLookups, AreTaken, MayBeLooked}
use Rattle.derive_walk.specs.Paths.{IsPath, MayBeOnPath, IsNext, LeadsTo, HasEmptyPath, AfterRoot}
use Rattle.derive_walk.proofs.Tables.{done_or_waiting}
use Rattle.derive_walk.proofs.FormedLemmas.{elements_fit}
use Rattle.derive_walk.proofs.NeedLemmas.{done_is_derived, at_most_limit}
use Rattle.derive_walk.proofs.FallLemmas.{height_is, in_tables, are_falling}
use Rattle.derive_walk.proofs.ChainHeights.{seen_along}

module _ (w : World) (walk : Walk) (holds : HoldsIn w walk) where
  -- each call at which the derivation stops is wanted
  all_wanted : (k : ℕ) → heights_or w walk walk.root ≡ Some k → (call : Call) → StopsAtCall w walk.root call → IsIn call walk.wanted
  all_wanted k e call stops =
      let m = stops.from.node in
      let j = seen_along w walk holds walk.root m k e stops.from.met.front stops.from.met.leads in
      elim (height_is w walk holds m j.0 j.1) [
        | inl r ↦ (let v = value_of_some (derive w.graph w.sources w.outcomes j.0 m) r.0.there in
            some_is_none (seen_in w m) v.0 (grows_to w.graph w.sources w.outcomes j.0 height_limit r.1 m v.0 v.1)
            (none_by_call w.graph w.sources w.outcomes m call stops.from.runs stops.outside))
        | inr q ↦ (holds.waiting m j.0 q.1).call call stops.from.runs
      ]

  -- the root waits
  pub frontier : IsSome (heights_in walk walk.root) → done_in walk.done walk.root ≡ None → AreFrontier w walk.root walk.wanted
  frontier there none =
      let k = value_of_some (heights_in walk walk.root) there in
      elim (done_or_waiting walk.done walk.waiting walk.root k.0 k.1) [
        | inl d ↦ some_is_none (done_in walk.done walk.root) d.0 d.1 none
        | inr q ↦ record {
          only = holds.only;
          each = all_wanted k.0 (in_tables w walk holds walk.root k.0 k.1);
          once = holds.once;
          one = holds.one walk.root k.0 q.1;
          calm = none_refused w.graph (seen_in w) (heights_or w walk) (are_falling w walk holds) walk.root k.0 (in_tables w walk holds walk.root k.0 k.1) (at_most_limit w walk holds walk.root k.0 k.1);
        }
      ]

  -- the root has a result
  answered : (d : Done) → done_in walk.done walk.root ≡ Some d → (view : View) → view ≡ d.view → IsFound w.graph w.sources w.outcomes walk.root (Answer view)
  answered d e view same = done_is_derived w walk holds walk.root d e ∙ ap (λ v. Some v) (sym same)

module _ (w : World) (walk : Walk) where
  -- what is found of a root that was visited
  pub waits_there : IsSome (heights_in walk walk.root) → done_in walk.done walk.root ≡ None → AfterRoot w (HoldsIn w walk) walk None
  waits_there there none = record { fit = tt; placed = λ view no stepped. (let never : ⊥ = cc in absurd never); right = λ holds. frontier w walk holds there none }

  pub answers_there : IsWorld w → IsFormedIn w walk → (d : Done) → done_in walk.done walk.root ≡ Some d → (view : View) → view ≡ d.view
      → AfterRoot w (HoldsIn w walk) walk (Some (Answer view))
  answers_there is formed d e view same = record {
    fit = λ elements valued. elements_fit w walk formed is walk.root view elements formed.root
        (ap (option_map (λ (d : Done). d.view)) e ∙ ap (λ v. Some v) (sym same)) valued;
    placed = λ v has stepped. subst (λ o. IsSome o) (sym e) refl;
    right = λ holds. answered w walk holds d e view same;
  }

  -- by what was so before
  pub trusted : {E P Q : Type 0} → (Q → P) → (result : Result (Option Found) E) → IfOk result (AfterRoot w P walk) → IfOk result (AfterRoot w Q walk)
  trusted from (Ok found) after = record { fit = after.fit; placed = after.placed; right = λ q. after.right (from q) }
  trusted from (Err fault) after = tt

-- ---- the visit of the root

module _ (w : World) (walk : Walk) (start : HasEmptyPath walk) (n : Node) (same : n ≡ walk.root) where
  pub root_leads : HoldsIn w walk → LeadsTo w walk n
  root_leads holds = record {
    holds = holds;
    leads = subst (λ l. Chain w.graph (seen_in w) walk.root (l ++ n ∷ [])) (sym start.path) (sym same, tt);
    may = subst (λ l. MayBeOnPath w walk (l ++ n ∷ [])) (sym start.path) (λ m i. elim i [
      | inl e ↦ subst (λ z. MayLook w.graph w.sources w.outcomes w.records walk.root z) (sym (e ∙ same)) the_root
      | inr none ↦ absurd none
    ]);
  }

  pub root_next : IsFormedIn w walk → heights_in walk walk.root ≡ None → IsNext w walk n
  root_next formed unseen = record {
    formed = formed;
    path = subst (λ l. IsPath w walk (l ++ n ∷ [])) (sym start.path) (record {
      fit = λ m i. elim i [ inl e ↦ subst (λ z. Fits w.graph z) (sym (e ∙ same)) formed.root | inr none ↦ absurd none ];
      apart = λ m i. elim i [ inl e ↦ ap (heights_in walk) (e ∙ same) ∙ unseen | inr none ↦ absurd none ];
      different = (λ i. i, tt);
      few = omega arith;
    });
  }

  -- the visit found a chain
  pub chain_there : (new : Walk) → GoesOnFrom walk new → (found : Found)
      → IsFitChain w.graph found × (LeadsTo w walk n → IsFound w.graph w.sources w.outcomes walk.root found) → AfterRoot w (HoldsIn w walk) new (Some found)
  chain_there new on found after = record {
    fit = after.0.0;
    placed = λ view is stepped. absurd (subst (λ o. IfSome o IsChain) is after.0.1);
    right = λ holds. subst (λ r. IsFound w.graph w.sources w.outcomes r found) (sym on.root) (after.1 (root_leads holds));
  }

-- ---- a walk at its start and at its end

-- the walk as its callers see it
abbrev pub seen_so : Walk → GivenOutcomes → Option Found → Walked
seen_so walk given result = record {
  root = walk.root;
  done = walk.done;
  fresh = walk.fresh;
  renewed = walk.renewed;
  given = given;
  wanted = walk.wanted;
  looked = walk.looked;
  taken = walk.taken;
  result = result;
}

nothing_waits : (n : Node) (h : ℕ) → height_in [] n ≡ Some h → ⊥
nothing_waits n h e = cc

-- what is formed
pub formed_at_start : (w : World) (walked : Walked) → IsFormed w walked → (walk : Walk) → walk.root ≡ walked.root → walk.done ≡ walked.done
    → walk.fresh ≡ walked.fresh → walk.renewed ≡ walked.renewed → walk.wanted ≡ walked.wanted → walk.looked ≡ walked.looked → walk.waiting ≡ []
    → IsFormedIn w walk
formed_at_start w walked formed walk root done fresh renewed wanted looked waiting = record {
  root = subst (λ r. Fits w.graph r) (sym root) formed.root;
  done = subst (λ d. AreFormedDone w.graph d) (sym done) formed.done;
  told = same_told done fresh renewed formed.told;
  looked = subst (λ l. AreLookups w walk.done l) (sym looked) (subst (λ d. AreLookups w d walked.looked) (sym done) formed.looked);
  waiting = λ n h e. absurd (nothing_waits n h (subst (λ l. height_in l n ≡ Some h) waiting e));
  wanted = subst (λ l. AreFormedCalls w.outcomes l) (sym wanted) formed.wanted;
}
  where
    same_told : walk.done ≡ walked.done → walk.fresh ≡ walked.fresh → walk.renewed ≡ walked.renewed → AreTold w walked.done walked.fresh walked.renewed
        → AreTold w walk.done walk.fresh walk.renewed
    same_told d f r told = subst (λ z. AreTold w walk.done walk.fresh z) (sym r) (subst (λ z. AreTold w walk.done z walked.renewed) (sym f) (subst (λ z. AreTold w z walked.fresh walked.renewed) (sym d) told))

pub formed_at_end : (w : World) (walk : Walk) → IsFormedIn w walk → OutcomesFit w.outcomes → (given : GivenOutcomes) (result : Option Found)
    → IfSome result (NodesFit w.graph)
    → IsFormed w (seen_so walk given result)
formed_at_end w walk formed fit given result found = record {
  fit = fit;
  root = formed.root;
  done = formed.done;
  told = formed.told;
  looked = formed.looked;
  wanted = formed.wanted;
  found = found;
}

-- what is right holds where nothing waits
pub holds_at_start : (w : World) (walked : Walked) → IsRight w walked → (walk : Walk) → walk.root ≡ walked.root → walk.done ≡ walked.done
    → walk.fresh ≡ walked.fresh → walk.renewed ≡ walked.renewed → walk.wanted ≡ walked.wanted → walk.looked ≡ walked.looked → walk.waiting ≡ []
    → HoldsIn w walk
holds_at_start w walked right walk root done fresh renewed wanted looked waiting = record {
  rightly = subst (λ z. AreToldRightly w walk.fresh z) (sym renewed) (subst (λ z. AreToldRightly w z walked.renewed) (sym fresh) right.rightly);
  knows = right.knows;
  done = subst (λ d. AreDone w d) (sym done) right.done;
  met = subst (λ r. AreMet w r walk.done) (sym root) (subst (λ d. AreMet w walked.root d) (sym done) right.met);
  may = subst (λ r. MayBeLooked w r walk.looked) (sym root) (subst (λ l. MayBeLooked w walked.root l) (sym looked) right.may);
  waiting = λ n h e. absurd (nothing_waits n h (subst (λ l. height_in l n ≡ Some h) waiting e));
  one = λ n h e. absurd (nothing_waits n h (subst (λ l. height_in l n ≡ Some h) waiting e));
  only = λ call i. subst (λ r. StopsAtCall w r call) (sym root) (right.wanted call (subst (λ l. IsIn call l) wanted i));
  once = subst (λ l. AreOnce l) (sym wanted) right.once;
}

-- what holds is right
pub right_at_end : (w : World) (walk : Walk) → HoldsIn w walk → IsFormedIn w walk → OutcomesFit w.outcomes → Fits w.graph walk.root → (given : GivenOutcomes)
    → AreTaken w given walk.looked walk.done walk.wanted walk.taken → (result : Option Found) → IfSome result (IsFound w.graph w.sources w.outcomes walk.root)
    → IsRight w (seen_so walk given result)
right_at_end w walk holds formed fit root given taken result found = record {
  fit = fit;
  knows = holds.knows;
  told = formed.told;
  rightly = holds.rightly;
  root = root;
  done = holds.done;
  met = holds.met;
  looked = formed.looked;
  may = holds.may;
  taken = taken;
  wanted = holds.only;
  once = holds.once;
  found = found;
}

pub found_of : (w : World) (n : Node) (wanted : List Call) (result : Option Found) → FindsOrWants w n wanted result → IfSome result (IsFound w.graph w.sources w.outcomes n)
found_of w n wanted None e = tt
found_of w n wanted (Some found) e = e
