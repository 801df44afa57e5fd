-- The outcome of a wanted call.
use Rattle.std.proofs.Common.{◌≡◌, ◌≢◌, ◌↔◌, Bool, true, false, cond, List, [], ◌∷◌, ◌++◌, ◌⊎◌, inl, inr, sym, ap, ◌∙◌, subst, refl}
use Rattle.std.specs.Prelude.{Some, None, IfSome, IsSome, is_some}
use Rattle.object_values.specs.declared.nodes.Node.{Node}
use Rattle.object_values.specs.declared.calls.Call.{Call}
use Rattle.object_values.specs.declared.calls.Outcome.{Outcome}
use Rattle.object_values.specs.contracts.calls.CallPartialEq.TheImpl.{ghosts as call_eq}
use Rattle.object_values.specs.Exact.{call_exact}
use Rattle.meaning_texts.specs.Lists.{IsIn}
use Rattle.meaning_texts.proofs.Lemmas.{some_or_none, value_of_some, some_is_none, same_some}
use Rattle.meaning_graph.specs.Graphs.{Graph}
use Rattle.meaning_tasks.specs.Nodes.{Fits}
use Rattle.meaning_calls.specs.Outcomes.{OutcomeFits}
use Rattle.meaning_derive.specs.Derive.{Sources, Outcomes}
use Rattle.meaning_derive.specs.Given.{OutcomesFit}
use Rattle.meaning_derive.specs.Laws.{HasMore}
use Rattle.meaning_true.specs.Knowing.{KeptRecords}
use Rattle.derive_walk.specs.Calls.{outcome_in, GivenOutcomes as Listed}
use Rattle.derive_walk.specs.Outcomes.{given_or, after}
use Rattle.derive_walk.specs.Founds.{IsFound, NodesFit}
use Rattle.derive_walk.specs.Looked.{AreLookups, AreTaken, IsAsked, IsTaken, MayBeLooked}
use Rattle.derive_walk.specs.Places.{KeptPlaces, looked_nodes}
use Rattle.derive_walk.specs.Tables.{done_in}
use Rattle.derive_walk.specs.Told.{AreTold, AreToldRightly}
use Rattle.derive_walk.specs.Walks.{Walked, AreFormedDone, IsFormed, AreDone, AreMet, IsRight, AreApart, OutcomeIsGiven}
use Rattle.derive_walk.specs.Worlds.{World, world_over, StopsAtCall}
use Rattle.derive_walk.proofs.Stays.{lookups_stay, told_stays, right_stays}

-- ---- one outcome more

other_call : (given : Listed) (call c : Call) (o : Outcome) → c ≢ call → outcome_in (given ++ (call, o) ∷ []) c ≡ outcome_in given c
other_call [] call c o differs = by_test (call_eq.eq c call) refl
  where
    by_test : (b : Bool) → call_eq.eq c call ≡ b → cond b (Some o) None ≡ None
    by_test true e = absurd (differs ((call_exact c call).0 e))
    by_test false e = refl
other_call (x ∷ given) call c o differs = ap (λ z. cond (call_eq.eq c x.0) (Some x.1) z) (other_call given call c o differs)

this_call : (given : Listed) (call : Call) (o : Outcome) → outcome_in given call ≡ None → outcome_in (given ++ (call, o) ∷ []) call ≡ Some o
this_call [] call o none = ap (λ b. cond b (Some o) None) ((call_exact call call).1 refl)
this_call (x ∷ given) call o none = by_test (call_eq.eq call x.0) (this_call given call o) none
  where
    by_test : (b : Bool) → (outcome_in given call ≡ None → outcome_in (given ++ (call, o) ∷ []) call ≡ Some o) → cond b (Some x.1) (outcome_in given call) ≡ None → cond b (Some x.1) (outcome_in (given ++ (call, o) ∷ []) call) ≡ Some o
    by_test true more q = cc
    by_test false more q = more q

same_or_other : (c call : Call) → (c ≡ call) ⊎ (c ≢ call)
same_or_other c call = by_test (call_eq.eq c call) refl
  where
    by_test : (b : Bool) → call_eq.eq c call ≡ b → (c ≡ call) ⊎ (c ≢ call)
    by_test true e = inl ((call_exact c call).0 e)
    by_test false e = inr (λ q. let z : call_eq.eq c call ≡ true = (call_exact c call).1 q in cc)

-- ---- a walk that was given an outcome

module _ (call : Call) (o : Outcome) (given : Listed) (wanted others : List Call) (fewer : (c : Call) → IsIn c others ↔ (IsIn c wanted × (c ≢ call))) where
  pub apart_after : AreApart given wanted → AreApart (given ++ (call, o) ∷ []) others
  apart_after apart c i = let q = (fewer c).0 i in other_call given call c o q.1 ∙ apart c q.0

-- what is told is the same
same_told : {call : Call} {o : Outcome} (w : World) (old new : Walked) → OutcomeIsGiven call o old new → AreTold w old.done old.fresh old.renewed → AreTold w new.done new.fresh new.renewed
same_told w old new is told = subst (λ z. AreTold w new.done new.fresh z) (sym is.renewed) (subst (λ z. AreTold w new.done z old.renewed) (sym is.fresh) (subst (λ z. AreTold w z old.fresh old.renewed) (sym is.done) told))

-- and so is what was looked at
same_looked : {call : Call} {o : Outcome} (w : World) (old new : Walked) → OutcomeIsGiven call o old new → AreLookups w old.done old.looked → AreLookups w new.done new.looked
same_looked w old new is looked = subst (λ z. AreLookups w new.done z) (sym is.looked) (subst (λ z. AreLookups w z old.looked) (sym is.done) looked)

module _ (kept : Outcomes) (call : Call) (o : Outcome) (fits : OutcomeFits call o) (old new : Walked) (is : OutcomeIsGiven call o old new) where
  others_same : (c : Call) → c ≢ call → after kept new.given c ≡ after kept old.given c
  others_same c differs = ap (λ z. given_or z (kept c)) (ap (λ l. outcome_in l c) is.given ∙ other_call old.given call c o differs)

  -- nothing is known of it before
  module _ (outside : after kept old.given call ≡ None) where
    none_given : outcome_in old.given call ≡ None
    none_given = elim (some_or_none (outcome_in old.given call)) [
      | inl x ↦ some_is_none (after kept old.given call) x.0 (ap (λ z. given_or z (kept call)) x.1) outside
      | inr q ↦ q
    ]

    known_now : after kept new.given call ≡ Some o
    known_now = ap (λ z. given_or z (kept call)) (ap (λ l. outcome_in l call) is.given ∙ this_call old.given call o none_given)

    has_more : HasMore (after kept old.given) (after kept new.given)
    has_more c x e = elim (same_or_other c call) [
      | inl q ↦ some_is_none (after kept old.given call) x (subst (λ z. after kept old.given z ≡ Some x) q e) outside
      | inr q ↦ others_same c q ∙ e
    ]

    all_fit : OutcomesFit (after kept old.given) → OutcomesFit (after kept new.given)
    all_fit fit c x e = elim (same_or_other c call) [
      | inl q ↦ (let z : after kept new.given call ≡ Some x = subst (λ y. after kept new.given y ≡ Some x) q e in
          let w : o ≡ x = same_some (sym known_now ∙ z) in
          subst (λ y. OutcomeFits y x) (sym q) (subst (λ y. OutcomeFits call y) w fits))
      | inr q ↦ fit c x (sym (others_same c q) ∙ e)
    ]

  -- ---- what is formed

  pub formed_after : (records : KeptRecords) (places : KeptPlaces) (g : Graph) (s : Sources)
      → IsFormed (world_over records places g s (after kept old.given)) old → IsIn call old.wanted
      → IsFormed (world_over records places g s (after kept new.given)) new
  formed_after records places g s formed wanted = record {
    told = told_stays g s (after kept old.given) (after kept new.given) (has_more (formed.wanted.outside call wanted)) records places new.done new.fresh
        new.renewed (same_told (world_over records places g s (after kept old.given)) old new is formed.told);
    fit = all_fit (formed.wanted.outside call wanted) formed.fit;
    root = subst (λ z. Fits g z) (sym is.root) formed.root;
    done = subst (λ z. AreFormedDone g z) (sym is.done) formed.done;
    looked = lookups_stay g s (after kept old.given) (after kept new.given) (has_more (formed.wanted.outside call wanted)) records places new.done new.looked
        (same_looked (world_over records places g s (after kept old.given)) old new is formed.looked);
    wanted = record {
      each = λ c i. formed.wanted.each c ((is.wanted c).0 i).0;
      outside = λ c i. let q = (is.wanted c).0 i in others_same c q.1 ∙ formed.wanted.outside c q.0;
      once = is.once;
    };
    found = subst (λ z. IfSome z (NodesFit g)) (sym is.result) formed.found;
  }

  -- ---- what is right

  module _ (records : KeptRecords) (places : KeptPlaces) (g : Graph) (s : Sources)
      (right : IsRight (world_over records places g s (after kept old.given)) old) (wanted : IsIn call old.wanted) where
    abbrev before : World
    before = world_over records places g s (after kept old.given)

    now_given : (c : Call) → IsSome (outcome_in old.given c) ⊎ (c ≡ call) → IsSome (outcome_in new.given c)
    now_given c (inr same) =
        let one = this_call old.given call o (none_given (right.wanted call wanted).outside) in
        ap is_some (ap (λ l. outcome_in l c) is.given ∙ subst (λ z. outcome_in (old.given ++ (call, o) ∷ []) z ≡ Some o) (sym same) one)
    now_given c (inl there) = elim (same_or_other c call) [
      | inl same ↦
          let x = value_of_some (outcome_in old.given c) there in
          some_is_none (outcome_in old.given c) x.0 x.1
          (subst (λ z. outcome_in old.given z ≡ None) (sym same) (none_given (right.wanted call wanted).outside))
      | inr differs ↦ ap is_some (ap (λ l. outcome_in l c) is.given ∙ other_call old.given call c o differs) ∙ there
    ]

    still_asked : (n : Node) → IsAsked before old.given old.wanted n → IsAsked before new.given new.wanted n
    still_asked n so = record {
      call = so.call;
      runs = so.runs;
      asked = elim so.asked [
        | inl i ↦ elim (same_or_other so.call call) [
          | inl same ↦ inr (now_given so.call (inr same))
          | inr differs ↦ inl ((is.wanted so.call).1 (i, differs))
        ]
        | inr there ↦ inr (now_given so.call (inl there))
      ];
    }

    one_after : (n : Node) → IsTaken before old.given old.looked old.done old.wanted n → IsTaken before new.given new.looked new.done new.wanted n
    one_after n so = record {
      looked = subst (λ l. IsIn n (looked_nodes l)) (sym is.looked) so.looked;
      takes = so.takes;
      after = elim so.after [
        | inl there ↦ inl (subst (λ d. IsSome (done_in d n)) (sym is.done) there)
        | inr asked ↦ inr (still_asked n asked)
      ];
    }

    taken_after : AreTaken before new.given new.looked new.done new.wanted new.taken
    taken_after = subst (λ l. AreTaken before new.given new.looked new.done new.wanted l) (sym is.taken)
        (record { once = right.taken.once; each = λ n i. one_after n (right.taken.each n i) })

    -- what it was before, by the outcomes before, without the call
    without : IsRight before new
    without = record {
      fit = right.fit;
      knows = right.knows;
      root = subst (λ z. Fits g z) (sym is.root) right.root;
      told = same_told before old new is right.told;
      rightly = subst (λ z. AreToldRightly before new.fresh z) (sym is.renewed) (subst (λ z. AreToldRightly before z old.renewed) (sym is.fresh) right.rightly);
      done = subst (λ z. AreDone before z) (sym is.done) right.done;
      met = subst (λ z. AreMet before z new.done) (sym is.root) (subst (λ z. AreMet before old.root z) (sym is.done) right.met);
      looked = same_looked before old new is right.looked;
      may = subst (λ z. MayBeLooked before z new.looked) (sym is.root) (subst (λ z. MayBeLooked before old.root z) (sym is.looked) right.may);
      taken = taken_after;
      wanted = λ c i. subst (λ z. StopsAtCall before z c) (sym is.root) (right.wanted c ((is.wanted c).0 i).0);
      once = is.once;
      found = subst (λ z. IfSome z (IsFound g s (after kept old.given) new.root)) (sym is.result) (subst (λ z. IfSome old.result (IsFound g s (after kept old.given) z)) (sym is.root) right.found);
    }

    pub right_after : IsRight (world_over records places g s (after kept new.given)) new
    right_after =
        let outside = (right.wanted call wanted).outside in
        right_stays g s (after kept old.given) (after kept new.given) (has_more outside) records places (all_fit outside right.fit) new
        (λ c i. let q = (is.wanted c).0 i in others_same c q.1 ∙ (right.wanted c q.0).outside) without
