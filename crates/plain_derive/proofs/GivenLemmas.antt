-- Calls that were given outcomes, and outcomes that hold these.
use Rattle.std.proofs.Common.{◌≡◌, Bool, true, false, cond, [], ◌∷◌, ◌++◌, ◌||◌, inl, inr, sym, ap, ◌∙◌, subst, refl, is_some}
use Rattle.std.specs.Prelude.{Option, Some, None}
use Rattle.object_values.specs.declared.nodes.Node.{Node}
use Rattle.object_values.specs.declared.calls.Call.{Call}
use Rattle.object_values.specs.declared.calls.Outcome.{Outcome}
use Rattle.object_values.specs.contracts.calls.CallPartialEq.TheImpl.{ghosts as call_eq}
use Rattle.object_values.specs.Exact.{call_exact}
use Rattle.odin_outside.specs.Spawned.{Table}
use Rattle.meaning_texts.specs.Lists.{IsIn}
use Rattle.meaning_texts.proofs.Lemmas.{same_some, some_is_none}
use Rattle.meaning_calls.specs.Jobs.{job_of}
use Rattle.meaning_calls.specs.Outcomes.{OutcomeFits}
use Rattle.meaning_calls.proofs.Lemmas.{fits}
use Rattle.meaning_graph.specs.Graphs.{Graph}
use Rattle.meaning_derive.specs.Derive.{Sources, Outcomes}
use Rattle.meaning_derive.specs.Calls.{IsFrontier}
use Rattle.meaning_derive.specs.Given.{table_outcomes}
use Rattle.meaning_derive.specs.Laws.{HasMore}
use Rattle.derive_walk.specs.Calls.{GivenOutcomes as Listed, outcome_in, call_in}
use Rattle.derive_walk.specs.Outcomes.{nothing_known, given_or, after}
use Rattle.job_runner.specs.Made.{IsOutcomeOfCall}
use Rattle.plain_derive.specs.Logs.{among, AreMade}
use Rattle.plain_derive.specs.Made.{AreGivenBy}
use Rattle.plain_derive.specs.Given.{calls_of, AreGiven}

-- ---- the outcome of a call among those that were given

was_given : (o : Option Outcome) (outcome : Outcome) → given_or o None ≡ Some outcome → o ≡ Some outcome
was_given None outcome e = e
was_given (Some x) outcome e = e

not_given : (o : Option Outcome) → given_or o None ≡ None → o ≡ None
not_given None e = refl
not_given (Some x) e = e

in_given : (given : Listed) (call : Call) → is_some (outcome_in given call) ≡ call_in call (calls_of given)
in_given [] call = refl
in_given (x ∷ given) call = by_test (call_eq.eq call x.0) (in_given given call)
  where
    by_test : (b : Bool) → is_some (outcome_in given call) ≡ call_in call (calls_of given) → is_some (cond b (Some x.1) (outcome_in given call)) ≡ b || call_in call (calls_of given)
    by_test true h = refl
    by_test false h = h

pub given_is_in : (given : Listed) (call : Call) (outcome : Outcome) → outcome_in given call ≡ Some outcome → IsIn (call, outcome) given
given_is_in [] call outcome e = cc
given_is_in (x ∷ given) call outcome e = by_test (call_eq.eq call x.0) refl e (given_is_in given call outcome)
  where
    by_test : (b : Bool) → call_eq.eq call x.0 ≡ b → cond b (Some x.1) (outcome_in given call) ≡ Some outcome → (outcome_in given call ≡ Some outcome → IsIn (call, outcome) given) → IsIn (call, outcome) (x ∷ given)
    by_test true same e more =
        let key : call ≡ x.0 = (call_exact call x.0).0 same in
        let value : outcome ≡ x.1 = sym (same_some e) in
        inl (λ i. (key i, value i))
    by_test false same e more = inr (more e)

pub first_stays : (given : Listed) (x : Call × Outcome) (call : Call) (outcome : Outcome) → outcome_in given call ≡ Some outcome → outcome_in (given ++ x ∷ []) call ≡ Some outcome
first_stays [] x call outcome e = cc
first_stays (y ∷ given) x call outcome e = by_test (call_eq.eq call y.0) e (first_stays given x call outcome)
  where
    by_test : (b : Bool) → cond b (Some y.1) (outcome_in given call) ≡ Some outcome → (outcome_in given call ≡ Some outcome → outcome_in (given ++ x ∷ []) call ≡ Some outcome) → cond b (Some y.1) (outcome_in (given ++ x ∷ []) call) ≡ Some outcome
    by_test true e more = e
    by_test false e more = more e

last_found : (given : Listed) (call : Call) (outcome : Outcome) → outcome_in given call ≡ None → outcome_in (given ++ (call, outcome) ∷ []) call ≡ Some outcome
last_found [] call outcome e = ap (λ b. cond b (Some outcome) None) ((call_exact call call).1 refl)
last_found (y ∷ given) call outcome e = by_test (call_eq.eq call y.0) e (last_found given call outcome)
  where
    by_test : (b : Bool) → cond b (Some y.1) (outcome_in given call) ≡ None → (outcome_in given call ≡ None → outcome_in (given ++ (call, outcome) ∷ []) call ≡ Some outcome) → cond b (Some y.1) (outcome_in (given ++ (call, outcome) ∷ []) call) ≡ Some outcome
    by_test true e more = cc
    by_test false e more = more e

pub one_more_call : (given : Listed) (call : Call) (outcome : Outcome) → calls_of (given ++ (call, outcome) ∷ []) ≡ calls_of given ++ call ∷ []
one_more_call [] call outcome = refl
one_more_call (x ∷ given) call outcome = ap (λ l. x.0 ∷ l) (one_more_call given call outcome)

-- ---- more outcomes than were given

same_at : (given : Listed) (outcomes : Outcomes) → HasMore (after nothing_known given) outcomes → (call : Call) → after nothing_known given call ≡ among outcomes (calls_of given) call
same_at given outcomes has call = by_outcome (outcome_in given call) refl
  where
    there : (o : Option Outcome) → outcome_in given call ≡ o → among outcomes (calls_of given) call ≡ cond (is_some o) (outcomes call) None
    there o e = ap (λ b. cond b (outcomes call) None) (sym (in_given given call) ∙ ap is_some e)

    known : (o : Option Outcome) → outcome_in given call ≡ o → after nothing_known given call ≡ given_or o None
    known o e = ap (λ z. given_or z None) e

    by_outcome : (o : Option Outcome) → outcome_in given call ≡ o → after nothing_known given call ≡ among outcomes (calls_of given) call
    by_outcome None e = known None e ∙ sym (there None e)
    by_outcome (Some o) e = known (Some o) e ∙ sym (there (Some o) e ∙ has call o (known (Some o) e))

-- Known are just the outcomes of the calls that were given some.
pub among_is : (given : Listed) (outcomes : Outcomes) → HasMore (after nothing_known given) outcomes → ◌≡◌ {A = Outcomes} (after nothing_known given) (among outcomes (calls_of given))
among_is given outcomes has = λ i. λ call. same_at given outcomes has call i

pub frontier_among : (g : Graph) (s : Sources) (n : Node) (given : Listed) (outcomes : Outcomes) → HasMore (after nothing_known given) outcomes → (call : Call) → IsFrontier g s (after nothing_known given) n call → IsFrontier g s (among outcomes (calls_of given)) n call
frontier_among g s n given outcomes has call stops = subst (λ (p : Outcomes). IsFrontier g s p n call) (among_is given outcomes has) stops

fewer : (given : Listed) (x : Call × Outcome) (outcomes : Outcomes) → HasMore (after nothing_known (given ++ x ∷ [])) outcomes → HasMore (after nothing_known given) outcomes
fewer given x outcomes has call o e = has call o (ap (λ z. given_or z None) (first_stays given x call o (was_given (outcome_in given call) o e)))

pub are_made : (g : Graph) (s : Sources) (n : Node) (given : Listed) → AreGiven g s nothing_known n given → (outcomes : Outcomes) → HasMore (after nothing_known given) outcomes → AreMade g s outcomes n (calls_of given)
are_made g s n given AreGiven.none_given outcomes has = AreMade.none_made
are_made g s n given (AreGiven.one_more front call outcome are stops) outcomes has =
    let low : HasMore (after nothing_known front) outcomes = fewer front (call, outcome) outcomes has in
    let last = last_found front call outcome (not_given (outcome_in front call) stops.outside) in
    let is : outcomes call ≡ Some outcome = has call outcome (ap (λ z. given_or z None) last) in
    subst (λ l. AreMade g s outcomes n l) (sym (one_more_call front call outcome))
    (AreMade.one_more (calls_of front) call (are_made g s n front are outcomes low) (frontier_among g s n front outcomes low call stops) (ap is_some is))

-- ---- outcomes that the tools gave

-- Outcomes by which the derivation goes: all that the tools would give, where that is told.
pub record GoesBy (answer : Option Table) (given : Listed) : Type 0 where
  pub outcomes : Outcomes
  pub by : AreGivenBy answer outcomes
  pub has : HasMore (after nothing_known given) outcomes

pub go_by : (answer : Option Table) (given : Listed) → ((call : Call) (outcome : Outcome) → IsIn (call, outcome) given → IsOutcomeOfCall answer call outcome) → GoesBy answer given
go_by None given each = record {
  outcomes = after nothing_known given;
  by = record {
    fit = λ call outcome e. (each call outcome (given_is_in given call outcome (was_given (outcome_in given call) outcome e))).fits;
    told = λ table e. some_is_none None table e refl;
  };
  has = λ call outcome e. e;
}
go_by (Some table) given each = record {
  outcomes = table_outcomes table;
  by = record {
    fit = λ call outcome e. subst (OutcomeFits call) (same_some e) (fits call (table (job_of call)));
    told = λ other e. ap table_outcomes (same_some e);
  };
  has = λ call outcome e. (each call outcome (given_is_in given call outcome (was_given (outcome_in given call) outcome e))).told table refl;
}
