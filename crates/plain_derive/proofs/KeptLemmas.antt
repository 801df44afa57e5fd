-- Outcomes that were given over those that are kept.
use Rattle.std.proofs.Common.{◌≡◌, ◌⊎◌, Bool, true, false, cond, [], ◌∷◌, ◌++◌, inl, inr, sym, ap, ◌∙◌, subst, refl}
use Rattle.std.specs.Prelude.{Option, Some, None, IsSome}
use Rattle.object_values.specs.declared.nodes.Node.{Node}
use Rattle.object_values.specs.declared.calls.Call.{Call}
use Rattle.object_values.specs.declared.calls.Outcome.{Outcome}
use Rattle.object_values.specs.contracts.calls.CallPartialEq.TheImpl.{ghosts as call_eq}
use Rattle.object_values.specs.Exact.{call_exact}
use Rattle.odin_outside.specs.Spawned.{Table}
use Rattle.meaning_texts.specs.Lists.{IsIn}
use Rattle.meaning_texts.proofs.Lemmas.{in_either, some_is_none}
use Rattle.meaning_graph.specs.Graphs.{Graph}
use Rattle.meaning_derive.specs.Derive.{Sources, Outcomes, derived, IsFounded}
use Rattle.meaning_derive.specs.Calls.{IsCallFrom, IsFrontier}
use Rattle.meaning_derive.specs.Given.{OutcomesFit, table_outcomes}
use Rattle.meaning_derive.specs.Laws.{HasMore}
use Rattle.meaning_derive.proofs.Lemmas.{kept as calls_stay, known, none_come}
use Rattle.derive_walk.specs.Calls.{GivenOutcomes as Listed, AreOnce, outcome_in}
use Rattle.derive_walk.specs.Outcomes.{given_or, after}
use Rattle.plain_derive.specs.Given.{calls_of, AreGiven, HaveCome}
use Rattle.plain_derive.specs.GivenLaws.{AreNew}
use Rattle.plain_derive.proofs.GivenLemmas.{first_stays, given_is_in, one_more_call}
use Rattle.plain_derive.proofs.MadeLemmas.{once_more}

-- ---- what is known of a call

pub by_given : (kept : Outcomes) (given : Listed) (call : Call) (outcome : Outcome) → outcome_in given call ≡ Some outcome → after kept given call ≡ Some outcome
by_given kept given call outcome e = ap (λ o. given_or o (kept call)) e

pub by_kept : (kept : Outcomes) (given : Listed) (call : Call) → outcome_in given call ≡ None → after kept given call ≡ kept call
by_kept kept given call e = ap (λ o. given_or o (kept call)) e

-- The outcome was given, or else is kept.
pub given_or_kept : (kept : Outcomes) (given : Listed) (call : Call) (outcome : Outcome) → after kept given call ≡ Some outcome → (outcome_in given call ≡ Some outcome) ⊎ (kept call ≡ Some outcome)
given_or_kept kept given call outcome e = by_outcome (outcome_in given call) e
  where
    by_outcome : (o : Option Outcome) → given_or o (kept call) ≡ Some outcome → (o ≡ Some outcome) ⊎ (kept call ≡ Some outcome)
    by_outcome (Some x) e = inl e
    by_outcome None e = inr e

-- ---- one more

pub last_or : (front : Listed) (call : Call) (outcome : Outcome) (c : Call) → outcome_in front c ≡ None → outcome_in (front ++ (call, outcome) ∷ []) c ≡ cond (call_eq.eq c call) (Some outcome) None
last_or [] call outcome c e = refl
last_or (x ∷ front) call outcome c e = by_test (call_eq.eq c x.0) e (last_or front call outcome c)
  where
    by_test : (b : Bool) → cond b (Some x.1) (outcome_in front c) ≡ None → (outcome_in front c ≡ None → outcome_in (front ++ (call, outcome) ∷ []) c ≡ cond (call_eq.eq c call) (Some outcome) None)
        → cond b (Some x.1) (outcome_in (front ++ (call, outcome) ∷ []) c) ≡ cond (call_eq.eq c call) (Some outcome) None
    by_test true e more = cc
    by_test false e more = more e

-- What was known stays so with the outcome of a call that had none.
pub one_more_known : (kept : Outcomes) (front : Listed) (call : Call) (outcome : Outcome) → after kept front call ≡ None → HasMore (after kept front) (after kept (front ++ (call, outcome) ∷ []))
one_more_known kept front call outcome none c o e = by_front (outcome_in front c) refl
  where
    more : Listed
    more = front ++ (call, outcome) ∷ []

    by_last : outcome_in front c ≡ None → (b : Bool) → call_eq.eq c call ≡ b → after kept more c ≡ Some o
    by_last is true same = some_is_none (after kept front c) o e (subst (λ z. after kept front z ≡ None) (sym ((call_exact c call).0 same)) none)
    by_last is false same = by_kept kept more c (last_or front call outcome c is ∙ ap (λ b. cond b (Some outcome) None) same) ∙ sym (by_kept kept front c is) ∙ e

    by_front : (x : Option Outcome) → outcome_in front c ≡ x → after kept more c ≡ Some o
    by_front None is = by_last is (call_eq.eq c call) refl
    by_front (Some y) is = by_given kept more c y (first_stays front (call, outcome) c y is) ∙ sym (by_given kept front c y is) ∙ e

pub then_more : (some more most : Outcomes) → HasMore some more → HasMore more most → HasMore some most
then_more some more most first second call o e = second call o (first call o e)

-- ---- the calls

module _ (g : Graph) (s : Sources) (kept : Outcomes) (n : Node) where
  pub kept_stays : (given : Listed) → AreGiven g s kept n given → HasMore kept (after kept given)
  kept_stays given AreGiven.none_given call o e = e
  kept_stays given (AreGiven.one_more front last outcome are stops) call o e = one_more_known kept front last outcome stops.outside call o (kept_stays front are call o e)

  pub given_are_calls : (given : Listed) → AreGiven g s kept n given → (outcomes : Outcomes) → HasMore (after kept given) outcomes → (call : Call) → IsIn call (calls_of given) → IsCallFrom g (derived g s outcomes) n call
  given_are_calls given AreGiven.none_given outcomes has call i = absurd i
  given_are_calls given (AreGiven.one_more front last outcome are stops) outcomes has call i =
      let low : HasMore (after kept front) outcomes = then_more (after kept front) (after kept (front ++ (last, outcome) ∷ [])) outcomes (one_more_known kept front last outcome stops.outside) has in
      elim (in_either call (calls_of front) (last ∷ []) (subst (IsIn call) (one_more_call front last outcome) i)) [
        | inl j ↦ given_are_calls front are outcomes low call j
        | inr (inl e) ↦ subst (IsCallFrom g (derived g s outcomes) n) (sym e) ((calls_stay g s (after kept front) outcomes low n).calls last stops.from)
        | inr (inr none) ↦ absurd none
      ]

  -- a call that is known no more than was given is none of those
  pub not_among : (given : Listed) (call : Call) → after kept given call ≡ None → IsIn call (calls_of given) → ⊥
  not_among [] call none i = i
  not_among (x ∷ given) call none i = by_test (call_eq.eq call x.0) refl none (not_among given call)
    where
      by_test : (b : Bool) → call_eq.eq call x.0 ≡ b → given_or (cond b (Some x.1) (outcome_in given call)) (kept call) ≡ None → (after kept given call ≡ None → IsIn call (calls_of given) → ⊥) → ⊥
      by_test true same none below = cc
      by_test false same none below = elim i [
        | inl e ↦ let yes : call_eq.eq call x.0 ≡ true = (call_exact call x.0).1 e in cc
        | inr j ↦ below none j
      ]

  pub kept_none : (given : Listed) → AreGiven g s kept n given → (call : Call) → after kept given call ≡ None → kept call ≡ None
  kept_none given are call none = by_kept_outcome (kept call) refl
    where
      by_kept_outcome : (o : Option Outcome) → kept call ≡ o → kept call ≡ None
      by_kept_outcome None e = e
      by_kept_outcome (Some o) e = some_is_none (after kept given call) o (kept_stays given are call o e) none

  pub given_are_new : (given : Listed) → AreGiven g s kept n given → AreNew kept given
  given_are_new given AreGiven.none_given = record { once = tt; none = λ call i. absurd i }
  given_are_new given (AreGiven.one_more front last outcome are stops) =
      let before = given_are_new front are in
      record {
        once = subst AreOnce (sym (one_more_call front last outcome)) (once_more (calls_of front) last before.once (not_among front last stops.outside));
        none = λ call i. elim (in_either call (calls_of front) (last ∷ []) (subst (IsIn call) (one_more_call front last outcome) i)) [
          | inl j ↦ before.none call j
          | inr (inl e) ↦ subst (λ z. kept z ≡ None) (sym e) (kept_none front are last stops.outside)
          | inr (inr none) ↦ absurd none
        ];
      }

  pub none_is_given : (outcomes : Outcomes) → HasMore kept outcomes → ((call : Call) → IsCallFrom g (derived g s outcomes) n call → IsSome (kept call)) → (given : Listed) → AreGiven g s kept n given → given ≡ []
  none_is_given outcomes has all given AreGiven.none_given = refl
  none_is_given outcomes has all given (AreGiven.one_more front last outcome are stops) =
      let none : front ≡ [] = none_is_given outcomes has all front are in
      let first : IsFrontier g s kept n last = subst (λ (l : Listed). IsFrontier g s (after kept l) n last) none stops in
      let there : IsSome (kept last) = all last ((calls_stay g s kept outcomes has n).calls last first.from) in
      let outside : kept last ≡ None = first.outside in
      cc

-- ---- all of them

known_where : (kept : Outcomes) (given : Listed) (call : Call) → IsSome (after kept given call) → IsSome (kept call) ⊎ IsIn call (calls_of given)
known_where kept [] call there = inl there
known_where kept (x ∷ given) call there = by_test (call_eq.eq call x.0) refl there (known_where kept given call)
  where
    by_test : (b : Bool) → call_eq.eq call x.0 ≡ b → IsSome (given_or (cond b (Some x.1) (outcome_in given call)) (kept call)) → (IsSome (after kept given call) → IsSome (kept call) ⊎ IsIn call (calls_of given))
        → IsSome (kept call) ⊎ IsIn call (calls_of (x ∷ given))
    by_test true same there below = inr (inl ((call_exact call x.0).0 same))
    by_test false same there below = elim (below there) [ inl k ↦ inl k | inr i ↦ inr (inr i) ]

pub given_are_all : (g : Graph) (s : Sources) (kept : Outcomes) (n : Node) (given : Listed) → IsFounded g s (after kept given) n → (outcomes : Outcomes) → HasMore (after kept given) outcomes
    → (call : Call) → IsCallFrom g (derived g s outcomes) n call → IsSome (kept call) ⊎ IsIn call (calls_of given)
given_are_all g s kept n given founded outcomes has call from =
    let here = none_come g s (after kept given) outcomes has n call founded from in
    known_where kept given call (known g s (after kept given) n call founded here)

-- ---- the outcomes

pub given_fit : (answer : Option Table) (kept : Outcomes) (given : Listed) → OutcomesFit kept → HaveCome answer given → OutcomesFit (after kept given)
given_fit answer kept given fit came call o e = elim (given_or_kept kept given call o e) [
  | inl there ↦ (came call o (given_is_in given call o there)).fits
  | inr there ↦ fit call o there
]

pub given_are_true : (table : Table) (kept : Outcomes) (given : Listed) → HasMore kept (table_outcomes table) → HaveCome (Some table) given → HasMore (after kept given) (table_outcomes table)
given_are_true table kept given right came call o e = elim (given_or_kept kept given call o e) [
  | inl there ↦ (came call o (given_is_in given call o there)).told table refl
  | inr there ↦ right call o there
]
