-- What a store holds after calls were kept and nodes noted, and what is known by that.
use Rattle.std.proofs.Common.{◌≡◌, Bool, true, false, cond, List, [], ◌∷◌, ◌++◌, ◌∙◌, refl, sym, ap, append_assoc, inl, inr}
use Rattle.std.specs.Prelude.{Option, Some, None}
use Rattle.std.specs.List.{All}
use Rattle.object_values.specs.declared.calls.Call.{Call}
use Rattle.object_values.specs.declared.calls.Outcome.{Outcome}
use Rattle.object_values.specs.declared.facts.Fact.{Fact}
use Rattle.object_values.specs.contracts.calls.CallPartialEq.TheImpl.{ghosts as call_eq}
use Rattle.odin_outside.specs.Disk.{Telling}
use Rattle.meaning_texts.specs.Lists.{IsIn}
use Rattle.meaning_texts.proofs.Lemmas.{in_all}
use Rattle.meaning_derive.specs.Derive.{Outcomes}
use Rattle.meaning_derive.specs.Given.{OutcomesFit}
use Rattle.meaning_derive.specs.Laws.{HasMore}
use Rattle.meaning_records.specs.Tables.{Calls, kept_outcome, put_facts}
use Rattle.kept_tables.specs.Holdings.{IsKept}
use Rattle.odin_journal.specs.Trails as trails
use Rattle.odin_store.specs.declared.store.Store.{Store}
use Rattle.odin_store.specs.Held.{Held, keeps, notes, apply}
use Rattle.odin_store.specs.OnDisk.{held_in}
use Rattle.odin_store.specs.Keeping.{store_keeping}
use Rattle.odin_store.specs.Going.{Performs}
use Rattle.derive_walk.specs.Calls.{outcome_in}
use Rattle.derive_walk.specs.Outcomes.{given_or, after}
use Rattle.plain_derive.specs.Given.{calls_of}
use Rattle.plain_derive.specs.GivenLaws.{AreNew}
use Rattle.plain_derive.proofs.Lemmas.{given_is_in}
use Rattle.kept_derive.specs.Knowing.{known_in}
use Rattle.kept_derive.specs.Runs.{keeps_of, changes_for}

-- ---- lists

pub nothing_behind : {A : Type 0} (xs : List A) → xs ++ [] ≡ xs
nothing_behind [] = refl
nothing_behind (x ∷ xs) = ap (λ l. x ∷ l) (nothing_behind xs)

pub keeps_one_more : (given : Calls) (call : Call) (outcome : Outcome) → keeps_of (given ++ (call, outcome) ∷ []) ≡ keeps_of given ++ keeps call outcome ∷ []
keeps_one_more [] call outcome = refl
keeps_one_more (x ∷ given) call outcome = ap (λ l. keeps x.0 x.1 ∷ l) (keeps_one_more given call outcome)

-- ---- what is held

held_after : (given : Calls) (held : Held) → trails.after_changes store_keeping (keeps_of given) held ≡ record held { calls = held.calls ++ given }
held_after [] held = ap (λ (l : Calls). record held { calls = l }) (sym (nothing_behind held.calls))
held_after (x ∷ given) held = held_after given (apply (keeps x.0 x.1) held) ∙ ap (λ (l : Calls). record held { calls = l }) (append_assoc held.calls (x ∷ []) given)

-- with what was noted after them
held_noted : (given : Calls) (facts : List Fact) (held : Held)
    → trails.after_changes store_keeping (keeps_of given ++ notes facts ∷ []) held ≡ record held { calls = held.calls ++ given; records = put_facts facts held.records }
held_noted [] facts held = ap (λ (l : Calls). record held { calls = l; records = put_facts facts held.records }) (sym (nothing_behind held.calls))
held_noted (x ∷ given) facts held =
    held_noted given facts (apply (keeps x.0 x.1) held) ∙ ap (λ (l : Calls). record held { calls = l; records = put_facts facts held.records }) (append_assoc held.calls (x ∷ []) given)

pub held_after_all : (given : Calls) (noted : List Fact) (held : Held)
    → trails.after_changes store_keeping (changes_for given noted) held ≡ record held { calls = held.calls ++ given; records = put_facts noted held.records }
held_after_all given [] held = held_after given held
held_after_all given (fact ∷ facts) held = held_noted given (fact ∷ facts) held

module _ {Disk : Type 0} (told : Disk → Telling) (given : Calls) (noted : List Fact) (store next : Store) (disk after : Disk) (goes : Performs told (changes_for given noted) store next disk after) where
  pub calls_after_all : next.kept.tables.calls ≡ store.kept.tables.calls ++ given
  calls_after_all = ap (λ (h : Held). h.calls) (goes.holds ∙ held_after_all given noted (held_in store))

  pub sources_after_all : next.sources.texts ≡ store.sources.texts
  sources_after_all = ap (λ (h : Held). h.sources) (goes.holds ∙ held_after_all given noted (held_in store))

  pub records_after_all : next.kept.tables.records ≡ put_facts noted store.kept.tables.records
  records_after_all = ap (λ (h : Held). h.records) (goes.holds ∙ held_after_all given noted (held_in store))

-- where nothing was noted
module _ {Disk : Type 0} (told : Disk → Telling) (given : Calls) (store next : Store) (disk after : Disk) (goes : Performs told (keeps_of given) store next disk after) where
  pub calls_after : next.kept.tables.calls ≡ store.kept.tables.calls ++ given
  calls_after = calls_after_all told given [] store next disk after goes

  pub sources_after : next.sources.texts ≡ store.sources.texts
  sources_after = sources_after_all told given [] store next disk after goes

-- ---- what is known

given_or_none : (o : Option Outcome) → given_or o None ≡ o
given_or_none None = refl
given_or_none (Some o) = refl

pub in_both : (calls given : Calls) (call : Call) → kept_outcome (calls ++ given) call ≡ given_or (kept_outcome calls call) (outcome_in given call)
in_both [] given call = refl
in_both (x ∷ calls) given call = by_test (call_eq.eq call x.0) (in_both calls given call)
  where
    by_test : (b : Bool) → kept_outcome (calls ++ given) call ≡ given_or (kept_outcome calls call) (outcome_in given call)
        → cond b (Some x.1) (kept_outcome (calls ++ given) call) ≡ given_or (cond b (Some x.1) (kept_outcome calls call)) (outcome_in given call)
    by_test true e = refl
    by_test false e = e

-- What is kept stays known.
pub more_known : (store next : Store) (given : Calls) → next.kept.tables.calls ≡ store.kept.tables.calls ++ given → HasMore (known_in store) (known_in next)
more_known store next given is call outcome e =
    ap (λ (l : Calls). kept_outcome l call) is ∙ in_both store.kept.tables.calls given call ∙ ap (λ o. given_or o (outcome_in given call)) e

-- Calls that were given outcomes are known no other way once they are kept.
pub same_known : (calls given : Calls) → ◌≡◌ {A = Outcomes} (after (kept_outcome (calls ++ given)) given) (after (kept_outcome calls) given)
same_known calls given = λ i. λ call. at_call call i
  where
    at_call : (call : Call) → after (kept_outcome (calls ++ given)) given call ≡ after (kept_outcome calls) given call
    at_call call = by_outcome (outcome_in given call) refl
      where
        by_outcome : (o : Option Outcome) → outcome_in given call ≡ o → given_or (outcome_in given call) (kept_outcome (calls ++ given) call) ≡ given_or (outcome_in given call) (kept_outcome calls call)
        by_outcome (Some o) is = ap (λ z. given_or z (kept_outcome (calls ++ given) call)) is ∙ sym (ap (λ z. given_or z (kept_outcome calls call)) is)
        by_outcome None is =
            let both : kept_outcome (calls ++ given) call ≡ kept_outcome calls call = in_both calls given call ∙ ap (given_or (kept_outcome calls call)) is ∙ given_or_none (kept_outcome calls call) in
            ap (given_or (outcome_in given call)) both

in_calls : (given : Calls) (call : Call) (outcome : Outcome) → IsIn (call, outcome) given → IsIn call (calls_of given)
in_calls [] call outcome i = i
in_calls (x ∷ given) call outcome i = elim i [ inl e ↦ inl (ap (λ (z : Call × Outcome). z.0) e) | inr j ↦ inr (in_calls given call outcome j) ]

-- What is kept then is what was known.
pub known_after : (calls given : Calls) → AreNew (kept_outcome calls) given → ◌≡◌ {A = Outcomes} (kept_outcome (calls ++ given)) (after (kept_outcome calls) given)
known_after calls given new = λ i. λ call. at_call call i
  where
    at_call : (call : Call) → kept_outcome (calls ++ given) call ≡ after (kept_outcome calls) given call
    at_call call = by_outcome (outcome_in given call) refl
      where
        by_outcome : (o : Option Outcome) → outcome_in given call ≡ o → kept_outcome (calls ++ given) call ≡ given_or (outcome_in given call) (kept_outcome calls call)
        by_outcome (Some o) is =
            let none : kept_outcome calls call ≡ None = new.none call (in_calls given call o (given_is_in given call o is)) in
            in_both calls given call ∙ ap (λ z. given_or z (outcome_in given call)) none ∙ is ∙ sym (ap (λ z. given_or z (kept_outcome calls call)) is)
        by_outcome None is = in_both calls given call ∙ ap (given_or (kept_outcome calls call)) is ∙ given_or_none (kept_outcome calls call) ∙ sym (ap (λ z. given_or z (kept_outcome calls call)) is)

-- What is kept fits.
pub kept_fit : (calls : Calls) → All IsKept calls → OutcomesFit (kept_outcome calls)
kept_fit calls all call outcome is = (in_all IsKept calls all (call, outcome) (given_is_in calls call outcome is)).1
