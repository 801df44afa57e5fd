-- No call is kept twice.
use Rattle.std.proofs.Common.{◌≡◌, ℕ, zero, suc, Bool, true, false, cond, List, [], ◌∷◌, ◌++◌, ap, sym, ◌∙◌, subst, refl, true≢false, append_assoc, arith}
use Rattle.std.specs.Prelude.{Option, Some, None, All, IsNone}
use Rattle.std.specs.List.{AllByRecursion, IsDistinct}
use Rattle.std.specs.Map.{lookup, keys_of}
use Rattle.std.proofs.lemmas.List.Elements.{All-head, All-nil, All-push, All-tail}
use Rattle.std.proofs.lemmas.Option.{none-some}
use Rattle.content_store.specs.Bodies.{Bodies}
use Rattle.meaning_records.specs.Tables.{Calls, kept_outcome}
use Rattle.meaning_records.specs.Live.{ComeAfter}
use Rattle.kept_contents.specs.declared.head.CallHead.{CallHead}
use Rattle.kept_contents.specs.declared.keys.CallKey.{CallKey}
use Rattle.kept_contents.specs.contracts.keys.CallKeyPartialEq.TheImpl.{ghosts as key_eq}
use Rattle.kept_contents.specs.Keys.{key_exact}
use Rattle.kept_tables.specs.declared.call_table.Entry.{Entry}
use Rattle.kept_tables.specs.Calls.{key_at}
use Rattle.kept_tables.specs.Holdings.{IsKeptIn, kept_call_of, kept_calls_of}
use Rattle.kept_tables.proofs.HeldLemmas.{looked, outcome_in, calls_push}
use Rattle.kept_tables.proofs.TableLemmas.{Entries, EachOnce, once_after}

-- ---- keys that stand at one place each

each_apart : (key : CallKey) (entries : Entries) → ((j : ℕ) → ¬ (key_at entries j ≡ Some key)) → AllByRecursion (λ k. key_eq.eq key k ≡ false) (keys_of entries)
each_apart key [] none = tt
each_apart key (x ∷ entries) none = (by (key_eq.eq key x.0) refl, each_apart key entries (λ j at. none (suc j) at))
  where
    by : (b : Bool) → key_eq.eq key x.0 ≡ b → b ≡ false
    by true same = absurd (none zero (ap Some (sym ((key_exact key x.0).0 same))))
    by false other = refl

pub each_distinct : (entries : Entries) → EachOnce entries → IsDistinct key_eq.eq (keys_of entries)
unfolding IsDistinct
each_distinct [] once = tt
each_distinct (x ∷ entries) once = (
  each_apart x.0 entries (λ j at. let same : zero ≡ suc j = once zero (suc j) x.0 refl at in absurd (omega (arith, same))),
  each_distinct entries (once_after x entries once),
)

-- ---- calls that come one by one

apart : (key : CallKey) (done : Entries) (e : CallKey × Entry) (rest : Entries) → AllByRecursion (λ k. key_eq.eq key k ≡ false) (keys_of (done ++ e ∷ rest)) → key_eq.eq key e.0 ≡ false
apart key [] e rest all = all.0
apart key (d ∷ done) e rest all = apart key done e rest all.1

-- a key isn't that of an entry before
not_before : (done : Entries) (e : CallKey × Entry) (rest : Entries) → IsDistinct key_eq.eq (keys_of (done ++ e ∷ rest)) → lookup (key_eq.eq e.0) done ≡ None
unfolding IsDistinct
not_before [] e rest distinct = refl
not_before (d ∷ done) e rest distinct = by_test (key_eq.eq e.0 d.0) refl (not_before done e rest distinct.1)
  where
    by_test : (t : Bool) → key_eq.eq e.0 d.0 ≡ t → lookup (key_eq.eq e.0) done ≡ None → cond t (Some d.1) (lookup (key_eq.eq e.0) done) ≡ None
    by_test true same rest_none = absurd (true≢false (sym ((key_exact d.0 e.0).1 (sym ((key_exact e.0 d.0).0 same))) ∙ apart d.0 done e rest distinct.0))
    by_test false other rest_none = rest_none

none_is : {V : Type 0} (o : Option V) → o ≡ None → IsNone o
none_is None e = refl
none_is (Some v) e = absurd (none-some v (sym e))

module _ (heads : List CallHead) (texts : Bodies) where
  come_after : (done rest : Entries) → IsDistinct key_eq.eq (keys_of (done ++ rest)) → All (IsKeptIn heads texts) done → All (IsKeptIn heads texts) rest → ComeAfter (kept_calls_of done) (kept_calls_of rest)
  come_after done [] distinct kept more = tt
  come_after done (e ∷ rest) distinct kept more =
      let here = All-head (IsKeptIn heads texts) e rest more in
      let none : kept_outcome (kept_calls_of done) (kept_call_of e).0 ≡ None = sym (looked heads texts done e.0 (kept_call_of e).0 kept here.0) ∙ ap outcome_in (not_before done e rest distinct) in
      let joined = subst (λ (l : Entries). IsDistinct key_eq.eq (keys_of l)) (sym (append_assoc done (e ∷ []) rest)) distinct in
      let later = come_after (done ++ e ∷ []) rest joined (All-push (IsKeptIn heads texts) done e kept here) (All-tail (IsKeptIn heads texts) e rest more) in (
        record { formed = here.1.0; fits = here.1.1; new = none_is (kept_outcome (kept_calls_of done) (kept_call_of e).0) none },
        subst (λ (l : Calls). ComeAfter l (kept_calls_of rest)) (calls_push done e.0 e.1) later,
      )

  pub all_come : (entries : Entries) → IsDistinct key_eq.eq (keys_of entries) → All (IsKeptIn heads texts) entries → ComeAfter [] (kept_calls_of entries)
  all_come entries distinct kept = come_after [] entries distinct (All-nil (IsKeptIn heads texts)) kept
