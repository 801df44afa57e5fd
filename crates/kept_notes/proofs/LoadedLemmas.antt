-- The test of a stored record decides whether it may be noted, and what it says in memory is what it says in the file.
use Rattle.std.proofs.Common.{◌≡◌, ◌<◌, ℕ, zero, suc, Bool, true, false, List, [], ◌∷◌, length, map, sym, refl, true≢false, rules, arith}
use Rattle.std.specs.Prelude.{◌↔◌, IsNone, not, Option, Some, None, slice_get}
use Rattle.std.specs.Bool.{Decides}
use Rattle.std.specs.List.{All, list_all}
use Rattle.std.proofs.lemmas.Bool.{and_parts, and_from, ltb-true, lt-ltb, leb-true, le-leb}
use Rattle.std.proofs.lemmas.List.Elements.{All-cons, All-nil}
use Rattle.std.proofs.lemmas.Option.{slice_get_within}
use Rattle.object_values.specs.declared.messages.Status.{Status}
use Rattle.object_values.specs.declared.messages.Status.TheVariants.{Abort}
use Rattle.object_values.specs.declared.records.Dep.{Dep}
use Rattle.object_values.specs.declared.facts.FactDep.{FactDep}
use Rattle.object_values.specs.declared.items.StoredDep.{StoredDep}
use Rattle.object_values.specs.declared.items.StoredRecord.{StoredRecord}
use Rattle.object_values.specs.declared.views.Value.{Value}
use Rattle.meaning_texts.specs.Limits.{height_limit}
use Rattle.meaning_records.specs.Tables.{AreDepsOf, IsValueOf, MayBeNoted}
use Rattle.meaning_true.specs.Numbered.{value_at, value_seen}
use Rattle.kept_notes.specs.Facts.{IsNumberIn, IsRecordIn, IsSeenIn, contents_by, dep_of, fact_of}
use Rattle.kept_notes.specs.Loaded.{MayBeLoaded, is_abort, is_dep, is_number, is_valued, loaded_dep, loaded_deps, loaded_record, may_note, seen_of}

abort_decides : (s : Status) → Decides (is_abort s) (s ≡ Abort)
abort_decides s = search rules

valued_decides : (value : Option ℕ) (status : Status) → Decides (is_valued value status) (IsNone value ↔ (status ≡ Abort))
valued_decides None status = (
  λ e. (λ none. (abort_decides status).0 e, λ is. refl),
  λ d. (abort_decides status).1 (d.0 refl),
)
valued_decides (Some number) status = by (is_abort status) (abort_decides status)
  where
    by : (b : Bool) → Decides b (status ≡ Abort) → Decides (not b) (IsNone (Some number) ↔ (status ≡ Abort))
    by true d = (λ e. absurd (true≢false (sym e)), λ h. absurd (true≢false (h.1 (d.0 refl))))
    by false d = (λ e. (λ none. absurd (true≢false none), λ is. absurd (true≢false (sym (d.1 is)))), λ h. refl)

-- a number of a content that is there
value_there : (contents : List Value) (number : Option ℕ) (value : Option Value) → IsValueOf contents number value → is_number (length contents) number ≡ true
value_there contents None value is = refl
value_there contents (Some number) None is = absurd is
value_there contents (Some number) (Some value) is = lt-ltb number (length contents) (slice_get_within contents number value is)

get_is : (contents : List Value) (number : ℕ) → number < length contents → IsValueOf contents (Some number) (slice_get contents number)
get_is [] number within = absurd (omega (arith, within))
get_is (c ∷ contents) zero within = refl
get_is (c ∷ contents) (suc number) within = get_is contents number (omega (arith, within))

module _ (contents : List Value) where
  value_is : (number : Option ℕ) → is_number (length contents) number ≡ true → IsValueOf contents number (value_at (contents_by contents) number)
  value_is None test = refl
  value_is (Some number) test = get_is contents number (ltb-true number (length contents) test)

  seen_is : (number : Option ℕ) → is_number (length contents) number ≡ true → IsValueOf contents number (value_seen (contents_by contents) (seen_of number))
  seen_is None test = refl
  seen_is (Some number) test = get_is contents number (ltb-true number (length contents) test)

  deps_are : (reached : ℕ) (deps : List StoredDep) → list_all (is_dep (length contents)) deps ≡ true
      → AreDepsOf contents reached deps (map (dep_of contents) (loaded_deps reached deps))
  deps_are reached [] test = tt
  deps_are reached (d ∷ more) test =
      let h = and_parts _ _ test in (
        record { node = refl; role = refl; value = seen_is d.content h.0 },
        deps_are reached more h.1,
      )

  deps_there : (reached : ℕ) (deps : List StoredDep) (facts : List FactDep) → AreDepsOf contents reached deps facts
      → list_all (is_dep (length contents)) deps ≡ true
  deps_there reached [] facts are = refl
  deps_there reached (d ∷ more) [] are = absurd are
  deps_there reached (d ∷ more) (f ∷ facts) are = and_from _ _ (value_there contents d.content f.value are.0.value) (deps_there reached more facts are.1)

  pub loaded_says : (stored : StoredRecord) → may_note (length contents) stored ≡ true → MayBeNoted contents stored (fact_of contents (loaded_record stored))
  loaded_says stored test =
      let a = and_parts _ _ test in
      let b = and_parts _ _ a.0 in
      let c = and_parts _ _ b.0 in
      let d = and_parts _ _ c.0 in
      let e = and_parts _ _ d.0 in
      record {
        says = record {
          node = refl;
          deps = deps_are stored.reached stored.deps e.0;
          value = value_is stored.value e.1;
          own_status = refl;
          own_messages = refl;
        };
        reached = leb-true stored.reached (length stored.deps) d.1;
        least = leb-true 1 stored.height c.1;
        most = leb-true stored.height height_limit b.1;
        valued = (valued_decides stored.value stored.status).0 a.1;
      }

  loadable_passes : (stored : StoredRecord) → MayBeLoaded contents stored → may_note (length contents) stored ≡ true
  loadable_passes stored n =
      let m = n.1 in
      and_from _ _ (and_from _ _ (and_from _ _ (and_from _ _ (and_from _ _
      (deps_there stored.reached stored.deps n.0.deps m.says.deps)
      (value_there contents stored.value n.0.value m.says.value))
      (le-leb stored.reached (length stored.deps) m.reached))
      (le-leb 1 stored.height m.least))
      (le-leb stored.height height_limit m.most))
      ((valued_decides stored.value stored.status).1 m.valued)

  pub note_decides : (stored : StoredRecord) → Decides (may_note (length contents) stored) (MayBeLoaded contents stored)
  note_decides stored = (λ test. (fact_of contents (loaded_record stored), loaded_says stored test), loadable_passes stored)

  -- ---- in memory

  pub loadable_says : (stored : StoredRecord) → MayBeLoaded contents stored → MayBeNoted contents stored (fact_of contents (loaded_record stored))
  loadable_says stored n = loaded_says stored (loadable_passes stored n)

number_within : (count : ℕ) (number : Option ℕ) → is_number count number ≡ true → IsNumberIn count number
number_within count None test = tt
number_within count (Some number) test = ltb-true number count test

seen_within : (count : ℕ) (number : Option ℕ) → is_number count number ≡ true → IsSeenIn count (seen_of number)
seen_within count None test = tt
seen_within count (Some number) test = ltb-true number count test

deps_within : (count reached : ℕ) (deps : List StoredDep) → list_all (is_dep count) deps ≡ true
    → All (λ (d : Dep). IsSeenIn count d.seen) (loaded_deps reached deps)
deps_within count reached [] test = All-nil (λ (d : Dep). IsSeenIn count d.seen)
deps_within count reached (d ∷ more) test =
    let h = and_parts _ _ test in
    All-cons (λ (x : Dep). IsSeenIn count x.seen) (loaded_dep reached d (length more)) (loaded_deps reached more) (seen_within count d.content h.0)
    (deps_within count reached more h.1)

pub loadable_within : (contents : List Value) (stored : StoredRecord) → MayBeLoaded contents stored → IsRecordIn (length contents) (loaded_record stored)
loadable_within contents stored n =
    let test = loadable_passes contents stored n in
    let a = and_parts _ _ test in
    let b = and_parts _ _ a.0 in
    let c = and_parts _ _ b.0 in
    let d = and_parts _ _ c.0 in
    let e = and_parts _ _ d.0 in
    record { deps = deps_within (length contents) stored.reached stored.deps e.0; value = number_within (length contents) stored.value e.1 }
