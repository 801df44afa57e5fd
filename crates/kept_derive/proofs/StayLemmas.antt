-- What stays as calls are kept, and what is new then.
use Rattle.std.proofs.Common.{◌≡◌, ◌⊎◌, [], ◌∷◌, ◌++◌, Bool, true, false, cond, inl, inr, refl, sym, ap, subst, ◌∙◌}
use Rattle.std.specs.Prelude.{Option, Some, None}
use Rattle.object_values.specs.declared.calls.Call.{Call}
use Rattle.object_values.specs.declared.calls.Outcome.{Outcome}
use Rattle.object_values.specs.contracts.calls.CallPartialEq.TheImpl.{ghosts as call_eq}
use Rattle.object_values.specs.Exact.{call_exact}
use Rattle.odin_outside.specs.Disk.{Telling}
use Rattle.meaning_texts.specs.Lists.{IsIn}
use Rattle.meaning_graph.specs.Graphs.{Graph}
use Rattle.meaning_derive.specs.Derive.{Outcomes}
use Rattle.meaning_records.specs.Tables.{Calls, kept_outcome}
use Rattle.meaning_true.specs.Knowing.{KeptRecords}
use Rattle.odin_store.specs.declared.store.Store.{Store}
use Rattle.odin_store.specs.Held.{Held}
use Rattle.odin_store.specs.OnDisk.{held_in, KeepsNodes}
use Rattle.odin_store.specs.Going.{Performs}
use Rattle.derive_walk.specs.Calls.{AreOnce, outcome_in}
use Rattle.derive_walk.specs.Outcomes.{given_or, after}
use Rattle.derive_walk.specs.Places.{KeptPlaces}
use Rattle.derive_walk.specs.Worlds.{world_over}
use Rattle.plain_derive.specs.Given.{calls_of}
use Rattle.plain_derive.specs.GivenLaws.{AreNew}
use Rattle.kept_derive.specs.Knowing.{known_in, store_places, store_records}
use Rattle.kept_derive.specs.Runs.{At, store_world, keeps_of}
use Rattle.kept_derive.specs.Telling.{world_now}
use Rattle.kept_derive.proofs.HeldLemmas.{held_after_all, calls_after, sources_after, records_after_all, same_known, known_after}
use Rattle.kept_derive.proofs.KnowLemmas.{SaysFacts, places_stay, records_stay}

-- ---- the graph, the records of nodes, and what is known

module _ {D : Type 0} (told : D → Telling) (given : Calls) (store next : Store) (disk after : D) (goes : Performs told (keeps_of given) store next disk after) where
  pub graph_after : next.graph ≡ store.graph
  graph_after = ap (λ (h : Held). h.text) (goes.holds ∙ held_after_all given [] (held_in store))

  pub facts_after : next.kept.tables.records ≡ store.kept.tables.records
  facts_after = records_after_all told given [] store next disk after goes

module _ {D : Type 0} (told : D → Telling) (g : Graph) (first : At D) (given : Calls) (now : At D) (goes : Performs told (keeps_of given) first.store now.store first.disk now.disk) where
  pub known_now : AreNew (known_in first.store) given → ◌≡◌ {A = Outcomes} (known_in now.store) (after (known_in first.store) given)
  known_now new = ap kept_outcome (calls_after told given first.store now.store first.disk now.disk goes) ∙ known_after first.store.kept.tables.calls given new

  module _ (nodes : KeepsNodes first.store now.store) (epoch : now.store.epoch ≡ first.store.epoch) (before : SaysFacts first.store) (later : SaysFacts now.store) where
    records_are : ◌≡◌ {A = KeptRecords} (store_records now.store) (store_records first.store)
    records_are = records_stay first.store now.store before later nodes (facts_after told given first.store now.store first.disk now.disk goes) epoch

    places_are : ◌≡◌ {A = KeptPlaces} (store_places now.store) (store_places first.store)
    places_are = places_stay first.store now.store before later nodes (facts_after told given first.store now.store first.disk now.disk goes) epoch

    pub worlds_are : store_world g now.store given ≡ store_world g first.store given
    worlds_are =
        let sources = sources_after told given first.store now.store first.disk now.disk goes in
        let calls = calls_after told given first.store now.store first.disk now.disk goes in
        let known : ◌≡◌ {A = Outcomes} (after (known_in now.store) given) (after (known_in first.store) given) = ap (λ (l : Calls). after (kept_outcome l) given) calls ∙ same_known first.store.kept.tables.calls given in
        λ i. world_over (records_are i) (places_are i) g (sources i) (known i)

    -- Where all that was given is kept, it is known no other way.
    pub world_is_now : AreNew (known_in first.store) given → world_now g now.store ≡ store_world g first.store given
    world_is_now new =
        let sources = sources_after told given first.store now.store first.disk now.disk goes in
        let known : ◌≡◌ {A = Outcomes} (known_in now.store) (after (known_in first.store) given) = known_now new in
        λ i. world_over (records_are i) (places_are i) g (sources i) (known i)

-- ---- what is new

-- no call was given an outcome, nor is it kept
pub outside : (given kept : Option Outcome) → given_or given kept ≡ None → kept ≡ None
outside None kept e = e
outside (Some x) kept e = cc

-- a call that is known no more than was given is none of those
not_among : (kept : Outcomes) (given : Calls) (call : Call) → after kept given call ≡ None → IsIn call (calls_of given) → ⊥
not_among kept [] call none i = i
not_among kept (x ∷ given) call none i = by_test (call_eq.eq call x.0) refl none (not_among kept given call)
  where
    by_test : (b : Bool) → call_eq.eq call x.0 ≡ b → given_or (cond b (Some x.1) (outcome_in given call)) (kept call) ≡ None → (after kept given call ≡ None → IsIn call (calls_of given) → ⊥) → ⊥
    by_test true same none below = cc
    by_test false same none below = elim i [
      | inl e ↦ let yes : call_eq.eq call x.0 ≡ true = (call_exact call x.0).1 e in cc
      | inr j ↦ below none j
    ]

with_last : (calls : Calls) (call : Call) (outcome : Outcome) (c : Call) → IsIn c (calls_of (calls ++ (call, outcome) ∷ [])) → IsIn c (calls_of calls) ⊎ (c ≡ call)
with_last [] call outcome c (inl e) = inr e
with_last [] call outcome c (inr none) = absurd none
with_last (x ∷ calls) call outcome c (inl e) = inl (inl e)
with_last (x ∷ calls) call outcome c (inr i) = elim (with_last calls call outcome c i) [ inl j ↦ inl (inr j) | inr e ↦ inr e ]

once_and_one : (calls : Calls) (call : Call) (outcome : Outcome) → AreOnce (calls_of calls) → (IsIn call (calls_of calls) → ⊥) → AreOnce (calls_of (calls ++ (call, outcome) ∷ []))
once_and_one [] call outcome once new = (λ i. i, tt)
once_and_one (x ∷ calls) call outcome once new = (
  λ i. elim (with_last calls call outcome x.0 i) [ inl j ↦ once.0 j | inr e ↦ new (inl (sym e)) ],
  once_and_one calls call outcome once.1 (λ i. new (inr i)),
)

-- What was given is new with the outcome of a call that had none.
pub one_more_new : (kept : Outcomes) (given : Calls) (call : Call) (outcome : Outcome) → AreNew kept given → after kept given call ≡ None → AreNew kept (given ++ (call, outcome) ∷ [])
one_more_new kept given call outcome new none = record {
  once = once_and_one given call outcome new.once (not_among kept given call none);
  none = λ c i. elim (with_last given call outcome c i) [
    | inl j ↦ new.none c j
    | inr e ↦ subst (λ z. kept z ≡ None) (sym e) (outside (outcome_in given call) (kept call) none)
  ];
}
