-- A batch of records of nodes reads as what is noted by it.
use Rattle.std.proofs.Common.{ℕ, ◌≤◌, List, [], ◌∷◌, ◌++◌, map, Option, Some, None, All, refl, sym, subst, ◌∙◌, append-nil, append_assoc}
use Rattle.std.specs.Prelude.{◌↔◌, IsSome, IsNone}
use Rattle.std.proofs.lemmas.List.Elements.{All-head, All-tail}
use Rattle.object_values.specs.declared.facts.Fact.{Fact}
use Rattle.object_values.specs.declared.facts.Fresh.{Fresh}
use Rattle.object_values.specs.declared.views.Value.{Value}
use Rattle.meaning_texts.specs.Limits.{height_limit}
use Rattle.meaning_texts.specs.Lists.{IsIn}
use Rattle.meaning_texts.proofs.Lemmas.{from_flat, in_all, all_in}
use Rattle.object_values.specs.declared.items.StoredRecord.{StoredRecord}
use Rattle.object_values.specs.declared.items.Item.{Item}
use Rattle.object_values.specs.declared.items.Item.TheVariants.{Node}
use Rattle.meaning_records.specs.Tables.{IsShort, IsValueOf, MayBeNoted, put_facts}
use Rattle.meaning_records.specs.States.{State, TakesAll}
use Rattle.meaning_records.specs.Batches.{facts_of, fact_values, needed_values, IsNotable, IsRecordOf, AreRecordsOf, IsNotesBatch}
use Rattle.meaning_records.specs.Laws.{noted_in, with_facts, ItemsReadAs}
use Rattle.meaning_records.proofs.Noting.{with_noted, note_taken}
use Rattle.meaning_records.proofs.Writing.{with_more, contents_taken}

-- ---- one record

-- a record has a number where the fact has a value
none_both : (contents : List Value) (number : Option ℕ) (value : Option Value) → IsValueOf contents number value → IsNone number ↔ IsNone value
none_both contents None None there = (λ e. refl, λ e. refl)
none_both contents None (Some value) there = let n : ⊥ = cc in absurd n
none_both contents (Some number) None there = absurd there
none_both contents (Some number) (Some value) there = (λ e. let n : ⊥ = cc in absurd n, λ e. let n : ⊥ = cc in absurd n)

pub may_be_noted : (contents : List Value) (stored : StoredRecord) (fresh : Fresh) → IsNotable fresh → IsRecordOf contents stored fresh → MayBeNoted contents stored fresh.fact
may_be_noted contents stored fresh may is =
    let both = none_both contents stored.value fresh.fact.value is.says.value in
    record {
      says = is.says;
      reached = is.reached;
      least = subst (λ n. 1 ≤ n) (sym is.height) may.least;
      most = subst (λ n. n ≤ height_limit) (sym is.height) may.most;
      valued = (λ none. is.status ∙ may.valued.0 (both.0 none), λ abort. both.1 (may.valued.1 (sym is.status ∙ abort)));
    }

-- ---- records one after another

-- what is kept once these facts are noted
abbrev with_all : State → List Fact → State
with_all old facts = record {
  tables = record { contents = old.tables.contents; calls = old.tables.calls; records = put_facts facts old.tables.records };
  sources = old.sources;
  graph = old.graph;
  noted = old.noted ++ facts;
}

records_taken : (fresh : List Fresh) (stored : List StoredRecord) (old : State) → IsSome old.graph → All IsNotable fresh → AreRecordsOf old.tables.contents stored fresh
    → TakesAll old (map Node stored) (with_all old (facts_of fresh))
records_taken [] [] old some may are = λ i. record { tables = old.tables; sources = old.sources; graph = old.graph; noted = append-nil old.noted i }
records_taken [] (s ∷ stored) old some may are = absurd are
records_taken (f ∷ fresh) [] old some may are = absurd are
records_taken (f ∷ fresh) (s ∷ stored) old some may are =
    let next : State = with_noted old f.fact in
    let first = may_be_noted old.tables.contents s f (All-head IsNotable f fresh may) are.0 in
    let rest = records_taken fresh stored next some (All-tail IsNotable f fresh may) are.1 in
    let moved : TakesAll next (map Node stored) (with_all old (facts_of (f ∷ fresh)))
    = subst (λ (all : List Fact). TakesAll next (map Node stored) (record { tables = (with_all next (facts_of fresh)).tables; sources = old.sources; graph = old.graph; noted = all }))
    (append_assoc old.noted (f.fact ∷ []) (facts_of fresh)) rest in
    (next, note_taken old s f.fact some first, moved)

-- ---- batches

-- what is needed is short
pub short_needed : (fresh : List Fresh) → All IsNotable fresh → (value : Value) → IsIn value (needed_values fresh) → IsShort value
short_needed fresh may value there =
    let found = from_flat (λ (f : Fresh). fact_values f.fact) value fresh there in
    in_all IsShort (fact_values found.0.fact) (in_all IsNotable fresh may found.0 found.1).short value found.2

pub notes_read : (old : State) (fresh : List Fresh) (items : List Item) → IsSome old.graph → All IsNotable fresh → IsNotesBatch old.tables.contents fresh items
    → ItemsReadAs old items old.tables.calls old.sources old.graph (with_facts (noted_in old) (facts_of fresh))
notes_read old fresh items some may batch =
    let next : State = with_more old batch.added in
    let last : State = with_all next (facts_of fresh) in
    let short : All IsShort batch.added
    = all_in IsShort batch.added (λ value there. short_needed fresh may value (in_all (λ (v : Value). IsIn v (needed_values fresh)) batch.added batch.needed value there)) in
    let noted : TakesAll next (map Node batch.stored) last = records_taken fresh batch.stored next some may batch.records in
    record {
      new = last;
      taken = subst (λ (l : List Item). TakesAll old l last) (sym batch.items_are) (contents_taken batch.added short old (map Node batch.stored) last noted);
      more = batch.added;
      contents_are = refl;
      calls_are = refl;
      sources_are = refl;
      graph_is = refl;
      noted_is = refl;
    }
