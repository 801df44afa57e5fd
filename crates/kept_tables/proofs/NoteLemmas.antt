-- Batches of records of nodes: their items, and what these make of the tables.
use Rattle.std.proofs.Common.{◌≡◌, ◌∙◌, ℕ, List, [], ◌∷◌, ◌++◌, map, append-nil, ap, subst, sym, refl}
use Rattle.std.specs.Prelude.{None, Option, Some}
use Rattle.std.specs.List.{All}
use Rattle.std.proofs.lemmas.List.Elements.{All-head, All-tail}
use Rattle.object_values.specs.declared.facts.Fact.{Fact}
use Rattle.object_values.specs.declared.facts.Fresh.{Fresh}
use Rattle.object_values.specs.declared.items.Item.TheVariants.{Content, Node}
use Rattle.object_values.specs.declared.items.StoredRecord.{StoredRecord}
use Rattle.object_values.specs.declared.records.NodeRecord.{NodeRecord}
use Rattle.object_values.specs.declared.views.Value.{Value}
use Rattle.meaning_texts.specs.Lists.{IsIn}
use Rattle.meaning_texts.proofs.Lemmas.{all_in}
use Rattle.meaning_records.specs.Tables.{IsNoContent, IsShort, LoadsAll, Tables, put_facts, with_fact}
use Rattle.meaning_records.specs.Batches.{AreRecordsOf, IsNotable, IsNotesBatch, needed_values}
use Rattle.meaning_records.proofs.Lemmas.{may_be_noted, short_needed}
use Rattle.object_values.specs.declared.calls.Outcome.{Outcome}
use Rattle.kept_contents.specs.declared.held.HeldCall.{HeldCall}
use Rattle.kept_contents.specs.declared.shared.Content.{Content as Held}
use Rattle.kept_contents.specs.Added.{AddsAll, contents_with}
use Rattle.kept_contents.specs.Stocks.{values_of_contents}
use Rattle.kept_contents.proofs.Lemmas.{added_from, added_new, added_once}
use Rattle.kept_notes.specs.Numbered.{notes_of}
use Rattle.kept_notes.proofs.Lemmas.{all_checked, notes_present, notes_say}
use Rattle.kept_tables.specs.Holdings.{Batch, HasNotes, Holding, MakesBatch, PreparesSome, held_calls_of, items_with, with_batch, with_calls, with_contents, with_notes}
use Rattle.kept_tables.proofs.BatchLemmas.{loads_contents, with_values}

-- the tables once these facts are noted, one after another
abbrev with_facts : Tables → List Fact → Tables
with_facts tables facts = record tables { records = put_facts facts tables.records }

abbrev facts_in : List Fresh → List Fact
facts_in = map (λ (f : Fresh). f.fact)

loads_nodes : (tables : Tables) (fresh : List Fresh) (stored : List StoredRecord) → All IsNotable fresh → AreRecordsOf tables.contents stored fresh
    → LoadsAll tables (map Node stored) (with_facts tables (facts_in fresh))
loads_nodes tables [] [] may are = refl
loads_nodes tables [] (s ∷ stored) may are = absurd are
loads_nodes tables (f ∷ fresh) [] may are = absurd are
loads_nodes tables (f ∷ fresh) (s ∷ stored) may are = (
  with_fact f.fact tables,
  (f.fact, may_be_noted tables.contents s f (All-head IsNotable f fresh may) are.0, refl),
  loads_nodes (with_fact f.fact tables) fresh stored (All-tail IsNotable f fresh may) are.1,
)

-- what a batch notes, by the contents that it adds
pub notes_by_adds : (contents : List Value) (fresh : List Fresh) (values : List Value) → AddsAll contents (needed_values fresh) [] values → (stored : List StoredRecord)
    → AreRecordsOf (contents ++ values) stored fresh → IsNotesBatch contents fresh (map Content values ++ map Node stored)
notes_by_adds contents fresh values adds stored are = record {
  added = values;
  once = added_once contents (needed_values fresh) [] values adds tt;
  needed = all_in (λ (v : Value). IsIn v (needed_values fresh)) values (added_from contents (needed_values fresh) values adds);
  new = all_in (IsNoContent contents) values (added_new contents (needed_values fresh) values adds);
  stored = stored;
  records = are;
  items_are = refl;
}

pub notes_short : (contents : List Value) (fresh : List Fresh) (values : List Value) → All IsNotable fresh → AddsAll contents (needed_values fresh) [] values
    → All IsShort values
notes_short contents fresh values may adds = all_in IsShort values (λ v i. short_needed fresh may v (added_from contents (needed_values fresh) values adds v i))

module _ (old kept : Holding) (same : kept.tables ≡ old.tables) (added : List Held) (batch : Batch) (fresh : List Fresh) (may : All IsNotable fresh) where
  module _ (adds : AddsAll old.tables.contents (needed_values fresh) [] (values_of_contents added)) (stored : List StoredRecord)
      (are : AreRecordsOf (contents_with old.tables.contents added) stored fresh) where
    notes_items : IsNotesBatch old.tables.contents fresh (items_with added (map Node stored))
    notes_items = notes_by_adds old.tables.contents fresh (values_of_contents added) adds stored are

    -- what the batch makes of the tables, by what is to be noted
    abbrev noted_tables : Tables
    noted_tables = with_facts (with_values old.tables (values_of_contents added)) (facts_in fresh)

    notes_load : LoadsAll old.tables (items_with added (map Node stored)) noted_tables
    notes_load = loads_contents old.tables (values_of_contents added) (map Node stored) noted_tables
        (λ v i. short_needed fresh may v (added_from old.tables.contents (needed_values fresh) (values_of_contents added) adds v i))
        (loads_nodes (with_values old.tables (values_of_contents added)) fresh stored may are)

    module _ (epoch : ℕ) (makes : MakesBatch added (map Node stored) None (notes_of (Some epoch) stored fresh) kept batch) where
      notes_made : with_batch kept.tables batch ≡ noted_tables
      notes_made =
          let say = notes_say (contents_with old.tables.contents added) (Some epoch) stored fresh may are in
          let more = with_contents old.tables added in
          let all = append-nil old.tables.calls in
          ap (λ (t : Tables). with_batch t batch) same
          ∙ ap (λ (l : List Held). with_calls (with_notes (with_contents old.tables l) batch.notes) (held_calls_of batch.call)) makes.added_is
          ∙ ap (λ (l : List NodeRecord). with_calls (with_notes more l) (held_calls_of batch.call)) makes.notes_are
          ∙ ap (λ (o : Option (HeldCall × Outcome)). with_calls (with_notes more (notes_of (Some epoch) stored fresh)) (held_calls_of o)) makes.call_is
          ∙ (λ i. record { contents = more.contents; calls = all i; records = put_facts (say i) old.tables.records })

      pub notes_prepared : PreparesSome (IsNotesBatch old.tables.contents fresh) kept batch
      notes_prepared = (
        items_with added (map Node stored),
        notes_items,
        record {
          fit = makes.fit;
          spelled = makes.spelled;
          next = with_batch kept.tables batch;
          loads = subst (λ (t : Tables). LoadsAll t (items_with added (map Node stored)) (with_batch kept.tables batch)) (sym same)
              (subst (λ (t : Tables). LoadsAll old.tables (items_with added (map Node stored)) t) (sym notes_made) notes_load);
          commits = makes.commits;
        },
      )

      pub notes_had : HasNotes epoch kept fresh batch
      notes_had = record {
        say = rw (same, makes.added_is, makes.notes_are) (notes_say (contents_with old.tables.contents added) (Some epoch) stored fresh may are);
        present = rw makes.notes_are (notes_present (contents_with old.tables.contents added) (Some epoch) stored fresh are);
        checked = rw makes.notes_are (all_checked (Some epoch) stored fresh);
      }
