-- What the reading of an item brings, and where it brings nothing.
use Rattle.std.proofs.Common.{◌≡◌, ◌∙◌, ℕ, List, ap, sym, subst, refl}
use Rattle.std.specs.Prelude.{IsNone, Some, option_map, slice_get}
use Rattle.object_values.specs.declared.calls.Call.{Call}
use Rattle.object_values.specs.declared.calls.Outcome.{Outcome}
use Rattle.std.specs.Bool.{Decides}
use Rattle.std.proofs.lemmas.Option.{slice_get-map}
use Rattle.meaning_texts.specs.Classes.{IsName, is_name_byte}
use Rattle.meaning_texts.specs.Tests.{is_name}
use Rattle.meaning_texts.proofs.Lemmas.{word_decides}
use Rattle.meaning_calls.specs.Jobs.{IsWellFormed}
use Rattle.meaning_calls.specs.Outcomes.{OutcomeFits}
use Rattle.object_values.specs.declared.items.StoredCall.{StoredCall}
use Rattle.object_values.specs.declared.items.StoredOutcome.{StoredOutcome}
use Rattle.object_values.specs.declared.items.Item.{Item}
use Rattle.object_values.specs.declared.items.StoredRecord.{StoredRecord}
use Rattle.object_values.specs.declared.items.Item.TheVariants.{Kept, Node}
use Rattle.object_values.specs.declared.records.NodeRecord.{NodeRecord}
use Rattle.meaning_records.specs.Forms.{ParsesAt, StandsNowhere}
use Rattle.meaning_records.specs.FormLemmas.{one_item}
use Rattle.meaning_records.specs.PlaceLemmas.{one_stands}
use Rattle.meaning_records.specs.Records.{item}
use Rattle.meaning_records.specs.Tables.{Tables, IsCallOf, IsOutcomeOf, Loads, with_call, with_fact, kept_outcome}
use Rattle.kept_contents.proofs.Lemmas.{one_call, one_outcome}
use Rattle.kept_notes.specs.Facts.{fact_of, facts_of}
use Rattle.kept_notes.specs.Loaded.{MayBeLoaded, loaded_record}
use Rattle.kept_notes.proofs.Lemmas.{loadable_says}
use Rattle.kept_tables.specs.declared.loaded.Loaded.{Loaded}
use Rattle.kept_tables.specs.declared.loaded.Loaded.TheVariants.{Noted}
use Rattle.kept_tables.specs.Holdings.{Holding, MayKeep}
use Rattle.kept_tables.specs.Loading.{LoadsItem, LoadsNothing, TakesInItem}

module _ (payload : List ℕ) (at : ℕ) (old : Tables) where
  pub nothing_there : StandsNowhere item payload at → LoadsNothing payload at old
  nothing_there nowhere it end new stands loads = nowhere it end stands

  pub nothing_taken : (end : ℕ) (it : Item) → ParsesAt item payload at end it → ((new : Tables) → Loads old it new → ⊥) → LoadsNothing payload at old
  nothing_taken end it stood none other last new stands loads =
      none new (subst (λ (i : Item). Loads old i new) (one_stands item one_item payload at last end other it stands stood).0 loads)

  pub taken : (end : ℕ) (it : Item) (new : Tables) (given : Loaded) → ParsesAt item payload at end it → TakesInItem it old new given → LoadsItem payload at end given old new
  taken end it new given stands takes = record { it = it; stands = stands; loads = takes.loads; gives = takes.gives }

module _ (old : Tables) (stored : StoredCall) (given : StoredOutcome) where
  pub no_call : ((call : Call) → IsCallOf old.contents stored call → ⊥) → (new : Tables) → Loads old (Kept stored given) new → ⊥
  no_call none new l = none l.0 l.2.called

  pub no_outcome : ((outcome : Outcome) → IsOutcomeOf old.contents given outcome → ⊥) → (new : Tables) → Loads old (Kept stored given) new → ⊥
  no_outcome none new l = none l.1 l.2.came

  module _ (call : Call) (outcome : Outcome) (called : IsCallOf old.contents stored call) (came : IsOutcomeOf old.contents given outcome) where
    pub not_kept : (MayKeep old call outcome → ⊥) → (new : Tables) → Loads old (Kept stored given) new → ⊥
    not_kept unfit new l =
        let a : l.0 ≡ call = one_call old.contents stored l.0 call l.2.called called in
        let b : l.1 ≡ outcome = one_outcome old.contents given l.1 outcome l.2.came came in
        let fits = subst (λ (o : Outcome). OutcomeFits call o) b (subst (λ (c : Call). OutcomeFits c l.1) a l.2.fits) in
        unfit (record { formed = subst IsWellFormed a l.2.formed; fits = fits; new = subst (λ (c : Call). IsNone (kept_outcome old.calls c)) a l.2.new })

    pub kept : MayKeep old call outcome → Loads old (Kept stored given) (with_call call outcome old)
    kept may = (call, outcome, record { called = called; came = came; formed = may.formed; fits = may.fits; new = may.new }, refl)

module _ (old : Tables) (stored : StoredRecord) where
  pub not_noted : (MayBeLoaded old.contents stored → ⊥) → (new : Tables) → Loads old (Node stored) new → ⊥
  not_noted unfit new l = unfit (l.0, l.1)

  -- what the record at a place says, where the contents are as before
  fact_there : (given : NodeRecord) (place : ℕ) (new : Holding) → new.tables ≡ with_fact (fact_of old.contents given) old
      → new.tables.records ≡ facts_of new.tables.contents new.records.records → slice_get new.records.records place ≡ Some given
      → slice_get new.tables.records place ≡ Some (fact_of old.contents given)
  fact_there given place new new_is say at =
      let same : new.tables.contents ≡ old.contents = ap (λ (t : Tables). t.contents) new_is in
      ap (λ l. slice_get l place) say
      ∙ slice_get-map (fact_of new.tables.contents) new.records.records place
      ∙ ap (option_map (fact_of new.tables.contents)) at
      ∙ ap (λ l. Some (fact_of l given)) same

  pub noted : MayBeLoaded old.contents stored → (given : NodeRecord) (place : ℕ) (new : Holding) → given ≡ loaded_record stored
      → new.tables ≡ with_fact (fact_of old.contents given) old
      → new.tables.records ≡ facts_of new.tables.contents new.records.records → slice_get new.records.records place ≡ Some given
      → TakesInItem (Node stored) old new.tables (Noted place)
  noted may given place new given_is new_is say at =
      let says = loadable_says old.contents stored may in
      let loaded = loaded_record stored in
      record {
        loads = (fact_of old.contents loaded, says, new_is ∙ ap (λ (r : NodeRecord). with_fact (fact_of old.contents r) old) given_is);
        gives = record {
          fact = fact_of old.contents loaded;
          says = says.says;
          place = place;
          there = fact_there given place new new_is say at ∙ ap (λ (r : NodeRecord). Some (fact_of old.contents r)) given_is;
          is = refl;
        };
      }

pub name_decides : (text : List ℕ) → Decides (is_name text) (IsName text)
name_decides = word_decides is_name_byte
