-- Live batches, one after another.
use Rattle.std.proofs.Common.{◌≡◌, ◌+◌, ◌≤◌, ◌<◌, ℕ, zero, suc, List, [], ◌∷◌, ◌++◌, length, take, drop, append-nil, append_assoc, ap, sym, ◌∙◌, subst, refl, arith}
use Rattle.std.specs.Prelude.{Some, None, slice_get}
use Rattle.std.specs.FinMap as names
use Rattle.std.proofs.lemmas.List.{take_more, drop-map, length-append, length-map}
use Rattle.std.proofs.lemmas.Option.{none-some, slice_get_within, get_or_from_slice_get}
use Rattle.object_values.specs.declared.views.Value.{Value}
use Rattle.object_values.specs.declared.views.Value.TheVariants.{Simple}
use Rattle.object_values.specs.declared.calls.Call.{Call}
use Rattle.object_values.specs.declared.calls.Outcome.{Outcome}
use Rattle.object_values.specs.declared.facts.Fresh.{Fresh}
use Rattle.object_values.specs.declared.items.StoredCall.{StoredCall}
use Rattle.object_values.specs.declared.items.StoredOutcome.{StoredOutcome}
use Rattle.object_values.specs.declared.items.StoredRecord.{StoredRecord}
use Rattle.object_values.specs.declared.items.Item.{Item}
use Rattle.object_values.specs.declared.items.Item.TheVariants.{Put, Kept, Node}
use Rattle.meaning_records.specs.Tables.{IsText, IsCallOf, IsOutcomeOf}
use Rattle.meaning_records.specs.Batches.{contents_of, fact_values, needed_texts, graph_batch, IsPutBatch, IsCallBatch, IsRecordOf}
use Rattle.meaning_records.specs.Live.{content_in, contents_after, AreBatchesOf, IsSourceBatch, IsKeptBatch, IsRecordBatch, AreLive, Live}
use Rattle.meaning_records.proofs.Lemmas.{contents_in}
use Rattle.kept_contents.specs.declared.shared.Content.{Content as Held}
use Rattle.kept_contents.specs.Added.{texts_of_parts, texts_of_outputs, contents_with, AddsAll, AddsOne, AddsTexts}
use Rattle.kept_contents.specs.Stocks.{value_of, values_of_contents}
use Rattle.kept_contents.proofs.Lemmas.{add_after, adds_after, texts_append}
use Rattle.kept_tables.specs.declared.live_batches.LiveBatches.{LiveBatches}
use Rattle.kept_tables.specs.Batching.{batch_of, AddsLiveBatch, AddsLiveBatches, IsFresh}
use Rattle.kept_tables.proofs.BatchLemmas.{call_by_adds, call_stays, put_by_adds}
use Rattle.kept_tables.proofs.NoteLemmas.{notes_by_adds}

abbrev Values : Type 0
Values = List Value

-- ---- the batch of what was added, over what stood before

-- Contents came after the others, and the item with these before it is such a batch.
pub record Batched (IsBatch : Values → List Item → Type 0) (old new : List Held) (last : Item) : Type 0 where
  pub more : Values
  pub grown : values_of_contents new ≡ values_of_contents old ++ more
  pub is : IsBatch (values_of_contents old) (batch_of more last)

module _ (first : Values) (none : first ≡ []) where
  module _ (old new : List Held) where
    pub put_batch : (name text : List ℕ) (number : ℕ) → AddsOne first (Simple text) (values_of_contents old) (values_of_contents new) → IsText (contents_with first new) number text
        → Batched (λ contents. IsPutBatch contents name text) old new (Put name number)
    put_batch name text number adds at =
        let a = add_after (values_of_contents old) (Simple text) (values_of_contents new) (subst (λ (l : Values). AddsOne l (Simple text) (values_of_contents old) (values_of_contents new)) none adds) in
        let there = subst (λ (l : Values). IsText (l ++ values_of_contents new) number text) none at in
        record {
          more = a.0;
          grown = a.1;
          is = put_by_adds (values_of_contents old) name text a.0 a.2 number (subst (λ (l : Values). IsText l number text) a.1 there);
        }

    pub record_batch : (fresh : Fresh) (stored : StoredRecord) → AddsAll first (fact_values fresh.fact) (values_of_contents old) (values_of_contents new)
        → IsRecordOf (contents_with first new) stored fresh → Batched (λ contents. IsRecordBatch contents fresh) old new (Node stored)
    record_batch fresh stored adds is =
        let needs = subst (λ (l : Values). AddsAll l (fact_values fresh.fact) (values_of_contents old) (values_of_contents new)) none adds in
        let a = adds_after (values_of_contents old) (fact_values fresh.fact) (values_of_contents new) needs in
        let there = subst (λ (l : Values). IsRecordOf (l ++ values_of_contents new) stored fresh) none is in
        let each = subst (λ (l : Values). AddsAll (values_of_contents old) l [] a.0) (sym (append-nil (fact_values fresh.fact))) a.2 in
        record {
          more = a.0;
          grown = a.1;
          is = notes_by_adds (values_of_contents old) (fresh ∷ []) a.0 each (stored ∷ []) (subst (λ (l : Values). IsRecordOf l stored fresh) a.1 there, tt);
        }

  pub call_batch : (old middle new : List Held) (call : Call) (outcome : Outcome) (stored : StoredCall) (given : StoredOutcome)
      → AddsTexts first (texts_of_parts call.parts) (values_of_contents old) (values_of_contents middle) → IsCallOf (contents_with first middle) stored call
      → AddsTexts first (texts_of_outputs outcome.outputs) (values_of_contents middle) (values_of_contents new) → IsOutcomeOf (contents_with first new) given outcome
      → Batched (λ contents. IsCallBatch contents call outcome) old new (Kept stored given)
  call_batch old middle new call outcome stored given front called back came =
      let both = texts_append first (texts_of_parts call.parts) (texts_of_outputs outcome.outputs) (values_of_contents old) (values_of_contents middle) (values_of_contents new) front back in
      let needs = subst (λ (l : Values). AddsTexts l (needed_texts call outcome) (values_of_contents old) (values_of_contents new)) none both in
      let a = adds_after (values_of_contents old) (contents_of (needed_texts call outcome)) (values_of_contents new) needs in
      let later = call_stays first (contents_of (texts_of_outputs outcome.outputs)) middle new stored call back called in
      let there = subst (λ (l : Values). IsCallOf (l ++ values_of_contents new) stored call) none later in
      let came_there = subst (λ (l : Values). IsOutcomeOf (l ++ values_of_contents new) given outcome) none came in
      record {
        more = a.0;
        grown = a.1;
        is = call_by_adds (values_of_contents old) call outcome a.0 a.2 stored given (subst (λ (l : Values). IsCallOf l stored call) a.1 there)
            (subst (λ (l : Values). IsOutcomeOf l given outcome) a.1 came_there);
      }

-- ---- one batch

dropped : (xs ys : Values) → drop (length xs) (xs ++ ys) ≡ ys
dropped [] ys = refl
dropped (x ∷ xs) ys = dropped xs ys

-- contents only come after the others
pub longer : {IsBatch : Values → List Item → Type 0} (old new : List Held) (last : Item) → Batched IsBatch old new last → length old ≤ length new
longer old new last batch =
    let both = ap length batch.grown ∙ length-append (values_of_contents old) batch.more in
    let before = length-map old value_of in
    let after = length-map new value_of in
    omega (arith, both, before, after)

-- what a batch adds to the contents
pub contents_grown : (base more : Values) (last : Item) → content_in last ≡ [] → base ++ more ≡ contents_after base (batch_of more last)
contents_grown base more last none = ap (λ (l : Values). base ++ l) (sym (contents_in more last none))

pub adds_last : {IsBatch : Values → List Item → Type 0} (old new : LiveBatches) (middle : List Held) (from : ℕ) (last : Item) → content_in last ≡ [] → Batched IsBatch old.added middle last
    → from ≡ length old.added → new.added ≡ middle → IsFresh new.table new.added
    → new.batches ≡ old.batches ++ batch_of (values_of_contents (drop from middle)) last ∷ [] → AddsLiveBatch IsBatch old new
adds_last old new middle from last none batch long same fresh grown =
    let base = values_of_contents old.added in
    let start : from ≡ length base = long ∙ sym (length-map old.added value_of) in
    let cut : values_of_contents (drop from middle) ≡ batch.more
    = sym (drop-map value_of from middle) ∙ ap (drop from) batch.grown ∙ ap (λ n. drop n (base ++ batch.more)) start ∙ dropped base batch.more in
    record {
      items = batch_of batch.more last;
      is = batch.is;
      batches = grown ∙ ap (λ (l : Values). old.batches ++ batch_of l last ∷ []) cut;
      contents = ap values_of_contents same ∙ batch.grown ∙ contents_grown base batch.more last none;
      fresh = fresh;
    }

-- ---- many batches

module _ {T : Type 0} (IsBatch : Values → T → List Item → Type 0) where
  pub adds_none : (live : LiveBatches) → IsFresh live.table live.added → AddsLiveBatches IsBatch [] live live
  adds_none live fresh = record { more = []; are = refl; batches = sym (append-nil live.batches); fresh = fresh }

  pub batches_push : (contents : Values) (things : List T) (batches : List (List Item)) (middle : Values) (thing : T) (items : List Item) (after : Values) → AreBatchesOf IsBatch contents things batches middle
      → IsBatch middle thing items → after ≡ contents_after middle items → AreBatchesOf IsBatch contents (things ++ thing ∷ []) (batches ++ items ∷ []) after
  batches_push contents [] [] middle thing items after are is e = (subst (λ (l : Values). IsBatch l thing items) are is, e ∙ ap (λ (l : Values). contents_after l items) are)
  batches_push contents [] (b ∷ batches) middle thing items after are is e = absurd are
  batches_push contents (t ∷ things) [] middle thing items after are is e = absurd are
  batches_push contents (t ∷ things) (b ∷ batches) middle thing items after are is e = (are.0, batches_push (contents_after contents b) things batches middle thing items after are.1 is e)

  pub adds_next : (things : List T) (i : ℕ) (thing : T) (old middle new : LiveBatches) → slice_get things i ≡ Some thing → AddsLiveBatches IsBatch (take i things) old middle
      → AddsLiveBatch (λ contents. IsBatch contents thing) middle new → AddsLiveBatches IsBatch (take (i + 1) things) old new
  adds_next things i thing old middle new at before one =
      let taken : take (i + 1) things ≡ take i things ++ thing ∷ [] = take_more things i thing (slice_get_within things i thing at) ∙ ap (λ (t : T). take i things ++ t ∷ []) (get_or_from_slice_get things i thing thing at) in
      record {
        more = before.more ++ one.items ∷ [];
        are = subst (λ (l : List T). AreBatchesOf IsBatch (values_of_contents old.added) l (before.more ++ one.items ∷ []) (values_of_contents new.added)) (sym taken)
            (batches_push (values_of_contents old.added) (take i things) before.more (values_of_contents middle.added) thing one.items (values_of_contents new.added) before.are one.is one.contents);
        batches = one.batches ∙ ap (λ (l : List (List Item)). l ++ one.items ∷ []) before.batches ∙ append_assoc old.batches before.more (one.items ∷ []);
        fresh = one.fresh;
      }

pub none_within : {A : Type 0} (xs : List A) (i : ℕ) → slice_get xs i ≡ None → i < length xs → ⊥
none_within [] i none lt = omega (arith, lt)
none_within (x ∷ xs) zero none lt = none-some x (sym none)
none_within (x ∷ xs) (suc i) none lt = none_within xs i none (omega (arith, lt))

-- all of them
pub all_live : (live : Live) (first second third last : LiveBatches) → first.added ≡ [] → first.batches ≡ graph_batch live.graph ∷ []
    → AddsLiveBatches IsSourceBatch (names.entries live.sources) first second → AddsLiveBatches IsKeptBatch live.calls second third
    → AddsLiveBatches IsRecordBatch live.records third last → AreLive live last.batches (values_of_contents last.added)
all_live live first second third last none start puts keeps notes = record {
  puts = puts.more;
  keeps = keeps.more;
  notes = notes.more;
  put = values_of_contents second.added;
  kept = values_of_contents third.added;
  sourced = subst (λ (l : List Held). AreBatchesOf IsSourceBatch (values_of_contents l) (names.entries live.sources) puts.more (values_of_contents second.added)) none puts.are;
  called = keeps.are;
  noted = notes.are;
  batches_are = notes.batches
      ∙ ap (λ (l : List (List Item)). l ++ notes.more) (keeps.batches ∙ ap (λ (l : List (List Item)). l ++ keeps.more) (puts.batches ∙ ap (λ (l : List (List Item)). l ++ puts.more) start));
}
