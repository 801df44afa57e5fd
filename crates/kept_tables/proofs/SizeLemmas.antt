-- How long the batches of a rewritten store are, counted without them.
use Rattle.std.proofs.Common.{◌≡◌, ◌+◌, ◌<◌, ℕ, List, [], ◌∷◌, ◌++◌, length, map, take, get_or, length-append, append-nil, ap, sym, ◌∙◌, subst, refl, arith}
use Rattle.std.specs.Prelude.{Option, Some, None, slice_get}
use Rattle.std.specs.List.{flat_map}
use Rattle.std.specs.FinMap as names
use Rattle.std.proofs.lemmas.Grind.{flat_map-append}
use Rattle.std.proofs.lemmas.List.{take_more, map-append}
use Rattle.std.proofs.lemmas.Option.{slice_get_within, get_or_from_slice_get}
use Rattle.object_values.specs.declared.views.Part.{Part}
use Rattle.object_values.specs.declared.views.Value.{Value}
use Rattle.object_values.specs.declared.views.Value.TheVariants.{Simple}
use Rattle.object_values.specs.declared.calls.CallPart.{CallPart}
use Rattle.object_values.specs.declared.calls.Outcome.{Outcome}
use Rattle.object_values.specs.declared.items.StoredPart.{StoredPart}
use Rattle.object_values.specs.declared.items.StoredOutput.{StoredOutput}
use Rattle.object_values.specs.declared.items.StoredCall.{StoredCall}
use Rattle.object_values.specs.declared.items.StoredOutcome.{StoredOutcome}
use Rattle.object_values.specs.declared.items.Item.{Item}
use Rattle.object_values.specs.declared.items.StoredRecord.{StoredRecord}
use Rattle.object_values.specs.declared.facts.Fresh.{Fresh}
use Rattle.object_values.specs.declared.items.Item.TheVariants.{Content, Graph, Put, Kept, Node}
use Rattle.object_values.specs.Texts.{Text}
use Rattle.meaning_records.specs.Forms.{bytes, number, list_of, option_of}
use Rattle.meaning_records.specs.Records.{item, status, pair, line, stored_part, output, node_record, value}
use Rattle.meaning_records.specs.Tables.{Calls, IsText, IsPartOf, IsCallOf, IsOutcomeOf}
use Rattle.meaning_records.specs.Batches.{body_of, fact_values, graph_batch, IsPutBatch, IsCallBatch, IsRecordOf}
use Rattle.meaning_records.specs.States.{spell_batch}
use Rattle.meaning_records.specs.Live.{content_in, batch_text, AreBatchesOf, IsSourceBatch, IsKeptBatch, IsRecordBatch, IsLiveText, Live}
use Rattle.kept_contents.specs.declared.head.CallHead.{CallHead}
use Rattle.kept_contents.specs.declared.keys.CallKey.{CallKey}
use Rattle.kept_contents.specs.declared.shared.Content.{Content as Held}
use Rattle.kept_contents.specs.Added.{texts_of_parts, texts_of_outputs, contents_with, AddsAll, AddsOne, AddsTexts}
use Rattle.kept_contents.specs.Stocks.{value_of, values_of_contents}
use Rattle.kept_contents.specs.Heads.{call_with}
use Rattle.kept_contents.proofs.Lemmas.{outputs_step, parts_step}
use Rattle.kept_tables.specs.declared.call_table.Entry.{Entry}
use Rattle.kept_tables.specs.declared.live_sizes.LiveSize.{LiveSize}
use Rattle.kept_tables.specs.Batching.{batch_of, contents_text, counted_text, IsFresh, CountsLiveBatch, CountsLiveBatches, CountsPart, CountsParts, CountsOutput, CountsOutputs, rest_text}
use Rattle.kept_tables.specs.Holdings.{kept_call_of, kept_calls_of}
use Rattle.kept_tables.proofs.LiveLemmas.{Batched, batches_push, call_batch, contents_grown, put_batch, record_batch}

-- ---- lengths of what is spelled

-- of a list that gets one more
spelled_push : {T : Type 0} (spell : T → List ℕ) (xs : List T) (x : T) → length (flat_map spell (xs ++ x ∷ [])) ≡ length (flat_map spell xs) + length (spell x)
spelled_push spell xs x =
    ap length (flat_map-append spell xs (x ∷ []))
    ∙ length-append (flat_map spell xs) (spell x ++ [])
    ∙ ap (λ (l : List ℕ). length (flat_map spell xs) + length l) (append-nil (spell x))

batches_long : (batches : List (List Item)) (items : List Item) → batch_text (batches ++ items ∷ []) ≡ batch_text batches + length (spell_batch items)
batches_long [] items = omega arith
batches_long (b ∷ batches) items = let rest = batches_long batches items in omega (arith, rest)

batches_both : (xs ys : List (List Item)) → batch_text (xs ++ ys) ≡ batch_text xs + batch_text ys
batches_both [] ys = omega arith
batches_both (x ∷ xs) ys = let rest = batches_both xs ys in omega (arith, rest)

-- of contents
contents_both : (xs ys : List Value) → contents_text (xs ++ ys) ≡ contents_text xs + contents_text ys
contents_both xs ys =
    ap (λ (l : List Item). length (spell_batch l)) (map-append Content xs ys)
    ∙ ap length (flat_map-append item.spell (map Content xs) (map Content ys))
    ∙ length-append (spell_batch (map Content xs)) (spell_batch (map Content ys))

field_long : (body : List ℕ) → length (bytes.spell body) ≡ length body + 4
field_long body = let both = length-append (number.spell (length body)) body in omega (arith, both)

-- by the record of its value
pub value_long : (v : Value) → contents_text (v ∷ []) ≡ length (value.spell v) + 5
value_long v =
    let outer = field_long (value.spell v) in
    let none = length-append (item.spell (Content v)) [] in
    omega (arith, outer, none)

pub text_long : (text : List ℕ) → contents_text (Simple text ∷ []) ≡ length text + 10
text_long text =
    let inner = field_long text in
    let whole = value_long (Simple text) in
    omega (arith, inner, whole)

module _ (contents : List Held) (i : ℕ) (here : Held) (lt : i < length contents) (at : here ≡ get_or contents i here) where
  pub contents_next : (size one next : ℕ) → size ≡ contents_text (values_of_contents (take i contents)) → one ≡ contents_text (value_of here ∷ []) → next ≡ size + one
      → next ≡ contents_text (values_of_contents (take (i + 1) contents))
  contents_next size one next before is sum =
      let taken : take (i + 1) contents ≡ take i contents ++ here ∷ [] = take_more contents i here lt ∙ ap (λ (c : Held). take i contents ++ c ∷ []) (sym at) in
      let both : values_of_contents (take (i + 1) contents) ≡ values_of_contents (take i contents) ++ value_of here ∷ []
      = ap values_of_contents taken ∙ map-append value_of (take i contents) (here ∷ []) in
      let whole : contents_text (values_of_contents (take (i + 1) contents)) ≡ contents_text (values_of_contents (take i contents)) + contents_text (value_of here ∷ [])
      = ap contents_text both ∙ contents_both (values_of_contents (take i contents)) (value_of here ∷ []) in
      omega (arith, whole, before, is, sum)

-- of the graph
pub graph_long : (graph : Text) → length (spell_batch (graph_batch graph)) ≡ length graph + 5
graph_long graph =
    let field = field_long graph in
    let none = length-append (item.spell (Graph graph)) [] in
    omega (arith, field, none)

put_long : (name : Text) (n : ℕ) → length (item.spell (Put name n)) ≡ length name + 9
put_long name n =
    let field = field_long name in
    let both = length-append (bytes.spell name) (number.spell n) in
    omega (arith, field, both)

-- ---- inputs and outputs

part_long : (stored : StoredPart) → length (stored_part.spell stored) ≡ length stored.label + (8 + length ((option_of number).spell stored.content))
part_long stored =
    let first = length-append (number.spell stored.slot) (bytes.spell stored.label ++ (option_of number).spell stored.content) in
    let rest = length-append (bytes.spell stored.label) ((option_of number).spell stored.content) in
    let field = field_long stored.label in
    omega (arith, first, rest, field)

-- an input with a text, and one without
pub part_told : (texts : List Value) (part : CallPart) (text : List ℕ) (n size : ℕ) → part.body ≡ Some text → IsText texts n text → size ≡ length part.label + 13 → CountsPart texts part size
part_told texts part text n size some is sum =
    let stored : StoredPart = record { slot = part.slot; label = part.label; content = Some n } in
    let long = part_long stored in (
      stored,
      subst (λ (b : Option (List ℕ)). IsPartOf texts stored (record { slot = part.slot; label = part.label; body = b })) (sym some) (record { slot = refl; label = refl; body = is }),
      omega (arith, long),
    )

pub part_untold : (texts : List Value) (part : CallPart) (size : ℕ) → part.body ≡ None → size ≡ length part.label + 9 → CountsPart texts part size
part_untold texts part size none sum =
    let stored : StoredPart = record { slot = part.slot; label = part.label; content = None } in
    let long = part_long stored in (
      stored,
      record { slot = refl; label = refl; body = none },
      omega (arith, long),
    )

pub output_told : (texts : List Value) (out : Part) (n size : ℕ) → IsText texts n out.body → size ≡ length out.name + 8 → CountsOutput texts out size
output_told texts out n size is sum =
    let both = length-append (bytes.spell out.name) (number.spell n) in
    let field = field_long out.name in (
      record { name = out.name; content = n },
      record { name = refl; body = is },
      omega (arith, both, field),
    )

pub parts_next : (parts : List CallPart) (i : ℕ) (here : CallPart) → i < length parts → here ≡ get_or parts i here → (contents after : List Value) (old new : List Held) → after ≡ contents
    → AddsTexts contents (body_of here.body) (values_of_contents old) (values_of_contents new) → (size more next : ℕ)
    → CountsParts (contents_with contents old) (take i parts) size → CountsPart (contents_with after new) here more → next ≡ size + more → CountsParts (contents_with after new) (take (i + 1) parts) next
parts_next parts i here lt at contents after old new same adds size more next (stored, are, long) (s, is, one) sum =
    let whole = spelled_push stored_part.spell stored s in (
      stored ++ s ∷ [],
      parts_step parts i here lt at contents after old new stored (stored ++ s ∷ []) s same adds are is refl,
      omega (arith, whole),
    )

pub outputs_next : (outputs : List Part) (i : ℕ) (here : Part) → i < length outputs → here ≡ get_or outputs i here → (contents after : List Value) (old new : List Held) → after ≡ contents
    → AddsOne contents (Simple here.body) (values_of_contents old) (values_of_contents new) → (size more next : ℕ)
    → CountsOutputs (contents_with contents old) (take i outputs) size → CountsOutput (contents_with after new) here more → next ≡ size + more → CountsOutputs (contents_with after new) (take (i + 1) outputs) next
outputs_next outputs i here lt at contents after old new same adds size more next (stored, are, long) (s, is, one) sum =
    let whole = spelled_push output.spell stored s in (
      stored ++ s ∷ [],
      outputs_step outputs i here lt at contents after old new stored (stored ++ s ∷ []) s same adds are is refl,
      omega (arith, whole),
    )

-- ---- one batch

module _ (old new : LiveSize) (fresh : IsFresh new.table new.added) (last : Item) (none : content_in last ≡ []) (grown : new.items ≡ old.items + length (item.spell last)) where
  -- with the item after its contents
  counts_last : {IsBatch : List Value → List Item → Type 0} → Batched IsBatch old.added new.added last → CountsLiveBatch IsBatch old new
  counts_last batch =
      let base = values_of_contents old.added in
      let contents : contents_text (values_of_contents new.added) ≡ contents_text base + contents_text batch.more = ap contents_text batch.grown ∙ contents_both base batch.more in
      let whole = spelled_push item.spell (map Content batch.more) last in
      record {
        items = batch_of batch.more last;
        is = batch.is;
        text = omega (arith, contents, whole);
        contents = batch.grown ∙ contents_grown base batch.more last none;
        fresh = fresh;
      }

pub put_counted : (old new : LiveSize) (first : List Value) → first ≡ [] → IsFresh new.table new.added → (name text : List ℕ) (n : ℕ)
    → AddsOne first (Simple text) (values_of_contents old.added) (values_of_contents new.added) → IsText (contents_with first new.added) n text → new.items ≡ old.items + (length name + 9)
    → CountsLiveBatch (λ contents. IsPutBatch contents name text) old new
put_counted old new first none fresh name text n adds is grown =
    let long = put_long name n in
    counts_last old new fresh (Put name n) refl (omega (arith, long)) (put_batch first none old.added new.added name text n adds is)

pub record_counted : (old new : LiveSize) (first : List Value) → first ≡ [] → IsFresh new.table new.added → (f : Fresh) (stored : StoredRecord)
    → AddsAll first (fact_values f.fact) (values_of_contents old.added) (values_of_contents new.added) → IsRecordOf (contents_with first new.added) stored f
    → new.items ≡ old.items + (1 + length (node_record.spell stored)) → CountsLiveBatch (λ contents. IsRecordBatch contents f) old new
record_counted old new first none fresh f stored adds is grown =
    counts_last old new fresh (Node stored) refl (omega (arith, grown)) (record_batch first none old.added new.added f stored adds is)

kept_long : (head : CallHead) (outcome : Outcome) (parts : List StoredPart) (outputs : List StoredOutput) (stored : StoredCall) (given : StoredOutcome)
    → stored ≡ record { tool = head.tool; version = head.version; words = head.words; params = head.params; parts = parts; outs = head.outs } → given ≡ record { status = outcome.status; lines = outcome.lines; outputs = outputs }
    → length (item.spell (Kept stored given)) ≡ (length (flat_map stored_part.spell parts) + length (flat_map output.spell outputs)) + rest_text head outcome
kept_long head outcome parts outputs stored given called came =
    let s_outs = (list_of bytes).spell head.outs in
    let s_parts = (list_of stored_part).spell parts in
    let s_params = (list_of pair).spell head.params in
    let s_words = (list_of bytes).spell head.words in
    let s_lines = (list_of line).spell outcome.lines in
    let s_outputs = (list_of output).spell outputs in
    let s_call = bytes.spell head.tool ++ (bytes.spell head.version ++ (s_words ++ (s_params ++ (s_parts ++ s_outs)))) in
    let s_outcome = status.spell outcome.status ++ (s_lines ++ s_outputs) in
    let e0 : length (item.spell (Kept stored given)) ≡ length (5 ∷ (s_call ++ s_outcome)) = λ i. length (item.spell (Kept (called i) (came i))) in
    let e1 = length-append s_call s_outcome in
    let e2 = length-append (bytes.spell head.tool) (bytes.spell head.version ++ (s_words ++ (s_params ++ (s_parts ++ s_outs)))) in
    let e3 = length-append (bytes.spell head.version) (s_words ++ (s_params ++ (s_parts ++ s_outs))) in
    let e4 = length-append s_words (s_params ++ (s_parts ++ s_outs)) in
    let e5 = length-append s_params (s_parts ++ s_outs) in
    let e6 = length-append s_parts s_outs in
    let e7 = length-append (number.spell (length parts)) (flat_map stored_part.spell parts) in
    let e8 = length-append (status.spell outcome.status) (s_lines ++ s_outputs) in
    let e9 = length-append s_lines s_outputs in
    let e10 = length-append (number.spell (length outputs)) (flat_map output.spell outputs) in
    omega (arith, e0, e1, e2, e3, e4, e5, e6, e7, e8, e9, e10)

pub call_counted : (old new : LiveSize) (first : List Value) → first ≡ [] → IsFresh new.table new.added → (middle : List Held) (head : CallHead) (parts : List CallPart) (outcome : Outcome) (p q : ℕ)
    → AddsTexts first (texts_of_parts parts) (values_of_contents old.added) (values_of_contents middle) → CountsParts (contents_with first middle) parts p
    → AddsTexts first (texts_of_outputs outcome.outputs) (values_of_contents middle) (values_of_contents new.added) → CountsOutputs (contents_with first new.added) outcome.outputs q
    → new.items ≡ old.items + ((p + q) + rest_text head outcome) → CountsLiveBatch (λ contents. IsCallBatch contents (call_with head parts) outcome) old new
call_counted old new first none fresh middle head parts outcome p q front (stored, are, long) back (outs, have, wide) grown =
    let call = call_with head parts in
    let kept : StoredCall = record { tool = head.tool; version = head.version; words = head.words; params = head.params; parts = stored; outs = head.outs } in
    let given : StoredOutcome = record { status = outcome.status; lines = outcome.lines; outputs = outs } in
    let called : IsCallOf (contents_with first middle) kept call = record { tool = refl; version = refl; words = refl; params = refl; parts = are; outs = refl } in
    let came : IsOutcomeOf (contents_with first new.added) given outcome = record { status = refl; lines = refl; outputs = have } in
    let size = kept_long head outcome stored outs kept given refl refl in
    counts_last old new fresh (Kept kept given) refl (omega (arith, size, long, wide, grown)) (call_batch first none old.added middle new.added call outcome kept given front called back came)

-- ---- many batches

module _ {T : Type 0} (IsBatch : List Value → T → List Item → Type 0) where
  pub counts_none : (live : LiveSize) → IsFresh live.table live.added → CountsLiveBatches IsBatch [] live live
  counts_none live fresh = record { more = []; are = refl; text = omega arith; fresh = fresh }

  pub counts_push : (things : List T) (thing : T) (old middle new : LiveSize) → CountsLiveBatches IsBatch things old middle → CountsLiveBatch (λ contents. IsBatch contents thing) middle new → CountsLiveBatches IsBatch (things ++ thing ∷ []) old new
  counts_push things thing old middle new before one =
      let whole = batches_long before.more one.items in
      let first = before.text in
      let second = one.text in
      record {
        more = before.more ++ one.items ∷ [];
        are = batches_push IsBatch (values_of_contents old.added) things before.more (values_of_contents middle.added) thing one.items (values_of_contents new.added) before.are one.is one.contents;
        text = omega (arith, whole, first, second);
        fresh = one.fresh;
      }

  pub counts_next : (things : List T) (i : ℕ) (thing : T) (old middle new : LiveSize) → slice_get things i ≡ Some thing → CountsLiveBatches IsBatch (take i things) old middle
      → CountsLiveBatch (λ contents. IsBatch contents thing) middle new → CountsLiveBatches IsBatch (take (i + 1) things) old new
  counts_next things i thing old middle new at before one =
      let taken : take (i + 1) things ≡ take i things ++ thing ∷ [] = take_more things i thing (slice_get_within things i thing at) ∙ ap (λ (t : T). take i things ++ t ∷ []) (get_or_from_slice_get things i thing thing at) in
      subst (λ (l : List T). CountsLiveBatches IsBatch l old new) (sym taken) (counts_push (take i things) thing old middle new before one)

-- a kept call after others
pub kept_counted : (entries : List (CallKey × Entry)) (i : ℕ) (entry : CallKey × Entry) (old middle new : LiveSize) → i < length entries → entry ≡ get_or entries i entry → CountsLiveBatches IsKeptBatch (kept_calls_of (take i entries)) old middle
    → CountsLiveBatch (λ contents. IsKeptBatch contents (kept_call_of entry)) middle new → CountsLiveBatches IsKeptBatch (kept_calls_of (take (i + 1) entries)) old new
kept_counted entries i entry old middle new lt at before one =
    let taken : take (i + 1) entries ≡ take i entries ++ entry ∷ [] = take_more entries i entry lt ∙ ap (λ (e : CallKey × Entry). take i entries ++ e ∷ []) (sym at) in
    let calls : kept_calls_of (take (i + 1) entries) ≡ kept_calls_of (take i entries) ++ kept_call_of entry ∷ [] = ap kept_calls_of taken ∙ map-append kept_call_of (take i entries) (entry ∷ []) in
    subst (λ (l : Calls). CountsLiveBatches IsKeptBatch l old new) (sym calls) (counts_push IsKeptBatch (kept_calls_of (take i entries)) (kept_call_of entry) old middle new before one)

-- all of them
pub all_counted : (live : Live) (first second third last : LiveSize) (size : ℕ) → first.added ≡ [] → first.items ≡ length (spell_batch (graph_batch live.graph))
    → CountsLiveBatches IsSourceBatch (names.entries live.sources) first second → CountsLiveBatches IsKeptBatch live.calls second third
    → CountsLiveBatches IsRecordBatch live.records third last → size ≡ counted_text last → IsLiveText live size
all_counted live first second third last size none start puts keeps notes total =
    let empty : contents_text (values_of_contents first.added) ≡ 0 = ap (λ (l : List Held). contents_text (values_of_contents l)) none in
    let both = batches_both (puts.more ++ keeps.more) notes.more in
    let more = batches_both puts.more keeps.more in
    let p = puts.text in
    let k = keeps.text in
    let n = notes.text in (
      graph_batch live.graph ∷ (puts.more ++ keeps.more ++ notes.more),
      values_of_contents last.added,
      record {
        puts = puts.more;
        keeps = keeps.more;
        notes = notes.more;
        put = values_of_contents second.added;
        kept = values_of_contents third.added;
        sourced = subst (λ (l : List Held). AreBatchesOf IsSourceBatch (values_of_contents l) (names.entries live.sources) puts.more (values_of_contents second.added)) none puts.are;
        called = keeps.are;
        noted = notes.are;
        batches_are = refl;
      },
      omega (arith, empty, both, more, p, k, n),
    )
