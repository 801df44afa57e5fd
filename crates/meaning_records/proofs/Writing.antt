-- Each batch that a store writes reads as what it was asked for.
use Rattle.std.proofs.Common.{◌≡◌, ◌⊎◌, inl, inr, ℕ, ◌≤◌, List, [], ◌∷◌, ◌++◌, length, map, Option, Some, None, All, refl, sym, subst, append-nil, append_assoc}
use Rattle.std.specs.Prelude.{IsSome, IsNone, IfSome, slice_get}
use Rattle.std.specs.List.{flat_map}
use Rattle.std.specs.FinMap as names
use Rattle.std.proofs.lemmas.List.Elements.{All-head, All-tail}
use Rattle.object_values.specs.declared.views.Part.{Part}
use Rattle.object_values.specs.declared.views.Value.{Value}
use Rattle.object_values.specs.declared.views.Value.TheVariants.{Simple}
use Rattle.object_values.specs.declared.calls.CallPart.{CallPart}
use Rattle.object_values.specs.declared.calls.Call.{Call}
use Rattle.object_values.specs.declared.calls.Outcome.{Outcome}
use Rattle.object_values.specs.Texts.{Text}
use Rattle.meaning_texts.specs.Classes.{IsName}
use Rattle.meaning_texts.specs.Limits.{body_limit}
use Rattle.meaning_texts.specs.Lists.{IsIn}
use Rattle.meaning_texts.proofs.Lemmas.{in_either, from_flat, from_map, in_all, all_in}
use Rattle.meaning_calls.specs.Jobs.{IsPartOfClass, IsWellFormed}
use Rattle.meaning_calls.specs.Outcomes.{OutcomeFits}
use Rattle.object_values.specs.declared.items.Item.{Item}
use Rattle.object_values.specs.declared.items.Item.TheVariants.{Content, Put, Kept}
use Rattle.meaning_records.specs.Tables.{IsShort, IsText, kept_outcome, without_records}
use Rattle.meaning_records.specs.States.{State, TakesAll}
use Rattle.meaning_records.specs.Batches.{contents_of, graph_batch, IsPutBatch, drop_batch, body_of, needed_texts, IsCallBatch}
use Rattle.meaning_records.specs.Laws.{noted_in, none_noted, ItemsReadAs}

pub graph_reads : (old : State) (text : Text) → ItemsReadAs old (graph_batch text) old.tables.calls old.sources (Some text) none_noted
graph_reads old text =
    let new : State = record { tables = without_records old.tables; sources = old.sources; graph = Some text; noted = [] } in
    record {
      new = new;
      taken = (new, record { loads = refl; edits = refl; graph = refl; ground = tt; noted = refl }, refl);
      more = [];
      contents_are = sym (append-nil old.tables.contents);
      calls_are = refl;
      sources_are = refl;
      graph_is = refl;
      noted_is = refl;
    }

pub drop_reads : (old : State) (name : Text) → IsName name → IsSome (names.get old.sources name) → ItemsReadAs old (drop_batch name) old.tables.calls (names.remove old.sources name) old.graph (noted_in old)
drop_reads old name named there =
    let new : State = record { tables = old.tables; sources = names.remove old.sources name; graph = old.graph; noted = old.noted } in
    record {
      new = new;
      taken = (new, record { loads = (named, refl); edits = (there, refl); graph = refl; ground = tt; noted = refl }, refl);
      more = [];
      contents_are = sym (append-nil old.tables.contents);
      calls_are = refl;
      sources_are = refl;
      graph_is = refl;
      noted_is = refl;
    }

-- ---- puts

-- the last of a list has the number of those before it
last_number : (values : List Value) (value : Value) → slice_get (values ++ value ∷ []) (length values) ≡ Some value
last_number [] value = refl
last_number (first ∷ values) value = last_number values value

put_known : (old : State) (name text : Text) (number : ℕ) → IsName name → IsText old.tables.contents number text → ItemsReadAs old (Put name number ∷ []) old.tables.calls (names.insert old.sources name text) old.graph (noted_in old)
put_known old name text number named there =
    let new : State = record { tables = old.tables; sources = names.insert old.sources name text; graph = old.graph; noted = old.noted } in
    record {
      new = new;
      taken = (new, record { loads = (named, (text, there), refl); edits = (text, there, refl); graph = refl; ground = tt; noted = refl }, refl);
      more = [];
      contents_are = sym (append-nil old.tables.contents);
      calls_are = refl;
      sources_are = refl;
      graph_is = refl;
      noted_is = refl;
    }

-- what is kept, with contents more
abbrev pub with_more : State → List Value → State
with_more old values = record { tables = record { contents = old.tables.contents ++ values; calls = old.tables.calls; records = old.tables.records }; sources = old.sources; graph = old.graph; noted = old.noted }

put_new : (old : State) (name text : Text) → IsName name → length text ≤ body_limit
    → ItemsReadAs old (Content (Simple text) ∷ Put name (length old.tables.contents) ∷ []) old.tables.calls (names.insert old.sources name text) old.graph (noted_in old)
put_new old name text named short =
    let next : State = with_more old (Simple text ∷ []) in
    let there : IsText next.tables.contents (length old.tables.contents) text = last_number old.tables.contents (Simple text) in
    let new : State = record { tables = next.tables; sources = names.insert old.sources name text; graph = old.graph; noted = old.noted } in
    record {
      new = new;
      taken = (next, record { loads = (short, refl); edits = refl; graph = refl; ground = tt; noted = refl }, (new, record { loads = (named, (text, there), refl); edits = (text, there, refl); graph = refl; ground = tt; noted = refl }, refl));
      more = Simple text ∷ [];
      contents_are = refl;
      calls_are = refl;
      sources_are = refl;
      graph_is = refl;
      noted_is = refl;
    }

pub put_reads : (old : State) (name text : Text) (items : List Item) → IsName name → length text ≤ body_limit → IsPutBatch old.tables.contents name text items
    → ItemsReadAs old items old.tables.calls (names.insert old.sources name text) old.graph (noted_in old)
put_reads old name text items named short (inl known) =
    subst (λ (l : List Item). ItemsReadAs old l old.tables.calls (names.insert old.sources name text) old.graph (noted_in old)) (sym known.2) (put_known old name text known.0 named known.1)
put_reads old name text items named short (inr new) =
    subst (λ (l : List Item). ItemsReadAs old l old.tables.calls (names.insert old.sources name text) old.graph (noted_in old)) (sym new.1) (put_new old name text named short)

-- ---- calls

abbrev IsShortText : Text → Type 0
IsShortText text = length text ≤ body_limit

-- contents that are short may come
pub contents_taken : (added : List Value) → All IsShort added → (old : State) (rest : List Item) (new : State) → TakesAll (with_more old added) rest new
    → TakesAll old (map Content added ++ rest) new
contents_taken [] short old rest new taken = subst (λ (values : List Value). TakesAll (record { tables = record { contents = values; calls = old.tables.calls; records = old.tables.records }; sources = old.sources; graph = old.graph; noted = old.noted }) rest new) (append-nil old.tables.contents) taken
contents_taken (value ∷ added) short old rest new taken =
    let next : State = with_more old (value ∷ []) in
    let moved : TakesAll (with_more next added) rest new
    = subst (λ (values : List Value). TakesAll (record { tables = record { contents = values; calls = old.tables.calls; records = old.tables.records }; sources = old.sources; graph = old.graph; noted = old.noted }) rest new)
    (sym (append_assoc old.tables.contents (value ∷ []) added)) taken in
    (next, record { loads = (All-head IsShort value added short, refl); edits = refl; graph = refl; ground = tt; noted = refl }, contents_taken added (All-tail IsShort value added short) next rest new moved)

-- what a call and its outcome need is short
short_body : (body : Option Text) (text : Text) → IfSome body IsShortText → IsIn text (body_of body) → IsShortText text
short_body None text short there = absurd there
short_body (Some body) text short (inl same) = subst IsShortText (sym same) short
short_body (Some body) text short (inr there) = absurd there

short_part : (parts : List CallPart) → All IsPartOfClass parts → (text : Text) → IsIn text (flat_map (λ (p : CallPart). body_of p.body) parts) → IsShortText text
short_part parts formed text there =
    let found = from_flat (λ (p : CallPart). body_of p.body) text parts there in
    short_body found.0.body text (in_all IsPartOfClass parts formed found.0 found.1).body found.2

short_output : (outputs : List Part) → All (λ (o : Part). length o.body ≤ body_limit) outputs → (text : Text) → IsIn text (map (λ (o : Part). o.body) outputs) → IsShortText text
short_output outputs short text there =
    let found = from_map (λ (o : Part). o.body) text outputs there in
    subst IsShortText (sym found.2) (in_all (λ (o : Part). length o.body ≤ body_limit) outputs short found.0 found.1)

short_needed : (call : Call) (outcome : Outcome) → IsWellFormed call → OutcomeFits call outcome → (text : Text) → IsIn text (needed_texts call outcome) → IsShortText text
short_needed call outcome formed fits text there = by (in_either text (flat_map (λ (p : CallPart). body_of p.body) call.parts) (map (λ (o : Part). o.body) outcome.outputs) there)
  where
    by : IsIn text (flat_map (λ (p : CallPart). body_of p.body) call.parts) ⊎ IsIn text (map (λ (o : Part). o.body) outcome.outputs) → IsShortText text
    by (inl part) = short_part call.parts formed.parts text part
    by (inr output) = short_output outcome.outputs fits.short text output

pub call_reads : (old : State) (call : Call) (outcome : Outcome) (items : List Item) → IsWellFormed call → OutcomeFits call outcome → IsNone (kept_outcome old.tables.calls call)
    → IsCallBatch old.tables.contents call outcome items → ItemsReadAs old items (old.tables.calls ++ (call, outcome) ∷ []) old.sources old.graph (noted_in old)
call_reads old call outcome items formed fits new batch =
    let next : State = with_more old (contents_of batch.added) in
    let last : State = record { tables = record { contents = next.tables.contents; calls = old.tables.calls ++ (call, outcome) ∷ []; records = old.tables.records }; sources = old.sources; graph = old.graph; noted = old.noted } in
    let short_text : (text : Text) → IsIn text batch.added → IsShortText text
    = λ text there. short_needed call outcome formed fits text (in_all (λ (t : Text). IsIn t (needed_texts call outcome)) batch.added batch.needed text there) in
    let short : All IsShort (contents_of batch.added) = all_in IsShort (contents_of batch.added) (λ value there.
    let text = from_map Simple value batch.added there in
    subst IsShort (sym text.2) (short_text text.0 text.1)) in
    let kept : TakesAll next (Kept batch.stored batch.given ∷ []) last
    = (last, record { loads = (call, outcome, record { called = batch.called; came = batch.came; formed = formed; fits = fits; new = new }, refl); edits = refl; graph = refl; ground = tt; noted = refl }, refl) in
    record {
      new = last;
      taken = subst (λ (l : List Item). TakesAll old l last) (sym batch.items_are) (contents_taken (contents_of batch.added) short old (Kept batch.stored batch.given ∷ []) last kept);
      more = contents_of batch.added;
      contents_are = refl;
      calls_are = refl;
      sources_are = refl;
      graph_is = refl;
      noted_is = refl;
    }
