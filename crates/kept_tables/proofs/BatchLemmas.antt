-- Batches that are prepared: their items, and what these make of the tables.
use Rattle.std.proofs.Common.{◌≡◌, ◌≤◌, ℕ, List, [], ◌∷◌, ◌++◌, inl, inr, length, map, append-nil, append_assoc, ap, sym, ◌∙◌, subst, refl}
use Rattle.std.specs.Prelude.{All, Option, Some, None, IfSome, reverse, Result, Ok, Err, IfOk}
use Rattle.object_values.specs.declared.views.Part.{Part}
use Rattle.object_values.specs.declared.views.Value.{Value}
use Rattle.object_values.specs.declared.views.Value.TheVariants.{Simple}
use Rattle.object_values.specs.declared.calls.CallPart.{CallPart}
use Rattle.object_values.specs.declared.calls.Call.{Call}
use Rattle.object_values.specs.declared.calls.Outcome.{Outcome}
use Rattle.meaning_texts.specs.Classes.{IsName}
use Rattle.meaning_texts.specs.Limits.{body_limit}
use Rattle.meaning_texts.specs.Lists.{IsIn}
use Rattle.meaning_texts.proofs.Lemmas.{in_either, from_map, from_flat, in_all, all_in}
use Rattle.meaning_calls.specs.Jobs.{IsWellFormed, IsPartOfClass}
use Rattle.meaning_calls.specs.Outcomes.{OutcomeFits}
use Rattle.object_values.specs.declared.records.NodeRecord.{NodeRecord}
use Rattle.object_values.specs.declared.items.StoredCall.{StoredCall}
use Rattle.object_values.specs.declared.items.StoredOutcome.{StoredOutcome}
use Rattle.object_values.specs.declared.items.Item.{Item}
use Rattle.object_values.specs.declared.items.Item.TheVariants.{Content, Put, Kept}
use Rattle.meaning_records.specs.Tables.{Tables, IsShort, IsText, IsNoText, IsCallOf, IsOutcomeOf, LoadsAll, with_content, with_call}
use Rattle.meaning_records.specs.Batches.{contents_of, body_of, needed_texts, IsPutBatch, IsCallBatch}
use Rattle.kept_contents.specs.declared.shared.Content.{Content as Held}
use Rattle.kept_contents.specs.declared.held.HeldCall.{HeldCall}
use Rattle.kept_contents.specs.Added.{texts_of_parts, texts_of_outputs, contents_with, AddsOne, AddsAll, AddsTexts}
use Rattle.kept_contents.specs.Stocks.{values_of_contents}
use Rattle.kept_contents.proofs.Lemmas.{added_from, next_number, parts_stay, texts_added, texts_from, texts_new, texts_once}
use Rattle.kept_tables.specs.Holdings.{Holding, Batch, MayKeep, MakesBatch, PreparesSome, items_with, with_batch, with_calls, with_contents, with_notes, held_calls_of}

abbrev Texts : Type 0
Texts = List (List ℕ)

abbrev pub AreShort : List Value → Type 0
AreShort values = (v : Value) → IsIn v values → IsShort v

texts_short : (texts : Texts) → ((t : List ℕ) → IsIn t texts → length t ≤ body_limit) → AreShort (contents_of texts)
texts_short texts short v i = let m = from_map Simple v texts i in subst IsShort (sym m.2) (short m.0 m.1)

-- the tables with contents more
abbrev pub with_values : Tables → List Value → Tables
with_values tables more = record tables { contents = tables.contents ++ more }

-- contents come first, and then the rest
pub loads_contents : (tables : Tables) (values : List Value) (rest : List Item) (next : Tables) → AreShort values → LoadsAll (with_values tables values) rest next → LoadsAll tables (map Content values ++ rest) next
loads_contents tables [] rest next short loads = subst (λ (l : List Value). LoadsAll (record tables { contents = l }) rest next) (append-nil tables.contents) loads
loads_contents tables (v ∷ values) rest next short loads = (
  with_content v tables,
  (short v (inl refl), refl),
  loads_contents (with_content v tables) values rest next (λ u i. short u (inr i)) (subst (λ (l : List Value). LoadsAll (record tables { contents = l }) rest next) (sym (append_assoc tables.contents (v ∷ []) values)) loads),
)

-- ---- batches by the contents that they add

pub call_by_adds : (contents : List Value) (call : Call) (outcome : Outcome) (values : List Value) → AddsTexts contents (needed_texts call outcome) [] values → (stored : StoredCall) (given : StoredOutcome)
    → IsCallOf (contents ++ values) stored call → IsOutcomeOf (contents ++ values) given outcome
    → IsCallBatch contents call outcome (map Content values ++ Kept stored given ∷ [])
call_by_adds contents call outcome values adds stored given called came =
    let t = texts_added contents (needed_texts call outcome) values adds in
    let adds_texts = subst (λ (l : List Value). AddsTexts contents (needed_texts call outcome) [] l) t.1 adds in
    record {
      added = t.0;
      once = texts_once contents (needed_texts call outcome) t.0 adds_texts;
      needed = all_in (λ (x : List ℕ). IsIn x (needed_texts call outcome)) t.0 (texts_from contents (needed_texts call outcome) t.0 adds_texts);
      new = all_in (λ (x : List ℕ). IsNoText contents x) t.0 (texts_new contents (needed_texts call outcome) t.0 adds_texts);
      stored = stored;
      given = given;
      called = subst (λ (l : List Value). IsCallOf (contents ++ l) stored call) t.1 called;
      came = subst (λ (l : List Value). IsOutcomeOf (contents ++ l) given outcome) t.1 came;
      items_are = ap (λ (l : List Value). map Content l ++ Kept stored given ∷ []) t.1;
    }

pub put_by_adds : (contents : List Value) (name text : List ℕ) (values : List Value) → AddsOne contents (Simple text) [] values → (number : ℕ) → IsText (contents ++ values) number text
    → IsPutBatch contents name text (map Content values ++ Put name number ∷ [])
put_by_adds contents name text values (inl e) number at = inl (number, subst (λ (l : List Value). IsText l number text) (ap (λ (l : List Value). contents ++ l) e ∙ append-nil contents) at, ap (λ (l : List Value). map Content l ++ Put name number ∷ []) e)
put_by_adds contents name text values (inr r) number at =
    let next : number ≡ length contents = next_number contents text number r.2 (subst (λ (l : List Value). IsText (contents ++ l) number text) r.0 at) in
    inr (r.2, ap (λ (l : List Value). map Content l ++ Put name number ∷ []) r.0 ∙ ap (λ (n : ℕ). Content (Simple text) ∷ Put name n ∷ []) next)

-- ---- a call

short_body : (t : List ℕ) (body : Option (List ℕ)) → IfSome body (λ (b : List ℕ). length b ≤ body_limit) → IsIn t (body_of body) → length t ≤ body_limit
short_body t None short i = absurd i
short_body t (Some b) short (inl e) = subst (λ (x : List ℕ). length x ≤ body_limit) (sym e) short
short_body t (Some b) short (inr i) = absurd i

needed_short : (call : Call) (outcome : Outcome) → IsWellFormed call → OutcomeFits call outcome → (t : List ℕ) → IsIn t (needed_texts call outcome) → length t ≤ body_limit
needed_short call outcome formed fits t i = elim (in_either t (texts_of_parts call.parts) (texts_of_outputs outcome.outputs) i) [
  | inl k ↦
      let f = from_flat (λ (p : CallPart). body_of p.body) t call.parts k in
      short_body t f.0.body (in_all IsPartOfClass call.parts formed.parts f.0 f.1).body f.2
  | inr k ↦
      let f = from_map (λ (o : Part). o.body) t outcome.outputs k in
      subst (λ (x : List ℕ). length x ≤ body_limit) (sym f.2) (in_all (λ (p : Part). length p.body ≤ body_limit) outcome.outputs fits.short f.0 f.1)
]

call_values_short : (contents : List Value) (call : Call) (outcome : Outcome) (values : List Value) → IsWellFormed call → OutcomeFits call outcome
    → AddsTexts contents (needed_texts call outcome) [] values → AreShort values
call_values_short contents call outcome values formed fits adds v i =
    texts_short (needed_texts call outcome) (needed_short call outcome formed fits) v (added_from contents (contents_of (needed_texts call outcome)) values adds v i)

pub call_short : (contents : List Value) (call : Call) (outcome : Outcome) (values : List Value) → IsWellFormed call → OutcomeFits call outcome
    → AddsTexts contents (needed_texts call outcome) [] values → All IsShort values
call_short contents call outcome values formed fits adds = all_in IsShort values (call_values_short contents call outcome values formed fits adds)

text_short : (contents : List Value) (text : List ℕ) (values : List Value) → length text ≤ body_limit → AddsOne contents (Simple text) [] values → AreShort values
text_short contents text values short (inl e) v i = absurd (subst (IsIn v) e i)
text_short contents text values short (inr r) v i = elim (subst (IsIn v) r.0 i) [
  | inl same ↦ subst IsShort (sym same) short
  | inr none ↦ absurd none
]

pub put_short : (contents : List Value) (text : List ℕ) (values : List Value) → length text ≤ body_limit → AddsOne contents (Simple text) [] values → All IsShort values
put_short contents text values short adds = all_in IsShort values (text_short contents text values short adds)

module _ (old kept : Holding) (same : kept.tables ≡ old.tables) (added : List Held) (batch : Batch) where
  module _ (held : HeldCall) (call : Call) (held_is : held.call ≡ call) (outcome : Outcome) (may : MayKeep old.tables call outcome) (adds : AddsTexts old.tables.contents (needed_texts call outcome) [] (values_of_contents added)) (stored : StoredCall) (given : StoredOutcome) (called : IsCallOf (contents_with old.tables.contents added) stored call) (came : IsOutcomeOf (contents_with old.tables.contents added) given outcome) where
    call_items : IsCallBatch old.tables.contents call outcome (items_with added (Kept stored given ∷ []))
    call_items = call_by_adds old.tables.contents call outcome (values_of_contents added) adds stored given called came

    call_loads : LoadsAll old.tables (items_with added (Kept stored given ∷ [])) (with_call call outcome (with_values old.tables (values_of_contents added)))
    call_loads = loads_contents old.tables (values_of_contents added) (Kept stored given ∷ []) (with_call call outcome (with_values old.tables (values_of_contents added)))
        (call_values_short old.tables.contents call outcome (values_of_contents added) may.formed may.fits adds)
        (with_call call outcome (with_values old.tables (values_of_contents added)), (call, outcome, record { called = called; came = came; formed = may.formed; fits = may.fits; new = may.new }, refl), refl)

    pub call_prepared : MakesBatch added (Kept stored given ∷ []) (Some (held, outcome)) [] kept batch → PreparesSome (IsCallBatch old.tables.contents call outcome) kept batch
    call_prepared makes = (
      items_with added (Kept stored given ∷ []),
      call_items,
      record {
        fit = makes.fit;
        spelled = makes.spelled;
        next = with_batch kept.tables batch;
        loads = rw (same, makes.added_is, makes.call_is, makes.notes_are, held_is) call_loads;
        commits = makes.commits;
      },
    )

  module _ (name text : List ℕ) (named : IsName name) (short : length text ≤ body_limit) (adds : AddsOne old.tables.contents (Simple text) [] (values_of_contents added)) (number : ℕ) (is : IsText (contents_with old.tables.contents added) number text) where
    put_items : IsPutBatch old.tables.contents name text (items_with added (Put name number ∷ []))
    put_items = put_by_adds old.tables.contents name text (values_of_contents added) adds number is

    pub put_prepared : MakesBatch added (Put name number ∷ []) None [] kept batch → PreparesSome (IsPutBatch old.tables.contents name text) kept batch
    put_prepared makes = (
      items_with added (Put name number ∷ []),
      put_items,
      record {
        fit = makes.fit;
        spelled = makes.spelled;
        next = with_batch kept.tables batch;
        loads = rw (same, makes.added_is, makes.call_is, makes.notes_are, append-nil old.tables.calls) (loads_contents old.tables (values_of_contents added) (Put name number ∷ []) (with_values old.tables (values_of_contents added)) (text_short old.tables.contents text (values_of_contents added) short adds) (with_values old.tables (values_of_contents added), (named, (text, is), refl), refl));
        commits = makes.commits;
      },
    )

-- ---- answers

pub if_ok : {T E : Type 0} {P Q : T → Type 0} (r : Result T E) → IfOk r P → ((x : T) → P x → Q x) → IfOk r Q
if_ok (Ok x) p then = then x p
if_ok (Err e) p then = tt

pub call_stays : (contents xs : List Value) (old new : List Held) (stored : StoredCall) (call : Call) → AddsAll contents xs (values_of_contents old) (values_of_contents new) → IsCallOf (contents_with contents old) stored call → IsCallOf (contents_with contents new) stored call
call_stays contents xs old new stored call adds is = record {
  tool = is.tool;
  version = is.version;
  words = is.words;
  params = is.params;
  parts = parts_stay contents xs old new stored.parts call.parts adds is.parts;
  outs = is.outs;
}

-- ---- taking in

module _ (old middle noted new : Tables) (batch : Batch) (added : List Held) (call : Option (HeldCall × Outcome)) (notes : List NodeRecord) where
  pub committed : added ≡ batch.added → call ≡ batch.call → notes ≡ batch.notes → middle ≡ with_contents old (reverse added) → noted ≡ with_notes middle notes
      → new ≡ with_calls noted (held_calls_of call) → new ≡ with_batch old batch
  committed added_is call_is notes_are grown noted_is new_is =
      new_is
      ∙ ap (λ (t : Tables). with_calls t (held_calls_of call)) noted_is
      ∙ ap (λ (t : Tables). with_calls (with_notes t notes) (held_calls_of call)) grown
      ∙ ap (λ (l : List Held). with_calls (with_notes (with_contents old (reverse l)) notes) (held_calls_of call)) added_is
      ∙ ap (λ (l : List NodeRecord). with_calls (with_notes (with_contents old (reverse batch.added)) l) (held_calls_of call)) notes_are
      ∙ ap (λ (o : Option (HeldCall × Outcome)). with_calls (with_notes (with_contents old (reverse batch.added)) batch.notes) (held_calls_of o)) call_is
