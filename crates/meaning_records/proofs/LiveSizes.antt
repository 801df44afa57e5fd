-- The live batch text has one length: what the batches leave open is the order of the contents that they add, and numbers of four bytes.
use Rattle.std.proofs.Common.{◌≡◌, inl, inr, ℕ, ◌+◌, List, [], ◌∷◌, ◌++◌, length, map, Option, Some, None, append-nil, refl, sym, ap, ◌∙◌, subst, arith}
use Rattle.std.specs.List.{flat_map}
use Rattle.std.specs.FinMap as names
use Rattle.object_values.specs.declared.views.Part.{Part}
use Rattle.object_values.specs.declared.facts.Fresh.{Fresh}
use Rattle.object_values.specs.declared.views.Value.{Value}
use Rattle.object_values.specs.declared.views.Value.TheVariants.{Simple}
use Rattle.object_values.specs.declared.nodes.ParamValue.{ParamValue}
use Rattle.object_values.specs.declared.calls.CallPart.{CallPart}
use Rattle.object_values.specs.declared.calls.Call.{Call}
use Rattle.object_values.specs.declared.calls.OwnLine.{OwnLine}
use Rattle.object_values.specs.declared.calls.Outcome.{Outcome}
use Rattle.object_values.specs.Texts.{Text}
use Rattle.meaning_texts.specs.Lists.{IsIn}
use Rattle.meaning_texts.proofs.Lemmas.{in_either, in_map, from_map, in_all}
use Rattle.object_values.specs.declared.items.StoredPart.{StoredPart}
use Rattle.object_values.specs.declared.items.StoredCall.{StoredCall}
use Rattle.object_values.specs.declared.items.StoredOutput.{StoredOutput}
use Rattle.object_values.specs.declared.items.StoredOutcome.{StoredOutcome}
use Rattle.object_values.specs.declared.items.Item.{Item}
use Rattle.object_values.specs.declared.items.Item.TheVariants.{Put, Kept, Node}
use Rattle.meaning_records.specs.Forms.{bytes, number, list_of, option_of}
use Rattle.meaning_records.specs.Records.{item, status, pair, line, stored_part, output, call as call_form, outcome as outcome_form}
use Rattle.meaning_records.specs.Tables.{IsContent, IsNoContent, IsText, IsNoText, IsBody}
use Rattle.meaning_records.specs.Tables.{IsPartOf, ArePartsOf, IsCallOf, IsOutputOf, AreOutputsOf, IsOutcomeOf}
use Rattle.meaning_records.specs.Batches.{body_of, contents_of, needed_texts, needed_values, EachOnce, EachTextOnce, graph_batch, IsPutBatch, IsCallBatch}
use Rattle.meaning_records.specs.States.{spell_batch}
use Rattle.meaning_records.specs.Live.{contents_after, batch_text, AreBatchesOf, IsSourceBatch, IsKeptBatch, IsRecordBatch, Live, AreLive, IsLiveText}
use Rattle.meaning_records.proofs.LiveContents.{HasValue, SameValues, Brings, same_none, same_long, same_after, has_right}
use Rattle.meaning_records.proofs.LiveRecords.{joined, notes_bring, records_long}

-- what one batch tells of another, of the same thing over contents with the same values
record Alike (a b : List Value) (xs ys : List Item) : Type 0 where
  long : length (spell_batch xs) ≡ length (spell_batch ys)
  after : SameValues (contents_after a xs) (contents_after b ys)

alike : (a b : List Value) → SameValues a b → (needed : List Value) (p q xs ys : List Item) → Brings a needed p xs → Brings b needed q ys
    → length (spell_batch p) ≡ length (spell_batch q) → Alike a b xs ys
alike a b same needed p q xs ys first second last = record {
  long = same_long a b same needed p q xs ys first second last;
  after = same_after a b same needed p q xs ys first second;
}

-- ---- puts

counted : (kind : ℕ) (xs ys : List ℕ) → length xs ≡ length ys → length (kind ∷ xs) ≡ length (kind ∷ ys)
counted kind xs ys same = omega (arith, same)

-- an item that is the last of its batch
last_long : (p q : Item) → length (item.spell p) ≡ length (item.spell q) → length (spell_batch (p ∷ [])) ≡ length (spell_batch (q ∷ []))
last_long p q same =
    let left : length (item.spell p ++ []) ≡ length (item.spell p) = ap length (append-nil (item.spell p)) in
    let right : length (item.spell q ++ []) ≡ length (item.spell q) = ap length (append-nil (item.spell q)) in
    left ∙ same ∙ sym right

put_long : (name : Text) (m n : ℕ) → length (spell_batch (Put name m ∷ [])) ≡ length (spell_batch (Put name n ∷ []))
put_long name m n =
    last_long (Put name m) (Put name n)
    (counted 3 (bytes.spell name ++ number.spell m) (bytes.spell name ++ number.spell n)
    (joined (bytes.spell name) (bytes.spell name) (number.spell m) (number.spell n) refl refl))

record PutOf (contents : List Value) (name text : Text) (items : List Item) : Type 0 where
  place : ℕ
  brings : Brings contents (Simple text ∷ []) (Put name place ∷ []) items

put_of : (contents : List Value) (name text : Text) (items : List Item) → IsPutBatch contents name text items → PutOf contents name text items
put_of contents name text items (inl known) = record {
  place = known.0;
  brings = record {
    added = [];
    once = tt;
    needed_are = λ v i. absurd i;
    new = λ v i. absurd i;
    whole = λ v i. elim i [
      | inl same ↦ (
        known.0,
        subst (λ (l : List Value). IsContent l known.0 v) (sym (append-nil contents))
            (subst (λ (u : Value). IsContent contents known.0 u) (sym same) known.1),
      )
      | inr none ↦ absurd none
    ];
    none_last = refl;
    items_are = known.2;
  };
}
put_of contents name text items (inr new) = record {
  place = length contents;
  brings = record {
    added = Simple text ∷ [];
    once = (λ none. none, tt);
    needed_are = λ v i. i;
    new = λ v i. elim i [ inl same ↦ subst (IsNoContent contents) (sym same) new.0 | inr none ↦ absurd none ];
    whole = λ v i. has_right contents (Simple text ∷ []) v i;
    none_last = refl;
    items_are = new.1;
  };
}

puts_alike : (a b : List Value) → SameValues a b → (source : Text × Text) (xs ys : List Item) → IsSourceBatch a source xs → IsSourceBatch b source ys
    → Alike a b xs ys
puts_alike a b same source xs ys first second =
    let p = put_of a source.0 source.1 xs first in
    let q = put_of b source.0 source.1 ys second in
    alike a b same (Simple source.1 ∷ []) (Put source.0 p.place ∷ []) (Put source.0 q.place ∷ []) xs ys p.brings q.brings (put_long source.0 p.place q.place)

-- ---- calls

abbrev HasText : List Value → Text → Type 0
HasText contents text = HasValue contents (Simple text)

part_has : (contents : List Value) (stored : List StoredPart) (parts : List CallPart) → ArePartsOf contents stored parts → (text : Text)
    → IsIn text (flat_map (λ (p : CallPart). body_of p.body) parts) → HasText contents text
part_has contents [] [] are text i = absurd i
part_has contents [] (p ∷ parts) are text i = absurd are
part_has contents (s ∷ stored) [] are text i = absurd are
part_has contents (s ∷ stored) (p ∷ parts) are text i =
    elim (in_either text (body_of p.body) (flat_map (λ (q : CallPart). body_of q.body) parts) i) [
      | inl here ↦ by_body s.content p.body are.0.body here
      | inr k ↦ part_has contents stored parts are.1 text k
    ]
  where
    by_body : (content : Option ℕ) (body : Option Text) → IsBody contents content body → IsIn text (body_of body) → HasText contents text
    by_body None None is here = absurd here
    by_body None (Some b) is here = let no : Some b ≡ None = is in let n : ⊥ = cc in absurd n
    by_body (Some n) None is here = absurd here
    by_body (Some n) (Some b) is (inl same) = (n, subst (λ (u : Text). IsText contents n u) (sym same) is)
    by_body (Some n) (Some b) is (inr none) = absurd none

output_has : (contents : List Value) (stored : List StoredOutput) (outputs : List Part) → AreOutputsOf contents stored outputs → (text : Text)
    → IsIn text (map (λ (o : Part). o.body) outputs) → HasText contents text
output_has contents [] [] are text i = absurd i
output_has contents [] (o ∷ outputs) are text i = absurd are
output_has contents (s ∷ stored) [] are text i = absurd are
output_has contents (s ∷ stored) (o ∷ outputs) are text (inl same) = (s.content, subst (λ (u : Text). IsText contents s.content u) (sym same) are.0.body)
output_has contents (s ∷ stored) (o ∷ outputs) are text (inr i) = output_has contents stored outputs are.1 text i

-- a property of texts, of their contents
of_texts : (P : Value → Type 0) (texts : List Text) → ((text : Text) → IsIn text texts → P (Simple text)) → (value : Value) → IsIn value (contents_of texts)
    → P value
of_texts P texts each value there =
    let text = from_map Simple value texts there in
    subst P (sym text.2) (each text.0 text.1)

same_simple : (a b : Text) → Simple a ≡ Simple b → a ≡ b
same_simple a b e = cc

not_again : (text : Text) (texts : List Text) → ¬ IsIn text texts → ¬ IsIn (Simple text) (contents_of texts)
not_again text texts none there =
    let other = from_map Simple (Simple text) texts there in
    none (subst (λ (u : Text). IsIn u texts) (sym (same_simple text other.0 other.2)) other.1)

contents_once : (texts : List Text) → EachTextOnce texts → EachOnce (contents_of texts)
contents_once [] once = tt
contents_once (text ∷ texts) once = (not_again text texts once.0, contents_once texts once.1)

call_of : (contents : List Value) (call : Call) (outcome : Outcome) (items : List Item) (batch : IsCallBatch contents call outcome items)
    → Brings contents (contents_of (needed_texts call outcome)) (Kept batch.stored batch.given ∷ []) items
call_of contents call outcome items batch =
    let added = contents_of batch.added in
    let needed = needed_texts call outcome in
    record {
      added = added;
      once = contents_once batch.added batch.once;
      needed_are = of_texts (λ (v : Value). IsIn v (contents_of needed)) batch.added
          (λ t i. in_map Simple t needed (in_all (λ (u : Text). IsIn u needed) batch.added batch.needed t i));
      new = of_texts (IsNoContent contents) batch.added (λ t i. in_all (λ (u : Text). IsNoText contents u) batch.added batch.new t i);
      whole = of_texts (HasValue (contents ++ added)) needed (λ t i. whole t i);
      none_last = refl;
      items_are = batch.items_are;
    }
  where
    whole : (t : Text) → IsIn t (needed_texts call outcome) → HasText (contents ++ contents_of batch.added) t
    whole t i = elim (in_either t (flat_map (λ (p : CallPart). body_of p.body) call.parts) (map (λ (o : Part). o.body) outcome.outputs) i) [
      | inl part ↦ part_has (contents ++ contents_of batch.added) batch.stored.parts call.parts batch.called.parts t part
      | inr out ↦ output_has (contents ++ contents_of batch.added) batch.given.outputs outcome.outputs batch.came.outputs t out
    ]

-- what is spelled of a call and its outcome, whichever numbers its contents have
bodies_long : (a b : List Value) (m n : Option ℕ) (body : Option Text) → IsBody a m body → IsBody b n body
    → length ((option_of number).spell m) ≡ length ((option_of number).spell n)
bodies_long a b None None body p q = refl
bodies_long a b None (Some n) None p q = absurd q
bodies_long a b None (Some n) (Some t) p q = let no : Some t ≡ None = p in let never : ⊥ = cc in absurd never
bodies_long a b (Some m) None None p q = absurd p
bodies_long a b (Some m) None (Some t) p q = let no : Some t ≡ None = q in let never : ⊥ = cc in absurd never
bodies_long a b (Some m) (Some n) body p q = refl

part_long : (a b : List Value) (s t : StoredPart) (p : CallPart) → IsPartOf a s p → IsPartOf b t p
    → length (stored_part.spell s) ≡ length (stored_part.spell t)
part_long a b s t p first second =
    joined (number.spell s.slot) (number.spell t.slot) (bytes.spell s.label ++ (option_of number).spell s.content)
    (bytes.spell t.label ++ (option_of number).spell t.content) refl
    (joined (bytes.spell s.label) (bytes.spell t.label) ((option_of number).spell s.content) ((option_of number).spell t.content)
    (ap (λ (l : Text). length (bytes.spell l)) (sym first.label ∙ second.label))
    (bodies_long a b s.content t.content p.body first.body second.body))

parts_long : (a b : List Value) (s t : List StoredPart) (parts : List CallPart) → ArePartsOf a s parts → ArePartsOf b t parts
    → length (flat_map stored_part.spell s) ≡ length (flat_map stored_part.spell t)
parts_long a b [] [] parts p q = refl
parts_long a b [] (y ∷ t) [] p q = absurd q
parts_long a b [] (y ∷ t) (c ∷ parts) p q = absurd p
parts_long a b (x ∷ s) [] [] p q = absurd p
parts_long a b (x ∷ s) [] (c ∷ parts) p q = absurd q
parts_long a b (x ∷ s) (y ∷ t) [] p q = absurd p
parts_long a b (x ∷ s) (y ∷ t) (c ∷ parts) p q =
    joined (stored_part.spell x) (stored_part.spell y) (flat_map stored_part.spell s) (flat_map stored_part.spell t)
    (part_long a b x y c p.0 q.0) (parts_long a b s t parts p.1 q.1)

output_long : (a b : List Value) (s t : StoredOutput) (o : Part) → IsOutputOf a s o → IsOutputOf b t o → length (output.spell s) ≡ length (output.spell t)
output_long a b s t o first second =
    joined (bytes.spell s.name) (bytes.spell t.name) (number.spell s.content) (number.spell t.content)
    (ap (λ (l : Text). length (bytes.spell l)) (sym first.name ∙ second.name)) refl

outputs_long : (a b : List Value) (s t : List StoredOutput) (outputs : List Part) → AreOutputsOf a s outputs → AreOutputsOf b t outputs
    → length (flat_map output.spell s) ≡ length (flat_map output.spell t)
outputs_long a b [] [] outputs p q = refl
outputs_long a b [] (y ∷ t) [] p q = absurd q
outputs_long a b [] (y ∷ t) (o ∷ outputs) p q = absurd p
outputs_long a b (x ∷ s) [] [] p q = absurd p
outputs_long a b (x ∷ s) [] (o ∷ outputs) p q = absurd q
outputs_long a b (x ∷ s) (y ∷ t) [] p q = absurd p
outputs_long a b (x ∷ s) (y ∷ t) (o ∷ outputs) p q =
    joined (output.spell x) (output.spell y) (flat_map output.spell s) (flat_map output.spell t)
    (output_long a b x y o p.0 q.0) (outputs_long a b s t outputs p.1 q.1)

-- the parts after the parameters, and all
call_long : (a b : List Value) (s t : StoredCall) (c : Call) → IsCallOf a s c → IsCallOf b t c → length (call_form.spell s) ≡ length (call_form.spell t)
call_long a b s t c p q =
    let s_outs = (list_of bytes).spell s.outs in
    let t_outs = (list_of bytes).spell t.outs in
    let s_parts = (list_of stored_part).spell s.parts in
    let t_parts = (list_of stored_part).spell t.parts in
    let s_params = (list_of pair).spell s.params in
    let t_params = (list_of pair).spell t.params in
    let s_words = (list_of bytes).spell s.words in
    let t_words = (list_of bytes).spell t.words in
    joined (bytes.spell s.tool) (bytes.spell t.tool) (bytes.spell s.version ++ (s_words ++ (s_params ++ (s_parts ++ s_outs))))
    (bytes.spell t.version ++ (t_words ++ (t_params ++ (t_parts ++ t_outs))))
    (ap (λ (l : Text). length (bytes.spell l)) (sym p.tool ∙ q.tool))
    (joined (bytes.spell s.version) (bytes.spell t.version) (s_words ++ (s_params ++ (s_parts ++ s_outs))) (t_words ++ (t_params ++ (t_parts ++ t_outs)))
    (ap (λ (l : Text). length (bytes.spell l)) (sym p.version ∙ q.version))
    (joined s_words t_words (s_params ++ (s_parts ++ s_outs)) (t_params ++ (t_parts ++ t_outs))
    (ap (λ (l : List Text). length ((list_of bytes).spell l)) (sym p.words ∙ q.words))
    (joined s_params t_params (s_parts ++ s_outs) (t_parts ++ t_outs) (ap (λ (l : List ParamValue). length ((list_of pair).spell l)) (sym p.params ∙ q.params))
    (joined s_parts t_parts s_outs t_outs
    (joined (number.spell (length s.parts)) (number.spell (length t.parts)) (flat_map stored_part.spell s.parts) (flat_map stored_part.spell t.parts) refl
    (parts_long a b s.parts t.parts c.parts p.parts q.parts))
    (ap (λ (l : List Text). length ((list_of bytes).spell l)) (sym p.outs ∙ q.outs))))))

outcome_long : (a b : List Value) (s t : StoredOutcome) (o : Outcome) → IsOutcomeOf a s o → IsOutcomeOf b t o
    → length (outcome_form.spell s) ≡ length (outcome_form.spell t)
outcome_long a b s t o p q =
    let s_lines = (list_of line).spell s.lines in
    let t_lines = (list_of line).spell t.lines in
    let s_outputs = (list_of output).spell s.outputs in
    let t_outputs = (list_of output).spell t.outputs in
    joined (status.spell s.status) (status.spell t.status) (s_lines ++ s_outputs) (t_lines ++ t_outputs) refl
    (joined s_lines t_lines s_outputs t_outputs (ap (λ (l : List OwnLine). length ((list_of line).spell l)) (sym p.lines ∙ q.lines))
    (joined (number.spell (length s.outputs)) (number.spell (length t.outputs)) (flat_map output.spell s.outputs) (flat_map output.spell t.outputs) refl
    (outputs_long a b s.outputs t.outputs o.outputs p.outputs q.outputs)))

kept_long : (s t : StoredCall) (g h : StoredOutcome) → length (call_form.spell s) ≡ length (call_form.spell t)
    → length (outcome_form.spell g) ≡ length (outcome_form.spell h) → length (spell_batch (Kept s g ∷ [])) ≡ length (spell_batch (Kept t h ∷ []))
kept_long s t g h call outcome =
    last_long (Kept s g) (Kept t h)
    (counted 5 (call_form.spell s ++ outcome_form.spell g) (call_form.spell t ++ outcome_form.spell h)
    (joined (call_form.spell s) (call_form.spell t) (outcome_form.spell g) (outcome_form.spell h) call outcome))

calls_alike : (a b : List Value) → SameValues a b → (kept : Call × Outcome) (xs ys : List Item) → IsKeptBatch a kept xs → IsKeptBatch b kept ys
    → Alike a b xs ys
calls_alike a b same kept xs ys first second =
    alike a b same (contents_of (needed_texts kept.0 kept.1)) (Kept first.stored first.given ∷ []) (Kept second.stored second.given ∷ []) xs ys
    (call_of a kept.0 kept.1 xs first) (call_of b kept.0 kept.1 ys second)
    (kept_long first.stored second.stored first.given second.given
    (call_long (a ++ contents_of first.added) (b ++ contents_of second.added) first.stored second.stored kept.0 first.called second.called)
    (outcome_long (a ++ contents_of first.added) (b ++ contents_of second.added) first.given second.given kept.1 first.came second.came))

-- ---- records of nodes

records_alike : (a b : List Value) → SameValues a b → (fresh : Fresh) (xs ys : List Item) → IsRecordBatch a fresh xs → IsRecordBatch b fresh ys
    → Alike a b xs ys
records_alike a b same fresh xs ys first second =
    alike a b same (needed_values (fresh ∷ [])) (map Node first.stored) (map Node second.stored) xs ys
    (notes_bring a (fresh ∷ []) xs first) (notes_bring b (fresh ∷ []) ys second)
    (records_long (a ++ first.added) (b ++ second.added) first.stored second.stored (fresh ∷ []) first.records second.records)

-- ---- many batches

-- the same things over contents with the same values
record AlikeAll (xs ys : List (List Item)) (a b : List Value) : Type 0 where
  long : batch_text xs ≡ batch_text ys
  after : SameValues a b

-- of two batches of one thing, each tells so of the other
abbrev AreAlike : {T : Type 0} → (List Value → T → List Item → Type 0) → Type 0
AreAlike {T} IsBatch =
    (a b : List Value) → SameValues a b → (thing : T) (xs ys : List Item) → IsBatch a thing xs → IsBatch b thing ys → Alike a b xs ys

module _ {T : Type 0} (IsBatch : List Value → T → List Item → Type 0) (step : AreAlike IsBatch) where
  all_alike : (a b : List Value) → SameValues a b → (things : List T) (xs ys : List (List Item)) (after last : List Value)
      → AreBatchesOf IsBatch a things xs after → AreBatchesOf IsBatch b things ys last → AlikeAll xs ys after last
  all_alike a b same [] [] [] after last p q = record {
    long = refl;
    after = subst (λ (l : List Value). SameValues l last) (sym p) (subst (λ (l : List Value). SameValues a l) (sym q) same);
  }
  all_alike a b same [] [] (y ∷ ys) after last p q = absurd q
  all_alike a b same [] (x ∷ xs) ys after last p q = absurd p
  all_alike a b same (thing ∷ things) [] ys after last p q = absurd p
  all_alike a b same (thing ∷ things) (x ∷ xs) [] after last p q = absurd q
  all_alike a b same (thing ∷ things) (x ∷ xs) (y ∷ ys) after last p q =
      let one = step a b same thing x y p.0 q.0 in
      let rest = all_alike (contents_after a x) (contents_after b y) one.after things xs ys after last p.1 q.1 in
      record {
        long = ap (λ (n : ℕ). n + batch_text xs) one.long ∙ ap (λ (n : ℕ). length (spell_batch y) + n) rest.long;
        after = rest.after;
      }

batch_text-append : (xs ys : List (List Item)) → batch_text (xs ++ ys) ≡ batch_text xs + batch_text ys
batch_text-append [] ys = omega arith
batch_text-append (x ∷ xs) ys =
    ap (λ (n : ℕ). length (spell_batch x) + n) (batch_text-append xs ys) ∙ regroup (length (spell_batch x)) (batch_text xs) (batch_text ys)
  where
    regroup : (a b d : ℕ) → a + (b + d) ≡ (a + b) + d
    regroup a b d = omega arith

both_long : (a b d e : List (List Item)) → batch_text a ≡ batch_text b → batch_text d ≡ batch_text e → batch_text (a ++ d) ≡ batch_text (b ++ e)
both_long a b d e first second =
    batch_text-append a d ∙ ap (λ (n : ℕ). n + batch_text d) first ∙ ap (λ (n : ℕ). batch_text b + n) second ∙ sym (batch_text-append b e)

live_long : (live : Live) (xs ys : List (List Item)) (a b : List Value) → AreLive live xs a → AreLive live ys b → batch_text xs ≡ batch_text ys
live_long live xs ys a b p q =
    let puts = all_alike IsSourceBatch puts_alike [] [] same_none (names.entries live.sources) p.puts q.puts p.put q.put p.sourced q.sourced in
    let keeps = all_alike IsKeptBatch calls_alike p.put q.put puts.after live.calls p.keeps q.keeps p.kept q.kept p.called q.called in
    let notes = all_alike IsRecordBatch records_alike p.kept q.kept keeps.after live.records p.notes q.notes a b p.noted q.noted in
    let front : batch_text (p.puts ++ p.keeps) ≡ batch_text (q.puts ++ q.keeps) = both_long p.puts q.puts p.keeps q.keeps puts.long keeps.long in
    let all : batch_text (p.puts ++ p.keeps ++ p.notes) ≡ batch_text (q.puts ++ q.keeps ++ q.notes) =
    both_long (p.puts ++ p.keeps) (q.puts ++ q.keeps) p.notes q.notes front notes.long in
    ap batch_text p.batches_are ∙ ap (λ (n : ℕ). length (spell_batch (graph_batch live.graph)) + n) all ∙ sym (ap batch_text q.batches_are)

pub live_text_one : (live : Live) (size other : ℕ) → IsLiveText live size → IsLiveText live other → other ≡ size
live_text_one live size other p q = q.3 ∙ live_long live q.0 p.0 q.1 p.1 q.2 p.2 ∙ sym p.3
