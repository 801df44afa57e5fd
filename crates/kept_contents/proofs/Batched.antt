-- Contents that a batch adds.
use Rattle.std.proofs.Common.{◌≡◌, ◌+◌, ◌<◌, ℕ, suc, take, get_or, List, [], ◌∷◌, ◌++◌, ◌⊎◌, inl, inr, length, append-nil, append_assoc, ap, sym, ◌∙◌, subst, refl, arith}
use Rattle.std.specs.Prelude.{None, Some, slice_get, All, Result, Ok, Err, IfOk, OnOk}
use Rattle.std.proofs.lemmas.Grind.{flat_map-append}
use Rattle.std.proofs.lemmas.List.{take_more, map-append}
use Rattle.std.proofs.lemmas.List.Elements.{All-push}
use Rattle.std.proofs.lemmas.Option.{same_Some}
use Rattle.object_values.specs.declared.views.Part.{Part}
use Rattle.object_values.specs.declared.views.Value.{Value}
use Rattle.object_values.specs.declared.views.Value.TheVariants.{Simple}
use Rattle.object_values.specs.declared.calls.CallPart.{CallPart}
use Rattle.meaning_texts.specs.Lists.{IsIn}
use Rattle.meaning_texts.proofs.Lemmas.{in_either, in_map, from_map, in_all}
use Rattle.content_store.specs.Bodies.{Bodies, place_of_body}
use Rattle.object_values.specs.declared.items.StoredPart.{StoredPart}
use Rattle.object_values.specs.declared.items.StoredOutput.{StoredOutput}
use Rattle.meaning_records.specs.Numbers.{number_of}
use Rattle.meaning_records.specs.Tables.{IsText, IsNoText, IsPartOf, ArePartsOf, IsOutputOf, AreOutputsOf}
use Rattle.meaning_records.specs.Batches.{body_of, contents_of, EachTextOnce}
use Rattle.meaning_records.proofs.Lemmas.{leads_back, none_nowhere}
use Rattle.kept_contents.specs.declared.shared.Shared.{Shared}
use Rattle.kept_contents.specs.declared.shared.Content.{Content}
use Rattle.kept_contents.specs.declared.shared.Content.TheVariants.{Text, Other}
use Rattle.kept_contents.specs.Added.{texts_of_parts, texts_of_outputs, contents_with, AreHeld, AddsOne, AddsAll, AddsTexts, EachOnce, IsContent, IsNoContent}
use Rattle.kept_contents.specs.Places.{IsApart}
use Rattle.kept_contents.specs.Stocks.{IsHeldIn, IsOther, value_of, values_of_contents}
use Rattle.kept_contents.proofs.Contents.{all_stay}
use Rattle.kept_contents.proofs.Items.{kept, behind, mapped, last_item, in_list}
use Rattle.kept_contents.proofs.Numbers.{one_of, same_text}
use Rattle.kept_contents.proofs.Resolved.{parts_kept, parts_push, outputs_kept, outputs_push}

abbrev Texts : Type 0
Texts = List (List ℕ)

abbrev Values : Type 0
Values = List Value

-- ---- one value after another

pub adds_append : (contents : Values) (xs ys a b d : Values) → AddsAll contents xs a b → AddsAll contents ys b d → AddsAll contents (xs ++ ys) a d
adds_append contents [] ys a b d p q = subst (λ (l : Values). AddsAll contents ys l d) p q
adds_append contents (x ∷ xs) ys a b d p q = (p.0, p.1, adds_append contents xs ys p.0 b d p.2 q)

pub contents_append : (xs ys : Texts) → contents_of (xs ++ ys) ≡ contents_of xs ++ contents_of ys
contents_append xs ys = map-append Simple xs ys

pub texts_append : (contents : Values) (xs ys : Texts) (a b d : Values) → AddsTexts contents xs a b → AddsTexts contents ys b d → AddsTexts contents (xs ++ ys) a d
texts_append contents xs ys a b d p q = subst (λ (l : Values). AddsAll contents l a d) (sym (contents_append xs ys)) (adds_append contents (contents_of xs) (contents_of ys) a b d p q)

texts_push : (contents : Values) (xs : Texts) (a b d : Values) (x : List ℕ) → AddsTexts contents xs a b → AddsOne contents (Simple x) b d → AddsTexts contents (xs ++ x ∷ []) a d
texts_push contents xs a b d x p q = texts_append contents xs (x ∷ []) a b d p (d, q, refl)

grows_one : (contents : Values) (x : Value) (a b : Values) → AddsOne contents x a b → (more : Values) × (b ≡ a ++ more)
grows_one contents x a b (inl e) = ([], e ∙ sym (append-nil a))
grows_one contents x a b (inr r) = (x ∷ [], r.0)

pub grows : (contents : Values) (xs a b : Values) → AddsAll contents xs a b → (more : Values) × (b ≡ a ++ more)
grows contents [] a b e = ([], e ∙ sym (append-nil a))
grows contents (x ∷ xs) a b p =
    let one = grows_one contents x a p.0 p.1 in
    let rest = grows contents xs p.0 b p.2 in
    (one.0 ++ rest.0, rest.1 ∙ ap (λ (l : Values). l ++ rest.0) one.1 ∙ append_assoc a one.0 rest.0)

-- ---- what is added

once_push : (xs : Values) (x : Value) → EachOnce xs → (IsIn x xs → ⊥) → EachOnce (xs ++ x ∷ [])
once_push [] x once apart = (λ i. i, tt)
once_push (y ∷ xs) x once apart = (
  λ i. elim (in_either y xs (x ∷ []) i) [
    | inl k ↦ once.0 k
    | inr k ↦ elim k [ inl e ↦ apart (inl (sym e)) | inr none ↦ none ]
  ],
  once_push xs x once.1 (λ i. apart (inr i)),
)

once_one : (contents : Values) (x : Value) (a b : Values) → AddsOne contents x a b → EachOnce a → EachOnce b
once_one contents x a b (inl e) once = subst EachOnce (sym e) once
once_one contents x a b (inr r) once = subst EachOnce (sym r.0) (once_push a x once r.1)

-- each once
pub added_once : (contents : Values) (xs a b : Values) → AddsAll contents xs a b → EachOnce a → EachOnce b
added_once contents [] a b e once = subst EachOnce (sym e) once
added_once contents (x ∷ xs) a b p once = added_once contents xs p.0 b p.2 (once_one contents x a p.0 p.1 once)

from_one : (contents : Values) (x : Value) (a b : Values) → AddsOne contents x a b → (v : Value) → IsIn v b → IsIn v a ⊎ ((v ≡ x) × IsNoContent contents v)
from_one contents x a b (inl e) v i = inl (subst (IsIn v) e i)
from_one contents x a b (inr r) v i = elim (in_either v a (x ∷ []) (subst (IsIn v) r.0 i)) [
  | inl k ↦ inl k
  | inr k ↦ elim k [ inl e ↦ inr (e, subst (IsNoContent contents) (sym e) r.2) | inr none ↦ absurd none ]
]

-- only such values as were asked for, and that the file hasn't
added : (contents : Values) (xs a b : Values) → AddsAll contents xs a b → (v : Value) → IsIn v b → IsIn v a ⊎ (IsIn v xs × IsNoContent contents v)
added contents [] a b e v i = inl (subst (IsIn v) e i)
added contents (x ∷ xs) a b p v i = elim (added contents xs p.0 b p.2 v i) [
  | inl before ↦ elim (from_one contents x a p.0 p.1 v before) [
    | inl k ↦ inl k
    | inr r ↦ inr (inl r.0, r.1)
  ]
  | inr r ↦ inr (inr r.0, r.1)
]

pub added_from : (contents : Values) (xs b : Values) → AddsAll contents xs [] b → (v : Value) → IsIn v b → IsIn v xs
added_from contents xs b p v i = elim (added contents xs [] b p v i) [ inl none ↦ absurd none | inr r ↦ r.0 ]

pub added_new : (contents : Values) (xs b : Values) → AddsAll contents xs [] b → (v : Value) → IsIn v b → IsNoContent contents v
added_new contents xs b p v i = elim (added contents xs [] b p v i) [ inl none ↦ absurd none | inr r ↦ r.1 ]

-- ---- texts alone

-- values that are texts are the contents of these
are_texts : (xs : Texts) (b : Values) → ((v : Value) → IsIn v b → IsIn v (contents_of xs)) → (texts : Texts) × (b ≡ contents_of texts)
are_texts xs [] all = ([], refl)
are_texts xs (v ∷ b) all =
    let here = from_map Simple v xs (all v (inl refl)) in
    let rest = are_texts xs b (λ w i. all w (inr i)) in
    (here.0 ∷ rest.0, ap (λ (w : Value). w ∷ b) here.2 ∙ ap (λ (l : Values). Simple here.0 ∷ l) rest.1)

-- where texts alone are asked for, texts alone are added
pub texts_added : (contents : Values) (xs : Texts) (b : Values) → AddsTexts contents xs [] b → (texts : Texts) × (b ≡ contents_of texts)
texts_added contents xs b p = are_texts xs b (added_from contents (contents_of xs) b p)

once_texts : (texts : Texts) → EachOnce (contents_of texts) → EachTextOnce texts
once_texts [] once = tt
once_texts (t ∷ texts) once = (λ i. once.0 (in_map Simple t texts i), once_texts texts once.1)

pub texts_once : (contents : Values) (xs texts : Texts) → AddsTexts contents xs [] (contents_of texts) → EachTextOnce texts
texts_once contents xs texts p = once_texts texts (added_once contents (contents_of xs) [] (contents_of texts) p tt)

pub texts_from : (contents : Values) (xs texts : Texts) → AddsTexts contents xs [] (contents_of texts) → (t : List ℕ) → IsIn t texts → IsIn t xs
texts_from contents xs texts p t i =
    let there = from_map Simple (Simple t) xs (added_from contents (contents_of xs) (contents_of texts) p (Simple t) (in_map Simple t texts i)) in
    subst (λ (x : List ℕ). IsIn x xs) (sym (same_text t there.0 there.2)) there.1

pub texts_new : (contents : Values) (xs texts : Texts) → AddsTexts contents xs [] (contents_of texts) → (t : List ℕ) → IsIn t texts → IsNoText contents t
texts_new contents xs texts p t i = added_new contents (contents_of xs) (contents_of texts) p (Simple t) (in_map Simple t texts i)

-- ---- contents with those that are added

pub contents_grow : (contents : Values) (old new : List Content) (more : Values) → values_of_contents new ≡ values_of_contents old ++ more → contents_with contents new ≡ contents_with contents old ++ more
contents_grow contents old new more e = ap (λ (l : Values). contents ++ l) e ∙ sym (append_assoc contents (values_of_contents old) more)

pub parts_stay : (contents xs : Values) (old new : List Content) (stored : List StoredPart) (parts : List CallPart) → AddsAll contents xs (values_of_contents old) (values_of_contents new) → ArePartsOf (contents_with contents old) stored parts → ArePartsOf (contents_with contents new) stored parts
parts_stay contents xs old new stored parts adds are =
    let g = grows contents xs (values_of_contents old) (values_of_contents new) adds in
    subst (λ (l : Values). ArePartsOf l stored parts) (sym (contents_grow contents old new g.0 g.1)) (parts_kept (contents_with contents old) g.0 stored parts are)

outputs_stay : (contents : Values) (x : Value) (old new : List Content) (stored : List StoredOutput) (outputs : List Part) → AddsOne contents x (values_of_contents old) (values_of_contents new) → AreOutputsOf (contents_with contents old) stored outputs → AreOutputsOf (contents_with contents new) stored outputs
outputs_stay contents x old new stored outputs adds are =
    let g = grows_one contents x (values_of_contents old) (values_of_contents new) adds in
    subst (λ (l : Values). AreOutputsOf l stored outputs) (sym (contents_grow contents old new g.0 g.1)) (outputs_kept (contents_with contents old) g.0 stored outputs are)

-- ---- one value

-- a content of the file
pub content_of_file : (contents : Values) (new : List Content) (number : ℕ) (value : Value) → IsContent contents number value → IsContent (contents_with contents new) number value
content_of_file contents new number value is = kept contents (values_of_contents new) value number is

-- a content that is added
content_added : (contents : Values) (new : List Content) (value : Value) (place : ℕ) → slice_get (values_of_contents new) place ≡ Some value → IsContent (contents_with contents new) (length contents + place) value
content_added contents new value place at = behind contents (values_of_contents new) value place at

-- what stands in a list stands at a place
pub place_in : {A : Type 0} (xs : List A) (x : A) → IsIn x xs → (n : ℕ) × (slice_get xs n ≡ Some x)
place_in [] x i = absurd i
place_in (y ∷ xs) x (inl same) = (0, ap Some (sym same))
place_in (y ∷ xs) x (inr i) = let there = place_in xs x i in (suc there.0, there.1)

-- a text with a number in memory that none of those that are added has
not_text : (texts : Bodies) (text : List ℕ) (id : ℕ) → place_of_body text texts ≡ Some id → (c : Content) → IsHeldIn texts c → IsApart id c → Simple text ≡ value_of c → ⊥
not_text texts text id at (Text s) held apart e = apart (same_Some s.id id (sym held ∙ ap (λ (b : List ℕ). place_of_body b texts) (sym (same_text text s.text e)) ∙ at))
not_text texts text id at (Other v) other apart e = subst IsOther (sym e) other

pub not_added : (texts : Bodies) (new : List Content) (text : List ℕ) (id : ℕ) → AreHeld texts new → place_of_body text texts ≡ Some id → All (IsApart id) new → IsIn (Simple text) (values_of_contents new) → ⊥
not_added texts new text id held at none i =
    let m = from_map value_of (Simple text) new i in
    not_text texts text id at m.0 (in_all (IsHeldIn texts) new held m.0 m.1) (in_all (IsApart id) new none m.0 m.1) m.2

-- a value without a number
pub not_among : (values : Values) (value : Value) → number_of value values ≡ None → IsIn value values → ⊥
not_among values value none i = let there = place_in values value i in none_nowhere value values there.0 none there.1

pub no_content : (contents : Values) (value : Value) → number_of value contents ≡ None → IsNoContent contents value
no_content contents value none number is = none_nowhere value contents number none is

pub held_kept : (texts later : Bodies) (new : List Content) → AreHeld texts new → AreHeld (texts ++ later) new
held_kept texts later new held = all_stay texts later new held

module _ {E : Type 0} (contents : Values) where
  -- a content of the file
  pub known_number : (new : List Content) (value : Value) (number : ℕ) (r : Result ℕ E) → number_of value contents ≡ Some number → IfOk r (λ n. n ≡ 0 + number) → IfOk r (λ n. IsContent (contents_with contents new) n value)
  known_number new value number (Err e) at is = tt
  known_number new value number (Ok n) at is =
      let same : number ≡ n = omega (arith, is) in
      content_of_file contents new n value (subst (λ (k : ℕ). IsContent contents k value) same (leads_back value contents number at))

  module _ (len place : ℕ) (long : len ≡ length contents) where
    -- a value that is among those that are added
    pub added_number : (new : List Content) (value : Value) (r : Result ℕ E) → slice_get (values_of_contents new) place ≡ Some value → IfOk r (λ n. n ≡ len + place) → IfOk r (λ n. IsContent (contents_with contents new) n value)
    added_number new value (Err e) at is = tt
    added_number new value (Ok n) at is =
        let number : length contents + place ≡ n = ap (λ (k : ℕ). k + place) (sym long) ∙ sym is in
        subst (λ (k : ℕ). IsContent (contents_with contents new) k value) number (content_added contents new value place at)

    -- a text that was added before
    pub found_text : (text : List ℕ) (texts : Bodies) (new : List Content) (id : ℕ) (r : Result ℕ E) → AreHeld texts new → place_of_body text texts ≡ Some id → (s : Shared) × (slice_get new place ≡ Some (Text s)) × (s.id ≡ id) → IfOk r (λ n. n ≡ len + place)
        → IfOk r (λ n. IsText (contents_with contents new) n text)
    found_text text texts new id r held at found is =
        let here = in_all (IsHeldIn texts) new held (Text found.0) (in_list new (Text found.0) place found.1) in
        let same : found.0.text ≡ text = one_of texts found.0.text text id (here ∙ ap Some found.2) at in
        added_number new (Simple text) r (mapped value_of new (Text found.0) place found.1 ∙ ap (λ (t : List ℕ). Some (Simple t)) same) is

    -- a list or a compound that was added before
    pub found_other : (new : List Content) (value : Value) (r : Result ℕ E) → number_of value (values_of_contents new) ≡ Some place → IfOk r (λ n. n ≡ len + place) → IfOk r (λ n. IsContent (contents_with contents new) n value)
    found_other new value r at is = added_number new value r (leads_back value (values_of_contents new) place at) is

    -- a value that is added now
    pub new_number : (old new : List Content) (c : Content) (value : Value) (r : Result ℕ E) → value_of c ≡ value → new ≡ old ++ c ∷ [] → place ≡ length old → IfOk r (λ n. n ≡ len + place) → IfOk r (λ n. IsContent (contents_with contents new) n value)
    new_number old new c value r same grown at is =
        let here : slice_get new place ≡ Some c = ap (slice_get new) at ∙ ap (λ (l : List Content). slice_get l (length old)) grown ∙ last_item old c in
        added_number new value r (mapped value_of new c place here ∙ ap Some same) is

pub new_adds : (contents : Values) (old new : List Content) (c : Content) (value : Value) → value_of c ≡ value → new ≡ old ++ c ∷ [] → (IsIn value (values_of_contents old) → ⊥) → IsNoContent contents value → AddsOne contents value (values_of_contents old) (values_of_contents new)
new_adds contents old new c value same grown apart none = inr (ap values_of_contents grown ∙ map-append value_of old (c ∷ []) ∙ ap (λ (v : Value). values_of_contents old ++ v ∷ []) same, apart, none)

pub new_held : (texts : Bodies) (old new : List Content) (c : Content) → AreHeld texts old → IsHeldIn texts c → new ≡ old ++ c ∷ [] → AreHeld texts new
new_held texts old new c held at grown = subst (AreHeld texts) (sym grown) (All-push (IsHeldIn texts) old c held at)

pub on_ok : {T E : Type 0} {P : Type 0} (r : Result T E) → P → OnOk r P
on_ok (Ok x) p = p
on_ok (Err e) p = tt

-- ---- many texts

module _ (outputs : List Part) (i : ℕ) (here : Part) (lt : i < length outputs) (at : here ≡ get_or outputs i here) where
  outputs_taken : take i outputs ++ here ∷ [] ≡ take (i + 1) outputs
  outputs_taken = ap (λ (p : Part). take i outputs ++ p ∷ []) at ∙ sym (take_more outputs i here lt)

  pub outputs_step : (contents after : Values) (old new : List Content) (stored next : List StoredOutput) (s : StoredOutput) → after ≡ contents → AddsOne contents (Simple here.body) (values_of_contents old) (values_of_contents new) → AreOutputsOf (contents_with contents old) stored (take i outputs) → IsOutputOf (contents_with after new) s here → next ≡ stored ++ s ∷ [] → AreOutputsOf (contents_with after new) next (take (i + 1) outputs)
  outputs_step contents after old new stored next s same adds are is grown =
      let stay = outputs_stay contents (Simple here.body) old new stored (take i outputs) adds are in
      let here_is = subst (λ (l : Values). IsOutputOf (contents_with l new) s here) same is in
      let more = outputs_push (contents_with contents new) stored (take i outputs) s here stay here_is in
      subst (λ (l : Values). AreOutputsOf (contents_with l new) next (take (i + 1) outputs)) (sym same)
      (subst (λ (l : List StoredOutput). AreOutputsOf (contents_with contents new) l (take (i + 1) outputs)) (sym grown)
      (subst (λ (l : List Part). AreOutputsOf (contents_with contents new) (stored ++ s ∷ []) l) outputs_taken more))

  pub outputs_adds : (file contents : Values) (a b d : Values) → contents ≡ file → AddsTexts file (texts_of_outputs (take i outputs)) a b → AddsOne contents (Simple here.body) b d → AddsTexts file (texts_of_outputs (take (i + 1) outputs)) a d
  outputs_adds file contents a b d same before one =
      let e : texts_of_outputs (take i outputs) ++ here.body ∷ [] ≡ texts_of_outputs (take (i + 1) outputs) = sym (map-append (λ (o : Part). o.body) (take i outputs) (here ∷ [])) ∙ ap texts_of_outputs outputs_taken in
      subst (λ (l : Texts). AddsTexts file l a d) e (texts_push file (texts_of_outputs (take i outputs)) a b d here.body before (subst (λ (l : Values). AddsOne l (Simple here.body) b d) same one))

module _ (parts : List CallPart) (i : ℕ) (here : CallPart) (lt : i < length parts) (at : here ≡ get_or parts i here) where
  parts_taken : take i parts ++ here ∷ [] ≡ take (i + 1) parts
  parts_taken = ap (λ (p : CallPart). take i parts ++ p ∷ []) at ∙ sym (take_more parts i here lt)

  pub parts_step : (contents after : Values) (old new : List Content) (stored next : List StoredPart) (s : StoredPart) → after ≡ contents → AddsTexts contents (body_of here.body) (values_of_contents old) (values_of_contents new) → ArePartsOf (contents_with contents old) stored (take i parts) → IsPartOf (contents_with after new) s here → next ≡ stored ++ s ∷ [] → ArePartsOf (contents_with after new) next (take (i + 1) parts)
  parts_step contents after old new stored next s same adds are is grown =
      let stay = parts_stay contents (contents_of (body_of here.body)) old new stored (take i parts) adds are in
      let here_is = subst (λ (l : Values). IsPartOf (contents_with l new) s here) same is in
      let more = parts_push (contents_with contents new) stored (take i parts) s here stay here_is in
      subst (λ (l : Values). ArePartsOf (contents_with l new) next (take (i + 1) parts)) (sym same)
      (subst (λ (l : List StoredPart). ArePartsOf (contents_with contents new) l (take (i + 1) parts)) (sym grown)
      (subst (λ (l : List CallPart). ArePartsOf (contents_with contents new) (stored ++ s ∷ []) l) parts_taken more))

  pub parts_adds : (file contents : Values) (a b d : Values) → contents ≡ file → AddsTexts file (texts_of_parts (take i parts)) a b → AddsTexts contents (body_of here.body) b d → AddsTexts file (texts_of_parts (take (i + 1) parts)) a d
  parts_adds file contents a b d same before one =
      let f : CallPart → Texts = λ p. body_of p.body in
      let e : texts_of_parts (take i parts) ++ body_of here.body ≡ texts_of_parts (take (i + 1) parts) = ap (λ (l : Texts). texts_of_parts (take i parts) ++ l) (sym (append-nil (body_of here.body))) ∙ sym (flat_map-append f (take i parts) (here ∷ [])) ∙ ap texts_of_parts parts_taken in
      subst (λ (l : Texts). AddsTexts file l a d) e (texts_append file (texts_of_parts (take i parts)) (body_of here.body) a b d before (subst (λ (l : Values). AddsTexts l (body_of here.body) b d) same one))
