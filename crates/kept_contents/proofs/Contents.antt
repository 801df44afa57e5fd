-- Contents that are texts held under their numbers.
use Rattle.std.proofs.Common.{◌≡◌, ℕ, zero, suc, List, [], ◌∷◌, ◌++◌, length, map, append-nil, append_assoc, ap, sym, ◌∙◌, subst, refl}
use Rattle.std.specs.Prelude.{Some, None, All, slice_get}
use Rattle.std.proofs.lemmas.List.{map-append}
use Rattle.std.proofs.lemmas.List.Elements.{All-push, All-weaker}
use Rattle.std.proofs.lemmas.Option.{none-some, same_Some}
use Rattle.object_values.specs.declared.views.Value.{Value}
use Rattle.object_values.specs.declared.views.Value.TheVariants.{Simple}
use Rattle.meaning_texts.proofs.Lemmas.{in_all}
use Rattle.content_store.specs.Bodies.{Bodies, place_of_body, with_body}
use Rattle.content_store.proofs.Lemmas.{place_kept, goes_behind}
use Rattle.meaning_records.specs.Tables.{IsText}
use Rattle.kept_contents.specs.declared.shared.Shared.{Shared}
use Rattle.kept_contents.specs.declared.shared.Content.{Content}
use Rattle.kept_contents.specs.declared.shared.Content.TheVariants.{Text, Other}
use Rattle.kept_contents.specs.Stocks.{IsGrownFrom, IsHeldIn, IsOther, value_of, values_of_contents}
use Rattle.kept_contents.proofs.Items.{in_list, mapped}

pub at_place : {A : Type 0} (P : A → Type 0) (xs : List A) (x : A) (i : ℕ) → All P xs → slice_get xs i ≡ Some x → P x
at_place P xs x i all h = in_all P xs all x (in_list xs x i h)

pub unmapped : {A B : Type 0} (f : A → B) (xs : List A) (i : ℕ) → slice_get xs i ≡ None → slice_get (map f xs) i ≡ None
unmapped f [] i h = refl
unmapped f (x ∷ xs) zero h = absurd (none-some x (sym h))
unmapped f (x ∷ xs) (suc i) h = unmapped f xs i h

pub values_push : (items : List Content) (c : Content) → values_of_contents (items ++ c ∷ []) ≡ values_of_contents items ++ value_of c ∷ []
values_push items c = map-append value_of items (c ∷ [])

pub values_long : (items : List Content) → length (values_of_contents items) ≡ length items
values_long [] = refl
values_long (c ∷ items) = ap suc (values_long items)

-- ---- what stands at a number

pub shared_text : (items : List Content) (number : ℕ) (s : Shared) → slice_get items number ≡ Some (Text s) → IsText (values_of_contents items) number s.text
shared_text items number s h = mapped value_of items (Text s) number h

pub shared_held : (texts : Bodies) (items : List Content) (number : ℕ) (s : Shared) → All (IsHeldIn texts) items → slice_get items number ≡ Some (Text s) → place_of_body s.text texts ≡ Some s.id
shared_held texts items number s held h = at_place (IsHeldIn texts) items (Text s) number held h

pub other_no_text : (texts : Bodies) (items : List Content) (number : ℕ) (v : Value) → All (IsHeldIn texts) items → slice_get items number ≡ Some (Other v) → (text : List ℕ) → IsText (values_of_contents items) number text → ⊥
other_no_text texts items number v held h text is =
    let same : v ≡ Simple text = same_Some v (Simple text) (sym (mapped value_of items (Other v) number h) ∙ is) in
    subst IsOther same (at_place (IsHeldIn texts) items (Other v) number held h)

pub behind_no_text : (items : List Content) (number : ℕ) → slice_get items number ≡ None → (text : List ℕ) → IsText (values_of_contents items) number text → ⊥
behind_no_text items number h text is = none-some (Simple text) (sym (unmapped value_of items number h) ∙ is)

-- ---- texts more

pub grown_not : (texts : Bodies) → IsGrownFrom texts texts
grown_not texts = ([], sym (append-nil texts))

pub grown_twice : (a b d : Bodies) → IsGrownFrom a b → IsGrownFrom b d → IsGrownFrom a d
grown_twice a b d p q = (p.0 ++ q.0, q.1 ∙ ap (λ (t : Bodies). t ++ q.0) p.1 ∙ append_assoc a p.0 q.0)

stays : (texts later : Bodies) (c : Content) → IsHeldIn texts c → IsHeldIn (texts ++ later) c
stays texts later (Text s) h = place_kept s.text texts later s.id h
stays texts later (Other v) h = h

pub all_stay : (texts later : Bodies) (items : List Content) → All (IsHeldIn texts) items → All (IsHeldIn (texts ++ later)) items
all_stay texts later items held = All-weaker (IsHeldIn texts) (IsHeldIn (texts ++ later)) (stays texts later) items held

pub held_with : (body : List ℕ) (texts : Bodies) (items : List Content) → All (IsHeldIn texts) items → All (IsHeldIn (with_body body texts)) items
held_with body texts items held =
    let b = goes_behind body texts in
    subst (λ (t : Bodies). All (IsHeldIn t) items) (sym b.1) (all_stay texts b.0 items held)

pub held_push : (texts : Bodies) (items : List Content) (c : Content) → All (IsHeldIn texts) items → IsHeldIn texts c → All (IsHeldIn texts) (items ++ c ∷ [])
held_push texts items c held here = All-push (IsHeldIn texts) items c held here
