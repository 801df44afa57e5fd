-- Contents that are written anew, one after another.
use Rattle.std.proofs.Common.{◌≡◌, ◌<◌, ◌+◌, ◌⊎◌, ℕ, List, [], ◌∷◌, ◌++◌, inl, inr, length, take, get_or, append-nil, append_assoc, ap, sym, ◌∙◌, subst, refl}
use Rattle.std.specs.Prelude.{Some, None, slice_get}
use Rattle.std.proofs.lemmas.List.{take_more, map-append}
use Rattle.object_values.specs.declared.views.Value.{Value}
use Rattle.meaning_texts.specs.Lists.{IsIn}
use Rattle.content_store.specs.Bodies.{Bodies}
use Rattle.kept_contents.specs.declared.shared.Content.{Content}
use Rattle.kept_contents.specs.Stocks.{IsGrownFrom, IsHeldIn, value_of, values_of_contents}
use Rattle.kept_contents.specs.Added.{AreHeld, AddsOne, AddsAll, IsNoContent}
use Rattle.kept_contents.proofs.Batched.{held_kept, new_held}
use Rattle.kept_contents.proofs.Items.{in_list}

abbrev Values : Type 0
Values = List Value

-- ---- what is added where nothing was is added to what was added before

in_left : (xs ys : Values) (v : Value) → IsIn v xs → IsIn v (xs ++ ys)
in_left [] ys v i = absurd i
in_left (x ∷ xs) ys v (inl same) = inl same
in_left (x ∷ xs) ys v (inr i) = inr (in_left xs ys v i)

in_right : (xs ys : Values) (v : Value) → IsIn v ys → IsIn v (xs ++ ys)
in_right [] ys v i = i
in_right (x ∷ xs) ys v i = inr (in_right xs ys v i)

module _ (base : Values) where
  one_after : (x : Value) (a next : Values) → AddsOne [] x (base ++ a) next → (b : Values) × (next ≡ base ++ b) × AddsOne base x a b
  one_after x a next (inl same) = (a, same, inl refl)
  one_after x a next (inr new) = (
    a ++ x ∷ [],
    new.0 ∙ append_assoc base a (x ∷ []),
    inr (refl, λ i. new.1 (in_right base a x i), λ n is. new.1 (in_left base a x (in_list base x n is))),
  )

  all_after : (xs a new : Values) → AddsAll [] xs (base ++ a) new → (b : Values) × (new ≡ base ++ b) × AddsAll base xs a b
  all_after [] a new same = (a, same, refl)
  all_after (x ∷ xs) a new adds =
      let one = one_after x a adds.0 adds.1 in
      let rest = all_after xs one.0 new (subst (λ (l : Values). AddsAll [] xs l new) one.1 adds.2) in
      (rest.0, rest.1, (one.0, one.2, rest.2))

  pub adds_after : (xs new : Values) → AddsAll [] xs base new → (b : Values) × (new ≡ base ++ b) × AddsAll base xs [] b
  adds_after xs new adds = all_after xs [] new (subst (λ (l : Values). AddsAll [] xs l new) (sym (append-nil base)) adds)

  pub add_after : (x : Value) (new : Values) → AddsOne [] x base new → (b : Values) × (new ≡ base ++ b) × AddsOne base x [] b
  add_after x new adds = one_after x [] new (subst (λ (l : Values). AddsOne [] x l new) (sym (append-nil base)) adds)

-- ---- contents that are held in a table

module _ (contents : List Content) (i : ℕ) (here : Content) (lt : i < length contents) (at : here ≡ get_or contents i here) where
  pub held_next : (shared next : List Content) (c : Content) → value_of c ≡ value_of here → values_of_contents shared ≡ values_of_contents (take i contents)
      → next ≡ shared ++ c ∷ [] → values_of_contents next ≡ values_of_contents (take (i + 1) contents)
  held_next shared next c same before grown =
      let taken : take (i + 1) contents ≡ take i contents ++ here ∷ [] = take_more contents i here lt ∙ ap (λ (x : Content). take i contents ++ x ∷ []) (sym at) in
      ap values_of_contents grown
      ∙ map-append value_of shared (c ∷ [])
      ∙ ap (λ (l : Values). l ++ value_of c ∷ []) before
      ∙ ap (λ (v : Value). values_of_contents (take i contents) ++ v ∷ []) same
      ∙ sym (map-append value_of (take i contents) (here ∷ []))
      ∙ ap values_of_contents (sym taken)

pub held_more : (old new : Bodies) (added next : List Content) (c : Content) → IsGrownFrom old new → AreHeld old added → IsHeldIn new c → next ≡ added ++ c ∷ [] → AreHeld new next
held_more old new added next c grown held at pushed =
    let still = subst (λ (b : Bodies). AreHeld b added) (sym grown.1) (held_kept old grown.0 added held) in
    new_held new added next c still at pushed
