-- What is found by marks, and marks with one number more.
use Rattle.std.proofs.Common.{◌≡◌, ◌<◌, ◌+◌, ◌%◌, ◌^◌, ℕ, Bool, true, false, cond, List, [], ◌∷◌, ◌++◌, inl, inr, drop, get_or, length, ap, sym, ◌∙◌, subst, refl, true≢false, arith}
use Rattle.std.specs.Prelude.{◌↔◌, IsTrue, Option, Some, None, is_some, slice_get, nat_eq, All, Contains}
use Rattle.std.specs.Cmp.Lexicographic.{pointwise}
use Rattle.std.specs.HashMap.{get}
use Rattle.std.specs.Map.{lookup}
use Rattle.std.proofs.lemmas.List.{drop_more}
use Rattle.std.proofs.lemmas.List.Elements.{All-contains, Contains-append_left, Contains-push}
use Rattle.std.proofs.lemmas.Option.{none-some, same_Some, slice_get-get_or}
use Rattle.content_store.specs.declared.marks.Mark.{Mark}
use Rattle.content_store.specs.declared.marks.Mark.TheVariants.{Quick, Digest}
use Rattle.content_store.specs.declared.marks.Marks.{Marks}
use Rattle.content_store.specs.Marks.{Finds, IsLed, KeepsNumbers, first_free, leads}

pub none_there : {A : Type 0} (o : Option A) → is_some o ≡ false → o ≡ None
none_there None e = refl
none_there (Some x) e = absurd (true≢false e)

-- ---- a key more in a map

module _ {Key : Type 0} (eq : Key → Key → Bool) (exact : (a b : Key) → IsTrue (eq a b) ↔ (a ≡ b)) (before after : Key → Option ℕ) (key : Key) (number : ℕ) (free : before key ≡ None)
    (is : (k : Key) → after k ≡ cond (eq key k) (Some number) (before k)) where
  pub leads_there : after key ≡ Some number
  leads_there = is key ∙ ap (λ t. cond t (Some number) (before key)) ((exact key key).1 refl)

  pub leads_still : (k : Key) (i : ℕ) → before k ≡ Some i → after k ≡ Some i
  leads_still k i at = is k ∙ by (eq key k) refl
    where
      by : (t : Bool) → eq key k ≡ t → cond t (Some number) (before k) ≡ Some i
      by true same = absurd (none-some i (sym free ∙ ap before ((exact key k).0 same) ∙ at))
      by false apart = at

-- ---- what is led to

module _ (before after : Mark → Option ℕ) (kept : (mark : Mark) (i : ℕ) → before mark ≡ Some i → after mark ≡ Some i) where
  pub led_still : (clashing more : List ℕ) → ((i : ℕ) → Contains clashing i → Contains more i) → (marks : List Mark) (i : ℕ) → IsLed before clashing marks i → IsLed after more marks i
  led_still clashing more still [] i clashes = still i clashes
  led_still clashing more still (mark ∷ marks) i led = (
    led.0,
    kept mark led.0 led.1,
    elim led.2 [
      | inl same ↦ inl same
      | inr further ↦ inr (led_still clashing more still marks i further)
    ],
  )

  -- by the first free mark, which leads there now
  pub led_there : (clashing : List ℕ) (marks : List Mark) (free : Mark) (i : ℕ) → after free ≡ Some i → first_free before marks ≡ Some free → IsLed after clashing marks i
  led_there clashing [] free i there e = absurd (none-some free e)
  led_there clashing (mark ∷ marks) free i there e = by (before mark) refl e (λ further. led_there clashing marks free i there further)
    where
      by : (o : Option ℕ) → before mark ≡ o → cond (is_some o) (first_free before marks) (Some mark) ≡ Some free → (first_free before marks ≡ Some free → IsLed after clashing marks i) → IsLed after clashing (mark ∷ marks) i
      by None at e further = (i, ap after (same_Some mark free e) ∙ there, inl refl)
      by (Some j) at e further = (j, kept mark j at, inr (further e))

module _ (to : Mark → Option ℕ) where
  -- where no mark is free
  pub led_last : (clashing : List ℕ) (marks : List Mark) (i : ℕ) → Contains clashing i → first_free to marks ≡ None → IsLed to clashing marks i
  led_last clashing [] i clashes e = clashes
  led_last clashing (mark ∷ marks) i clashes e = by (to mark) refl e (λ further. led_last clashing marks i clashes further)
    where
      by : (o : Option ℕ) → to mark ≡ o → cond (is_some o) (first_free to marks) (Some mark) ≡ None → (first_free to marks ≡ None → IsLed to clashing marks i) → IsLed to clashing (mark ∷ marks) i
      by None at e further = absurd (none-some mark (sym e))
      by (Some j) at e further = (j, at, inr (further e))

  pub free_nowhere : (marks : List Mark) (free : Mark) → first_free to marks ≡ Some free → to free ≡ None
  free_nowhere [] free e = absurd (none-some free e)
  free_nowhere (mark ∷ marks) free e = by (to mark) refl e (λ further. free_nowhere marks free further)
    where
      by : (o : Option ℕ) → to mark ≡ o → cond (is_some o) (first_free to marks) (Some mark) ≡ Some free → (first_free to marks ≡ Some free → to free ≡ None) → to free ≡ None
      by None at e further = ap to (sym (same_Some mark free e)) ∙ at
      by (Some j) at e further = further e

-- ---- marks one after another

pub drop_there : (marks : List Mark) (n : ℕ) (mark : Mark) → n < length marks → slice_get marks n ≡ Some mark → drop n marks ≡ mark ∷ drop (n + 1) marks
drop_there marks n mark within at = drop_more marks n mark within ∙ ap (λ m. m ∷ drop (n + 1) marks) (same_Some (get_or marks n mark) mark (sym (slice_get-get_or marks n mark within) ∙ at))

module _ (to : Mark → Option ℕ) (clashing : List ℕ) (marks : List Mark) (n : ℕ) (mark : Mark) (within : n < length marks) (at : slice_get marks n ≡ Some mark) where
  -- a mark that leads nowhere
  pub led_nowhere : (i : ℕ) → to mark ≡ None → ¬ IsLed to clashing (drop n marks) i
  led_nowhere i none led = let here = subst (λ (l : List Mark). IsLed to clashing l i) (drop_there marks n mark within at) led in none-some here.0 (sym none ∙ here.1)

  -- or to another number
  pub led_further : (Is : ℕ → Type 0) (i j : ℕ) → to mark ≡ Some j → ¬ Is j → Is i → IsLed to clashing (drop n marks) i → IsLed to clashing (drop (n + 1) marks) i
  led_further Is i j leads_to other is led = let here = subst (λ (l : List Mark). IsLed to clashing l i) (drop_there marks n mark within at) led in elim here.2 [
    | inl same ↦ absurd (other (subst Is (same ∙ same_Some here.0 j (sym here.1 ∙ leads_to)) is))
    | inr further ↦ further
  ]

  pub free_here : to mark ≡ None → first_free to (drop n marks) ≡ Some mark
  free_here none = ap (first_free to) (drop_there marks n mark within at) ∙ ap (λ o. cond (is_some o) (first_free to (drop (n + 1) marks)) (Some mark)) none

  pub free_further : (is_some (to mark) ≡ true) → first_free to (drop n marks) ≡ first_free to (drop (n + 1) marks)
  free_further some = ap (first_free to) (drop_there marks n mark within at) ∙ ap (λ t. cond t (first_free to (drop (n + 1) marks)) (Some mark)) some

-- ---- tables

pub keeps : (old new : Marks) → ((mark : Mark) (i : ℕ) → leads old mark ≡ Some i → leads new mark ≡ Some i) → ((i : ℕ) → Contains old.clashing.items i → Contains new.clashing.items i) → KeepsNumbers old new
keeps old new kept still marks i led = led_still (leads old) (leads new) kept old.clashing.items new.clashing.items still marks i led

-- each look gives what it gave
pub looks_alike : (old new : Marks) → ((hash : ℕ) → get nat_eq new.quick hash ≡ get nat_eq old.quick hash) → ((digest : List ℕ) → get (pointwise nat_eq) new.digests digest ≡ get (pointwise nat_eq) old.digests digest) → new.clashing.items ≡ old.clashing.items → KeepsNumbers old new
looks_alike old new quick digests clashing = keeps old new alike (λ i h. subst (λ (l : List ℕ). Contains l i) (sym clashing) h)
  where
    alike : (mark : Mark) (i : ℕ) → leads old mark ≡ Some i → leads new mark ≡ Some i
    alike (Quick hash) i at = quick (hash % 2 ^ 32) ∙ at
    alike (Digest digest) i at = digests digest ∙ at

pub digests_kept : (old new : Marks) → ((hash : ℕ) → get nat_eq new.quick hash ≡ get nat_eq old.quick hash) → ((digest : List ℕ) (i : ℕ) → get (pointwise nat_eq) old.digests digest ≡ Some i → get (pointwise nat_eq) new.digests digest ≡ Some i) → (mark : Mark) (i : ℕ) → leads old mark ≡ Some i → leads new mark ≡ Some i
digests_kept old new quick still (Quick hash) i at = quick (hash % 2 ^ 32) ∙ at
digests_kept old new quick still (Digest digest) i at = still digest i at

leads_nowhere : (table : Marks) → table.quick.entries ≡ [] → table.digests.entries ≡ [] → (mark : Mark) → leads table mark ≡ None
leads_nowhere table quick digests (Quick hash) = ap (lookup (nat_eq (hash % 2 ^ 32))) quick
leads_nowhere table quick digests (Digest digest) = ap (lookup (pointwise nat_eq digest)) digests

nothing_in : (i : ℕ) → Contains [] i → ⊥
nothing_in i h = absurd (omega (arith, h.1))

pub finds_nothing : (table : Marks) → table.quick.entries ≡ [] → table.digests.entries ≡ [] → table.clashing.items ≡ [] → (marks : List Mark) (i : ℕ) → ¬ Finds table marks i
finds_nothing table quick digests clashing [] i led = nothing_in i (subst (λ (l : List ℕ). Contains l i) clashing led)
finds_nothing table quick digests clashing (mark ∷ marks) i led = none-some led.0 (sym (leads_nowhere table quick digests mark) ∙ led.1)
