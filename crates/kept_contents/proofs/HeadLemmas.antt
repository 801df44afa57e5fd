-- Numbers of heads.
use Rattle.std.proofs.Common.{◌≡◌, ◌⊎◌, ◌<◌, ◌≤◌, ◌+◌, ℕ, zero, suc, Bool, true, false, List, [], ◌∷◌, ◌++◌, inl, inr, length, length-append, append-nil, get_or, position, cond, ap, sym, ◌∙◌, subst, refl, true≢false, arith}
use Rattle.std.proofs.Math.Dec.{ltb}
use Rattle.std.proofs.Math.ListN.{get_or-append}
use Rattle.std.proofs.Math.Seq.{get_or-append_seam}
use Rattle.std.specs.Prelude.{◌↔◌, IfNone, IfSome, IsTrue, Option, Some, None, slice_get}
use Rattle.std.specs.List.{position_or_len}
use Rattle.std.proofs.lemmas.Bool.{lt-ltb, ltb-false}
use Rattle.std.proofs.lemmas.List.Quantifiers.{position-Some}
use Rattle.std.proofs.lemmas.List.Sums.{fails_before_first, position_or_len_is}
use Rattle.std.proofs.lemmas.Option.{get_or_from_slice_get, none-some, same_Some, slice_get-get_or, slice_get_within}
use Rattle.content_store.specs.Marks.{Finds, KeepsNumbers}
use Rattle.content_store.specs.declared.marks.Marks.{Marks}
use Rattle.content_store.proofs.Lemmas.{index_kept, index_more, stands_nowhere}
use Rattle.kept_contents.specs.declared.head.CallHead.{CallHead}
use Rattle.kept_contents.specs.contracts.head.CallHeadPartialEq.TheImpl.{ghosts as head_eq}
use Rattle.kept_contents.specs.Heads.{AreMore, IsHeadIndex, head_exact, marks_of, place_of_head}

-- one number is of one head
pub one_head : (a b : CallHead) (heads : List CallHead) (number : ℕ) → place_of_head a heads ≡ Some number → place_of_head b heads ≡ Some number → a ≡ b
one_head a b heads number p q =
    let here = get_or heads number a in
    let first = (position-Some (head_eq.eq a) heads number a p).1 in
    let second = (position-Some (head_eq.eq b) heads number a q).1 in
    (head_exact a here).0 first ∙ sym ((head_exact b here).0 second)

-- ---- heads more

module _ (p : CallHead → Bool) where
  found_first : (heads : List CallHead) (number : ℕ) → number < length heads → position_or_len p heads ≡ number → position p heads ≡ Some number
  found_first heads number within first =
      ap (λ k. cond (ltb k (length heads)) (Some k) None) first ∙ ap (λ b. cond b (Some number) None) (lt-ltb number (length heads) within)

  found_grown : (heads later : List CallHead) (number : ℕ) (d : CallHead) → position p heads ≡ Some number → position p (heads ++ later) ≡ Some number
  found_grown heads later number d at =
      let there = position-Some p heads number d at in
      let within : number < length heads = there.0 in
      let first = position_or_len_is p (heads ++ later) number d (omega (arith, within, length-append heads later)) (λ k h. ap p (get_or-append heads later d k (omega (arith, h, within))) ∙ there.2 k h) (λ h. ap p (get_or-append heads later d number within) ∙ there.1) in
      found_first (heads ++ later) number (omega (arith, within, length-append heads later)) first

  none_passes : (heads : List CallHead) → position p heads ≡ None → length heads ≤ position_or_len p heads
  none_passes heads none = by_test (ltb (position_or_len p heads) (length heads)) refl none
    where
      by_test : (b : Bool) → ltb (position_or_len p heads) (length heads) ≡ b → cond b (Some (position_or_len p heads)) None ≡ None → length heads ≤ position_or_len p heads
      by_test true less none = absurd (none-some (position_or_len p heads) (sym none))
      by_test false less none = ltb-false (position_or_len p heads) (length heads) less

  found_last : (heads : List CallHead) (head : CallHead) → position p heads ≡ None → p head ≡ true → position p (heads ++ head ∷ []) ≡ Some (length heads)
  found_last heads head none passes =
      let long : length (heads ++ head ∷ []) ≡ length heads + 1 = length-append heads (head ∷ []) in
      let before = none_passes heads none in
      let first = position_or_len_is p (heads ++ head ∷ []) (length heads) head (omega (arith, long)) (λ k h. ap p (get_or-append heads (head ∷ []) head k h) ∙ fails_before_first p heads k head (omega (arith, h, before))) (λ h. ap p (get_or-append_seam heads head [] head) ∙ passes) in
      found_first (heads ++ head ∷ []) (length heads) (omega (arith, long)) first

pub heads_not : (heads : List CallHead) → AreMore heads heads
heads_not heads = ([], sym (append-nil heads))

pub head_grown : (head : CallHead) (old new : List CallHead) (number : ℕ) → AreMore old new → place_of_head head old ≡ Some number → place_of_head head new ≡ Some number
head_grown head old new number more at = subst (λ (l : List CallHead). place_of_head head l ≡ Some number) (sym more.1) (found_grown (head_eq.eq head) old more.0 number head at)

-- ---- where a head stands

module _ (head : CallHead) (heads : List CallHead) where
  none_nowhere : place_of_head head heads ≡ None → (i : ℕ) → ¬ (slice_get heads i ≡ Some head)
  none_nowhere none i here =
      let p = head_eq.eq head in
      let within : i < length heads = slice_get_within heads i head here in
      let past = none_passes p heads none in
      let fails = fails_before_first p heads i head (omega (arith, within, past)) in
      true≢false (sym ((head_exact head head).1 refl) ∙ ap p (sym (get_or_from_slice_get heads i head head here)) ∙ fails)

  nowhere_none : ((i : ℕ) → ¬ (slice_get heads i ≡ Some head)) → place_of_head head heads ≡ None
  nowhere_none nowhere = by_place (place_of_head head heads) refl
    where
      by_place : (o : Option ℕ) → place_of_head head heads ≡ o → o ≡ None
      by_place None is = refl
      by_place (Some i) is =
          let there = position-Some (head_eq.eq head) heads i head is in
          absurd (nowhere i (slice_get-get_or heads i head there.0 ∙ ap Some (sym ((head_exact head (get_or heads i head)).0 there.1))))

  stands_place : (number : ℕ) → ((i : ℕ) → slice_get heads i ≡ Some head → i ≡ number) → slice_get heads number ≡ Some head → place_of_head head heads ≡ Some number
  stands_place number once here =
      let p = head_eq.eq head in
      let within : number < length heads = slice_get_within heads number head here in
      let first = position_or_len_is p heads number head (omega (arith, within)) (λ k h. before k h within (p (get_or heads k head)) refl) (λ h. ap p (get_or_from_slice_get heads number head head here) ∙ (head_exact head head).1 refl) in
      found_first p heads number within first
    where
      before : (k : ℕ) → k < number → number < length heads → (b : Bool) → head_eq.eq head (get_or heads k head) ≡ b → b ≡ false
      before k less within false apart = refl
      before k less within true same =
          let at : slice_get heads k ≡ Some head = slice_get-get_or heads k head (omega (arith, less, within)) ∙ ap Some (sym ((head_exact head (get_or heads k head)).0 same)) in
          let is : k ≡ number = once k at in
          absurd (omega (arith, less, is))

  -- whether it stands at a place
  pub stands_at : (i : ℕ) (there : CallHead) (b : Bool) → slice_get heads i ≡ Some there → b ≡ head_eq.eq head there → IsTrue b ↔ (slice_get heads i ≡ Some head)
  stands_at i there b at test = (
    λ yes. at ∙ ap Some (sym ((head_exact head there).0 (sym test ∙ yes))),
    λ is. test ∙ (head_exact head there).1 (sym (same_Some there head (sym at ∙ is))),
  )

  pub stands_past : (i : ℕ) → slice_get heads i ≡ None → IsTrue false ↔ (slice_get heads i ≡ Some head)
  stands_past i at = (
    λ no. absurd (true≢false (sym no)),
    λ is. absurd (none-some head (sym at ∙ is)),
  )

  -- a head that isn't there comes last
  pub head_new : place_of_head head heads ≡ None → place_of_head head (heads ++ head ∷ []) ≡ Some (length heads)
  head_new none = found_last (head_eq.eq head) heads head none ((head_exact head head).1 refl)

-- ---- heads by their marks

last_or_before : (heads : List CallHead) (new : CallHead) (i : ℕ) (head : CallHead) → slice_get (heads ++ new ∷ []) i ≡ Some head → (slice_get heads i ≡ Some head) ⊎ ((i ≡ length heads) × (head ≡ new))
last_or_before [] new zero head at = inr (refl, sym (same_Some new head at))
last_or_before [] new (suc i) head at = absurd (none-some head at)
last_or_before (x ∷ heads) new zero head at = inl at
last_or_before (x ∷ heads) new (suc i) head at = elim (last_or_before heads new i head at) [ inl before ↦ inl before | inr last ↦ inr (ap suc last.0, last.1) ]

module _ (heads : List CallHead) (table : Marks) (index : IsHeadIndex heads table) where
  pub heads_kept : (next : Marks) → KeepsNumbers table next → IsHeadIndex heads next
  heads_kept next kept = index_kept (slice_get heads) marks_of table next index kept

  -- what a look for a head answers
  pub answered : (head : CallHead) (r : Option ℕ) → IfSome r (λ i. slice_get heads i ≡ Some head) → IfNone r ((i : ℕ) → Finds table (marks_of head) i → ¬ (slice_get heads i ≡ Some head)) → r ≡ place_of_head head heads
  answered head (Some number) here nowhere = sym (stands_place head heads number (λ i at. index.once i number head at here) here)
  answered head None here nowhere = sym (nowhere_none head heads (stands_nowhere (slice_get heads) marks_of table head index nowhere))

  pub head_more : (head : CallHead) (next : Marks) → place_of_head head heads ≡ None → KeepsNumbers table next → Finds next (marks_of head) (length heads) → IsHeadIndex (heads ++ head ∷ []) next
  head_more head next none kept there = index_more (slice_get heads) marks_of table next index kept (slice_get (heads ++ head ∷ [])) head (length heads) (last_or_before heads head) (none_nowhere head heads none) there
