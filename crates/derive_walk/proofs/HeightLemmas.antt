-- A node of a height, and one that has none.
use Rattle.std.proofs.Common.{◌≡◌, ℕ, Bool, true, false, cond, List, [], ◌∷◌, inl, inr, sym, ap, ◌∙◌, refl, is_some}
use Rattle.std.specs.Prelude.{Option, Some, None}
use Rattle.std.proofs.lemmas.Bool.Decides.{Decides-eqb}
use Rattle.object_values.specs.declared.nodes.Node.{Node}
use Rattle.meaning_texts.specs.Lists.{IsIn}
use Rattle.meaning_texts.proofs.Lemmas.{same_some}
use Rattle.derive_walk.specs.Tables.{is_height, of_height}

-- ---- one of a height

of_this : (o : Option ℕ) (h : ℕ) → is_height h o ≡ true → o ≡ Some h
of_this None h e = cc
of_this (Some k) h e = ap Some ((Decides-eqb k h).0 e)

module _ (heights : Node → Option ℕ) (h : ℕ) where
  pub of_height_is : (nodes : List Node) (m : Node) → of_height heights h nodes ≡ Some m → IsIn m nodes × (heights m ≡ Some h)
  of_height_is [] m e = cc
  of_height_is (n ∷ nodes) m e = by_test (is_height h (heights n)) refl (of_height_is nodes m) e
    where
      by_test : (b : Bool) → is_height h (heights n) ≡ b → (of_height heights h nodes ≡ Some m → IsIn m nodes × (heights m ≡ Some h)) → cond b (Some n) (of_height heights h nodes) ≡ Some m → IsIn m (n ∷ nodes) × (heights m ≡ Some h)
      by_test true t more e = let same : n ≡ m = same_some e in (inl (sym same), ap heights (sym same) ∙ of_this (heights n) h t)
      by_test false t more e = let r = more e in (inr r.0, r.1)

  has_this : (n : Node) → heights n ≡ Some h → is_height h (heights n) ≡ true
  has_this n e = ap (is_height h) e ∙ (Decides-eqb h h).1 refl

  pub has_height : (nodes : List Node) (m : Node) → IsIn m nodes → heights m ≡ Some h → (x : Node) × (of_height heights h nodes ≡ Some x)
  has_height [] m i e = absurd i
  has_height (n ∷ nodes) m i e = by_test (is_height h (heights n)) refl (λ j. has_height nodes m j e) i
    where
      by_test : (b : Bool) → is_height h (heights n) ≡ b → (IsIn m nodes → (x : Node) × (of_height heights h nodes ≡ Some x)) → IsIn m (n ∷ nodes) → (x : Node) × (cond b (Some n) (of_height heights h nodes) ≡ Some x)
      by_test true t more i = (n, refl)
      by_test false t more (inl q) = let z : is_height h (heights n) ≡ true = has_this n (ap heights (sym q) ∙ e) in cc
      by_test false t more (inr i) = more i

-- ---- what was not visited

pub not_some : (o : Option ℕ) → is_some o ≡ false → o ≡ None
not_some None e = refl
not_some (Some k) e = cc
