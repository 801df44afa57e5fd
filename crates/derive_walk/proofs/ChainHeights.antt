-- Heights fall along chains: where one node of a chain has a height, so has each after it.
use Rattle.std.proofs.Common.{◌≡◌, ℕ, List, [], ◌∷◌, ◌++◌, inl, inr, sym, ap, ◌∙◌, subst}
use Rattle.std.specs.Prelude.{Some}
use Rattle.object_values.specs.declared.nodes.Node.{Node}
use Rattle.meaning_texts.specs.Lists.{IsIn}
use Rattle.meaning_derive.specs.Chains.{LeadsOn, Chain}
use Rattle.derive_walk.specs.declared.walk.Walk.{Walk}
use Rattle.derive_walk.specs.DerivedHeights.{heights_or}
use Rattle.derive_walk.specs.States.{HoldsIn}
use Rattle.derive_walk.specs.Worlds.{World, seen_in}
use Rattle.derive_walk.proofs.FallLemmas.{falls}

module _ (w : World) (walk : Walk) (holds : HoldsIn w walk) where
  leads_to : (n m : Node) (k : ℕ) → heights_or w walk n ≡ Some k → (front : List Node) → LeadsOn w.graph (seen_in w) n (front ++ m ∷ [])
      → (j : ℕ) × (heights_or w walk m ≡ Some j)
  leads_to n m k e [] l = let r = falls w walk holds n m k e l.0 in (r.0, r.1)
  leads_to n m k e (f ∷ front) l = let r = falls w walk holds n f k e l.0 in leads_to f m r.0 r.1 front l.1

  -- from its first node
  pub seen_along : (n m : Node) (k : ℕ) → heights_or w walk n ≡ Some k → (front : List Node) → Chain w.graph (seen_in w) n (front ++ m ∷ [])
      → (j : ℕ) × (heights_or w walk m ≡ Some j)
  seen_along n m k e [] c = (k, subst (λ z. heights_or w walk z ≡ Some k) c.0 e)
  seen_along n m k e (f ∷ front) c = leads_to f m k (subst (λ z. heights_or w walk z ≡ Some k) c.0 e) front c.1

  -- from one of those after a node
  after : (x m : Node) (front : List Node) → LeadsOn w.graph (seen_in w) x (front ++ m ∷ []) → (n : Node) (k : ℕ) → IsIn n (x ∷ front ++ m ∷ [])
      → heights_or w walk n ≡ Some k → (j : ℕ) × (heights_or w walk m ≡ Some j)
  after x m front l n k (inl e) is = leads_to x m k (ap (heights_or w walk) (sym e) ∙ is) front l
  after x m [] l n k (inr (inl e)) is = (k, ap (heights_or w walk) (sym e) ∙ is)
  after x m [] l n k (inr (inr none)) is = absurd none
  after x m (f ∷ front) l n k (inr i) is = after f m front l.1 n k i is

  -- from any of them
  pub last_along : (root m : Node) (front : List Node) → Chain w.graph (seen_in w) root (front ++ m ∷ []) → (n : Node) (k : ℕ) → IsIn n (front ++ m ∷ [])
      → heights_or w walk n ≡ Some k → (j : ℕ) × (heights_or w walk m ≡ Some j)
  last_along root m [] c n k (inl e) is = (k, ap (heights_or w walk) (sym e) ∙ is)
  last_along root m [] c n k (inr none) is = absurd none
  last_along root m (f ∷ front) c n k i is = after f m front c.1 n k i is
