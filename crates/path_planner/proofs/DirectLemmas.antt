-- Where the one type is not the other, the least maker that leads from it to the other is the chosen path.
use Rattle.std.proofs.Common.{◌≡◌, ℕ, ◌≤◌, ◌⊎◌, inl, inr, true, false, List, [], ◌∷◌, sym, ap, refl, arith, slice_get}
use Rattle.std.specs.Prelude.{Option, Some, None, IfSome, option_and_then}
use Rattle.meaning_graph.specs.Graphs.{Graph, makers}
use Rattle.meaning_graph.specs.Routes.{ComesBefore}
use Rattle.meaning_graph.specs.Types.{is_a}
use Rattle.meaning_graph.specs.Paths.{Makes, Path, made_of, chosen_path}
use Rattle.meaning_graph.proofs.Lemmas.{is_a_so, so_is_a}
use Rattle.path_planner.specs.Direct.{LeadsTo, IsDirect}
use Rattle.path_planner.proofs.RouteLemmas.{chosen_is, three_ways, lesser_first}

-- what a maker makes, by its number
pub made_is : (g : Graph) (a k to : ℕ) → Makes g a k to → Some to ≡ option_and_then (made_of g a) (slice_get (makers g) k)
made_is g a k to m = rw (m.numbered, m.takes, so_is_a g a m.taken m.fits, m.makes) refl

module _ (g : Graph) (at to k next : ℕ) (apart : is_a g at to ≡ false) (leads : LeadsTo g at to k next) (first : (j other : ℕ) → LeadsTo g at to j other → k ≤ j) where
  least : (q : List ℕ) → Path g at to q → (q ≡ k ∷ []) ⊎ ComesBefore (k ∷ []) q
  least [] r = let yes : is_a g at to ≡ true = so_is_a g at to r in cc
  least (j ∷ []) r = elim (three_ways k j) [
    | inl less ↦ inr (inr (refl, lesser_first k j [] [] less))
    | inr l ↦ elim l [
      | inl e ↦ inl (ap (λ x. x ∷ []) (sym e))
      | inr more ↦ let not_less : k ≤ j = first j r.0 (r.1, so_is_a g r.0 to r.2) in absurd (omega (arith, more, not_less))
    ]
  ]
  least (j ∷ i ∷ q) r = inr (inl (omega arith))

  pub direct_chosen : chosen_path g at to ≡ Some (k ∷ [])
  direct_chosen = sym (chosen_is g at to (k ∷ []) (record { path = (next, leads.0, is_a_so g next to leads.1); least = least }))

-- what is found of it
pub direct_path : (g : Graph) (at to : ℕ) (found : Option (ℕ × ℕ)) → is_a g at to ≡ false → IsDirect g at to found → IfSome found (λ f. chosen_path g at to ≡ Some (f.0 ∷ []))
direct_path g at to None apart d = tt
direct_path g at to (Some f) apart d = direct_chosen g at to f.0 f.1 apart d.0 d.1

pub direct_makes : (g : Graph) (at to : ℕ) (found : Option (ℕ × ℕ)) → IsDirect g at to found → IfSome found (λ f. Some f.1 ≡ option_and_then (made_of g at) (slice_get (makers g) f.0))
direct_makes g at to None d = tt
direct_makes g at to (Some f) d = made_is g at f.0 f.1 d.0.0
