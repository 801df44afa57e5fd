-- Routes along labelled edges from place to place, and the least one.
use Rattle.std.specs.Prelude.{◌≡◌, ℕ, zero, suc, Bool, true, false, ◌<◌, ◌⊎◌, List, [], ◌∷◌, length, Option, Some, None, option_map}
use Rattle.std.specs.declared.cmp.Ordering.{Ordering}
use Rattle.std.specs.declared.cmp.Ordering.TheVariants.{Less}
use Rattle.std.specs.Ordering.{nat_cmp, on, then_cmp, match_ordering}
use Rattle.std.specs.Cmp.Lexicographic.{slice_cmp}

-- the edges out of each place: a label, and the place that it leads to
abbrev pub Edges : Type 0 → Type 0
Edges A = A → List (ℕ × A)

-- p has fewer labels than q, or as many and the smaller one at the first difference
abbrev pub ComesBefore : List ℕ → List ℕ → Type 0
ComesBefore p q = (length p < length q) ⊎ ((length p ≡ length q) × (slice_cmp nat_cmp p q ≡ Less))

-- the same as an order
abbrev pub route_cmp : List ℕ → List ℕ → Ordering
route_cmp = then_cmp (on length nat_cmp) (slice_cmp nat_cmp)

abbrev pub lesser : Option (List ℕ) → Option (List ℕ) → Option (List ℕ)
lesser None q = q
lesser (Some p) None = Some p
lesser (Some p) (Some q) = match_ordering (route_cmp p q) (Some p) (Some p) (Some q)

-- the least route over one of the edges, given the least one from each place that they lead to
abbrev pub least_over : {A : Type 0} → (A → Option (List ℕ)) → List (ℕ × A) → Option (List ℕ)
least_over rest [] = None
least_over rest (e ∷ es) = lesser (option_map (λ q. e.0 ∷ q) (rest e.1)) (least_over rest es)

-- the least route of so many labels at most
abbrev pub least_route : {A : Type 0} → Edges A → (A → Bool) → ℕ → A → Option (List ℕ)
least_route out ends zero a = elim (ends a) [ true ↦ Some [] | false ↦ None ]
least_route out ends (suc n) a =
    elim (ends a) [ true ↦ Some [] | false ↦ least_over (least_route out ends n) (out a) ]
