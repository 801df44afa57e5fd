-- The order of routes.
use Rattle.std.proofs.Common.{◌≡◌, ℕ, ◌<◌, List, ◌∷◌, ◌⊎◌, inl, inr, sym, ap, ◌∙◌, subst, refl, length, arith, Less, Equal, Greater, nat_cmp}
use Rattle.std.specs.Prelude.{Option, Some, None}
use Rattle.std.specs.Ordering.{match_ordering, ordering_then, ordering_reverse, MatchOrdering}
use Rattle.std.specs.Cmp.{nat_cmp_is, ranks, nat_cmp_total, then_total, on_total, IsTotalOrder, tied_itself}
use Rattle.std.specs.Cmp.Lexicographic.{slice_cmp, nat_list_cmp_total}
use Rattle.std.specs.FinMap.{nat_cmp-IsAntisymmetric, slice_cmp-IsAntisymmetric}
use Rattle.meaning_graph.specs.Routes.{ComesBefore, route_cmp, lesser}

pub route_total : IsTotalOrder route_cmp
route_total = then_total (on_total length nat_cmp_total) nat_list_cmp_total

pub so_before : (p q : List ℕ) → route_cmp p q ≡ Less → ComesBefore p q
so_before p q e = (elim (nat_cmp (length p) (length q)) as (λ o. MatchOrdering o (length p < length q) (length p ≡ length q) (length q < length p) → ordering_then o (slice_cmp nat_cmp p q) ≡ Less → ComesBefore p q) [
  | Less ↦ λ h k. inl h
  | Equal ↦ λ h k. inr (h, k)
  | Greater ↦ λ h k. cc
]) (ranks (length p) (length q)) e

pub before_so : (p q : List ℕ) → ComesBefore p q → route_cmp p q ≡ Less
before_so p q (inl h) = ap (λ o. ordering_then o (slice_cmp nat_cmp p q)) (sym (nat_cmp_is (length p) (length q) Less h))
before_so p q (inr h) = ap (λ o. ordering_then o (slice_cmp nat_cmp p q)) (sym (nat_cmp_is (length p) (length q) Equal h.0)) ∙ h.1

pub tied_same : (p q : List ℕ) → route_cmp p q ≡ Equal → p ≡ q
tied_same p q e = (elim (nat_cmp (length p) (length q)) as (λ o. ordering_then o (slice_cmp nat_cmp p q) ≡ Equal → p ≡ q) [
  | Less ↦ λ k. cc
  | Equal ↦ λ k. slice_cmp-IsAntisymmetric nat_cmp-IsAntisymmetric p q k
  | Greater ↦ λ k. cc
]) e

-- q is p, or p comes before it
abbrev pub AtMost : List ℕ → List ℕ → Type 0
AtMost p q = (q ≡ p) ⊎ ComesBefore p q

pub before_chain : (p q r : List ℕ) → ComesBefore p q → ComesBefore q r → ComesBefore p r
before_chain p q r h k = so_before p r (route_total.trans p q r (before_so p q h) (before_so q r k))

pub at_most_chain : (p q r : List ℕ) → AtMost p q → AtMost q r → AtMost p r
at_most_chain p q r (inl e) k = subst (λ z. AtMost z r) e k
at_most_chain p q r (inr h) (inl e) = inr (subst (λ z. ComesBefore p z) (sym e) h)
at_most_chain p q r (inr h) (inr k) = inr (before_chain p q r h k)

pub at_most_behind : (m : ℕ) (p q : List ℕ) → AtMost p q → AtMost (m ∷ p) (m ∷ q)
at_most_behind m p q (inl e) = inl (ap (λ l. m ∷ l) e)
at_most_behind m p q (inr (inl h)) = inr (inl (omega (arith, h)))
at_most_behind m p q (inr (inr h)) = inr (inr (omega (arith, h.0), ap (λ o. ordering_then o (slice_cmp nat_cmp p q)) (tied_itself nat_cmp_total m) ∙ h.1))

pub not_before_itself : (p : List ℕ) → ComesBefore p p → ⊥
not_before_itself p h = let e : route_cmp p p ≡ Less = before_so p p h in let t = tied_itself route_total p in cc

-- ---- the lesser of two

-- o is the least of the lists of which P holds, and nothing where there is none
abbrev pub IsLeast : (List ℕ → Type 0) → Option (List ℕ) → Type 0
IsLeast P None = (q : List ℕ) → P q → ⊥
IsLeast P (Some p) = P p × ((q : List ℕ) → P q → AtMost p q)

pub least_same : (P Q : List ℕ → Type 0) (o : Option (List ℕ)) → ((q : List ℕ) → P q → Q q) → ((q : List ℕ) → Q q → P q) → IsLeast P o → IsLeast Q o
least_same P Q None f g l = λ q k. l q (g q k)
least_same P Q (Some p) f g l = (f p l.0, λ q k. l.1 q (g q k))

pub lesser_least : (P Q : List ℕ → Type 0) (x y : Option (List ℕ)) → IsLeast P x → IsLeast Q y → IsLeast (λ q. P q ⊎ Q q) (lesser x y)
lesser_least P Q None None f g = λ q. elim [ inl k ↦ f q k | inr k ↦ g q k ]
lesser_least P Q None (Some y) f g = (inr g.0, λ q. elim [ inl k ↦ absurd (f q k) | inr k ↦ g.1 q k ])
lesser_least P Q (Some x) None f g = (inl f.0, λ q. elim [ inl k ↦ f.1 q k | inr k ↦ absurd (g q k) ])
lesser_least P Q (Some x) (Some y) f g = (elim (route_cmp x y) as (λ o. route_cmp x y ≡ o → IsLeast (λ q. P q ⊎ Q q) (match_ordering o (Some x) (Some x) (Some y))) [
  | Less ↦ λ e. (inl f.0, λ q. elim [ inl k ↦ f.1 q k | inr k ↦ at_most_chain x y q (inr (so_before x y e)) (g.1 q k) ])
  | Equal ↦ λ e. (inl f.0, λ q. elim [ inl k ↦ f.1 q k | inr k ↦ at_most_chain x y q (inl (sym (tied_same x y e))) (g.1 q k) ])
  | Greater ↦ λ e. (inr g.0, λ q. elim [ inl k ↦ at_most_chain y x q (inr (so_before y x (route_total.antisymm y x ∙ ap ordering_reverse e))) (f.1 q k) | inr k ↦ g.1 q k ])
]) refl
