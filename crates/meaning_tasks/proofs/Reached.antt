-- Reached names: where lines agree or are added, and that the computed names are the reached ones.
use Rattle.std.proofs.Common.{◌≡◌, ℕ, zero, suc, ◌≤◌, true, false, List, [], ◌∷◌, ◌++◌, inl, inr, sym, ap, subst, refl, length, arith, map, flat_map, cond, bytes_eq}
use Rattle.std.specs.Cmp.Lexicographic.{bytes_decides}
use Rattle.meaning_graph.specs.Graphs.{Text}
use Rattle.meaning_texts.specs.Lists.{IsIn}
use Rattle.meaning_graph.specs.Routes.{Edges}
use Rattle.meaning_texts.proofs.Lemmas.{in_left, in_right, in_either, in_map, from_map, in_flat, from_flat, one_passes, passes_one, never_both}
use Rattle.meaning_graph.proofs.Lemmas.{Route, short_route}
use Rattle.meaning_tasks.specs.Reached.{Reached, by_own, by_line, AreReached, has_name, lines_among, reached_within, reached_names}
use Rattle.meaning_tasks.proofs.Sorted.{names_sorted, in_sorted, from_sorted, same_names}

-- ---- the same lines, or more

-- Where the own lines and those of the reached names are the same, so are the reached names.
module _ (own other : List Text) (lines more : Text → List Text) (same_own : own ≡ other) (same_lines : (x : Text) → Reached own lines x → lines x ≡ more x) where
  along : (x : Text) → Reached own lines x → Reached other more x
  along x (by_own y h) = by_own y (subst (λ l. IsIn y l) same_own h)
  along x (by_line y z r h) = by_line y z (along y r) (subst (λ l. IsIn z l) (same_lines y r) h)

  back : (x : Text) → Reached other more x → Reached own lines x
  back x (by_own y h) = by_own y (subst (λ l. IsIn y l) (sym same_own) h)
  back x (by_line y z r h) = by_line y z (back y r) (subst (λ l. IsIn z l) (sym (same_lines y (back y r))) h)

  pub reached_moved : (names : List Text) → AreReached own lines names → AreReached other more names
  reached_moved names a = record { sorted = a.sorted; only = λ x h. along x (a.only x h); each = λ x h. a.each x (back x h) }

-- Where lines are only added, no name is lost.
module _ (own other : List Text) (lines more : Text → List Text) (own_in : (x : Text) → IsIn x own → IsIn x other) (lines_in : (x y : Text) → IsIn y (lines x) → IsIn y (more x)) where
  pub reached_grows : (x : Text) → Reached own lines x → Reached other more x
  reached_grows x (by_own y h) = by_own y (own_in y h)
  reached_grows x (by_line y z r h) = by_line y z (reached_grows y r) (lines_in y z h)

-- There is one list of the reached names.
pub one_list : (own : List Text) (lines : Text → List Text) (names others : List Text) → AreReached own lines names → AreReached own lines others → names ≡ others
one_list own lines names others a b = same_names names others a.sorted b.sorted (λ x h. b.each x (a.only x h)) (λ x h. a.each x (b.only x h))

-- ---- names in lists

pub has_in : (x : Text) (names : List Text) → has_name x names ≡ true → IsIn x names
has_in x names h = let r = one_passes (bytes_eq x) names h in subst (λ z. IsIn z names) (sym ((bytes_decides x r.0).0 r.2)) r.1

pub in_has : (x : Text) (names : List Text) → IsIn x names → has_name x names ≡ true
in_has x names h = passes_one (bytes_eq x) x names h ((bytes_decides x x).1 refl)

-- ---- computed names

module _ (lines : Text → List Text) where
  within_only : (n : ℕ) (own from : List Text) → ((x : Text) → IsIn x from → Reached own lines x) → (x : Text) → IsIn x (reached_within lines n from) → Reached own lines x
  within_only zero own from each x h = each x (from_sorted x from h)
  within_only (suc n) own from each x h = elim (in_either x from (reached_within lines n (flat_map lines from)) (from_sorted x (from ++ reached_within lines n (flat_map lines from)) h)) [
    | inl k ↦ each x k
    | inr k ↦ within_only n own (flat_map lines from) (λ y i. let r = from_flat lines y from i in by_line r.0 y (each r.0 r.1) r.2) x k
  ]

  -- lines as edges of one label
  abbrev edges : Edges Text
  edges x = map (λ y. (0, y)) (lines x)

  edge_line : (x : Text) (k : ℕ) (y : Text) → IsIn (k, y) (edges x) → IsIn y (lines x)
  edge_line x k y h = let r = from_map (λ z. (0, z)) (k, y) (lines x) h in subst (λ z. IsIn z (lines x)) (sym (ap (λ (z : ℕ × Text). z.1) r.2)) r.1

  route_to_within : (n : ℕ) (ks : List ℕ) (from : List Text) (a x : Text) → length ks ≤ n → IsIn a from → Route edges (bytes_eq x) a ks → IsIn x (reached_within lines n from)
  route_to_within zero [] from a x few h r = in_sorted x from (subst (λ z. IsIn z from) (sym ((bytes_decides x a).0 r)) h)
  route_to_within (suc n) [] from a x few h r = in_sorted x _ (in_left x from _ (subst (λ z. IsIn z from) (sym ((bytes_decides x a).0 r)) h))
  route_to_within zero (k ∷ ks) from a x few h r = absurd (omega (arith, few))
  route_to_within (suc n) (k ∷ ks) from a x few h r = in_sorted x _ (in_right x from _ (route_to_within n ks (flat_map lines from) r.0 x (omega (arith, few)) (in_flat lines a r.0 from h (edge_line a k r.0 r.1)) r.2))

  route_on : (ks : List ℕ) (a y z : Text) → Route edges (bytes_eq y) a ks → IsIn z (lines y) → (more : List ℕ) × Route edges (bytes_eq z) a more
  route_on [] a y z r h = (0 ∷ [], (z, in_map (λ w. (0, w)) z (lines a) (subst (λ w. IsIn z (lines w)) ((bytes_decides y a).0 r) h), (bytes_decides z z).1 refl))
  route_on (k ∷ ks) a y z r h = let i = route_on ks r.0 y z r.2 h in (k ∷ i.0, (r.0, r.1, i.1))

  route_of : (own : List Text) (x : Text) → Reached own lines x → (a : Text) × IsIn a own × ((ks : List ℕ) × Route edges (bytes_eq x) a ks)
  route_of own x (by_own y h) = (y, h, ([], (bytes_decides y y).1 refl))
  route_of own x (by_line y z r h) = let i = route_of own y r in (i.0, i.1, route_on i.2.0 i.0 y z i.2.1 h)

  module _ (names : List Text) (listed : (x y : Text) → IsIn y (lines x) → IsIn x names) where
    edge_listed : (x : Text) (e : ℕ × Text) → IsIn e (edges x) → IsIn x names
    edge_listed x e h = listed x e.1 (edge_line x e.0 e.1 h)

    sorted_within : (n : ℕ) (from : List Text) → Rattle.std.specs.List.Sorted.IsStrictlySortedBy Rattle.meaning_texts.specs.Expressions.name_cmp (reached_within lines n from)
    sorted_within zero from = names_sorted from
    sorted_within (suc n) from = names_sorted (from ++ reached_within lines n (flat_map lines from))

    within_reached : (own : List Text) → AreReached own lines (reached_within lines (length names) own)
    within_reached own = record {
      sorted = sorted_within (length names) own;
      only = within_only (length names) own own (λ x h. by_own x h);
      each = λ x h.
          let r = route_of own x h in
          let s = short_route edges (bytes_eq x) names edge_listed r.2.0 r.0 r.2.1 in
          route_to_within (length names) s.0 own r.0 x s.2 r.1 s.1;
    }

among_listed : (names : List Text) (lines : Text → List Text) (x y : Text) → IsIn y (lines_among names lines x) → IsIn x names
among_listed names lines x y h = (elim (has_name x names) as (λ b. has_name x names ≡ b → IsIn y (cond b (lines x) []) → IsIn x names) [ true ↦ λ e k. has_in x names e | false ↦ λ e k. absurd k ]) refl h

-- the computed names are those that lines of the listed names reach
pub among_reached : (names own : List Text) (lines : Text → List Text) → AreReached own (lines_among names lines) (reached_names names own lines)
unfolding reached_names
among_reached names own lines = within_reached (lines_among names lines) names (among_listed names lines) own

no_member : (l : List Text) → ((y : Text) → IsIn y l → ⊥) → [] ≡ l
no_member [] f = refl
no_member (y ∷ l) f = absurd (f y (inl refl))

-- where the listed names alone have lines, these are all
pub all_reached : (names own : List Text) (lines : Text → List Text) → ((x y : Text) → IsIn y (lines x) → IsIn x names) → AreReached own lines (reached_names names own lines)
all_reached names own lines listed = reached_moved own own (lines_among names lines) lines refl (λ x r. same x) (reached_names names own lines) (among_reached names own lines)
  where
    same : (x : Text) → lines_among names lines x ≡ lines x
    same x = (elim (has_name x names) as (λ b. has_name x names ≡ b → cond b (lines x) [] ≡ lines x) [
      | true ↦ λ e. refl
      | false ↦ λ e. no_member (lines x) (λ y h. never_both (has_name x names) (in_has x names (listed x y h)) e)
    ]) refl
