-- Sorted lists of names.
use Rattle.std.proofs.Common.{◌≡◌, List, [], ◌∷◌, ◌⊎◌, inl, inr, sym, ap, ◌∙◌, subst, refl, Less, Equal, Greater, Ordering}
use Rattle.std.specs.Ordering.{match_ordering, ordering_reverse}
use Rattle.std.specs.Cmp.{tied_itself}
use Rattle.std.specs.Cmp.Lexicographic.{nat_list_cmp_total}
use Rattle.std.specs.FinMap.{nat_cmp-IsAntisymmetric, slice_cmp-IsAntisymmetric}
use Rattle.std.specs.List.{AllByRecursion}
use Rattle.std.specs.List.Sorted.{IsStrictlySortedBy}
use Rattle.std.specs.BTreeSet.{insert_key}
use Rattle.meaning_texts.specs.Expressions.{name_cmp}
use Rattle.meaning_graph.specs.Graphs.{Text}
use Rattle.meaning_texts.specs.Lists.{IsIn}
use Rattle.meaning_tasks.specs.Reached.{sorted_names}

-- by which of the three it is
by_cmp : (P : Ordering → Type 0) (x y : Text) → (name_cmp x y ≡ Less → P Less) → (name_cmp x y ≡ Equal → P Equal) → (name_cmp x y ≡ Greater → P Greater) → P (name_cmp x y)
by_cmp P x y f g h = (elim (name_cmp x y) as (λ o. name_cmp x y ≡ o → P o) [ Less ↦ f | Equal ↦ g | Greater ↦ h ]) refl

pub cmp_same : (x y : Text) → name_cmp x y ≡ Equal → x ≡ y
cmp_same x y e = slice_cmp-IsAntisymmetric nat_cmp-IsAntisymmetric x y e

turned : (x y : Text) → name_cmp x y ≡ Greater → name_cmp y x ≡ Less
turned x y e = nat_list_cmp_total.antisymm y x ∙ ap ordering_reverse e

not_below_itself : (x : Text) → name_cmp x x ≡ Less → ⊥
not_below_itself x h = let e = tied_itself nat_list_cmp_total x in cc

-- x stands before each name of the list
IsBelow : Text → List Text → Type 0
IsBelow x names = AllByRecursion (λ y. name_cmp x y ≡ Less) names

below_one : (x y : Text) (names : List Text) → IsBelow x names → IsIn y names → name_cmp x y ≡ Less
unfolding IsBelow
below_one x y [] b h = absurd h
below_one x y (z ∷ names) b (inl e) = subst (λ w. name_cmp x w ≡ Less) (sym e) b.0
below_one x y (z ∷ names) b (inr h) = below_one x y names b.1 h

below_chain : (x y : Text) (names : List Text) → name_cmp x y ≡ Less → IsBelow y names → IsBelow x names
unfolding IsBelow
below_chain x y [] h b = tt
below_chain x y (z ∷ names) h b = (nat_list_cmp_total.trans x y z h b.0, below_chain x y names h b.1)

abbrev put : Text → List Text → List Text
put x names = insert_key name_cmp names x

below_put : (x y : Text) (names : List Text) → name_cmp y x ≡ Less → IsBelow y names → IsBelow y (put x names)
unfolding IsBelow
below_put x y [] h b = (h, tt)
below_put x y (z ∷ names) h b = by_cmp (λ o. IsBelow y (match_ordering o (x ∷ z ∷ names) (z ∷ names) (z ∷ put x names))) x z (λ e. (h, b)) (λ e. b) (λ e. (b.0, below_put x y names h b.1))

put_sorted : (x : Text) (names : List Text) → IsStrictlySortedBy name_cmp names → IsStrictlySortedBy name_cmp (put x names)
unfolding IsStrictlySortedBy IsBelow
put_sorted x [] s = (tt, tt)
put_sorted x (y ∷ names) s = by_cmp (λ o. IsStrictlySortedBy name_cmp (match_ordering o (x ∷ y ∷ names) (y ∷ names) (y ∷ put x names))) x y
    (λ e. ((e, below_chain x y names e s.0), s)) (λ e. s) (λ e. (below_put x y names (turned x y e) s.0, put_sorted x names s.1))

pub names_sorted : (names : List Text) → IsStrictlySortedBy name_cmp (sorted_names names)
unfolding IsStrictlySortedBy
names_sorted [] = tt
names_sorted (x ∷ names) = put_sorted x (sorted_names names) (names_sorted names)

put_there : (x : Text) (names : List Text) → IsIn x (put x names)
put_there x [] = inl refl
put_there x (y ∷ names) = by_cmp (λ o. IsIn x (match_ordering o (x ∷ y ∷ names) (y ∷ names) (y ∷ put x names))) x y (λ e. inl refl) (λ e. inl (cmp_same x y e)) (λ e. inr (put_there x names))

put_keeps : (x z : Text) (names : List Text) → IsIn z names → IsIn z (put x names)
put_keeps x z [] h = absurd h
put_keeps x z (y ∷ names) h = by_cmp (λ o. IsIn z (match_ordering o (x ∷ y ∷ names) (y ∷ names) (y ∷ put x names))) x y (λ e. inr h) (λ e. h) (λ e. elim h [ inl q ↦ inl q | inr q ↦ inr (put_keeps x z names q) ])

from_put : (x z : Text) (names : List Text) → IsIn z (put x names) → (z ≡ x) ⊎ IsIn z names
from_put x z [] h = h
from_put x z (y ∷ names) h = (by_cmp (λ o. IsIn z (match_ordering o (x ∷ y ∷ names) (y ∷ names) (y ∷ put x names)) → (z ≡ x) ⊎ IsIn z (y ∷ names)) x y
    (λ e k. k) (λ e k. inr k) (λ e. elim [ inl q ↦ inr (inl q) | inr q ↦ elim (from_put x z names q) [ inl i ↦ inl i | inr i ↦ inr (inr i) ] ])) h

pub in_sorted : (x : Text) (names : List Text) → IsIn x names → IsIn x (sorted_names names)
in_sorted x [] h = absurd h
in_sorted x (y ∷ names) (inl e) = subst (λ z. IsIn z (put y (sorted_names names))) (sym e) (put_there y (sorted_names names))
in_sorted x (y ∷ names) (inr h) = put_keeps y x (sorted_names names) (in_sorted x names h)

pub from_sorted : (x : Text) (names : List Text) → IsIn x (sorted_names names) → IsIn x names
from_sorted x [] h = absurd h
from_sorted x (y ∷ names) h = elim (from_put y x (sorted_names names) h) [ inl e ↦ inl e | inr k ↦ inr (from_sorted x names k) ]

-- a name that stands before a list is none of it
apart : (x y : Text) (names : List Text) → IsBelow y names → IsIn x names → x ≡ y → ⊥
apart x y names b h e = not_below_itself y (subst (λ z. name_cmp y z ≡ Less) e (below_one y x names b h))

-- Two sorted lists of the same names are equal.
pub same_names : (xs ys : List Text) → IsStrictlySortedBy name_cmp xs → IsStrictlySortedBy name_cmp ys → ((x : Text) → IsIn x xs → IsIn x ys) → ((x : Text) → IsIn x ys → IsIn x xs) → xs ≡ ys
unfolding IsStrictlySortedBy IsBelow
same_names [] [] s t f g = refl
same_names [] (y ∷ ys) s t f g = absurd (g y (inl refl))
same_names (x ∷ xs) [] s t f g = absurd (f x (inl refl))
same_names (x ∷ xs) (y ∷ ys) s t f g =
    let first : x ≡ y = elim (f x (inl refl)) [
      | inl q ↦ q
      | inr h ↦ elim (g y (inl refl)) [ inl q ↦ sym q | inr k ↦ absurd (not_below_itself x (nat_list_cmp_total.trans x y x (below_one x y xs s.0 k) (below_one y x ys t.0 h))) ]
    ] in
    let rest : xs ≡ ys = same_names xs ys s.1 t.1
    (λ z h. elim (f z (inr h)) [ inl q ↦ absurd (apart z x xs s.0 h (q ∙ sym first)) | inr k ↦ k ])
    (λ z h. elim (g z (inr h)) [ inl q ↦ absurd (apart z y ys t.0 h (q ∙ first)) | inr k ↦ k ]) in
    λ i. first i ∷ rest i
