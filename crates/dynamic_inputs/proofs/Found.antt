-- Names that are added where they are new.
use Rattle.std.proofs.Common.{◌≡◌, ℕ, zero, suc, ◌<◌, true, false, List, [], ◌∷◌, ◌++◌, ◌⊎◌, inl, inr, sym, ap, ◌∙◌, subst, refl, cond, length, take, get_or, slice_get, Some, None, Option, position, arith, append_assoc, append-nil}
use Rattle.std.proofs.lemmas.List.{take_at}
use denote.Ref.{Bor}
use Rattle.std.specs.Prelude.{bytes_eq, IfSome}
use Rattle.std.specs.Option.{option_copied}
use Rattle.std.proofs.lemmas.List.Quantifiers.{position-Some}
use Rattle.std.proofs.lemmas.Option.{slice_get-get_or, slice_get_within, get_or_from_slice_get}
use Rattle.std.specs.List.{IsDistinct, AllByRecursion}
use Rattle.std.specs.Cmp.Lexicographic.{bytes_decides, nat_list_eq_equiv}
use Rattle.std.proofs.lemmas.Map.Keys.{IsDistinct-push, IsDistinct-head, IsDistinct-tail}
use Rattle.meaning_texts.specs.Lists.{IsIn}
use Rattle.meaning_texts.proofs.Lemmas.{in_left, in_right, in_either, never_both}
use Rattle.meaning_graph.specs.Graphs.{Text}
use Rattle.meaning_tasks.specs.Reached.{has_name}
use Rattle.meaning_tasks.proofs.Lemmas.{has_in}
use Rattle.dynamic_inputs.specs.Closures.{with_name, with_names}

-- ---- one name

pub by_there : (P : List Text → Type 0) (names : List Text) (x : Text) → (has_name x names ≡ true → P names) → (has_name x names ≡ false → P (names ++ x ∷ [])) → P (with_name names x)
by_there P names x f g = (elim (has_name x names) as (λ b. has_name x names ≡ b → P (cond b names (names ++ x ∷ []))) [ true ↦ f | false ↦ g ]) refl

stays_one : (z x : Text) (names : List Text) → IsIn z names → IsIn z (with_name names x)
stays_one z x names h = by_there (λ ns. IsIn z ns) names x (λ e. h) (λ e. in_left z names (x ∷ []) h)

put_one : (x : Text) (names : List Text) → IsIn x (with_name names x)
put_one x names = by_there (λ ns. IsIn x ns) names x (λ e. has_in x names e) (λ e. in_right x names (x ∷ []) (inl refl))

from_one : (z x : Text) (names : List Text) → IsIn z (with_name names x) → IsIn z names ⊎ (z ≡ x)
from_one z x names = by_there (λ ns. IsIn z ns → IsIn z names ⊎ (z ≡ x)) names x (λ e h. inl h) (λ e h. elim (in_either z names (x ∷ []) h) [ inl k ↦ inl k | inr k ↦ elim k [ inl q ↦ inr q | inr n ↦ absurd n ] ])

pub begins_one : (names : List Text) (x : Text) → (more : List Text) × (with_name names x ≡ names ++ more)
begins_one names x = by_there (λ ns. (more : List Text) × (ns ≡ names ++ more)) names x (λ e. ([], sym (append-nil names))) (λ e. (x ∷ [], refl))

distinct_one : (names : List Text) (x : Text) → IsDistinct bytes_eq names → IsDistinct bytes_eq (with_name names x)
distinct_one names x d = by_there (IsDistinct bytes_eq) names x (λ e. d) (λ e. IsDistinct-push nat_list_eq_equiv names x d e)

-- ---- one name after another

pub stays_in : (z : Text) (names more : List Text) → IsIn z names → IsIn z (with_names names more)
stays_in z names [] h = h
stays_in z names (x ∷ more) h = stays_in z (with_name names x) more (stays_one z x names h)

pub put_in : (z : Text) (names more : List Text) → IsIn z more → IsIn z (with_names names more)
put_in z names [] h = absurd h
put_in z names (x ∷ more) (inl e) = stays_in z (with_name names x) more (subst (λ y. IsIn z (with_name names y)) e (put_one z names))
put_in z names (x ∷ more) (inr h) = put_in z (with_name names x) more h

pub from_names : (z : Text) (names more : List Text) → IsIn z (with_names names more) → IsIn z names ⊎ IsIn z more
from_names z names [] h = inl h
from_names z names (x ∷ more) h = elim (from_names z (with_name names x) more h) [
  | inl k ↦ elim (from_one z x names k) [ inl i ↦ inl i | inr q ↦ inr (inl q) ]
  | inr k ↦ inr (inr k)
]

pub begins : (names more : List Text) → (behind : List Text) × (with_names names more ≡ names ++ behind)
begins names [] = ([], sym (append-nil names))
begins names (x ∷ more) =
    let a = begins_one names x in
    let b = begins (with_name names x) more in
    (a.0 ++ b.0, b.1 ∙ (ap (λ ns. ns ++ b.0) a.1 ∙ append_assoc names a.0 b.0))

pub distinct : (names more : List Text) → IsDistinct bytes_eq names → IsDistinct bytes_eq (with_names names more)
distinct names [] d = d
distinct names (x ∷ more) d = distinct (with_name names x) more (distinct_one names x d)

pub in_turn : (names first later : List Text) → with_names names (first ++ later) ≡ with_names (with_names names first) later
in_turn names [] later = refl
in_turn names (x ∷ first) later = in_turn (with_name names x) first later

-- what was there at first stays in front
pub kept_front : (names more now : List Text) → now ≡ with_names names more → take (length names) now ≡ names
kept_front names more now is =
    let b = begins names more in
    ap (take (length names)) (is ∙ b.1) ∙ take_at names b.0 (length names) refl

pub one_more : (names more : List Text) (x : Text) → with_name (with_names names more) x ≡ with_names names (more ++ x ∷ [])
one_more names more x = sym (in_turn names more (x ∷ []))

pub none_distinct : IsDistinct bytes_eq []
unfolding IsDistinct
none_distinct = tt

pub one_distinct : (x : Text) → IsDistinct bytes_eq (x ∷ [])
unfolding IsDistinct
one_distinct x = (tt, tt)

-- ---- places

-- where a name is found, it stands
pub stands_there : (names : List Text) (x : Text) (k : ℕ) → position (bytes_eq x) names ≡ Some k → slice_get names k ≡ Some x
stands_there names x k e =
    let p = position-Some (bytes_eq x) names k [] e in
    slice_get-get_or names k [] p.0 ∙ ap (λ (y : Text). Some y) (sym ((bytes_decides x (get_or names k [])).0 p.1))

-- ---- different names

pub in_at : (names : List Text) (k : ℕ) (d : Text) → k < length names → IsIn (get_or names k d) names
in_at [] k d lt = absurd (omega (arith, lt))
in_at (x ∷ names) zero d lt = inl refl
in_at (x ∷ names) (suc k) d lt = inr (in_at names k d (omega (arith, lt)))

pub got_in : (names : List Text) (k : ℕ) (r : Option (Bor Text)) → option_copied r ≡ slice_get names k → IfSome r (λ x. IsIn x.now names)
got_in names k None e = tt
got_in names k (Some b) e = subst (λ y. IsIn y names) (get_or_from_slice_get names k b.now b.now (sym e)) (in_at names k b.now (slice_get_within names k b.now (sym e)))

differs : (x y : Text) (names : List Text) → AllByRecursion (λ z. bytes_eq x z ≡ false) names → IsIn y names → y ≡ x → ⊥
differs x y [] a h q = h
differs x y (z ∷ names) a (inl e) q = never_both (bytes_eq x z) ((bytes_decides x z).1 (sym q ∙ e)) a.0
differs x y (z ∷ names) a (inr h) q = differs x y names a.1 h q

-- a name is none of those before it
pub not_before : (names : List Text) (k : ℕ) (d : Text) → IsDistinct bytes_eq names → k < length names → IsIn (get_or names k d) (take k names) → ⊥
not_before [] k d apart lt h = absurd (omega (arith, lt))
not_before (x ∷ names) zero d apart lt h = h
not_before (x ∷ names) (suc k) d apart lt (inl e) = differs x (get_or names k d) names (IsDistinct-head bytes_eq x names apart) (in_at names k d (omega (arith, lt))) e
not_before (x ∷ names) (suc k) d apart lt (inr h) = not_before names k d (IsDistinct-tail bytes_eq x names apart) (omega (arith, lt)) h

-- the first name is none of the others
pub first_apart : (x y : Text) (names : List Text) → IsDistinct bytes_eq (x ∷ names) → IsIn y names → y ≡ x → ⊥
first_apart x y names apart h q = differs x y names (IsDistinct-head bytes_eq x names apart) h q

-- what stands at a place as at the first, stands at the first
pub first_place : (names : List Text) (k : ℕ) (d : Text) → IsDistinct bytes_eq names → k < length names → get_or names 0 d ≡ get_or names k d → k ≡ 0
first_place names zero d apart lt e = refl
first_place [] (suc k) d apart lt e = absurd (omega (arith, lt))
first_place (x ∷ names) (suc k) d apart lt e = absurd (first_apart x (get_or names k d) names apart (in_at names k d (omega (arith, lt))) (sym e))
