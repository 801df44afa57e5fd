-- Different names, sorted, are in strict order.
use Rattle.std.proofs.Common.{◌≡◌, ◌+◌, Bool, true, false, List, [], sym, ◌∙◌, subst, get_or, arith, refl, Less, Equal, Greater, Ordering}
use Rattle.std.specs.Prelude.{bytes_eq, ◌↔◌, Result, Ok, Err, IfOk}
use Rattle.std.specs.Ordering.{is_lt, ordering_reverse}
use Rattle.std.specs.Cmp.Lexicographic.{bytes_decides, nat_list_cmp_total}
use Rattle.std.specs.List.{IsDistinct}
use Rattle.std.specs.List.Sorted.{IsSorted, IsPermutation, IsStrictlySortedBy}
use Rattle.std.proofs.lemmas.Map.Keys.{sorted_from_all_adjacent, apart_from_distinct, IsDistinct-IsPermutation}
use Rattle.std.proofs.lemmas.List.Sorted.{list_any-IsPermutation}
use Rattle.meaning_texts.specs.Lists.{IsIn}
use Rattle.meaning_texts.specs.Expressions.{name_cmp}
use Rattle.meaning_texts.proofs.Lemmas.{never_both}
use Rattle.meaning_graph.specs.Graphs.{Text}
use Rattle.meaning_tasks.specs.Reached.{Reached, AreReached}
use Rattle.meaning_tasks.proofs.Lemmas.{cmp_same, has_in, in_has}

-- neither equal nor in the other order
is_less : (x y : Text) → is_lt (name_cmp y x) ≡ false → bytes_eq x y ≡ false → name_cmp x y ≡ Less
is_less x y order differ = by_order (name_cmp x y) (name_cmp y x) order (nat_list_cmp_total.antisymm y x) (λ e. never_both (bytes_eq x y) ((bytes_decides x y).1 (cmp_same x y e)) differ)
  where
    by_order : (o p : Ordering) → is_lt p ≡ false → p ≡ ordering_reverse o → (o ≡ Equal → ⊥) → o ≡ Less
    by_order Less p h e n = refl
    by_order Equal p h e n = absurd (n refl)
    by_order Greater p h e n = let k : is_lt Less ≡ false = subst (λ q. is_lt q ≡ false) e h in cc

strictly : (names : List Text) → IsSorted name_cmp names → IsDistinct bytes_eq names → IsStrictlySortedBy name_cmp names
strictly names sorted apart = sorted_from_all_adjacent nat_list_cmp_total names [] (λ k lt.
    is_less (get_or names k []) (get_or names (k + 1) []) (sorted k [] (omega arith) lt) (apart_from_distinct bytes_eq names k (k + 1) [] apart (omega arith) lt))

flips : (x y : Text) → bytes_eq x y ≡ bytes_eq y x
flips x y = by (bytes_eq x y) (bytes_eq y x) (λ e. (bytes_decides y x).1 (sym ((bytes_decides x y).0 e))) (λ e. (bytes_decides x y).1 (sym ((bytes_decides y x).0 e)))
  where
    by : (a b : Bool) → (a ≡ true → b ≡ true) → (b ≡ true → a ≡ true) → a ≡ b
    by true b f g = sym (f refl)
    by false true f g = g refl
    by false false f g = refl

-- The reached names, each once, are sorted.
pub sorted_reached : (own : List Text) (lines : Text → List Text) (names others : List Text) → IsDistinct bytes_eq names → ((x : Text) → IsIn x names ↔ Reached own lines x) → IsPermutation names others → IsSorted name_cmp others → AreReached own lines others
sorted_reached own lines names others apart each same sorted = record {
  sorted = strictly others sorted (IsDistinct-IsPermutation bytes_eq flips names others same apart);
  only = λ x h. (each x).0 (has_in x names (list_any-IsPermutation (bytes_eq x) names others same ∙ in_has x others h));
  each = λ x r. has_in x others (sym (list_any-IsPermutation (bytes_eq x) names others same) ∙ in_has x names ((each x).1 r));
}

pub sorted_answer : {E : Type 0} (own : List Text) (lines : Text → List Text) (names : List Text) → IsDistinct bytes_eq names → ((x : Text) → IsIn x names ↔ Reached own lines x) → (r : Result (List Text) E) → IfOk r (IsPermutation names) → IfOk r (IsSorted name_cmp) → IfOk r (AreReached own lines)
sorted_answer own lines names apart each (Ok others) same sorted = sorted_reached own lines names others apart each same sorted
sorted_answer own lines names apart each (Err e) same sorted = tt
