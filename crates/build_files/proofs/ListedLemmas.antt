-- What is listed of names that were sorted.
use Rattle.std.proofs.Common.{◌≡◌, ℕ, List, IsPermutation, subst, sym}
use Rattle.std.specs.Prelude.{Contains, nat_eq}
use Rattle.std.specs.Ordering.{nat_cmp}
use Rattle.std.specs.Cmp.Lexicographic.{slice_cmp, pointwise, bytes_decides, nat_list_cmp_total, nat_list_eq_equiv, texts_ties}
use Rattle.std.specs.List.{dedup}
use Rattle.std.specs.List.Sorted.{IsSorted, IsStrictlySortedBy}
use Rattle.std.proofs.lemmas.List.Kept.{IsStrictlySortedBy-dedup, Contains-dedup, Contains-from_dedup}
use Rattle.std.proofs.lemmas.List.Sorted.{Contains-permutation, IsPermutation-sym}
use Rattle.build_files.specs.Listed.{IsListed}

pub names_listed : (names sorted listed : List (List ℕ)) → IsPermutation names sorted → IsSorted (slice_cmp nat_cmp) sorted → listed ≡ dedup (pointwise nat_eq) sorted → IsListed names listed
names_listed names sorted listed moved ordered is = record {
  sorted = subst (IsStrictlySortedBy (slice_cmp nat_cmp)) (sym is) (IsStrictlySortedBy-dedup nat_list_cmp_total texts_ties sorted ordered);
  same = λ name. (
    λ there. Contains-permutation sorted names name (IsPermutation-sym names sorted moved) (Contains-from_dedup (pointwise nat_eq) sorted name (subst (λ l. Contains l name) is there)),
    λ there. subst (λ l. Contains l name) (sym is) (Contains-dedup nat_list_eq_equiv (λ a b. (bytes_decides a b).0) sorted name (Contains-permutation names sorted name moved there)),
  );
}
