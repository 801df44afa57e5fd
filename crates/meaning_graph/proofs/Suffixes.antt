-- The computed suffix is the longest declared one that ends the name.
use Rattle.std.proofs.Common.{◌≡◌, ℕ, ◌≤◌, Bool, true, false, List, [], ◌∷◌, ◌++◌, ◌⊎◌, inl, inr, sym, ap, ◌∙◌, subst, refl, length, arith, length-append}
use Rattle.std.specs.Prelude.{Option, Some, None, MatchOption, bytes_eq, find, cond}
use Rattle.std.specs.Cmp.Lexicographic.{bytes_decides}
use Rattle.object_values.specs.declared.graph.SuffixDecl.{SuffixDecl}
use Rattle.meaning_texts.specs.Lists.{IsIn}
use Rattle.meaning_graph.specs.Graphs.{Text, Graph, suffixes}
use Rattle.meaning_graph.specs.Suffixes.{EndsWith, IsLongestSuffix, HasNoSuffix, or_later, suffix_of}
use Rattle.meaning_texts.proofs.Lemmas.{never_both, same_some}

-- what is found passes the test and is one of the list, and where nothing is found none passes
pub found_passes : {A : Type 0} (p : A → Bool) (xs : List A) (x : A) → find p xs ≡ Some x → IsIn x xs × (p x ≡ true)
found_passes p [] x h = cc
found_passes p (y ∷ xs) x h = (elim (p y) as (λ b. p y ≡ b → cond b (Some y) (find p xs) ≡ Some x → IsIn x (y ∷ xs) × (p x ≡ true)) [
  | true ↦ λ e k. let q : y ≡ x = cc in (inl (sym q), ap p (sym q) ∙ e)
  | false ↦ λ e k. let r = found_passes p xs x k in (inr r.0, r.1)
]) refl h

none_passes : {A : Type 0} (p : A → Bool) (xs : List A) (x : A) → find p xs ≡ None → IsIn x xs → p x ≡ true → ⊥
none_passes p [] x h i e = i
none_passes p (y ∷ xs) x h i e = (elim (p y) as (λ b. p y ≡ b → cond b (Some y) (find p xs) ≡ None → ⊥) [
  | true ↦ λ q k. cc
  | false ↦ λ q k. elim i [ inl z ↦ never_both (p y) (ap p (sym z) ∙ e) q | inr m ↦ none_passes p xs x k m e ]
]) refl h

-- two ends of one text that are as long are one
same_end : (a b x y : Text) → a ++ x ≡ b ++ y → length x ≡ length y → x ≡ y
same_end [] [] x y e l = e
same_end [] (c ∷ b) x y e l = let n : length x ≡ length ((c ∷ b) ++ y) = ap length e in absurd (omega (arith, n, l, length-append b y))
same_end (d ∷ a) [] x y e l = let n : length ((d ∷ a) ++ x) ≡ length y = ap length e in absurd (omega (arith, n, l, length-append a x))
same_end (d ∷ a) (c ∷ b) x y e l = let rest : a ++ x ≡ b ++ y = cc in same_end a b x y rest l

module _ (g : Graph) where
  abbrev is_that : Text → SuffixDecl → Bool
  is_that text d = bytes_eq d.suffix text

  ends_itself : (text : Text) (s : SuffixDecl) → s.suffix ≡ text → EndsWith text s.suffix
  ends_itself text s e = ([], sym e)

  no_longer : (text suffix : Text) → EndsWith text suffix → length suffix ≤ length text
  no_longer text suffix h = let e : length text ≡ length (h.0 ++ suffix) = ap length h.1 in omega (arith, e, length-append h.0 suffix)

  -- a suffix of a name is the name, or a suffix of the name without its first byte
  itself_or_later : (b : ℕ) (name suffix : Text) → EndsWith (b ∷ name) suffix → (suffix ≡ b ∷ name) ⊎ EndsWith name suffix
  itself_or_later b name suffix h = by_front h.0 h.1
    where
      by_front : (front : Text) → b ∷ name ≡ front ++ suffix → (suffix ≡ b ∷ name) ⊎ EndsWith name suffix
      by_front [] e = inl (sym e)
      by_front (x ∷ front) e = inr (front, cc)

  longest_of : (name : Text) (s : SuffixDecl) → find (is_that name) (suffixes g) ≡ Some s → IsLongestSuffix g name s
  longest_of name s h =
      let same : s.suffix ≡ name = (bytes_decides s.suffix name).0 (found_passes (is_that name) (suffixes g) s h).1 in
      record {
        first = ap (λ t. find (is_that t) (suffixes g)) same ∙ h;
        ends = ends_itself name s same;
        longest = λ d i e. subst (λ t. length d.suffix ≤ length t) (sym same) (no_longer name d.suffix e);
      }

  is_none_of : (name : Text) (d : SuffixDecl) → find (is_that name) (suffixes g) ≡ None → IsIn d (suffixes g) → d.suffix ≡ name → ⊥
  is_none_of name d h i e = none_passes (is_that name) (suffixes g) d h i ((bytes_decides d.suffix name).1 e)

  pub suffix_longest : (name : Text) → MatchOption (suffix_of g name) (HasNoSuffix g name) (IsLongestSuffix g name)
  suffix_longest [] = by_found (find (is_that []) (suffixes g)) refl
    where
      empty_front : (suffix : Text) → EndsWith [] suffix → suffix ≡ []
      empty_front [] h = refl
      empty_front (x ∷ suffix) h = let e : 0 ≡ length (h.0 ++ x ∷ suffix) = ap length h.1 in absurd (omega (arith, e, length-append h.0 (x ∷ suffix)))

      by_found : (o : Option SuffixDecl) → find (is_that []) (suffixes g) ≡ o → MatchOption o (HasNoSuffix g []) (IsLongestSuffix g [])
      by_found None e = λ d i h. is_none_of [] d e i (empty_front d.suffix h)
      by_found (Some s) e = longest_of [] s e
  suffix_longest (b ∷ name) = by_found (find (is_that (b ∷ name)) (suffixes g)) refl (suffix_of g name) (suffix_longest name)
    where
      by_found : (o : Option SuffixDecl) → find (is_that (b ∷ name)) (suffixes g) ≡ o → (later : Option SuffixDecl) → MatchOption later (HasNoSuffix g name) (IsLongestSuffix g name) → MatchOption (or_later o later) (HasNoSuffix g (b ∷ name)) (IsLongestSuffix g (b ∷ name))
      by_found (Some s) e later l = longest_of (b ∷ name) s e
      by_found None e None l = λ d i h. elim (itself_or_later b name d.suffix h) [ inl q ↦ is_none_of (b ∷ name) d e i q | inr k ↦ l d i k ]
      by_found None e (Some s) l = record {
        first = l.first;
        ends = (b ∷ l.ends.0, ap (λ t. b ∷ t) l.ends.1);
        longest = λ d i h. elim (itself_or_later b name d.suffix h) [ inl q ↦ absurd (is_none_of (b ∷ name) d e i q) | inr k ↦ l.longest d i k ];
      }

  pub one_suffix : (name : Text) (s t : SuffixDecl) → IsLongestSuffix g name s → IsLongestSuffix g name t → s ≡ t
  one_suffix name s t x y =
      let s_in : IsIn s (suffixes g) = (found_passes (is_that s.suffix) (suffixes g) s x.first).0 in
      let t_in : IsIn t (suffixes g) = (found_passes (is_that t.suffix) (suffixes g) t y.first).0 in
      let low : length t.suffix ≤ length s.suffix = x.longest t t_in y.ends in
      let high : length s.suffix ≤ length t.suffix = y.longest s s_in x.ends in
      let same : s.suffix ≡ t.suffix = same_end x.ends.0 y.ends.0 s.suffix t.suffix (sym x.ends.1 ∙ y.ends.1) (omega (arith, low, high)) in
      same_some (sym x.first ∙ ap (λ text. find (is_that text) (suffixes g)) same ∙ y.first)
