-- Numbers, spaces and first bytes of a line.
use Rattle.std.proofs.Common.{◌≡◌, ◌≢◌, ℕ, ◌<◌, ◌^◌, Bool, true, false, not, List, [], ◌∷◌, ◌++◌, inl, inr, sym, ap, ◌∙◌, subst, refl, cond}
use Rattle.std.specs.Prelude.{Option, Some, None, nat_lt, ◌==◌, bytes_eq}
use Rattle.std.specs.List.{list_all}
use Rattle.std.specs.Fmt.{decimal}
use Rattle.std.specs.Str.Parse.{digits_value}
use Rattle.std.proofs.lemmas.Fmt.{decimal_is_IsNumeral}
use Rattle.std.proofs.lemmas.Bool.{and_parts, and_from, ltb-true, lt-ltb, cond-true, cond-false, eqb-true, eq-eqb, ne_eqb}
use Rattle.std.proofs.lemmas.Option.{cond_some}
use Rattle.std.proofs.lemmas.Slice.Eq.{bytes_eq-Decides}
use Rattle.meaning_texts.specs.Lists.{HasNo, is_empty}
use Rattle.meaning_texts.proofs.Lemmas.{same_some, some_or_none}
use Rattle.meaning_commands.specs.Commands.{IsArgument}
use Rattle.meaning_commands.specs.Reading.{decimal_number, before_space, behind_space, behind, is_argument}

-- ---- numbers

pub reads_number : (n : ℕ) → n < 2 ^ 64 → decimal_number (decimal n) ≡ Some n
reads_number n small =
    let value : digits_value 10 (decimal n) ≡ n = (decimal_is_IsNumeral n small).1 in
    let same : bytes_eq (decimal (digits_value 10 (decimal n))) (decimal n) ≡ true = (bytes_eq-Decides _ _).1 (ap decimal value) in
    let few : nat_lt (digits_value 10 (decimal n)) (2 ^ 64) ≡ true = lt-ltb _ _ (subst (λ m. m < 2 ^ 64) (sym value) small) in
    cond-true _ _ _ (and_from _ _ same few) ∙ ap Some value

pub is_number : (text : List ℕ) (n : ℕ) → decimal_number text ≡ Some n → (n < 2 ^ 64) × (text ≡ decimal n)
is_number text n h =
    let p = cond_some _ (digits_value 10 text) n h in
    let q = and_parts (bytes_eq (decimal (digits_value 10 text)) text) (nat_lt (digits_value 10 text) (2 ^ 64)) p.0 in
    let same : decimal (digits_value 10 text) ≡ text = (bytes_eq-Decides _ _).0 q.0 in
    (subst (λ m. m < 2 ^ 64) p.1 (ltb-true _ _ q.1), sym same ∙ ap decimal p.1)

-- ---- spaces

pub before_is : (word rest : List ℕ) → HasNo 32 word → before_space (word ++ 32 ∷ rest) ≡ word
before_is [] rest h = refl
before_is (b ∷ word) rest h = cond-false (b == 32) [] _ (ne_eqb b 32 h.0) ∙ ap (λ l. b ∷ l) (before_is word rest h.1)

pub behind_is : (word rest : List ℕ) → HasNo 32 word → behind_space (word ++ 32 ∷ rest) ≡ Some rest
behind_is [] rest h = refl
behind_is (b ∷ word) rest h = cond-false (b == 32) (Some (word ++ 32 ∷ rest)) _ (ne_eqb b 32 h.0) ∙ behind_is word rest h.1

pub is_cut : (text rest : List ℕ) → behind_space text ≡ Some rest → text ≡ before_space text ++ 32 ∷ rest
is_cut [] rest h = cc
is_cut (b ∷ text) rest h = (elim (b == 32) as (λ t. (b == 32) ≡ t → cond t (Some text) (behind_space text) ≡ Some rest → b ∷ text ≡ cond t [] (b ∷ before_space text) ++ 32 ∷ rest) [
  | true ↦ λ e k. ap (λ c. c ∷ text) (eqb-true b 32 e) ∙ ap (λ l. 32 ∷ l) (same_some k)
  | false ↦ λ e k. ap (λ l. b ∷ l) (is_cut text rest k)
]) refl h

no_space : (b : ℕ) → b ≢ 32 → not (b == 32) ≡ true
no_space b h = ap not (ne_eqb b 32 h)

has_space : (b : ℕ) → not (b == 32) ≡ true → b ≢ 32
has_space b h e = let k : not (b == 32) ≡ false = ap not (eq-eqb b 32 e) in cc

spaceless_test : (word : List ℕ) → HasNo 32 word → list_all (λ b. not (b == 32)) word ≡ true
spaceless_test [] h = refl
spaceless_test (b ∷ word) h = and_from _ _ (no_space b h.0) (spaceless_test word h.1)

test_spaceless : (word : List ℕ) → list_all (λ b. not (b == 32)) word ≡ true → HasNo 32 word
test_spaceless [] h = tt
test_spaceless (b ∷ word) h = let p = and_parts (not (b == 32)) (list_all (λ b. not (b == 32)) word) h in (has_space b p.0, test_spaceless word p.1)

some_test : (word : List ℕ) → word ≢ [] → not (is_empty word) ≡ true
some_test [] h = absurd (h refl)
some_test (b ∷ word) h = refl

test_some : (word : List ℕ) → not (is_empty word) ≡ true → word ≢ []
test_some [] h = cc
test_some (b ∷ word) h = λ e. cc

pub argument_test : (word : List ℕ) → IsArgument word → is_argument word ≡ true
argument_test word a = and_from _ _ (some_test word a.some) (spaceless_test word a.spaceless)

pub test_argument : (word : List ℕ) → is_argument word ≡ true → IsArgument word
test_argument word h = let p = and_parts (not (is_empty word)) (list_all (λ b. not (b == 32)) word) h in record { some = test_some word p.0; spaceless = test_spaceless word p.1 }

-- ---- first bytes

cond_so : {A : Type 0} (b : Bool) (o : Option A) (x : A) → cond b o None ≡ Some x → (b ≡ true) × (o ≡ Some x)
cond_so true o x h = (refl, h)
cond_so false o x h = cc

pub is_behind : (word line rest : List ℕ) → behind word line ≡ Some rest → line ≡ word ++ rest
is_behind [] line rest h = same_some h
is_behind (b ∷ word) [] rest h = cc
is_behind (b ∷ word) (c ∷ line) rest h =
    let p = cond_so _ (behind word line) rest h in
    ap (λ d. d ∷ line) (sym (eqb-true b c p.0)) ∙ ap (λ l. b ∷ l) (is_behind word line rest p.1)

pub none_behind : (word line : List ℕ) → ((rest : List ℕ) → line ≢ word ++ rest) → behind word line ≡ None
none_behind [] line none = absurd (none line refl)
none_behind (b ∷ word) [] none = refl
none_behind (b ∷ word) (c ∷ line) none = (elim (b == c) as (λ t. (b == c) ≡ t → cond t (behind word line) None ≡ None) [
  | true ↦ λ e. none_behind word line (λ rest same. none rest (ap (λ d. d ∷ line) (sym (eqb-true b c e)) ∙ ap (λ l. b ∷ l) same))
  | false ↦ λ e. refl
]) refl

pub behind_front : (word rest : List ℕ) → behind word (word ++ rest) ≡ Some rest
behind_front [] rest = refl
behind_front (b ∷ word) rest = cond-true (b == b) (behind word (word ++ rest)) None (eq-eqb b b refl) ∙ behind_front word rest

pub none_number : (text : List ℕ) → ((n : ℕ) → n < 2 ^ 64 → text ≢ decimal n) → decimal_number text ≡ None
none_number text none = elim (some_or_none (decimal_number text)) [
  | inl p ↦ let q = is_number text p.0 p.1 in absurd (none p.0 q.0 q.1)
  | inr e ↦ e
]

pub none_space : (text : List ℕ) → HasNo 32 text → behind_space text ≡ None
none_space [] h = refl
none_space (b ∷ text) h = cond-false (b == 32) (Some text) _ (ne_eqb b 32 h.0) ∙ none_space text h.1
