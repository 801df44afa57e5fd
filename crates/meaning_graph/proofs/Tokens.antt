-- A text begins with one token, and the computed one is it.
use Rattle.std.proofs.Common.{◌≡◌, ℕ, ◌<◌, true, false, ◌||◌, List, [], ◌∷◌, ◌++◌, Option, Some, refl, sym, ap, ◌∙◌, subst, inl, inr, arith}
use Rattle.std.specs.Prelude.{nat_eq}
use Rattle.std.specs.List.{list_all}
use Rattle.std.proofs.lemmas.Bool.{cases_Bool, both_ways, and_parts, or_from, eqb-true}
use Rattle.std.proofs.lemmas.List.Sums.{list_all-from_AllPass}
use Rattle.meaning_texts.specs.Classes.{is_name_byte, is_string_byte, IsWord, IsStringText}
use Rattle.meaning_texts.specs.Tests.{is_name}
use Rattle.meaning_texts.proofs.Lemmas.{word_decides, string_decides}
use Rattle.meaning_graph.specs.Tokens.{Token, word, string, is_blank, begins_in_class, BeginsWith, a_word, a_string, a_semicolon, a_comma, an_opening, a_closing, is_past_gap}
use Rattle.meaning_graph.specs.Lexing.{name_front, past_names, before_quote, behind_quote, Taken, taken, token_at}

-- ---- words

front_of_word : (w rest : List ℕ) → list_all is_name_byte w ≡ true → begins_in_class is_name_byte rest ≡ false → name_front (w ++ rest) ≡ w
front_of_word [] [] e n = refl
front_of_word [] (b ∷ rest) e n = rw n refl
front_of_word (b ∷ w) rest e n = let h = and_parts (is_name_byte b) (list_all is_name_byte w) e in rw h.0 (ap (λ t. b ∷ t) (front_of_word w rest h.1 n))

past_word : (w rest : List ℕ) → list_all is_name_byte w ≡ true → begins_in_class is_name_byte rest ≡ false → past_names (w ++ rest) ≡ rest
past_word [] [] e n = refl
past_word [] (b ∷ rest) e n = rw n refl
past_word (b ∷ w) rest e n = let h = and_parts (is_name_byte b) (list_all is_name_byte w) e in rw h.0 (past_word w rest h.1 n)

word_taken : (w rest : List ℕ) → IsWord w → begins_in_class is_name_byte rest ≡ false → token_at (w ++ rest) ≡ Some (taken (word w) rest)
word_taken [] rest i n = let some : 0 < 0 = i.some in absurd (omega arith)
word_taken (b ∷ w) rest i n =
    let e : list_all is_name_byte (b ∷ w) ≡ true = list_all-from_AllPass is_name_byte (b ∷ w) i.each in
    let h = and_parts (is_name_byte b) (list_all is_name_byte w) e in
    let f : name_front (b ∷ (w ++ rest)) ≡ b ∷ w = front_of_word (b ∷ w) rest e n in
    let p : past_names (b ∷ (w ++ rest)) ≡ rest = past_word (b ∷ w) rest e n in
    at_word b (w ++ rest) (b ∷ w) rest h.0 f p ((word_decides is_name_byte (b ∷ w)).1 i)
  where
    at_word : (b : ℕ) (more w rest : List ℕ) → is_name_byte b ≡ true → name_front (b ∷ more) ≡ w → past_names (b ∷ more) ≡ rest → is_name w ≡ true → token_at (b ∷ more) ≡ Some (taken (word w) rest)
    at_word b more w rest s f p i =
        let inner : name_front (b ∷ more) ≡ b ∷ name_front more = rw s refl in
        let behind : past_names (b ∷ more) ≡ past_names more = rw s refl in
        let whole : w ≡ b ∷ name_front more = sym f ∙ inner in
        let last : rest ≡ past_names more = sym p ∙ behind in
        let i2 : is_name (b ∷ name_front more) ≡ true = subst (λ x. is_name x ≡ true) whole i in
        rw (s, i2, whole, last) refl

-- ---- strings

not_a_quote : (b : ℕ) → is_string_byte b ≡ true → nat_eq b 34 ≡ false
not_a_quote b e = elim (cases_Bool (nat_eq b 34)) [
  | inl t ↦ let f : is_string_byte b ≡ false = rw (eqb-true b 34 t) refl in absurd (both_ways _ f e)
  | inr f ↦ f
]

quote_before : (s rest : List ℕ) → list_all is_string_byte s ≡ true → before_quote (s ++ 34 ∷ rest) ≡ s
quote_before [] rest e = refl
quote_before (b ∷ s) rest e = let h = and_parts (is_string_byte b) (list_all is_string_byte s) e in rw (not_a_quote b h.0) (ap (λ t. b ∷ t) (quote_before s rest h.1))

quote_behind : (s rest : List ℕ) → list_all is_string_byte s ≡ true → behind_quote (s ++ 34 ∷ rest) ≡ Some rest
quote_behind [] rest e = refl
quote_behind (b ∷ s) rest e = let h = and_parts (is_string_byte b) (list_all is_string_byte s) e in rw (not_a_quote b h.0) (quote_behind s rest h.1)

string_taken : (s rest : List ℕ) → IsStringText s → token_at (34 ∷ (s ++ 34 ∷ rest)) ≡ Some (taken (string s) rest)
string_taken s rest i =
    let e : list_all is_string_byte s ≡ true = list_all-from_AllPass is_string_byte s i.each in
    rw (quote_before s rest e, (string_decides s).1 i, quote_behind s rest e) refl

-- ---- tokens

-- the computed token is the one with which a text begins
pub begins_told : (text : List ℕ) (t : Token) (rest : List ℕ) → BeginsWith text t rest → token_at text ≡ Some (taken t rest)
begins_told text t rest (a_word w more i n) = word_taken w more i n
begins_told text t rest (a_string s more i) = string_taken s more i
begins_told text t rest (a_semicolon more) = refl
begins_told text t rest (a_comma more) = refl
begins_told text t rest (an_opening more) = refl
begins_told text t rest (a_closing more) = refl

-- a text begins with one token at most
pub record SameToken (t u : Token) (left other : List ℕ) : Type 0 where
  pub token : t ≡ u
  pub rest : left ≡ other

pub one_token : (text : List ℕ) (t u : Token) (left other : List ℕ) → BeginsWith text t left → BeginsWith text u other → SameToken t u left other
one_token text t u left other a b =
    let e : ◌≡◌ {A = Option Taken} (Some (taken t left)) (Some (taken u other)) = sym (begins_told text t left a) ∙ begins_told text u other b in
    let f : taken t left ≡ taken u other = inside _ _ e in
    record { token = ap (λ (x : Taken). x.token) f; rest = ap (λ (x : Taken). x.rest) f }
  where
    inside : (x y : Taken) → ◌≡◌ {A = Option Taken} (Some x) (Some y) → x ≡ y
    inside x y e = cc

-- ---- gaps

not_that : (b c : ℕ) → is_name_byte c ≡ false → is_name_byte b ≡ true → nat_eq b c ≡ false
not_that b c none e = elim (cases_Bool (nat_eq b c)) [
  | inl t ↦ let f : is_name_byte b ≡ false = rw (eqb-true b c t) none in absurd (both_ways _ f e)
  | inr f ↦ f
]

name_no_gap : (b : ℕ) → is_name_byte b ≡ true → (is_blank b || nat_eq b 35) ≡ false
name_no_gap b e = or_from _ _ (or_from _ _ (or_from _ _ (or_from _ _ (not_that b 32 refl e) (not_that b 9 refl e)) (not_that b 13 refl e)) (not_that b 10 refl e)) (not_that b 35 refl e)

word_past_gap : (w rest : List ℕ) → IsWord w → is_past_gap (w ++ rest) ≡ true
word_past_gap [] rest i = let some : 0 < 0 = i.some in absurd (omega arith)
word_past_gap (b ∷ w) rest i =
    let h = and_parts (is_name_byte b) (list_all is_name_byte w) (list_all-from_AllPass is_name_byte (b ∷ w) i.each) in
    rw (name_no_gap b h.0) refl

-- a text that begins with a token begins with no gap
pub begins_past_gap : (text : List ℕ) (t : Token) (rest : List ℕ) → BeginsWith text t rest → is_past_gap text ≡ true
begins_past_gap text t rest (a_word w more i n) = word_past_gap w more i
begins_past_gap text t rest (a_string s more i) = refl
begins_past_gap text t rest (a_semicolon more) = refl
begins_past_gap text t rest (a_comma more) = refl
begins_past_gap text t rest (an_opening more) = refl
begins_past_gap text t rest (a_closing more) = refl
