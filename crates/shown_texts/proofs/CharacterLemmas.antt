-- A text of UTF-8 is shown character by character, and what is shown is UTF-8.
use Rattle.std.proofs.Common.{◌≡◌, ◌≤◌, ◌<◌, ◌⊎◌, inl, inr, ℕ, zero, suc, ◌+◌, ◌-◌, ◌*◌, ◌/◌, ◌%◌, Bool, true, false, cond, not, ◌&&◌, ◌==◌, List, [], ◌∷◌, ◌++◌, get_or, drop, append_assoc, append-nil, ap, sym, subst, refl, ◌∙◌, arith, nat_lt, nat_le}
use Rattle.std.specs.Prelude.{flat_map, encode_utf8_all}
use Rattle.std.specs.Int.{is_in_range}
use Rattle.std.specs.Char.{encode_utf8, IsScalar}
use Rattle.std.specs.Str.{IsUtf8, all_scalars}
use Rattle.std.proofs.lemmas.Bool.{and_parts}
use Rattle.std.proofs.lemmas.Str.{IsUtf8-nil, IsUtf8-append, IsUtf8-encode}
use Rattle.meaning_texts.specs.Escapes.{hexadecimal}
use Rattle.odin_bytes.specs.Spellings.{AreBytes}
use lib.Utf8.{scalar_cases, low_scalar}
use Rattle.std.proofs.lemmas.Bool.Decides.{nat_tests}
use Rattle.shown_texts.specs.Shown.{moves, code_of_two, code_of_three, code_of_four, one_stays, two_stay, three_stay, four_stay, size_of, staying_size, spelling, shown}
use Rattle.shown_texts.specs.ShownLaws.{stays, shown_character}

by_test : {A : Type 0} (P : A → Type 0) (b : Bool) (x y : A) → (b ≡ true → P x) → (b ≡ false → P y) → P (cond b x y)
by_test P true x y there other = there refl
by_test P false x y there other = other refl

-- the bytes of a character, by its size
encoded : (P : List ℕ → Type 0) (c : ℕ) → (c < 128 → P (c ∷ [])) → (128 ≤ c → c < 2048 → P ((192 + c / 64) ∷ (128 + c % 64) ∷ []))
    → (2048 ≤ c → c < 65536 → P ((224 + c / 4096) ∷ (128 + c / 64 % 64) ∷ (128 + c % 64) ∷ []))
    → (65536 ≤ c → P ((240 + c / 262144) ∷ (128 + c / 4096 % 64) ∷ (128 + c / 64 % 64) ∷ (128 + c % 64) ∷ [])) → P (encode_utf8 c)
unfolding encode_utf8
encoded P c one two three four =
    by_test P (nat_lt c 128) _ _ (λ is. one (grind (arith, nat_tests))) (λ a.
    by_test P (nat_lt c 2048) _ _ (λ is. two (grind (arith, nat_tests)) (grind (arith, nat_tests))) (λ b.
    by_test P (nat_lt c 65536) _ _ (λ is. three (grind (arith, nat_tests)) (grind (arith, nat_tests))) (λ d. four (grind (arith, nat_tests)))))

-- ---- codes by their bytes

two_code : (c : ℕ) → 64 * (192 + c / 64 - 192) + (128 + c % 64 - 128) ≡ c
two_code c = omega arith

three_code : (c : ℕ) → 64 * (64 * (224 + c / 4096 - 224) + (128 + c / 64 % 64 - 128)) + (128 + c % 64 - 128) ≡ c
three_code c = omega arith

four_code : (c : ℕ) → 64 * (64 * (64 * (240 + c / 262144 - 240) + (128 + c / 4096 % 64 - 128)) + (128 + c / 64 % 64 - 128)) + (128 + c % 64 - 128) ≡ c
four_code c = omega arith

-- ---- how many bytes stay

within : (low high n : ℕ) → low ≤ n → n ≤ high → is_in_range low high n ≡ true
within low high n above below = grind (arith, nat_tests)

under : (low high n : ℕ) → n < low → is_in_range low high n ≡ false
under low high n below = grind (arith, nat_tests)

no_two : (a b : ℕ) → a < 192 ⊎ 223 < a → two_stay a b ≡ false
no_two a b out = let test : is_in_range 192 223 a ≡ false = grind (arith, nat_tests) in rw test refl

no_three : (a b c : ℕ) → a < 224 ⊎ 239 < a → three_stay a b c ≡ false
no_three a b c out = let test : is_in_range 224 239 a ≡ false = grind (arith, nat_tests) in rw test refl

no_four : (a b c d : ℕ) → a < 240 → four_stay a b c d ≡ false
no_four a b c d small = rw (under 240 247 a small) refl

no_one : (a : ℕ) → 128 ≤ a → one_stays a ≡ false
no_one a large = let test : nat_lt a 128 ≡ false = grind (arith, nat_tests) in rw test refl

stays_high : (c : ℕ) → 128 ≤ c → stays c ≡ not (moves c)
stays_high c large = let test : (c == 92) ≡ false = grind (arith, nat_tests) in rw test (with_true (not (moves c)))
  where
    with_true : (b : Bool) → (b && true) ≡ b
    with_true true = refl
    with_true false = refl

one_is : (c : ℕ) → c < 128 → one_stays c ≡ stays c
one_is c small = let test : nat_lt c 128 ≡ true = grind (arith, nat_tests) in rw test refl

all_three : (x y z w : Bool) → x ≡ true → y ≡ true → z ≡ true → (((x && y) && z) && w) ≡ w
all_three x y z w a b c = rw (a, b, c) refl

two_is : (c : ℕ) → 128 ≤ c → c < 2048 → two_stay (192 + c / 64) (128 + c % 64) ≡ stays c
two_is c low high =
    let least : nat_le 128 (code_of_two (192 + c / 64) (128 + c % 64)) ≡ true = rw (two_code c) (grind (arith, nat_tests)) in
    all_three _ _ _ _ (within 192 223 (192 + c / 64) (omega arith) (omega arith)) (within 128 191 (128 + c % 64) (omega arith) (omega arith)) least
    ∙ ap (λ n. not (moves n)) (two_code c) ∙ sym (stays_high c low)

three_is : (c : ℕ) → 2048 ≤ c → c < 65536 → IsScalar c → three_stay (224 + c / 4096) (128 + c / 64 % 64) (128 + c % 64) ≡ stays c
three_is c low high whole =
    let code = three_code c in
    let least : nat_le 2048 (code_of_three (224 + c / 4096) (128 + c / 64 % 64) (128 + c % 64)) ≡ true = rw code (grind (arith, nat_tests)) in
    let single : not (is_in_range 0xD800 0xDFFF (code_of_three (224 + c / 4096) (128 + c / 64 % 64) (128 + c % 64))) ≡ true = rw code (no_surrogate c whole) in
    all_five _ _ _ _ _ _ (within 224 239 (224 + c / 4096) (omega arith) (omega arith)) (within 128 191 (128 + c / 64 % 64) (omega arith) (omega arith))
    (within 128 191 (128 + c % 64) (omega arith) (omega arith)) least single
    ∙ ap (λ n. not (moves n)) code ∙ sym (stays_high c (omega arith))
  where
    all_five : (v x y z u w : Bool) → v ≡ true → x ≡ true → y ≡ true → z ≡ true → u ≡ true → (((((v && x) && y) && z) && u) && w) ≡ w
    all_five v x y z u w a b d e f = rw (a, b, d, e, f) refl

    no_surrogate : (n : ℕ) → IsScalar n → not (is_in_range 0xD800 0xDFFF n) ≡ true
    no_surrogate n is = grind (arith, nat_tests, scalar_cases n is)

four_is : (c : ℕ) → 65536 ≤ c → IsScalar c → four_stay (240 + c / 262144) (128 + c / 4096 % 64) (128 + c / 64 % 64) (128 + c % 64) ≡ true
four_is c low whole =
    let code = four_code c in
    let few : c < 1114112 = below c whole low in
    all_four _ _ _ _ _ (within 240 247 (240 + c / 262144) (omega arith) (omega arith)) (within 128 191 (128 + c / 4096 % 64) (omega arith) (omega arith))
    (within 128 191 (128 + c / 64 % 64) (omega arith) (omega arith)) (within 128 191 (128 + c % 64) (omega arith) (omega arith))
    ∙ rw code (within 0x10000 0x10FFFF c low (omega arith))
  where
    all_four : (v x y z w : Bool) → v ≡ true → x ≡ true → y ≡ true → z ≡ true → ((((v && x) && y) && z) && w) ≡ w
    all_four v x y z w a b d e = rw (a, b, d, e) refl

    below : (n : ℕ) → IsScalar n → 65536 ≤ n → n < 1114112
    below n is large = elim (scalar_cases n is) [ inl h ↦ absurd (omega arith) | inr h ↦ h.1 ]

four_stays : (c : ℕ) → 65536 ≤ c → stays c ≡ true
four_stays c large = grind (arith, nat_tests)

-- ---- one character

kept : (a : ℕ) (rest : List ℕ) → staying_size (a ∷ rest) ≡ 1 → shown (a ∷ rest) ≡ a ∷ shown rest
kept a rest is = rw is refl

kept_two : (a b : ℕ) (rest : List ℕ) → staying_size (a ∷ b ∷ rest) ≡ 2 → shown (a ∷ b ∷ rest) ≡ a ∷ b ∷ shown rest
kept_two a b rest is = rw is refl

kept_three : (a b c : ℕ) (rest : List ℕ) → staying_size (a ∷ b ∷ c ∷ rest) ≡ 3 → shown (a ∷ b ∷ c ∷ rest) ≡ a ∷ b ∷ c ∷ shown rest
kept_three a b c rest is = rw is refl

kept_four : (a b c d : ℕ) (rest : List ℕ) → staying_size (a ∷ b ∷ c ∷ d ∷ rest) ≡ 4 → shown (a ∷ b ∷ c ∷ d ∷ rest) ≡ a ∷ b ∷ c ∷ d ∷ shown rest
kept_four a b c d rest is = rw is refl

spelled : (a : ℕ) (rest : List ℕ) → staying_size (a ∷ rest) ≡ 0 → shown (a ∷ rest) ≡ spelling a ++ shown rest
spelled a rest is = rw is refl

goes_on : (b : ℕ) (rest : List ℕ) → 128 ≤ b → b ≤ 191 → staying_size (b ∷ rest) ≡ 0
unfolding staying_size
goes_on b rest low high =
    rw (
      no_one b low,
      no_two b (get_or rest 0 0) (inl (omega arith)),
      no_three b (get_or rest 0 0) (get_or rest 1 0) (inl (omega arith)),
      no_four b (get_or rest 0 0) (get_or rest 1 0) (get_or rest 2 0) (omega arith),
    ) refl

spelled_on : (b : ℕ) (rest : List ℕ) → 128 ≤ b → b ≤ 191 → shown (b ∷ rest) ≡ spelling b ++ shown rest
spelled_on b rest low high = spelled b rest (goes_on b rest low high)

-- the bytes are shown as those of a character that stays or doesn't
abbrev ShownAs : ℕ → List ℕ → List ℕ → Type 0
ShownAs c rest bytes = shown (bytes ++ rest) ≡ cond (stays c) bytes (flat_map spelling bytes) ++ shown rest

by_stays : (c : ℕ) (rest bytes : List ℕ) → (stays c ≡ true → shown (bytes ++ rest) ≡ bytes ++ shown rest) → (stays c ≡ false → shown (bytes ++ rest) ≡ flat_map spelling bytes ++ shown rest)
    → ShownAs c rest bytes
by_stays c rest bytes there other = by_test (λ (l : List ℕ). shown (bytes ++ rest) ≡ l ++ shown rest) (stays c) bytes (flat_map spelling bytes) there other

one_shown : (c : ℕ) (rest : List ℕ) → c < 128 → ShownAs c rest (c ∷ [])
unfolding staying_size
one_shown c rest small =
    by_stays c rest (c ∷ [])
    (λ is. kept c rest (rw (one_is c small ∙ is) refl))
    (λ is. spelled c rest (rw (
      one_is c small ∙ is,
      no_two c (get_or rest 0 0) (inl (omega arith)),
      no_three c (get_or rest 0 0) (get_or rest 1 0) (inl (omega arith)),
      no_four c (get_or rest 0 0) (get_or rest 1 0) (get_or rest 2 0) (omega arith),
    ) refl) ∙ simp append-nil)

two_shown : (c : ℕ) (rest : List ℕ) → 128 ≤ c → c < 2048 → ShownAs c rest ((192 + c / 64) ∷ (128 + c % 64) ∷ [])
unfolding staying_size
two_shown c rest low high =
    let a = 192 + c / 64 in
    let b = 128 + c % 64 in
    let first : 192 ≤ a × a ≤ 223 = (omega arith, omega arith) in
    by_stays c rest (a ∷ b ∷ [])
    (λ is. kept_two a b rest (rw (no_one a (omega arith), two_is c low high ∙ is) refl))
    (λ is. spelled a (b ∷ rest) (rw (
      no_one a (omega arith),
      two_is c low high ∙ is,
      no_three a b (get_or rest 0 0) (inl (omega arith)),
      no_four a b (get_or rest 0 0) (get_or rest 1 0) (omega arith),
    ) refl)
    ∙ ap (λ (l : List ℕ). spelling a ++ l) (spelled_on b rest (omega arith) (omega arith)) ∙ simp (append_assoc, append-nil))

three_shown : (c : ℕ) (rest : List ℕ) → 2048 ≤ c → c < 65536 → IsScalar c → ShownAs c rest ((224 + c / 4096) ∷ (128 + c / 64 % 64) ∷ (128 + c % 64) ∷ [])
unfolding staying_size
three_shown c rest low high whole =
    let a = 224 + c / 4096 in
    let b = 128 + c / 64 % 64 in
    let d = 128 + c % 64 in
    let first : 224 ≤ a × a ≤ 239 = (omega arith, omega arith) in
    by_stays c rest (a ∷ b ∷ d ∷ [])
    (λ is. kept_three a b d rest (rw (no_one a (omega arith), no_two a b (inr (omega arith)), three_is c low high whole ∙ is) refl))
    (λ is. spelled a (b ∷ d ∷ rest) (rw (no_one a (omega arith), no_two a b (inr (omega arith)), three_is c low high whole ∙ is, no_four a b d (get_or rest 0 0) (omega arith)) refl)
    ∙ ap (λ (l : List ℕ). spelling a ++ l) (spelled_on b (d ∷ rest) (omega arith) (omega arith) ∙ ap (λ (l : List ℕ). spelling b ++ l) (spelled_on d rest (omega arith) (omega arith)))
    ∙ simp (append_assoc, append-nil))

four_shown : (c : ℕ) (rest : List ℕ) → 65536 ≤ c → IsScalar c → ShownAs c rest ((240 + c / 262144) ∷ (128 + c / 4096 % 64) ∷ (128 + c / 64 % 64) ∷ (128 + c % 64) ∷ [])
unfolding staying_size
four_shown c rest low whole =
    let a = 240 + c / 262144 in
    let b = 128 + c / 4096 % 64 in
    let d = 128 + c / 64 % 64 in
    let e = 128 + c % 64 in
    by_stays c rest (a ∷ b ∷ d ∷ e ∷ [])
    (λ is. kept_four a b d e rest (rw (no_one a (omega arith), no_two a b (inr (omega arith)), no_three a b d (inr (omega arith)), four_is c low whole) refl))
    (λ is. let large = four_stays c low in cc)

character : (c : ℕ) (rest : List ℕ) → IsScalar c → ShownAs c rest (encode_utf8 c)
character c rest whole =
    encoded (ShownAs c rest) c (λ small. one_shown c rest small) (λ low high. two_shown c rest low high) (λ low high. three_shown c rest low high whole) (λ low. four_shown c rest low whole)

pub by_characters : (cs : List ℕ) → all_scalars cs ≡ true → shown (encode_utf8_all cs) ≡ flat_map shown_character cs
by_characters [] whole = refl
by_characters (c ∷ cs) whole =
    let both = and_parts _ (all_scalars cs) whole in
    character c (encode_utf8_all cs) both.0 ∙ ap (λ (l : List ℕ). shown_character c ++ l) (by_characters cs both.1)

-- ---- what is shown is UTF-8

encode_two : (c : ℕ) → 128 ≤ c → c < 2048 → encode_utf8 c ≡ (192 + c / 64) ∷ (128 + c % 64) ∷ []
unfolding encode_utf8
encode_two c low high =
    let first : nat_lt c 128 ≡ false = grind (arith, nat_tests) in
    let second : nat_lt c 2048 ≡ true = grind (arith, nat_tests) in
    rw (first, second) refl

encode_three : (c : ℕ) → 2048 ≤ c → c < 65536 → encode_utf8 c ≡ (224 + c / 4096) ∷ (128 + c / 64 % 64) ∷ (128 + c % 64) ∷ []
unfolding encode_utf8
encode_three c low high =
    let first : nat_lt c 128 ≡ false = grind (arith, nat_tests) in
    let second : nat_lt c 2048 ≡ false = grind (arith, nat_tests) in
    let third : nat_lt c 65536 ≡ true = grind (arith, nat_tests) in
    rw (first, second, third) refl

encode_four : (c : ℕ) → 65536 ≤ c → encode_utf8 c ≡ (240 + c / 262144) ∷ (128 + c / 4096 % 64) ∷ (128 + c / 64 % 64) ∷ (128 + c % 64) ∷ []
unfolding encode_utf8
encode_four c low =
    let first : nat_lt c 128 ≡ false = grind (arith, nat_tests) in
    let second : nat_lt c 2048 ≡ false = grind (arith, nat_tests) in
    let third : nat_lt c 65536 ≡ false = grind (arith, nat_tests) in
    rw (first, second, third) refl

low_is_scalar : (c : ℕ) → c < 0xD800 → IsScalar c
low_is_scalar c small = low_scalar c small

high_is_scalar : (c : ℕ) → 0xE000 ≤ c → c < 0x110000 → IsScalar c
high_is_scalar c low high = grind (arith, nat_tests)

two_utf8 : (a b : ℕ) → 192 ≤ a → a ≤ 223 → 128 ≤ b → b ≤ 191 → 128 ≤ code_of_two a b → IsUtf8 (a ∷ b ∷ [])
two_utf8 a b al ah bl bh least =
    let c = code_of_two a b in
    let first : 192 + c / 64 ≡ a = omega arith in
    let second : 128 + c % 64 ≡ b = omega arith in
    let is : encode_utf8 c ≡ a ∷ b ∷ [] = encode_two c least (omega arith) ∙ rw (first, second) refl in
    subst IsUtf8 is (IsUtf8-encode c (low_is_scalar c (omega arith)))

three_utf8 : (a b d : ℕ) → 224 ≤ a → a ≤ 239 → 128 ≤ b → b ≤ 191 → 128 ≤ d → d ≤ 191 → 2048 ≤ code_of_three a b d
    → code_of_three a b d < 0xD800 ⊎ 0xE000 ≤ code_of_three a b d → IsUtf8 (a ∷ b ∷ d ∷ [])
three_utf8 a b d al ah bl bh dl dh least single =
    let c = code_of_three a b d in
    let first : 224 + c / 4096 ≡ a = omega arith in
    let second : 128 + c / 64 % 64 ≡ b = omega arith in
    let third : 128 + c % 64 ≡ d = omega arith in
    let is : encode_utf8 c ≡ a ∷ b ∷ d ∷ [] = encode_three c least (omega arith) ∙ rw (first, second, third) refl in
    let whole : IsScalar c = elim single [ inl h ↦ low_is_scalar c h | inr h ↦ high_is_scalar c h (omega arith) ] in
    subst IsUtf8 is (IsUtf8-encode c whole)

four_utf8 : (a b d e : ℕ) → 240 ≤ a → a ≤ 247 → 128 ≤ b → b ≤ 191 → 128 ≤ d → d ≤ 191 → 128 ≤ e → e ≤ 191 → 65536 ≤ code_of_four a b d e → code_of_four a b d e < 0x110000
    → IsUtf8 (a ∷ b ∷ d ∷ e ∷ [])
four_utf8 a b d e al ah bl bh dl dh el eh least most =
    let c = code_of_four a b d e in
    let first : 240 + c / 262144 ≡ a = omega arith in
    let second : 128 + c / 4096 % 64 ≡ b = omega arith in
    let third : 128 + c / 64 % 64 ≡ d = omega arith in
    let fourth : 128 + c % 64 ≡ e = omega arith in
    let is : encode_utf8 c ≡ a ∷ b ∷ d ∷ e ∷ [] = encode_four c least ∙ rw (first, second, third, fourth) refl in
    subst IsUtf8 is (IsUtf8-encode c (high_is_scalar c (omega arith) most))

two_test : (a b : ℕ) → two_stay a b ≡ true → IsUtf8 (a ∷ b ∷ [])
two_test a b stay = two_utf8 a b (grind (arith, nat_tests)) (grind (arith, nat_tests)) (grind (arith, nat_tests)) (grind (arith, nat_tests)) (grind (arith, nat_tests))

three_test : (a b d : ℕ) → three_stay a b d ≡ true → IsUtf8 (a ∷ b ∷ d ∷ [])
three_test a b d stay =
    three_utf8 a b d (grind (arith, nat_tests)) (grind (arith, nat_tests)) (grind (arith, nat_tests)) (grind (arith, nat_tests)) (grind (arith, nat_tests)) (grind (arith, nat_tests))
    (grind (arith, nat_tests)) (outside _ (single a b d stay))
  where
    single : (x y z : ℕ) → three_stay x y z ≡ true → is_in_range 0xD800 0xDFFF (code_of_three x y z) ≡ false
    single x y z is = grind (arith, nat_tests)

    outside : (n : ℕ) → is_in_range 0xD800 0xDFFF n ≡ false → (n < 0xD800) ⊎ (0xE000 ≤ n)
    outside n is = grind (arith, nat_tests)

four_test : (a b d e : ℕ) → four_stay a b d e ≡ true → IsUtf8 (a ∷ b ∷ d ∷ e ∷ [])
four_test a b d e stay =
    four_utf8 a b d e (grind (arith, nat_tests)) (grind (arith, nat_tests)) (grind (arith, nat_tests)) (grind (arith, nat_tests)) (grind (arith, nat_tests)) (grind (arith, nat_tests))
    (grind (arith, nat_tests)) (grind (arith, nat_tests)) (grind (arith, nat_tests)) (grind (arith, nat_tests))

by_tests : (P : ℕ → Type 0) (a b d e : ℕ) → (one_stays a ≡ true → P 1) → (two_stay a b ≡ true → P 2) → (three_stay a b d ≡ true → P 3) → (four_stay a b d e ≡ true → P 4) → P 0
    → P (size_of a b d e)
by_tests P a b d e one two three four none =
    by_test P (one_stays a) 1 _ one (λ _. by_test P (two_stay a b) 2 _ two (λ _. by_test P (three_stay a b d) 3 _ three (λ _. by_test P (four_stay a b d e) 4 0 four (λ _. none))))

encode_one : (c : ℕ) → c < 128 → encode_utf8 c ≡ c ∷ []
unfolding encode_utf8
encode_one c small = let first : nat_lt c 128 ≡ true = grind (arith, nat_tests) in rw first refl

ascii : (b : ℕ) (rest : List ℕ) → b < 128 → IsUtf8 rest → IsUtf8 (b ∷ rest)
ascii b rest small more = IsUtf8-append (b ∷ []) rest (subst IsUtf8 (encode_one b small) (IsUtf8-encode b (low_is_scalar b (omega arith)))) more

digit_utf8 : (n : ℕ) (rest : List ℕ) → n < 16 → IsUtf8 rest → IsUtf8 (hexadecimal n ∷ rest)
digit_utf8 n rest small more = ascii (hexadecimal n) rest (grind (arith, nat_tests)) more

spelled_utf8 : (b : ℕ) (rest : List ℕ) → b < 256 → IsUtf8 rest → IsUtf8 (spelling b ++ rest)
unfolding spelling
spelled_utf8 b rest small more =
    by_test (λ (l : List ℕ). IsUtf8 (l ++ rest)) (b == 92) (92 ∷ 92 ∷ []) _ (λ _. ascii 92 _ (omega arith) (ascii 92 rest (omega arith) more)) (λ _.
    by_test (λ (l : List ℕ). IsUtf8 (l ++ rest)) (b == 9) (92 ∷ 116 ∷ []) _ (λ _. ascii 92 _ (omega arith) (ascii 116 rest (omega arith) more)) (λ _.
    ascii 92 _ (omega arith) (ascii 120 _ (omega arith) (digit_utf8 (b / 16) _ (omega arith) (digit_utf8 (b % 16) rest (omega arith) more)))))

-- bytes that are there stand at the front
one_is_there : (rest : List ℕ) → 128 ≤ get_or rest 0 0 → rest ≡ get_or rest 0 0 ∷ drop 1 rest
one_is_there [] first = absurd (omega arith)
one_is_there (b ∷ rest) first = refl

two_are_there : (rest : List ℕ) → 128 ≤ get_or rest 0 0 → 128 ≤ get_or rest 1 0 → rest ≡ get_or rest 0 0 ∷ get_or rest 1 0 ∷ drop 2 rest
two_are_there [] first second = absurd (omega arith)
two_are_there (b ∷ []) first second = absurd (omega arith)
two_are_there (b ∷ d ∷ rest) first second = refl

three_are_there : (rest : List ℕ) → 128 ≤ get_or rest 0 0 → 128 ≤ get_or rest 1 0 → 128 ≤ get_or rest 2 0 → rest ≡ get_or rest 0 0 ∷ get_or rest 1 0 ∷ get_or rest 2 0 ∷ drop 3 rest
three_are_there [] first second third = absurd (omega arith)
three_are_there (b ∷ []) first second third = absurd (omega arith)
three_are_there (b ∷ d ∷ []) first second third = absurd (omega arith)
three_are_there (b ∷ d ∷ e ∷ rest) first second third = refl

two_front : (a b : ℕ) (rest : List ℕ) → staying_size (a ∷ b ∷ rest) ≡ 2 → two_stay a b ≡ true → IsUtf8 (shown rest) → IsUtf8 (shown (a ∷ b ∷ rest))
two_front a b rest is stay more = subst IsUtf8 (sym (kept_two a b rest is)) (IsUtf8-append (a ∷ b ∷ []) (shown rest) (two_test a b stay) more)

three_front : (a b d : ℕ) (rest : List ℕ) → staying_size (a ∷ b ∷ d ∷ rest) ≡ 3 → three_stay a b d ≡ true → IsUtf8 (shown rest) → IsUtf8 (shown (a ∷ b ∷ d ∷ rest))
three_front a b d rest is stay more = subst IsUtf8 (sym (kept_three a b d rest is)) (IsUtf8-append (a ∷ b ∷ d ∷ []) (shown rest) (three_test a b d stay) more)

four_front : (a b d e : ℕ) (rest : List ℕ) → staying_size (a ∷ b ∷ d ∷ e ∷ rest) ≡ 4 → four_stay a b d e ≡ true → IsUtf8 (shown rest) → IsUtf8 (shown (a ∷ b ∷ d ∷ e ∷ rest))
four_front a b d e rest is stay more = subst IsUtf8 (sym (kept_four a b d e rest is)) (IsUtf8-append (a ∷ b ∷ d ∷ e ∷ []) (shown rest) (four_test a b d e stay) more)

second_there : (a b : ℕ) → two_stay a b ≡ true → 128 ≤ b
second_there a b stay = grind (arith, nat_tests)

third_there : (a b d : ℕ) → three_stay a b d ≡ true → (128 ≤ b) × (128 ≤ d)
third_there a b d stay = (grind (arith, nat_tests), grind (arith, nat_tests))

fourth_there : (a b d e : ℕ) → four_stay a b d e ≡ true → (128 ≤ b) × (128 ≤ d) × (128 ≤ e)
fourth_there a b d e stay = (grind (arith, nat_tests), grind (arith, nat_tests), grind (arith, nat_tests))

first_utf8 : (a : ℕ) (rest : List ℕ) → a < 256 → ((k : ℕ) → IsUtf8 (shown (drop k rest))) → IsUtf8 (shown (a ∷ rest))
unfolding staying_size
first_utf8 a rest small more =
    let b = get_or rest 0 0 in
    let d = get_or rest 1 0 in
    let e = get_or rest 2 0 in
    let at : ℕ → List ℕ → Type 0 = λ n l. staying_size (a ∷ l) ≡ n → IsUtf8 (shown (a ∷ l)) in
    by_tests (λ n. staying_size (a ∷ rest) ≡ n → IsUtf8 (shown (a ∷ rest))) a b d e
    (λ one is. subst IsUtf8 (sym (kept a rest is)) (ascii a (shown rest) (grind (arith, nat_tests)) (more 0)))
    (λ two. subst (at 2) (sym (one_is_there rest (second_there a b two))) (λ is. two_front a b (drop 1 rest) is two (more 1)))
    (λ three. let there = third_there a b d three in
    subst (at 3) (sym (two_are_there rest there.0 there.1)) (λ is. three_front a b d (drop 2 rest) is three (more 2)))
    (λ four. let there = fourth_there a b d e four in
    subst (at 4) (sym (three_are_there rest there.0 there.1 there.2)) (λ is. four_front a b d e (drop 3 rest) is four (more 3)))
    (λ is. subst IsUtf8 (sym (spelled a rest is)) (spelled_utf8 a (shown rest) small (more 0)))
    refl

pub shown_utf8 : (text : List ℕ) → AreBytes text → (k : ℕ) → IsUtf8 (shown (drop k text))
shown_utf8 [] bytes zero = IsUtf8-nil
shown_utf8 [] bytes (suc k) = IsUtf8-nil
shown_utf8 (a ∷ rest) bytes zero = first_utf8 a rest (bytes 0) (shown_utf8 rest (λ i. bytes (suc i)))
shown_utf8 (a ∷ rest) bytes (suc k) = shown_utf8 rest (λ i. bytes (suc i)) k
