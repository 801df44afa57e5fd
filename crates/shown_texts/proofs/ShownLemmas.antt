-- What is shown, place by place.
use Rattle.std.proofs.Common.{◌≡◌, ◌≢◌, ◌≤◌, ◌<◌, ◌⊎◌, ℕ, zero, suc, ◌+◌, ◌-◌, ◌*◌, ◌/◌, ◌%◌, Bool, true, false, cond, ◌==◌, inr, List, [], ◌∷◌, ◌++◌, length, get_or, drop, slice_range, take_all, length-drop, add-one, ap, sym, subst, refl, ◌∙◌, arith}
use Rattle.std.proofs.Math.Seq.{drop-cons}
use Rattle.std.proofs.lemmas.List.{append_assoc}
use Rattle.std.proofs.lemmas.Bool.Decides.{nat_tests}
use Rattle.odin_bytes.specs.Spellings.{AreBytes}
use Rattle.meaning_texts.specs.Escapes.{hexadecimal}
use Rattle.std.specs.Char.{digit_value}
use Rattle.shown_texts.specs.Shown.{one_stays, two_stay, three_stay, four_stay, size_of, staying_size, spelling, shown_byte, stay_count, shown_after, shown, unshown}
use Rattle.shown_texts.specs.ShownLaws.{BeginsStill, MovesNothing}

front : (left : ℕ) (text : List ℕ) (b : ℕ) (rest : List ℕ) → text ≡ b ∷ rest → shown_after left text ≡ shown_byte (stay_count left text) b ++ shown_after (stay_count left text - 1) rest
front left text b rest is = subst (λ (t : List ℕ). shown_after left t ≡ shown_byte (stay_count left t) b ++ shown_after (stay_count left t - 1) rest) (sym is) refl

pub written_on : (whole out new : List ℕ) (left : ℕ) (text : List ℕ) (b : ℕ) (rest : List ℕ) → text ≡ b ∷ rest → out ++ shown_after left text ≡ whole → new ≡ out ++ shown_byte (stay_count left text) b
    → new ++ shown_after (stay_count left text - 1) rest ≡ whole
written_on whole out new left text b rest is made new_is =
    ap (λ (l : List ℕ). l ++ shown_after (stay_count left text - 1) rest) new_is
    ∙ append_assoc out (shown_byte (stay_count left text) b) (shown_after (stay_count left text - 1) rest)
    ∙ ap (λ (l : List ℕ). out ++ l) (sym (front left text b rest is))
    ∙ made

to_end : (text : List ℕ) (place : ℕ) → slice_range text place (length text) ≡ drop place text
to_end text place = take_all (length text - place) (drop place text) (omega (arith, length-drop place text))

pub step_on : (whole text out new : List ℕ) (left size place : ℕ) → place < length text → size ≡ stay_count left (slice_range text place (length text))
    → new ≡ out ++ shown_byte size (get_or text place 0) → out ++ shown_after left (drop place text) ≡ whole → new ++ shown_after (size - 1) (drop (place + 1) text) ≡ whole
step_on whole text out new left size place there size_is new_is made =
    let size_at : size ≡ stay_count left (drop place text) = size_is ∙ ap (stay_count left) (to_end text place) in
    let cut : drop place text ≡ get_or text place 0 ∷ drop (place + 1) text = rw (add-one, drop-cons text place 0) refl in
    rw size_at (written_on whole out new left (drop place text) (get_or text place 0) (drop (place + 1) text) cut made (new_is ∙ ap (λ n. out ++ shown_byte n (get_or text place 0)) size_at))

-- ---- sizes

-- what is known of a character that stays, by its size
by_test : {A : Type 0} (P : A → Type 0) (b : Bool) (x y : A) → (b ≡ true → P x) → (b ≡ false → P y) → P (cond b x y)
by_test P true x y there other = there refl
by_test P false x y there other = other refl

record Two (a b : ℕ) : Type 0 where
  pub first : (194 ≤ a) × (a ≤ 223)
  pub second : (128 ≤ b) × (b ≤ 191)
  pub control : a ≡ 194 → 160 ≤ b
  pub mark : a ≡ 216 → b ≢ 156

record Three (a b c : ℕ) : Type 0 where
  pub first : (224 ≤ a) × (a ≤ 239)
  pub second : (128 ≤ b) × (b ≤ 191)
  pub third : (128 ≤ c) × (c ≤ 191)
  pub mark : a ≡ 226 → b ≡ 128 → (c < 142) ⊎ (143 < c)
  pub turn : a ≡ 226 → b ≡ 128 → (c < 168) ⊎ (174 < c)
  pub isolate : a ≡ 226 → b ≡ 129 → (c < 166) ⊎ (169 < c)

record Four (a b c d : ℕ) : Type 0 where
  pub first : (240 ≤ a) × (a ≤ 247)
  pub second : (128 ≤ b) × (b ≤ 191)
  pub third : (128 ≤ c) × (c ≤ 191)
  pub fourth : (128 ≤ d) × (d ≤ 191)

one_is : (a : ℕ) → one_stays a ≡ true → (32 ≤ a) × (a ≤ 126) × (a ≢ 92)
one_is a stays = (grind (arith, nat_tests), grind (arith, nat_tests), grind (arith, nat_tests))

two_is : (a b : ℕ) → two_stay a b ≡ true → Two a b
two_is a b stay = record {
  first = (grind (arith, nat_tests), grind (arith, nat_tests));
  second = (grind (arith, nat_tests), grind (arith, nat_tests));
  control = grind (arith, nat_tests);
  mark = grind (arith, nat_tests);
}

three_is : (a b c : ℕ) → three_stay a b c ≡ true → Three a b c
three_is a b c stay = record {
  first = (grind (arith, nat_tests), grind (arith, nat_tests));
  second = (grind (arith, nat_tests), grind (arith, nat_tests));
  third = (grind (arith, nat_tests), grind (arith, nat_tests));
  mark = grind (arith, nat_tests);
  turn = grind (arith, nat_tests);
  isolate = grind (arith, nat_tests);
}

four_is : (a b c d : ℕ) → four_stay a b c d ≡ true → Four a b c d
four_is a b c d stay = record {
  first = (grind (arith, nat_tests), grind (arith, nat_tests));
  second = (grind (arith, nat_tests), grind (arith, nat_tests));
  third = (grind (arith, nat_tests), grind (arith, nat_tests));
  fourth = (grind (arith, nat_tests), grind (arith, nat_tests));
}

-- a fact of sizes holds where it does in each case
by_size : (P : ℕ → Type 0) (a b c d : ℕ)
    → ((32 ≤ a) × (a ≤ 126) × (a ≢ 92) → P 1) → (Two a b → P 2) → (Three a b c → P 3) → (Four a b c d → P 4) → P 0 → P (size_of a b c d)
by_size P a b c d one two three four none =
    by_test P (one_stays a) 1 _ (λ is. one (one_is a is)) (λ _.
    by_test P (two_stay a b) 2 _ (λ is. two (two_is a b is)) (λ _.
    by_test P (three_stay a b c) 3 _ (λ is. three (three_is a b c is)) (λ _.
    by_test P (four_stay a b c d) 4 0 (λ is. four (four_is a b c d is)) (λ _. none))))

-- ---- what of each of the first bytes

under_one : (P : ℕ → Type 0) → P 0 → (i : ℕ) → i < 1 → P i
under_one P first zero below = first
under_one P first (suc i) below = absurd (omega arith)

under_two : (P : ℕ → Type 0) → P 0 → P 1 → (i : ℕ) → i < 2 → P i
under_two P first second zero below = first
under_two P first second (suc i) below = under_one (λ j. P (suc j)) second i (omega arith)

under_three : (P : ℕ → Type 0) → P 0 → P 1 → P 2 → (i : ℕ) → i < 3 → P i
under_three P first second third zero below = first
under_three P first second third (suc i) below = under_two (λ j. P (suc j)) second third i (omega arith)

under_four : (P : ℕ → Type 0) → P 0 → P 1 → P 2 → P 3 → (i : ℕ) → i < 4 → P i
under_four P first second third fourth zero below = first
under_four P first second third fourth (suc i) below = under_three (λ j. P (suc j)) second third fourth i (omega arith)

-- ---- reading back

-- as many bytes are no backslash
abbrev NoSlash : ℕ → List ℕ → Type 0
NoSlash left text = (i : ℕ) → i < left → get_or text i 0 ≢ 92

size_no_slash : (text : List ℕ) → NoSlash (staying_size text) text
unfolding staying_size
size_no_slash text =
    by_size (λ n. NoSlash n text) (get_or text 0 0) (get_or text 1 0) (get_or text 2 0) (get_or text 3 0)
    (λ one. under_one (λ i. get_or text i 0 ≢ 92) one.2)
    (λ two. under_two (λ i. get_or text i 0 ≢ 92) (grind arith) (grind arith))
    (λ three. under_three (λ i. get_or text i 0 ≢ 92) (grind arith) (grind arith) (grind arith))
    (λ four. under_four (λ i. get_or text i 0 ≢ 92) (grind arith) (grind arith) (grind arith) (grind arith))
    (λ i below. absurd (omega arith))

staying_no_slash : (left : ℕ) (text : List ℕ) → NoSlash left text → NoSlash (stay_count left text) text
staying_no_slash zero text fine = size_no_slash text
staying_no_slash (suc more) text fine = fine

unshown_plain : (b : ℕ) (rest : List ℕ) → b ≢ 92 → unshown (b ∷ rest) ≡ b ∷ unshown rest
unshown_plain b rest other = let test : (b == 92) ≡ false = grind (arith, nat_tests) in rw test refl

digit_back : (n : ℕ) → n < 16 → digit_value (hexadecimal n) ≡ n
digit_back n small = grind (arith, nat_tests)

digits_back : (b : ℕ) → b < 256 → 16 * digit_value (hexadecimal (b / 16)) + digit_value (hexadecimal (b % 16)) ≡ b
digits_back b small =
    let high : b / 16 < 16 = omega arith in
    let low : b % 16 < 16 = omega arith in
    rw (digit_back (b / 16) high, digit_back (b % 16) low) (omega arith)

unshown_spelling : (b : ℕ) (rest : List ℕ) → b < 256 → unshown (spelling b ++ rest) ≡ b ∷ unshown rest
unfolding spelling
unshown_spelling b rest small =
    by_test (λ (l : List ℕ). unshown (l ++ rest) ≡ b ∷ unshown rest) (b == 92) (92 ∷ 92 ∷ []) _
    (λ is. let at : 92 ≡ b = grind (arith, nat_tests) in ap (λ (x : ℕ). x ∷ unshown rest) at) (λ _.
    by_test (λ (l : List ℕ). unshown (l ++ rest) ≡ b ∷ unshown rest) (b == 9) (92 ∷ 116 ∷ []) _
    (λ is. let at : 9 ≡ b = grind (arith, nat_tests) in ap (λ (x : ℕ). x ∷ unshown rest) at) (λ _.
    ap (λ (x : ℕ). x ∷ unshown rest) (digits_back b small)))

pub read_back : (left : ℕ) (text : List ℕ) → AreBytes text → NoSlash left text → unshown (shown_after left text) ≡ text
read_back left [] bytes fine = refl
read_back left (b ∷ rest) bytes fine = on (stay_count left (b ∷ rest)) (staying_no_slash left (b ∷ rest) fine) (λ n. read_back n rest (λ i. bytes (suc i)))
  where
    on : (n : ℕ) → NoSlash n (b ∷ rest) → ((m : ℕ) → NoSlash m rest → unshown (shown_after m rest) ≡ rest) → unshown (shown_byte n b ++ shown_after (n - 1) rest) ≡ b ∷ rest
    on zero none behind = unshown_spelling b (shown_after (0 - 1) rest) (bytes 0) ∙ ap (λ (l : List ℕ). b ∷ l) (behind (0 - 1) (λ i below. absurd (omega arith)))
    on (suc m) none behind = unshown_plain b (shown_after (suc m - 1) rest) (none 0 (omega arith)) ∙ ap (λ (l : List ℕ). b ∷ l) (behind (suc m - 1) (λ i below. none (suc i) (omega arith)))

pub same_shown : (a b : List ℕ) → AreBytes a → AreBytes b → shown a ≡ shown b → a ≡ b
same_shown a b are also same = sym (back a are) ∙ ap unshown same ∙ back b also
  where
    back : (text : List ℕ) → AreBytes text → unshown (shown text) ≡ text
    back text bytes = read_back 0 text bytes (λ i below. absurd (omega arith))

-- ---- nothing moves

-- as many bytes continue a character
abbrev Continues : ℕ → List ℕ → Type 0
Continues left text = (i : ℕ) → i < left → (128 ≤ get_or text i 0) × (get_or text i 0 ≤ 191)

same_front : (left i : ℕ) (rest : List ℕ) → i < left → get_or (shown_after left rest) i 0 ≡ get_or rest i 0
same_front left i [] below = refl
same_front zero i (b ∷ rest) below = absurd (omega arith)
same_front (suc k) zero (b ∷ rest) below = refl
same_front (suc k) (suc i) (b ∷ rest) below = same_front (suc k - 1) i rest (omega arith)

calm : (a x y : ℕ) → (32 ≤ a) × (a ≤ 126) → BeginsStill a x y
calm a x y printable = record { control = omega arith; delete = omega arith; long_control = λ is. absurd (omega arith); letter_mark = λ is. absurd (omega arith); mark = λ is. absurd (omega arith); turn = λ is. absurd (omega arith); isolate = λ is. absurd (omega arith) }

on_calm : (a x y : ℕ) → (128 ≤ a) × (a ≤ 191) → BeginsStill a x y
on_calm a x y goes_on = record { control = omega arith; delete = omega arith; long_control = λ is. absurd (omega arith); letter_mark = λ is. absurd (omega arith); mark = λ is. absurd (omega arith); turn = λ is. absurd (omega arith); isolate = λ is. absurd (omega arith) }

two_calm : (a b x y : ℕ) → Two a b → x ≡ b → BeginsStill a x y
two_calm a b x y two is = record { control = omega arith; delete = omega arith; long_control = λ at. inr (grind arith); letter_mark = grind arith; mark = λ at. absurd (omega arith); turn = λ at. absurd (omega arith); isolate = λ at. absurd (omega arith) }

three_calm : (a b c x y : ℕ) → Three a b c → x ≡ b → y ≡ c → BeginsStill a x y
three_calm a b c x y three is also = record { control = omega arith; delete = omega arith; long_control = λ at. absurd (omega arith); letter_mark = λ at. absurd (omega arith); mark = grind arith; turn = grind arith; isolate = grind arith }

four_calm : (a b c d x y : ℕ) → Four a b c d → BeginsStill a x y
four_calm a b c d x y four = record { control = omega arith; delete = omega arith; long_control = λ is. absurd (omega arith); letter_mark = λ is. absurd (omega arith); mark = λ is. absurd (omega arith); turn = λ is. absurd (omega arith); isolate = λ is. absurd (omega arith) }

digit_calm : (n x y : ℕ) → n < 16 → BeginsStill (hexadecimal n) x y
digit_calm n x y small = calm (hexadecimal n) x y (grind (arith, nat_tests), grind (arith, nat_tests))

spelled_calm : (b : ℕ) (rest : List ℕ) → b < 256 → MovesNothing rest → MovesNothing (spelling b ++ rest)
unfolding spelling
spelled_calm b rest small still =
    by_test (λ (l : List ℕ). MovesNothing (l ++ rest)) (b == 92) (92 ∷ 92 ∷ []) _
    (λ _. (calm 92 _ _ (omega arith, omega arith), (calm 92 _ _ (omega arith, omega arith), still))) (λ _.
    by_test (λ (l : List ℕ). MovesNothing (l ++ rest)) (b == 9) (92 ∷ 116 ∷ []) _
    (λ _. (calm 92 _ _ (omega arith, omega arith), (calm 116 _ _ (omega arith, omega arith), still))) (λ _.
    (calm 92 _ _ (omega arith, omega arith), (calm 120 _ _ (omega arith, omega arith), (digit_calm (b / 16) _ _ (omega arith), (digit_calm (b % 16) _ _ (omega arith), still))))))

first_still : (b : ℕ) (rest : List ℕ) → b < 256 → ((n : ℕ) → Continues n rest → MovesNothing (shown_after n rest)) → MovesNothing (shown_after 0 (b ∷ rest))
unfolding staying_size
first_still b rest small behind =
    let second = get_or rest 0 0 in
    let third = get_or rest 1 0 in
    let fourth = get_or rest 2 0 in
    let place = λ (i : ℕ). (128 ≤ get_or rest i 0) × (get_or rest i 0 ≤ 191) in
    by_size (λ n. MovesNothing (shown_byte n b ++ shown_after (n - 1) rest)) b second third fourth
    (λ one. (calm b _ _ (one.0, one.1), behind 0 (λ i below. absurd (omega arith))))
    (λ two. (two_calm b second _ _ two (same_front 1 0 rest (omega arith)), behind 1 (under_one place two.second)))
    (λ three. (three_calm b second third _ _ three (same_front 2 0 rest (omega arith)) (same_front 2 1 rest (omega arith)), behind 2 (under_two place three.second three.third)))
    (λ four. (four_calm b second third fourth _ _ four, behind 3 (under_three place four.second four.third four.fourth)))
    (spelled_calm b (shown_after 0 rest) small (behind 0 (λ i below. absurd (omega arith))))

pub still : (left : ℕ) (text : List ℕ) → AreBytes text → Continues left text → MovesNothing (shown_after left text)
still left [] bytes goes_on = tt
still zero (b ∷ rest) bytes goes_on = first_still b rest (bytes 0) (λ n. still n rest (λ i. bytes (suc i)))
still (suc k) (b ∷ rest) bytes goes_on =
    (on_calm b _ _ (goes_on 0 (omega arith)), still (suc k - 1) rest (λ i. bytes (suc i)) (λ i below. goes_on (suc i) (omega arith)))
