-- Escaped texts, cut at the ends of their plain runs.
use Rattle.std.proofs.Common.{◌≡◌, ◌≢◌, ℕ, zero, suc, ◌+◌, ◌-◌, ◌*◌, ◌/◌, ◌%◌, ◌<◌, ◌≤◌, Bool, true, false, not, cond, if◌then◌else◌, ◌==◌, nat_lt, nat_le, List, [], ◌∷◌, ◌++◌, length, take, drop, get_or, Option, Some, None, position, sym, ap, subst, refl, ◌∙◌, arith, append_assoc, take_all, slice_range, unwrap_or, length-drop, drop-drop, append-nil}
use Rattle.std.proofs.Math.Seq.{drop-cons}
use Rattle.std.proofs.lemmas.List.{take-append-drop, take-append-le, length-take, get_or-drop}
use Rattle.std.proofs.lemmas.Bool.Decides.{nat_tests}
use Rattle.std.proofs.lemmas.List.Quantifiers.{position-Some}
use Rattle.meaning_texts.specs.Escapes.{hexadecimal, escaped_byte, escaped}
use Rattle.odin_bytes.specs.Spellings.{is_plain, AreBytes, SpellsNothing}
use Rattle.odin_bytes.proofs.NameLemmas.{passed}

pub escaped-append : (a b : List ℕ) → escaped (a ++ b) ≡ escaped a ++ escaped b
escaped-append [] b = refl
escaped-append (x ∷ a) b = ap (λ rest. escaped_byte x ++ rest) (escaped-append a b) ∙ sym (append_assoc (escaped_byte x) (escaped a) (escaped b))

escaped_plain : (b : ℕ) → is_plain b ≡ true → escaped_byte b ≡ b ∷ []
escaped_plain b plain = grind (arith, nat_tests)

-- a run of plain bytes stands as it is
pub plain_run : (text : List ℕ) (n : ℕ) → ((k : ℕ) → k < n → is_plain (get_or text k 0) ≡ true) → n ≤ length text → escaped (take n text) ≡ take n text
plain_run text zero plain within = refl
plain_run [] (suc n) plain within = absurd (omega (arith, within))
plain_run (x ∷ text) (suc n) plain within = ap (λ front. front ++ escaped (take n text)) (escaped_plain x (plain 0 (omega arith))) ∙ ap (λ rest. x ∷ rest) (plain_run text n (λ k lt. plain (suc k) (omega arith)) (omega (arith, within)))

-- a text with no other byte is its own spelling
pub all_plain : (text : List ℕ) → None ≡ position (λ b. not (is_plain b)) text → escaped text ≡ text
all_plain text none =
    let whole : take (length text) text ≡ text = take_all (length text) text (omega arith) in
    ap escaped (sym whole) ∙ plain_run text (length text) (λ k lt. passed is_plain text k 0 (grind (arith, nat_tests)) lt) (omega arith) ∙ whole

not_false : (b : Bool) → not b ≡ false → b ≡ true
not_false true e = refl
not_false false e = sym e

not_true : (b : Bool) → not b ≡ true → b ≡ false
not_true true e = sym e
not_true false e = refl

-- the run up to the first other byte, and that byte
pub record EndsAt (text : List ℕ) (place : ℕ) : Type 0 where
  pub within : place < length text
  pub other : is_plain (get_or text place 0) ≡ false
  pub run : escaped (take place text) ≡ take place text

pub ends_at : (text : List ℕ) (place : ℕ) → Some place ≡ position (λ b. not (is_plain b)) text → EndsAt text place
ends_at text place is =
    let facts = position-Some (λ b. not (is_plain b)) text place 0 (sym is) in
    record { within = facts.0; other = not_true _ facts.1; run = plain_run text place (λ k lt. not_false _ (facts.2 k lt)) (omega (arith, facts.0)) }

pub whole_at : (text : List ℕ) (place : ℕ) → place < length text → text ≡ take place text ++ get_or text place 0 ∷ drop (place + 1) text
whole_at text place lt = sym (take-append-drop place text) ∙ ap (λ rest. take place text ++ rest) (drop-cons text place 0 lt ∙ ap (λ n. get_or text place 0 ∷ drop n text) (let one : suc place ≡ place + 1 = omega arith in one))

-- the spelling of a text is its first run, the escape after it, and the spelling of the rest
pub escaped_at : (text : List ℕ) (place : ℕ) → EndsAt text place → escaped text ≡ take place text ++ (escaped_byte (get_or text place 0) ++ escaped (drop (place + 1) text))
escaped_at text place ends =
    ap escaped (whole_at text place ends.within) ∙ escaped-append (take place text) (get_or text place 0 ∷ drop (place + 1) text) ∙ ap (λ run. run ++ (escaped_byte (get_or text place 0) ++ escaped (drop (place + 1) text))) ends.run

-- the value of a digit, and the byte that a spelling begins with beside what is after it
digit_value : ℕ → ℕ
digit_value digit = if nat_le digit 57 then digit - 48 else digit - 87

from_digits : List ℕ → Option (ℕ × List ℕ)
from_digits [] = None
from_digits (high ∷ []) = None
from_digits (high ∷ low ∷ rest) = Some (digit_value high * 16 + digit_value low, rest)

from_escape : List ℕ → Option (ℕ × List ℕ)
from_escape [] = None
from_escape (kind ∷ rest) = if kind == 92 then Some (92, rest) else from_digits rest

first_of_spelling : List ℕ → Option (ℕ × List ℕ)
first_of_spelling [] = None
first_of_spelling (b ∷ rest) = if b == 92 then from_escape rest else Some (b, rest)

digit_value-hexadecimal : (n : ℕ) → n < 16 → digit_value (hexadecimal n) ≡ n
unfolding digit_value
digit_value-hexadecimal n small = grind (arith, nat_tests)

digits_again : (b : ℕ) → b < 256 → digit_value (hexadecimal (b / 16)) * 16 + digit_value (hexadecimal (b % 16)) ≡ b
digits_again b small = let high = digit_value-hexadecimal (b / 16) (omega arith) in let low = digit_value-hexadecimal (b % 16) (omega arith) in omega arith

other_byte : (b : ℕ) → is_plain b ≡ false → (b == 92) ≡ false → escaped_byte b ≡ 92 ∷ 120 ∷ hexadecimal (b / 16) ∷ hexadecimal (b % 16) ∷ []
other_byte b other differs = grind (arith, nat_tests)

first_by : (b : ℕ) (behind : List ℕ) → b < 256 → (plain backslash : Bool) → is_plain b ≡ plain → (b == 92) ≡ backslash → first_of_spelling (escaped_byte b ++ behind) ≡ Some (b, behind)
unfolding first_of_spelling from_escape from_digits
first_by b behind small true backslash plain is = ap (λ front. first_of_spelling (front ++ behind)) (escaped_plain b plain) ∙ ap (λ t. if t then from_escape behind else Some (b, behind)) (let differs : (b == 92) ≡ false = grind (arith, nat_tests) in differs)
first_by b behind small false true plain is = let same : 92 ≡ b = grind (arith, nat_tests) in subst (λ b. first_of_spelling (escaped_byte b ++ behind) ≡ Some (b, behind)) same refl
first_by b behind small false false plain is = ap (λ front. first_of_spelling (front ++ behind)) (other_byte b plain is) ∙ ap (λ n. Some (n, behind)) (digits_again b small)

first_again : (b : ℕ) (behind : List ℕ) → b < 256 → first_of_spelling (escaped_byte b ++ behind) ≡ Some (b, behind)
first_again b behind small = first_by b behind small (is_plain b) (b == 92) refl refl

first_spelled : (b : ℕ) (text behind : List ℕ) → b < 256 → first_of_spelling (escaped (b ∷ text) ++ behind) ≡ Some (b, escaped text ++ behind)
first_spelled b text behind small = ap first_of_spelling (append_assoc (escaped_byte b) (escaped text) behind) ∙ first_again b (escaped text ++ behind) small

-- what is left of a spelling after one is a spelling
cut : (done more rest : List ℕ) → AreBytes done → AreBytes more → escaped done ++ rest ≡ escaped more → (behind : List ℕ) × AreBytes behind × (rest ≡ escaped behind)
unfolding first_of_spelling
cut [] more rest done_bytes bytes is = (more, bytes, is)
cut (x ∷ done) [] rest done_bytes bytes is =
    let both : ◌≡◌ {A = Option (ℕ × List ℕ)} (Some (x, escaped done ++ rest)) None = sym (first_spelled x done rest (done_bytes 0)) ∙ ap first_of_spelling is in absurd (cc)
cut (x ∷ done) (y ∷ more) rest done_bytes bytes is =
    let both : ◌≡◌ {A = Option (ℕ × List ℕ)} (Some (x, escaped done ++ rest)) (Some (y, escaped more)) = sym (first_spelled x done rest (done_bytes 0)) ∙ ap first_of_spelling is ∙ first_again y (escaped more) (bytes 0) in
    cut done more rest (λ i. done_bytes (suc i)) (λ i. bytes (suc i)) (ap (λ (o : Option (ℕ × List ℕ)). let pair = unwrap_or o (0, []) in pair.1) both)

-- two texts with one spelling are one
pub escaped_injective : (a b : List ℕ) → AreBytes a → AreBytes b → escaped a ≡ escaped b → a ≡ b
unfolding first_of_spelling
escaped_injective [] [] a_bytes b_bytes is = refl
escaped_injective [] (y ∷ b) a_bytes b_bytes is = let both : ◌≡◌ {A = Option (ℕ × List ℕ)} None (Some (y, escaped b)) = ap first_of_spelling is ∙ first_again y (escaped b) (b_bytes 0) in absurd (cc)
escaped_injective (x ∷ a) [] a_bytes b_bytes is = let both : ◌≡◌ {A = Option (ℕ × List ℕ)} (Some (x, escaped a)) None = sym (first_again x (escaped a) (a_bytes 0)) ∙ ap first_of_spelling is in absurd (cc)
escaped_injective (x ∷ a) (y ∷ b) a_bytes b_bytes is =
    let both : ◌≡◌ {A = Option (ℕ × List ℕ)} (Some (x, escaped a)) (Some (y, escaped b)) = sym (first_again x (escaped a) (a_bytes 0)) ∙ ap first_of_spelling is ∙ first_again y (escaped b) (b_bytes 0) in
    let heads : x ≡ y = ap (λ (o : Option (ℕ × List ℕ)). let pair = unwrap_or o (0, []) in pair.0) both in
    let tails = escaped_injective a b (λ i. a_bytes (suc i)) (λ i. b_bytes (suc i)) (ap (λ (o : Option (ℕ × List ℕ)). let pair = unwrap_or o (0, []) in pair.1) both) in
    ap (λ b. b ∷ a) heads ∙ ap (λ rest. y ∷ rest) tails

-- a slice to the end
to_end : (text : List ℕ) (place : ℕ) → slice_range text place (length text) ≡ drop place text
to_end text place = take_all (length text - place) (drop place text) (omega (arith, length-drop place text))

behind_bytes : (front rest : List ℕ) → AreBytes (front ++ rest) → AreBytes rest
behind_bytes [] rest bytes = bytes
behind_bytes (x ∷ front) rest bytes = behind_bytes front rest (λ i. bytes (suc i))

front_bytes : (n : ℕ) (text : List ℕ) → AreBytes text → AreBytes (take n text)
front_bytes zero text bytes i = omega arith
front_bytes (suc n) [] bytes i = bytes i
front_bytes (suc n) (x ∷ text) bytes zero = bytes 0
front_bytes (suc n) (x ∷ text) bytes (suc i) = front_bytes n text (λ i. bytes (suc i)) i

both_bytes : (a b : List ℕ) → AreBytes a → AreBytes b → AreBytes (a ++ b)
both_bytes [] b a_bytes b_bytes i = b_bytes i
both_bytes (x ∷ a) b a_bytes b_bytes zero = a_bytes 0
both_bytes (x ∷ a) b a_bytes b_bytes (suc i) = both_bytes a b (λ i. a_bytes (suc i)) b_bytes i

first_passes : (plain : Bool) (run size : ℕ) → plain ≡ false
    → cond {A = Option ℕ} (nat_lt (cond (not (not plain)) (1 + run) 0) (suc size)) (Some (cond (not (not plain)) (1 + run) 0)) None ≡ Some 0
first_passes true run size e = absurd (let wrong : ⊥ = cc in wrong)
first_passes false run size e = grind (arith, nat_tests)

-- at the end of a run stands a byte that isn't plain
pub begins_other : (text : List ℕ) (place : ℕ) → EndsAt text place → position (λ b. not (is_plain b)) (slice_range text place (length text)) ≡ Some 0
begins_other text place ends =
    ap (position (λ b. not (is_plain b))) (to_end text place ∙ drop-cons text place 0 ends.within) ∙ first_passes (is_plain (get_or text place 0)) _ _ ends.other

-- no escape there, and nothing has the spelling
pub nothing : (spelling done rest : List ℕ) (place : ℕ) → AreBytes spelling → AreBytes done → spelling ≡ escaped done ++ rest → EndsAt rest place
    → ((byte : ℕ) (behind : List ℕ) → byte < 256 → slice_range rest place (length rest) ≢ escaped_byte byte ++ behind) → SpellsNothing spelling
nothing spelling done rest place bytes done_bytes is ends none plain plain_bytes spelled =
    let rest_bytes = behind_bytes (escaped done) rest (subst AreBytes is bytes) in
    let front = take place rest in
    let run : spelling ≡ escaped (done ++ front) ++ drop place rest = is ∙ ap (λ l. escaped done ++ l) (sym (take-append-drop place rest) ∙ ap (λ l. l ++ drop place rest) (sym ends.run)) ∙ sym (append_assoc (escaped done) (escaped front) (drop place rest)) ∙ ap (λ l. l ++ drop place rest) (sym (escaped-append done front)) in
    let left = cut (done ++ front) plain (drop place rest) (both_bytes done front done_bytes (front_bytes place rest rest_bytes)) plain_bytes (sym run ∙ spelled) in
    no_more left.0 left.1 left.2
  where
    no_more : (behind : List ℕ) → AreBytes behind → drop place rest ≡ escaped behind → ⊥
    no_more [] behind_small is = omega (arith, ap length is, length-drop place rest, ends.within)
    no_more (b ∷ behind) behind_small is = none b (escaped behind) (behind_small 0) (to_end rest place ∙ is)

-- the spelling after an escape
pub read_on : (spelling done rest : List ℕ) (place byte size : ℕ) → spelling ≡ escaped done ++ rest → EndsAt rest place → take size (slice_range rest place (length rest)) ≡ escaped_byte byte
    → spelling ≡ escaped ((done ++ take place rest) ++ byte ∷ []) ++ slice_range rest (place + size) (length rest)
read_on spelling done rest place byte size is ends escape =
    let front = take place rest in
    let last = slice_range rest (place + size) (length rest) in
    let head : take size (drop place rest) ≡ escaped_byte byte = ap (take size) (sym (to_end rest place)) ∙ escape in
    let tail : drop size (drop place rest) ≡ last = drop-drop size place rest ∙ sym (to_end rest (place + size)) in
    let rest_is : rest ≡ escaped front ++ (escaped_byte byte ++ last) = sym (take-append-drop place rest) ∙ ap (λ l. l ++ drop place rest) (sym ends.run)
    ∙ ap (λ l. escaped front ++ l) (sym (take-append-drop size (drop place rest)) ∙ ap (λ l. l ++ drop size (drop place rest)) head ∙ ap (λ l. escaped_byte byte ++ l) tail) in
    let joined : escaped ((done ++ front) ++ byte ∷ []) ≡ (escaped done ++ escaped front) ++ escaped_byte byte = escaped-append (done ++ front) (byte ∷ []) ∙ ap (λ l. l ++ escaped (byte ∷ [])) (escaped-append done front) ∙ ap (λ l. (escaped done ++ escaped front) ++ l) (append-nil (escaped_byte byte)) in
    is ∙ ap (λ l. escaped done ++ l) rest_is
    ∙ sym (append_assoc (escaped done ++ escaped front) (escaped_byte byte) last ∙ append_assoc (escaped done) (escaped front) (escaped_byte byte ++ last))
    ∙ ap (λ l. l ++ last) (sym joined)

-- a plain rest is the end
pub read_all : (spelling done rest : List ℕ) → spelling ≡ escaped done ++ rest → None ≡ position (λ b. not (is_plain b)) rest → spelling ≡ escaped (done ++ rest)
read_all spelling done rest is plain = is ∙ ap (λ l. escaped done ++ l) (sym (all_plain rest plain)) ∙ sym (escaped-append done rest)

-- the byte that ends a run, and what is after it
pub other_there : (rest : List ℕ) (place : ℕ) → get_or (slice_range rest place (length rest)) 0 0 ≡ get_or rest place 0
other_there rest place = ap (λ l. get_or l 0 0) (to_end rest place) ∙ get_or-drop place rest 0 0 ∙ ap (λ n. get_or rest n 0) (let all : place + 0 ≡ place = omega arith in all)

-- what is put with a run and an escape, and what is left
pub put_on : (out rest whole : List ℕ) (place byte : ℕ) → out ++ escaped rest ≡ whole → EndsAt rest place → byte ≡ get_or rest place 0
    → (let behind = slice_range rest place (length rest) in ((out ++ take place rest) ++ escaped_byte byte) ++ escaped (slice_range behind 1 (length behind)) ≡ whole)
put_on out rest whole place byte is ends byte_is =
    let front = take place rest in
    let last = escaped (drop (place + 1) rest) in
    let behind = slice_range rest place (length rest) in
    let last_is : slice_range behind 1 (length behind) ≡ drop (place + 1) rest = to_end behind 1 ∙ ap (drop 1) (to_end rest place) ∙ drop-drop 1 place rest in
    ap (λ l. ((out ++ front) ++ escaped_byte byte) ++ escaped l) last_is
    ∙ ap (λ b. ((out ++ front) ++ escaped_byte b) ++ last) byte_is
    ∙ append_assoc (out ++ front) (escaped_byte (get_or rest place 0)) last ∙ append_assoc out front (escaped_byte (get_or rest place 0) ++ last)
    ∙ ap (λ l. out ++ l) (sym (escaped_at rest place ends)) ∙ is

-- what stands before stays
pub kept_on : (before out more : List ℕ) → take (length before) out ≡ before → take (length before) (out ++ more) ≡ before
kept_on before out more is = take-append-le (length before) out more (omega (arith, ap length is, length-take (length before) out)) ∙ is

-- what is read with a run and an escape is of bytes
pub bytes_on : (spelling done rest : List ℕ) (place byte : ℕ) → AreBytes spelling → AreBytes done → spelling ≡ escaped done ++ rest → byte < 256 → AreBytes ((done ++ take place rest) ++ byte ∷ [])
bytes_on spelling done rest place byte bytes done_bytes is small =
    both_bytes (done ++ take place rest) (byte ∷ []) (both_bytes done (take place rest) done_bytes (front_bytes place rest (behind_bytes (escaped done) rest (subst AreBytes is bytes)))) (one_byte byte small)
  where
    one_byte : (byte : ℕ) → byte < 256 → AreBytes (byte ∷ [])
    one_byte byte small zero = small
    one_byte byte small (suc i) = omega arith

-- a slice from the start
pub from_start : (text : List ℕ) (place : ℕ) → slice_range text 0 place ≡ take place text
from_start text place = ap (λ n. take n text) (let all : place - 0 ≡ place = omega arith in all)
