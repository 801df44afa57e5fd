-- A text as a person is shown it: the letters of UTF-8 stay as they are, and all else is spelled with a backslash.
use Rattle.std.specs.Prelude.{ℕ, suc, zero, ◌+◌, ◌-◌, ◌*◌, ◌/◌, ◌%◌, Bool, not, ◌&&◌, ◌||◌, ◌==◌, nat_lt, nat_le, List, [], ◌∷◌, ◌++◌, slice_index, if◌then◌else◌}
use Rattle.std.specs.Int.{is_in_range}
use Rattle.std.specs.Char.{digit_value}
use Rattle.meaning_texts.specs.Escapes.{hexadecimal}

-- ---- which characters stay

-- By its code: a control, a separator of lines, or one that turns the direction of what is shown.
abbrev pub moves : ℕ → Bool
moves code =
    nat_lt code 32 || is_in_range 0x7F 0x9F code || code == 0x61C || is_in_range 0x200E 0x200F code
    || is_in_range 0x2028 0x202E code || is_in_range 0x2066 0x2069 code

-- the byte is none of a character's first
abbrev pub continues : ℕ → Bool
continues b = is_in_range 128 191 b

-- the code of a character of two, three and four bytes
abbrev pub code_of_two : ℕ → ℕ → ℕ
code_of_two a b = 64 * (a - 192) + (b - 128)

abbrev pub code_of_three : ℕ → ℕ → ℕ → ℕ
code_of_three a b c = 64 * (64 * (a - 224) + (b - 128)) + (c - 128)

abbrev pub code_of_four : ℕ → ℕ → ℕ → ℕ → ℕ
code_of_four a b c d = 64 * (64 * (64 * (a - 240) + (b - 128)) + (c - 128)) + (d - 128)

-- These bytes are a character that stays: whole, with the fewest bytes that its code takes, no surrogate, and none that moves.
abbrev pub one_stays : ℕ → Bool
one_stays a = nat_lt a 128 && not (moves a) && not (a == 92)

abbrev pub two_stay : ℕ → ℕ → Bool
two_stay a b =
    is_in_range 192 223 a && continues b
    && nat_le 128 (code_of_two a b) && not (moves (code_of_two a b))

abbrev pub three_stay : ℕ → ℕ → ℕ → Bool
three_stay a b c =
    is_in_range 224 239 a && continues b && continues c
    && nat_le 2048 (code_of_three a b c) && not (is_in_range 0xD800 0xDFFF (code_of_three a b c))
    && not (moves (code_of_three a b c))

abbrev pub four_stay : ℕ → ℕ → ℕ → ℕ → Bool
four_stay a b c d =
    is_in_range 240 247 a && continues b && continues c && continues d
    && is_in_range 0x10000 0x10FFFF (code_of_four a b c d)

-- how many of the first bytes are a character that stays, and 0 where none begins
abbrev pub size_of : ℕ → ℕ → ℕ → ℕ → ℕ
size_of a b c d =
    if one_stays a then 1
    else if two_stay a b then 2
    else if three_stay a b c then 3
    else if four_stay a b c d then 4
    else 0

-- After the end of a text stands 0, which continues nothing.
unfoldable pub staying_size : List ℕ → ℕ
staying_size text =
    size_of (slice_index text 0) (slice_index text 1) (slice_index text 2) (slice_index text 3)

-- ---- what is shown

-- `\\`, `\t`, or `\x` and two digits
unfoldable pub spelling : ℕ → List ℕ
spelling b =
    if b == 92 then 92 ∷ 92 ∷ []
    else if b == 9 then 92 ∷ 116 ∷ []
    else 92 ∷ 120 ∷ hexadecimal (b / 16) ∷ hexadecimal (b % 16) ∷ []

-- the byte stays where it is one of a character that stays
abbrev pub shown_byte : ℕ → ℕ → List ℕ
shown_byte zero b = spelling b
shown_byte (suc more) b = b ∷ []

-- how many bytes stay from here on: those of the character that began before, or of the one that begins here
abbrev pub stay_count : ℕ → List ℕ → ℕ
stay_count zero text = staying_size text
stay_count (suc more) text = suc more

-- the text after a place in a character of which so many bytes are left
abbrev pub shown_after : ℕ → List ℕ → List ℕ
shown_after left [] = []
shown_after left (b ∷ rest) =
    shown_byte (stay_count left (b ∷ rest)) b ++ shown_after (stay_count left (b ∷ rest) - 1) rest

abbrev pub shown : List ℕ → List ℕ
shown text = shown_after 0 text

-- ---- and back

-- the byte that is spelled at the front, and how many bytes spell it
abbrev pub spelled_byte : ℕ → ℕ → ℕ → ℕ → ℕ
spelled_byte a b c d =
    if not (a == 92) then a
    else if b == 120 then 16 * digit_value c + digit_value d
    else if b == 116 then 9
    else b

abbrev pub spelled_size : ℕ → ℕ → ℕ
spelled_size a b = if not (a == 92) then 1 else if b == 120 then 4 else 2

abbrev pub first_byte : List ℕ → ℕ
first_byte text =
    spelled_byte (slice_index text 0) (slice_index text 1) (slice_index text 2) (slice_index text 3)

abbrev pub first_size : List ℕ → ℕ
first_size text = spelled_size (slice_index text 0) (slice_index text 1)

-- the text after a place in a spelling of which so many bytes are left
abbrev pub unshown_after : ℕ → List ℕ → List ℕ
unshown_after left [] = []
unshown_after zero (b ∷ rest) = first_byte (b ∷ rest) ∷ unshown_after (first_size (b ∷ rest) - 1) rest
unshown_after (suc left) (b ∷ rest) = unshown_after left rest

abbrev pub unshown : List ℕ → List ℕ
unshown text = unshown_after 0 text
