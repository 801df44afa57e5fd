-- Whether bytes can go on to an expression, and the place of a fault, computed.
use Rattle.std.specs.Prelude.{ℕ, zero, suc, ◌+◌, min, Bool, true, false, ◌||◌, ◌&&◌, nat_le, ◌==◌, List, [], ◌∷◌, length, take, is_some, if◌then◌else◌}
use Rattle.std.specs.List.{list_any, list_all}
use Rattle.meaning_texts.specs.Classes.{is_name_byte, is_key_byte, begins_with_letter}
use Rattle.meaning_texts.specs.Lists.{is_empty}
use Rattle.meaning_texts.specs.Limits.{word_limit, expression_limit}
use Rattle.meaning_texts.specs.Tests.{is_name, is_id, is_param_value}
use Rattle.meaning_texts.specs.Reading.{Piece, cut_at_marks, ItemList, name_part, value_part, read_piece, past_spaces}

-- further bytes, or none, make it a word of the class
abbrev pub begins_word : (ℕ → Bool) → List ℕ → Bool
begins_word class word = nat_le (length word) word_limit && list_all class word

abbrev pub begins_id : List ℕ → Bool
begins_id word = begins_word is_key_byte word && (is_empty word || begins_with_letter word)

abbrev pub has_equals : List ℕ → Bool
has_equals word = list_any (λ b. b == 61) word

abbrev pub begins_param : List ℕ → Bool
begins_param word =
    if has_equals word then is_id (name_part word) && is_param_value (value_part word)
    else begins_id word

-- further bytes, or none, make the piece an item or a space
abbrev pub begins_piece : Piece → Bool
begins_piece p =
    if p.mark == 32 then is_empty p.word
    else if p.mark == 43 then begins_param p.word
    else if p.mark == 58 then begins_id p.word
    else if p.mark == 37 then begins_word is_key_byte p.word
    else false

abbrev pub no_items : ItemList
no_items = record { params = []; steps = [] }

-- the piece is an item or a space
abbrev pub reads_piece : Piece → Bool
reads_piece p = is_some (read_piece p no_items)

-- all pieces but the last are whole
abbrev pub begins_pieces : List Piece → Bool
begins_pieces [] = true
begins_pieces (p ∷ []) = begins_piece p
begins_pieces (p ∷ q ∷ rest) = reads_piece p && begins_pieces (q ∷ rest)

-- the name may go on where it is all that there is
abbrev pub begins_cut : List ℕ → List Piece → Bool
begins_cut head [] = begins_word is_name_byte head
begins_cut head (p ∷ rest) = is_name head && begins_pieces (p ∷ rest)

unfoldable pub is_front : List ℕ → Bool
is_front bytes =
    begins_cut (cut_at_marks (past_spaces bytes)).head (cut_at_marks (past_spaces bytes)).pieces

-- the first of so many places, from this one on, at which the bytes are no front, or the place
-- after them
abbrev pub first_stop : List ℕ → ℕ → ℕ → ℕ
first_stop text zero place = place
first_stop text (suc n) place =
    if is_front (take place text) then first_stop text n (place + 1) else place

-- the place of the fault of a text that has no expression
unfoldable pub fault_place : List ℕ → ℕ
fault_place text = min (first_stop text (length text) 1) (expression_limit + 1)
