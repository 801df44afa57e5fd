-- What the toy tools read: lines, and the files of their jobs.
use Rattle.std.specs.Prelude.{ℕ, Bool, false, not, ◌&&◌, ◌==◌, List, [], ◌∷◌, ◌++◌, length, map, take, drop, filter, unwrap_or, bytes_eq, codes}
use Rattle.std.specs.List.{list_all}
use Rattle.object_values.specs.declared.jobs.FileBody.{FileBody}
use Rattle.meaning_texts.specs.Classes.{is_digit}
use Rattle.meaning_texts.specs.Lines.{cut_lines, last_line}
use Rattle.meaning_calls.specs.Outcomes.{file_in}

-- ---- lines

-- the lines of a text, cut at LF: a last one without LF counts, an empty one after the last LF doesn't
unfoldable pub lines : List ℕ → List (List ℕ)
lines text = (cut_lines text).full ++ last_line (cut_lines text).last

abbrev pub begins_with : List ℕ → List ℕ → Bool
begins_with front line = bytes_eq (take (length front) line) front

-- the line without so many bytes at its front
abbrev pub line_after : List ℕ → List ℕ → List ℕ
line_after front line = drop (length front) line

-- ---- files

-- a number from 1, without leading zeros
abbrev pub is_number_from_one : List ℕ → Bool
is_number_from_one [] = false
is_number_from_one (digit ∷ digits) = not (digit == 48) && list_all is_digit (digit ∷ digits)

-- `i` and such a number
abbrev pub is_input_name : List ℕ → Bool
is_input_name [] = false
is_input_name (b ∷ number) = b == 105 && is_number_from_one number

-- the input files, in the order in which they stand
abbrev pub inputs : List FileBody → List (List ℕ)
inputs files = map (λ (file : FileBody). file.body) (filter (λ (file : FileBody). is_input_name file.name) files)

-- the lines of the first file of that name, none where there is no such file
abbrev pub lines_of_file : List ℕ → List FileBody → List (List ℕ)
lines_of_file name files = lines (unwrap_or (file_in name files) [])

abbrev pub first_input : List ℕ
first_input = codes "i1"
