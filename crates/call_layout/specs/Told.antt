-- What the file `call` tells of a call: what a reader keeps of it, and how it is read.
use Rattle.std.specs.Prelude.{ℕ, ◌+◌, Bool, true, false, ◌==◌, List, [], ◌∷◌, ◌++◌, length, take, drop, map, Option, Some, None, is_some, option_map, codes, bytes_eq, if◌then◌else◌}
use Rattle.std.specs.Option.{option_and_then}
use Rattle.object_values.specs.declared.calls.CallPart.{CallPart}
use Rattle.object_values.specs.declared.calls.Call.{Call}
use Rattle.meaning_texts.specs.Lines.{LineCut, cut_lines}
use Rattle.meaning_calls.specs.Jobs.{body_name, out_file}
use Rattle.call_layout.specs.declared.told.PartTold.{PartTold}
use Rattle.call_layout.specs.declared.told.CallTold.{CallTold}

-- ---- what a reader keeps of a call

abbrev pub part_told : CallPart → PartTold
part_told part = record { is_there = is_some part.body; label = part.label }

abbrev pub call_told : Call → CallTold
call_told call = record { parts = map part_told call.parts; outs = map out_file call.outs }

-- ---- one line

-- what stands after the first bytes, where these are the first
abbrev pub after_front : List ℕ → List ℕ → Option (List ℕ)
after_front front line =
    if bytes_eq (take (length front) line) front then Some (drop (length front) line) else None

-- what stands before the first space, and after it
abbrev pub cut_word : List ℕ → Option (List ℕ × List ℕ)
cut_word [] = None
cut_word (b ∷ rest) =
    if b == 32 then Some ([], rest) else option_map (λ cut. (b ∷ cut.0, cut.1)) (cut_word rest)

-- whether the part of this number is there, by the word for its file
abbrev pub is_there : ℕ → List ℕ → Option Bool
is_there number file =
    if bytes_eq file (codes "-") then Some false
    else if bytes_eq (body_name number) file then Some true
    else None

-- the part, by its file and its label
abbrev pub part_of : ℕ → List ℕ × List ℕ → Option PartTold
part_of number words =
    option_map (λ says. record { is_there = says; label = words.1 }) (is_there number words.0)

-- by the words after `part `, of which the first is the slot
abbrev pub read_part : ℕ → List ℕ → Option PartTold
read_part number text =
    option_and_then (λ slot. option_and_then (part_of number) (cut_word slot.1)) (cut_word text)

abbrev pub with_part : CallTold → PartTold → CallTold
with_part told part = record { parts = told.parts ++ part ∷ []; outs = told.outs }

abbrev pub with_out : CallTold → List ℕ → CallTold
with_out told name = record { parts = told.parts; outs = told.outs ++ name ∷ [] }

abbrev pub put_part : List ℕ → CallTold → Option CallTold
put_part text told = option_map (with_part told) (read_part (length told.parts + 1) text)

-- a line that tells neither of a part nor of an output is passed over
abbrev pub put_out : CallTold → Option (List ℕ) → CallTold
put_out told None = told
put_out told (Some name) = with_out told name

abbrev pub put_by_kind : List ℕ → CallTold → Option (List ℕ) → Option CallTold
put_by_kind line told None = Some (put_out told (after_front (codes "out ") line))
put_by_kind line told (Some text) = put_part text told

abbrev pub put_line : List ℕ → CallTold → Option CallTold
put_line line told = put_by_kind line told (after_front (codes "part ") line)

-- ---- the text

abbrev pub nothing_told : CallTold
nothing_told = record { parts = []; outs = [] }

abbrev pub then_lines : (CallTold → Option CallTold) → Option CallTold → Option CallTold
then_lines next None = None
then_lines next (Some told) = next told

abbrev pub put_lines : List (List ℕ) → CallTold → Option CallTold
put_lines [] told = Some told
put_lines (line ∷ lines) told = then_lines (put_lines lines) (put_line line told)

-- a text that ends in the midst of a line is none
abbrev pub if_whole : List ℕ → Option CallTold → Option CallTold
if_whole [] told = told
if_whole (b ∷ rest) told = None

abbrev pub read_cut : CallTold → LineCut → Option CallTold
read_cut told cut = if_whole cut.last (put_lines cut.full told)

abbrev pub read_text : CallTold → List ℕ → Option CallTold
read_text told text = read_cut told (cut_lines text)

abbrev pub read_headed : Option (List ℕ) → Option CallTold
read_headed None = None
read_headed (Some text) = read_text nothing_told text

-- the first line is `odin 1`
abbrev pub read_call : List ℕ → Option CallTold
read_call text = read_headed (after_front (codes "odin 1\n") text)
