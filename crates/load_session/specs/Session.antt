-- The commands of a load, one after another: headers, units and the list of the units are put, the program of the units is asked for, a header is
-- edited and edited back, and the program is asked for again each time.
use Rattle.std.specs.Prelude.{ℕ, ◌+◌, ◌-◌, ◌%◌, List, [], ◌∷◌, ◌++◌, map, decimal, codes}
use Rattle.std.specs.List.{range_with_len, flat_map}
use Rattle.meaning_texts.specs.Lines.{with_lf}
use Rattle.meaning_graph.specs.Graphs.{Text}

-- a source gets a text, or the program is asked for
pub data LoadStep : Type 0 where
  puts : Text → Text → LoadStep
  asks : LoadStep

-- ---- names and texts

abbrev pub header_name : ℕ → Text
header_name number = codes "h" ++ decimal number ++ codes ".h"

abbrev pub header_text : ℕ → ℕ → Text
header_text number value = with_lf (codes "w" ++ decimal number ++ codes "=" ++ decimal value)

abbrev pub unit_name : ℕ → Text
unit_name number = codes "u" ++ decimal number ++ codes ".c"

-- how many headers there are, and the number of the one that a unit includes: units take them in turn
abbrev pub headers : ℕ
headers = 12

abbrev pub header_of : ℕ → ℕ
header_of number = (number - 1) % headers + 1

abbrev pub unit_text : ℕ → Text
unit_text number = with_lf (codes "include " ++ header_name (header_of number)) ++ with_lf (codes "v" ++ decimal number ++ codes "=1")

abbrev pub list_name : Text
list_name = codes "m.sm"

abbrev pub list_text : ℕ → Text
list_text units = flat_map (λ number. with_lf (unit_name number)) (range_with_len 1 units)

-- the program of the listed units
abbrev pub asked_text : Text
asked_text = codes "m.sm:exe"

-- ---- steps

abbrev pub puts_header : ℕ → ℕ → LoadStep
puts_header value number = puts (header_name number) (header_text number value)

abbrev pub puts_unit : ℕ → LoadStep
puts_unit number = puts (unit_name number) (unit_text number)

abbrev pub puts_list : ℕ → LoadStep
puts_list units = puts list_name (list_text units)

-- these headers or units, from the first one on
abbrev pub header_steps : ℕ → List LoadStep
header_steps count = map (puts_header 1) (range_with_len 1 count)

abbrev pub unit_steps : ℕ → List LoadStep
unit_steps units = map puts_unit (range_with_len 1 units)

-- all sources, and the first ask
abbrev pub first_steps : ℕ → List LoadStep
first_steps units = header_steps headers ++ unit_steps units ++ puts_list units ∷ asks ∷ []

-- the first header gets this value, and the program is asked for
abbrev pub edit_steps : ℕ → List LoadStep
edit_steps value = puts_header value 1 ∷ asks ∷ []

abbrev pub load_steps : ℕ → List LoadStep
load_steps units = first_steps units ++ edit_steps 2 ++ edit_steps 1
