-- What each toy tool makes of its files.
use Rattle.std.specs.Prelude.{ℕ, zero, suc, Bool, not, ◌||◌, List, [], ◌∷◌, ◌++◌, bytes_eq, codes, decimal, if◌then◌else◌}
use Rattle.std.specs.List.{flat_map, list_any}
use Rattle.object_values.specs.declared.jobs.End.{End}
use Rattle.object_values.specs.declared.jobs.End.TheVariants.{Exit, Signal}
use Rattle.object_values.specs.declared.jobs.FileBody.{FileBody}
use Rattle.meaning_texts.specs.Lines.{with_lf}
use Rattle.odin_memory.specs.Inputs.{lines, begins_with, line_after, inputs, lines_of_file, first_input}

-- ---- scan

-- what an include line names
abbrev pub included : List ℕ → List ℕ
included line = if begins_with (codes "include ") line then with_lf (line_after (codes "include ") line) else []

abbrev pub scan_output : List FileBody → List ℕ
scan_output files = flat_map included (lines_of_file first_input files)

-- ---- ld

abbrev pub ld_output : List FileBody → List ℕ
ld_output files = flat_map (λ input. input) (inputs files)

-- ---- cc

-- `debug`, where the call has that parameter
abbrev pub debug_line : List (List ℕ) → List ℕ
debug_line call = if list_any (begins_with (codes "param debug ")) call then with_lf (codes "debug") else []

-- an include line, a comment or a directive
abbrev pub is_not_compiled : List ℕ → Bool
is_not_compiled line = begins_with (codes "include ") line || begins_with (codes "//") line || begins_with (codes "!") line

abbrev pub compiled : List ℕ → List ℕ
compiled line = if is_not_compiled line then [] else with_lf line

-- what a comment `//!` says
abbrev pub warned : List ℕ → List ℕ
warned line = if begins_with (codes "//!") line then with_lf (line_after (codes "//!") line) else []

-- what each line of each input gives
abbrev pub of_all_lines : (List ℕ → List ℕ) → List FileBody → List ℕ
of_all_lines each files = flat_map (λ input. flat_map each (lines input)) (inputs files)

-- what a text gives, and the inputs among files
abbrev pub compiled_text : List ℕ → List ℕ
compiled_text text = flat_map compiled (lines text)

abbrev pub warned_text : List ℕ → List ℕ
warned_text text = flat_map warned (lines text)

abbrev pub compiled_files : List FileBody → List ℕ
compiled_files files = of_all_lines compiled files

-- what a file gives, if it is an input
abbrev pub compiled_file : FileBody → List ℕ
compiled_file file = of_all_lines compiled (file ∷ [])

abbrev pub warned_file : FileBody → List ℕ
warned_file file = of_all_lines warned (file ∷ [])

abbrev pub debug_of : List FileBody → List ℕ
debug_of files = debug_line (lines_of_file (codes "call") files)

abbrev pub cc_output : List FileBody → List ℕ
cc_output files = debug_of files ++ compiled_files files

abbrev pub cc_warnings : List FileBody → List ℕ
cc_warnings files = of_all_lines warned files

-- ---- the directive of cc

-- the first line that begins with `!`, or nothing
abbrev pub first_directive : List (List ℕ) → List ℕ
first_directive [] = []
first_directive (line ∷ rest) = if begins_with (codes "!") line then line else first_directive rest

abbrev pub directive : List FileBody → List ℕ
directive files = first_directive (lines_of_file first_input files)

-- the number below the bound whose digits are the text, or 0 where there is none
unfoldable pub number_below : ℕ → List ℕ → ℕ
number_below zero text = 0
number_below (suc n) text = if bytes_eq (decimal n) text then n else number_below n text

-- any other directive than `!exit` of a status gives 0
abbrev pub directive_status : List ℕ → ℕ
directive_status line = if begins_with (codes "!exit ") line then number_below 256 (line_after (codes "!exit ") line) else 0

abbrev pub end_of : List ℕ → End
end_of line = if bytes_eq line (codes "!signal") then Signal else Exit (directive_status line)

abbrev pub leaves_output : List ℕ → Bool
leaves_output line = not (bytes_eq line (codes "!none"))
