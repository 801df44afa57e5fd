-- What a toy tool leaves of a job.
use Rattle.std.specs.Prelude.{ℕ, ◌-◌, List, [], ◌∷◌, ◌++◌, length, Option, Some, None, bytes_eq, codes, slice_get, if◌then◌else◌}
use Rattle.object_values.specs.declared.jobs.End.{End}
use Rattle.object_values.specs.declared.jobs.End.TheVariants.{Exit}
use Rattle.object_values.specs.declared.jobs.FileBody.{FileBody}
use Rattle.object_values.specs.declared.jobs.Job.{Job}
use Rattle.object_values.specs.declared.jobs.Raw.{Raw}
use Rattle.meaning_calls.specs.Jobs.{warnings_file}
use Rattle.odin_memory.specs.Programs.{scan_output, ld_output, cc_output, cc_warnings, directive, end_of, leaves_output}

-- the output has the last of the names that are read, and there is none without a name
abbrev pub output_name : List (List ℕ) → Option (List ℕ)
output_name outs = slice_get outs (length outs - 1)

abbrev pub output_file : Option (List ℕ) → List ℕ → List FileBody
output_file None body = []
output_file (Some name) body = record { name = name; body = body } ∷ []

-- and is added to what a tool leaves
abbrev pub with_output : Job → List ℕ → Raw → Raw
with_output job output raw = record raw { files = raw.files ++ output_file (output_name job.outs) output }

-- the file of warnings, and then the output
abbrev pub left : End → List ℕ → List FileBody → Raw
left end warnings output = record { end = end; files = record { name = warnings_file; body = warnings } ∷ output }

abbrev pub scan_raw : Job → Raw
scan_raw job = left (Exit 0) [] (output_file (output_name job.outs) (scan_output job.files))

abbrev pub ld_raw : Job → Raw
ld_raw job = left (Exit 0) [] (output_file (output_name job.outs) (ld_output job.files))

abbrev pub cc_raw : Job → Raw
cc_raw job = left (end_of (directive job.files)) (cc_warnings job.files)
    (if leaves_output (directive job.files) then output_file (output_name job.outs) (cc_output job.files) else [])

-- any other program
abbrev pub unknown : Raw
unknown = record { end = Exit 127; files = [] }

abbrev pub run_program : Option (List ℕ) → Job → Raw
run_program None job = unknown
run_program (Some word) job =
    if bytes_eq word (codes "scan") then scan_raw job
    else if bytes_eq word (codes "cc") then cc_raw job
    else if bytes_eq word (codes "ld") then ld_raw job
    else unknown

-- the first word chooses the tool
unfoldable pub toy_raw : Job → Raw
toy_raw job = run_program (slice_get job.words 0) job
