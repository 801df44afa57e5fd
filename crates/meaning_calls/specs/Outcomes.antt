-- The outcome of a call, from the end of the tool and the files that it left; and the outcomes that
-- fit a call.
use Rattle.std.specs.Prelude.{◌≡◌, ◌≢◌, ℕ, suc, zero, ◌≤◌, ◌⊎◌, Bool, not, nat_lt, List, [], ◌∷◌, ◌++◌, length, map, take, filter, Option, Some, None, unwrap_or, codes, decimal, bytes_eq, if◌then◌else◌}
use Rattle.std.specs.List.{flat_map, All}
use Rattle.object_values.specs.declared.messages.Status.{Status}
use Rattle.object_values.specs.declared.messages.Status.TheVariants.{Ok, Warning, Error, Abort}
use Rattle.object_values.specs.declared.views.Part.{Part}
use Rattle.object_values.specs.declared.calls.Call.{Call}
use Rattle.object_values.specs.declared.calls.OwnLine.{OwnLine}
use Rattle.object_values.specs.declared.calls.Outcome.{Outcome}
use Rattle.object_values.specs.declared.jobs.End.{End}
use Rattle.object_values.specs.declared.jobs.End.TheVariants.{Exit, Signal}
use Rattle.object_values.specs.declared.jobs.FileBody.{FileBody}
use Rattle.object_values.specs.declared.jobs.Raw.{Raw}
use Rattle.meaning_texts.specs.Lists.{is_empty}
use Rattle.meaning_texts.specs.Limits.{body_limit, message_limit, message_length}
use Rattle.meaning_texts.specs.Lines.{warning_lines}
use Rattle.meaning_calls.specs.Jobs.{out_file, warnings_file}

-- ---- what the tool left

-- the body of the first file of that name
abbrev pub file_in : List ℕ → List FileBody → Option (List ℕ)
file_in name [] = None
file_in name (file ∷ rest) = if bytes_eq file.name name then Some file.body else file_in name rest

-- a missing file `warnings` counts as empty
abbrev pub warnings_of : Raw → List ℕ
warnings_of raw = unwrap_or (file_in warnings_file raw.files) []

abbrev pub has_byte : List ℕ → Bool
has_byte line = not (is_empty line)

-- the lines of `warnings` that count, as far as they count
unfoldable pub message_lines : List ℕ → List (List ℕ)
message_lines warnings =
    map (take message_length) (take message_limit (filter has_byte (warning_lines warnings)))

abbrev pub at_level : Status → List ℕ → OwnLine
at_level level text = record { level = level; text = text }

-- ---- outputs

abbrev pub missing_text : List ℕ → List ℕ
missing_text name = codes "no output " ++ name

abbrev pub too_long_text : List ℕ → List ℕ
too_long_text name = codes "output " ++ (name ++ codes " too long")

-- what is wrong with an output
abbrev pub output_fault : List ℕ → Option (List ℕ) → List (List ℕ)
output_fault name None = missing_text name ∷ []
output_fault name (Some body) =
    if nat_lt body_limit (length body) then too_long_text name ∷ [] else []

abbrev pub output_faults : Raw → List (List ℕ) → List (List ℕ)
output_faults raw outs =
    flat_map (λ name. output_fault name (file_in (out_file name) raw.files)) outs

abbrev pub output_of : Raw → List ℕ → Part
output_of raw name = record { name = name; body = unwrap_or (file_in (out_file name) raw.files) [] }

-- ---- the outcome

-- the messages of the tool, and what is wrong with its outputs: if nothing is, the outputs stand
abbrev pub ended_well : Call → Raw → Status → List OwnLine → List (List ℕ) → Outcome
ended_well call raw status lines [] =
    record { status = status; lines = lines; outputs = map (output_of raw) call.outs }
ended_well call raw status lines (fault ∷ more) =
    record { status = Abort; lines = lines ++ map (at_level Abort) (fault ∷ more); outputs = [] }

-- the messages of the tool, and how it ended
abbrev pub ended_badly : List (List ℕ) → List ℕ → Outcome
ended_badly lines how =
    record { status = Abort; lines = map (at_level Abort) (lines ++ how ∷ []); outputs = [] }

abbrev pub status_text : Call → ℕ → List ℕ
status_text call status =
    codes "tool " ++ (call.tool ++ (codes " ended with status " ++ decimal status))

abbrev pub signal_text : Call → List ℕ
signal_text call = codes "tool " ++ (call.tool ++ codes " ended by a signal")

-- at exit 0: `Ok` without messages, and `Warning` with them
abbrev pub status_at_zero : List (List ℕ) → Status
status_at_zero [] = Ok
status_at_zero (line ∷ more) = Warning

-- the outcome at an exit status
abbrev pub exit_outcome : Call → Raw → List (List ℕ) → ℕ → Outcome
exit_outcome call raw lines zero =
    ended_well call raw (status_at_zero lines) (map (at_level Warning) lines)
    (output_faults raw call.outs)
exit_outcome call raw lines (suc zero) =
    ended_well call raw Error (map (at_level Error) lines) (output_faults raw call.outs)
exit_outcome call raw lines (suc (suc n)) = ended_badly lines (status_text call (suc (suc n)))

abbrev pub end_outcome : Call → Raw → List (List ℕ) → End → Outcome
end_outcome call raw lines (Exit status) = exit_outcome call raw lines status
end_outcome call raw lines Signal = ended_badly lines (signal_text call)

unfoldable pub outcome_of : Call → Raw → Outcome
outcome_of call raw = end_outcome call raw (message_lines (warnings_of raw)) raw.end

-- ---- outcomes that fit

-- At `Abort` there are no outputs, else there are those of the call in order; and none is too long.
pub record OutcomeFits (call : Call) (outcome : Outcome) : Type 0 where
  pub outputs : ((outcome.status ≡ Abort) × (outcome.outputs ≡ []))
      ⊎ ((outcome.status ≢ Abort) × (map (λ (p : Part). p.name) outcome.outputs ≡ call.outs))
  pub short : All (λ (p : Part). length p.body ≤ body_limit) outcome.outputs
