-- Calls that are well formed, and the job of a call: the words, the files that the tool finds, and
-- those that it leaves.
use Rattle.std.specs.Prelude.{◌≢◌, ℕ, ◌+◌, ◌<◌, ◌≤◌, List, [], ◌∷◌, ◌++◌, length, map, Option, Some, None, IfSome, codes, decimal}
use Rattle.std.specs.List.{flat_map, All}
use Rattle.object_values.specs.declared.nodes.ParamValue.{ParamValue}
use Rattle.object_values.specs.declared.calls.CallPart.{CallPart}
use Rattle.object_values.specs.declared.calls.Call.{Call}
use Rattle.object_values.specs.declared.jobs.FileBody.{FileBody}
use Rattle.object_values.specs.declared.jobs.Job.{Job}
use Rattle.meaning_texts.specs.Classes.{IsId, IsWord}
use Rattle.meaning_texts.specs.Expressions.{IsParamOfClass}
use Rattle.meaning_texts.specs.Limits.{body_limit, slot_bound}
use Rattle.meaning_texts.specs.Lines.{with_lf}

-- ---- well formed calls

-- neither a space nor an LF
abbrev pub IsLabel : List ℕ → Type 0
IsLabel = All (λ b. (b ≢ 32) × (b ≢ 10))

-- a slot is a number of 32 bits, and a body no longer than the limit
pub record IsPartOfClass (part : CallPart) : Type 0 where
  pub slot : part.slot < slot_bound
  pub label : IsLabel part.label
  pub body : IfSome part.body (λ (body : List ℕ). length body ≤ body_limit)

pub record IsWellFormed (call : Call) : Type 0 where
  pub tool : IsId call.tool
  pub version : IsWord call.version
  pub params : All IsParamOfClass call.params
  pub parts : All IsPartOfClass call.parts
  pub outs : All IsId call.outs

-- ---- the file `call`

abbrev pub tool_line : Call → List ℕ
tool_line call = codes "tool " ++ (call.tool ++ 32 ∷ call.version)

-- an empty value leaves the space before it
abbrev pub param_line : ParamValue → List ℕ
param_line p = codes "param " ++ (p.param ++ 32 ∷ p.value)

-- `i` and the number
abbrev pub body_name : ℕ → List ℕ
body_name number = 105 ∷ decimal number

-- the file of a part, or `-` where it is absent
abbrev pub part_file : ℕ → Option (List ℕ) → List ℕ
part_file number None = codes "-"
part_file number (Some body) = body_name number

abbrev pub part_line : ℕ → CallPart → List ℕ
part_line number part =
    codes "part " ++ (decimal part.slot ++ 32 ∷ (part_file number part.body ++ 32 ∷ part.label))

-- one line for each part, numbered from the number on
abbrev pub part_lines : ℕ → List CallPart → List (List ℕ)
part_lines number [] = []
part_lines number (part ∷ rest) = part_line number part ∷ part_lines (number + 1) rest

abbrev pub out_file : List ℕ → List ℕ
out_file name = codes "out." ++ name

abbrev pub out_line : List ℕ → List ℕ
out_line name = codes "out " ++ out_file name

abbrev pub call_lines : Call → List (List ℕ)
call_lines call =
    codes "odin 1" ∷ tool_line call
    ∷ (map param_line call.params ++ (part_lines 1 call.parts ++ map out_line call.outs))

abbrev pub call_text : Call → List ℕ
call_text call = flat_map with_lf (call_lines call)

-- ---- the job

abbrev pub put_file : ℕ → Option (List ℕ) → List FileBody → List FileBody
put_file number None rest = rest
put_file number (Some body) rest = record { name = body_name number; body = body } ∷ rest

-- the files of the parts that have a body, numbered from the number on
abbrev pub body_files : ℕ → List CallPart → List FileBody
body_files number [] = []
body_files number (part ∷ rest) = put_file number part.body (body_files (number + 1) rest)

-- the file of the messages
abbrev pub warnings_file : List ℕ
warnings_file = codes "warnings"

unfoldable pub job_of : Call → Job
job_of call = record {
  words = call.words;
  files = record { name = codes "call"; body = call_text call } ∷ body_files 1 call.parts;
  outs = warnings_file ∷ map out_file call.outs;
}
