-- Worked examples of the definitions of calls.
use Rattle.std.specs.Prelude.{◌≡◌, ℕ, ◌++◌, List, [], ◌∷◌, length, replicate, Option, Some, None, codes}
use Rattle.object_values.specs.declared.messages.Status.{Status}
use Rattle.object_values.specs.declared.messages.Status.TheVariants.{Ok, Warning, Error, Abort}
use Rattle.object_values.specs.declared.nodes.ParamValue.{ParamValue}
use Rattle.object_values.specs.declared.views.Part.{Part}
use Rattle.object_values.specs.declared.calls.CallPart.{CallPart}
use Rattle.object_values.specs.declared.calls.Call.{Call}
use Rattle.object_values.specs.declared.calls.OwnLine.{OwnLine}
use Rattle.object_values.specs.declared.calls.Outcome.{Outcome}
use Rattle.object_values.specs.declared.jobs.End.{End}
use Rattle.object_values.specs.declared.jobs.End.TheVariants.{Exit, Signal}
use Rattle.object_values.specs.declared.jobs.FileBody.{FileBody}
use Rattle.object_values.specs.declared.jobs.Job.{Job}
use Rattle.object_values.specs.declared.jobs.Raw.{Raw}
use Rattle.std.specs.List.{flat_map}
use Rattle.meaning_texts.specs.Lines.{with_lf}
use Rattle.meaning_calls.specs.Jobs.{job_of}
use Rattle.meaning_calls.specs.Outcomes.{message_lines, outcome_of}

abbrev pub ex_call_part : ℕ → List ℕ → Option (List ℕ) → CallPart
ex_call_part slot label body = record { slot = slot; label = label; body = body }

-- a call of cc with these inputs
abbrev pub cc_call : List CallPart → Call
cc_call parts = record {
  tool = codes "cc";
  version = codes "1";
  words = codes "cc" ∷ [];
  params = [];
  parts = parts;
  outs = codes "o" ∷ [];
}

abbrev pub ex_file_body : List ℕ → List ℕ → FileBody
ex_file_body name body = record { name = name; body = body }

-- a job of cc
abbrev pub cc_job : List FileBody → Job
cc_job files =
    record { words = codes "cc" ∷ []; files = files; outs = codes "warnings" ∷ codes "out.o" ∷ [] }

-- a source with two headers that include each other
abbrev pub loop_call : Call
loop_call = cc_call
    (ex_call_part 0 (codes "a.c") (Some (codes "include a.h\nx=1\n"))
    ∷ ex_call_part 1 (codes "a.h") (Some (codes "include b.h\ny=2\n"))
    ∷ ex_call_part 1 (codes "b.h") (Some (codes "include a.h\nz=3\n")) ∷ [])

abbrev pub loop_files : List FileBody
loop_files =
    ex_file_body (codes "call")
    (codes "odin 1\ntool cc 1\npart 0 i1 a.c\npart 1 i2 a.h\npart 1 i3 b.h\nout out.o\n")
    ∷ ex_file_body (codes "i1") (codes "include a.h\nx=1\n")
    ∷ ex_file_body (codes "i2") (codes "include b.h\ny=2\n")
    ∷ ex_file_body (codes "i3") (codes "include a.h\nz=3\n") ∷ []

-- a source with a header that isn't there
abbrev pub absent_call : Call
absent_call =
    cc_call
    (ex_call_part 0 (codes "a.c") (Some (codes "x=1\n")) ∷ ex_call_part 1 (codes "x.h") None
    ∷ ex_call_part 2 (codes "b.h") (Some []) ∷ [])

abbrev pub absent_files : List FileBody
absent_files =
    ex_file_body (codes "call")
    (codes "odin 1\ntool cc 1\npart 0 i1 a.c\npart 1 - x.h\npart 2 i3 b.h\nout out.o\n")
    ∷ ex_file_body (codes "i1") (codes "x=1\n") ∷ ex_file_body (codes "i3") [] ∷ []

abbrev pub value_of_d : List ℕ → ParamValue
value_of_d value = record { param = codes "d"; value = value }

-- a tool with parameters and two outputs
abbrev pub params_call : Call
params_call = record {
  tool = codes "t";
  version = codes "2.0";
  words = codes "a b" ∷ [];
  params = value_of_d [] ∷ value_of_d (codes "x") ∷ [];
  parts = [];
  outs = codes "p" ∷ codes "q" ∷ [];
}

abbrev pub params_text : List ℕ
params_text = codes "odin 1\ntool t 2.0\nparam d \nparam d x\nout out.p\nout out.q\n"

abbrev pub params_job : Job
params_job = record {
  words = codes "a b" ∷ [];
  files = ex_file_body (codes "call") params_text ∷ [];
  outs = codes "warnings" ∷ codes "out.p" ∷ codes "out.q" ∷ [];
}

pub record JobsOfCalls : Type 0 where
  pub loop : job_of loop_call ≡ cc_job loop_files
  pub absent : job_of absent_call ≡ cc_job absent_files
  -- an empty value leaves the space before it
  pub params : job_of params_call ≡ params_job

abbrev pub left_by : End → List FileBody → Raw
left_by end files = record { end = end; files = files }

abbrev pub ex_own_line : Status → List ℕ → OwnLine
ex_own_line level text = record { level = level; text = text }

abbrev pub ex_outcome : Status → List OwnLine → List Part → Outcome
ex_outcome status lines outputs = record { status = status; lines = lines; outputs = outputs }

abbrev pub ex_output : List ℕ → List ℕ → Part
ex_output name body = record { name = name; body = body }

-- the output `o` with this body
abbrev pub object_file : List ℕ → FileBody
object_file body = ex_file_body (codes "out.o") body

-- the ends of cc over one input
pub record EndsOfATool : Type 0 where
  pub signal : outcome_of (cc_call []) (left_by Signal (ex_file_body (codes "warnings") [] ∷ []))
      ≡ ex_outcome Abort (ex_own_line Abort (codes "tool cc ended by a signal") ∷ []) []
  pub error : outcome_of (cc_call [])
      (left_by (Exit 1) (ex_file_body (codes "warnings") [] ∷ object_file (codes "x=1\n") ∷ []))
      ≡ ex_outcome Error [] (ex_output (codes "o") (codes "x=1\n") ∷ [])
  pub missing : outcome_of (cc_call []) (left_by (Exit 0) (ex_file_body (codes "warnings") [] ∷ []))
      ≡ ex_outcome Abort (ex_own_line Abort (codes "no output o") ∷ []) []
  pub ok : outcome_of (cc_call []) (left_by (Exit 0) (object_file [] ∷ []))
      ≡ ex_outcome Ok [] (ex_output (codes "o") [] ∷ [])
  pub warning : outcome_of (cc_call [])
      (left_by (Exit 0) (ex_file_body (codes "warnings") (codes "old\n\nnew") ∷ object_file [] ∷ []))
      ≡ ex_outcome Warning (ex_own_line Warning (codes "old") ∷ ex_own_line Warning (codes "new") ∷ [])
      (ex_output (codes "o") [] ∷ [])
  pub status : outcome_of (cc_call [])
      (left_by (Exit 255) (ex_file_body (codes "warnings") (codes "a\n") ∷ object_file [] ∷ []))
      ≡ ex_outcome Abort
      (ex_own_line Abort (codes "a") ∷ ex_own_line Abort (codes "tool cc ended with status 255") ∷ []) []

-- what the tool leaves beside its end: lines keep the level of the end where an output is missing,
-- the first file of a name counts, and a CR without an LF is a line
pub record FilesOfATool : Type 0 where
  pub levels : outcome_of (cc_call []) (left_by (Exit 1) (ex_file_body (codes "warnings") (codes "a") ∷ []))
      ≡ ex_outcome Abort (ex_own_line Error (codes "a") ∷ ex_own_line Abort (codes "no output o") ∷ []) []
  pub first : outcome_of (cc_call [])
      (left_by (Exit 0) (object_file (codes "1") ∷ object_file (codes "2") ∷ ex_file_body (codes "out.p") []
      ∷ []))
      ≡ ex_outcome Ok [] (ex_output (codes "o") (codes "1") ∷ [])
  pub cr : outcome_of (cc_call [])
      (left_by (Exit 0) (ex_file_body (codes "warnings") (13 ∷ []) ∷ object_file [] ∷ []))
      ≡ ex_outcome Warning (ex_own_line Warning (13 ∷ []) ∷ []) (ex_output (codes "o") [] ∷ [])
  pub crlf : outcome_of (cc_call [])
      (left_by (Exit 0) (ex_file_body (codes "warnings") (13 ∷ 10 ∷ []) ∷ object_file [] ∷ []))
      ≡ ex_outcome Ok [] (ex_output (codes "o") [] ∷ [])

-- a body of one byte too much, and of the most bytes
pub record LongOutputs : Type 0 where
  pub too_long : (body : List ℕ) → length body ≡ 16777217
      → outcome_of (cc_call []) (left_by (Exit 0) (object_file body ∷ []))
      ≡ ex_outcome Abort (ex_own_line Abort (codes "output o too long") ∷ []) []
  pub longest : (body : List ℕ) → length body ≡ 16777216
      → outcome_of (cc_call []) (left_by (Exit 0) (object_file body ∷ []))
      ≡ ex_outcome Ok [] (ex_output (codes "o") body ∷ [])

-- of a line of 1,001 bytes the first 1,000 count, and of 1,001 lines the first 1,000
pub record LongWarnings : Type 0 where
  pub bytes : message_lines (replicate 1001 97 ++ 10 ∷ []) ≡ replicate 1000 97 ∷ []
  pub lines : message_lines (flat_map with_lf (replicate 1001 (97 ∷ []))) ≡ replicate 1000 (97 ∷ [])

-- a call with two outputs
abbrev pub two_outputs : Call
two_outputs = record {
  tool = codes "t";
  version = codes "1";
  words = codes "t" ∷ [];
  params = [];
  parts = [];
  outs = codes "p" ∷ codes "q" ∷ [];
}

-- what is wrong with outputs stands in their order, after the lines, and then no output stays
pub record SeveralOutputs : Type 0 where
  pub both : outcome_of two_outputs
      (left_by (Exit 0) (ex_file_body (codes "out.q") (codes "2") ∷ ex_file_body (codes "out.p") (codes "1") ∷ []))
      ≡ ex_outcome Ok [] (ex_output (codes "p") (codes "1") ∷ ex_output (codes "q") (codes "2") ∷ [])
  pub neither : outcome_of two_outputs
      (left_by (Exit 0) (ex_file_body (codes "warnings") (codes "w\n") ∷ []))
      ≡ ex_outcome Abort
      (ex_own_line Warning (codes "w") ∷ ex_own_line Abort (codes "no output p")
      ∷ ex_own_line Abort (codes "no output q") ∷ []) []
  pub one : outcome_of two_outputs (left_by (Exit 1) (ex_file_body (codes "out.p") (codes "1") ∷ []))
      ≡ ex_outcome Abort (ex_own_line Abort (codes "no output q") ∷ []) []
  pub ended : outcome_of two_outputs
      (left_by (Exit 2) (ex_file_body (codes "out.p") (codes "1") ∷ ex_file_body (codes "out.q") (codes "2") ∷ []))
      ≡ ex_outcome Abort (ex_own_line Abort (codes "tool t ended with status 2") ∷ []) []
