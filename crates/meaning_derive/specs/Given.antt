-- What derivation is given: sources as they may be, and outcomes that fit their calls, of a table
-- of tools or kept ones.
use Rattle.std.specs.Prelude.{◌≡◌, ◌≤◌, length, Some}
use Rattle.object_values.specs.declared.calls.Call.{Call}
use Rattle.object_values.specs.declared.calls.Outcome.{Outcome}
use Rattle.object_values.specs.declared.jobs.Job.{Job}
use Rattle.object_values.specs.declared.jobs.Raw.{Raw}
use Rattle.meaning_texts.specs.Classes.{IsName}
use Rattle.meaning_texts.specs.Limits.{body_limit}
use Rattle.meaning_calls.specs.Jobs.{job_of}
use Rattle.meaning_calls.specs.Outcomes.{outcome_of, OutcomeFits}
use Rattle.meaning_graph.specs.Graphs.{Text}
use Rattle.meaning_derive.specs.Derive.{Sources, text_of, Outcomes}

-- a source has a name of its class, and no longer text than the limit
pub record IsSource (name text : Text) : Type 0 where
  pub named : IsName name
  pub short : length text ≤ body_limit

abbrev pub AreSources : Sources → Type 0
AreSources s = (name text : Text) → text_of s name ≡ Some text → IsSource name text

abbrev pub OutcomesFit : Outcomes → Type 0
OutcomesFit outcomes = (call : Call) (o : Outcome) → outcomes call ≡ Some o → OutcomeFits call o

-- The table of the tools gives what comes of each job, and so each call has an outcome.
abbrev pub table_outcomes : (Job → Raw) → Outcomes
table_outcomes table call = Some (outcome_of call (table (job_of call)))
