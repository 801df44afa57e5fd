-- A session of a load between two steps.
use Rattle.std.specs.Prelude.{◌≡◌, ◌+◌, ◌^◌, ◌<◌, ◌≤◌, ℕ, List, [], ◌∷◌, length}
use Rattle.odin_memory.specs.File.{image_of}
use Rattle.odin_memory.specs.Tools as tools
use Rattle.meaning_records.specs.Tables.{Calls}
use Rattle.object_values.specs.declared.replies.Reply.{Reply}
use Rattle.odin_journal.specs.declared.fault.JournalFault.{JournalFault}
use Rattle.kept_derive.specs.Calls.{IsIdle}
use Rattle.kept_derive.specs.Knowing.{KnowsStore}
use Rattle.kept_derive.specs.Runs.{at}
use Rattle.load_session.specs.declared.session.Session.{Session}
use Rattle.load_session.specs.declared.asked.Asked.{Asked}
use Rattle.load_session.specs.Session.{LoadStep}
use Rattle.load_session.specs.Served.{Moment, ServesSteps, StepsStopFor, shown_length}
use Rattle.load_session.specs.Loads.{LoadIsOpened}

abbrev pub moment : Session → Moment
moment session = at session.engine.store session.disk (tools.tools_view session.tools)

-- the calls that are kept
abbrev pub session_calls : Session → Calls
session_calls session = session.engine.store.kept.tables.calls

-- One tool may run at a time, and none runs; the store can be changed, what it keeps of nodes is known, and as many tools were started as calls are kept.
pub record IsAtRest (session : Session) : Type 0 where
  pub jobs : session.engine.jobs ≡ 1
  pub idle : IsIdle session.engine.store (length (image_of session.disk.file)) (tools.tools_view session.tools)
  pub knows : KnowsStore session.engine.graph session.engine.store
  pub counted : session.tools.starts ≡ length (session_calls session)

-- And so many more edits are counted.
pub record MayServeSteps (more : ℕ) (session : Session) : Type 0 where
  pub rests : IsAtRest session
  pub early : session.engine.store.epoch + more < 2 ^ 63

-- It was opened just now.
pub record SessionIsNew (session : Session) : Type 0 where
  pub opened : LoadIsOpened session.engine.graph (moment session)
  pub rests : IsAtRest session
  pub none_kept : session_calls session ≡ []
  pub first : session.engine.store.epoch ≡ 0

-- These steps were served.
pub record HasServed (old : Session) (steps : List LoadStep) (answers : List (Calls × Reply)) (new : Session) : Type 0 where
  pub graph : new.engine.graph ≡ old.engine.graph
  pub serves : ServesSteps old.engine.graph (moment old) steps answers (moment new)
  pub rests : IsAtRest new
  pub epoch : new.engine.store.epoch ≤ old.engine.store.epoch + length steps

-- The last of them was an ask, the only one, and this is noted of it.
pub record HasAsked (old : Session) (steps : List LoadStep) (new : Session) (asked : Asked) : Type 0 where
  pub given : Calls
  pub reply : Reply
  pub served : HasServed old steps ((given, reply) ∷ []) new
  pub starts : asked.starts ≡ length given
  pub length_is : asked.length ≡ shown_length reply
  pub kept : asked.kept ≡ length (session_calls new)

-- They were stopped for this fault.
abbrev pub LoadStopsFor : Session → List LoadStep → JournalFault → Type 0
LoadStopsFor session steps = StepsStopFor session.engine.graph (moment session) steps
