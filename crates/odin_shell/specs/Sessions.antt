-- The words of streams for a session: what goes on, where it stops, how its input ends.
use Rattle.std.specs.Prelude.{◌≡◌, ℕ, false, List, [], Option}
use Rattle.meaning_commands.specs.Commands.{ends_run}
use Rattle.odin_outside.specs.Spawned.{Spawned}
use Rattle.meaning_graph.specs.Graphs.{Text, Graph}
use Rattle.meaning_commands.specs.Machines as machines
use Rattle.meaning_commands.specs.Streams as streams
use Rattle.odin_store.specs.Held.{Held}
use Rattle.odin_engine.specs.Engaged.{Engaged}
use Rattle.odin_shell.specs.declared.whole.Whole.{Whole}
use Rattle.odin_shell.specs.declared.stop.Stop.{Stop}
use Rattle.odin_shell.specs.declared.session.Finish.{Finish}
use Rattle.odin_shell.specs.declared.session.Finish.TheVariants as finish
use Rattle.odin_shell.specs.declared.session.Session.{Session}
use Rattle.odin_shell.specs.Endings.{ending_of, EndingLeavesTools}
use Rattle.odin_outside.specs.declared.disk.Disk.{Ghosts as DiskView}
use Rattle.odin_shell.specs.Language.{commands}
use Rattle.odin_shell.specs.Held.{Keeps}
use Rattle.odin_shell.specs.Machine.{at_first, Told, machine, halt_of, told_with_stop}

-- It holds from whatever was held at first, over each graph, each text of it and each limit, and no tool runs.
pub record HoldsAtRest (P : Held → Graph → Text → ℕ → Type 0) (tools : Spawned) : Type 0 where
  pub over : (from : Held) (g : Graph) (text : Text) (limit : ℕ) → P from g text limit
  pub idle : tools.running ≡ []

-- It holds from whatever was held at first, over each graph, each text of it and each limit, and no tool runs but where what runs is left.
pub record HoldsAtHalt (P : Held → Graph → Text → ℕ → Type 0) (stop : Stop) (tools : Spawned) : Type 0 where
  pub over : (from : Held) (g : Graph) (text : Text) (limit : ℕ) → P from g text limit
  pub idle : ¬ EndingLeavesTools (ending_of stop) → tools.running ≡ []

module _ {Disk : Type 0} (disk : DiskView Disk) where
  -- A command is served, and the session goes on after it.
  pub record ServesInSession (code code' : Engaged) (whole : Whole) (told told' : Told Disk) : Type 0 where
    pub on : ends_run whole.command ≡ false
    pub rests : HoldsAtRest (λ from g text limit. machines.Serves commands (machine disk from g text limit) code code' whole.command whole.body told told') told'.tools

  abbrev pub StopsServingInSession : Stop → Engaged → Whole → Told Disk → Told Disk → Type 0
  StopsServingInSession stop code whole told told' =
      HoldsAtHalt (λ from g text limit. machines.StopsServing commands (machine disk from g text limit) (halt_of stop) code whole.command whole.body told (told_with_stop stop told')) stop told'.tools

  -- the bytes take the session on, and what is told
  abbrev pub AdvancesSession : List ℕ → Told Disk → Session → Told Disk → Session → Type 0
  AdvancesSession bytes told session told' session' =
      HoldsAtRest (λ from g text limit. streams.GoesOn commands Keeps (machine disk from g text limit) bytes told session.engine session.cutter told' session'.engine session'.cutter) told'.tools

  -- it stops on its way through the bytes
  abbrev pub StopsSession : Stop → List ℕ → Told Disk → Session → Told Disk → Type 0
  StopsSession stop bytes told session told' =
      HoldsAtHalt (λ from g text limit. streams.StopsOn commands Keeps (machine disk from g text limit) (halt_of stop) bytes told session.engine session.cutter (told_with_stop stop told')) stop told'.tools

  -- the input ends
  abbrev pub FinishesSession : Finish → Told Disk → Session → Told Disk → Type 0
  FinishesSession finish.Whole told session told' = HoldsAtRest (λ from g text limit. streams.FinishesWhole commands Keeps (machine disk from g text limit) told session.engine session.cutter told') told'.tools
  FinishesSession finish.CutShort told session told' = HoldsAtRest (λ from g text limit. streams.FinishesCutShort commands Keeps (machine disk from g text limit) told session.engine session.cutter told') told'.tools

  -- the input ends, and the session stops at its last line
  abbrev pub StopsSessionAtEnd : Stop → Told Disk → Session → Told Disk → Type 0
  StopsSessionAtEnd stop told session told' =
      HoldsAtHalt (λ from g text limit. streams.StopsAtEnd commands Keeps (machine disk from g text limit) (halt_of stop) told session.engine session.cutter (told_with_stop stop told')) stop told'.tools

  -- so many bytes of the input were read, from this held at the start
  abbrev pub ReadsSessionInput : Graph → Text → ℕ → Held → Told Disk → Option (List ℕ) → Option (List ℕ) → ℕ → Told Disk → Session → Type 0
  ReadsSessionInput g text limit held start input left count told session =
      streams.Reading commands Keeps (machine disk held g text limit) (at_first held start.tools start.tree) start input left count told session.engine session.cutter
