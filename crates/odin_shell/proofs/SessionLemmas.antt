-- A session of these commands: it goes on through bytes, and stops, by what its cutter makes of them.
use Rattle.std.proofs.Common.{◌≡◌, ℕ, ◌+◌, ◌-◌, ◌<◌, ◌≤◌, List, [], ◌++◌, take, drop, length, Option, Some, None, ap, sym, ◌∙◌, subst, arith, inr}
use Rattle.std.proofs.lemmas.List.{take-append-drop, take_all, length-take-le}
use Rattle.std.proofs.Math.Seq.{take-add}
use Rattle.odin_outside.specs.Spawned.{Spawned}
use Rattle.meaning_graph.specs.Graphs.{Text, Graph}
use Rattle.meaning_commands.specs.Objects.{SinkTold}
use Rattle.odin_answers.specs.Edits.{TreeTold}
use Rattle.meaning_commands.specs.Machines.{Machine}
use Rattle.meaning_commands.specs.Endings.{HasRead, EndsStopped}
use Rattle.meaning_commands.specs.Streams as streams
use Rattle.meaning_commands.proofs.Lemmas as stream
use Rattle.meaning_commands.proofs.Lemmas.{rest_is}
use Rattle.meaning_commands.proofs.Lemmas.{Reading-none}
use Rattle.odin_bytes.specs.declared.commands.Command.{Command}
use Rattle.odin_shell.specs.declared.cutter.Cutter.{Cutter}
use Rattle.odin_shell.specs.declared.whole.Whole.{Whole}
use Rattle.odin_shell.specs.declared.stop.Stop.{Stop}
use Rattle.odin_shell.specs.declared.stop.Stop.TheVariants.{Disk, Memory, Output, Full, Quit}
use Rattle.odin_shell.specs.Language.{commands}
use Rattle.odin_shell.specs.Held.{Keeps}
use Rattle.odin_shell.specs.Cuts.{CutterTakes, IsLastOfInput}
use Rattle.odin_outside.specs.Causes.{IsCounted}
use Rattle.odin_shell.specs.Endings.{ending_of}
use Rattle.odin_shell.specs.Objects.{SourceTold}
use Rattle.odin_store.specs.Held.{Held}
use Rattle.odin_engine.specs.Engaged.{Engaged}
use Rattle.odin_outside.specs.declared.disk.Disk.{Ghosts as DiskView}
use Rattle.odin_shell.specs.Machine.{SessionState, at_first, Told, machine as machine_of, halt_of, told_with_stop}
use Rattle.odin_shell.specs.Sessions.{HoldsAtRest, HoldsAtHalt, ServesInSession, StopsServingInSession}
use Rattle.odin_shell.specs.Run.{SessionLeaves, InputCount, DiskCount}
use Rattle.odin_shell.specs.Served.{telling, CountsStop}
use Rattle.odin_shell.specs.Begun.{SessionBegins}
use Rattle.odin_shell.proofs.StateLemmas.{rests}

some_taken : (piece : List ℕ) (n : ℕ) → 0 < n → n ≤ length piece → 0 < length (take n piece)
some_taken piece n some within = let size = length-take-le n piece within in omega arith

module _ {D : Type 0} (disk : DiskView D) where
  abbrev machine : Held → Graph → Text → ℕ → Machine Command Engaged SessionState (Told D)
  machine = machine_of disk

  -- where no batch is told that doesn't fit, none is told at want of memory
  still : (told : Told D) → told.over ≡ None → told ≡ told_with_stop Memory told
  still told none = λ i. record told { over = none i }

  -- no command was made whole
  pub part_goes : (bytes : List ℕ) (told : Told D) (code : Engaged) (held held' : Cutter) → told.tools.running ≡ [] → CutterTakes bytes held None held'
      → HoldsAtRest (λ from g text limit. streams.GoesOn commands Keeps (machine from g text limit) bytes told code held told code held') told.tools
  part_goes bytes told code held held' idle f = record { idle = idle; over = λ from g text limit. stream.GoesOn-part commands Keeps (machine from g text limit) bytes told code held held' f }

  -- the command that the bytes made whole was served
  pub whole_goes : (bytes : List ℕ) (told told' : Told D) (code code' : Engaged) (held held' : Cutter) (whole : Whole) → CutterTakes bytes held (Some whole) held' → ServesInSession disk code code' whole told told'
      → HoldsAtRest (λ from g text limit. streams.GoesOn commands Keeps (machine from g text limit) bytes told code held told' code' held') told'.tools
  whole_goes bytes told told' code code' held held' whole f served = record {
    idle = served.rests.idle;
    over = λ from g text limit. stream.GoesOn-item commands Keeps (machine from g text limit) bytes told told' code code' held held' whole.command whole.body f.0 served.on f.1 (served.rests.over from g text limit);
  }

  -- memory was wanted before a command was made whole
  pub part_stops : (bytes : List ℕ) (told : Told D) (code : Engaged) (held : Cutter) → told.over ≡ None
      → HoldsAtHalt (λ from g text limit. streams.StopsOn commands Keeps (machine from g text limit) (halt_of Memory) bytes told code held (told_with_stop Memory told)) Memory told.tools
  part_stops bytes told code held none = record {
    idle = λ stays. absurd (stays tt);
    over = λ from g text limit. subst (λ t. streams.StopsOn commands Keeps (machine from g text limit) (halt_of Memory) bytes told code held t) (still told none)
        (stream.StopsOn-part commands Keeps (machine from g text limit) (rests disk from g text limit) bytes told code held);
  }

  -- the serving of the command stopped
  pub whole_stops : (stop : Stop) (piece : List ℕ) (n : ℕ) (told : Told D) (sink : SinkTold) (tools : Spawned) (tree : TreeTold) (now : D) (code : Engaged) (held held' : Cutter) (whole : Whole) → 0 < n → n ≤ length piece → CutterTakes (take n piece) held (Some whole) held' → StopsServingInSession disk stop code whole told (telling sink tools tree now)
      → HoldsAtHalt (λ from g text limit. streams.StopsOn commands Keeps (machine from g text limit) (halt_of stop) piece told code held (told_with_stop stop (telling sink tools tree now))) stop tools
  whole_stops stop piece n told sink tools tree now code held held' whole some within f stops = record {
    idle = stops.idle;
    over = λ from g text limit. subst (λ t. streams.StopsOn commands Keeps (machine from g text limit) (halt_of stop) t told code held (told_with_stop stop (telling sink tools tree now))) (take-append-drop n piece)
        (stream.StopsOn-more commands Keeps (machine from g text limit) (halt_of stop) (take n piece) (drop n piece) told (told_with_stop stop (telling sink tools tree now)) code held
        (stream.StopsOn-item commands Keeps (machine from g text limit) (halt_of stop) (take n piece) told (told_with_stop stop (telling sink tools tree now)) code held whole.command whole.body (some_taken piece n some within) f.0 (stops.over from g text limit)));
  }

  -- no bytes of a piece
  pub none_goes : (piece : List ℕ) (told : Told D) (code : Engaged) (held : Cutter) → told.tools.running ≡ [] → HoldsAtRest (λ from g text limit. streams.GoesOn commands Keeps (machine from g text limit) (take 0 piece) told code held told code held) told.tools
  none_goes piece told code held idle = record { idle = idle; over = λ from g text limit. stream.GoesOn-none commands Keeps (machine from g text limit) told code held }

  -- the next bytes of a piece, after those that were taken
  pub piece_goes : (piece : List ℕ) (at n : ℕ) (told told' told'' : Told D) (code code' code'' : Engaged) (held held' held'' : Cutter)
      → HoldsAtRest (λ from g text limit. streams.GoesOn commands Keeps (machine from g text limit) (take at piece) told code held told' code' held') told'.tools
      → HoldsAtRest (λ from g text limit. streams.GoesOn commands Keeps (machine from g text limit) (take n (take (length piece - at) (drop at piece))) told' code' held' told'' code'' held'') told''.tools
      → HoldsAtRest (λ from g text limit. streams.GoesOn commands Keeps (machine from g text limit) (take (at + n) piece) told code held told'' code'' held'') told''.tools
  piece_goes piece at n told told' told'' code code' code'' held held' held'' first second = record {
    idle = second.idle;
    over = λ from g text limit. subst (λ t. streams.GoesOn commands Keeps (machine from g text limit) t told code held told'' code'' held'') (ap (λ t. take at piece ++ take n t) (rest_is piece at) ∙ sym (take-add at n piece))
        (stream.GoesOn-append commands Keeps (machine from g text limit) (take at piece) _ told told' told'' code code' code'' held held' held'' (first.over from g text limit) (second.over from g text limit));
  }

  -- all of a piece
  pub all_goes : (piece : List ℕ) (at : ℕ) (told told' : Told D) (code code' : Engaged) (held held' : Cutter) → at ≤ length piece → length piece ≤ at
      → HoldsAtRest (λ from g text limit. streams.GoesOn commands Keeps (machine from g text limit) (take at piece) told code held told' code' held') told'.tools
      → HoldsAtRest (λ from g text limit. streams.GoesOn commands Keeps (machine from g text limit) piece told code held told' code' held') told'.tools
  all_goes piece at told told' code code' held held' within all goes = record {
    idle = goes.idle;
    over = λ from g text limit. subst (λ t. streams.GoesOn commands Keeps (machine from g text limit) t told code held told' code' held') (take_all at piece all) (goes.over from g text limit);
  }

  pub piece_stops : (stop : Stop) (piece : List ℕ) (at : ℕ) (told told' : Told D) (sink : SinkTold) (tools : Spawned) (tree : TreeTold) (now : D) (code code' : Engaged) (held held' : Cutter)
      → HoldsAtRest (λ from g text limit. streams.GoesOn commands Keeps (machine from g text limit) (take at piece) told code held told' code' held') told'.tools
      → HoldsAtHalt (λ from g text limit. streams.StopsOn commands Keeps (machine from g text limit) (halt_of stop) (take (length piece - at) (drop at piece)) told' code' held' (told_with_stop stop (telling sink tools tree now))) stop tools
      → HoldsAtHalt (λ from g text limit. streams.StopsOn commands Keeps (machine from g text limit) (halt_of stop) piece told code held (told_with_stop stop (telling sink tools tree now))) stop tools
  piece_stops stop piece at told told' sink tools tree now code code' held held' goes stops = record {
    idle = stops.idle;
    over = λ from g text limit. subst (λ t. streams.StopsOn commands Keeps (machine from g text limit) (halt_of stop) t told code held (told_with_stop stop (telling sink tools tree now))) (ap (λ t. take at piece ++ t) (rest_is piece at) ∙ take-append-drop at piece)
        (stream.StopsOn-after commands Keeps (machine from g text limit) (halt_of stop) (take at piece) _ told told' (told_with_stop stop (telling sink tools tree now)) code code' held held' (goes.over from g text limit) (stops.over from g text limit));
  }

  -- the end of the input
  pub inside_finishes : (told : Told D) (code : Engaged) (held : Cutter) → told.tools.running ≡ [] → IsLastOfInput held None → HoldsAtRest (λ from g text limit. streams.FinishesCutShort commands Keeps (machine from g text limit) told code held told) told.tools
  inside_finishes told code held idle last = record { idle = idle; over = λ from g text limit. stream.Finishes-cut_short commands Keeps (machine from g text limit) (rests disk from g text limit) told code held last }

  pub line_finishes : (told told' : Told D) (code code' : Engaged) (held : Cutter) (whole : Whole) → IsLastOfInput held (Some whole) → ServesInSession disk code code' whole told told'
      → HoldsAtRest (λ from g text limit. streams.FinishesWhole commands Keeps (machine from g text limit) told code held told') told'.tools
  line_finishes told told' code code' held whole last served = record {
    idle = served.rests.idle;
    over = λ from g text limit. stream.Finishes-line commands Keeps (machine from g text limit) (rests disk from g text limit) told told' code code' held whole.command whole.body last.0 last.1 (served.rests.over from g text limit);
  }

  pub part_stops_at_end : (told : Told D) (code : Engaged) (held : Cutter) → told.over ≡ None
      → HoldsAtHalt (λ from g text limit. streams.StopsAtEnd commands Keeps (machine from g text limit) (halt_of Memory) told code held (told_with_stop Memory told)) Memory told.tools
  part_stops_at_end told code held none = record {
    idle = λ stays. absurd (stays tt);
    over = λ from g text limit. subst (λ t. streams.StopsAtEnd commands Keeps (machine from g text limit) (halt_of Memory) told code held t) (still told none)
        (stream.StopsAtEnd-part commands Keeps (machine from g text limit) (rests disk from g text limit) told code held);
  }

  pub line_stops_at_end : (stop : Stop) (told : Told D) (sink : SinkTold) (tools : Spawned) (tree : TreeTold) (now : D) (code : Engaged) (held : Cutter) (whole : Whole) → IsLastOfInput held (Some whole) → StopsServingInSession disk stop code whole told (telling sink tools tree now)
      → HoldsAtHalt (λ from g text limit. streams.StopsAtEnd commands Keeps (machine from g text limit) (halt_of stop) told code held (told_with_stop stop (telling sink tools tree now))) stop tools
  line_stops_at_end stop told sink tools tree now code held whole last stops = record {
    idle = stops.idle;
    over = λ from g text limit. stream.StopsAtEnd-line commands Keeps (machine from g text limit) (halt_of stop) told (told_with_stop stop (telling sink tools tree now)) code held whole.command whole.body last.0 last.1 (stops.over from g text limit);
  }

  -- before the first byte
  pub reads_none : (g : Graph) (text : Text) (limit : ℕ) (held : Held) (start before : Told D) (left : Option (List ℕ)) (code : Engaged) (cutter : Cutter) → SessionBegins disk g text limit held start code before → Keeps cutter []
      → streams.Reading commands Keeps (machine held g text limit) (at_first held start.tools start.tree) start left left 0 before code cutter
  reads_none g text limit held start before left code cutter begins keeps =
      Reading-none commands Keeps (machine held g text limit) (at_first held start.tools start.tree) start before code cutter left begins.sink begins.fits keeps

  -- the run ends where the serving stopped
  module _ (g : Graph) (text : Text) (limit : ℕ) (held : Held) (input left : SourceTold) (start now : Told D) where
    pub stopped_leaves : (stop : Stop) → HasRead (EndsStopped commands (machine held g text limit) (halt_of stop) (at_first held start.tools start.tree) start (told_with_stop stop now)) input.left left.left → now.over ≡ None
        → SessionLeaves disk g text limit held (ending_of stop) input.left left.left start now
    stopped_leaves Disk read none = subst (λ t. HasRead (EndsStopped commands (machine held g text limit) (halt_of Disk) (at_first held start.tools start.tree) start t) input.left left.left) (sym (λ i. record now { over = none i })) read
    stopped_leaves Memory read none = subst (λ t. HasRead (EndsStopped commands (machine held g text limit) (halt_of Memory) (at_first held start.tools start.tree) start t) input.left left.left) (sym (λ i. record now { over = none i })) read
    stopped_leaves Output read none = subst (λ t. HasRead (EndsStopped commands (machine held g text limit) (halt_of Output) (at_first held start.tools start.tree) start t) input.left left.left) (sym (λ i. record now { over = none i })) read
    stopped_leaves (Full at size) read none = read
    stopped_leaves Quit read none = inr (subst (λ t. HasRead (EndsStopped commands (machine held g text limit) (halt_of Quit) (at_first held start.tools start.tree) start t) input.left left.left) (sym (λ i. record now { over = none i })) read)

-- what the counts say of why the serving stopped
pub stopped_input : (stop : Stop) (before now : ℕ) → now ≡ before → InputCount (ending_of stop) before now
stopped_input Disk before now same = same
stopped_input Memory before now same = same
stopped_input Output before now same = same
stopped_input (Full at size) before now same = same
stopped_input Quit before now same = same

pub stopped_disk : (stop : Stop) (before mid now : ℕ) → mid ≡ before → CountsStop stop mid now → DiskCount (ending_of stop) before now
stopped_disk Disk before mid now same counted = subst (λ n. IsCounted n now) same counted
stopped_disk Memory before mid now same counted = counted ∙ same
stopped_disk Output before mid now same counted = counted ∙ same
stopped_disk (Full at size) before mid now same counted = counted ∙ same
stopped_disk Quit before mid now same counted = counted ∙ same
