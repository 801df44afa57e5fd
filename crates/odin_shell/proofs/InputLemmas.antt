-- A session over the pieces of its input, and the ways in which it ends.
use Rattle.std.proofs.Common.{◌≡◌, ℕ, ◌+◌, ◌<◌, ◌≤◌, List, [], length, take, Option, None, sym, refl, ◌∙◌, subst, arith, inl}
use Rattle.odin_outside.specs.Causes.{IsCounted}
use Rattle.odin_outside.specs.Told.{prepended}
use Rattle.meaning_graph.specs.Graphs.{Text, Graph}
use Rattle.meaning_commands.specs.Endings.{EndsWhole, EndsCutShort, EndsStopped, IsSpent, input_limit, piece_limit}
use Rattle.meaning_commands.specs.Machines.{Machine}
use Rattle.meaning_commands.specs.Streams as streams
use Rattle.meaning_commands.proofs.Lemmas.{Reading-more, HasRead-none, HasRead-finish, HasRead-piece, HasRead-unread, HasRead-limit}
use Rattle.odin_bytes.specs.declared.commands.Command.{Command}
use Rattle.odin_store.specs.Held.{Held}
use Rattle.odin_engine.specs.Engaged.{Engaged}
use Rattle.odin_shell.specs.declared.ending.Ending.{Ending}
use Rattle.odin_shell.specs.declared.ending.Ending.TheVariants as ending
use Rattle.odin_shell.specs.declared.session.Finish.TheVariants as finish
use Rattle.odin_shell.specs.declared.session.Session.{Session}
use Rattle.odin_shell.specs.declared.stop.Stop.{Stop}
use Rattle.odin_shell.specs.Endings.{ending_of}
use Rattle.odin_outside.specs.declared.disk.Disk.{Ghosts as DiskView}
use Rattle.odin_shell.specs.Held.{Keeps}
use Rattle.odin_shell.specs.Language.{commands}
use Rattle.odin_shell.specs.Machine.{SessionState, at_first, Told, machine as machine_of, halt_of, told_with_stop}
use Rattle.odin_shell.specs.Objects.{SourceTold}
use Rattle.odin_shell.specs.Served.{MayServe, IsOnward, CountsStop}
use Rattle.odin_shell.specs.Sessions.{AdvancesSession, StopsSession, FinishesSession, StopsSessionAtEnd, ReadsSessionInput}
use Rattle.odin_shell.specs.Begun.{MayBeginSession, SessionBegins, SessionServes}
use Rattle.odin_shell.proofs.HeldLemmas.{Keeps-less}
use Rattle.odin_shell.proofs.StateLemmas.{rests}
use Rattle.odin_shell.proofs.ServeLemmas.{onward_none, onward_on}
use Rattle.odin_shell.proofs.SessionLemmas.{reads_none, stopped_leaves, stopped_input, stopped_disk}

module _ {D : Type 0} (disk : DiskView D) where
  abbrev machine : Held → Graph → Text → ℕ → Machine Command Engaged SessionState (Told D)
  machine = machine_of disk

  -- The session has read so many bytes of its input, whatever it began with; so many edits were made at most, and no tool runs.
  pub record IsAt (code : Engaged) (before : Told D) (input left : Option (List ℕ)) (count : ℕ) (now : Told D) (session : Session) : Type 0 where
    pub reads : (g : Graph) (text : Text) (limit : ℕ) (held : Held) (start : Told D) → SessionBegins disk g text limit held start code before → ReadsSessionInput disk g text limit held start input left count now session
    pub onward : IsOnward disk count code session.engine before.disk now.disk
    pub idle : now.tools.running ≡ []

  pub none_read : (code : Engaged) (before : Told D) (left : Option (List ℕ)) (session : Session) → MayBeginSession code (disk.size_of before.disk) before.tools → session.engine ≡ code → Keeps session.cutter [] → IsAt code before left left 0 before session
  none_read code before left session may same keeps = record {
    reads = λ g text limit held start begins.
        subst (λ (e : Engaged). streams.Reading commands Keeps (machine held g text limit) (at_first held start.tools start.tree) start left left 0 before e session.cutter) (sym same)
        (reads_none disk g text limit held start before left code session.cutter begins keeps);
    onward = subst (λ (e : Engaged). IsOnward disk 0 code e before.disk before.disk) (sym same) (onward_none disk 0 code before.disk may.ready);
    idle = may.idle;
  }

  -- the session ended so, by what is due
  pub served_as : (code : Engaged) (input left : SourceTold) (before after : Told D) (ending due : Ending) → ending ≡ due → SessionServes disk code input left before after due → SessionServes disk code input left before after ending
  served_as code input left before after ending due is served = subst (λ e. SessionServes disk code input left before after e) (sym is) served

  module _ (code : Engaged) (before : Told D) where
    pub piece_read : (input left left' : Option (List ℕ)) (count n : ℕ) (now now' : Told D) (session session' : Session) (piece : List ℕ) → IsAt code before input left count now session → left ≡ prepended piece left' → length piece ≡ n
        → AdvancesSession disk piece now session now' session' → IsOnward disk n session.engine session'.engine now.disk now'.disk → IsAt code before input left' (count + n) now' session'
    piece_read input left left' count n now now' session session' piece at is size goes onward = record {
      reads = λ g text limit held start begins.
          Reading-more commands Keeps (machine held g text limit) (at_first held start.tools start.tree) start now now' input left left' count n session.engine session'.engine session.cutter session'.cutter piece (at.reads g text limit held start begins) is size (goes.over held g text limit);
      onward = onward_on disk count n code session.engine session'.engine before.disk now.disk now'.disk at.onward onward;
      idle = goes.idle;
    }

    -- so many commands may be served more
    pub may_serve : (input left : Option (List ℕ)) (count n : ℕ) (now : Told D) (session : Session) → MayBeginSession code (disk.size_of before.disk) before.tools → count + n ≤ input_limit → IsAt code before input left count now session
        → MayServe n session.engine (disk.size_of now.disk) now.tools
    may_serve input left count n now session may few at =
        let first = may.first in
        let epoch = at.onward.epoch in
        record { ready = at.onward.ready; early = omega (arith, first, epoch, few); idle = at.idle }

    -- ---- the ways to end

    module _ (input left : SourceTold) (mid : Option (List ℕ)) (count n : ℕ) (now after : Told D) (session : Session) (at : IsAt code before input.left mid count now session) where
      pub ends_unread : count < input_limit → left.left ≡ mid → IsCounted input.faults left.faults → after ≡ now → SessionServes disk code input left before after ending.Input
      ends_unread small same counted is = subst (λ (t : Told D). SessionServes disk code input left before t ending.Input) (sym is) (record {
        leaves = λ g text limit held start begins.
            HasRead-unread commands Keeps (machine held g text limit) (rests disk held g text limit) Keeps-less (at_first held start.tools start.tree) start now input.left mid left.left count session.engine session.cutter (at.reads g text limit held start begins) small same;
        read = counted;
        counted = at.onward.faults;
        idle = λ other. at.idle;
      })

      module _ (small : count < input_limit) (buffer : List ℕ) (is : mid ≡ prepended (take n buffer) left.left) (none : n ≡ 0) (spent : IsSpent left.left) (read : left.faults ≡ input.faults) where
        pub ends_whole : FinishesSession disk finish.Whole now session after → disk.faults after.disk ≡ disk.faults now.disk → SessionServes disk code input left before after ending.Whole
        ends_whole done unfailed = record {
          leaves = λ g text limit held start begins.
              inl (HasRead-finish commands Keeps (machine held g text limit) (EndsWhole commands (machine held g text limit)) (at_first held start.tools start.tree) start now after input.left mid left.left count n session.engine session.cutter buffer (at.reads g text limit held start begins) small is none spent (done.over held g text limit));
          read = read;
          counted = unfailed ∙ at.onward.faults;
          idle = λ other. done.idle;
        }

        pub ends_inside : FinishesSession disk finish.CutShort now session after → disk.faults after.disk ≡ disk.faults now.disk → SessionServes disk code input left before after ending.CutShort
        ends_inside done unfailed = record {
          leaves = λ g text limit held start begins.
              HasRead-finish commands Keeps (machine held g text limit) (EndsCutShort commands (machine held g text limit)) (at_first held start.tools start.tree) start now after input.left mid left.left count n session.engine session.cutter buffer (at.reads g text limit held start begins) small is none spent (done.over held g text limit);
          read = read;
          counted = unfailed ∙ at.onward.faults;
          idle = λ other. done.idle;
        }

        -- it stopped at the last line
        pub ends_last : (stop : Stop) → StopsSessionAtEnd disk stop now session after → CountsStop stop (disk.faults now.disk) (disk.faults after.disk) → after.over ≡ None → SessionServes disk code input left before after (ending_of stop)
        ends_last stop done counted within = record {
          leaves = λ g text limit held start begins.
              stopped_leaves disk g text limit held input left start after stop
              (HasRead-finish commands Keeps (machine held g text limit) (EndsStopped commands (machine held g text limit) (halt_of stop)) (at_first held start.tools start.tree) start now (told_with_stop stop after) input.left mid left.left count n session.engine session.cutter buffer (at.reads g text limit held start begins) small is none spent (done.over held g text limit))
              within;
          read = stopped_input stop input.faults left.faults read;
          counted = stopped_disk stop (disk.faults before.disk) (disk.faults now.disk) (disk.faults after.disk) at.onward.faults counted;
          idle = done.idle;
        }

      -- it stopped on a piece
      pub ends_piece : (stop : Stop) (piece : List ℕ) → mid ≡ prepended piece left.left → length piece ≡ n → count + n ≤ input_limit → n ≤ piece_limit → left.faults ≡ input.faults → StopsSession disk stop piece now session after
          → CountsStop stop (disk.faults now.disk) (disk.faults after.disk) → after.over ≡ None → SessionServes disk code input left before after (ending_of stop)
      ends_piece stop piece is size within few read done counted none = record {
        leaves = λ g text limit held start begins.
            stopped_leaves disk g text limit held input left start after stop
            (HasRead-piece commands Keeps (machine held g text limit) (halt_of stop) (at_first held start.tools start.tree) start now (told_with_stop stop after) input.left mid left.left count n session.engine session.cutter piece (at.reads g text limit held start begins) is size within few (done.over held g text limit))
            none;
        read = stopped_input stop input.faults left.faults read;
        counted = stopped_disk stop (disk.faults before.disk) (disk.faults now.disk) (disk.faults after.disk) at.onward.faults counted;
        idle = done.idle;
      }

    -- as many bytes were read as may be
    pub ends_at_limit : (input left : SourceTold) (now : Told D) (session : Session) → IsAt code before input.left left.left input_limit now session → left.faults ≡ input.faults → SessionServes disk code input left before now ending.TooLong
    ends_at_limit input left now session at read = record {
      leaves = λ g text limit held start begins.
          HasRead-limit commands Keeps (machine held g text limit) (rests disk held g text limit) Keeps-less (at_first held start.tools start.tree) start now input.left left.left session.engine session.cutter (at.reads g text limit held start begins);
      read = read;
      counted = at.onward.faults;
      idle = λ other. at.idle;
    }

    -- memory was wanted before the first byte
    pub ends_unbegun : (input : SourceTold) → before.tools.running ≡ [] → SessionServes disk code input input before before ending.Memory
    ends_unbegun input idle = record {
      leaves = λ g text limit held start begins.
          HasRead-none commands Keeps (machine held g text limit) (at_first held start.tools start.tree) start before input.left begins.sink
          (rests disk held g text limit (at_first held start.tools start.tree) start code (at_first held start.tools start.tree) before begins.fits);
      read = refl;
      counted = refl;
      idle = λ other. idle;
    }
