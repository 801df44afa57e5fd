-- A command served: its reply after its change, and where it stops.
use Rattle.std.proofs.Common.{◌≡◌, ℕ, ◌+◌, ◌≤◌, true, false, List, [], ap, refl, sym, ◌∙◌, subst, arith}
use Rattle.odin_outside.specs.Spawned.{Spawned}
use Rattle.meaning_graph.specs.Graphs.{Text, Graph}
use Rattle.meaning_commands.specs.Objects.{SinkTold, took, TookPart}
use Rattle.meaning_commands.specs.Commands.{ends_run}
use Rattle.odin_journal.specs.Faults.{CountAfterJournalFault}
use Rattle.odin_journal.specs.Rest.{IsReady}
use Rattle.odin_journal.specs.declared.fault.JournalFault.{JournalFault}
use Rattle.odin_journal.specs.declared.fault.JournalFault.TheVariants as fault
use Rattle.odin_store.specs.Held.{Held}
use Rattle.odin_engine.specs.Engaged.{Engaged}
use Rattle.odin_answers.specs.Edits.{TreeTold}
use Rattle.odin_shell.specs.declared.whole.Whole.{Whole}
use Rattle.odin_shell.specs.declared.stop.Stop.{Stop}
use Rattle.odin_shell.specs.declared.stop.Stop.TheVariants as stop
use Rattle.odin_shell.specs.Endings.{stop_of}
use Rattle.odin_outside.specs.declared.disk.Disk.{Ghosts as DiskView}
use Rattle.odin_shell.specs.Machine.{SessionState, Told, SessionInvariant, StateAtExit}
use Rattle.odin_shell.specs.Served.{telling, MayServe, IsOnward, CountsStop, Answers, HaltsCommand}
use Rattle.odin_shell.specs.Sessions.{ServesInSession, StopsServingInSession}
use Rattle.odin_shell.proofs.StateLemmas.{rests}

-- ---- how many edits were made

module _ {D : Type 0} (disk : DiskView D) where
  pub onward_none : (most : ℕ) (code : Engaged) (now : D) → IsReady code.store.journal (disk.size_of now) → IsOnward disk most code code now now
  onward_none most code now ready = record { epoch = omega arith; ready = ready; faults = refl }

  pub onward_on : (most more : ℕ) (code code' code'' : Engaged) (now now' now'' : D) → IsOnward disk most code code' now now' → IsOnward disk more code' code'' now' now'' → IsOnward disk (most + more) code code'' now now''
  onward_on most more code code' code'' now now' now'' first second =
      let one = first.epoch in
      let two = second.epoch in
      record { epoch = omega (arith, one, two); ready = second.ready; faults = second.faults ∙ first.faults }

  -- after some bytes, at least one
  pub onward_more : (most count : ℕ) (code code' code'' : Engaged) (now now' now'' : D) → 1 ≤ count → IsOnward disk most code code' now now' → IsOnward disk 1 code' code'' now' now'' → IsOnward disk (most + count) code code'' now now''
  onward_more most count code code' code'' now now' now'' some first second =
      let one = first.epoch in
      let two = second.epoch in
      record { epoch = omega (arith, some, one, two); ready = second.ready; faults = second.faults ∙ first.faults }

  pub onward_all : (most : ℕ) (all : ℕ) (code code' : Engaged) (now now' : D) → most ≤ all → IsOnward disk most code code' now now' → IsOnward disk all code code' now now'
  onward_all most all code code' now now' within onward = let one = onward.epoch in record { epoch = omega (arith, one, within); ready = onward.ready; faults = onward.faults }

  pub onward_as : (most all : ℕ) (code code' : Engaged) (now now' : D) → most ≡ all → IsOnward disk most code code' now now' → IsOnward disk all code code' now now'
  onward_as most all code code' now now' same onward = subst (λ n. IsOnward disk n code code' now now') same onward

  -- of so many commands one more may be served after some of them
  pub may_go_on : (all : ℕ) (most : ℕ) (code code' : Engaged) (now now' : D) (tools tools' : Spawned) → most + 1 ≤ all → MayServe all code (disk.size_of now) tools → IsOnward disk most code code' now now' → tools'.running ≡ []
      → MayServe 1 code' (disk.size_of now') tools'
  may_go_on all most code code' now now' tools tools' within may onward idle =
      let early = may.early in
      let one = onward.epoch in
      record { ready = onward.ready; early = omega (arith, within, early, one); idle = idle }

-- a stop counts what its fault does
pub counts_of : (why : JournalFault) (before now : ℕ) → before ≤ now → CountAfterJournalFault before now why → CountsStop (stop_of why) before now
counts_of fault.Disk before now later cause = record { later = later; rose = cause }
counts_of (fault.NotOurs at) before now later cause = cause
counts_of (fault.Full at size) before now later cause = cause
counts_of fault.Memory before now later cause = cause

-- the same of what the fault is turned into
pub counts_as : (why : JournalFault) (stop : Stop) (before now : ℕ) → stop ≡ stop_of why → before ≤ now → CountAfterJournalFault before now why → CountsStop stop before now
counts_as why stop before now is later cause = subst (λ s. CountsStop s before now) (sym is) (counts_of why before now later cause)

pub counted_behind : (s : Stop) (first mid last : ℕ) → mid ≡ first → CountsStop s mid last → CountsStop s first last
counted_behind s first mid last same counted = subst (λ n. CountsStop s n last) same counted

module _ {D : Type 0} (disk : DiskView D) where
  -- what the sink took is no part of it
  module _ (from : Held) (g : Graph) (text : Text) (limit : ℕ) (first : SessionState) (start : Told D) (s s' : SinkTold) (tools : Spawned) (tree : TreeTold) (d : D) where
    on_sink : (code : Engaged) (state : SessionState) → SessionInvariant disk from g text limit first start code state (telling s tools tree d) → SessionInvariant disk from g text limit first start code state (telling s' tools tree d)
    on_sink code state fits = record {
      graph = fits.graph;
      jobs = fits.jobs;
      few = fits.few;
      held = fits.held;
      knows = fits.knows;
      tools = fits.tools;
      tree = fits.tree;
      stay = fits.stay;
      tree_stays = fits.tree_stays;
      idle = fits.idle;
      ready = fits.ready;
      faults = fits.faults;
      trail = fits.trail;
      written = fits.written;
      within = refl;
    }

    left_sink : (state furthest : SessionState) → StateAtExit disk g text limit first start state furthest (telling s tools tree d) → StateAtExit disk g text limit first start state furthest (telling s' tools tree d)
    left_sink state furthest left = record {
      tools = left.tools;
      tree = left.tree;
      counted = left.counted;
      tree_counted = left.tree_counted;
      stay = left.stay;
      tree_stays = left.tree_stays;
      safe = left.safe;
      lasting = left.lasting;
      full = left.full;
    }

  module _ (code code' : Engaged) (whole : Whole) (given reply : List ℕ) (s s' : SinkTold) (tools tools' : Spawned) (tree tree' : TreeTold) (d d' : D) where
    abbrev before : Told D
    before = telling s tools tree d

    abbrev mid : Told D
    mid = telling s tools' tree' d'

    abbrev after : Told D
    after = telling s' tools' tree' d'

    module _ (is : given ≡ reply) (answers : Answers disk code whole.command whole.body before reply code' mid) (idle : tools'.running ≡ []) where
      pub serves : ends_run whole.command ≡ false → s' ≡ took s given → ServesInSession disk code code' whole before after
      serves on wrote = record {
        on = on;
        rests = record {
          idle = idle;
          over = λ from g text limit first start state body same fits.
              let stepped = answers from g text limit first start state body same fits in
              record {
                reply = reply;
                new = stepped.new;
                step = stepped.step;
                wrote = wrote ∙ ap (took s) is;
                fits = on_sink from g text limit first start s s' tools' tree' d' code' stepped.new stepped.fits;
              };
        };
      }

      pub stops_reply : TookPart given s s' → StopsServingInSession disk stop.Output code whole before after
      stops_reply wrote = record {
        idle = λ other. idle;
        over = λ from g text limit first start state body same fits.
            let stepped = answers from g text limit first start state body same fits in
            record {
              reply = reply;
              new = stepped.new;
              step = stepped.step;
              wrote = subst (λ r. TookPart r s s') is wrote;
              exit = left_sink from g text limit first start s s' tools' tree' d' state stepped.new stepped.left;
            };
      }

      pub stops_quit : ends_run whole.command ≡ true → s' ≡ took s given → StopsServingInSession disk stop.Quit code whole before after
      stops_quit ends wrote = record {
        idle = λ other. idle;
        over = λ from g text limit first start state body same fits.
            let stepped = answers from g text limit first start state body same fits in
            record {
              ends = ends;
              reply = reply;
              new = stepped.new;
              step = stepped.step;
              wrote = wrote ∙ ap (took s) is;
              exit = rests disk from g text limit first start code' stepped.new after (on_sink from g text limit first start s s' tools' tree' d' code' stepped.new stepped.fits);
            };
      }

  module _ (code : Engaged) (whole : Whole) (s : SinkTold) (tools tools' : Spawned) (tree tree' : TreeTold) (d d' : D) where
    pub stops_answer : (why : JournalFault) → HaltsCommand disk code whole.command whole.body (telling s tools tree d) why (telling s tools' tree' d') → StopsServingInSession disk (stop_of why) code whole (telling s tools tree d) (telling s tools' tree' d')
    stops_answer fault.Disk halts = record {
      idle = λ stays. absurd (stays tt);
      over = λ from g text limit first start state body same fits. (let left = halts from g text limit first start state body same fits in record { furthest = left.furthest; may = left.may; wrote = refl; exit = left.exit });
    }
    stops_answer (fault.NotOurs at) halts = record {
      idle = λ stays. absurd (stays tt);
      over = λ from g text limit first start state body same fits. (let left = halts from g text limit first start state body same fits in record { furthest = left.furthest; may = left.may; wrote = refl; exit = left.exit });
    }
    stops_answer (fault.Full at size) halts = record {
      idle = λ stays. absurd (stays tt);
      over = λ from g text limit first start state body same fits. (let left = halts from g text limit first start state body same fits in record { furthest = left.furthest; may = left.may; wrote = refl; exit = left.exit });
    }
    stops_answer fault.Memory halts = record {
      idle = λ stays. absurd (stays tt);
      over = λ from g text limit first start state body same fits. (let left = halts from g text limit first start state body same fits in record { furthest = left.furthest; may = left.may; wrote = refl; exit = left.exit });
    }

    pub stops_as : (why : JournalFault) (stop : Stop) → stop ≡ stop_of why → HaltsCommand disk code whole.command whole.body (telling s tools tree d) why (telling s tools' tree' d')
        → StopsServingInSession disk stop code whole (telling s tools tree d) (telling s tools' tree' d')
    stops_as why stop is halts = subst (λ st. StopsServingInSession disk st code whole (telling s tools tree d) (telling s tools' tree' d')) (sym is) (stops_answer why halts)
