-- The store is opened, and the session over it begins, or the run ends before it.
use Rattle.std.proofs.Common.{◌≡◌, ℕ, ◌+◌, ◌*◌, List, [], ◌++◌, length, Some, None, IsTrue, ap, sym, refl, ◌∙◌, subst, arith}
use Rattle.odin_outside.specs.Disk.{Telling, IsQuiet, MayLeave}
use Rattle.odin_outside.specs.Spawned.{Spawned}
use Rattle.odin_journal.specs.Moments.{Works}
use Rattle.odin_journal.specs.Rest.{RestsOn}
use Rattle.odin_journal.specs.Rewrites.{copy_size}
use Rattle.odin_journal.specs.Trails.{Trail}
use Rattle.odin_journal.specs.WorkLemmas.{more_work, add_work}
use Rattle.object_values.specs.declared.facts.Fact.{Fact}
use Rattle.meaning_graph.specs.Graphs.{Text, Graph}
use Rattle.meaning_records.specs.States.{nothing, ReadsAll}
use Rattle.odin_store.specs.declared.store.Store.{Store}
use Rattle.odin_store.specs.Compacting.{CompactionsKeep}
use Rattle.odin_store.specs.Held.{Held, NotedFit, StandsFor}
use Rattle.odin_store.specs.Keeping.{KeepsChanges, store_keeping}
use Rattle.odin_store.specs.OnDisk.{held_in, state_in, IsOn}
use Rattle.odin_store.specs.Written.{written_in}
use Rattle.odin_store.specs.Going.{AreBatches}
use Rattle.odin_store.proofs.Lemmas.{on_there, goes_none, nothing_behind, nothing_first, same_held, same_on}
use Rattle.odin_engine.specs.Engaged.{Engaged, IsLimit}
use Rattle.odin_engine.specs.Opened.{EngineIsNew, Settles, OpensEngine, OpensQuietEngine, settled_records, settled_noted, settled_bytes, settled_calls}
use Rattle.odin_shell.specs.declared.ending.Ending.{Ending}
use Rattle.odin_outside.specs.declared.disk.Disk.{Ghosts as DiskView}
use Rattle.odin_shell.specs.Filed.{OpensFile, HasWritten}
use Rattle.odin_shell.specs.Machine.{Told}
use Rattle.odin_shell.specs.Begun.{SessionBegins, SessionServes}
use Rattle.odin_shell.specs.Objects.{SourceTold}
use Rattle.odin_shell.specs.Run.{DiskCount, SessionEnds}
use Rattle.odin_shell.proofs.StateLemmas.{same_tools, same_tree, idle_few}

-- ---- what follows on the opening of a store

module _ {D : Type 0} (told : D → Telling) (text : Text) (old mid new : D) (first store : Store) where
  -- the store rests on the records that the file has then, of which this was noted
  record RestsAs (records : List (List ℕ)) (noted : List Fact) : Type 0 where
    rests : RestsOn (told new) records store.journal
    read : ReadsAll nothing records (state_in store (Some text) noted)
    last : Some text ≡ Some store.graph
    fit : NotedFit store.graph (state_in store (Some text) noted)

  as_on : (records : List (List ℕ)) (disk : D) → new ≡ disk → (on : IsOn (told disk) store records (Some text)) → RestsAs records on.noted
  as_on records disk same on = record { rests = subst (λ d. RestsOn (told d) records store.journal) (sym same) on.rests; read = on.read; last = on.last; fit = on.fit }

  settled_on : (records : List (List ℕ)) (on : IsOn (told mid) first records (Some text)) (settles : Settles told first store mid new) → RestsAs (settled_records settles records) (settled_noted settles records (Some text) on)
  settled_on records on (Settles.let_be sparing same) = as_on records mid same.disk_is (same_on (told mid) first store records (Some text) same.store_is on)
  settled_on records on (Settles.no_room wasteful full same) = as_on records mid same.disk_is (same_on (told mid) first store records (Some text) same.store_is on)
  settled_on records on (Settles.compacted wasteful compacts leaves) = as_on compacts.records new refl (compacts.on records (Some text) on)

  -- it holds what it held
  settled_holds : Settles told first store mid new → held_in store ≡ held_in first
  settled_holds (Settles.let_be sparing same) = same_held first store same.store_is
  settled_holds (Settles.no_room wasteful full same) = same_held first store same.store_is
  settled_holds (Settles.compacted wasteful compacts leaves) = compacts.holds

  -- what was held goes on
  settled_trail : CompactionsKeep told → (held : Held) → Trail store_keeping held (told old) [] first (told mid) → Settles told first store mid new → Trail store_keeping held (told old) [] store (told new)
  settled_trail compactions held trail (Settles.let_be sparing same) = (goes_none told first store mid new same).grows held old [] trail
  settled_trail compactions held trail (Settles.no_room wasteful full same) = (goes_none told first store mid new same).grows held old [] trail
  settled_trail compactions held trail (Settles.compacted wasteful compacts leaves) = compactions.goes first store mid new compacts leaves held old [] trail

  -- the work of it
  settled_works : (calls : ℕ) (opening : List (List ℕ)) → Works (66 + written_in opening) (16 + calls + 4 * length opening) (told old) (told mid) → (settles : Settles told first store mid new)
      → Works (66 + settled_bytes settles + written_in opening) (16 + settled_calls settles + calls + 4 * length opening) (told old) (told new)
  settled_works calls opening works (Settles.let_be sparing same) =
      subst (λ d. Works (66 + 0 + written_in opening) (16 + 0 + calls + 4 * length opening) (told old) (told d)) (sym same.disk_is)
      (more_work (66 + written_in opening) (16 + calls + 4 * length opening) (66 + 0 + written_in opening) (16 + 0 + calls + 4 * length opening) (told old).work (told mid).work (omega arith) (omega arith) works)
  settled_works calls opening works (Settles.no_room wasteful full same) =
      subst (λ d. Works (66 + 0 + written_in opening) (16 + 0 + calls + 4 * length opening) (told old) (told d)) (sym same.disk_is)
      (more_work (66 + written_in opening) (16 + calls + 4 * length opening) (66 + 0 + written_in opening) (16 + 0 + calls + 4 * length opening) (told old).work (told mid).work (omega arith) (omega arith) works)
  settled_works calls opening works (Settles.compacted wasteful compacts leaves) =
      let copy = copy_size compacts.records + 9 in
      more_work (66 + written_in opening + copy) (16 + calls + 4 * length opening + 8) (66 + copy + written_in opening) (16 + 8 + calls + 4 * length opening) (told old).work (told new).work (omega arith) (omega arith)
      (add_work (66 + written_in opening) (16 + calls + 4 * length opening) copy 8 (told old).work (told mid).work (told new).work works compacts.works)

-- ---- what the file has after the opening

module _ {D : Type 0} (told : D → Telling) (text : Text) (old new : D) (store : Store) (goes : OpensEngine told text old new store) where
  written_first : ((image : List ℕ) → IsTrue (told new).follows → (told new).left_since (told new).moment image → MayLeave (told new) image) → HasWritten told text [] old store new
  written_first only_now =
      let opens = goes.opens in
      let settles = goes.settles in
      let over : OpensFile told text old = record { opened = new; store = store; goes = goes } in
      let base = settled_records settles (opens.records ++ opens.opening) in
      let rests = settled_on told text old goes.mid new goes.first store (opens.records ++ opens.opening) opens.on settles in
      let noted = settled_noted settles (opens.records ++ opens.opening) (Some text) opens.on in
      let on : IsOn (told new) store base (Some text) = record { noted = noted; rests = rests.rests; read = rests.read; last = rests.last; fit = rests.fit } in
      let none : List (List ℕ) = [] in
      let works : Works (66 + settled_bytes settles + written_in opens.opening) (16 + settled_calls settles + 2 * length opens.records + 4 * length opens.opening) (told old) (told new) =
      settled_works told text old goes.mid new goes.first store (2 * length opens.records) opens.opening opens.works settles in
      record {
        over = over;
        payloads = [];
        on = on_there (told new) (told new) store base (base ++ []) (Some text) refl (nothing_behind base) on;
        are = AreBatches.no_batches;
        end = refl;
        bytes = refl;
        trail = record { rests = on.rests; crash = nothing_first store (told new) only_now base on.rests };
        works = subst (λ (l : List (List ℕ)). Works (66 + settled_bytes settles + written_in l) (16 + settled_calls settles + 2 * length opens.records + 4 * length l) (told old) (told new))
            (sym (nothing_behind opens.opening)) works;
      }

  stood_for : ((held_in store).text ≡ text) × StandsFor (held_in store) (told old).seen
  stood_for =
      let opens = goes.opens in
      let holds = settled_holds told text old goes.mid new goes.first store goes.settles ∙ opens.holds in (
        ap (λ (h : Held). h.text) holds,
        subst (λ h. StandsFor h (told old).seen) (sym holds)
            (opens.state, record { records = opens.records; stored = opens.stored; read = opens.read }, opens.fit, refl),
      )

  first_trail : KeepsChanges told → CompactionsKeep told → IsQuiet (told old) → Trail store_keeping (held_in store) (told old) [] store (told new)
  first_trail keeping compactions quiet =
      subst (λ h. Trail store_keeping h (told old) [] store (told new)) (sym (settled_holds told text old goes.mid new goes.first store goes.settles))
      (settled_trail told text old goes.mid new goes.first store compactions (held_in goes.first) (keeping.opens text goes.first old goes.mid quiet goes.opens goes.crash) goes.settles)

-- ---- the session

module _ {D : Type 0} (disk : DiskView D) (keeping : KeepsChanges disk.told) (compactions : CompactionsKeep disk.told) (g : Graph) (text : Text) (limit : ℕ) (engine : Engaged) (start before : Told D) where
  pub begins : IsLimit limit → start.tools.running ≡ [] → before.sink ≡ start.sink → before.tools ≡ start.tools → before.tree ≡ start.tree → before.over ≡ None → OpensQuietEngine disk.told text start.disk before.disk engine.store
      → ((image : List ℕ) → IsTrue (disk.told before.disk).follows → (disk.told before.disk).left_since (disk.told before.disk).moment image → MayLeave (disk.told before.disk) image)
      → EngineIsNew g limit (disk.size_of before.disk) engine → disk.faults before.disk ≡ disk.faults start.disk
      → SessionBegins disk g text limit (held_in engine.store) start engine before
  begins most idle sink tools tree within opens only_now new faults = record {
    sink = sink;
    fits = record {
      graph = new.graph_is;
      jobs = new.jobs_is;
      few = most.few;
      held = refl;
      knows = new.knows;
      tools = tools;
      tree = tree;
      stay = same_tools start.tools before.tools tools (idle_few start.tools idle);
      tree_stays = same_tree start.tree before.tree tree;
      idle = ap (λ (t : Spawned). t.running) tools ∙ idle;
      ready = new.ready;
      faults = faults;
      trail = λ quiet. first_trail disk.told text start.disk before.disk engine.store (opens quiet) keeping compactions quiet;
      written = λ quiet. written_first disk.told text start.disk before.disk engine.store (opens quiet) only_now;
      within = within;
    };
  }

  pub session_ends : (input left : SourceTold) (after : Told D) (due : Ending) → OpensQuietEngine disk.told text start.disk before.disk engine.store → SessionBegins disk g text limit (held_in engine.store) start engine before
      → disk.faults before.disk ≡ disk.faults start.disk → SessionServes disk engine input left before after due → SessionEnds disk g text limit input left start after due
  session_ends input left after due opens begins faults served = record {
    held = held_in engine.store;
    starts = λ quiet. stood_for disk.told text start.disk before.disk engine.store (opens quiet);
    leaves = served.leaves g text limit (held_in engine.store) start begins;
    read = served.read;
    counted = subst (λ n. DiskCount due n (disk.faults after.disk)) faults served.counted;
    idle = served.idle;
  }
