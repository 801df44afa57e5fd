-- A project that is built.
use Rattle.std.proofs.Common.{◌≡◌, ◌≤◌, ◌^◌, ℕ, List, [], Option, Result, Ok, Err, IfOk, IfErr, refl, sym, subst, inr, arith}
use Rattle.std.specs.Prelude.{IsErrAnd}
use Rattle.object_values.specs.Texts.{Texts}
use Rattle.object_values.specs.declared.replies.Reply.{Reply}
use Rattle.odin_outside.specs.Disk.{Telling}
use Rattle.odin_outside.specs.Files.{Files}
use Rattle.odin_outside.specs.Spawned.{Spawned}
use Rattle.meaning_graph.specs.Graphs.{Graph}
use Rattle.meaning_derive.specs.Given.{AreSources}
use Rattle.odin_engine.specs.Engaged.{Engaged}
use Rattle.kept_derive.specs.Knowing.{RecordsAreTrue, KnowsStore}
use Rattle.kept_derive.specs.Runs.{At}
use Rattle.fresh_build.specs.Built.{MayBuild}
use Rattle.fresh_build.specs.Sets.{SetsSources}
use Rattle.project_file.specs.declared.project.Target.{Target}
use Rattle.project_build.specs.declared.fault.BuildFault.{BuildFault}
use Rattle.project_build.specs.declared.fault.BuildFault.TheVariants as fault
use Rattle.project_build.specs.declared.fault.TargetFault.{TargetFault}
use Rattle.project_build.specs.Built.{Standing, standing, AreBuilt, StopsBuilding}
use Rattle.odin_engine.specs.Opened.{EngineIsNew, OpensQuietEngine}
use Rattle.odin_store.specs.OnDisk.{held_in}
use Rattle.odin_store.specs.declared.store.Store.{Store}
use Rattle.project_build.specs.Projects.{Scene, over, AreRead, IsBuiltFrom, IsBuiltOver, IsProjectBuilt, FailsFrom, FailsOver, HasStoppedBuilding, HasStoppedOver, IsProjectUnbuilt, IsReadFault, BuildFaultIsCounted, CountAfterReadFault, ReadFaultIsCounted, WorkFaultIsCounted, counts}

-- an engine that was just opened may build
pub new_may_build : (engine : Engaged) (g : Graph) (jobs size : ℕ) (tools : Spawned) (wanted : Texts) → EngineIsNew g jobs size engine → AreSources wanted
    → tools.running ≡ [] → MayBuild engine.store size tools wanted
new_may_build engine g jobs size tools wanted new fit none = record {
  set = record { ready = new.ready; early = subst (λ n. n ≤ 2 ^ 62) (sym new.first) (omega arith); fit = fit };
  none = none;
}

module _ {Disk : Type 0} (told : Disk → Telling) (wanted : Texts) (targets : List Target) (old new : Standing Disk) (mid : At Disk)
    (sets : SetsSources told wanted old.on.store mid.store old.on.disk mid.disk) (tools : mid.tools ≡ old.on.tools) where
  -- the targets were built by the graph that stays
  pub built_from : (g g' : Graph) (limit limit' : ℕ) (replies : List Reply) → g' ≡ g → limit' ≡ limit
      → AreBuilt told g' limit' (standing mid old.files) targets replies new → IsBuiltFrom told g limit wanted targets old new replies
  built_from g g' limit limit' replies graph jobs built = record {
    mid = mid;
    sets = sets;
    tools = tools;
    built = subst (λ (h : Graph). AreBuilt told h limit (standing mid old.files) targets replies new) graph
        (subst (λ (n : ℕ). AreBuilt told g' n (standing mid old.files) targets replies new) jobs built);
  }

  pub stopped_from : (g g' : Graph) (limit limit' : ℕ) (why : TargetFault) → g' ≡ g → limit' ≡ limit
      → StopsBuilding told g' limit' targets (standing mid old.files) new why → HasStoppedBuilding told g limit wanted targets old new why
  stopped_from g g' limit limit' why graph jobs stops = record {
    mid = mid;
    sets = sets;
    tools = tools;
    stops = subst (λ (h : Graph). StopsBuilding told h limit targets (standing mid old.files) new why) graph
        (subst (λ (n : ℕ). StopsBuilding told g' n targets (standing mid old.files) new why) jobs stops);
  }

-- ---- over a store that was opened

module _ {Disk : Type 0} (told : Disk → Telling) (text : List ℕ) (g g' : Graph) (limit limit' : ℕ) (wanted : Texts) (targets : List Target)
    (old new : Scene Disk) (opened : Disk) (first last : Store) (graph : g' ≡ g) (jobs : limit' ≡ limit)
    (opens : OpensQuietEngine told text old.disk opened first) where
  abbrev start : Standing Disk
  start = over first (record old { disk = opened })

  pub built_over : (RecordsAreTrue g (held_in first) → KnowsStore g first) → (r : Result (List Reply) BuildFault) → IfOk r (IsBuiltFrom told g' limit' wanted targets start (over last new))
      → IfOk r (IsBuiltOver told text g limit wanted targets old new)
  built_over knows (Ok replies) built = record {
    opened = opened;
    first = first;
    last = last;
    opens = opens;
    knows = knows;
    built = subst (λ (h : Graph). IsBuiltFrom told h limit wanted targets start (over last new) replies) graph
        (subst (λ (n : ℕ). IsBuiltFrom told g' n wanted targets start (over last new) replies) jobs built);
  }
  built_over knows (Err why) built = tt

  stopped_over : (why : BuildFault) → FailsFrom told g' limit' wanted targets start (over last new) why
      → HasStoppedOver told text g limit wanted targets old new why
  stopped_over why fails = record {
    opened = opened;
    first = first;
    last = last;
    opens = opens;
    fails = subst (λ (h : Graph). FailsFrom told h limit wanted targets start (over last new) why) graph
        (subst (λ (n : ℕ). FailsFrom told g' n wanted targets start (over last new) why) jobs fails);
  }

  pub failed_over : (r : Result (List Reply) BuildFault) → IfErr r (FailsFrom told g' limit' wanted targets start (over last new))
      → IfErr r (FailsOver told text g limit wanted targets old new)
  failed_over (Ok replies) fails = tt
  failed_over (Err (fault.Store why)) fails = inr (stopped_over (fault.Store why) fails)
  failed_over (Err (fault.Target why)) fails = stopped_over (fault.Target why) fails
  failed_over (Err (fault.Graph why)) fails = absurd fails
  failed_over (Err (fault.Sources why)) fails = absurd fails

-- ---- the whole

module _ {Disk : Type 0} (told : Disk → Telling) (files : Option Files) (path : List ℕ) (names : List (List ℕ)) (limit : ℕ) (targets : List Target)
    (old new : Scene Disk) where
  pub built_all : (text : List ℕ) (graph : Graph) (wanted : Texts) (r : Result (List Reply) BuildFault) → AreRead files path names text graph wanted
      → IfOk r (IsBuiltOver told text graph limit wanted targets old new) → IfOk r (IsProjectBuilt told files path names limit targets old new)
  built_all text graph wanted (Ok replies) read built = record { text = text; graph = graph; wanted = wanted; read = read; built = built }
  built_all text graph wanted (Err why) read built = tt

  pub failed_all : (text : List ℕ) (graph : Graph) (wanted : Texts) (r : Result (List Reply) BuildFault) → AreRead files path names text graph wanted
      → IfErr r (FailsOver told text graph limit wanted targets old new) → IfErr r (IsProjectUnbuilt told files path names limit targets old new)
  failed_all text graph wanted (Ok replies) read fails = tt
  failed_all text graph wanted (Err why) read fails = inr (record { text = text; graph = graph; wanted = wanted; read = read; fails = fails })

-- what was read, with its text as it is handed on
pub read_as : (files : Option Files) (path : List ℕ) (names : List (List ℕ)) (text given : List ℕ) (graph : Graph) (wanted : Texts) → given ≡ text
    → AreRead files path names text graph wanted → AreRead files path names given graph wanted
read_as files path names text given graph wanted same read = subst (λ (t : List ℕ). AreRead files path names t graph wanted) (sym same) read

-- the tree's count after all was read
pub read_counted : {Disk : Type 0} (told : Disk → Telling) (text : List ℕ) (g : Graph) (limit : ℕ) (wanted : Texts) (targets : List Target) (old new : Scene Disk)
    (before now : ℕ) (r : Result (List Reply) BuildFault) → IfErr r (FailsOver told text g limit wanted targets old new) → now ≡ before
    → ReadFaultIsCounted before now r
read_counted told text g limit wanted targets old new before now (Ok replies) fails same = record { later = omega (arith, same); ok = same; err = tt }
read_counted told text g limit wanted targets old new before now (Err (fault.Store why)) fails same = record { later = omega (arith, same); ok = tt; err = same }
read_counted told text g limit wanted targets old new before now (Err (fault.Target why)) fails same = record { later = omega (arith, same); ok = tt; err = same }
read_counted told text g limit wanted targets old new before now (Err (fault.Graph why)) fails same = absurd fails
read_counted told text g limit wanted targets old new before now (Err (fault.Sources why)) fails same = absurd fails

-- the other counts where it was not
pub unread_counted : {T : Type 0} (files : Option Files) (path : List ℕ) (names : List (List ℕ)) (before written : ℕ) (why : BuildFault)
    → IsReadFault files path names why → WorkFaultIsCounted {T = T} before before written written (Err why)
unread_counted files path names before written (fault.Graph why) fails = record { disk = omega arith; files = omega arith; ok = tt; err = (refl, refl) }
unread_counted files path names before written (fault.Sources why) fails = record { disk = omega arith; files = omega arith; ok = tt; err = (refl, refl) }
unread_counted files path names before written (fault.Store why) fails = absurd fails
unread_counted files path names before written (fault.Target why) fails = absurd fails

-- the tree's count where something was not read
pub counted_read : {T : Type 0} (before mid now : ℕ) (e : BuildFault) (r : Result T BuildFault) → IsErrAnd r (λ given. given ≡ e) → mid ≡ before → mid ≤ now
    → CountAfterReadFault mid now e → ReadFaultIsCounted before now r
counted_read before mid now e (Ok x) never same later counted = absurd never
counted_read before mid now e (Err given) is same later counted = record {
  later = omega (arith, same, later);
  ok = tt;
  err = subst (λ (w : BuildFault). CountAfterReadFault before now w) (sym is) (subst (λ (n : ℕ). CountAfterReadFault n now e) same counted);
}

-- and each count then
pub counted_unread : {T : Type 0} (files : Option Files) (path : List ℕ) (names : List (List ℕ)) (tree now disk written : ℕ) (e : BuildFault) (r : Result T BuildFault)
    → IsErrAnd r (λ given. given ≡ e) → IsReadFault files path names e → tree ≤ now → CountAfterReadFault tree now e
    → BuildFaultIsCounted (counts tree disk written) (counts now disk written) r
counted_unread {T = T} files path names tree now disk written e (Ok x) never fails later counted = absurd never
counted_unread {T = T} files path names tree now disk written e (Err given) is fails later counted = record {
  tree = counted_read tree tree now e (Err given) is refl later counted;
  work = subst (λ (w : BuildFault). WorkFaultIsCounted {T = T} disk disk written written (Err w)) (sym is) (unread_counted files path names disk written e fails);
}
