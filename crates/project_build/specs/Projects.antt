-- A project that is built: from its graph and its files to the files of its targets.
use Rattle.std.specs.Prelude.{◌≡◌, ◌⊎◌, ◌≤◌, ⊤, ℕ, List, [], Option, Result, OnOk, IfErr}
use Rattle.object_values.specs.Texts.{Texts}
use Rattle.object_values.specs.declared.graph.Decl.{Decl}
use Rattle.object_values.specs.declared.replies.Reply.{Reply}
use Rattle.odin_outside.specs.Disk.{Telling}
use Rattle.odin_outside.specs.Files.{Files}
use Rattle.odin_outside.specs.Spawned.{Spawned}
use Rattle.meaning_graph.specs.Graphs.{Graph}
use Rattle.meaning_derive.specs.Given.{AreSources}
use Rattle.dg_reader.specs.Files.{IsRead}
use Rattle.odin_journal.specs.declared.fault.JournalFault.{JournalFault}
use Rattle.odin_journal.specs.Faults.{CountAfterJournalFault}
use Rattle.odin_store.specs.declared.store.Store.{Store}
use Rattle.odin_store.specs.OnDisk.{held_in}
use Rattle.kept_derive.specs.Knowing.{RecordsAreTrue, KnowsStore}
use Rattle.kept_derive.specs.Runs.{At, at}
use Rattle.odin_engine.specs.Engaged.{IsLimit}
use Rattle.odin_engine.specs.Opened.{IsEngineOpenFault, OpensQuietEngine}
use Rattle.fresh_build.specs.Edits.{changes_to}
use Rattle.fresh_build.specs.Listed.{AreFiles, IsListFault, CountAfterListFault}
use Rattle.fresh_build.specs.Sets.{SetsSources, FailsToMake}
use Rattle.project_file.specs.declared.project.Target.{Target}
use Rattle.project_build.specs.Built.{Standing, standing, AreBuilt, StopsBuilding, LeavesTools, CountAfterTargetFault}
use Rattle.project_build.specs.Graphs.{IsGraphOf, IsNoGraph, CountAfterGraphRefused}
use Rattle.project_build.specs.declared.fault.TargetFault.{TargetFault}
use Rattle.project_build.specs.declared.fault.BuildFault.{BuildFault}
use Rattle.project_build.specs.declared.fault.BuildFault.TheVariants as fault

-- ---- what is read

-- The file of the graph has this text, which is one of this graph, and the sources are the listed files.
pub record AreRead (files : Option Files) (path : List ℕ) (names : List (List ℕ)) (text : List ℕ) (graph : List Decl) (wanted : Texts) : Type 0 where
  pub graph_is : IsGraphOf files path text graph
  pub sources_are : AreFiles files names wanted
  pub fit : AreSources wanted

-- why not
abbrev pub IsReadFault : Option Files → List ℕ → List (List ℕ) → BuildFault → Type 0
IsReadFault files path names (fault.Graph why) = IsNoGraph files path why
IsReadFault files path names (fault.Sources why) = IsListFault files names why
IsReadFault files path names other = ⊥

-- ---- from the sources on

module _ {Disk : Type 0} (told : Disk → Telling) (g : Graph) (limit : ℕ) (wanted : Texts) (targets : List Target) (old new : Standing Disk) where
  -- The sources are just those that are wanted, and from these the targets were built.
  pub record IsBuiltFrom (replies : List Reply) : Type 0 where
    pub mid : At Disk
    pub sets : SetsSources told wanted old.on.store mid.store old.on.disk mid.disk
    pub tools : mid.tools ≡ old.on.tools
    pub built : AreBuilt told g limit (standing mid old.files) targets replies new

  -- Not all of the edits were made.
  pub record HasNotSet (why : JournalFault) : Type 0 where
    pub failed : FailsToMake told (changes_to wanted old.on.store.sources.texts) old.on.store new.on.store old.on.disk new.on.disk why
    pub tools : new.on.tools ≡ old.on.tools
    pub files : new.files ≡ old.files

  -- The sources are just those that are wanted, and not all of the targets were built.
  pub record HasStoppedBuilding (why : TargetFault) : Type 0 where
    pub mid : At Disk
    pub sets : SetsSources told wanted old.on.store mid.store old.on.disk mid.disk
    pub tools : mid.tools ≡ old.on.tools
    pub stops : StopsBuilding told g limit targets (standing mid old.files) new why

  -- why they are not built
  abbrev pub FailsFrom : BuildFault → Type 0
  FailsFrom (fault.Store why) = HasNotSet why
  FailsFrom (fault.Target why) = HasStoppedBuilding why
  FailsFrom other = ⊥

-- ---- from the opening of the store on

-- the disk, what is told of the tools, and the files that are written
pub record Scene (Disk : Type 0) : Type 0 where
  pub disk : Disk
  pub tools : Spawned
  pub files : Option Files

abbrev pub scene : {Disk : Type 0} → Disk → Spawned → Option Files → Scene Disk
scene disk tools files = record { disk = disk; tools = tools; files = files }

-- a store over it
abbrev pub over : {Disk : Type 0} → Store → Scene Disk → Standing Disk
over store s = standing (at store s.disk s.tools) s.files

pub record MayBuildOver (text : List ℕ) (graph : List Decl) (jobs : ℕ) (wanted : Texts) (tools : Spawned) : Type 0 where
  pub read : IsRead text graph
  pub limit : IsLimit jobs
  pub fit : AreSources wanted
  pub idle : tools.running ≡ []

module _ {Disk : Type 0} (told : Disk → Telling) (text : List ℕ) (g : Graph) (limit : ℕ) (wanted : Texts) (targets : List Target) (old new : Scene Disk) where
  -- The store was opened for the graph of this text, and the targets were built over it. Where what it held of nodes is true, that was known.
  pub record IsBuiltOver (replies : List Reply) : Type 0 where
    pub opened : Disk
    pub first : Store
    pub last : Store
    pub opens : OpensQuietEngine told text old.disk opened first
    pub knows : RecordsAreTrue g (held_in first) → KnowsStore g first
    pub built : IsBuiltFrom told g limit wanted targets (over first (record old { disk = opened })) (over last new) replies

  -- The store was not opened.
  pub record HasNotOpened (why : JournalFault) : Type 0 where
    pub refused : IsEngineOpenFault told text old.disk new.disk why
    pub tools : new.tools ≡ old.tools
    pub files : new.files ≡ old.files

  -- It was, and not all was built over it.
  pub record HasStoppedOver (why : BuildFault) : Type 0 where
    pub opened : Disk
    pub first : Store
    pub last : Store
    pub opens : OpensQuietEngine told text old.disk opened first
    pub fails : FailsFrom told g limit wanted targets (over first (record old { disk = opened })) (over last new) why

  abbrev pub FailsOver : BuildFault → Type 0
  FailsOver (fault.Store why) = HasNotOpened why ⊎ HasStoppedOver (fault.Store why)
  FailsOver (fault.Target why) = HasStoppedOver (fault.Target why)
  FailsOver other = ⊥

-- ---- the whole

module _ {Disk : Type 0} (told : Disk → Telling) (files : Option Files) (path : List ℕ) (names : List (List ℕ)) (limit : ℕ) (targets : List Target) (old new : Scene Disk) where
  -- The targets were built from just the listed files, by the graph of this file.
  pub record IsProjectBuilt (replies : List Reply) : Type 0 where
    pub text : List ℕ
    pub graph : List Decl
    pub wanted : Texts
    pub read : AreRead files path names text graph wanted
    pub built : IsBuiltOver told text graph limit wanted targets old new replies

  -- They were read, and not all was built.
  pub record HasStoppedAfterReading (why : BuildFault) : Type 0 where
    pub text : List ℕ
    pub graph : List Decl
    pub wanted : Texts
    pub read : AreRead files path names text graph wanted
    pub fails : FailsOver told text graph limit wanted targets old new why

  -- They were not read, and nothing else was done.
  pub record HasReadNothing (why : BuildFault) : Type 0 where
    pub fails : IsReadFault files path names why
    pub same : new ≡ old

  abbrev pub IsProjectUnbuilt : BuildFault → Type 0
  IsProjectUnbuilt why = HasReadNothing why ⊎ HasStoppedAfterReading why

-- ---- faults

-- the faults that leave what runs: those of the store
abbrev pub LeavesToolsRunning : BuildFault → Type 0
LeavesToolsRunning (fault.Store why) = ⊤
LeavesToolsRunning (fault.Target why) = LeavesTools why
LeavesToolsRunning other = ⊥

-- the tree's count after the reading
abbrev pub CountAfterReadFault : ℕ → ℕ → BuildFault → Type 0
CountAfterReadFault before now (fault.Graph why) = CountAfterGraphRefused before now why
CountAfterReadFault before now (fault.Sources why) = CountAfterListFault before now why
CountAfterReadFault before now other = now ≡ before

pub record ReadFaultIsCounted {T : Type 0} (before now : ℕ) (result : Result T BuildFault) : Type 0 where
  pub later : before ≤ now
  pub ok : OnOk result (now ≡ before)
  pub err : IfErr result (CountAfterReadFault before now)

-- the disk's count and that of the written files after the work
abbrev pub CountAfterWorkFault : ℕ → ℕ → ℕ → ℕ → BuildFault → Type 0
CountAfterWorkFault before now written later (fault.Store why) = CountAfterJournalFault before now why × (later ≡ written)
CountAfterWorkFault before now written later (fault.Target why) = CountAfterTargetFault before now written later why
CountAfterWorkFault before now written later other = (now ≡ before) × (later ≡ written)

pub record WorkFaultIsCounted {T : Type 0} (before now written later : ℕ) (result : Result T BuildFault) : Type 0 where
  pub disk : before ≤ now
  pub files : written ≤ later
  pub ok : OnOk result ((now ≡ before) × (later ≡ written))
  pub err : IfErr result (CountAfterWorkFault before now written later)

-- the counts of faults of the tree, of the disk and of the written files
pub record Counts : Type 0 where
  pub tree : ℕ
  pub disk : ℕ
  pub files : ℕ

abbrev pub counts : ℕ → ℕ → ℕ → Counts
counts tree disk files = record { tree = tree; disk = disk; files = files }

-- No count falls; at `Ok` each is as it was, and a fault says which rose.
pub record BuildFaultIsCounted {T : Type 0} (before now : Counts) (result : Result T BuildFault) : Type 0 where
  pub tree : ReadFaultIsCounted before.tree now.tree result
  pub work : WorkFaultIsCounted before.disk now.disk before.files now.files result
