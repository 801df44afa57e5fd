-- How many looks a derivation takes: at the records of nodes, and at kept calls.
use Rattle.std.specs.Prelude.{◌⊎◌, ◌≤◌, ◌+◌, ℕ, List, ◌++◌, length, Result, Ok, Err}
use Rattle.object_values.specs.declared.nodes.Node.{Node}
use Rattle.odin_outside.specs.Disk.{Telling}
use Rattle.meaning_texts.specs.Limits.{height_limit}
use Rattle.meaning_graph.specs.Graphs.{Graph}
use Rattle.meaning_derive.specs.Chains.{IsDeep}
use Rattle.meaning_derive.specs.Derive.{derived}
use Rattle.meaning_records.specs.Tables.{Calls}
use Rattle.meaning_true.specs.Knowing.{LooksAreCounted}
use Rattle.odin_store.specs.declared.store.Store.{Store}
use Rattle.odin_store.specs.Going.{Performs}
use Rattle.derive_walk.specs.declared.found.Found.{Found}
use Rattle.derive_walk.specs.declared.found.Found.TheVariants.{Answer, Circular, Deep}
use Rattle.derive_walk.specs.Looks.{LooksAreDeep, LooksAreWithin, TakesLooks, looks_by}
use Rattle.derive_walk.specs.Walks.{Walked}
use Rattle.kept_derive.specs.declared.fault.KeptFault.{KeptFault}
use Rattle.kept_derive.specs.declared.fault.KeptFault.TheVariants.{Disk as DiskFailed, Memory}
use Rattle.plain_derive.specs.Flights.{AreFlown}
use Rattle.kept_derive.specs.Knowing.{known_in, store_records}
use Rattle.kept_derive.specs.Runs.{At, keeps_of}

-- The looks of a derivation that found a view, by what is kept of calls now and was of nodes: one for each node with steps that may be looked at, and
-- one more at most for each whose tool is run without a record that is present.
abbrev pub HasCounted : Graph → Node → Store → Store → ℕ → ℕ → Type 0
HasCounted g n old new first last = LooksAreCounted g old.sources.texts (known_in new) (store_records old) n first last

-- Without a view it didn't look at all of them, and so many more looks were taken at most.
abbrev pub HasLooked : Graph → Node → Store → Store → ℕ → ℕ → ℕ → Type 0
HasLooked g n old new first last spare = LooksAreWithin g old.sources.texts (known_in new) (store_records old) n first last spare

-- The chain is too deep, and each of its nodes that may not be looked at otherwise took one look at most.
pub record HasLookedDown (g : Graph) (n : Node) (chain : List Node) (old new : Store) (first last : ℕ) : Type 0 where
  pub deep : IsDeep g (derived g old.sources.texts (known_in new)) n chain
  pub looks : LooksAreDeep g old.sources.texts (known_in new) (store_records old) n chain first last

-- No more looks were taken; or a chain was found that is too deep, and after it the fault came.
abbrev pub HasLookedFor : Graph → Node → Store → Store → ℕ → ℕ → Type 0
HasLookedFor g n old new first last = HasLooked g n old new first last 0 ⊎ ((chain : List Node) × HasLookedDown g n chain old new first last)

-- Of the outcomes that came all but the last at most were kept, up to a moment, and no look was taken after it.
pub record HasLookedBefore {Disk : Type 0} (told : Disk → Telling) (g : Graph) (n : Node) (limit : ℕ) (old new : At Disk) (first last : ℕ) : Type 0 where
  pub given : Calls
  pub rest : Calls
  pub few : length rest ≤ 1
  pub mid : At Disk
  pub flown : AreFlown g old.store.sources.texts (known_in old.store) n limit (given ++ rest) old.tools new.tools
  pub goes : Performs told (keeps_of given) old.store mid.store old.disk mid.disk
  pub looked : HasLookedFor g n old.store mid.store first last

-- the most that are lost where memory is wanting: those at a chain that was followed down, and those at one that is found to be too deep
abbrev pub most_lost : ℕ
most_lost = (height_limit + 1) + (height_limit + 1)

-- The looks of a derivation, whatever it came to. Where a chain is too deep, each of its nodes that may not be looked at otherwise takes one at most. A store
-- whose disk failed tells no more of its calls.
abbrev pub AreLooks : {Disk : Type 0} → (Disk → Telling) → Graph → Node → ℕ → At Disk → At Disk → ℕ → ℕ → Result Found KeptFault → Type 0
AreLooks told g n limit old new first last (Ok (Answer view)) = HasCounted g n old.store new.store first last
AreLooks told g n limit old new first last (Ok (Circular chain)) = HasLooked g n old.store new.store first last 0
AreLooks told g n limit old new first last (Ok (Deep chain)) = HasLookedDown g n chain old.store new.store first last
AreLooks told g n limit old new first last (Err DiskFailed) = HasLookedBefore told g n limit old new first last
AreLooks told g n limit old new first last (Err Memory) = HasLooked g n old.store new.store first last most_lost
AreLooks told g n limit old new first last (Err other) = HasLookedFor g n old.store new.store first last

-- ---- on the way

-- each step was a look of the walk, but for so many
abbrev pub AreCounted : ℕ → ℕ → ℕ → Walked → Type 0
AreCounted first last spare walked = TakesLooks 0 (looks_by walked) first last spare
