-- The looks of an ask, at records of nodes and at kept calls.
use Rattle.std.specs.Prelude.{◌≡◌, ◌≢◌, ◌⊎◌, ◌+◌, ℕ, [], Result, Ok, Err, IfOk, IfErr}
use Rattle.object_values.specs.declared.nodes.Node.{Node}
use Rattle.object_values.specs.declared.views.View.{View}
use Rattle.odin_outside.specs.Disk.{Telling}
use Rattle.meaning_graph.specs.Graphs.{Text, Graph}
use Rattle.meaning_derive.specs.Laws.{HasMore}
use Rattle.meaning_true.specs.Knowing.{IsChecked}
use Rattle.odin_store.specs.declared.store.Store.{Store}
use Rattle.derive_walk.specs.declared.found.Found.{Found}
use Rattle.kept_derive.specs.declared.fault.KeptFault.{KeptFault}
use Rattle.kept_derive.specs.Looked.{AreLooks, HasCounted}
use Rattle.kept_derive.specs.Knowing.{KnowsStore, known_in, store_records}
use Rattle.kept_derive.specs.Runs.{At, HasFound}
use Rattle.kept_derive.specs.Stops.{IsStopped}
use Rattle.odin_engine.specs.declared.fault.AskFault.{AskFault}
use Rattle.odin_engine.specs.Asked.{IsNodeOf}
use Rattle.odin_engine.specs.Asking.{answer_of}

-- What was found of a node, or why not, and the looks that it took.
pub record IsDerivedWithLooks {Disk : Type 0} (told : Disk → Telling) (g : Graph) (n : Node) (limit : ℕ) (old new : At Disk) (first last : ℕ) (result : Result Found KeptFault) : Type 0 where
  pub found : IfOk result (HasFound told g n limit old new)
  pub stopped : IfErr result (IsStopped told g n limit old new)
  pub looks : KnowsStore g old.store → AreLooks told g n limit old new first last result

-- The text asks for a node, whose view took these looks. The calls that were kept are.
pub record IsCountedFor (g : Graph) (text : Text) (old new : Store) (first last : ℕ) : Type 0 where
  pub node : Node
  pub is : IsNodeOf g text node
  pub kept : HasMore (known_in old) (known_in new)
  pub counted : HasCounted g node old new first last

-- The text asks for a node, whose derivation had this result, and took its looks where what was kept of nodes was known.
pub record IsLookedFor {Disk : Type 0} (told : Disk → Telling) (g : Graph) (limit : ℕ) (text : Text) (old new : At Disk) (first last : ℕ) (fault : AskFault) : Type 0 where
  pub node : Node
  pub is : IsNodeOf g text node
  pub derived : Result Found KeptFault
  pub answers : answer_of derived ≡ Err fault
  pub looks : KnowsStore g old.store → AreLooks told g node limit old new first last derived

-- The looks of an ask, whatever it answers, where what was kept of nodes was known. A text that asks for no node takes none.
abbrev pub AreAskLooks : {Disk : Type 0} → (Disk → Telling) → Graph → ℕ → Text → At Disk → At Disk → ℕ → ℕ → Result View AskFault → Type 0
AreAskLooks told g limit text old new first last (Ok view) = KnowsStore g old.store → IsCountedFor g text old.store new.store first last
AreAskLooks told g limit text old new first last (Err given) = (last ≡ first) ⊎ IsLookedFor told g limit text old new first last given

-- ---- what follows

-- A node whose record is checked takes just one look.
abbrev pub CheckedTakesOne : Type 0
CheckedTakesOne =
    (g : Graph) (text : Text) (old new : Store) (first last : ℕ) → KnowsStore g old → (n : Node) → IsNodeOf g text n → n.steps ≢ []
    → IsChecked (store_records old) n → IsCountedFor g text old new first last → last ≡ first + 1
