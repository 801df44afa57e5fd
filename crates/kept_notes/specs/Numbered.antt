-- What is to be noted of nodes, by the numbers of its values.
use Rattle.std.specs.Prelude.{◌≡◌, ⊤, ℕ, Bool, true, false, List, [], ◌∷◌, Option}
use Rattle.object_values.specs.declared.records.NodeRecord.{NodeRecord}
use Rattle.object_values.specs.declared.records.Role.{Role}
use Rattle.object_values.specs.declared.records.Role.TheVariants.{Needed, Reached}
use Rattle.object_values.specs.declared.facts.FactDep.{FactDep}
use Rattle.object_values.specs.declared.facts.Fresh.{Fresh}
use Rattle.object_values.specs.declared.items.StoredDep.{StoredDep}
use Rattle.object_values.specs.declared.items.StoredRecord.{StoredRecord}
use Rattle.object_values.specs.declared.views.Value.{Value}
use Rattle.meaning_records.specs.Tables.{IsValueOf}
use Rattle.kept_notes.specs.Loaded.{record_with}

-- ---- deps

-- a dep by the number of its value, whatever its role
pub record IsNumberedDep (contents : List Value) (stored : StoredDep) (dep : FactDep) : Type 0 where
  pub node : stored.node ≡ dep.node
  pub value : IsValueOf contents stored.content dep.value

abbrev pub AreNumberedDeps : List Value → List StoredDep → List FactDep → Type 0
AreNumberedDeps contents [] [] = ⊤
AreNumberedDeps contents [] (dep ∷ deps) = ⊥
AreNumberedDeps contents (stored ∷ more) [] = ⊥
AreNumberedDeps contents (stored ∷ more) (dep ∷ deps) = IsNumberedDep contents stored dep × AreNumberedDeps contents more deps

abbrev pub is_reached : Role → Bool
is_reached Needed = false
is_reached Reached = true

-- ---- records

-- the records in memory, with what the nodes come to at present, which were checked at this epoch
abbrev pub notes_of : Option ℕ → List StoredRecord → List Fresh → List NodeRecord
notes_of checked [] fresh = []
notes_of checked (s ∷ stored) [] = []
notes_of checked (s ∷ stored) (f ∷ fresh) = record_with s f.present checked ∷ notes_of checked stored fresh
