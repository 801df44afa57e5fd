-- What records of nodes in memory say over the contents that their numbers name.
use Rattle.std.specs.Prelude.{◌<◌, ⊤, ℕ, List, Option, Some, None, length, map, slice_get}
use Rattle.std.specs.List.{All}
use Rattle.object_values.specs.declared.records.Dep.{Dep}
use Rattle.object_values.specs.declared.records.NodeRecord.{NodeRecord}
use Rattle.object_values.specs.declared.records.Seen.{Seen}
use Rattle.object_values.specs.declared.records.Seen.TheVariants.{Nothing, Kept, New}
use Rattle.object_values.specs.declared.facts.Fact.{Fact}
use Rattle.object_values.specs.declared.facts.FactDep.{FactDep}
use Rattle.object_values.specs.declared.facts.Fresh.{Fresh}
use Rattle.object_values.specs.declared.views.Value.{Value}
use Rattle.meaning_records.specs.Batches.{IsNotable}
use Rattle.meaning_true.specs.Numbered.{Contents, dep_by, fact_by}

-- ---- what a record says

-- the content of each number
abbrev pub contents_by : List Value → Contents
contents_by contents number = slice_get contents number

abbrev pub dep_of : List Value → Dep → FactDep
dep_of contents = dep_by (contents_by contents)

abbrev pub fact_of : List Value → NodeRecord → Fact
fact_of contents = fact_by (contents_by contents)

abbrev pub facts_of : List Value → List NodeRecord → List Fact
facts_of contents = map (fact_of contents)

-- what it says, with what its node comes to at present
abbrev pub fresh_of : List Value → NodeRecord → Fresh
fresh_of contents r = record { fact = fact_of contents r; present = r.present }

-- ---- whose numbers are of contents

-- the number, where there is one, is of one of so many contents
abbrev pub IsNumberIn : ℕ → Option ℕ → Type 0
IsNumberIn count None = ⊤
IsNumberIn count (Some number) = number < count

-- what was seen is no value or such a content
abbrev pub IsSeenIn : ℕ → Seen → Type 0
IsSeenIn count Nothing = ⊤
IsSeenIn count (Kept number) = number < count
IsSeenIn count New = ⊥

-- So it is of each value that a record names.
pub record IsRecordIn (count : ℕ) (r : NodeRecord) : Type 0 where
  pub deps : All (λ (d : Dep). IsSeenIn count d.seen) r.deps
  pub value : IsNumberIn count r.value

-- All that it names are contents, and what it says over them may be noted.
pub record IsNotedIn (contents : List Value) (r : NodeRecord) : Type 0 where
  pub named : IsRecordIn (length contents) r
  pub may : IsNotable (fresh_of contents r)
