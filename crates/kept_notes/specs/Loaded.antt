-- Records of nodes as a file has them: which may be noted, and what they are in memory.
use Rattle.std.specs.Prelude.{ℕ, Bool, true, false, ◌&&◌, not, nat_le, nat_lt, List, [], ◌∷◌, length, Option, Some, None}
use Rattle.std.specs.List.{list_all}
use Rattle.object_values.specs.declared.messages.Status.{Status}
use Rattle.object_values.specs.declared.messages.Status.TheVariants.{Ok, Warning, Error, Abort}
use Rattle.object_values.specs.declared.records.Dep.{Dep}
use Rattle.object_values.specs.declared.records.NodeRecord.{NodeRecord}
use Rattle.object_values.specs.declared.records.Renewed.{Renewed}
use Rattle.object_values.specs.declared.records.Seen.{Seen}
use Rattle.object_values.specs.declared.records.Seen.TheVariants.{Nothing, Kept}
use Rattle.object_values.specs.declared.facts.Fact.{Fact}
use Rattle.object_values.specs.declared.items.StoredDep.{StoredDep}
use Rattle.object_values.specs.declared.items.StoredRecord.{StoredRecord}
use Rattle.object_values.specs.declared.views.Value.{Value}
use Rattle.meaning_texts.specs.Limits.{height_limit}
use Rattle.meaning_records.specs.Tables.{MayBeNoted, role_before}

-- ---- which may be noted

-- the record says something over these contents, and may be noted
abbrev pub MayBeLoaded : List Value → StoredRecord → Type 0
MayBeLoaded contents stored = (fact : Fact) × MayBeNoted contents stored fact

-- as a test that computes: of a number of so many contents, where there is one
abbrev pub is_number : ℕ → Option ℕ → Bool
is_number count None = true
is_number count (Some number) = nat_lt number count

abbrev pub is_dep : ℕ → StoredDep → Bool
is_dep count d = is_number count d.content

abbrev pub is_abort : Status → Bool
is_abort Ok = false
is_abort Warning = false
is_abort Error = false
is_abort Abort = true

-- a value stands exactly beside a status that isn't abort
abbrev pub is_valued : Option ℕ → Status → Bool
is_valued None status = is_abort status
is_valued (Some number) status = not (is_abort status)

abbrev pub may_note : ℕ → StoredRecord → Bool
may_note count stored =
    list_all (is_dep count) stored.deps && is_number count stored.value && nat_le stored.reached (length stored.deps)
    && nat_le 1 stored.height && nat_le stored.height height_limit && is_valued stored.value stored.status

-- ---- what they are in memory

abbrev pub seen_of : Option ℕ → Seen
seen_of None = Nothing
seen_of (Some number) = Kept number

abbrev pub loaded_dep : ℕ → StoredDep → ℕ → Dep
loaded_dep reached d more = record { node = d.node; role = role_before more reached; seen = seen_of d.content }

abbrev pub loaded_deps : ℕ → List StoredDep → List Dep
loaded_deps reached [] = []
loaded_deps reached (d ∷ more) = loaded_dep reached d (length more) ∷ loaded_deps reached more

-- a record with what its node comes to at present, and the epoch at which it was checked
abbrev pub record_with : StoredRecord → Renewed → Option ℕ → NodeRecord
record_with stored present checked = record {
  node = stored.node;
  deps = loaded_deps stored.reached stored.deps;
  value = stored.value;
  own_status = stored.own_status;
  own_messages = stored.own_messages;
  present = present;
  checked = checked;
}

-- as the file has that: it was never checked
abbrev pub loaded_record : StoredRecord → NodeRecord
loaded_record stored = record_with stored (record { status = stored.status; messages = stored.messages; height = stored.height; tight = None }) None
