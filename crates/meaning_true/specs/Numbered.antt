-- What records say whose values are told by numbers of contents.
use Rattle.std.specs.Prelude.{ℕ, Bool, false, List, map, Option, Some, None, option_map, nat_eq}
use Rattle.object_values.specs.declared.nodes.Node.{Node}
use Rattle.object_values.specs.declared.records.Dep.{Dep}
use Rattle.object_values.specs.declared.records.NodeRecord.{NodeRecord}
use Rattle.object_values.specs.declared.records.Seen.{Seen}
use Rattle.object_values.specs.declared.records.Seen.TheVariants.{Nothing, Kept, New}
use Rattle.object_values.specs.declared.facts.Fact.{Fact}
use Rattle.object_values.specs.declared.facts.FactDep.{FactDep}
use Rattle.object_values.specs.declared.views.Value.{Value}
use Rattle.meaning_true.specs.Knowing.{KeptRecord, KeptRecords}

-- the content of each number
abbrev pub Contents : Type 0
Contents = ℕ → Option Value

-- the record of each node, by numbers
abbrev pub NumberedRecords : Type 0
NumberedRecords = Node → Option NodeRecord

-- the value of a number, where there is one
abbrev pub value_at : Contents → Option ℕ → Option Value
value_at contents None = None
value_at contents (Some number) = contents number

-- what was seen
abbrev pub value_seen : Contents → Seen → Option Value
value_seen contents Nothing = None
value_seen contents (Kept number) = contents number
value_seen contents New = None

abbrev pub dep_by : Contents → Dep → FactDep
dep_by contents d = record { node = d.node; role = d.role; value = value_seen contents d.seen }

-- what a record says
abbrev pub fact_by : Contents → NodeRecord → Fact
fact_by contents r = record {
  node = r.node;
  deps = map (dep_by contents) r.deps;
  value = value_at contents r.value;
  own_status = r.own_status;
  own_messages = r.own_messages;
}

-- whether it was at this epoch
abbrev pub is_at : ℕ → Option ℕ → Bool
is_at epoch None = false
is_at epoch (Some other) = nat_eq other epoch

-- the same with what it came to when it was last checked
abbrev pub kept_by : Contents → ℕ → NodeRecord → KeptRecord
kept_by contents epoch r = record {
  fact = fact_by contents r;
  status = r.present.status;
  messages = r.present.messages;
  height = r.present.height;
  tight = r.present.tight;
  checked = is_at epoch r.checked;
}

-- what is kept, at this epoch
abbrev pub records_by : Contents → ℕ → NumberedRecords → KeptRecords
records_by contents epoch records n = option_map (kept_by contents epoch) (records n)
