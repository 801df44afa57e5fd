-- What a check of a record gives.
use Rattle.std.specs.Prelude.{ℕ, suc, ◌+◌, Bool, true, false, cond, ◌&&◌, List, [], ◌∷◌, flat_map, Option, Some, None, option_map, max, nat_eq}
use Rattle.object_values.specs.declared.messages.Status.{Status}
use Rattle.object_values.specs.declared.messages.Message.{Message}
use Rattle.object_values.specs.contracts.nodes.NodePartialEq.TheImpl.{ghosts as node_eq}
use Rattle.object_values.specs.declared.records.Role.{Role}
use Rattle.object_values.specs.declared.records.Role.TheVariants.{Needed, Reached}
use Rattle.object_values.specs.declared.records.Seen.{Seen}
use Rattle.object_values.specs.declared.records.Seen.TheVariants.{Nothing, Kept}
use Rattle.object_values.specs.declared.records.Dep.{Dep}
use Rattle.object_values.specs.declared.records.Renewed.{Renewed}
use Rattle.object_values.specs.declared.records.NodeRecord.{NodeRecord}
use Rattle.meaning_tasks.specs.Values.{worst, inherit}
use Rattle.validator.specs.declared.verdict.Now.{Now}
use Rattle.validator.specs.declared.verdict.Verdict.{Verdict}
use Rattle.validator.specs.declared.verdict.Verdict.TheVariants.{Current, Stale}

-- what is seen is what was seen; what is new is nothing that was seen
abbrev pub same_seen : Seen → Seen → Bool
same_seen Nothing Nothing = true
same_seen (Kept a) (Kept b) = nat_eq a b
same_seen a b = false

abbrev pub is_same : Dep → Now → Bool
is_same d n = node_eq.eq d.node n.node.now && same_seen d.seen n.seen

-- the first place at which they differ, also in number
abbrev pub difference : List Dep → List Now → Option ℕ
difference [] [] = None
difference [] (n ∷ now) = Some 0
difference (d ∷ deps) [] = Some 0
difference (d ∷ deps) (n ∷ now) = cond (is_same d n) (option_map suc (difference deps now)) (Some 0)

-- whether a need adds its status and messages
abbrev pub counts : Role → Seen → Bool
counts Needed seen = true
counts Reached seen = false

-- those of the needs that do
abbrev pub adding : List Dep → List Now → List Now
adding [] now = []
adding (d ∷ deps) [] = []
adding (d ∷ deps) (n ∷ now) = cond (counts d.role n.seen) (n ∷ adding deps now) (adding deps now)

abbrev pub worst_with : Status → List Now → Status
worst_with own [] = own
worst_with own (n ∷ now) = worst_with (worst n.status own) now

abbrev pub messages_added : List Now → List Message
messages_added now = flat_map (λ n. n.messages.now) now

abbrev pub highest : List Now → ℕ
highest [] = 0
highest (n ∷ now) = max n.height (highest now)

-- the first place at which a need is so high
abbrev pub first_at : ℕ → List Now → Option ℕ
first_at height [] = None
first_at height (n ∷ now) = cond (nat_eq n.height height) (Some 0) (option_map suc (first_at height now))

abbrev pub renewed_by : NodeRecord → List Now → Renewed
renewed_by kept now = record {
  status = worst_with kept.own_status (adding kept.deps now);
  messages = inherit (messages_added (adding kept.deps now)) kept.own_messages;
  height = highest now + 1;
  tight = first_at (highest now) now;
}

abbrev pub verdict_by : NodeRecord → List Now → Option ℕ → Verdict
verdict_by kept now None = Current (renewed_by kept now)
verdict_by kept now (Some place) = Stale place

abbrev pub verdict_of : NodeRecord → List Now → Verdict
verdict_of kept now = verdict_by kept now (difference kept.deps now)
