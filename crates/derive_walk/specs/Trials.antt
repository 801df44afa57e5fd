-- What the record of a node says over the results so far.
use Rattle.std.specs.Prelude.{◌≡◌, ◌≢◌, ◌↔◌, ◌⊎◌, ◌<◌, ◌≤◌, ℕ, suc, ⊤, List, [], map, Option, Some, None, IsNone, IsSome}
use Rattle.std.specs.List.{All}
use Rattle.object_values.specs.declared.messages.Status.TheVariants.{Abort}
use Rattle.object_values.specs.declared.nodes.Node.{Node}
use Rattle.object_values.specs.declared.records.Dep.{Dep}
use Rattle.object_values.specs.declared.records.NodeRecord.{NodeRecord}
use Rattle.object_values.specs.declared.records.Seen.{Seen}
use Rattle.object_values.specs.declared.records.Seen.TheVariants.{Nothing, Kept, New}
use Rattle.object_values.specs.declared.facts.Fact.{Fact}
use Rattle.object_values.specs.declared.facts.FactDep.{FactDep}
use Rattle.object_values.specs.declared.facts.RenewedNode.{RenewedNode}
use Rattle.object_values.specs.declared.views.View.{View}
use Rattle.meaning_texts.specs.Limits.{height_limit}
use Rattle.meaning_texts.specs.Lists.{IsIn}
use Rattle.meaning_true.specs.Facts.{view_of_record}
use Rattle.meaning_true.specs.Numbered.{Contents}
use Rattle.derive_walk.specs.declared.done.Done.{Done}
use Rattle.derive_walk.specs.declared.trial.Current.{Current}
use Rattle.derive_walk.specs.Tables.{Entries, done_in, results_of, heights_of, top_of, place_of}

-- ---- numbers

abbrev pub IsNamedSeen : Contents → Seen → Type 0
IsNamedSeen contents Nothing = ⊤
IsNamedSeen contents (Kept number) = IsSome (contents number)
IsNamedSeen contents New = ⊥

-- Each number that the record names is that of a content.
pub record IsNamed (contents : Contents) (r : NodeRecord) : Type 0 where
  pub deps : All (λ (d : Dep). IsNamedSeen contents d.seen) r.deps
  pub value : (number : ℕ) → r.value ≡ Some number → IsSome (contents number)

-- ---- what is seen of its deps

-- The dep's node has a result with the value that was seen.
pub record IsSeenAt (done : Entries) (d : FactDep) : Type 0 where
  pub entry : Done
  pub is : done_in done d.node ≡ Some entry
  pub value : entry.view.value ≡ d.value

abbrev pub AreSeenAt : Entries → List FactDep → Type 0
AreSeenAt done deps = (d : FactDep) → IsIn d deps → IsSeenAt done d

-- A dep's node has no result yet.
pub record Lacks (done : Entries) (deps : List FactDep) : Type 0 where
  pub dep : FactDep
  pub one : IsIn dep deps
  pub none : done_in done dep.node ≡ None

-- A dep's node has a result with another value.
pub record Differs (done : Entries) (deps : List FactDep) : Type 0 where
  pub dep : FactDep
  pub one : IsIn dep deps
  pub entry : Done
  pub is : done_in done dep.node ≡ Some entry
  pub other : entry.view.value ≢ dep.value

-- the greatest height of the deps
abbrev pub top_of_deps : Entries → List FactDep → ℕ
top_of_deps done deps = top_of (heights_of done []) (map (λ d. d.node) deps)

-- the place of the first of them that is as high
abbrev pub tight_of_deps : Entries → List FactDep → Option ℕ
tight_of_deps done deps =
    place_of (heights_of done []) (top_of_deps done deps) (map (λ d. d.node) deps)

-- a value is there exactly where the status isn't abort
abbrev pub IsValued : View → Type 0
IsValued view = IsNone view.value ↔ (view.status ≡ Abort)

-- ---- a record that is tried

-- Each dep is as it was seen, and this is the node's result by the record, one above the highest of them, of which the first is told.
pub record IsCurrent (done : Entries) (fact : Fact) (current : Current) : Type 0 where
  pub seen : AreSeenAt done fact.deps
  pub view : current.done.view ≡ view_of_record (results_of done) fact
  pub height : current.done.height ≡ suc (top_of_deps done fact.deps)
  pub high : current.done.height ≤ height_limit
  pub tight : current.tight ≡ tight_of_deps done fact.deps
  pub valued : IsValued current.done.view

-- It gives no result that may stand: one of its deps is too high, or a value comes with abort, or none without.
pub record CannotStand (done : Entries) (fact : Fact) : Type 0 where
  pub seen : AreSeenAt done fact.deps
  pub why : (height_limit < suc (top_of_deps done fact.deps))
      ⊎ (¬ IsValued (view_of_record (results_of done) fact))

-- What came of the trial: the record is current, or why it isn't.
abbrev pub IsTried : Entries → Fact → Option Current → Type 0
IsTried done fact None = Lacks done fact.deps ⊎ (Differs done fact.deps ⊎ CannotStand done fact)
IsTried done fact (Some current) = IsCurrent done fact current

-- what the record of the node came to
abbrev pub renewed_by : Node → Current → RenewedNode
renewed_by n current = record {
  node = n;
  present = record {
    status = current.done.view.status;
    messages = current.done.view.messages;
    height = current.done.height;
    tight = current.tight;
  };
}

-- no node of the table is higher than the limit
abbrev pub AreLow : Entries → Type 0
AreLow done = (n : Node) (d : Done) → done_in done n ≡ Some d → d.height ≤ height_limit
