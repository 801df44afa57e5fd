-- How the deps of a record are seen again, and what the record comes to where each is as it was.
use Rattle.std.specs.Prelude.{◌≡◌, ◌≢◌, ◌⊎◌, ◌<◌, ◌≤◌, ⊤, ℕ, List, [], ◌∷◌, Option, Some, None}
use Rattle.object_values.specs.declared.records.Dep.{Dep}
use Rattle.object_values.specs.declared.records.NodeRecord.{NodeRecord}
use Rattle.object_values.specs.declared.records.Renewed.{Renewed}
use Rattle.object_values.specs.declared.records.Seen.{Seen}
use Rattle.object_values.specs.declared.views.Value.{Value}
use Rattle.object_values.specs.declared.views.View.{View}
use Rattle.meaning_texts.specs.Limits.{height_limit}
use Rattle.meaning_true.specs.Numbered.{Contents, value_at, value_seen}
use Rattle.validator.specs.declared.verdict.Now.{Now}
use Rattle.derive_walk.specs.declared.done.Done.{Done}
use Rattle.derive_walk.specs.declared.trial.Current.{Current}
use Rattle.derive_walk.specs.Tables.{Entries, done_in}
use Rattle.derive_walk.specs.Trials.{IsValued}

-- ---- what is seen

-- The value is the one that was seen, and is seen as that was, or neither.
abbrev pub IsSeenAgain : Contents → Seen → Option Value → Seen → Type 0
IsSeenAgain contents before value now =
    ((now ≡ before) × (value ≡ value_seen contents before))
    ⊎ ((now ≢ before) × (value ≢ value_seen contents before))

-- What is told of the dep is the result of its node.
pub record IsNow (contents : Contents) (done : Entries) (d : Dep) (n : Now) : Type 0 where
  pub node : n.node.now ≡ d.node
  pub entry : Done
  pub is : done_in done d.node ≡ Some entry
  pub seen : IsSeenAgain contents d.seen entry.view.value n.seen
  pub status : n.status ≡ entry.view.status
  pub messages : n.messages.now ≡ entry.view.messages
  pub height : n.height ≡ entry.height

-- the same of each of them, in order
abbrev pub AreNow : Contents → Entries → List Dep → List Now → Type 0
AreNow contents done [] [] = ⊤
AreNow contents done [] (n ∷ now) = ⊥
AreNow contents done (d ∷ deps) [] = ⊥
AreNow contents done (d ∷ deps) (n ∷ now) = IsNow contents done d n × AreNow contents done deps now

-- ---- what the record comes to

abbrev pub view_by : Contents → Option ℕ → Renewed → View
view_by contents value renewed = record {
  value = value_at contents value;
  status = renewed.status;
  messages = renewed.messages;
}

-- The value of this number with what was settled again.
pub record IsBy (contents : Contents) (value : Option ℕ) (renewed : Renewed) (done : Done) : Type 0 where
  pub view : done.view ≡ view_by contents value renewed
  pub height : done.height ≡ renewed.height

abbrev pub view_renewed : Contents → NodeRecord → Renewed → View
view_renewed contents kept renewed = view_by contents kept.value renewed

-- Its value at the status, the messages and the height that were renewed, and the place of the dep that is just one lower.
pub record Stands (contents : Contents) (kept : NodeRecord) (renewed : Renewed) (current : Current) : Type 0 where
  pub view : current.done.view ≡ view_renewed contents kept renewed
  pub height : current.done.height ≡ renewed.height
  pub high : current.done.height ≤ height_limit
  pub tight : current.tight ≡ renewed.tight
  pub valued : IsValued current.done.view

-- That, or why it may not stand.
abbrev pub IsStood : Contents → NodeRecord → Renewed → Option Current → Type 0
IsStood contents kept renewed None =
    (height_limit < renewed.height) ⊎ (¬ IsValued (view_renewed contents kept renewed))
IsStood contents kept renewed (Some current) = Stands contents kept renewed current
