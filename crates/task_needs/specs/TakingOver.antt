-- What is taken over from needs.
use Rattle.std.specs.Prelude.{◌≡◌, ◌&&◌, List}
use Rattle.object_values.specs.declared.nodes.Node.{Node}
use Rattle.meaning_tasks.specs.Needs.{Results, values_of}
use Rattle.meaning_tasks.specs.Calls.{all_valued}
use Rattle.meaning_tasks.specs.Settle.{messages_of, worst_of}
use Rattle.odin_nodes.specs.Inheriting.{Inherits}
use Rattle.task_needs.specs.declared.taken.Taken.{Taken}

-- The needs are taken over beside what was there: whether all have values, the worst status, and
-- the messages after those that were there.
pub record TakesOver (seen : Results) (needs : List Node) (old new : Taken) : Type 0 where
  pub valued : new.valued ≡ (old.valued && all_valued (values_of seen) needs)
  pub status : new.status ≡ worst_of seen old.status needs
  pub messages : Inherits old.messages (messages_of seen needs) new.messages
