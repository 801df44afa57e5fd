-- The reply to a text that asks for steps, by its text or as a refusal.
use Rattle.std.specs.Prelude.{◌≡◌}
use Rattle.object_values.specs.declared.nodes.Node.{Node}
use Rattle.meaning_graph.specs.Graphs.{Text, Graph}
use Rattle.meaning_commands.specs.Replies.{reply_text}
use Rattle.meaning_derive.specs.Replies.{plan_of}
use Rattle.meaning_derive.specs.Answers.{Refused, Asks}
use Rattle.odin_answers.specs.declared.plan.Planned.{Planned}
use Rattle.odin_answers.specs.declared.plan.Planned.TheVariants as planned

-- The bytes are the text of the steps to a node that the text asks for.
pub record HasSteps (g : Graph) (text bytes : Text) : Type 0 where
  pub node : Node
  pub asks : Asks g text node
  pub bytes_are : bytes ≡ reply_text (plan_of g node)

abbrev pub IsPlanned : Graph → Text → Planned → Type 0
IsPlanned g text (planned.Steps bytes) = HasSteps g text bytes
IsPlanned g text (planned.Refused reply) = Refused g text reply
