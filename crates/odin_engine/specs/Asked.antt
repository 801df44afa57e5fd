-- What a text asks for: a node that fits, or nothing, by the refusal of the text.
use Rattle.std.specs.Prelude.{◌≡◌, ⊤}
use Rattle.object_values.specs.declared.nodes.Node.{Node}
use Rattle.meaning_graph.specs.Graphs.{Text, Graph}
use Rattle.meaning_tasks.specs.Nodes.{Fits}
use Rattle.object_values.specs.declared.replies.Reply.TheVariants.{RefusedExpression, RefusedParam, RefusedType, RefusedPath}
use Rattle.meaning_derive.specs.Answers.{Refused, Asks}
use Rattle.request_parser.specs.declared.fault.ExpressionFault.{ExpressionFault}
use Rattle.request_parser.specs.declared.fault.ExpressionFault.TheVariants as unread
use Rattle.odin_nodes.specs.declared.fault.NodeFault.{NodeFault}
use Rattle.odin_nodes.specs.declared.fault.NodeFault.TheVariants as none
use Rattle.odin_engine.specs.declared.fault.AskFault.{AskFault}
use Rattle.odin_engine.specs.declared.fault.AskFault.TheVariants as fault

-- The text asks for the node.
pub record IsNodeOf (g : Graph) (text : Text) (n : Node) : Type 0 where
  pub asks : Asks g text n
  pub fits : Fits g n

-- The text is refused so. Want of memory says nothing of it, and there is no other fault.
abbrev pub IsRefusedFor : Graph → Text → AskFault → Type 0
IsRefusedFor g text (fault.Expression place) = Refused g text (RefusedExpression place)
IsRefusedFor g text (fault.UnknownType name) = Refused g text (RefusedType name)
IsRefusedFor g text (fault.UnknownParam name) = Refused g text (RefusedParam name)
IsRefusedFor g text (fault.Path step) = Refused g text (RefusedPath step)
IsRefusedFor g text fault.Memory = ⊤
IsRefusedFor g text other = ⊥

-- the fault of an ask whose text is no expression
abbrev pub IsFaultOf : ExpressionFault → AskFault → Type 0
IsFaultOf (unread.BadAt place) given = given ≡ fault.Expression place
IsFaultOf unread.Memory given = given ≡ fault.Memory

-- and of one whose expression has no node
abbrev pub IsStepFault : NodeFault → AskFault → Type 0
IsStepFault (none.UnknownParam name) given = given ≡ fault.UnknownParam name
IsStepFault (none.UnknownType name) given = given ≡ fault.UnknownType name
IsStepFault (none.NoPath step) given = given ≡ fault.Path step
IsStepFault none.Memory given = given ≡ fault.Memory
