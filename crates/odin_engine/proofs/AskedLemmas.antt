-- What a text asks for, from its expression and what came of that.
use Rattle.std.proofs.Common.{◌≡◌, ◌<◌, ◌≤◌, ◌^◌, length, sym, subst, arith}
use Rattle.object_values.specs.declared.nodes.Node.{Node}
use Rattle.object_values.specs.declared.expressions.Expression.{Expression}
use Rattle.meaning_texts.specs.Expressions.{ExpressionText, IsCanonical}
use Rattle.meaning_texts.proofs.Lemmas.{canonical, few_steps}
use Rattle.meaning_graph.specs.Graphs.{Text, Graph}
use Rattle.meaning_tasks.specs.Nodes.{Fits}
use Rattle.meaning_tasks.specs.NodeOf.{is_node, node_of}
use Rattle.meaning_derive.specs.Answers.{Refused}
use Rattle.request_parser.specs.declared.fault.ExpressionFault.{ExpressionFault}
use Rattle.request_parser.specs.declared.fault.ExpressionFault.TheVariants as unread
use Rattle.request_parser.specs.Refused.{IsExpressionRefusal}
use Rattle.odin_nodes.specs.declared.fault.NodeFault.{NodeFault}
use Rattle.odin_nodes.specs.declared.fault.NodeFault.TheVariants as none
use Rattle.odin_nodes.specs.Refusals.{IsNodeRefusal}
use Rattle.odin_engine.specs.Asked.{IsNodeOf, IsRefusedFor, IsFaultOf, IsStepFault}
use Rattle.odin_engine.specs.declared.fault.AskFault.{AskFault}

-- the steps of an expression that was read can be numbered
pub numbered : (text : Text) (e : Expression) → ExpressionText text e → length e.steps < 2 ^ 32
numbered text e is = let few : length e.steps ≤ 1000 = few_steps text e is in omega (arith, few)

pub unread_refused : (g : Graph) (text : Text) (fault : ExpressionFault) (given : AskFault) → IsExpressionRefusal text fault → IsFaultOf fault given → IsRefusedFor g text given
unread_refused g text (unread.BadAt place) given is same = subst (IsRefusedFor g text) (sym same) (Refused.expression text place is)
unread_refused g text unread.Memory given is same = subst (IsRefusedFor g text) (sym same) tt

pub asks : (g : Graph) (e : Expression) (n : Node) → node_of g e ≡ is_node n → (IsCanonical e → Fits g n) → (text : Text) → ExpressionText text e → IsNodeOf g text n
asks g e n node fits text is = record { asks = record { expression = e; is = is; node = node }; fits = fits (canonical text e is) }

pub none_refused : (g : Graph) (e : Expression) (fault : NodeFault) (given : AskFault) → IsNodeRefusal g e fault → IsStepFault fault given → (text : Text) → ExpressionText text e → IsRefusedFor g text given
none_refused g e (none.UnknownParam name) given why same text is = subst (IsRefusedFor g text) (sym same) (Refused.param text e name is why)
none_refused g e (none.UnknownType name) given why same text is = subst (IsRefusedFor g text) (sym same) (Refused.type text e name is why)
none_refused g e (none.NoPath step) given why same text is = subst (IsRefusedFor g text) (sym same) (Refused.path text e step is why)
none_refused g e none.Memory given why same text is = subst (IsRefusedFor g text) (sym same) tt
