-- Every text is answered.
use Rattle.std.proofs.Common.{◌≡◌, ℕ, List, ◌⊎◌, inl, inr, refl}
use Rattle.std.specs.Prelude.{Option, Some, None, IsSome, MatchOption}
use Rattle.object_values.specs.declared.nodes.Node.{Node}
use Rattle.object_values.specs.declared.calls.Call.{Call}
use Rattle.object_values.specs.declared.expressions.Expression.{Expression}
use Rattle.meaning_texts.specs.Expressions.{ExpressionText, IsFaultPlace}
use Rattle.meaning_texts.specs.Fronts.{fault_place}
use Rattle.meaning_texts.specs.Reading.{expression_of}
use Rattle.meaning_texts.proofs.Lemmas.{found, value_of_some}
use Rattle.meaning_graph.specs.Graphs.{Text, Graph}
use Rattle.meaning_tasks.specs.NodeOf.{NodeAnswer, is_node, unknown_param, unknown_type, no_path, node_of}
use Rattle.meaning_derive.specs.Derive.{Sources, Outcomes, derived, IsFounded}
use Rattle.meaning_derive.specs.Chains.{IsRefusal}
use Rattle.meaning_derive.proofs.Founded.{founded_or_chained}
use Rattle.object_values.specs.declared.replies.Reply.{Reply}
use Rattle.object_values.specs.declared.replies.Reply.TheVariants.{RefusedExpression, RefusedParam, RefusedType, RefusedPath}
use Rattle.meaning_derive.specs.Replies.{shown, refused_circular, refused_deep, plan_of}
use Rattle.meaning_derive.specs.Answers.{Refused, expression, param, type, path, Asks, Answer, refused, object, circular, deep, Plan, refused_plan, steps}

-- a refusal, or a node
refused_or_asks : (g : Graph) (text : Text) → ((e : Expression) × ExpressionText text e) ⊎ ((place : ℕ) × IsFaultPlace text place) → ((reply : Reply) × Refused g text reply) ⊎ ((n : Node) × Asks g text n)
refused_or_asks g text (inr f) = inl (RefusedExpression f.0, expression text f.0 f.1)
refused_or_asks g text (inl t) = by_node (node_of g t.0) refl
  where
    by_node : (a : NodeAnswer) → node_of g t.0 ≡ a → ((reply : Reply) × Refused g text reply) ⊎ ((n : Node) × Asks g text n)
    by_node (is_node n) e = inr (n, record { expression = t.0; is = t.1; node = e })
    by_node (unknown_param name) e = inl (RefusedParam name, param text t.0 name t.1 e)
    by_node (unknown_type name) e = inl (RefusedType name, type text t.0 name t.1 e)
    by_node (no_path k) e = inl (RefusedPath k, path text t.0 k t.1 e)

-- each text is one of an expression, or has the place of a fault
read_or_fault : (text : Text) → ((e : Expression) × ExpressionText text e) ⊎ ((place : ℕ) × IsFaultPlace text place)
read_or_fault text = by_read (expression_of text) (found text)
  where
    by_read : (o : Option Expression) → MatchOption o (IsFaultPlace text (fault_place text)) (ExpressionText text) → ((e : Expression) × ExpressionText text e) ⊎ ((place : ℕ) × IsFaultPlace text place)
    by_read None m = inr (fault_place text, m)
    by_read (Some e) m = inl (e, m)

pub each_answered : (g : Graph) (s : Sources) (outcomes : Outcomes) → ((call : Call) → IsSome (outcomes call)) → (text : Text) → (reply : Reply) × Answer g s outcomes text reply
each_answered g s outcomes total text = by_asks (refused_or_asks g text (read_or_fault text))
  where
    by_chain : (n : Node) → Asks g text n → (chain : List Node) → IsRefusal g (derived g s outcomes) n chain → (reply : Reply) × Answer g s outcomes text reply
    by_chain n a chain (inl c) = (refused_circular g chain, circular text n chain a c)
    by_chain n a chain (inr d) = (refused_deep g chain, deep text n chain a d)

    by_found : (n : Node) → Asks g text n → IsFounded g s outcomes n ⊎ ((chain : List Node) × IsRefusal g (derived g s outcomes) n chain) → (reply : Reply) × Answer g s outcomes text reply
    by_found n a (inl f) = let v = value_of_some (derived g s outcomes n) f in (shown g v.0, object text n v.0 a v.1)
    by_found n a (inr c) = by_chain n a c.0 c.1

    by_asks : ((reply : Reply) × Refused g text reply) ⊎ ((n : Node) × Asks g text n) → (reply : Reply) × Answer g s outcomes text reply
    by_asks (inl r) = (r.0, refused text r.0 r.1)
    by_asks (inr a) = by_found a.0 a.1 (founded_or_chained g s outcomes total a.0).one

pub each_planned : (g : Graph) (text : Text) → (reply : Reply) × Plan g text reply
each_planned g text = by_asks (refused_or_asks g text (read_or_fault text))
  where
    by_asks : ((reply : Reply) × Refused g text reply) ⊎ ((n : Node) × Asks g text n) → (reply : Reply) × Plan g text reply
    by_asks (inl r) = (r.0, refused_plan text r.0 r.1)
    by_asks (inr a) = (plan_of g a.0, steps text a.0 a.1)
