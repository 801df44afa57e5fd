-- What a text of a node is answered with.
use Rattle.std.proofs.Common.{◌≡◌, ◌⊎◌, inl, inr, sym, ap, ◌∙◌, subst, refl, is_some}
use Rattle.std.specs.Prelude.{ℕ, Option, Some, None}
use Rattle.object_values.specs.declared.expressions.Expression.{Expression}
use Rattle.meaning_texts.specs.Expressions.{ExpressionText, IsFaultPlace}
use Rattle.object_values.specs.declared.nodes.Node.{Node}
use Rattle.object_values.specs.declared.views.View.{View}
use Rattle.meaning_graph.specs.Graphs.{Text, Graph}
use Rattle.meaning_texts.proofs.Lemmas.{same_some, some_is_none, no_expression, one_place, one_expression}
use Rattle.meaning_tasks.specs.NodeOf.{NodeAnswer, is_node, unknown_param, unknown_type, no_path, node_of}
use Rattle.meaning_derive.specs.Derive.{Sources, Outcomes, derived}
use Rattle.meaning_derive.specs.Chains.{IsCircular, IsDeep}
use Rattle.meaning_derive.proofs.Founded.{no_chain}
use Rattle.object_values.specs.declared.replies.Reply.{Reply}
use Rattle.object_values.specs.declared.replies.Reply.TheVariants.{RefusedExpression, RefusedParam, RefusedType, RefusedPath}
use Rattle.meaning_derive.specs.Replies.{shown, plan_of}
use Rattle.meaning_derive.specs.Answers.{Refused, expression, param, type, path, Asks, Answer, refused, object, circular, deep, Plan, refused_plan, steps}
use Rattle.meaning_derive.specs.AnswerLaws.{ShowsChain, circular_chain, deep_chain, BothShowChains}

-- a text of a node isn't refused
pub not_refused : (g : Graph) (text : Text) (reply : Reply) (n : Node) → Asks g text n → Refused g text reply → ⊥
not_refused g text reply n a (expression t place f) = no_expression t place a.expression f a.is
not_refused g text reply n a (param t e name x q) = let same : a.expression ≡ e = one_expression t e a.expression x a.is in let bad : is_node n ≡ unknown_param name = sym a.node ∙ ap (node_of g) same ∙ q in cc
not_refused g text reply n a (type t e name x q) = let same : a.expression ≡ e = one_expression t e a.expression x a.is in let bad : is_node n ≡ unknown_type name = sym a.node ∙ ap (node_of g) same ∙ q in cc
not_refused g text reply n a (path t e step x q) = let same : a.expression ≡ e = one_expression t e a.expression x a.is in let bad : is_node n ≡ no_path step = sym a.node ∙ ap (node_of g) same ∙ q in cc

pub one_node : (g : Graph) (text : Text) (n m : Node) → Asks g text n → Asks g text m → m ≡ n
one_node g text n m a b = let same : b.expression ≡ a.expression = one_expression text a.expression b.expression a.is b.is in let nodes : is_node m ≡ is_node n = sym b.node ∙ ap (node_of g) same ∙ a.node in cc

pub founded_shown : (g : Graph) (s : Sources) (outcomes : Outcomes) (text : Text) (reply : Reply) (n : Node) (view : View) → Asks g text n → derived g s outcomes n ≡ Some view → Answer g s outcomes text reply → reply ≡ shown g view
founded_shown g s outcomes text reply n view a e (refused t r x) = absurd (not_refused g t r n a x)
founded_shown g s outcomes text reply n view a e (object t m other b q) = ap (shown g) (same_some (sym q ∙ ap (derived g s outcomes) (one_node g t n m a b) ∙ e))
founded_shown g s outcomes text reply n view a e (circular t m chain b c) = absurd (no_chain g s outcomes n (ap is_some e) chain (inl (subst (λ z. IsCircular g (derived g s outcomes) z chain) (one_node g t n m a b) c)))
founded_shown g s outcomes text reply n view a e (deep t m chain b d) = absurd (no_chain g s outcomes n (ap is_some e) chain (inr (subst (λ z. IsDeep g (derived g s outcomes) z chain) (one_node g t n m a b) d)))

pub others_chained : (g : Graph) (s : Sources) (outcomes : Outcomes) (text : Text) (reply : Reply) (n : Node) → Asks g text n → derived g s outcomes n ≡ None → Answer g s outcomes text reply → ShowsChain g s outcomes n reply
others_chained g s outcomes text reply n a e (refused t r x) = absurd (not_refused g t r n a x)
others_chained g s outcomes text reply n a e (object t m view b q) = some_is_none (derived g s outcomes n) view (ap (derived g s outcomes) (sym (one_node g t n m a b)) ∙ q) e
others_chained g s outcomes text reply n a e (circular t m chain b c) = circular_chain chain (subst (λ z. IsCircular g (derived g s outcomes) z chain) (one_node g t n m a b) c)
others_chained g s outcomes text reply n a e (deep t m chain b d) = deep_chain chain (subst (λ z. IsDeep g (derived g s outcomes) z chain) (one_node g t n m a b) d)

-- ---- one refusal, one plan, one answer

-- the refusal of what isn't a node
abbrev refusal_of : NodeAnswer → Option Reply
refusal_of (is_node n) = None
refusal_of (unknown_param name) = Some (RefusedParam name)
refusal_of (unknown_type name) = Some (RefusedType name)
refusal_of (no_path step) = Some (RefusedPath step)

record IsFaulty (text : Text) (reply : Reply) : Type 0 where
  place : ℕ
  fault : IsFaultPlace text place
  is : reply ≡ RefusedExpression place

record HasNoNode (g : Graph) (text : Text) (reply : Reply) : Type 0 where
  expression : Expression
  read : ExpressionText text expression
  is : refusal_of (node_of g expression) ≡ Some reply

why_refused : (g : Graph) (text : Text) (reply : Reply) → Refused g text reply → IsFaulty text reply ⊎ HasNoNode g text reply
why_refused g text reply (expression t place f) = inl (record { place = place; fault = f; is = refl })
why_refused g text reply (param t e name x q) = inr (record { expression = e; read = x; is = ap refusal_of q })
why_refused g text reply (type t e name x q) = inr (record { expression = e; read = x; is = ap refusal_of q })
why_refused g text reply (path t e step x q) = inr (record { expression = e; read = x; is = ap refusal_of q })

pub one_refusal : (g : Graph) (text : Text) (reply other : Reply) → Refused g text reply → Refused g text other → other ≡ reply
one_refusal g text reply other x y = elim (why_refused g text reply x) [
  | inl f ↦ elim (why_refused g text other y) [
    | inl k ↦ k.is ∙ ap RefusedExpression (one_place text f.place k.place f.fault k.fault) ∙ sym f.is
    | inr k ↦ absurd (no_expression text f.place k.expression f.fault k.read)
  ]
  | inr f ↦ elim (why_refused g text other y) [
    | inl k ↦ absurd (no_expression text k.place f.expression k.fault f.read)
    | inr k ↦ same_some (sym k.is ∙ ap (λ e. refusal_of (node_of g e)) (one_expression text f.expression k.expression f.read k.read) ∙ f.is)
  ]
]

pub one_plan : (g : Graph) (text : Text) (reply other : Reply) → Plan g text reply → Plan g text other → other ≡ reply
one_plan g text reply other (refused_plan t r x) (refused_plan u q y) = one_refusal g text reply other x y
one_plan g text reply other (refused_plan t r x) (steps u m b) = absurd (not_refused g text reply m b x)
one_plan g text reply other (steps t n a) (refused_plan u q y) = absurd (not_refused g text other n a y)
one_plan g text reply other (steps t n a) (steps u m b) = ap (plan_of g) (one_node g text n m a b)

module _ (g : Graph) (s : Sources) (outcomes : Outcomes) (text : Text) where
  answer_by_chain : (reply : Reply) (n : Node) → Asks g text n → ShowsChain g s outcomes n reply → Answer g s outcomes text reply
  answer_by_chain reply n a (circular_chain chain c) = circular text n chain a c
  answer_by_chain reply n a (deep_chain chain d) = deep text n chain a d

  -- an answer beside one that shows a chain
  beside_chain : (reply other : Reply) (n : Node) → Asks g text n → ShowsChain g s outcomes n reply → Answer g s outcomes text other → (other ≡ reply) ⊎ BothShowChains g s outcomes text reply other
  beside_chain reply other n a c (refused t r x) = absurd (not_refused g text other n a x)
  beside_chain reply other n a c (object t m view b q) = inl (sym (founded_shown g s outcomes text reply m view b q (answer_by_chain reply n a c)))
  beside_chain reply other n a c (circular t m chain b k) =
      inr (record { node = n; asked = a; one = c; another = circular_chain chain (subst (λ z. IsCircular g (derived g s outcomes) z chain) (one_node g text n m a b) k) })
  beside_chain reply other n a c (deep t m chain b k) =
      inr (record { node = n; asked = a; one = c; another = deep_chain chain (subst (λ z. IsDeep g (derived g s outcomes) z chain) (one_node g text n m a b) k) })

  -- an answer beside a refusal
  beside_refusal : (reply other : Reply) → Refused g text reply → Answer g s outcomes text other → other ≡ reply
  beside_refusal reply other x (refused t r y) = one_refusal g text reply other x y
  beside_refusal reply other x (object t m view b q) = absurd (not_refused g text reply m b x)
  beside_refusal reply other x (circular t m chain b k) = absurd (not_refused g text reply m b x)
  beside_refusal reply other x (deep t m chain b k) = absurd (not_refused g text reply m b x)

pub one_answer : (g : Graph) (s : Sources) (outcomes : Outcomes) (text : Text) (reply other : Reply) → Answer g s outcomes text reply → Answer g s outcomes text other → (other ≡ reply) ⊎ BothShowChains g s outcomes text reply other
one_answer g s outcomes text reply other (refused t r x) y = inl (beside_refusal g s outcomes text reply other x y)
one_answer g s outcomes text reply other (object t n view a q) y = inl (founded_shown g s outcomes text other n view a q y)
one_answer g s outcomes text reply other (circular t n chain a c) y = beside_chain g s outcomes text reply other n a (circular_chain chain c) y
one_answer g s outcomes text reply other (deep t n chain a d) y = beside_chain g s outcomes text reply other n a (deep_chain chain d) y
