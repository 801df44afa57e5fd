-- What a node with steps gives itself is the same over all sources.
use Rattle.std.proofs.Common.{◌≡◌, ℕ, List, [], ◌∷◌, ap, ◌∙◌, sym, refl}
use Rattle.std.specs.Prelude.{Option, Some, None, slice_get}
use Rattle.object_values.specs.declared.nodes.Node.{Node}
use Rattle.object_values.specs.declared.nodes.Step.{Step}
use Rattle.object_values.specs.declared.nodes.Step.TheVariants.{Maker, Pick}
use Rattle.object_values.specs.declared.graph.Make.{Make}
use Rattle.object_values.specs.declared.graph.Make.TheVariants.{Tool, Read, Each, Pack}
use Rattle.object_values.specs.declared.graph.MakerDecl.{MakerDecl}
use Rattle.object_values.specs.declared.views.View.{View}
use Rattle.object_values.specs.declared.calls.Outcome.{Outcome}
use Rattle.meaning_graph.specs.Graphs.{Text, Graph, makers}
use Rattle.meaning_tasks.specs.Nodes.{last_step}
use Rattle.meaning_tasks.specs.Labels.{label_of}
use Rattle.meaning_tasks.specs.Tasks.{Own, Task, given, make_task, maker_task, step_task, task_of}
use Rattle.meaning_tasks.specs.Needs.{Results, Known, values_of, counted_needs}
use Rattle.meaning_tasks.specs.Settle.{SourceLookup, given_own, own_of, stepped_own, settled, Settles, SettlesWith}

not_empty : {A : Type 0} (x : A) (xs : List A) → x ∷ xs ≡ [] → ⊥
not_empty x xs e = cc

pub source_task : (g : Graph) (n : Node) → n.steps ≡ [] → task_of g n ≡ given n.source
unfolding task_of
source_task g n e = ap (λ steps. step_task g n (last_step steps)) e

module _ (label : Text) (texts : SourceLookup) (known : Known) (outcome : Option Outcome) where
  -- the task gives the same over these sources as over none
  abbrev IsFree : Task → Type 0
  IsFree task = stepped_own label task known outcome ≡ own_of label texts task known outcome

  make_free : (g : Graph) (n : Node) (m : MakerDecl) (make : Make) → IsFree (make_task g n m make)
  make_free g n m (Tool tool) = refl
  make_free g n m Read = refl
  make_free g n m Each = refl
  make_free g n m Pack = refl

  maker_free : (g : Graph) (n : Node) (o : Option MakerDecl) → IsFree (maker_task g n o)
  maker_free g n None = refl
  maker_free g n (Some m) = make_free g n m m.make

  step_free : (g : Graph) (n : Node) (step : Step) → IsFree (step_task g n (Some step))
  step_free g n (Pick key) = refl
  step_free g n (Maker k) = maker_free g n (slice_get (makers g) k)

  last_free : (g : Graph) (n : Node) (steps : List Step) → (steps ≡ [] → ⊥) → IsFree (step_task g n (last_step steps))
  last_free g n [] some = absurd (some refl)
  last_free g n (s ∷ []) some = step_free g n s
  last_free g n (s ∷ t ∷ steps) some = last_free g n (t ∷ steps) (λ e. not_empty t steps e)

  pub task_free : (g : Graph) (n : Node) → (n.steps ≡ [] → ⊥) → IsFree (task_of g n)
  unfolding task_of
  task_free g n some = last_free g n n.steps some

-- What a node gives itself is the same over sources that have the same text of its name, if it has no steps.
pub own_by_source : (g : Graph) (n : Node) (texts others : SourceLookup) (known : Known) (outcome : Option Outcome) → (n.steps ≡ [] → texts n.source ≡ others n.source) → own_of (label_of g n) texts (task_of g n) known outcome ≡ own_of (label_of g n) others (task_of g n) known outcome
own_by_source g n texts others known outcome same = by_steps n.steps refl
  where
    by_steps : (steps : List Step) → n.steps ≡ steps → own_of (label_of g n) texts (task_of g n) known outcome ≡ own_of (label_of g n) others (task_of g n) known outcome
    by_steps [] e =
        let task : task_of g n ≡ given n.source = source_task g n e in
        ap (λ t. own_of (label_of g n) texts t known outcome) task ∙ ap (given_own (label_of g n) n.source) (same e) ∙ sym (ap (λ t. own_of (label_of g n) others t known outcome) task)
    by_steps (s ∷ steps) e =
        let some : n.steps ≡ [] → ⊥ = λ q. not_empty s steps (sym e ∙ q) in
        sym (task_free (label_of g n) texts known outcome g n some) ∙ task_free (label_of g n) others known outcome g n some

-- What a node with steps settles to is the same over all sources.
pub settles_over_any : (g : Graph) (n : Node) (seen : Results) (outcome : Option Outcome) (own : Own) (view : View) (sources : ℕ) → (n.steps ≡ [] → ⊥) → SettlesWith g n seen outcome own view sources → (texts : SourceLookup) → Settles g texts n seen outcome view
settles_over_any g n seen outcome own view sources some s texts =
    let whole : own ≡ own_of (label_of g n) texts (task_of g n) (values_of seen) outcome = s.own ∙ task_free (label_of g n) texts (values_of seen) outcome g n some in
    record {
      names = s.names;
      reached = s.reached;
      is = s.view ∙ ap (λ o. settled seen o (counted_needs (task_of g n) (values_of seen) s.names)) whole;
    }
