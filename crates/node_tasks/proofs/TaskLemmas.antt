-- The task of a node by its last step.
use Rattle.std.proofs.Common.{◌≡◌, ℕ, true, false, sym, ap, ◌∙◌, is_some, slice_get}
use Rattle.std.specs.Prelude.{Some, None, option_and_then}
use Rattle.object_values.specs.declared.nodes.Step.TheVariants.{Maker, Pick}
use Rattle.object_values.specs.declared.nodes.Node.{Node}
use Rattle.object_values.specs.declared.graph.MakerDecl.{MakerDecl}
use Rattle.meaning_graph.specs.Graphs.{Text, Graph, makers}
use Rattle.meaning_graph.specs.Paths.{made_of}
use Rattle.meaning_tasks.specs.Nodes.{Fits, base_of, last_step, reached_type}
use Rattle.meaning_tasks.proofs.Lemmas.{base_fits}
use Rattle.meaning_tasks.specs.Tasks.{given, picked, make_task, maker_task, step_task, task_of}

pub given_task : (g : Graph) (n : Node) → last_step n.steps ≡ None → task_of g n ≡ given n.source
unfolding task_of
given_task g n last = ap (step_task g n) last

pub picked_task : (g : Graph) (n : Node) (key : Text) → last_step n.steps ≡ Some (Pick key) → task_of g n ≡ picked (base_of n) key
unfolding task_of
picked_task g n key last = ap (step_task g n) last

pub made_task : (g : Graph) (n : Node) (k : ℕ) (m : MakerDecl) → last_step n.steps ≡ Some (Maker k) → slice_get (makers g) k ≡ Some m → task_of g n ≡ make_task g n m m.make
unfolding task_of
made_task g n k m last found = ap (step_task g n) last ∙ ap (maker_task g n) found

-- the maker of a last step is there
pub maker_there : (g : Graph) (n : Node) (k : ℕ) → Fits g n → last_step n.steps ≡ Some (Maker k) → slice_get (makers g) k ≡ None → ⊥
maker_there g n k f last none =
    let base = base_fits g n (Maker k) f last in
    let untyped : is_some (reached_type g n) ≡ false = ap is_some (sym base.step ∙ ap (option_and_then (made_of g base.type)) none) in
    let typed : is_some (reached_type g n) ≡ true = f.typed in cc
