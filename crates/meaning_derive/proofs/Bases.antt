-- The task of a node that fits, by its last step.
use Rattle.std.proofs.Common.{◌≡◌, ℕ, Bool, true, false, List, [], ◌∷◌, sym, ap, refl, slice_get, cond, is_some}
use Rattle.std.specs.Prelude.{Option, Some, None, option_and_then}
use Rattle.object_values.specs.declared.nodes.Step.{Step}
use Rattle.object_values.specs.declared.nodes.Step.TheVariants.{Maker, Pick}
use Rattle.object_values.specs.declared.nodes.Node.{Node}
use Rattle.object_values.specs.declared.graph.MakerDecl.{MakerDecl}
use Rattle.object_values.specs.declared.graph.Decl.TheVariants.{Maker as MakerDeclared}
use Rattle.meaning_texts.specs.Classes.{IsName}
use Rattle.meaning_graph.specs.Graphs.{Text, Graph, makers, type_named}
use Rattle.meaning_texts.specs.Lists.{IsIn}
use Rattle.meaning_graph.specs.Suffixes.{source_type}
use Rattle.meaning_graph.specs.Types.{IsA, is_a}
use Rattle.meaning_graph.specs.Paths.{made_of}
use Rattle.meaning_texts.proofs.Lemmas.{all_in}
use Rattle.meaning_graph.proofs.Lemmas.{is_a_so}
use Rattle.meaning_tasks.specs.Nodes.{source_node, last_step, base_of, reached_type, HasKeyOfClass, Fits}
use Rattle.meaning_tasks.specs.Tasks.{Task, given, picked, make_task, maker_task, step_task, task_of}
use Rattle.meaning_tasks.proofs.Lemmas.{HasBase, base_fits}
use Rattle.meaning_derive.proofs.Rules.{maker_declared}

-- A node whose last step is this maker.
pub record AtMaker (g : Graph) (n : Node) (m : MakerDecl) : Type 0 where
  pub declared : IsIn (MakerDeclared m) g
  pub base : Fits g (base_of n)
  pub base_type : ℕ
  pub base_typed : reached_type g (base_of n) ≡ Some base_type
  pub taken : ℕ
  pub takes : type_named g m.from ≡ Some taken
  pub is : IsA g base_type taken
  pub typed : reached_type g n ≡ type_named g m.to

no_last : (steps : List Step) → last_step steps ≡ None → steps ≡ []
no_last [] e = refl
no_last (s ∷ []) e = cc
no_last (s ∷ t ∷ steps) e = let more : t ∷ steps ≡ [] = no_last (t ∷ steps) e in cc

-- a source node, or the same with parameters, fits by its name
pub source_fits : (g : Graph) (n : Node) (x : Text) → Fits g n → IsName x → Fits g (record n { source = x; steps = [] })
unfolding reached_type
source_fits g n x f h = record { source = h; params = f.params; keys = all_in HasKeyOfClass [] (λ s i. absurd i); typed = refl }

pub bare_fits : (g : Graph) (x : Text) → IsName x → Fits g (source_node x)
unfolding reached_type
bare_fits g x h = record { source = h; params = all_in _ [] (λ p i. absurd i); keys = all_in HasKeyOfClass [] (λ s i. absurd i); typed = refl }

pub source_typed : (g : Graph) (n : Node) → n.steps ≡ [] → reached_type g n ≡ Some (source_type g n.source)
unfolding reached_type
source_typed g n e = ap (λ l. Rattle.meaning_tasks.specs.Nodes.type_after g (Some (source_type g n.source)) l) e

module _ (g : Graph) (n : Node) (f : Fits g n) where
  by_made : (m : MakerDecl) (tb : ℕ) → Fits g (base_of n) → reached_type g (base_of n) ≡ Some tb → IsIn (MakerDeclared m) g → made_of g tb m ≡ reached_type g n → AtMaker g n m
  by_made m tb b typed d e = by_from (type_named g m.from) refl e
    where
      some : is_some (reached_type g n) ≡ true
      some = f.typed

      by_is : (taken : ℕ) → type_named g m.from ≡ Some taken → (t : Bool) → is_a g tb taken ≡ t → cond t (type_named g m.to) None ≡ reached_type g n → AtMaker g n m
      by_is taken q true r e = record { declared = d; base = b; base_type = tb; base_typed = typed; taken = taken; takes = q; is = is_a_so g tb taken r; typed = sym e }
      by_is taken q false r e = let none : is_some (reached_type g n) ≡ false = ap is_some (sym e) in cc

      by_from : (o : Option ℕ) → type_named g m.from ≡ o → option_and_then (λ taken. cond (is_a g tb taken) (type_named g m.to) None) o ≡ reached_type g n → AtMaker g n m
      by_from None q e = let none : is_some (reached_type g n) ≡ false = ap is_some (sym e) in cc
      by_from (Some taken) q e = by_is taken q (is_a g tb taken) refl e

  -- what holds of each task of a node that fits
  pub by_task : (P : Task → Type 0) → (n.steps ≡ [] → P (given n.source)) → ((key : Text) → HasBase g n (Pick key) → P (picked (base_of n) key)) → ((m : MakerDecl) → AtMaker g n m → P (make_task g n m m.make)) → P (task_of g n)
  unfolding task_of
  by_task P source pick maker = by_last (last_step n.steps) refl
    where
      by_maker : (k : ℕ) (b : HasBase g n (Maker k)) (o : Option MakerDecl) → slice_get (makers g) k ≡ o → option_and_then (made_of g b.type) o ≡ reached_type g n → P (maker_task g n o)
      by_maker k b None q e = let none : is_some (reached_type g n) ≡ false = ap is_some (sym e) in let some : is_some (reached_type g n) ≡ true = f.typed in cc
      by_maker k b (Some m) q e = maker m (by_made m b.type b.fits b.typed (maker_declared g k m q) e)

      by_last : (o : Option Step) → last_step n.steps ≡ o → P (step_task g n o)
      by_last None e = source (no_last n.steps e)
      by_last (Some (Pick key)) e = pick key (base_fits g n (Pick key) f e)
      by_last (Some (Maker k)) e = let b = base_fits g n (Maker k) f e in by_maker k b (slice_get (makers g) k) refl b.step
