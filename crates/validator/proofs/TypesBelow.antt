-- The types to which steps lead are there.
use Rattle.std.proofs.Common.{◌≡◌, ℕ, ◌<◌, Bool, true, false, cond, List, [], ◌∷◌, length, is_some, refl, arith, slice_get}
use Rattle.std.specs.Prelude.{Option, Some, None, bytes_eq, find, unwrap_or}
use Rattle.std.proofs.lemmas.Option.{option_and_then_some}
use Rattle.object_values.specs.declared.nodes.Step.{Step}
use Rattle.object_values.specs.declared.nodes.Step.TheVariants.{Maker, Pick}
use Rattle.object_values.specs.declared.nodes.Node.{Node}
use Rattle.object_values.specs.declared.graph.Kind.{Kind}
use Rattle.object_values.specs.declared.graph.Kind.TheVariants.{Simple, List as ListOf, Compound}
use Rattle.object_values.specs.declared.graph.MakerDecl.{MakerDecl}
use Rattle.meaning_graph.specs.Graphs.{Text, Graph, types, makers, type_named, kind_of}
use Rattle.meaning_graph.specs.Suffixes.{source_type, suffix_type, suffix_of}
use Rattle.meaning_graph.specs.Types.{is_a}
use Rattle.meaning_graph.specs.Paths.{made_of}
use Rattle.meaning_graph.proofs.Lemmas.{named_below}
use Rattle.meaning_tasks.specs.Nodes.{element_number, picked_type, step_type, type_after, reached_type}

module _ (g : Graph) where
  or_text : (found : Option ℕ) → ((t : ℕ) → found ≡ Some t → t < length (types g)) → unwrap_or found 0 < length (types g)
  or_text None within = omega arith
  or_text (Some t) within = within t refl

  source_below : (name : Text) → source_type g name < length (types g)
  unfolding source_type
  source_below name = or_text (type_named g (suffix_type (suffix_of g name))) (named_below g (suffix_type (suffix_of g name)))

  named_if : (b : Bool) (o : Option ℕ) (c : ℕ) → cond b o None ≡ Some c → o ≡ Some c
  named_if true o c e = e
  named_if false o c e = cc

  made_below : (a : ℕ) (m : MakerDecl) (c : ℕ) → made_of g a m ≡ Some c → c < length (types g)
  made_below a m c e = option_and_then_some (λ taken. cond (is_a g a taken) (type_named g m.to) None) (type_named g m.from) c e (λ taken is made. named_below g m.to c (named_if (is_a g a taken) (type_named g m.to) c made))

  picked_below : (key : Text) (o : Option Kind) (c : ℕ) → picked_type g key o ≡ Some c → c < length (types g)
  picked_below key None c e = cc
  picked_below key (Some Simple) c e = cc
  picked_below key (Some (ListOf of)) c e = named_below g of c (named_if (is_some (element_number key)) (type_named g of) c e)
  picked_below key (Some (Compound parts)) c e = option_and_then_some (λ p. type_named g p.of) (find (λ p. bytes_eq p.name key) parts) c e (λ p is named. named_below g p.of c named)

  step_below : (a : ℕ) (s : Step) (c : ℕ) → step_type g a s ≡ Some c → c < length (types g)
  step_below a (Maker k) c e = option_and_then_some (made_of g a) (slice_get (makers g) k) c e (λ m is made. made_below a m c made)
  step_below a (Pick key) c e = picked_below key (kind_of g a) c e

  after_below : (o : Option ℕ) (steps : List Step) (c : ℕ) → ((a : ℕ) → o ≡ Some a → a < length (types g)) → type_after g o steps ≡ Some c → c < length (types g)
  after_below None steps c within e = cc
  after_below (Some a) [] c within e = within c e
  after_below (Some a) (s ∷ steps) c within e = after_below (step_type g a s) steps c (λ b is. step_below a s b is) e

  same_below : (n a b : ℕ) → a < n → Some a ≡ Some b → b < n
  same_below n a b h e = let q : a ≡ b = cc in omega (arith, h, q)

  pub reached_below : (n : Node) (t : ℕ) → reached_type g n ≡ Some t → t < length (types g)
  unfolding reached_type
  reached_below n t e = after_below (Some (source_type g n.source)) n.steps t (λ a is. same_below (length (types g)) (source_type g n.source) a (source_below n.source) is) e
