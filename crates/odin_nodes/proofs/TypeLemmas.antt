-- Types after steps: they are there, and a list of steps is followed from its front.
use Rattle.std.proofs.Common.{◌≡◌, ℕ, zero, suc, ◌+◌, ◌<◌, ◌≤◌, Bool, true, false, cond, ◌&&◌, List, [], ◌∷◌, length, get_or, drop, map, is_some, refl, sym, ap, ◌∙◌, subst, arith, slice_get}
use Rattle.std.specs.Prelude.{Option, Some, None, bytes_eq, find, unwrap_or}
use Rattle.std.proofs.lemmas.List.{at_drop_more, at_drop_all, length-map}
use Rattle.std.proofs.lemmas.Option.{option_and_then_some}
use Rattle.object_values.specs.declared.nodes.Step.{Step}
use Rattle.object_values.specs.declared.nodes.Step.TheVariants.{Maker, Pick}
use Rattle.object_values.specs.declared.nodes.Node.{Node}
use Rattle.object_values.specs.declared.graph.Kind.{Kind}
use Rattle.object_values.specs.declared.graph.Kind.TheVariants.{Simple, List as ListOf, Compound}
use Rattle.object_values.specs.declared.graph.MakerDecl.{MakerDecl}
use Rattle.meaning_graph.specs.Graphs.{Text, Graph, types, makers, type_named, kind_of}
use Rattle.meaning_graph.specs.Suffixes.{source_type, suffix_type, suffix_of}
use Rattle.meaning_graph.specs.Types.{is_a}
use Rattle.meaning_graph.specs.Paths.{made_of}
use Rattle.meaning_graph.proofs.Lemmas.{named_below}
use Rattle.meaning_tasks.specs.Nodes.{element_number, picked_type, step_type, type_after, reached_type, type_of}
use Rattle.odin_nodes.specs.Words.{has_words_of_class}

-- ---- types that are there

or_text : (g : Graph) (found : Option ℕ) → ((t : ℕ) → found ≡ Some t → t < length (types g)) → unwrap_or found 0 < length (types g)
or_text g None within = omega arith
or_text g (Some t) within = within t refl

pub source_below : (g : Graph) (name : Text) → source_type g name < length (types g)
unfolding source_type
source_below g name = or_text g (type_named g (suffix_type (suffix_of g name))) (named_below g (suffix_type (suffix_of g name)))

named_if : (b : Bool) (o : Option ℕ) (c : ℕ) → cond b o None ≡ Some c → o ≡ Some c
named_if true o c e = e
named_if false o c e = cc

made_below : (g : Graph) (a : ℕ) (m : MakerDecl) (c : ℕ) → made_of g a m ≡ Some c → c < length (types g)
made_below g a m c e = option_and_then_some (λ taken. cond (is_a g a taken) (type_named g m.to) None) (type_named g m.from) c e (λ taken is made. named_below g m.to c (named_if (is_a g a taken) (type_named g m.to) c made))

picked_below : (g : Graph) (key : Text) (o : Option Kind) (c : ℕ) → picked_type g key o ≡ Some c → c < length (types g)
picked_below g key None c e = cc
picked_below g key (Some Simple) c e = cc
picked_below g key (Some (ListOf of)) c e = named_below g of c (named_if (is_some (element_number key)) (type_named g of) c e)
picked_below g key (Some (Compound parts)) c e = option_and_then_some (λ p. type_named g p.of) (find (λ p. bytes_eq p.name key) parts) c e (λ p is named. named_below g p.of c named)

-- what a step leads to is there
pub step_below : (g : Graph) (a : ℕ) (s : Step) (c : ℕ) → step_type g a s ≡ Some c → c < length (types g)
step_below g a (Maker k) c e = option_and_then_some (made_of g a) (slice_get (makers g) k) c e (λ m is made. made_below g a m c made)
step_below g a (Pick key) c e = picked_below g key (kind_of g a) c e

after_below : (g : Graph) (o : Option ℕ) (steps : List Step) (c : ℕ) → ((a : ℕ) → o ≡ Some a → a < length (types g)) → type_after g o steps ≡ Some c → c < length (types g)
after_below g None steps c within e = cc
after_below g (Some a) [] c within e = within c e
after_below g (Some a) (s ∷ steps) c within e = after_below g (step_type g a s) steps c (λ b is. step_below g a s b is) e

same_below : (n a b : ℕ) → a < n → Some a ≡ Some b → b < n
same_below n a b h e = let q : a ≡ b = cc in omega (arith, h, q)

-- the type of a node is there
pub reached_below : (g : Graph) (n : Node) (t : ℕ) → reached_type g n ≡ Some t → t < length (types g)
unfolding reached_type
reached_below g n t e = after_below g (Some (source_type g n.source)) n.steps t (λ a is. same_below (length (types g)) (source_type g n.source) a (source_below g n.source) is) e

-- ---- step by step

-- So many steps are followed: the type after them is there, and the others go on from it.
pub record IsFollowed (g : Graph) (from : ℕ) (steps : List Step) (i at : ℕ) : Type 0 where
  pub within : at < length (types g)
  pub left : type_after g (Some from) steps ≡ type_after g (Some at) (drop i steps)

module _ (g : Graph) (from : ℕ) (steps : List Step) where
  pub none_followed : from < length (types g) → IsFollowed g from steps 0 from
  none_followed h = record { within = h; left = refl }

  step_left : (i at : ℕ) (s : Step) (o : Option ℕ) → IsFollowed g from steps i at → i < length steps → s ≡ get_or steps i s → o ≡ step_type g at s → type_after g (Some from) steps ≡ type_after g o (drop (i + 1) steps)
  step_left i at s o w below is e =
      w.left ∙ at_drop_more (type_after g (Some at)) steps i s below
      ∙ ap (λ x. type_after g (step_type g at x) (drop (i + 1) steps)) (sym is)
      ∙ ap (λ p. type_after g p (drop (i + 1) steps)) (sym e)

  pub step_followed : (i at : ℕ) (s : Step) (next : ℕ) → IsFollowed g from steps i at → i < length steps → s ≡ get_or steps i s → Some next ≡ step_type g at s → IsFollowed g from steps (i + 1) next
  step_followed i at s next w below is e = record { within = step_below g at s next (sym e); left = step_left i at s (Some next) w below is e }

  pub not_followed : (i at : ℕ) (s : Step) → IsFollowed g from steps i at → i < length steps → s ≡ get_or steps i s → None ≡ step_type g at s → None ≡ type_after g (Some from) steps
  not_followed i at s w below is e = sym (step_left i at s None w below is e)

  pub all_followed : (i at : ℕ) → IsFollowed g from steps i at → length steps ≤ i → Some at ≡ type_after g (Some from) steps
  all_followed i at w past = sym (w.left ∙ at_drop_all (type_after g (Some at)) steps i past)

-- ---- maker by maker

maker_at : (path : List ℕ) (i : ℕ) (s : Step) → i < length path → Maker (get_or path i 0) ≡ get_or (map Maker path) i s
maker_at [] i s h = absurd (omega (arith, h))
maker_at (k ∷ path) zero s h = refl
maker_at (k ∷ path) (suc i) s h = maker_at path i s (omega (arith, h))

module _ (g : Graph) (from : ℕ) (path : List ℕ) (i at : ℕ) (w : IsFollowed g from (map Maker path) i at) (below : i < length path) where
  within_steps : i < length (map Maker path)
  within_steps = subst (λ n. i < n) (sym (length-map path Maker)) below

  pub maker_followed : (next : ℕ) → Some next ≡ step_type g at (Maker (get_or path i 0)) → IsFollowed g from (map Maker path) (i + 1) next
  maker_followed next e = step_followed g from (map Maker path) i at (Maker (get_or path i 0)) next w within_steps (maker_at path i (Maker (get_or path i 0)) below) e

  pub maker_not_followed : None ≡ step_type g at (Maker (get_or path i 0)) → None ≡ type_after g (Some from) (map Maker path)
  maker_not_followed e = not_followed g from (map Maker path) i at (Maker (get_or path i 0)) w within_steps (maker_at path i (Maker (get_or path i 0)) below) e

-- ---- the type of a node

typed_by : (words : Bool) (o : Option ℕ) → cond (words && is_some o) o None ≡ cond words o None
typed_by true None = refl
typed_by true (Some t) = refl
typed_by false o = refl

-- where the words are of their classes, it is the type to which the steps lead
type_by_words : (g : Graph) (n : Node) → type_of g n ≡ cond (has_words_of_class n) (reached_type g n) None
type_by_words g n = typed_by (has_words_of_class n) (reached_type g n)

pub type_is_reached : (g : Graph) (n : Node) → true ≡ has_words_of_class n → type_of g n ≡ reached_type g n
type_is_reached g n words = type_by_words g n ∙ ap (λ b. cond b (reached_type g n) None) (sym words)

pub no_type : (g : Graph) (n : Node) → false ≡ has_words_of_class n → None ≡ type_of g n
no_type g n words = sym (type_by_words g n ∙ ap (λ b. cond b (reached_type g n) None) (sym words))
