-- Paths of makers from type to type, and the chosen one.
use Rattle.std.specs.Prelude.{◌≡◌, ℕ, ◌⊎◌, List, [], ◌∷◌, length, Option, Some, None, cond, slice_get, filter_map, option_map, option_and_then}
use Rattle.object_values.specs.declared.graph.MakerDecl.{MakerDecl}
use Rattle.meaning_texts.specs.Lists.{numbered}
use Rattle.meaning_graph.specs.Graphs.{Graph, types, makers, type_named}
use Rattle.meaning_graph.specs.Types.{IsA, is_a}
use Rattle.meaning_graph.specs.Routes.{Edges, ComesBefore, least_route}

-- The maker of number k takes the type a, and makes the type `to`.
pub record Makes (g : Graph) (a k to : ℕ) : Type 0 where
  pub maker : MakerDecl
  pub taken : ℕ
  pub numbered : slice_get (makers g) k ≡ Some maker
  pub takes : type_named g maker.from ≡ Some taken
  pub fits : IsA g a taken
  pub makes : type_named g maker.to ≡ Some to

-- The makers fit one after the other from the type a to the type b.
abbrev pub Path : Graph → ℕ → ℕ → List ℕ → Type 0
Path g a b [] = IsA g a b
Path g a b (k ∷ ks) = (to : ℕ) × Makes g a k to × Path g to b ks

-- A path, and every other one is longer, or as long and greater in maker numbers at the first
-- difference.
pub record Chosen (g : Graph) (a b : ℕ) (p : List ℕ) : Type 0 where
  pub path : Path g a b p
  pub least : (q : List ℕ) → Path g a b q → (q ≡ p) ⊎ ComesBefore p q

abbrev pub HasNoPath : Graph → ℕ → ℕ → Type 0
HasNoPath g a b = (q : List ℕ) → Path g a b q → ⊥

-- what a maker makes of the type a, where it takes it
abbrev pub made_of : Graph → ℕ → MakerDecl → Option ℕ
made_of g a m =
    option_and_then (λ taken. cond (is_a g a taken) (type_named g m.to) None) (type_named g m.from)

-- the makers that take the type, each with the type that it makes
abbrev pub maker_edges : Graph → Edges ℕ
maker_edges g a =
    filter_map (λ e. option_map (λ to. (e.0, to)) (made_of g a e.1)) (numbered 0 (makers g))

-- The chosen path: the least one, of no more makers than there are types.
unfoldable pub chosen_path : Graph → ℕ → ℕ → Option (List ℕ)
chosen_path g a b = least_route (maker_edges g) (λ c. is_a g c b) (length (types g)) a
