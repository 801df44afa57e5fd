-- The order of types: which type serves as which other one.
use Rattle.std.specs.Prelude.{ℕ, zero, suc, Bool, List, [], length, Option, Some, None, ◌||◌, nat_eq, filter_map, slice_get}
use Rattle.std.specs.List.{list_any}
use Rattle.object_values.specs.declared.graph.TypeDecl.{TypeDecl}
use Rattle.meaning_texts.specs.Lists.{IsIn}
use Rattle.meaning_graph.specs.Graphs.{Graph, types, type_named}

abbrev pub supers_of : Graph → Option TypeDecl → List ℕ
supers_of g None = []
supers_of g (Some t) = filter_map (type_named g) t.supers

-- the supertypes that the type of a number names
abbrev pub supers : Graph → ℕ → List ℕ
supers g a = supers_of g (slice_get (types g) a)

-- a is a c: the reflexive and transitive closure of what is written
pub data IsA (g : Graph) : ℕ → ℕ → Type 0 where
  itself : (a : ℕ) → IsA g a a
  by_super : (a b c : ℕ) → IsIn b (supers g a) → IsA g b c → IsA g a c

-- by so many supertypes, one above the other, at most
abbrev pub is_a_within : Graph → ℕ → ℕ → ℕ → Bool
is_a_within g zero c a = nat_eq a c
is_a_within g (suc n) c a = nat_eq a c || list_any (is_a_within g n c) (supers g a)

-- whether a is a c: there are no more steps than types
unfoldable pub is_a : Graph → ℕ → ℕ → Bool
is_a g a c = is_a_within g (length (types g)) c a
