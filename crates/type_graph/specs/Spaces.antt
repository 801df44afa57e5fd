-- The four spaces of names.
use Rattle.std.specs.Prelude.{◌+◌, List, [], ◌∷◌, ◌++◌, Option, Some, None, length, filter_map, codes}
use Rattle.object_values.specs.declared.graph.Decl.{Decl}
use Rattle.object_values.specs.declared.graph.Decl.TheVariants.{ObjectType, Suffix, Param, Maker}
use Rattle.meaning_graph.specs.Graphs.{Text, Graph, types, suffixes, params, makers}
use Rattle.type_graph.specs.declared.spaces.Space.{Space}
use Rattle.type_graph.specs.declared.spaces.Space.TheVariants.{Types, Suffixes, Params, Makers}
use Rattle.type_graph.specs.declared.spaces.Spaces.{Spaces}
use Rattle.type_graph.specs.declared.spaces.Counts.{Counts}
use Rattle.type_graph.specs.Places.{AreOf}

-- the name of a declaration, where it is one of the space
abbrev pub name_in : Space → Decl → Option Text
name_in Types (ObjectType t) = Some t.name
name_in Suffixes (Suffix s) = Some s.suffix
name_in Params (Param p) = Some p
name_in Makers (Maker m) = Some m.name
name_in space declaration = None

-- the names that are there before the first declaration
abbrev pub built_in : Space → List Text
built_in Types = codes "text" ∷ []
built_in space = []

-- the names of a space, by their numbers there
abbrev pub names_in : Space → Graph → List Text
names_in space g = built_in space ++ filter_map (name_in space) g

-- Each space has its names with their numbers.
pub record AreSpaces (g : Graph) (spaces : Spaces) : Type 0 where
  pub types_are : AreOf spaces.types (names_in Types g)
  pub suffixes_are : AreOf spaces.suffixes (names_in Suffixes g)
  pub params_are : AreOf spaces.params (names_in Params g)
  pub makers_are : AreOf spaces.makers (names_in Makers g)

-- how many names stand in each space
abbrev pub counts_of : Graph → Counts
counts_of g = record { types = length (types g); suffixes = length (suffixes g); params = length (params g); makers = length (makers g) }

-- the counts with one more declaration
abbrev pub counts_with : Counts → Decl → Counts
counts_with counts (ObjectType t) = record counts { types = counts.types + 1 }
counts_with counts (Suffix s) = record counts { suffixes = counts.suffixes + 1 }
counts_with counts (Param p) = record counts { params = counts.params + 1 }
counts_with counts (Maker m) = record counts { makers = counts.makers + 1 }
