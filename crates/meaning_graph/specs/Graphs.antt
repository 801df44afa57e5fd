-- A derivation graph as the list of its declarations: types and makers by number, and what a name
-- stands for. A name means its first declaration.
use Rattle.std.specs.Prelude.{ℕ, Bool, List, [], ◌∷◌, Option, Some, None, bytes_eq, filter_map, slice_get, position, codes, option_map, option_and_then}
use Rattle.std.specs.List.{list_any}
use Rattle.object_values.specs.declared.graph.Kind.{Kind}
use Rattle.object_values.specs.declared.graph.Kind.TheVariants.{Simple}
use Rattle.object_values.specs.declared.graph.TypeDecl.{TypeDecl}
use Rattle.object_values.specs.declared.graph.SuffixDecl.{SuffixDecl}
use Rattle.object_values.specs.declared.graph.MakerDecl.{MakerDecl}
use Rattle.object_values.specs.declared.graph.Decl.{Decl}
use Rattle.object_values.specs.declared.graph.Decl.TheVariants.{ObjectType, Suffix, Param, Maker}

-- bytes, of whatever text
abbrev pub Text : Type 0
Text = List ℕ

abbrev pub Graph : Type 0
Graph = List Decl

abbrev pub as_type : Decl → Option TypeDecl
as_type (ObjectType t) = Some t
as_type other = None

abbrev pub as_suffix : Decl → Option SuffixDecl
as_suffix (Suffix s) = Some s
as_suffix other = None

abbrev pub as_param : Decl → Option Text
as_param (Param p) = Some p
as_param other = None

abbrev pub as_maker : Decl → Option MakerDecl
as_maker (Maker m) = Some m
as_maker other = None

-- the type that is there before the first declaration
abbrev pub text_type : TypeDecl
text_type = record { name = codes "text"; kind = Simple; supers = [] }

-- the types, by their numbers: `text` is 0, the declared ones follow from 1
abbrev pub types : Graph → List TypeDecl
types g = text_type ∷ filter_map as_type g

-- the makers, by their numbers from 0
abbrev pub makers : Graph → List MakerDecl
makers g = filter_map as_maker g

abbrev pub suffixes : Graph → List SuffixDecl
suffixes g = filter_map as_suffix g

abbrev pub params : Graph → List Text
params g = filter_map as_param g

-- the number of the type that a name means, where there is one
abbrev pub type_named : Graph → Text → Option ℕ
type_named g name = position (λ t. bytes_eq t.name name) (types g)

abbrev pub has_param : Graph → Text → Bool
has_param g name = list_any (λ p. bytes_eq p name) (params g)

-- the kind of the type of a number
abbrev pub kind_of : Graph → ℕ → Option Kind
kind_of g t = option_map (λ d. d.kind) (slice_get (types g) t)

-- the kind of the type that a name means
abbrev pub kind_named : Graph → Text → Option Kind
kind_named g name = option_and_then (kind_of g) (type_named g name)
