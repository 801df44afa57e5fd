-- Types by their numbers: what their objects are, and their supertypes.
use Rattle.std.specs.Prelude.{◌≡◌, ℕ, Bool, true, false, List, Option, Some, None, filter_map, map, option_map, length, slice_index_or}
use Rattle.std.specs.List.{list_any, list_all}
use Rattle.std.specs.Option.{option_to_list}
use Rattle.object_values.specs.declared.graph.Extra.{Extra}
use Rattle.object_values.specs.declared.graph.Kind.{Kind}
use Rattle.object_values.specs.declared.graph.Kind.TheVariants as kind
use Rattle.object_values.specs.declared.graph.TypeDecl.{TypeDecl}
use Rattle.object_values.specs.declared.graph.MakerDecl.{MakerDecl}
use Rattle.object_values.specs.declared.graph.Decl.TheVariants.{ObjectType}
use Rattle.meaning_graph.specs.Graphs.{Text, Graph, types, type_named, kind_named}
use Rattle.meaning_graph.specs.Types.{is_a}
use Rattle.meaning_graph.specs.Checks.{is_known, also_type, super_fits, keeps_make, keeps_rules}
use Rattle.type_graph.specs.declared.context.Shape.{Shape}
use Rattle.type_graph.specs.declared.context.Shape.TheVariants as shape
use Rattle.type_graph.specs.declared.context.Kinds.{Kinds}

-- what a kind is, with the number of the type of a list's elements, where it has one
abbrev pub shape_of : (Text → Option ℕ) → Kind → Shape
shape_of number kind.Simple = shape.Simple
shape_of number (kind.List of) = shape.List (number of)
shape_of number (kind.Compound parts) = shape.Compound

-- the shape of each type
abbrev pub shapes_of : (Text → Option ℕ) → List TypeDecl → List Shape
shapes_of number ts = map (λ (t : TypeDecl). shape_of number t.kind) ts

-- the numbers of the supertypes of each type
abbrev pub supers_of_all : (Text → Option ℕ) → List TypeDecl → List (List ℕ)
supers_of_all number ts = map (λ (t : TypeDecl). filter_map number t.supers) ts

-- whether a supertype is a list whose elements are among the types of the row; elements that are nowhere declared fit
abbrev pub fits_by : List Bool → Option Shape → Bool
fits_by row (Some (shape.List None)) = true
fits_by row (Some (shape.List (Some elements))) = slice_index_or row elements false
fits_by row other = false

-- the objects of each type, and its supertypes, by the numbers of names
pub record AreKindsBy (number : Text → Option ℕ) (ts : List TypeDecl) (kinds : Kinds) : Type 0 where
  pub shapes_are : kinds.shapes ≡ shapes_of number ts
  pub supers_are : kinds.supers ≡ supers_of_all number ts

abbrev pub AreKinds : Graph → Kinds → Type 0
AreKinds g kinds = AreKindsBy (type_named g) (types g) kinds

-- what the objects of the type are that a name means
abbrev pub shape_named : Graph → Text → Option Shape
shape_named g name = option_map (shape_of (type_named g)) (kind_named g name)

-- The row says which types one of the starts is.
pub record IsRowAbove (g : Graph) (starts : List ℕ) (row : List Bool) : Type 0 where
  pub sized : length row ≡ length (types g)
  pub right : (number : ℕ) → slice_index_or row number false ≡ list_any (λ start. is_a g start number) starts

-- ---- the rules of kinds, rule by rule

abbrev pub fits_named : Graph → List Bool → Text → Bool
fits_named g row name = fits_by row (shape_named g name)

abbrev pub supers_fit : Graph → Kind → List Text → Bool
supers_fit g k supers = list_all (super_fits g k) supers

abbrev pub keeps_type : Graph → TypeDecl → Bool
keeps_type g t = keeps_rules g (ObjectType t)

abbrev pub maker_keeps : Graph → MakerDecl → Bool
maker_keeps g m = keeps_make g m.from m.to m.make

-- ---- the types that are named

abbrev pub knows_extra : Graph → Extra → Bool
knows_extra g extra = list_all (is_known g) (option_to_list (also_type extra))
