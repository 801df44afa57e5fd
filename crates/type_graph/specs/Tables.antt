-- The tables that belong to the declarations of a graph.
use Rattle.std.specs.Prelude.{◌≡◌, ℕ, ◌<◌, ◌≤◌, List, Option, Some, map, length, slice_get, unwrap_or, option_and_then}
use Rattle.object_values.specs.declared.graph.TypeDecl.{TypeDecl}
use Rattle.object_values.specs.declared.graph.SuffixDecl.{SuffixDecl}
use Rattle.object_values.specs.declared.graph.MakerDecl.{MakerDecl}
use Rattle.meaning_texts.specs.Limits.{declaration_limit}
use Rattle.meaning_graph.specs.Graphs.{Text, Graph, types, suffixes, params, makers, type_named, as_maker}
use Rattle.meaning_graph.specs.Types.{is_a}
use Rattle.meaning_graph.specs.Checks.{Checked}
use Rattle.type_graph.specs.declared.context.Kinds.{Kinds}
use Rattle.type_graph.specs.declared.spaces.Spaces.{Spaces}
use Rattle.type_graph.specs.declared.tables.Numbers.{Numbers}
use Rattle.type_graph.specs.declared.tables.Tables.{Tables}
use Rattle.type_graph.specs.declared.rows.Rows.{Rows}
use Rattle.type_graph.specs.Places.{AreOf}
use Rattle.type_graph.specs.Rows.{AreFor, answer}
use Rattle.type_graph.specs.Shapes.{AreKinds}
use Rattle.type_graph.specs.Spaces.{AreSpaces}

abbrev pub type_names : Graph → List Text
type_names g = map (λ (t : TypeDecl). t.name) (types g)

abbrev pub suffix_names : Graph → List Text
suffix_names g = map (λ (s : SuffixDecl). s.suffix) (suffixes g)

-- the number of the type of a suffix: that of `text` where it names no declared type
abbrev pub suffix_number : Graph → SuffixDecl → ℕ
suffix_number g s = unwrap_or (type_named g s.of) 0

abbrev pub suffix_types : Graph → List ℕ
suffix_types g = map (suffix_number g) (suffixes g)

-- the maker that is declared at a place
abbrev pub maker_at : Graph → ℕ → Option MakerDecl
maker_at g place = option_and_then as_maker (slice_get g place)

-- The places of the makers, in order.
abbrev pub ArePlacesOfMakers : Graph → List ℕ → Type 0
ArePlacesOfMakers g places = map (maker_at g) places ≡ map Some (makers g)

-- The rows answer as the order of types does.
pub record AreRows (g : Graph) (rows : Rows) : Type 0 where
  pub counted : rows.count ≡ length (types g)
  pub fits : AreFor rows.count rows.width rows.words.items
  pub right : (a b : ℕ) → a < length (types g) → b < length (types g) → answer rows a b ≡ is_a g a b

-- The tables by number.
pub record AreNumbers (g : Graph) (numbers : Numbers) : Type 0 where
  pub ends_are : numbers.suffix_types ≡ suffix_types g
  pub makers_are : ArePlacesOfMakers g numbers.maker_places

-- The names that a graph is asked for have their numbers.
pub record AreNamed (g : Graph) (spaces : Spaces) : Type 0 where
  pub types_are : AreOf spaces.types (type_names g)
  pub params_are : AreOf spaces.params (params g)
  pub suffixes_are : AreOf spaces.suffixes (suffix_names g)

-- The declarations are checked, and so not too many.
pub record AreChecked (g : Graph) : Type 0 where
  pub checked : Checked g
  pub few : length g ≤ declaration_limit

-- The declarations are checked, and the tables belong to them.
pub record AreTables (g : Graph) (tables : Tables) : Type 0 where
  pub sound : AreChecked g
  pub named : AreNamed g tables.spaces
  pub numbered : AreNumbers g tables.numbers
  pub ordered : AreRows g tables.rows

-- What belongs to the declarations before they are checked. Rows are kept of no more than are accepted.
pub record IsContext (g : Graph) (spaces : Spaces) (kinds : Kinds) (rows : Rows) : Type 0 where
  pub spaces_are : AreSpaces g spaces
  pub kinds_are : AreKinds g kinds
  pub rows_are : length g ≤ declaration_limit → AreRows g rows
