-- The grammar of graph files: the tokens of each declaration, the lists that have a spelling, and
-- the texts of a list.
use Rattle.std.specs.Prelude.{◌≡◌, ℕ, ◌<◌, List, [], ◌∷◌, ◌++◌, length, Option, Some, None, IfSome, codes, ⊤}
use Rattle.std.specs.List.{flat_map, All}
use Rattle.object_values.specs.declared.graph.PartDecl.{PartDecl}
use Rattle.object_values.specs.declared.graph.Kind.{Kind}
use Rattle.object_values.specs.declared.graph.Kind.TheVariants.{Simple, List as ListOf, Compound}
use Rattle.object_values.specs.declared.graph.TypeDecl.{TypeDecl}
use Rattle.object_values.specs.declared.graph.SuffixDecl.{SuffixDecl}
use Rattle.object_values.specs.declared.graph.Extra.{Extra}
use Rattle.object_values.specs.declared.graph.Extra.TheVariants.{Also, With}
use Rattle.object_values.specs.declared.graph.ToolDecl.{ToolDecl}
use Rattle.object_values.specs.declared.graph.Make.{Make}
use Rattle.object_values.specs.declared.graph.Make.TheVariants.{Tool, Read, Each, Pack}
use Rattle.object_values.specs.declared.graph.MakerDecl.{MakerDecl}
use Rattle.object_values.specs.declared.graph.Decl.{Decl}
use Rattle.object_values.specs.declared.graph.Decl.TheVariants.{ObjectType, Suffix, Param, Maker}
use Rattle.meaning_texts.specs.Classes.{IsId, IsName, IsWord, IsStringText}
use Rattle.meaning_texts.specs.Limits.{extra_bound}
use Rattle.meaning_graph.specs.Tokens.{Token, word, string, semicolon, comma, opening, closing, Tokens}

-- ---- the tokens of declarations

-- `ID { "," ID }`
abbrev pub id_tokens : List (List ℕ) → List Token
id_tokens [] = []
id_tokens (id ∷ []) = word id ∷ []
id_tokens (id ∷ next ∷ rest) = word id ∷ comma ∷ id_tokens (next ∷ rest)

-- `[ KEYWORD ID { "," ID } ]`
abbrev pub optional_tokens : List ℕ → List (List ℕ) → List Token
optional_tokens keyword [] = []
optional_tokens keyword (id ∷ rest) = word keyword ∷ id_tokens (id ∷ rest)

-- `ID ID { "," ID ID }`
abbrev pub part_tokens : List PartDecl → List Token
part_tokens [] = []
part_tokens (part ∷ []) = word part.name ∷ word part.of ∷ []
part_tokens (part ∷ next ∷ rest) = word part.name ∷ word part.of ∷ comma ∷ part_tokens (next ∷ rest)

abbrev pub kind_tokens : Kind → List (List ℕ) → List Token
kind_tokens Simple supers = word (codes "simple") ∷ optional_tokens (codes "is") supers
kind_tokens (ListOf of) supers =
    word (codes "list") ∷ word (codes "of") ∷ word of ∷ optional_tokens (codes "is") supers
kind_tokens (Compound parts) supers =
    word (codes "compound") ∷ opening ∷ (part_tokens parts ++ closing ∷ [])

abbrev pub string_tokens : List (List ℕ) → List Token
string_tokens [] = []
string_tokens (s ∷ rest) = string s ∷ string_tokens rest

abbrev pub extra_tokens : List Extra → List Token
extra_tokens [] = []
extra_tokens (Also id ∷ rest) = word (codes "also") ∷ word id ∷ extra_tokens rest
extra_tokens (With name ∷ rest) = word (codes "with") ∷ string name ∷ extra_tokens rest

abbrev pub closure_tokens : Option (List ℕ) → List Token
closure_tokens None = []
closure_tokens (Some id) = word (codes "closure") ∷ word id ∷ []

-- `"from" ID "to" ID`
abbrev pub way_tokens : MakerDecl → List Token
way_tokens m = word (codes "from") ∷ word m.from ∷ word (codes "to") ∷ word m.to ∷ []

abbrev pub tool_tokens : MakerDecl → ToolDecl → List Token
tool_tokens m tool =
    word (codes "tool") ∷ word m.name ∷ word tool.version
    ∷ (way_tokens m ++ word (codes "run")
    ∷ (string_tokens tool.words
    ++ (optional_tokens (codes "uses") tool.uses
    ++ (extra_tokens tool.extras ++ closure_tokens tool.closure))))

abbrev pub maker_tokens : MakerDecl → Make → List Token
maker_tokens m (Tool tool) = tool_tokens m tool
maker_tokens m Read = word (codes "read") ∷ word m.name ∷ way_tokens m
maker_tokens m Each = word (codes "each") ∷ word m.name ∷ way_tokens m
maker_tokens m Pack = word (codes "pack") ∷ word m.name ∷ way_tokens m

abbrev pub decl_tokens : Decl → List Token
decl_tokens (ObjectType t) = word (codes "type") ∷ word t.name ∷ kind_tokens t.kind t.supers
decl_tokens (Suffix s) = word (codes "suffix") ∷ word s.suffix ∷ word s.of ∷ []
decl_tokens (Param id) = word (codes "param") ∷ word id ∷ []
decl_tokens (Maker m) = maker_tokens m m.make

-- each declaration with its `;`
abbrev pub graph_tokens : List Decl → List Token
graph_tokens decls = flat_map (λ d. decl_tokens d ++ semicolon ∷ []) decls

-- ---- spellable lists

pub record IsSpellablePart (part : PartDecl) : Type 0 where
  pub name : IsId part.name
  pub of : IsId part.of

-- a compound has a part or more
pub record AreSpellableParts (parts : List PartDecl) : Type 0 where
  pub some : 0 < length parts
  pub each : All IsSpellablePart parts

abbrev pub IsSpellableKind : Kind → Type 0
IsSpellableKind Simple = ⊤
IsSpellableKind (ListOf of) = IsId of
IsSpellableKind (Compound parts) = AreSpellableParts parts

pub record IsSpellableType (t : TypeDecl) : Type 0 where
  pub name : IsId t.name
  pub kind : IsSpellableKind t.kind
  pub supers : All IsId t.supers

pub record IsSpellableSuffix (s : SuffixDecl) : Type 0 where
  pub suffix : IsWord s.suffix
  pub of : IsId s.of

abbrev pub IsSpellableExtra : Extra → Type 0
IsSpellableExtra (Also id) = IsId id
IsSpellableExtra (With name) = IsName name

-- a tool has a word or more, and not too many extras
pub record IsSpellableTool (tool : ToolDecl) : Type 0 where
  pub version : IsWord tool.version
  pub some : 0 < length tool.words
  pub words : All IsStringText tool.words
  pub uses : All IsId tool.uses
  pub few : length tool.extras < extra_bound
  pub extras : All IsSpellableExtra tool.extras
  pub closure : IfSome tool.closure IsId

abbrev pub IsSpellableMake : Make → Type 0
IsSpellableMake (Tool tool) = IsSpellableTool tool
IsSpellableMake other = ⊤

pub record IsSpellableMaker (m : MakerDecl) : Type 0 where
  pub name : IsId m.name
  pub make : IsSpellableMake m.make
  pub from : IsId m.from
  pub to : IsId m.to

abbrev pub IsSpellableDecl : Decl → Type 0
IsSpellableDecl (ObjectType t) = IsSpellableType t
IsSpellableDecl (Suffix s) = IsSpellableSuffix s
IsSpellableDecl (Param id) = IsId id
IsSpellableDecl (Maker m) = IsSpellableMaker m

-- Every word, name and string in it is of its class.
abbrev pub IsSpellable : List Decl → Type 0
IsSpellable decls = All IsSpellableDecl decls

-- ---- the texts of a list

-- the grammar has no supertypes for a compound
abbrev pub HasNoSupers : Kind → List (List ℕ) → Type 0
HasNoSupers (Compound parts) supers = supers ≡ []
HasNoSupers other supers = ⊤

abbrev pub IsInGrammar : Decl → Type 0
IsInGrammar (ObjectType t) = HasNoSupers t.kind t.supers
IsInGrammar other = ⊤

-- The list is one that the grammar can spell.
pub record HasSpelling (decls : List Decl) : Type 0 where
  pub spellable : IsSpellable decls
  pub grammar : All IsInGrammar decls

-- The text is a spelling of the list.
pub record GraphText (text : List ℕ) (decls : List Decl) : Type 0 where
  pub spelled : HasSpelling decls
  pub tokens : Tokens text (graph_tokens decls) []
