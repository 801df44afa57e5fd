-- What was read, where its tokens stand in the text, and where a reading that goes on from there may stop.
use Rattle.std.specs.Prelude.{◌≡◌, ℕ, IsTrue, ◌<◌, ◌≤◌, List, [], ◌∷◌, ◌++◌, length, Option, Some, None, IfSome, codes}
use Rattle.std.specs.List.{All}
use Rattle.object_values.specs.declared.graph.PartDecl.{PartDecl}
use Rattle.object_values.specs.declared.graph.Kind.{Kind}
use Rattle.object_values.specs.declared.graph.Extra.{Extra}
use Rattle.object_values.specs.declared.graph.ToolDecl.{ToolDecl}
use Rattle.object_values.specs.declared.graph.Make.{Make}
use Rattle.object_values.specs.declared.graph.Make.TheVariants.{Tool, Read, Each, Pack}
use Rattle.object_values.specs.declared.graph.Decl.{Decl}
use Rattle.meaning_texts.specs.Classes.{IsId, IsWord, IsStringText}
use Rattle.meaning_texts.specs.Limits.{graph_limit}
use Rattle.meaning_graph.specs.Tokens.{word, semicolon, comma, Tokens, is_past_gap}
use Rattle.meaning_graph.specs.Grammar.{id_tokens, optional_tokens, part_tokens, kind_tokens, string_tokens, extra_tokens, closure_tokens, decl_tokens, IsSpellablePart, IsSpellableKind, IsSpellableExtra, IsSpellableTool, IsSpellableDecl, HasNoSupers, IsInGrammar}
use Rattle.meaning_graph.specs.Going.{Class, keyword, any_word, identifier, open_mark, any_string, Stage, kind, supers, parts, ending, strings, extras, expect, start, step_at}
use Rattle.dg_reader.specs.Walks.{TakesToken, IsNotAt, HasNone, CarriesStops, TokensHalt}
use Rattle.dg_reader.specs.declared.cursor.Stop.{Stop}

-- ---- lists

-- `ID { "," ID }`
pub record ReadsIds (ids : List (List ℕ)) (text rest : List ℕ) : Type 0 where
  pub some : 0 < length ids
  pub each : All IsId ids
  pub tokens : Tokens text (id_tokens ids) rest
  pub leads : (stage : Stage) → step_at stage comma ≡ Some (expect (identifier ∷ []) stage) → CarriesStops (expect (identifier ∷ []) stage) text (expect [] stage) rest

-- `ID ID { "," ID ID }`
pub record ReadsParts (ps : List PartDecl) (text rest : List ℕ) : Type 0 where
  pub some : 0 < length ps
  pub each : All IsSpellablePart ps
  pub tokens : Tokens text (part_tokens ps) rest
  pub leads : CarriesStops (expect (identifier ∷ identifier ∷ []) parts) text (expect [] parts) rest

-- `STRING { STRING }`
pub record ReadsStrings (words : List (List ℕ)) (text rest : List ℕ) : Type 0 where
  pub some : 0 < length words
  pub each : All IsStringText words
  pub tokens : Tokens text (string_tokens words) rest
  pub leads : CarriesStops (expect (any_string ∷ []) strings) text (expect [] strings) rest

-- `{ "also" ID | "with" STRING }`
pub record ReadsExtras (es : List Extra) (text rest : List ℕ) : Type 0 where
  pub each : All IsSpellableExtra es
  pub tokens : Tokens text (extra_tokens es) rest
  pub leads : CarriesStops (expect [] extras) text (expect [] extras) rest

-- No further extra comes next.
pub record HasNoExtra (text : List ℕ) : Type 0 where
  pub also : IsNotAt (word (codes "also")) text
  pub with : IsNotAt (word (codes "with")) text

-- one extra, where one comes next
abbrev pub MayReadExtra : Option Extra → List ℕ → List ℕ → Type 0
MayReadExtra None text rest = (rest ≡ text) × HasNoExtra text
MayReadExtra (Some extra) text rest = ReadsExtras (extra ∷ []) text rest × (length rest < length text)

-- ---- what may be left out

-- `[ "is" ID { "," ID } ]`
pub record ReadsSupers (ids : List (List ℕ)) (text rest : List ℕ) : Type 0 where
  pub each : All IsId ids
  pub tokens : Tokens text (optional_tokens (codes "is") ids) rest
  pub leads : CarriesStops (expect [] supers) text (expect [] ending) rest

-- `[ "uses" ID { "," ID } ]`, after the last string
pub record ReadsUses (ids : List (List ℕ)) (text rest : List ℕ) : Type 0 where
  pub each : All IsId ids
  pub tokens : Tokens text (optional_tokens (codes "uses") ids) rest
  pub leads : HasNone any_string text → CarriesStops (expect [] strings) text (expect [] extras) rest

-- `[ "closure" ID ]`, after the last extra
pub record ReadsClosure (id : Option (List ℕ)) (text rest : List ℕ) : Type 0 where
  pub each : IfSome id IsId
  pub tokens : Tokens text (closure_tokens id) rest
  pub leads : HasNoExtra text → CarriesStops (expect [] extras) text (expect [] ending) rest

-- ---- declarations

-- `"from" ID "to" ID`
abbrev pub way_classes : List Class → List Class
way_classes more = keyword (codes "from") ∷ identifier ∷ keyword (codes "to") ∷ identifier ∷ more

pub record ReadsWay (from to text rest : List ℕ) : Type 0 where
  pub from_id : IsId from
  pub to_id : IsId to
  pub tokens : Tokens text (word (codes "from") ∷ word from ∷ word (codes "to") ∷ word to ∷ []) rest
  pub leads : (more : List Class) (stage : Stage) → CarriesStops (expect (way_classes more) stage) text (expect more stage) rest

pub record ReadsKind (k : Kind) (ids : List (List ℕ)) (text rest : List ℕ) : Type 0 where
  pub spelled : IsSpellableKind k
  pub each : All IsId ids
  pub grammar : HasNoSupers k ids
  pub tokens : Tokens text (kind_tokens k ids) rest
  pub leads : CarriesStops (expect [] kind) text (expect [] ending) rest

-- what stands after `"run"`
pub record ReadsTool (tool : ToolDecl) (text rest : List ℕ) : Type 0 where
  pub spelled : IsWord tool.version → length text ≤ graph_limit → IsSpellableTool tool
  pub tokens : Tokens text (string_tokens tool.words ++ (optional_tokens (codes "uses") tool.uses ++ (extra_tokens tool.extras ++ closure_tokens tool.closure))) rest
  pub leads : CarriesStops (expect (any_string ∷ []) strings) text (expect [] ending) rest

-- the declaration up to its `;`
pub record ReadsHead (d : Decl) (text rest : List ℕ) : Type 0 where
  pub spelled : length text ≤ graph_limit → IsSpellableDecl d
  pub grammar : IsInGrammar d
  pub tokens : Tokens text (decl_tokens d) rest
  pub leads : CarriesStops start text (expect [] ending) rest

-- the same, where the keyword stands before the text
abbrev pub HeadBehind : List ℕ → Decl → List ℕ → List ℕ → Type 0
HeadBehind first d text rest = (whole : List ℕ) → TakesToken whole (word first) text → ReadsHead d whole rest

abbrev pub KindBehind : List ℕ → Kind → List (List ℕ) → List ℕ → List ℕ → Type 0
KindBehind first k ids text rest = (whole : List ℕ) → TakesToken whole (word first) text → ReadsKind k ids whole rest

-- the keyword of what only has a way
abbrev pub plain_keyword : Make → Option (List ℕ)
plain_keyword (Tool tool) = None
plain_keyword Read = Some (codes "read")
plain_keyword Each = Some (codes "each")
plain_keyword Pack = Some (codes "pack")

-- the declaration with its `;`
pub record ReadsDecl (d : Decl) (text rest : List ℕ) : Type 0 where
  pub spelled : length text ≤ graph_limit → IsSpellableDecl d
  pub grammar : IsInGrammar d
  pub tokens : Tokens text (decl_tokens d ++ semicolon ∷ []) rest
  pub past : IsTrue (is_past_gap rest)

-- a plain maker of this sort, from its keyword on
abbrev pub PlainBehind : Make → Decl → List ℕ → List ℕ → Type 0
PlainBehind make d text rest = (first : List ℕ) → plain_keyword make ≡ Some first → HeadBehind first d text rest

-- the words with which kinds begin
abbrev pub simple_word : List ℕ
simple_word = codes "simple"

abbrev pub list_word : List ℕ
list_word = codes "list"

abbrev pub compound_word : List ℕ
compound_word = codes "compound"

-- ---- where readings stop

-- `ID`, `WORD ID`, `of ID`, and `ID ID` without an opening mark and with one
abbrev pub an_id : List Class
an_id = identifier ∷ []

abbrev pub word_and_id : List Class
word_and_id = any_word ∷ an_id

abbrev pub of_an_id : List Class
of_an_id = keyword (codes "of") ∷ identifier ∷ []

abbrev pub a_part : List Class
a_part = identifier ∷ identifier ∷ []

abbrev pub opened_part : List Class
opened_part = open_mark ∷ a_part

-- among identifiers, wherever these stand
abbrev pub HaltsInIds : List ℕ → List ℕ → Stop → Type 0
HaltsInIds text place stop = (stage : Stage) → step_at stage comma ≡ Some (expect (identifier ∷ []) stage) → TokensHalt stop (expect (identifier ∷ []) stage) text place

-- on the way of a maker, whatever is after it
abbrev pub HaltsInWay : List ℕ → List ℕ → Stop → Type 0
HaltsInWay text place stop = (more : List Class) (stage : Stage) → TokensHalt stop (expect (way_classes more) stage) text place
