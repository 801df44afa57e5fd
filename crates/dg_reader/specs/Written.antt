-- What is written token by token.
use Rattle.std.specs.Prelude.{◌≡◌, ℕ, ◌||◌, Bool, List, [], ◌∷◌, ◌++◌, if◌then◌else◌}
use Rattle.object_values.specs.declared.graph.TypeDecl.{TypeDecl}
use Rattle.object_values.specs.declared.graph.MakerDecl.{MakerDecl}
use Rattle.object_values.specs.declared.graph.Decl.{Decl}
use Rattle.object_values.specs.declared.graph.Decl.TheVariants.{ObjectType}
use Rattle.meaning_graph.specs.Tokens.{Token, word, semicolon}
use Rattle.meaning_graph.specs.Grammar.{way_tokens, decl_tokens}
use Rattle.meaning_graph.specs.Spelling.{token_spelling, tokens_spelling, follows_close, is_opening}
use Rattle.dg_reader.specs.declared.writer.Writer.{Writer}

-- the space before a token; there is none where the flag is set
abbrev pub gap_before : Bool → Token → List ℕ
gap_before glued t = if glued || follows_close t then [] else 32 ∷ []

-- tokens with the spaces before them
abbrev pub line_from : Bool → List Token → List ℕ
line_from glued [] = []
line_from glued (t ∷ ts) = gap_before glued t ++ (token_spelling t ++ line_from (is_opening t) ts)

-- whether no space stands before what comes after the tokens
abbrev pub glued_behind : Bool → List Token → Bool
glued_behind glued [] = glued
glued_behind glued (t ∷ ts) = glued_behind (is_opening t) ts

-- These tokens were added.
pub record Writes (ts : List Token) (old new : Writer) : Type 0 where
  pub out : new.out ≡ old.out ++ line_from old.glued ts
  pub behind : new.glued ≡ glued_behind old.glued ts

-- ---- what is written of a declaration

abbrev pub type_tokens : TypeDecl → List Token
type_tokens declared = decl_tokens (ObjectType declared)

-- a maker's keyword, its name and its way
abbrev pub front_tokens : List ℕ → MakerDecl → List Token
front_tokens keyword maker = word keyword ∷ word maker.name ∷ way_tokens maker

-- a declaration on a line of its own
abbrev pub line_spelling : Decl → List ℕ
line_spelling declaration = tokens_spelling (decl_tokens declaration ++ semicolon ∷ [])
