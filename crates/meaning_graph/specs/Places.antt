-- The places of a graph file: of its syntax fault, and of its declarations.
use Rattle.std.specs.Prelude.{◌≡◌, ℕ, ◌+◌, ◌-◌, ◌<◌, ◌≤◌, IsTrue, List, [], ◌∷◌, ◌++◌, length, take}
use Rattle.object_values.specs.declared.graph.Decl.{Decl}
use Rattle.meaning_texts.specs.Lines.{cut_lines}
use Rattle.meaning_graph.specs.Tokens.{Token, BeginsWith, Tokens, is_past_gap}
use Rattle.meaning_graph.specs.Grammar.{graph_tokens, HasSpelling, GraphText}

-- the line of what stands after these bytes, from 1
abbrev pub line_behind : List ℕ → ℕ
line_behind front = length (cut_lines front).full + 1

-- its column, from 1, in bytes
abbrev pub column_behind : List ℕ → ℕ
column_behind front = length (cut_lines front).last + 1

-- Further tokens, or none, make these the tokens of a graph.
pub record IsFrontOfGraph (tokens : List Token) : Type 0 where
  pub more : List Token
  pub decls : List Decl
  pub spelled : HasSpelling decls
  pub is : tokens ++ more ≡ graph_tokens decls

-- The tokens before the place can go on, and what begins there is no token with which they can: or
-- the text ends there too early.
pub record IsSyntaxFault (text : List ℕ) (line column : ℕ) : Type 0 where
  pub front : List ℕ
  pub rest : List ℕ
  pub tokens : List Token
  pub is : text ≡ front ++ rest
  pub before : Tokens text tokens rest
  pub begins : IsTrue (is_past_gap rest)
  pub goes_on : IsFrontOfGraph tokens
  pub stops : (t : Token) (left : List ℕ) → BeginsWith rest t left
      → IsFrontOfGraph (tokens ++ t ∷ []) → ⊥
  pub none : (decls : List Decl) → GraphText text decls → ⊥
  pub line_is : line ≡ line_behind front
  pub column_is : column ≡ column_behind front

-- The declaration of this number, from 1, begins on the line.
pub record BeginsOnLine (text : List ℕ) (decls : List Decl) (number line : ℕ) : Type 0 where
  pub front : List ℕ
  pub rest : List ℕ
  pub counted : (0 < number) × (number ≤ length decls)
  pub is : text ≡ front ++ rest
  pub before : Tokens text (graph_tokens (take (number - 1) decls)) rest
  pub begins : IsTrue (is_past_gap rest)
  pub line_is : line ≡ line_behind front
