-- The canonical spelling of a graph: each declaration on a line of its own.
use Rattle.std.specs.Prelude.{ℕ, ◌||◌, Bool, true, false, List, [], ◌∷◌, ◌++◌, if◌then◌else◌}
use Rattle.std.specs.List.{flat_map}
use Rattle.object_values.specs.declared.graph.Decl.{Decl}
use Rattle.meaning_graph.specs.Tokens.{Token, word, string, semicolon, comma, opening, closing}
use Rattle.meaning_graph.specs.Grammar.{decl_tokens}

abbrev pub token_spelling : Token → List ℕ
token_spelling (word w) = w
token_spelling (string s) = 34 ∷ (s ++ 34 ∷ [])
token_spelling semicolon = 59 ∷ []
token_spelling comma = 44 ∷ []
token_spelling opening = 40 ∷ []
token_spelling closing = 41 ∷ []

-- `;`, `,` and `)` follow without a space
abbrev pub follows_close : Token → Bool
follows_close semicolon = true
follows_close comma = true
follows_close closing = true
follows_close other = false

abbrev pub is_opening : Token → Bool
is_opening opening = true
is_opening other = false

-- one space between two tokens, but none before `;`, `,` and `)` and none after `(`
abbrev pub between : Token → Token → List ℕ
between t u = if is_opening t || follows_close u then [] else 32 ∷ []

-- the tokens on a line, which ends with LF
abbrev pub tokens_spelling : List Token → List ℕ
tokens_spelling [] = 10 ∷ []
tokens_spelling (t ∷ []) = token_spelling t ++ 10 ∷ []
tokens_spelling (t ∷ u ∷ rest) = token_spelling t ++ (between t u ++ tokens_spelling (u ∷ rest))

unfoldable pub graph_spelling : List Decl → List ℕ
graph_spelling decls = flat_map (λ d. tokens_spelling (decl_tokens d ++ semicolon ∷ [])) decls
