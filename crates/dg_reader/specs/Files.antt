-- Whole graph files: their declarations and where these begin, and why a file is refused.
use Rattle.std.specs.Prelude.{◌≡◌, ℕ, ◌<◌, ◌≤◌, IsTrue, List, [], length, take, drop, slice_index, ⊤}
use Rattle.object_values.specs.declared.graph.Decl.{Decl}
use Rattle.object_values.specs.declared.graph.GraphFault.{GraphFault}
use Rattle.meaning_texts.specs.Limits.{graph_limit}
use Rattle.meaning_graph.specs.Tokens.{Tokens, is_past_gap}
use Rattle.meaning_graph.specs.Grammar.{graph_tokens, HasSpelling, GraphText}
use Rattle.meaning_graph.specs.Places.{IsSyntaxFault, BeginsOnLine, line_behind, column_behind}
use Rattle.meaning_graph.specs.Checks.{Checked, FirstFault}
use Rattle.dg_reader.specs.declared.read.GraphFile.{GraphFile}
use Rattle.dg_reader.specs.declared.fault.ReadFault.{ReadFault}
use Rattle.dg_reader.specs.declared.fault.ReadFault.TheVariants.{TooLong, Syntax, Check, Memory}

-- The declaration after so many others begins at this place, from 0.
pub record BeginsAt (text : List ℕ) (decls : List Decl) (count place : ℕ) : Type 0 where
  pub within : place ≤ length text
  pub before : Tokens text (graph_tokens (take count decls)) (drop place text)
  pub begins : IsTrue (is_past_gap (drop place text))

-- These declarations, which begin at these places, stand before the rest.
pub record ReadsDecls (decls : List Decl) (starts : List ℕ) (text rest : List ℕ) : Type 0 where
  pub spelled : HasSpelling decls
  pub tokens : Tokens text (graph_tokens decls) rest
  pub past : IsTrue (is_past_gap rest)
  pub counted : length starts ≡ length decls
  pub places : (count : ℕ) → count < length decls → BeginsAt text decls count (slice_index starts count)

-- The text is not too long and one of the graph, and these are the places where its declarations begin.
pub record IsFile (text : List ℕ) (file : GraphFile) : Type 0 where
  pub short : length text ≤ graph_limit
  pub read : ReadsDecls file.graph file.starts text []
  pub spelled : GraphText text file.graph

-- The text is not too long and one of these declarations, which are checked.
pub record IsRead (text : List ℕ) (decls : List Decl) : Type 0 where
  pub short : length text ≤ graph_limit
  pub spelled : GraphText text decls
  pub checked : Checked decls

-- The text is one of declarations that have this first fault, at a declaration that begins on this line.
pub record IsCheckFault (text : List ℕ) (line : ℕ) (fault : GraphFault) : Type 0 where
  pub decls : List Decl
  pub number : ℕ
  pub read : GraphText text decls
  pub first : FirstFault decls number fault
  pub begins : BeginsOnLine text decls number line

-- why a text is refused; want of memory says nothing of it
abbrev pub Refuses : List ℕ → ReadFault → Type 0
Refuses text TooLong = graph_limit < length text
Refuses text (Syntax line column) = (length text ≤ graph_limit) × IsSyntaxFault text line column
Refuses text (Check line fault) = (length text ≤ graph_limit) × IsCheckFault text line fault
Refuses text Memory = ⊤

-- the syntax fault at a place, from 0
abbrev pub syntax_at : List ℕ → ℕ → ReadFault
syntax_at text place = let front = take place text in Syntax (line_behind front) (column_behind front)
