-- The graph that a run works by, from what the tree gives of its file, and the last line where there is none.
use Rattle.std.specs.Prelude.{◌≡◌, ◌≢◌, ℕ, [], ◌++◌, Option, Some, None, codes}
use Rattle.std.specs.Fmt.{decimal}
use Rattle.object_values.specs.declared.graph.GraphFault.{GraphFault}
use Rattle.object_values.specs.declared.graph.GraphFault.TheVariants.{UnknownType, DoubleName, SupertypeLoop, WrongKind, TooMany, UnknownParam}
use Rattle.odin_outside.specs.Files.{Files, IsGiven}
use Rattle.meaning_texts.specs.Lines.{with_lf}
use Rattle.meaning_graph.specs.Graphs.{Text, Graph}
use Rattle.dg_reader.specs.declared.fault.ReadFault.{ReadFault}
use Rattle.dg_reader.specs.declared.fault.ReadFault.TheVariants.{TooLong, Syntax, Check, Memory}
use Rattle.dg_reader.specs.Files.{IsRead, Refuses}
use Rattle.odin_shell.specs.declared.graph.Opened.{Opened}
use Rattle.odin_shell.specs.declared.graph.Opened.TheVariants as opened

-- ---- last lines

abbrev pub fault_words : GraphFault → Text
fault_words UnknownType = codes "unknown type"
fault_words DoubleName = codes "double name"
fault_words SupertypeLoop = codes "supertype loop"
fault_words WrongKind = codes "wrong kind"
fault_words TooMany = codes "too many"
fault_words UnknownParam = codes "unknown param"

abbrev pub no_file_line : Text
no_file_line = with_lf (codes "graph: no file")

abbrev pub at_graph_line : ℕ → Text → Text
at_graph_line line words = with_lf (codes "graph: line " ++ decimal line ++ codes ": " ++ words)

abbrev pub fault_line : ReadFault → Text
fault_line TooLong = with_lf (codes "graph: too long")
fault_line (Syntax line column) = with_lf (codes "graph: line " ++ decimal line ++ codes " column " ++ decimal column ++ codes ": syntax")
fault_line (Check line fault) = at_graph_line line (fault_words fault)
fault_line Memory = []

abbrev pub not_ours_line : ℕ → Text
not_ours_line at = with_lf (codes "store: not ours at " ++ decimal at)

abbrev pub full_line : ℕ → ℕ → Text
full_line at size = with_lf (codes "store: full " ++ decimal at ++ codes " " ++ decimal size)

-- ---- graphs

-- The file has this text, which is one of a checked graph.
pub record ReadsAsGraph (given : Option Text) (text : Text) (g : Graph) : Type 0 where
  pub there : given ≡ Some text
  pub read : IsRead text g

-- The file is refused by this last line.
pub data GraphIsRefused : Option Text → Text → Type 0 where
  no_file : GraphIsRefused None no_file_line
  not_read : (text : Text) (fault : ReadFault) → fault ≢ Memory → Refuses text fault → GraphIsRefused (Some text) (fault_line fault)

abbrev pub GraphIsOpened : Option Text → Opened → Type 0
GraphIsOpened given (opened.Ready text g) = ReadsAsGraph given text g
GraphIsOpened given (opened.Refused line) = GraphIsRefused given line

-- what the tree gives of the file of this name is opened so
pub record OpensGraphFile (files : Option Files) (name : Text) (o : Opened) : Type 0 where
  pub given : Option Text
  pub is : IsGiven files name given
  pub opened : GraphIsOpened given o
