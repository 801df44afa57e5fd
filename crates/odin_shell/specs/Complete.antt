-- When a run comes to its end: completeness, as one law over how a run may end.
use Rattle.std.specs.Prelude.{◌≡◌, ◌⊎◌, ℕ, ◌<◌, List, length, Some}
use Rattle.odin_outside.specs.Disk.{IsQuiet}
use Rattle.odin_outside.specs.Files.{Files, given_of}
use Rattle.meaning_graph.specs.Graphs.{Text, Graph}
use Rattle.meaning_commands.specs.Items.{EndsInside}
use Rattle.meaning_commands.specs.Endings.{input_limit}
use Rattle.odin_store.specs.Held.{Held, StandsFor}
use Rattle.odin_words.specs.Asked.{AsksFor, Serve}
use Rattle.odin_shell.specs.Language.{commands}
use Rattle.odin_shell.specs.Laws.{NoFault}
use Rattle.odin_shell.specs.Objects.{Outside, Views}
use Rattle.odin_shell.specs.Opened.{ReadsAsGraph}
use Rattle.odin_shell.specs.Run.{RunEnds}

module _ {I O T S D : Type 0} (m : Views I O T S D) (words : List Text) (before after : Outside I O T S D) where
  -- The words ask for a graph, and the tree tells its files, of which that of the graph is one of a checked graph; the store's file stands for
  -- something for this graph, with nothing pending on it; and the input is whole and not too long.
  pub record IsServable : Type 0 where
    pub name : Text
    pub jobs : ℕ
    pub asks : AsksFor words (Serve name) jobs
    pub files : Files
    pub files_are : m.tree.files before.tree ≡ Some files
    pub text : Text
    pub graph : Graph
    pub reads : ReadsAsGraph (given_of files name) text graph
    pub quiet : IsQuiet (m.disk.told before.disk)
    pub held : Held
    pub own : held.text ≡ text
    pub stands : StandsFor held (m.disk.told before.disk).seen
    pub input : List ℕ
    pub left : m.source.left before.input ≡ Some input
    pub whole : ¬ EndsInside commands input
    pub short : length input < input_limit

  -- No fault of input, output, disk or of the reading of the graph was counted.
  pub record NoneFailed (status : ℕ) (ends : RunEnds m words before after status) : Type 0 where
    pub input : NoFault (m.source.faults before.input) (m.source.faults after.input)
    pub output : NoFault (m.sink.faults before.output) (m.sink.faults after.output)
    pub disk : NoFault (m.disk.faults before.disk) (m.disk.faults after.disk)
    pub tree : NoFault (m.tree.faults before.tree) ends.ended.opened.faults

  -- Then it ends with 0, all replies written; or memory was wanting, or a batch doesn't fit into the store's file.
  abbrev pub Completes : Type 0
  Completes = IsServable → (status : ℕ) → (ends : RunEnds m words before after status) → NoneFailed status ends → (status ≡ 0) ⊎ ((status ≡ 4) ⊎ (status ≡ 8))

-- So it is of all words and objects.
abbrev pub RunsComplete : {I O T S D : Type 0} → Views I O T S D → Type 0
RunsComplete {I} {O} {T} {S} {D} m = (words : List Text) (before after : Outside I O T S D) → Completes m words before after
