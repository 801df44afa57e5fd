-- The objects of the outside that a run works on, and what they tell. What an object tells is seen by the members of its trait.
use Rattle.std.specs.Prelude.{ℕ, List, Option, None}
use Rattle.odin_outside.specs.declared.disk.Disk.{Ghosts as DiskView}
use Rattle.odin_outside.specs.declared.sink.Sink.{Ghosts as SinkView}
use Rattle.odin_outside.specs.declared.source.Source.{Ghosts as SourceView}
use Rattle.odin_outside.specs.declared.spawner.Spawner.{Ghosts as ToolsView}
use Rattle.odin_outside.specs.declared.tree.Tree.{Ghosts as TreeView}
use Rattle.meaning_commands.specs.Objects.{SinkTold}
use Rattle.odin_answers.specs.Edits.{tree_of}
use Rattle.odin_shell.specs.Machine.{Told}

-- what is left of an input, where it tells that, and the count of its faults
pub record SourceTold : Type 0 where
  pub left : Option (List ℕ)
  pub faults : ℕ

abbrev pub source_of : {I : Type 0} → SourceView I → I → SourceTold
source_of view input = record { left = view.left input; faults = view.faults input }

abbrev pub sink_of : {O : Type 0} → SinkView O → O → SinkTold
sink_of view output = record { taken = view.taken output; faults = view.faults output }

-- what is told of all that a session works on, but for its input
abbrev pub told_by : {O T S D : Type 0} → SinkView O → TreeView T → ToolsView S → O → T → S → D → Told D
told_by sink tree tools output files running disk = record {
  sink = sink_of sink output;
  tools = tools.told running;
  tree = tree_of tree files;
  disk = disk;
  over = None;
}

-- all the objects, at one moment
pub record Outside (I O T S D : Type 0) : Type 0 where
  pub input : I
  pub output : O
  pub tree : T
  pub tools : S
  pub disk : D

abbrev pub outside : {I O T S D : Type 0} → I → O → T → S → D → Outside I O T S D
outside input output tree tools disk = record { input = input; output = output; tree = tree; tools = tools; disk = disk }

-- how each of them is seen
pub record Views (I O T S D : Type 0) : Type 1 where
  pub source : SourceView I
  pub sink : SinkView O
  pub tree : TreeView T
  pub tools : ToolsView S
  pub disk : DiskView D

abbrev pub views : {I O T S D : Type 0} → SourceView I → SinkView O → TreeView T → ToolsView S → DiskView D → Views I O T S D
views source sink tree tools disk = record { source = source; sink = sink; tree = tree; tools = tools; disk = disk }
