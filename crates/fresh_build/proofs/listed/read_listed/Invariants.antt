use Rattle.std.proofs.Common.{◌≡◌, take}
use Rattle.meaning_derive.specs.Given.{AreSources}
use Rattle.fresh_build.specs.Listed.{AreFiles}
use Rattle.fresh_build.proofs.listed.read_listed.Given as goal

abbrev pub invariant-names : goal.invariant-names
invariant-names g l = record {
  files : g.T.Tree.files l.tree ≡ g.T.Tree.files l.fn.tree;
  are : AreFiles (g.T.Tree.files l.fn.tree) (take l.name-index l.names) l.sources.texts;
  fit : AreSources l.sources.texts;
  counted : g.T.Tree.faults l.tree ≡ g.T.Tree.faults l.fn.tree;
}
