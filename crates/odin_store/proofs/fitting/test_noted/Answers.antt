use Rattle.kept_notes.specs.Facts.{contents_by}
use Rattle.odin_store.proofs.FittingLemmas.{own_too, typed_so}
use Rattle.odin_store.proofs.fitting.test_noted.Goals as goal

pub deps_fit-requires : goal.deps_fit-requires
deps_fit-requires c =
    let typed = rw c.in-Some.is at c.type_of.ensures in
    let fits = typed_so c.args.graph.now (contents_by c.args.kept.now.tables.contents) c.args.noted.now c.in-Some.number typed in
    own_too c.args.graph.now c.args.kept.now.records.records c.args.noted.now.node c.requires.others fits
