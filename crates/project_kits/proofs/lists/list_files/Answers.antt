use Rattle.std.proofs.Common.{List, [], take, ◌+◌, sym, subst}
use Rattle.object_values.specs.declared.jobs.FileBody.{FileBody}
use Rattle.project_kits.specs.Lists.{AreListFiles, no_lists}
use Rattle.project_kits.proofs.FileLemmas.{one_more}
use Rattle.project_kits.proofs.lists.list_files.Goals as goal

pub units-init : goal.units-init
units-init c = subst (λ (files : List FileBody). AreListFiles c.args.outputs.now c.args.found.now [] files) (sym c.new-files.ensures) no_lists

pub units-preserved : goal.units-preserved
units-preserved c =
    subst (λ (files : List FileBody). AreListFiles c.args.outputs.now c.args.found.now (take (c.units.each-index + 1) c.args.units.now) files) (sym c.in_ok-push.ensures.ok)
    (one_more c.args.outputs.now c.args.found.now c.args.units.now c.units.each-index c.each-item.result c.units.files c.in_ok-list_file.field-0
    c.units-test.true c.each-item.is c.units.invariant c.in_ok-list_file.ensures.ok)
