use Rattle.std.proofs.Common.{◌∙◌, subst}
use Rattle.odin_real.specs.Folders.{FoldersTold, IsPutLeft}
use Rattle.odin_real.proofs.FolderLemmas.{left_more}
use Rattle.odin_real.proofs.contents.left_in.Goals as goal

pub loop-name-preserved : goal.loop-name-preserved
loop-name-preserved g c = record {
  left = left_more _ c.args.names.now c.loop-name.name-index c.name-item.result _ _ c.loop-name-test.true c.name-item.is c.loop-name.invariant.left
      (subst (λ (held : FoldersTold). IsPutLeft (held c.args.folder.now) c.name-item.result c.loop-name.files c.put_left.new.files) c.loop-name.invariant.held c.in_ok-put_left.ensures.ok);
  held = c.in_ok-put_left.ensures.held ∙ c.loop-name.invariant.held;
  log = c.in_ok-put_left.ensures.counts.ok ∙ c.loop-name.invariant.log;
}
