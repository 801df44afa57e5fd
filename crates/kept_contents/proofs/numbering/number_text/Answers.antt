use Rattle.std.proofs.Common.{subst, sym}
use Rattle.content_store.specs.Bodies.{Bodies}
use Rattle.kept_contents.specs.Added.{AreHeld}
use Rattle.kept_contents.proofs.Batched.{held_kept}
use Rattle.kept_contents.proofs.numbering.number_text.Goals as goal

pub number_shared-requires-clause-added : goal.number_shared-requires-clause-added
number_shared-requires-clause-added c =
    let later = c.share.ensures.texts in
    subst (λ (b : Bodies). AreHeld b c.args.added.now) (sym later.1) (held_kept c.args.table.now.texts later.0 c.args.added.now c.requires)
