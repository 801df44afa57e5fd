use Rattle.std.proofs.Common.{refl}
use Rattle.std.specs.Fmt.{digits}
use Rattle.shown_texts.specs.Shown.{staying_size, spelling}
use Rattle.build_view.specs.Escaped.{entity}
use Rattle.build_view.specs.Pages.{bar_box, bar_title}
use Rattle.build_view.proofs.examples.bars.Goals as goal

pub returns : goal.returns
unfolding digits staying_size spelling entity bar_box bar_title
returns c = record { step = refl; box = refl; title = refl; thin = refl; slots = refl }
