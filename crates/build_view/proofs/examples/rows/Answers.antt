use Rattle.std.proofs.Common.{refl}
use Rattle.std.specs.Fmt.{digits}
use Rattle.shown_texts.specs.Shown.{staying_size, spelling}
use Rattle.build_view.specs.Escaped.{entity}
use Rattle.build_view.specs.Pages.{message_cells, message_row, target_row}
use Rattle.build_view.proofs.examples.rows.Goals as goal

pub returns : goal.returns
unfolding digits staying_size spelling entity message_cells message_row target_row
returns c = record { built = refl; unbuilt = refl; placed = refl; message = refl }
