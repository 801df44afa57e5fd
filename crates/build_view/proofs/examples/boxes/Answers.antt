use Rattle.std.proofs.Common.{refl}
use Rattle.std.specs.Fmt.{digits}
use Rattle.shown_texts.specs.Shown.{staying_size, spelling}
use Rattle.build_view.specs.Escaped.{entity}
use Rattle.build_view.specs.Boxes.{box_frame, box_front, box_title, column_name, drawing_front, edge_of, light}
use Rattle.build_view.proofs.examples.boxes.Goals as goal

pub returns : goal.returns
unfolding digits staying_size spelling entity box_frame box_front box_title column_name drawing_front edge_of light
returns c = record { front = refl; title = refl; source = refl; frame = refl; lights = refl; edge = refl; column = refl; size = refl; whole = refl; rest = refl }
