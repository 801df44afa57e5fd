-- What is picked, as it is told.
use Rattle.meaning_tasks.specs.Values.{Picked, element, body}
use Rattle.odin_nodes.specs.declared.picking.Picked.{Picked as PickedPart}
use Rattle.odin_nodes.specs.declared.picking.Picked.TheVariants.{Element, Body}

-- the element or the body to which it refers
abbrev pub picked_view : PickedPart → Picked
picked_view (Element n) = element n.now
picked_view (Body text) = body text.now
