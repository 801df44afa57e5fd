use Rattle.std.proofs.Common.{take}
use Rattle.std.specs.List.{AllZip}
use Rattle.build_view.specs.Places.{IsPageMessage}
use Rattle.build_view.proofs.places.shown_messages.Given as goal

abbrev pub invariant-loop-message : goal.invariant-loop-message
invariant-loop-message l = AllZip IsPageMessage (take l.message-index l.messages) l.all
