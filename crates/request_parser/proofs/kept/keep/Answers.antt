use Rattle.std.proofs.Common.{sym}
use Rattle.request_parser.specs.Kept.{IsPlaceOf}
use Rattle.request_parser.proofs.KeptLemmas.{keeps_double, keeps_new}
use Rattle.request_parser.proofs.kept.keep.Goals as goal

pub returns-then-has : goal.returns-then-has
returns-then-has c = keeps_double c.args.param c.args.params.now.items (sym (rw c.deref.ensures.value at c.if-has.ensures))

pub returns : goal.returns
returns c =
    let at : IsPlaceOf c.args.param c.args.params.now.items c.place_of-place.result = rw c.deref-2.ensures.value at c.place_of-place.ensures in
    rw c.in_ok-insert.ensures.items (keeps_new c.args.param c.args.params.now.items c.place_of-place.result (sym (rw c.deref.ensures.value at c.if-has.ensures)) at)
