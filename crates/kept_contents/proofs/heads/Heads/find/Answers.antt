use Rattle.std.proofs.Common.{◌∙◌, ap}
use Rattle.kept_contents.specs.Heads.{head_of, place_of_head}
use Rattle.kept_contents.proofs.HeadLemmas.{answered}
use Rattle.kept_contents.proofs.heads.Heads.find.Goals as goal

pub returns : goal.returns
returns c =
    let head = head_of c.args.call.now in
    let some = rw c.as_slice.ensures.value at c.find.ensures.some in
    let none = rw c.as_slice.ensures.value at c.find.ensures.none in
    answered c.self.inside.heads.items c.self.inside.marks c.self.invariant head c.find.result some none ∙ ap (place_of_head head) c.self.view_is
