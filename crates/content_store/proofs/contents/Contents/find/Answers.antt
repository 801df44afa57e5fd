use Rattle.content_store.specs.BodyMarks.{marks_of}
use Rattle.content_store.proofs.IndexLemmas.{answered}
use Rattle.content_store.proofs.contents.Contents.find.Goals as goal

pub returns : goal.returns
returns g c =
    let some = rw c.as_slice.ensures.value at c.find.ensures.some in
    let none = rw c.as_slice.ensures.value at c.find.ensures.none in
    rw (← c.self.view_is) (answered (marks_of g.K.Keying.key_of) c.self.inside.bodies.items c.self.inside.marks c.self.invariant c.args.body.now c.find.result some none)
