use Rattle.std.proofs.Common.{◌≡◌, ◌++◌, ◌∷◌, [], length, refl, subst, sym}
use Rattle.std.specs.Prelude.{None, slice_get}
use Rattle.content_store.specs.Bodies.{Bodies, place_of_body}
use Rattle.content_store.specs.BodyMarks.{marks_of}
use Rattle.content_store.specs.Marks.{Finds}
use Rattle.content_store.proofs.IndexLemmas.{body_more, index_kept, keeps_twice}
use Rattle.content_store.proofs.contents.Contents.add.Goals as goal

pub invariant_of-self-in_err-reserve-2 : goal.invariant_of-self-in_err-reserve-2
invariant_of-self-in_err-reserve-2 g c = rw c.reserve.ensures.items (index_kept (slice_get c.self.inside.bodies.items) (marks_of g.K.Keying.key_of) c.self.inside.marks c.reserve-2.new.self c.self.invariant c.reserve-2.ensures.kept)

pub invariant_of-self-2 : goal.invariant_of-self-2
invariant_of-self-2 g c =
    let bodies = c.self.inside.bodies.items in
    let body = c.args.body in
    let fresh = subst (λ (all : Bodies). place_of_body body all ≡ None) (sym c.self.view_is) c.requires in
    let kept = keeps_twice c.self.inside.marks c.reserve-2.new.self c.add.new.self c.reserve-2.ensures.kept c.add.ensures.kept in
    let there : Finds c.add.new.self (marks_of g.K.Keying.key_of body) (length bodies) = rw (c.as_slice-2.ensures, c.len-next.ensures, ← c.self.view_is) at c.add.ensures.added in
    let now : c.push.new.self.items ≡ bodies ++ body ∷ [] = rw (c.in_ok-push.ensures.items, c.reserve.ensures.items) refl in
    rw now (body_more (marks_of g.K.Keying.key_of) bodies c.self.inside.marks c.self.invariant body c.add.new.self fresh kept there)
