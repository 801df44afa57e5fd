use Rattle.std.proofs.Common.{◌≡◌, ◌≤◌, ◌+◌, ◌-◌, ◌∙◌, ap, arith, drop, subst, sym, take, take_all}
use Rattle.std.specs.List.{fold}
use Rattle.content_store.specs.Digesting.{write, write_byte}
use Rattle.content_store.proofs.DigestLemmas.{taken_on}
use Rattle.content_store.proofs.hasher.ShaHasherHasher.write.Goals as goal

pub pieces-preserved : goal.pieces-preserved
unfolding write
pieces-preserved c =
    let bytes = c.args.bytes.now in
    let at = c.pieces.at in
    let end = c.min-end.result in
    let on : end ≡ at + (end - at) = omega (arith, c.min-end.ensures, c.pieces-test.true) in
    (c.write_piece.ensures ∙ taken_on c.args.self.now c.pieces.self bytes at end on c.pieces.invariant.0, omega (arith, c.min-end.ensures))

pub returns : goal.returns
unfolding write
returns c = c.pieces.invariant.0 ∙ ap (fold write_byte c.args.self.now) (take_all c.pieces.at c.args.bytes.now (omega arith))
