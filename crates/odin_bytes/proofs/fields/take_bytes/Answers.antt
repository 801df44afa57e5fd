use Rattle.std.proofs.Common.{arith}
use Rattle.odin_bytes.specs.FieldLemmas.{body_at, no_body_at}
use Rattle.odin_bytes.proofs.fields.take_bytes.Goals as goal

pub returns-then-end-from-clause-none : goal.returns-then-end-from-clause-none
returns-then-end-from-clause-none c =
    let length_field = c.in_ok-length.ensures in
    no_body_at _ _ _ c.in_ok-length.length length_field.end length_field.fits length_field.some (omega (arith, c.in_ok-end.ensures))

pub returns-clause-some : goal.returns-clause-some
returns-clause-some c = body_at _ _ _ _ c.in_ok-length.length c.in_ok-length.ensures.some (omega (arith, c.in_ok-end.ensures)) (omega arith)
