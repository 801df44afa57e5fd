use Rattle.std.proofs.Common.{arith}
use Rattle.odin_bytes.specs.FieldLemmas.{eight_at}
use Rattle.odin_bytes.proofs.fields.take_u64.Goals as goal

pub returns-clause-some : goal.returns-clause-some
returns-clause-some c =
    let rest = c.in_ok-get.ensures.lookup.0 in
    let field = c.in_ok-field.ensures.lookup.0 in
    eight_at _ _ _ _ _ rest.2 field.2 field.1 (λ i. omega (arith, c.type_inv.from i)) c.read_u64.ensures
