-- One bit of one word.
use Rattle.std.proofs.Common.{◌+◌, ◌*◌, ◌/◌, ◌%◌, get_or, ap, nat_eq}
use Rattle.std.proofs.lemmas.Nat.Bits.{shr_and_one}
use Rattle.type_graph.proofs.rows.has_bit.Goals as goal

pub returns : goal.returns
returns c = ap (λ x. nat_eq x 1) (shr_and_one (get_or c.args.words.now (c.args.a * c.args.width + c.args.b / 64) 0) (c.args.b % 64))
