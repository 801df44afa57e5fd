use Rattle.std.proofs.Common.{arith}
use Rattle.std.proofs.lemmas.Bool.Decides.{Decides-eqb}
use Rattle.meaning_texts.proofs.Lemmas.{HasNo-places, HasNo-take}
use Rattle.odin_shell.proofs.cutter.Cutter.take_line.Goals as goal

pub hold-requires-clause-no_lf : goal.hold-requires-clause-no_lf
hold-requires-clause-no_lf c =
    let none = rw c.in_default.is at c.memchr.ensures in
    HasNo-places 10 c.args.piece.now (λ k lt e. none k (omega arith) lt ((Decides-eqb _ 10).1 e))

pub hold-requires-2-clause-no_lf : goal.hold-requires-2-clause-no_lf
hold-requires-2-clause-no_lf c =
    let found = rw c.in-Some.is at c.memchr.ensures in
    HasNo-take 10 c.args.piece.now c.in-Some.at (λ k lt in_piece e. found.0.before k (omega arith) lt ((Decides-eqb _ 10).1 e))
