use Rattle.std.proofs.Common.{◌≡◌, ◌<◌, ◌-◌, ◌+◌, length, take, drop, get_or, arith}
use Rattle.std.proofs.lemmas.Bool.Decides.{Decides-eqb}
use Rattle.std.proofs.lemmas.Grind.{common_steps}
use Rattle.odin_bytes.proofs.CutLemmas.{cut_at_lf, cut_nowhere}
use Rattle.odin_bytes.proofs.lines.first_line.Goals as goal

pub returns-in_err-at-clause-none : goal.returns-in_err-at-clause-none
returns-in_err-at-clause-none c =
    let none = rw c.in_err-at.was at c.memchr.ensures in
    rw c.from_residual.ensures (cut_nowhere c.args.text.now (λ k lt e. none k (omega arith) lt ((Decides-eqb _ 10).1 e)))

pub returns-clause-some : goal.returns-clause-some
returns-clause-some c =
    let found = rw c.in_ok-at.was at c.memchr.ensures in
    let here : c.in_ok-at.at < length c.args.text.now = found.0.high in
    let lf : get_or c.args.text.now c.in_ok-at.at 0 ≡ 10 = (Decides-eqb _ 10).0 found.1 in
    let rest : take (length c.args.text.now - (c.in_ok-at.at + 1)) (drop (c.in_ok-at.at + 1) c.args.text.now) ≡ drop (c.in_ok-at.at + 1) c.args.text.now = grind (arith, common_steps) in
    rw rest (cut_at_lf c.args.text.now c.in_ok-at.at here lf (λ k lt in_text e. found.0.before k (omega arith) lt ((Decides-eqb _ 10).1 e)))
