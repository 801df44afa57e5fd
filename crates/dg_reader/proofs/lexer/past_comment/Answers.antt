use Rattle.std.proofs.Common.{◌≡◌, ◌<◌, length, get_or, sym, arith}
use Rattle.std.proofs.lemmas.Bool.Decides.{Decides-eqb}
use Rattle.std.proofs.lemmas.Grind.{common_steps}
use Rattle.dg_reader.proofs.LexLemmas.{comment_end, no_comment_end}
use Rattle.dg_reader.proofs.lexer.past_comment.Goals as goal

pub returns-in-Some-clause-same : goal.returns-in-Some-clause-same
returns-in-Some-clause-same c =
    let found = rw c.in-Some.is at c.memchr.ensures in
    let here : c.in-Some.end < length c.args.text.now = found.0.high in
    let lf : get_or c.args.text.now c.in-Some.end 0 ≡ 10 = (Decides-eqb _ 10).0 found.1 in
    let behind = comment_end c.args.text.now c.in-Some.end here (λ k less e. found.0.before k (omega arith) less ((Decides-eqb _ 10).1 e)) lf in
    grind (arith, common_steps)

pub returns-in-None-clause-same : goal.returns-in-None-clause-same
returns-in-None-clause-same c =
    let none = rw c.in-None.is at c.memchr.ensures in
    sym (no_comment_end c.args.text.now (λ k less e. none k (omega arith) less ((Decides-eqb _ 10).1 e)))
