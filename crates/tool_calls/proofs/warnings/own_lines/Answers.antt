use Rattle.std.proofs.Common.{◌∙◌, arith}
use Rattle.tool_calls.proofs.CountedLines.{count_more, count_last, count_all, all_counted}
use Rattle.tool_calls.proofs.warnings.own_lines.Goals as goal

pub returns-in_default : goal.returns-in_default
returns-in_default c =
    c.in_ok-put_line.ensures ∙ count_last _ _ c.lines.lines c.lines.rest.now c.lines.invariant (omega arith) (rw c.in_default.is at c.first_line.ensures.none) ∙ all_counted c.args.level c.args.warnings.now

pub lines-preserved : goal.lines-preserved
lines-preserved c =
    count_more _ _ c.lines.lines _ c.lines.rest.now c.in-Some.line.now c.in-Some.behind.now c.lines.invariant (omega arith)
    (rw c.in-Some.is at c.first_line.ensures.some)
    (rw c.drop_cr.ensures at c.in_ok-put_line-2.ensures)

pub returns : goal.returns
returns c = count_all _ _ c.lines.lines c.lines.rest.now c.lines.invariant (omega arith) ∙ all_counted c.args.level c.args.warnings.now
