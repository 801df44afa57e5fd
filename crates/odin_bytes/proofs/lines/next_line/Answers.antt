use Rattle.odin_bytes.proofs.LineLemmas.{no_lines, line_first, line_alone}
use Rattle.odin_bytes.proofs.lines.next_line.Goals as goal

pub returns-then-is_empty-clause-none : goal.returns-then-is_empty-clause-none
returns-then-is_empty-clause-none c = no_lines c.args.text.now c.if-is_empty.ensures

pub returns-in-Some-clause-some : goal.returns-in-Some-clause-some
returns-in-Some-clause-some c = rw c.drop_cr.ensures (line_first c.args.text.now c.in-Some.line.now c.in-Some.behind.now c.in-Some.ensures.some)

pub returns-in-None-clause-some : goal.returns-in-None-clause-some
returns-in-None-clause-some c = rw c.drop_cr-in-None.ensures (line_alone c.args.text.now c.if-is_empty.ensures c.in-None.ensures.none)
