use Rattle.std.proofs.Common.{sym, ◌∙◌, arith}
use Rattle.std.proofs.lemmas.Grind.{common_steps}
use Rattle.odin_memory.proofs.LineLemmas.{none_at_the_end, lines_more, last_one}
use Rattle.odin_memory.proofs.text.next_line.Goals as goal

pub returns-then-is_empty-clause-none : goal.returns-then-is_empty-clause-none
returns-then-is_empty-clause-none c = none_at_the_end c.args.text.now (sym c.is_empty.ensures ∙ c.if-is_empty.true)

pub returns-in-Some-clause-some : goal.returns-in-Some-clause-some
returns-in-Some-clause-some c = lines_more c.args.text.now c.in-Some.line.now c.in-Some.behind.now (rw c.in-Some.is at c.first_line.ensures.some)

pub returns-in-None-clause-some : goal.returns-in-None-clause-some
returns-in-None-clause-some c = last_one c.args.text.now _ (sym c.is_empty.ensures ∙ c.if-is_empty.false) (rw c.in-None.is at c.first_line.ensures.none) (grind (arith, common_steps))
