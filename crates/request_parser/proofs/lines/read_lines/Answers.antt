use Rattle.std.proofs.Common.{◌+◌, sym, ◌∙◌}
use Rattle.request_parser.proofs.LineLemmas.{all_lines, one_too_many}
use Rattle.request_parser.proofs.lines.read_lines.Goals as goal

pub returns-then-len-eq-REFERENCE_LIMIT : goal.returns-then-len-eq-REFERENCE_LIMIT
returns-then-len-eq-REFERENCE_LIMIT c =
    one_too_many c.args.text.now c.lines.lines (c.lines.number + 1) c.lines.rest.now c.in-Some.line.now c.in-Some.behind.now c.lines.invariant.said c.in-Some.ensures.some (sym c.if-not-is_passed_over.ensures) (sym c.len.ensures ∙ c.if-len-eq-REFERENCE_LIMIT.true)

pub returns : goal.returns
returns c = all_lines c.args.text.now c.lines.lines (c.lines.number + 1) c.lines.rest.now c.lines.invariant.said c.in_default.ensures.none c.lines.invariant.few
