use Rattle.std.proofs.Common.{subst}
use Rattle.request_parser.specs.Refused.{IsExpressionRefusal}
use Rattle.request_parser.proofs.LineLemmas.{good_line, bad_line}
use Rattle.request_parser.proofs.lines.read_line.Goals as goal

pub returns-in-Ok : goal.returns-in-Ok
returns-in-Ok c = good_line c.args.number c.args.text.now c.in-Ok.expression c.in-Ok.ensures.ok

pub returns-in-Err-BadAt : goal.returns-in-Err-BadAt
returns-in-Err-BadAt c = bad_line c.args.number c.args.text.now c.in-Err-BadAt.field-0-0 (subst (IsExpressionRefusal c.args.text.now) c.in-Err-BadAt.field-0-is c.in-Err-BadAt.ensures.err)
