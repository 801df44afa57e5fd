use Rattle.odin_bytes.proofs.LineEnds.{dropped}
use Rattle.odin_bytes.proofs.lines.drop_cr.Goals as goal

pub returns : goal.returns
returns c = dropped c.args.line c.unwrap_or.result c.strip_suffix.result c.unwrap_or.ensures c.strip_suffix.ensures.cases
