use Rattle.std.proofs.Common.{ap, map}
use Rattle.odin_start.proofs.serving.serve.Goals as goal

pub returns : goal.returns
returns g c = record {
  left = c.run-status.new.tools;
  ends = c.run-status.ensures.ends;
  rest = ap (map (λ tool. tool.running)) c.wait_rest.ensures.none;
}
