use Rattle.std.proofs.Common.{length}
use Rattle.project_file.proofs.patterns.+step_row.Given as goal

abbrev pub decreases-step_row : goal.decreases-step_row
decreases-step_row l = length l.step.now
