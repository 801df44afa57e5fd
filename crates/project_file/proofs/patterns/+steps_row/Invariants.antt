use Rattle.std.proofs.Common.{length}
use Rattle.project_file.proofs.patterns.+steps_row.Given as goal

abbrev pub decreases-steps_row : goal.decreases-steps_row
decreases-steps_row l = length l.steps.now
