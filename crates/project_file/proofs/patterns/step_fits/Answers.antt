use Rattle.std.proofs.Common.{◌∙◌}
use Rattle.project_file.specs.Patterns.{step_fits}
use Rattle.project_file.proofs.RowLemmas.{whole}
use Rattle.project_file.proofs.patterns.step_fits.Goals as goal

pub returns : goal.returns
returns c =
    c.last_of.ensures
    ∙ whole (step_fits c.args.step.now) c.args.name.now c.as_slice.result.now c.as_slice-2.result.now (c.as_slice.ensures.value ∙ c.in_ok-bytes.ensures)
    (c.as_slice-2.ensures.value ∙ c.in_ok-row.ensures)
