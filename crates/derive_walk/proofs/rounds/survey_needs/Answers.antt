use Rattle.std.proofs.Common.{ap, ◌∙◌}
use Rattle.node_tasks.proofs.Lemmas.{needs_in, needs_listed}
use Rattle.derive_walk.specs.Tables.{results_of}
use Rattle.derive_walk.specs.Surveys.{survey_of}
use Rattle.derive_walk.proofs.rounds.survey_needs.Goals as goal

pub returns : goal.returns
returns c w n found =
    let walk = c.args.walk.now in
    let seen = results_of walk.done in
    record {
      needs = needs_in seen c.args.needed.now;
      listed = needs_listed w.graph n seen c.args.needed.now found;
      is = c.in_ok-survey.ensures ∙ ap (λ names. survey_of walk.done walk.waiting (needs_in seen (record c.args.needed.now { names = names }))) c.as_slice-names.ensures;
    }
