use Rattle.std.proofs.Common.{◌==◌, rules, tests}
use Rattle.std.proofs.lemmas.Iterator.Search.{any_from_yields_List}
use Rattle.std.proofs.lemmas.Iterator.Splits.{YieldsList-from_slice_split}
use Rattle.project_folder.specs.Places.{leads_off}
use Rattle.project_folder.proofs.places.some_step_off.Goals as goal

pub returns : goal.returns
returns c =
    any_from_yields_List leads_off _ _ c.any.result c.any.ensures.ran
    (YieldsList-from_slice_split _ (λ b. b == 47) c.args.path.now c.split.ensures.rest c.split.ensures.done c.split.ensures.closure
    (λ x b q called. search (rules, tests)))
    (λ x b q called. search (rules, tests))
