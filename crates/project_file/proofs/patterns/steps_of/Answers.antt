use Rattle.std.proofs.Common.{◌≡◌, ◌==◌, ℕ, List, map, Vec, Bor, Global, rules, tests}
use Rattle.std.proofs.lemmas.Iterator.Consumers.{map_from_collect}
use Rattle.std.proofs.lemmas.Iterator.Splits.{YieldsList-from_slice_split}
use Rattle.std.proofs.lemmas.Result.{IfOk-at_ok}
use Rattle.project_file.specs.Patterns.{steps_of}
use Rattle.project_file.proofs.patterns.steps_of.Goals as goal

pub returns : goal.returns
returns c =
    IfOk-at_ok (λ (v : Vec (Bor (List ℕ)) Global). map (λ step. step.now) v.items ≡ steps_of c.args.path.now) c.in_ok-collect.was
    (map_from_collect _ c.collect.ensures.ran
    (YieldsList-from_slice_split _ (λ b. b == 47) c.args.path.now c.split.ensures.rest c.split.ensures.done c.split.ensures.closure
    (λ x b q called. search (rules, tests))))
