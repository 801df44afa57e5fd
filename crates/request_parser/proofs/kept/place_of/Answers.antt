use Rattle.std.proofs.Common.{◌<◌, length, sym, ◌∙◌, arith}
use Rattle.std.proofs.lemmas.List.Quantifiers.{position-Some}
use Rattle.request_parser.specs.Kept.{is_below}
use Rattle.request_parser.proofs.KeptLemmas.{place_found, none_greater}
use Rattle.request_parser.proofs.kept.place_of.Goals as goal

pub returns-in-Some : goal.returns-in-Some
returns-in-Some c =
    let found = position-Some (is_below c.args.param.now) c.args.params.now c.in-Some.place c.args.param.now (sym c.first_greater.ensures ∙ c.in-Some.is) in
    let lt : c.in-Some.place < length c.args.params.now = found.0 in
    place_found c.args.param.now c.args.params.now c.in-Some.place (omega arith) found.2 (λ less. found.1)

pub returns-in-None : goal.returns-in-None
returns-in-None c = place_found c.args.param.now c.args.params.now (length c.args.params.now) (omega arith) (none_greater c.args.param.now c.args.params.now (sym c.first_greater.ensures ∙ c.in-None.is)) (λ less. absurd (omega arith))
