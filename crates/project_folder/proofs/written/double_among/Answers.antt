use Rattle.std.proofs.Common.{ap, sym, ◌∙◌, bytes_eq}
use Rattle.std.specs.List.{list_any}
use Rattle.project_folder.proofs.WrittenLemmas.{found_here, not_here, none_left}
use Rattle.project_folder.proofs.written.double_among.Goals as goal

pub returns-then-has_path : goal.returns-then-has_path
returns-then-has_path c =
    let twice = ap (λ p. list_any (λ other. bytes_eq other p) c.in-Some.behind.now) (sym c.as_slice.ensures) ∙ sym c.has_path.ensures ∙ c.if-has_path.true in
    sym (c.paths.invariant ∙ found_here c.paths.rest.now c.in-Some.behind.now c.in-Some.path.now c.in-Some.ensures.cases.0 twice)

pub paths-preserved : goal.paths-preserved
paths-preserved c =
    let once = ap (λ p. list_any (λ other. bytes_eq other p) c.in-Some.behind.now) (sym c.as_slice.ensures) ∙ sym c.has_path.ensures ∙ c.if-has_path.false in
    c.paths.invariant ∙ not_here c.paths.rest.now c.in-Some.behind.now c.in-Some.path.now c.in-Some.ensures.cases.0 once

pub returns : goal.returns
returns c = sym (c.paths.invariant ∙ none_left c.paths.rest.now c.in_default.ensures.cases)
