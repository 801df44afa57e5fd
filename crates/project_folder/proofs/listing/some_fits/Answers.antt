use Rattle.std.proofs.Common.{sym, ap, ◌∙◌}
use Rattle.std.specs.List.{list_any}
use Rattle.std.proofs.lemmas.List.{take_all}
use Rattle.project_file.specs.Patterns.{fits}
use Rattle.project_folder.proofs.ListLemmas.{none_step, some_step}
use Rattle.project_folder.proofs.listing.some_fits.Goals as goal

pub loop-pattern-preserved : goal.loop-pattern-preserved
loop-pattern-preserved c =
    let path = c.args.path.now in
    none_step (λ p. fits p path) c.args.patterns.now c.loop-pattern.pattern-index c.pattern-item.result c.loop-pattern-test.true c.pattern-item.is
    c.loop-pattern.invariant (ap (λ p. fits p path) (sym c.as_slice.ensures) ∙ sym c.in_ok-here.ensures ∙ c.if-here.false)

pub returns-then-here : goal.returns-then-here
returns-then-here c =
    let path = c.args.path.now in
    sym (some_step (λ p. fits p path) c.args.patterns.now c.loop-pattern.pattern-index c.pattern-item.result c.loop-pattern-test.true c.pattern-item.is
    (ap (λ p. fits p path) (sym c.as_slice.ensures) ∙ sym c.in_ok-here.ensures ∙ c.if-here.true))

pub returns : goal.returns
returns c =
    let path = c.args.path.now in
    sym (sym (ap (list_any (λ p. fits p path)) (take_all c.loop-pattern.pattern-index c.args.patterns.now c.loop-pattern-test.false)) ∙ c.loop-pattern.invariant)
