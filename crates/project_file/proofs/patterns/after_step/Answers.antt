use Rattle.std.proofs.Common.{◌≡◌, ◌&&◌, Bool, inl, inr, List, ◌++◌, ◌∙◌, ap}
use Rattle.std.proofs.lemmas.List.{length-map}
use Rattle.project_file.specs.Patterns.{step_fits}
use Rattle.project_file.specs.Rows.{pairs_pass}
use Rattle.project_file.proofs.RowLemmas.{ended, turn, and_true, and_false}
use Rattle.project_file.proofs.patterns.after_step.Invariants.{read}
use Rattle.project_file.proofs.patterns.after_step.Goals as goal
use Rattle.project_file.proofs.patterns.after_step.Goals.{then-passes+in_ok-fits, else-passes}

pub returns : goal.returns
returns c =
    elim c.in-None.ensures.steps [
      | inl none ↦ ended (step_fits c.args.step.now) _ _ _ _ (inl (length-map c.loop-name.name-iterator.a.rest.now (λ name. name.now) ∙ none.1.0))
          c.loop-name.invariant
      | inr none ↦ ended (step_fits c.args.step.now) _ _ _ _ (inr none.1.0) c.loop-name.invariant
    ]

pub loop-name-preserved : goal.loop-name-preserved
loop-name-preserved c =
    let test = step_fits c.args.step.now in
    let name = c.in-Some.name.now.now in
    let fits : c.if-passes.fits ≡ (test name && c.in-Some.passes.now) =
    elim c.if-passes.branch [
      | then-passes+in_ok-fits w ↦ w.fits-is ∙ w.in_ok-fits.ensures ∙ and_true (test name) c.in-Some.passes.now w.if-passes.true
      | else-passes w ↦ w.fits-is ∙ and_false (test name) c.in-Some.passes.now w.if-passes.false
    ] in
    let left = read c.next.new.self.a.rest.now in
    let others = c.next.new.self.b.rest.now in
    ap (λ (l : List Bool). l ++ pairs_pass test left others) c.in_ok-push-2.ensures.items
    ∙ turn test _ left _ others c.loop-name.next.items _ name c.in-Some.passes.now c.if-passes.fits (ap read c.in-Some.ensures.steps.0)
    c.in-Some.ensures.steps.1 fits c.loop-name.invariant
