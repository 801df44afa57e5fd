use Rattle.std.proofs.Common.{◌≡◌, ◌∙◌, ap, ℕ, List, Bor, map, reverse}
use Rattle.project_file.specs.Patterns.{steps_fit, steps_of}
use Rattle.project_file.proofs.RowLemmas.{whole, map-reverse}
use Rattle.project_file.proofs.patterns.fits.Goals as goal

-- the names behind references
read : List (Bor (List ℕ)) → List (List ℕ)
read names = map (λ name. name.now) names

pub returns : goal.returns
unfolding read
returns c =
    let steps : read c.as_slice.result.now ≡ steps_of c.args.pattern.now = ap read c.as_slice.ensures.value ∙ c.in_ok-steps.ensures in
    let turned : read c.as_slice-2.result.now ≡ reverse (steps_of c.args.path.now) =
    ap read (c.as_slice-2.ensures.value ∙ c.reverse.ensures.items) ∙ map-reverse (λ name. name.now) c.in_ok-names.names.items
    ∙ ap reverse c.in_ok-names.ensures in
    c.last_of.ensures
    ∙ whole (steps_fit (read c.as_slice.result.now)) (steps_of c.args.path.now) (read c.as_slice-2.result.now) c.as_slice-3.result.now turned
    (c.as_slice-3.ensures.value ∙ c.in_ok-row.ensures)
    ∙ ap (λ (l : List (List ℕ)). steps_fit l (steps_of c.args.path.now)) steps
