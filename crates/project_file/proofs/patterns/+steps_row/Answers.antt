use Rattle.std.proofs.Common.{◌≡◌, ℕ, List, Bor, map, ap, sym, ◌∙◌, length}
use Rattle.std.proofs.lemmas.List.{length-map}
use Rattle.std.proofs.lemmas.Result.{IfOk-weaker}
use Rattle.project_file.specs.Rows.{first_row}
use Rattle.project_file.proofs.RowLemmas.{steps_none, steps_some, steps_first}
use Rattle.project_file.proofs.patterns.+steps_row.Goals as goal

read : List (Bor (List ℕ)) → List (List ℕ)
read names = map (λ name. name.now) names

read_length : (names : List (Bor (List ℕ))) → length (map (λ (name : Bor (List ℕ)). name.now) names) ≡ length names
read_length names = length-map names (λ name. name.now)

pub returns-in-None : goal.returns-in-None
returns-in-None t c =
    IfOk-weaker c.first_row.result _ _
    (λ row is. steps_none _ _ row.items (read_length c.args.steps.now ∙ c.in-None.ensures.cases) (is ∙ ap first_row (sym (read_length c.args.names.now))))
    c.first_row.ensures

pub returns-then-is_folders : goal.returns-then-is_folders
returns-then-is_folders t c =
    IfOk-weaker c.any_so_far.result _ _
    (λ row is. steps_some _ _ _ c.in-Some.step.now.now _ row.items (ap (λ (l : List (Bor (List ℕ))). map (λ name. name.now) l) c.in-Some.ensures.cases.0)
    (sym c.is_folders.ensures ∙ c.if-is_folders.true) (c.as_slice.ensures.value ∙ c.in_ok-row-in-Some.ensures) is) c.any_so_far.ensures

pub returns : goal.returns
returns t c =
    IfOk-weaker c.after_step.result _ _
    (λ row is. steps_first _ _ _ c.in-Some.step.now.now _ row.items (ap (λ (l : List (Bor (List ℕ))). map (λ name. name.now) l) c.in-Some.ensures.cases.0)
    (sym c.is_folders.ensures ∙ c.if-is_folders.false) (c.as_slice-else-is_folders.ensures.value ∙ c.in_ok-row-in-Some.ensures) is) c.after_step.ensures
