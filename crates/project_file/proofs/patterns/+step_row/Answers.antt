use Rattle.std.proofs.Common.{◌∙◌}
use Rattle.std.proofs.lemmas.Result.{IfOk-weaker}
use Rattle.project_file.proofs.RowLemmas.{row_none, row_star, row_byte}
use Rattle.project_file.proofs.patterns.+step_row.Goals as goal

pub returns-in-None : goal.returns-in-None
returns-in-None t c = IfOk-weaker c.first_row.result _ _ (λ row is. row_none _ _ row.items c.in-None.ensures.cases is) c.first_row.ensures

pub returns-then-byte-eq42 : goal.returns-then-byte-eq42
returns-then-byte-eq42 t c =
    IfOk-weaker c.any_so_far.result _ _
    (λ row is. row_star _ _ _ c.in-Some.byte.now _ row.items c.in-Some.ensures.cases.0 c.if-byte-eq42.true
    (c.as_slice.ensures.value ∙ c.in_ok-row-in-Some.ensures) is) c.any_so_far.ensures

pub returns : goal.returns
returns t c =
    IfOk-weaker c.after_byte.result _ _
    (λ row is. row_byte _ _ _ c.in-Some.byte.now _ row.items c.in-Some.ensures.cases.0 c.if-byte-eq42.false
    (c.as_slice-else-byte-eq42.ensures.value ∙ c.in_ok-row-in-Some.ensures) is) c.after_byte.ensures
