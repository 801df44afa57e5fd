use Rattle.std.proofs.Common.{false, List, [], ◌∷◌, ◌++◌, Bool, sym, ap, ◌∙◌, append_assoc, ◌-◌, ◌+◌}
use Rattle.project_file.specs.Rows.{falses}
use Rattle.project_file.proofs.RowLemmas.{falses_step}
use Rattle.project_file.proofs.rows.first_row.Goals as goal

pub loop-preserved : goal.loop-preserved
loop-preserved c =
    ap (λ (l : List Bool). l ++ falses (c.args.len - (c.loop.counter + 1))) c.in_ok-push-2.ensures.items
    ∙ append_assoc c.loop.row.items (false ∷ []) (falses (c.args.len - (c.loop.counter + 1)))
    ∙ ap (λ (l : List Bool). c.loop.row.items ++ l) (sym (falses_step c.args.len c.loop.counter c.loop-test.true))
    ∙ c.loop.invariant
