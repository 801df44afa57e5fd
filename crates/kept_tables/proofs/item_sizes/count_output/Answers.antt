use Rattle.std.proofs.Common.{◌≡◌, ◌+◌, ℕ, arith}
use Rattle.std.proofs.lemmas.Result.{IfOk-weaker}
use Rattle.kept_contents.specs.Added.{contents_with}
use Rattle.kept_tables.specs.Batching.{CountsOutput}
use Rattle.kept_tables.proofs.SizeLemmas.{output_told}
use Rattle.kept_tables.proofs.item_sizes.count_output.Goals as goal

pub returns-clause-output : goal.returns-clause-output
returns-clause-output c =
    let long = c.len.ensures in
    let contents = contents_with c.number_text.new.table.contents c.number_text.new.added in
    IfOk-weaker c.sum.result (λ (s : ℕ). s ≡ c.len.result + 8) (CountsOutput contents c.args.output.now)
    (λ s sum. output_told contents c.args.output.now c.in_ok-number_text.field-0 s c.in_ok-number_text.ensures.number (omega (arith, long, sum)))
    c.sum.ensures
