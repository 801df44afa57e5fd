use Rattle.std.proofs.Common.{◌≡◌, ◌+◌, ℕ, arith}
use Rattle.std.proofs.lemmas.Result.{IfOk-weaker}
use Rattle.kept_contents.specs.Added.{contents_with}
use Rattle.kept_tables.specs.Batching.{CountsPart}
use Rattle.kept_tables.proofs.SizeLemmas.{part_told, part_untold}
use Rattle.kept_tables.proofs.item_sizes.count_part.Goals as goal

pub returns-in_ok-number_text-in-Some-clause-part : goal.returns-in_ok-number_text-in-Some-clause-part
returns-in_ok-number_text-in-Some-clause-part c =
    let number = c.in_ok-number_text-in-Some.ensures.number in
    let before = c.in_ok-size.ensures in
    let long = c.len.ensures in
    let contents = contents_with c.number_text.new.table.contents c.number_text.new.added in
    IfOk-weaker c.sum-in-Some.result (λ (s : ℕ). s ≡ c.in_ok-size.size + 4) (CountsPart contents c.args.part.now)
    (λ s sum. part_told contents c.args.part.now _ c.in_ok-number_text-in-Some.field-0 s c.in-Some.is number (omega (arith, before, long, sum)))
    c.sum-in-Some.ensures

pub returns-in-None-clause-part : goal.returns-in-None-clause-part
returns-in-None-clause-part c =
    let before = c.in_ok-size.ensures in
    let long = c.len.ensures in
    part_untold (contents_with c.args.table.now.contents c.args.added.now) c.args.part.now c.in_ok-size.size c.in-None.is (omega (arith, before, long))
