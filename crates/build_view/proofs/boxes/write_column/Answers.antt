use Rattle.std.proofs.Common.{ap, ◌∙◌, ◌++◌, decimal, ◌*◌}
use Rattle.build_view.specs.Escaped.{words}
use Rattle.build_view.specs.Boxes.{column_name}
use Rattle.build_view.proofs.Added.{then, on_ok}
use Rattle.build_view.proofs.boxes.write_column.Goals as goal

pub returns : goal.returns
unfolding column_name
returns c =
    on_ok c.extend_from_slice-3.result (λ last.
    then c.args.out.now _ _ (then c.args.out.now _ _ (then c.args.out.now _ _ (then c.args.out.now _ _ c.in_ok-extend_from_slice.ensures.ok
    (c.in_ok-write_number.ensures.ok ∙ ap (λ x. c.extend_from_slice.new.self ++ decimal (180 * x)) c.from.ensures))
    c.in_ok-extend_from_slice-2.ensures.ok)
    (c.in_ok-write_words.ensures ∙ ap (λ x. c.extend_from_slice-2.new.self ++ words x) c.as_slice.ensures))
    last) c.extend_from_slice-3.ensures.ok
