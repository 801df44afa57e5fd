use Rattle.std.proofs.Common.{ap, ◌∙◌, ◌++◌}
use Rattle.build_view.specs.Pages.{line_cell, message_row}
use Rattle.build_view.proofs.Added.{then, on_ok}
use Rattle.build_view.proofs.pages.write_row.Goals as goal

pub returns : goal.returns
unfolding message_row
returns c =
    on_ok c.extend_from_slice-2.result (λ last.
    then c.args.out.now _ _ (then c.args.out.now _ _ (then c.args.out.now _ _ c.in_ok-extend_from_slice.ensures.ok
    c.in_ok-write_message.ensures)
    (c.in_ok-write_line.ensures ∙ ap (λ x. c.write_message.new.out ++ line_cell x) c.as_slice.ensures))
    last) c.extend_from_slice-2.ensures.ok
