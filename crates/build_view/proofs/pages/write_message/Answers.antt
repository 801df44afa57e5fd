use Rattle.std.proofs.Common.{ap, ◌∙◌, ◌++◌}
use Rattle.build_view.specs.Escaped.{words}
use Rattle.build_view.specs.Pages.{cell, level_cell, message_cells}
use Rattle.build_view.proofs.Added.{then, on_ok}
use Rattle.build_view.proofs.pages.write_message.Goals as goal

pub returns : goal.returns
unfolding message_cells
returns c =
    on_ok c.write_cell.result (λ last.
    then c.args.out.now _ _ (then c.args.out.now _ _ (c.in_ok-write_level.ensures ∙ ap (λ x. c.args.out.now ++ level_cell x) c.level_word.ensures)
    c.in_ok-write_place_cell.ensures)
    last) (on_ok c.write_cell.result (λ added. added ∙ ap (λ x. c.write_place_cell.new.out ++ cell (words x)) c.as_slice.ensures) c.write_cell.ensures)
