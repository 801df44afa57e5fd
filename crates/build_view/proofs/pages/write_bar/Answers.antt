use Rattle.std.proofs.Common.{ap, ◌∙◌, ◌++◌}
use Rattle.build_view.specs.Escaped.{words}
use Rattle.build_view.specs.Pages.{bar}
use Rattle.build_view.proofs.Added.{then, on_ok}
use Rattle.build_view.proofs.pages.write_bar.Goals as goal

pub returns : goal.returns
unfolding bar
returns c =
    on_ok c.extend_from_slice-2.result (λ last.
    then c.args.out.now _ _ (then c.args.out.now _ _ (then c.args.out.now _ _ (then c.args.out.now _ _ c.in_ok-write_box.ensures
    c.in_ok-write_title.ensures)
    c.in_ok-extend_from_slice.ensures.ok)
    (c.in_ok-write_words.ensures ∙ ap (λ x. c.extend_from_slice.new.self ++ words x) c.as_slice.ensures))
    last) c.extend_from_slice-2.ensures.ok
