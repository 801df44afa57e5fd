use Rattle.std.proofs.Common.{ap, ◌∙◌, ◌++◌, decimal, ◌/◌}
use Rattle.build_view.specs.Escaped.{words}
use Rattle.build_view.specs.Pages.{bar_title}
use Rattle.build_view.proofs.Added.{then, on_ok}
use Rattle.build_view.proofs.pages.write_title.Goals as goal

pub returns : goal.returns
unfolding bar_title
returns c =
    on_ok c.extend_from_slice-4.result (λ last.
    then c.args.out.now _ _ (then c.args.out.now _ _ (then c.args.out.now _ _ (then c.args.out.now _ _ (then c.args.out.now _ _ (then c.args.out.now _ _ c.in_ok-extend_from_slice.ensures.ok
    (c.in_ok-write_words.ensures ∙ ap (λ x. c.extend_from_slice.new.self ++ words x) c.as_slice.ensures))
    c.in_ok-extend_from_slice-2.ensures.ok)
    (c.in_ok-write_number.ensures.ok ∙ ap (λ x. c.extend_from_slice-2.new.self ++ decimal (x / 1000)) c.saturating_sub.ensures))
    c.in_ok-extend_from_slice-3.ensures.ok)
    c.in_ok-write_number-2.ensures.ok)
    last) c.extend_from_slice-4.ensures.ok
