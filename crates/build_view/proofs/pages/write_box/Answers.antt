use Rattle.std.proofs.Common.{ap, ◌∙◌, ◌++◌, decimal, ◌*◌}
use Rattle.build_view.specs.Pages.{bar_box, width_of}
use Rattle.build_view.proofs.Added.{then, on_ok}
use Rattle.build_view.proofs.pages.write_box.Goals as goal

pub returns : goal.returns
unfolding bar_box
returns c =
    on_ok c.extend_from_slice-4.result (λ last.
    then c.args.out.now _ _ (then c.args.out.now _ _ (then c.args.out.now _ _ (then c.args.out.now _ _ (then c.args.out.now _ _ (then c.args.out.now _ _ c.in_ok-extend_from_slice.ensures.ok
    c.in_ok-write_number.ensures.ok)
    c.in_ok-extend_from_slice-2.ensures.ok)
    (c.in_ok-write_number-2.ensures.ok ∙ ap (λ x. c.extend_from_slice-2.new.self ++ decimal (16 * x)) c.from.ensures))
    c.in_ok-extend_from_slice-3.ensures.ok)
    (c.in_ok-write_number-3.ensures.ok ∙ ap (λ x. c.extend_from_slice-3.new.self ++ decimal x) (c.width_of.ensures ∙ ap (width_of c.args.step) c.saturating_sub.ensures)))
    last) c.extend_from_slice-4.ensures.ok
