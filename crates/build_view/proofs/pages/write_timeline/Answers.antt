use Rattle.std.proofs.Common.{ap, ◌∙◌, ◌++◌, decimal, ◌*◌}
use Rattle.build_view.specs.Pages.{timeline}
use Rattle.build_view.proofs.Added.{then, on_ok}
use Rattle.build_view.proofs.pages.write_timeline.Goals as goal

pub returns : goal.returns
unfolding timeline
returns c =
    on_ok c.extend_from_slice-3.result (λ last.
    then c.args.out.now _ _ (then c.args.out.now _ _ (then c.args.out.now _ _ (then c.args.out.now _ _ c.in_ok-extend_from_slice.ensures.ok
    (c.in_ok-write_number.ensures.ok ∙ ap (λ x. c.extend_from_slice.new.self ++ decimal (16 * x)) c.slot_count.ensures.count))
    c.in_ok-extend_from_slice-2.ensures.ok)
    c.in_ok-write_bars.ensures)
    last) c.extend_from_slice-3.ensures.ok
