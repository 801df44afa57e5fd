use Rattle.build_view.specs.Pages.{summary}
use Rattle.build_view.proofs.Added.{then, on_ok}
use Rattle.build_view.proofs.pages.write_summary.Goals as goal

pub returns : goal.returns
unfolding summary
returns c =
    on_ok c.extend_from_slice-3.result (λ last.
    then c.args.out.now _ _ (then c.args.out.now _ _ (then c.args.out.now _ _ (then c.args.out.now _ _ c.in_ok-extend_from_slice.ensures.ok
    c.in_ok-write_number.ensures.ok)
    c.in_ok-extend_from_slice-2.ensures.ok)
    c.in_ok-write_number-2.ensures.ok)
    last) c.extend_from_slice-3.ensures.ok
