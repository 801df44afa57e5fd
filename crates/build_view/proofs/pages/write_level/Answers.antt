use Rattle.build_view.proofs.Added.{then, on_ok}
use Rattle.build_view.proofs.pages.write_level.Goals as goal

pub returns : goal.returns
returns c =
    on_ok c.extend_from_slice-5.result (λ last.
    then c.args.out.now _ _ (then c.args.out.now _ _ (then c.args.out.now _ _ (then c.args.out.now _ _ c.in_ok-extend_from_slice.ensures.ok
    c.in_ok-extend_from_slice-2.ensures.ok)
    c.in_ok-extend_from_slice-3.ensures.ok)
    c.in_ok-extend_from_slice-4.ensures.ok)
    last) c.extend_from_slice-5.ensures.ok
