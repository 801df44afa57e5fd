use Rattle.build_view.specs.Pages.{front}
use Rattle.build_view.proofs.Added.{then, on_ok}
use Rattle.build_view.proofs.pages.write_front.Goals as goal

pub returns : goal.returns
unfolding front
returns c =
    on_ok c.extend_from_slice-3.result (λ last.
    then c.args.out.now _ _ (then c.args.out.now _ _ c.in_ok-extend_from_slice.ensures.ok
    c.in_ok-extend_from_slice-2.ensures.ok)
    last) c.extend_from_slice-3.ensures.ok
