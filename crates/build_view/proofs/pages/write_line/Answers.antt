use Rattle.build_view.proofs.Added.{then, on_ok}
use Rattle.build_view.proofs.pages.write_line.Goals as goal

pub returns : goal.returns
returns c =
    on_ok c.extend_from_slice-2.result (λ last.
    then c.args.out.now _ _ (then c.args.out.now _ _ c.in_ok-extend_from_slice.ensures.ok
    c.in_ok-write_words.ensures)
    last) c.extend_from_slice-2.ensures.ok
