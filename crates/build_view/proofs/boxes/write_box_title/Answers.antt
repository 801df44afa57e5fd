use Rattle.std.proofs.Common.{ap, ◌∙◌, ◌++◌}
use Rattle.build_view.specs.Escaped.{words}
use Rattle.build_view.specs.Boxes.{box_title}
use Rattle.build_view.proofs.Added.{then, on_ok}
use Rattle.build_view.proofs.boxes.write_box_title.Goals as goal

pub returns : goal.returns
unfolding box_title
returns c =
    on_ok c.extend_from_slice-4.result (λ last.
    then c.args.out.now _ _ (then c.args.out.now _ _ (then c.args.out.now _ _ (then c.args.out.now _ _ c.in_ok-extend_from_slice.ensures.ok
    (c.in_ok-write_words.ensures ∙ ap (λ x. c.extend_from_slice.new.self ++ words x) c.as_slice.ensures))
    c.in_ok-extend_from_slice-2.ensures.ok)
    (c.in_ok-extend_from_slice-3.ensures.ok ∙ ap (λ x. c.extend_from_slice-2.new.self ++ x) c.made_word.ensures))
    last) c.extend_from_slice-4.ensures.ok
