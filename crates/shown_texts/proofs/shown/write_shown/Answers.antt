use Rattle.std.proofs.Common.{◌≡◌, [], ◌++◌, sym, ap, ◌∙◌, drop, append-nil}
use Rattle.std.proofs.Math.ListN.{drop_of_length-le}
use Rattle.shown_texts.specs.Shown.{shown_after}
use Rattle.shown_texts.proofs.ShownLemmas.{step_on}
use Rattle.shown_texts.proofs.shown.write_shown.Goals as goal

pub loop-place-preserved : goal.loop-place-preserved
loop-place-preserved c =
    rw c.saturating_sub-left.ensures (step_on _ c.args.text.now c.loop-place.out c.write_shown_byte.new.out c.loop-place.left c.stay_count-left.result c.loop-place.place
    c.loop-place-test.true c.stay_count-left.ensures c.in_ok-write_shown_byte.ensures c.loop-place.invariant)

pub returns : goal.returns
returns c =
    let text = c.args.text.now in
    let behind : drop c.loop-place.place text ≡ [] = drop_of_length-le text c.loop-place-test.false in
    sym (append-nil c.loop-place.out) ∙ sym (ap (λ l. c.loop-place.out ++ shown_after c.loop-place.left l) behind) ∙ c.loop-place.invariant
