-- Row by row.
use Rattle.std.proofs.Common.{◌∙◌, refl, sym, true≢false, arith}
use Rattle.type_graph.proofs.BitLemmas.{stays, grows_on, above_kept, above_more}
use Rattle.type_graph.proofs.rows.go_round.Goals as goal
use Rattle.type_graph.proofs.rows.go_round.Goals.{then-add_above, else-add_above, then-add_above-2, else-add_above-2}

pub loop-number-init : goal.loop-number-init
loop-number-init c = (stays c.args.supers.now c.args.width c.args.words.now, λ a h. absurd (omega (arith, h)), λ e. refl)

pub loop-number-preserved : goal.loop-number-preserved
loop-number-preserved c =
    let so_far = c.loop-number.invariant in (
      grows_on c.args.supers.now c.args.width c.args.words.now c.loop-number.words c.add_above.new.words so_far.0 c.add_above.ensures.grows,
      above_more c.args.supers.now c.args.width c.args.words.now c.loop-number.words c.add_above.new.words so_far.0 c.add_above.ensures.grows
          c.loop-number.number c.loop-number-test.true c.requires.supers so_far.1 c.add_above.ensures.adds,
      elim c.if-add_above.branch [
        | then-add_above w ↦ λ e. absurd (true≢false (sym w.grew-is ∙ e))
        | else-add_above w ↦ λ e. c.add_above.ensures.same w.if-add_above.false ∙ so_far.2 (sym w.grew-is ∙ e)
      ],
    )

pub loop-passed-init : goal.loop-passed-init
loop-passed-init c =
    let so_far = c.loop-number.invariant in
    (so_far.0, λ a h. so_far.1 a (omega (arith, h, c.loop-number-test.false)), so_far.2)

pub loop-passed-preserved : goal.loop-passed-preserved
loop-passed-preserved c =
    let so_far = c.loop-passed.invariant in
    let grows = c.add_above-in-loop-passed.ensures.grows in (
      grows_on c.args.supers.now c.args.width c.args.words.now c.loop-passed.words c.add_above-in-loop-passed.new.words so_far.0 grows,
      λ a h. above_kept c.args.supers.now c.args.width c.args.words.now c.loop-passed.words c.add_above-in-loop-passed.new.words so_far.0 grows a h (so_far.1 a h),
      elim c.if-add_above-2.branch [
        | then-add_above-2 w ↦ λ e. absurd (true≢false (sym w.grew-is ∙ e))
        | else-add_above-2 w ↦ λ e. c.add_above-in-loop-passed.ensures.same w.if-add_above-2.false ∙ so_far.2 (sym w.grew-is ∙ e)
      ],
    )
