-- Supertype by supertype.
use Rattle.std.proofs.Common.{◌≡◌, ◌∙◌, ◌+◌, ◌++◌, ◌∷◌, ◌≤◌, [], refl, length, get_or, take, sym, subst, arith, true≢false}
use Rattle.std.proofs.lemmas.List.{take_more, take_all}
use Rattle.meaning_texts.specs.Lists.{IsIn}
use Rattle.type_graph.proofs.WalkLemmas.{in_at, read_default}
use Rattle.type_graph.proofs.BitLemmas.{HasThese, stays, rows_apart, row_within, fits_on, one_grows, one_more_has}
use Rattle.type_graph.proofs.rows.add_above.Goals as goal
use Rattle.type_graph.proofs.rows.add_above.Goals.{then-add_row, else-add_row}

pub loop-above-init : goal.loop-above-init
loop-above-init c = (stays c.args.supers.now c.args.width c.args.words.now, λ s b i h x. absurd i, λ e. refl)

pub overflow_mul-above : goal.overflow_mul-above
overflow_mul-above c =
    let same = c.as_slice-above-items.ensures ∙ sym (read_default c.args.supers.now c.args.number c.index-supers-number.result [] c.requires.number c.index-supers-number.is) in
    let s = get_or c.as_slice-above-items.result.now c.loop-above.above-index 0 in
    let upper = c.requires.supers c.args.number s (subst (IsIn s) same (in_at c.as_slice-above-items.result.now c.loop-above.above-index 0 c.loop-above-test.true)) in
    let row = row_within (length c.args.supers.now) c.args.width s c.args.words.now c.requires.fits upper in
    grind (arith, row)

pub add_row-requires-clause-from : goal.add_row-requires-clause-from
add_row-requires-clause-from c =
    let same = c.as_slice-above-items.ensures ∙ sym (read_default c.args.supers.now c.args.number c.index-supers-number.result [] c.requires.number c.index-supers-number.is) in
    let s = get_or c.as_slice-above-items.result.now c.loop-above.above-index 0 in
    let upper = c.requires.supers c.args.number s (subst (IsIn s) same (in_at c.as_slice-above-items.result.now c.loop-above.above-index 0 c.loop-above-test.true)) in
    row_within (length c.args.supers.now) c.args.width s c.loop-above.words (fits_on (length c.args.supers.now) c.args.width c.args.words.now c.loop-above.words c.requires.fits c.loop-above.auto.words) upper

pub add_row-requires-clause-apart : goal.add_row-requires-clause-apart
add_row-requires-clause-apart c = rows_apart c.args.number (get_or c.as_slice-above-items.result.now c.loop-above.above-index 0) c.args.width

pub loop-above-preserved : goal.loop-above-preserved
loop-above-preserved c =
    let same = c.as_slice-above-items.ensures ∙ sym (read_default c.args.supers.now c.args.number c.index-supers-number.result [] c.requires.number c.index-supers-number.is) in
    let i = c.loop-above.above-index in
    let all = get_or c.args.supers.now c.args.number [] in
    let s = get_or c.as_slice-above-items.result.now i 0 in
    let leads = subst (IsIn s) same (in_at c.as_slice-above-items.result.now i 0 c.loop-above-test.true) in
    let more = subst (λ l. take (i + 1) l ≡ take i l ++ s ∷ []) same (take_more c.as_slice-above-items.result.now i 0 c.loop-above-test.true) in
    let so_far = c.loop-above.invariant in (
      one_grows c.args.supers.now c.args.width c.args.number (take i all) s c.args.words.now c.loop-above.words c.add_row.new.words c.requires.supers c.requires.number leads c.requires.fits so_far.0 so_far.1 c.add_row.ensures.ored,
      subst (λ l. HasThese c.args.supers.now c.args.width c.args.number l c.args.words.now c.add_row.new.words) (sym more)
          (one_more_has c.args.supers.now c.args.width c.args.number (take i all) s c.args.words.now c.loop-above.words c.add_row.new.words c.requires.supers c.requires.number leads c.requires.fits so_far.0 so_far.1 c.add_row.ensures.ored),
      elim c.if-add_row.branch [
        | then-add_row w ↦ λ e. absurd (true≢false (sym w.grew-is ∙ e))
        | else-add_row w ↦ λ e. c.add_row.ensures.same w.if-add_row.false ∙ so_far.2 (sym w.grew-is ∙ e)
      ],
    )

pub returns-clause-adds : goal.returns-clause-adds
returns-clause-adds c =
    let same = c.as_slice-above-items.ensures ∙ sym (read_default c.args.supers.now c.args.number c.index-supers-number.result [] c.requires.number c.index-supers-number.is) in
    let all = get_or c.args.supers.now c.args.number [] in
    let past : length all ≤ c.loop-above.above-index = subst (λ l. length l ≤ c.loop-above.above-index) same c.loop-above-test.false in
    subst (λ l. HasThese c.args.supers.now c.args.width c.args.number l c.args.words.now c.loop-above.words) (take_all c.loop-above.above-index all past) c.loop-above.invariant.1
