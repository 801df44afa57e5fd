-- Row by row.
use Rattle.std.proofs.Common.{◌∙◌, ◌+◌, sym, subst, true≢false}
use Rattle.std.proofs.lemmas.Bool.{eqb-true, eq-eqb}
use Rattle.type_graph.specs.Rows.{bit, Passes}
use Rattle.type_graph.proofs.BitLemmas.{rows_apart, none_pass, pass_new, pass_old}
use Rattle.type_graph.proofs.rows.add_through.Goals as goal
use Rattle.type_graph.proofs.rows.add_through.Goals.{then-has_bit, else-has_bit}

pub add_row-requires-clause-apart : goal.add_row-requires-clause-apart
add_row-requires-clause-apart c = rows_apart c.loop-number.number c.args.through c.args.width

pub loop-number-init : goal.loop-number-init
loop-number-init c = none_pass c.args.count c.args.width c.args.through c.args.words.now

pub loop-number-preserved : goal.loop-number-preserved
loop-number-preserved c =
    let n = c.loop-number.number in
    let t = c.args.through in
    let has = bit c.args.width c.loop-number.words n t in
    elim c.if-has_bit.branch [
      | then-has_bit w ↦
          subst (Passes c.args.count c.args.width t (n + 1) c.args.words.now) (sym w.words-is)
          (pass_new c.args.count c.args.width t n c.args.words.now c.loop-number.words c.requires.fits c.requires.through c.loop-number-test.true c.loop-number.invariant w.add_row.new.words
          (eqb-true has 1 (sym c.has_bit.ensures ∙ w.if-has_bit.true)) w.add_row.ensures.ored)
      | else-has_bit w ↦
          subst (Passes c.args.count c.args.width t (n + 1) c.args.words.now) (sym w.words-is)
          (pass_old c.args.count c.args.width t n c.args.words.now c.loop-number.words c.requires.fits c.requires.through c.loop-number-test.true c.loop-number.invariant
          (λ x. true≢false (sym (eq-eqb has 1 x) ∙ sym c.has_bit.ensures ∙ w.if-has_bit.false)))
    ]
