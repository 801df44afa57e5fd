use Rattle.std.proofs.Common.{◌≡◌, ◌-◌, length, take, drop, sym, ◌∙◌, arith, length-drop}
use Rattle.std.proofs.lemmas.List.{take_all}
use Rattle.request_parser.specs.Runs.{has, word_class_of, TakesRun}
use Rattle.request_parser.proofs.RunLemmas.{no_word, a_word, not_short, too_long}
use Rattle.request_parser.proofs.cursor.Cursor.word.Goals as goal

pub returns-then-not-begins-clause-err : goal.returns-then-not-begins-clause-err
returns-then-not-begins-clause-err c =
    let t : TakesRun (has (word_class_of c.args.wanted)) c.run-run.result.now c.args.self.now c.run-run.new.self = rw c.class.ensures at c.run-run.ensures in
    rw c.self.view_is (no_word c.args.wanted c.run-run.result.now c.args.self.now c.run-run.new.self t (sym c.begins.ensures ∙ c.if-not-begins.true))

pub returns-then-not-is_short-clause-err : goal.returns-then-not-is_short-clause-err
returns-then-not-is_short-clause-err c =
    let t : TakesRun (has (word_class_of c.args.wanted)) c.run-run.result.now c.args.self.now c.run-run.new.self = rw c.class.ensures at c.run-run.ensures in
    let left : take (length c.self.inside.rest.now - 255) (drop 255 c.self.inside.rest.now) ≡ drop 255 c.self.inside.rest.now = take_all (length c.self.inside.rest.now - 255) (drop 255 c.self.inside.rest.now) (omega (arith, length-drop 255 c.self.inside.rest.now)) in
    rw (left, c.self.view_is) (too_long c.args.wanted c.run-run.result.now c.args.self.now c.run-run.new.self t (sym c.begins.ensures ∙ c.if-not-begins.false) (not_short c.is_short.result c.run-run.result.now c.is_short.ensures c.if-not-is_short.true))

pub returns-clause-ok : goal.returns-clause-ok
returns-clause-ok c =
    let t : TakesRun (has (word_class_of c.args.wanted)) c.run-run.result.now c.args.self.now c.run-run.new.self = rw c.class.ensures at c.run-run.ensures in
    rw c.in_ok-from_slice.ensures (a_word c.args.wanted c.run-run.result.now c.args.self.now c.run-run.new.self t (sym c.begins.ensures ∙ c.if-not-begins.false) (c.is_short.ensures.0 c.if-not-is_short.false))
