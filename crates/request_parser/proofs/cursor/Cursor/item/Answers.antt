use Rattle.std.proofs.Common.{◌≡◌, ap, sym, ◌∙◌, subst}
use Rattle.request_parser.specs.Runs.{next}
use Rattle.request_parser.specs.Reads.{HaltsAt, AreItems}
use Rattle.request_parser.proofs.ReadLemmas.{no_item}
use Rattle.request_parser.proofs.StopLemmas.{mark_stops}
use Rattle.request_parser.proofs.cursor.Cursor.item.Goals as goal

pub returns-then-skip-clause-err : goal.returns-then-skip-clause-err
returns-then-skip-clause-err c = mark_stops c.param.result 43 c.args.self.now c.skip.new.self c.param.new.self c.if-skip.ensures c.param.ensures.err

pub returns-then-skip-2-clause-err : goal.returns-then-skip-2-clause-err
returns-then-skip-2-clause-err c = mark_stops c.type_step.result 58 c.args.self.now c.skip-2.new.self c.type_step.new.self (sym c.if-skip.ensures.0 ∙ c.if-skip-2.ensures) c.type_step.ensures.err

pub returns-then-skip-3-clause-err : goal.returns-then-skip-3-clause-err
returns-then-skip-3-clause-err c = mark_stops c.pick.result 37 c.args.self.now c.skip-3.new.self c.pick.new.self (sym (c.if-skip-2.ensures.0 ∙ c.if-skip.ensures.0) ∙ c.if-skip-3.ensures) c.pick.ensures.err

pub returns-clause-err : goal.returns-clause-err
returns-clause-err c =
    let one : c.skip.new.self ≡ c.args.self.now = c.if-skip.ensures.0 in
    let two : c.skip-2.new.self ≡ c.args.self.now = c.if-skip-2.ensures.0 ∙ one in
    let three : c.skip-3.new.self ≡ c.args.self.now = c.if-skip-3.ensures.0 ∙ two in
    subst (HaltsAt AreItems c.args.self.now) (sym three) (no_item c.args.self.now c.requires.more c.requires.no_space c.if-skip.ensures.1 (λ e. c.if-skip-2.ensures.1 (ap next one ∙ e)) (λ e. c.if-skip-3.ensures.1 (ap next two ∙ e)))
