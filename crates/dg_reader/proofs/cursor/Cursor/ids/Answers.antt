use Rattle.std.proofs.Common.{[], ◌∷◌, arith}
use Rattle.meaning_graph.specs.Tokens.{comma, word}
use Rattle.meaning_graph.specs.Going.{identifier, expect}
use Rattle.dg_reader.proofs.TokenLemmas.{takes_shorter}
use Rattle.dg_reader.proofs.WalkLemmas.{at_stop, halts_behind}
use Rattle.dg_reader.proofs.ListLemmas.{ids_one, ids_comma, ids_more}
use Rattle.dg_reader.proofs.cursor.Cursor.ids.Goals as goal

pub ids-init : goal.ids-init
ids-init c = rw (c.in_ok-push.ensures.ok, c.new-ids.ensures) (ids_one c.in_ok-first.first c.args.self.now c.take.new.self c.in_ok-first.ensures.ok)

pub returns-in_err-id-clause-err : goal.returns-in_err-id-clause-err
returns-in_err-id-clause-err c =
    at_stop _ c.in_err-id.field-0.0 _ c.from_residual-in_err-id.ensures.1 (λ stage s. halts_behind c.in_err-id.field-0.0 _ c.args.self.now (expect (identifier ∷ []) stage) c.skip.new.self c.take-in-ids.new.self (ids_comma c.ids.ids c.args.self.now c.ids.self c.skip.new.self c.ids.invariant c.ids-test.ensures stage s) (c.in_err-id.ensures.err [] stage))

pub ids-smaller : goal.ids-smaller
ids-smaller c =
    let a = takes_shorter c.ids.self comma c.skip.new.self c.ids-test.ensures in
    let b = takes_shorter c.skip.new.self (word c.in_ok-id.id) c.take-in-ids.new.self c.in_ok-id.ensures.ok.taken in
    omega arith

pub ids-preserved : goal.ids-preserved
ids-preserved c = rw c.in_ok-push-2.ensures.ok (ids_more c.ids.ids c.in_ok-id.id c.args.self.now c.ids.self c.skip.new.self c.take-in-ids.new.self c.ids.invariant c.ids-test.ensures c.in_ok-id.ensures.ok)
