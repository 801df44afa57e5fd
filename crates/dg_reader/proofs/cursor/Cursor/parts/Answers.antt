use Rattle.std.proofs.Common.{[], ◌∷◌, arith}
use Rattle.meaning_graph.specs.Tokens.{comma}
use Rattle.meaning_graph.specs.Going.{identifier, parts, expect}
use Rattle.meaning_graph.proofs.Lemmas.{tokens_short}
use Rattle.dg_reader.proofs.TokenLemmas.{takes_shorter}
use Rattle.dg_reader.proofs.WalkLemmas.{at_stop, halts_behind}
use Rattle.dg_reader.proofs.ListLemmas.{parts_comma, parts_more}
use Rattle.dg_reader.proofs.cursor.Cursor.parts.Goals as goal

pub returns-in_err-part-clause-err : goal.returns-in_err-part-clause-err
returns-in_err-part-clause-err c =
    at_stop _ c.in_err-part.field-0.0 _ c.from_residual-in_err-part.ensures.1 (halts_behind c.in_err-part.field-0.0 _ c.args.self.now (expect (identifier ∷ identifier ∷ []) parts) c.skip.new.self c.part-in-parts.new.self (parts_comma c.parts.parts c.args.self.now c.parts.self c.skip.new.self c.parts.invariant c.parts-test.ensures) c.in_err-part.ensures.err)

pub parts-smaller : goal.parts-smaller
parts-smaller c =
    let a = takes_shorter c.parts.self comma c.skip.new.self c.parts-test.ensures in
    let b = tokens_short c.skip.new.self _ c.part-in-parts.new.self c.in_ok-part.ensures.ok.tokens in
    omega arith

pub parts-preserved : goal.parts-preserved
parts-preserved c = rw c.in_ok-push-2.ensures.ok (parts_more c.parts.parts c.in_ok-part.part c.args.self.now c.parts.self c.skip.new.self c.part-in-parts.new.self c.parts.invariant c.parts-test.ensures c.in_ok-part.ensures.ok)
