use Rattle.std.proofs.Common.{[], ◌∷◌, arith, codes}
use Rattle.meaning_graph.specs.Tokens.{word, string}
use Rattle.meaning_graph.specs.Going.{identifier, name_string, extras, expect}
use Rattle.dg_reader.specs.Walks.{TakesToken}
use Rattle.dg_reader.proofs.TokenLemmas.{takes_shorter}
use Rattle.dg_reader.proofs.WalkLemmas.{at_stop, halts_behind, taken_at}
use Rattle.dg_reader.proofs.ListLemmas.{also_leads, with_leads, extras_also, extras_with}
use Rattle.dg_reader.proofs.cursor.Cursor.extra.Goals as goal

pub returns-in_err-take-clause-err : goal.returns-in_err-take-clause-err
returns-in_err-take-clause-err c =
    at_stop _ c.in_err-take.field-0.0 _ c.from_residual.ensures.1 (halts_behind c.in_err-take.field-0.0 _ c.args.self.now (expect (identifier ∷ []) extras) c.skip.new.self c.take.new.self (also_leads c.args.self.now c.skip.new.self c.if-skip.ensures) (c.in_err-take.ensures.err [] extras))

pub returns-then-skip-clause-ok : goal.returns-then-skip-clause-ok
returns-then-skip-clause-ok c =
    let a = takes_shorter c.args.self.now (word (codes "also")) c.skip.new.self c.if-skip.ensures in
    let b = takes_shorter c.skip.new.self (word c.in_ok-take.field-0) c.take.new.self c.in_ok-take.ensures.ok.taken in
    (extras_also c.in_ok-take.field-0 c.args.self.now c.skip.new.self c.take.new.self c.if-skip.ensures c.in_ok-take.ensures.ok, omega arith)

pub returns-in_err-take-2-clause-err : goal.returns-in_err-take-2-clause-err
returns-in_err-take-2-clause-err c =
    at_stop _ c.in_err-take-2.field-0.0 _ c.from_residual-in_err-take-2.ensures.1 (halts_behind c.in_err-take-2.field-0.0 _ c.args.self.now (expect (name_string ∷ []) extras) c.skip-2.new.self c.take-then-skip-2.new.self (with_leads c.args.self.now c.skip-2.new.self (taken_at (word (codes "with")) c.skip.new.self c.args.self.now c.skip-2.new.self c.if-skip.ensures.0 c.if-skip-2.ensures)) (c.in_err-take-2.ensures.err [] extras))

pub returns-then-skip-2-clause-ok : goal.returns-then-skip-2-clause-ok
returns-then-skip-2-clause-ok c =
    let k : TakesToken c.args.self.now (word (codes "with")) c.skip-2.new.self = taken_at (word (codes "with")) c.skip.new.self c.args.self.now c.skip-2.new.self c.if-skip.ensures.0 c.if-skip-2.ensures in
    let a = takes_shorter c.args.self.now (word (codes "with")) c.skip-2.new.self k in
    let b = takes_shorter c.skip-2.new.self (string c.in_ok-take-2.field-0) c.take-then-skip-2.new.self c.in_ok-take-2.ensures.ok.taken in
    (extras_with c.in_ok-take-2.field-0 c.args.self.now c.skip-2.new.self c.take-then-skip-2.new.self k c.in_ok-take-2.ensures.ok, omega arith)
