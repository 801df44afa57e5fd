use Rattle.std.proofs.Common.{[], ◌∷◌}
use Rattle.meaning_graph.specs.Going.{identifier, ending, expect}
use Rattle.dg_reader.proofs.WalkLemmas.{at_stop, halts_behind}
use Rattle.dg_reader.proofs.ListLemmas.{closure_leads, closure_read, no_closure}
use Rattle.dg_reader.proofs.cursor.Cursor.closure.Goals as goal

pub returns-in_err-take-clause-err : goal.returns-in_err-take-clause-err
returns-in_err-take-clause-err c =
    at_stop _ c.in_err-take.field-0.0 _ c.from_residual.ensures.1 (halts_behind c.in_err-take.field-0.0 _ c.args.self.now (expect (identifier ∷ []) ending) c.skip.new.self c.take.new.self (closure_leads c.args.self.now c.skip.new.self c.if-skip.ensures) (c.in_err-take.ensures.err [] ending))

pub returns-in_ok-take-clause-ok : goal.returns-in_ok-take-clause-ok
returns-in_ok-take-clause-ok c = closure_read c.in_ok-take.field-0 c.args.self.now c.skip.new.self c.take.new.self c.if-skip.ensures c.in_ok-take.ensures.ok

pub returns-else-skip-clause-ok : goal.returns-else-skip-clause-ok
returns-else-skip-clause-ok c = rw c.if-skip.ensures.0 (no_closure c.args.self.now c.if-skip.ensures.1)
