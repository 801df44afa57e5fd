use Rattle.std.proofs.Common.{[], ◌∷◌}
use Rattle.std.specs.Prelude.{codes}
use Rattle.meaning_graph.specs.Going.{keyword, identifier, supers, expect}
use Rattle.dg_reader.proofs.WalkLemmas.{at_stop, halts_behind, halts_here, leads_keyword, stops_keyword}
use Rattle.dg_reader.proofs.DeclLemmas.{of_leads, list_read}
use Rattle.dg_reader.proofs.cursor.Cursor.list.Goals as goal

pub returns-in_err-require-clause-err : goal.returns-in_err-require-clause-err
returns-in_err-require-clause-err c =
    at_stop _ c.in_err-require.field-0.0 _ c.from_residual.ensures.1 (halts_here c.in_err-require.field-0.0 (expect (keyword (codes "of") ∷ identifier ∷ []) supers) c.args.self.now (expect (keyword (codes "of") ∷ identifier ∷ []) supers) c.args.self.now c.require.new.self (λ place h. h) (stops_keyword (codes "of") c.args.self.now c.in_err-require.ensures.err.1 (identifier ∷ []) supers) c.in_err-require.ensures.err.0)

pub returns-in_err-of-clause-err : goal.returns-in_err-of-clause-err
returns-in_err-of-clause-err c =
    at_stop _ c.in_err-of.field-0.0 _ c.from_residual-in_err-of.ensures.1 (halts_behind c.in_err-of.field-0.0 (expect (keyword (codes "of") ∷ identifier ∷ []) supers) c.args.self.now (expect (identifier ∷ []) supers) c.require.new.self c.take.new.self (leads_keyword (codes "of") c.args.self.now c.require.new.self c.in_ok-require.ensures.ok (identifier ∷ []) supers) (c.in_err-of.ensures.err [] supers))

pub returns-in_err-supers-clause-err : goal.returns-in_err-supers-clause-err
returns-in_err-supers-clause-err c =
    at_stop _ c.in_err-supers.field-0.0 _ c.from_residual-in_err-supers.ensures.1 (halts_behind c.in_err-supers.field-0.0 (expect (keyword (codes "of") ∷ identifier ∷ []) supers) c.args.self.now (expect [] supers) c.take.new.self c.supers.new.self (of_leads c.in_ok-of.of c.args.self.now c.require.new.self c.take.new.self c.in_ok-require.ensures.ok c.in_ok-of.ensures.ok) (c.in_err-supers.ensures.err))

pub returns-clause-ok : goal.returns-clause-ok
returns-clause-ok c = list_read c.in_ok-of.of c.in_ok-supers.supers c.args.self.now c.require.new.self c.take.new.self c.supers.new.self c.in_ok-require.ensures.ok c.in_ok-of.ensures.ok c.in_ok-supers.ensures.ok
