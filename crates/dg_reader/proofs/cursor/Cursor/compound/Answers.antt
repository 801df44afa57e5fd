use Rattle.std.proofs.Common.{[], ◌∷◌, rules}
use Rattle.meaning_graph.specs.Going.{identifier, open_mark, parts, expect}
use Rattle.dg_reader.proofs.WalkLemmas.{at_stop, halts_behind, halts_here, stops_open}
use Rattle.dg_reader.proofs.StageLemmas.{stops_parts}
use Rattle.dg_reader.proofs.DeclLemmas.{open_leads, parts_lead, compound_read}
use Rattle.dg_reader.proofs.cursor.Cursor.compound.Goals as goal

pub returns-in_err-require-clause-err : goal.returns-in_err-require-clause-err
returns-in_err-require-clause-err c =
    at_stop _ c.in_err-require.field-0.0 _ c.from_residual.ensures.1 (halts_here c.in_err-require.field-0.0 (expect (open_mark ∷ identifier ∷ identifier ∷ []) parts) c.args.self.now (expect (open_mark ∷ identifier ∷ identifier ∷ []) parts) c.args.self.now c.require.new.self (λ place h. h) (stops_open c.args.self.now c.in_err-require.ensures.err.1 (identifier ∷ identifier ∷ []) parts) c.in_err-require.ensures.err.0)

pub returns-in_err-parts-clause-err : goal.returns-in_err-parts-clause-err
returns-in_err-parts-clause-err c =
    at_stop _ c.in_err-parts.field-0.0 _ c.from_residual-in_err-parts.ensures.1 (halts_behind c.in_err-parts.field-0.0 (expect (open_mark ∷ identifier ∷ identifier ∷ []) parts) c.args.self.now (expect (identifier ∷ identifier ∷ []) parts) c.require.new.self c.parts.new.self (open_leads c.args.self.now c.require.new.self c.in_ok-require.ensures.ok) (c.in_err-parts.ensures.err))

pub returns-in_err-require-2-clause-err : goal.returns-in_err-require-2-clause-err
returns-in_err-require-2-clause-err c =
    at_stop _ c.in_err-require-2.field-0.0 _ c.from_residual-in_err-require-2.ensures.1 (halts_here c.in_err-require-2.field-0.0 (expect (open_mark ∷ identifier ∷ identifier ∷ []) parts) c.args.self.now (expect [] parts) c.parts.new.self c.require-2.new.self (parts_lead c.in_ok-parts.parts c.args.self.now c.require.new.self c.parts.new.self c.in_ok-require.ensures.ok c.in_ok-parts.ensures.ok) (stops_parts c.parts.new.self c.in_ok-parts.ensures.end c.in_err-require-2.ensures.err.1) c.in_err-require-2.ensures.err.0)

pub returns-clause-ok : goal.returns-clause-ok
returns-clause-ok c =
    let read = compound_read c.in_ok-parts.parts c.args.self.now c.require.new.self c.parts.new.self c.require-2.new.self c.in_ok-require.ensures.ok c.in_ok-parts.ensures.ok c.in_ok-require-2.ensures.ok in
    rw c.new.ensures (search (rules, read))
