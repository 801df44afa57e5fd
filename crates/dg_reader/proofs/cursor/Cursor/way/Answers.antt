use Rattle.std.proofs.Common.{◌∷◌, rules}
use Rattle.std.specs.Prelude.{codes}
use Rattle.meaning_graph.specs.Going.{keyword, identifier, expect}
use Rattle.dg_reader.specs.Reads.{way_classes}
use Rattle.dg_reader.proofs.WalkLemmas.{at_stop, halts_behind, halts_here, stops_keyword}
use Rattle.dg_reader.proofs.DeclLemmas.{from_leads, base_leads, to_leads, way_read}
use Rattle.dg_reader.proofs.cursor.Cursor.way.Goals as goal

pub returns-in_err-require-clause-err : goal.returns-in_err-require-clause-err
returns-in_err-require-clause-err c =
    at_stop _ c.in_err-require.field-0.0 _ c.from_residual.ensures.1 (λ more stage. halts_here c.in_err-require.field-0.0 (expect (way_classes more) stage) c.args.self.now (expect (way_classes more) stage) c.args.self.now c.require.new.self (λ place h. h) (stops_keyword (codes "from") c.args.self.now c.in_err-require.ensures.err.1 (identifier ∷ keyword (codes "to") ∷ identifier ∷ more) stage) c.in_err-require.ensures.err.0)

pub returns-in_err-from-clause-err : goal.returns-in_err-from-clause-err
returns-in_err-from-clause-err c =
    at_stop _ c.in_err-from.field-0.0 _ c.from_residual-in_err-from.ensures.1 (λ more stage. halts_behind c.in_err-from.field-0.0 _ c.args.self.now (expect (identifier ∷ keyword (codes "to") ∷ identifier ∷ more) stage) c.require.new.self c.take.new.self (from_leads c.args.self.now c.require.new.self c.in_ok-require.ensures.ok more stage) (c.in_err-from.ensures.err (keyword (codes "to") ∷ identifier ∷ more) stage))

pub returns-in_err-require-2-clause-err : goal.returns-in_err-require-2-clause-err
returns-in_err-require-2-clause-err c =
    at_stop _ c.in_err-require-2.field-0.0 _ c.from_residual-in_err-require-2.ensures.1 (λ more stage. halts_here c.in_err-require-2.field-0.0 (expect (way_classes more) stage) c.args.self.now (expect (keyword (codes "to") ∷ identifier ∷ more) stage) c.take.new.self c.require-2.new.self (base_leads c.in_ok-from.from c.args.self.now c.require.new.self c.take.new.self c.in_ok-require.ensures.ok c.in_ok-from.ensures.ok more stage) (stops_keyword (codes "to") c.take.new.self c.in_err-require-2.ensures.err.1 (identifier ∷ more) stage) c.in_err-require-2.ensures.err.0)

pub returns-in_err-to-clause-err : goal.returns-in_err-to-clause-err
returns-in_err-to-clause-err c =
    at_stop _ c.in_err-to.field-0.0 _ c.from_residual-in_err-to.ensures.1 (λ more stage. halts_behind c.in_err-to.field-0.0 _ c.args.self.now (expect (identifier ∷ more) stage) c.require-2.new.self c.take-2.new.self (to_leads c.in_ok-from.from c.args.self.now c.require.new.self c.take.new.self c.require-2.new.self c.in_ok-require.ensures.ok c.in_ok-from.ensures.ok c.in_ok-require-2.ensures.ok more stage) (c.in_err-to.ensures.err more stage))

pub returns-clause-ok : goal.returns-clause-ok
returns-clause-ok c = search (rules, way_read c.in_ok-from.from c.in_ok-to.to c.args.self.now c.require.new.self c.take.new.self c.require-2.new.self c.take-2.new.self c.in_ok-require.ensures.ok c.in_ok-from.ensures.ok c.in_ok-require-2.ensures.ok c.in_ok-to.ensures.ok)
