use Rattle.std.proofs.Common.{[], ◌∷◌}
use Rattle.meaning_graph.specs.Going.{identifier, parts, expect}
use Rattle.dg_reader.specs.declared.cursor.Wanted.TheVariants.{Id}
use Rattle.dg_reader.proofs.WalkLemmas.{at_stop, halts_behind, leads_found}
use Rattle.dg_reader.proofs.ListLemmas.{parts_one}
use Rattle.dg_reader.proofs.cursor.Cursor.part.Goals as goal

pub returns-in_err-of-clause-err : goal.returns-in_err-of-clause-err
returns-in_err-of-clause-err c =
    at_stop _ c.in_err-of.field-0.0 _ c.from_residual-in_err-of.ensures.1 (halts_behind c.in_err-of.field-0.0 _ c.args.self.now (expect (identifier ∷ []) parts) c.take.new.self c.take-2.new.self (leads_found Id c.in_ok-name.name c.args.self.now c.take.new.self c.in_ok-name.ensures.ok (identifier ∷ []) parts) (c.in_err-of.ensures.err [] parts))

pub returns-clause-ok : goal.returns-clause-ok
returns-clause-ok c = parts_one (record { name = c.in_ok-name.name; of = c.in_ok-of.of }) c.args.self.now c.take.new.self c.take-2.new.self c.in_ok-name.ensures.ok c.in_ok-of.ensures.ok
