use Rattle.std.proofs.Common.{[], ◌∷◌}
use Rattle.meaning_graph.specs.Going.{identifier, ending, expect}
use Rattle.dg_reader.specs.declared.cursor.Wanted.TheVariants.{Word}
use Rattle.dg_reader.proofs.WalkLemmas.{at_stop, halts_behind, leads_found}
use Rattle.dg_reader.proofs.DeclLemmas.{suffix_read}
use Rattle.dg_reader.proofs.cursor.Cursor.suffix.Goals as goal

pub returns-in_err-of-clause-err : goal.returns-in_err-of-clause-err
returns-in_err-of-clause-err c =
    at_stop _ c.in_err-of.field-0.0 _ c.from_residual-in_err-of.ensures.1 (halts_behind c.in_err-of.field-0.0 _ c.args.self.now (expect (identifier ∷ []) ending) c.take.new.self c.take-2.new.self (leads_found Word c.in_ok-suffix.suffix c.args.self.now c.take.new.self c.in_ok-suffix.ensures.ok (identifier ∷ []) ending) (c.in_err-of.ensures.err [] ending))

pub returns-clause-ok : goal.returns-clause-ok
returns-clause-ok c = suffix_read c.in_ok-suffix.suffix c.in_ok-of.of c.args.self.now c.take.new.self c.take-2.new.self c.in_ok-suffix.ensures.ok c.in_ok-of.ensures.ok
