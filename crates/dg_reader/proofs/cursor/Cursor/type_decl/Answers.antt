use Rattle.std.proofs.Common.{[]}
use Rattle.meaning_graph.specs.Going.{kind, expect}
use Rattle.dg_reader.specs.declared.cursor.Wanted.TheVariants.{Id}
use Rattle.dg_reader.proofs.WalkLemmas.{at_stop, halts_behind, leads_found}
use Rattle.dg_reader.proofs.DeclLemmas.{type_read}
use Rattle.dg_reader.proofs.cursor.Cursor.type_decl.Goals as goal

pub returns-in_err-kind-clause-err : goal.returns-in_err-kind-clause-err
returns-in_err-kind-clause-err c =
    at_stop _ c.in_err-kind.field-0.0 _ c.from_residual-in_err-kind.ensures.1 (halts_behind c.in_err-kind.field-0.0 _ c.args.self.now (expect [] kind) c.take.new.self c.kind.new.self (leads_found Id c.in_ok-name.name c.args.self.now c.take.new.self c.in_ok-name.ensures.ok [] kind) (c.in_err-kind.ensures.err))

pub returns-clause-ok : goal.returns-clause-ok
returns-clause-ok c = type_read (record { name = c.in_ok-name.name; kind = c.in_ok-kind.kind; supers = c.in_ok-kind.supers }) c.args.self.now c.take.new.self c.kind.new.self c.in_ok-name.ensures.ok c.in_ok-kind.ensures.ok
