use Rattle.std.proofs.Common.{List, subst}
use Rattle.std.proofs.lemmas.Result.{on_ok_weaker}
use Rattle.object_values.specs.declared.graph.PartDecl.{PartDecl}
use Rattle.meaning_graph.specs.Grammar.{part_tokens}
use Rattle.dg_reader.specs.Written.{Writes}
use Rattle.dg_reader.proofs.WriteLemmas.{compound_written}
use Rattle.dg_reader.proofs.writer.Writer.kind.Goals as goal

pub returns-in_ok-parts-in-Compound : goal.returns-in_ok-parts-in-Compound
returns-in_ok-parts-in-Compound c =
    let parts = subst (λ (ps : List PartDecl). Writes (part_tokens ps) c.token.new.self c.parts.new.self) c.as_slice-in-Compound.ensures c.in_ok-parts-in-Compound.ensures in
    on_ok_weaker c.token-in-Compound.result (compound_written c.args.kind.now _ c.args.supers.now c.args.self.now c.word-in-Compound.new.self c.token.new.self c.parts.new.self c.token-in-Compound.new.self c.in-Compound.is c.in_ok-word-in-Compound.ensures c.in_ok-token-in-Compound.ensures parts) c.token-in-Compound.ensures
