use Rattle.std.proofs.Common.{List, subst}
use Rattle.object_values.specs.declared.graph.PartDecl.{PartDecl}
use Rattle.meaning_graph.specs.Grammar.{part_tokens}
use Rattle.dg_reader.specs.Written.{Writes}
use Rattle.dg_reader.proofs.WriteLemmas.{parts_begin, parts_step, whole_taken}
use Rattle.dg_reader.proofs.writer.Writer.parts.Goals as goal

pub parts-init : goal.parts-init
parts-init c = parts_begin c.args.parts.now c.in-Some.rest.now c.in-Some.first.now c.args.self.now c.part.new.self c.in-Some.ensures.cases.0 c.in_ok-part.ensures

pub parts-preserved : goal.parts-preserved
parts-preserved c = parts_step c.args.parts.now c.in-Some.rest.now c.in-Some.first.now c.part-item.result c.parts.part-index c.args.self.now c.parts.self c.token.new.self c.part-in-parts.new.self c.in-Some.ensures.cases.0 c.parts-test.true c.part-item.is c.parts.invariant c.in_ok-token.ensures c.in_ok-part-2.ensures

pub returns : goal.returns
returns c = subst (λ (ps : List PartDecl). Writes (part_tokens ps) c.args.self.now c.parts.self) (whole_taken c.args.parts.now c.in-Some.rest.now c.in-Some.first.now c.parts.part-index c.in-Some.ensures.cases.0 c.parts-test.false) c.parts.invariant
