use Rattle.std.proofs.Common.{◌∷◌, [], subst}
use Rattle.meaning_graph.specs.Tokens.{word}
use Rattle.meaning_graph.specs.Grammar.{id_tokens}
use Rattle.dg_reader.specs.Written.{Writes}
use Rattle.dg_reader.proofs.WriteLemmas.{ids_begin, ids_step, whole_taken}
use Rattle.dg_reader.proofs.writer.Writer.ids.Goals as goal

pub ids-init : goal.ids-init
ids-init c = ids_begin c.args.ids.now c.in-Some.rest.now c.in-Some.first.now c.args.self.now c.word.new.self c.in-Some.ensures.cases.0 (subst (λ w. Writes (word w ∷ []) c.args.self.now c.word.new.self) c.as_slice.ensures c.in_ok-word.ensures)

pub ids-preserved : goal.ids-preserved
ids-preserved c = ids_step c.args.ids.now c.in-Some.rest.now c.in-Some.first.now c.id-item.result c.ids.id-index c.args.self.now c.ids.self c.token.new.self c.word-in-ids.new.self c.in-Some.ensures.cases.0 c.ids-test.true c.id-item.is c.ids.invariant c.in_ok-token.ensures (subst (λ w. Writes (word w ∷ []) c.token.new.self c.word-in-ids.new.self) c.as_slice-in-ids.ensures c.in_ok-word-2.ensures)

pub returns : goal.returns
returns c = subst (λ ids. Writes (id_tokens ids) c.args.self.now c.ids.self) (whole_taken c.args.ids.now c.in-Some.rest.now c.in-Some.first.now c.ids.id-index c.in-Some.ensures.cases.0 c.ids-test.false) c.ids.invariant
