use Rattle.std.proofs.Common.{[], ◌∷◌, refl}
use Rattle.std.proofs.lemmas.Result.{IfErr-weaker}
use Rattle.meaning_graph.specs.Going.{identifier, strings, used_ids, expect}
use Rattle.dg_reader.proofs.WalkLemmas.{if_both, halts_behind}
use Rattle.dg_reader.proofs.ListLemmas.{uses_leads, uses_read, no_uses}
use Rattle.dg_reader.proofs.cursor.Cursor.uses.Goals as goal

pub returns-then-skip-clause-ok : goal.returns-then-skip-clause-ok
returns-then-skip-clause-ok c = if_both c.ids.result _ _ _ c.ids.ensures.ok c.ids.ensures.end (λ ids r none. uses_read ids c.args.self.now c.skip.new.self c.ids.new.self c.if-skip.ensures r none)

pub returns-then-skip-clause-err : goal.returns-then-skip-clause-err
returns-then-skip-clause-err c = IfErr-weaker c.ids.result _ _ (λ stop h. halts_behind stop (expect [] strings) c.args.self.now (expect (identifier ∷ []) used_ids) c.skip.new.self c.ids.new.self (uses_leads c.args.self.now c.skip.new.self c.if-skip.ensures) (h used_ids refl)) c.ids.ensures.err

pub returns-else-skip-clause-ok : goal.returns-else-skip-clause-ok
returns-else-skip-clause-ok c = rw (c.new.ensures, c.if-skip.ensures.0) (no_uses c.args.self.now c.if-skip.ensures.1)
