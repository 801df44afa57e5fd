use Rattle.std.proofs.Common.{[], ◌∷◌, refl}
use Rattle.std.proofs.lemmas.Result.{IfErr-weaker}
use Rattle.meaning_graph.specs.Going.{identifier, supers, super_ids, expect}
use Rattle.dg_reader.proofs.WalkLemmas.{if_both, halts_behind}
use Rattle.dg_reader.proofs.ListLemmas.{is_leads, supers_read, no_supers}
use Rattle.dg_reader.proofs.cursor.Cursor.supers.Goals as goal

pub returns-then-skip-clause-ok : goal.returns-then-skip-clause-ok
returns-then-skip-clause-ok c = if_both c.ids.result _ _ _ c.ids.ensures.ok c.ids.ensures.end (λ ids r none. supers_read ids c.args.self.now c.skip.new.self c.ids.new.self c.if-skip.ensures r none)

pub returns-then-skip-clause-err : goal.returns-then-skip-clause-err
returns-then-skip-clause-err c = IfErr-weaker c.ids.result _ _ (λ stop h. halts_behind stop (expect [] supers) c.args.self.now (expect (identifier ∷ []) super_ids) c.skip.new.self c.ids.new.self (is_leads c.args.self.now c.skip.new.self c.if-skip.ensures) (h super_ids refl)) c.ids.ensures.err

pub returns-else-skip-clause-ok : goal.returns-else-skip-clause-ok
returns-else-skip-clause-ok c = rw (c.new.ensures, c.if-skip.ensures.0) (no_supers c.args.self.now c.if-skip.ensures.1)
