use Rattle.std.proofs.Common.{[], ◌∷◌, refl, sym, ◌∙◌, subst}
use Rattle.std.specs.Prelude.{codes}
use Rattle.meaning_graph.specs.Tokens.{word}
use Rattle.meaning_graph.specs.Going.{keyword, identifier, open_mark, kind, supers, parts, expect}
use Rattle.dg_reader.specs.Walks.{StopsAt}
use Rattle.dg_reader.proofs.WalkLemmas.{first_given_on, none_at}
use Rattle.dg_reader.proofs.StageLemmas.{stops_kind}
use Rattle.dg_reader.proofs.cursor.Cursor.kind.Goals as goal

pub returns-then-skip-clause-err : goal.returns-then-skip-clause-err
returns-then-skip-clause-err c = first_given_on c.simple.result (codes "simple") kind (expect [] supers) c.args.self.now c.args.self.now c.skip.new.self c.simple.new.self refl refl c.if-skip.ensures c.simple.ensures.err

pub returns-then-skip-2-clause-err : goal.returns-then-skip-2-clause-err
returns-then-skip-2-clause-err c = first_given_on c.list.result (codes "list") kind (expect (keyword (codes "of") ∷ identifier ∷ []) supers) c.args.self.now c.skip.new.self c.skip-2.new.self c.list.new.self refl c.if-skip.ensures.0 c.if-skip-2.ensures c.list.ensures.err

pub returns-then-skip-3-clause-err : goal.returns-then-skip-3-clause-err
returns-then-skip-3-clause-err c = first_given_on c.compound.result (codes "compound") kind (expect (open_mark ∷ identifier ∷ identifier ∷ []) parts) c.args.self.now c.skip-2.new.self c.skip-3.new.self c.compound.new.self refl (c.if-skip-2.ensures.0 ∙ c.if-skip.ensures.0) c.if-skip-3.ensures c.compound.ensures.err

pub returns-clause-err : goal.returns-clause-err
returns-clause-err c = subst (λ place. StopsAt (expect [] kind) c.args.self.now place) (sym (c.if-skip-3.ensures.0 ∙ c.if-skip-2.ensures.0 ∙ c.if-skip.ensures.0)) (stops_kind c.args.self.now (none_at (word (codes "simple")) c.args.self.now c.args.self.now refl c.if-skip.ensures.1) (none_at (word (codes "list")) c.skip.new.self c.args.self.now c.if-skip.ensures.0 c.if-skip-2.ensures.1) (none_at (word (codes "compound")) c.skip-2.new.self c.args.self.now (c.if-skip-2.ensures.0 ∙ c.if-skip.ensures.0) c.if-skip-3.ensures.1))
