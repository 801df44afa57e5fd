use Rattle.std.proofs.Common.{[], ◌∷◌, refl, sym, ◌∙◌, subst}
use Rattle.std.specs.Prelude.{codes}
use Rattle.meaning_graph.specs.Tokens.{word}
use Rattle.meaning_graph.specs.Going.{identifier, any_word, between, kind, ending, strings, way, tool_front, start, expect}
use Rattle.dg_reader.specs.Walks.{StopsAt}
use Rattle.dg_reader.proofs.WalkLemmas.{first_given_on, none_at}
use Rattle.dg_reader.proofs.StageLemmas.{HasNoDecl, stops_between}
use Rattle.dg_reader.proofs.cursor.Cursor.head.Goals as goal

pub returns-then-skip-clause-err : goal.returns-then-skip-clause-err
returns-then-skip-clause-err c = first_given_on c.type_decl.result (codes "type") between (expect (identifier ∷ []) kind) c.args.self.now c.args.self.now c.skip.new.self c.type_decl.new.self refl refl c.if-skip.ensures c.type_decl.ensures.err

pub returns-then-skip-2-clause-err : goal.returns-then-skip-2-clause-err
returns-then-skip-2-clause-err c = first_given_on c.suffix.result (codes "suffix") between (expect (any_word ∷ identifier ∷ []) ending) c.args.self.now c.skip.new.self c.skip-2.new.self c.suffix.new.self refl c.if-skip.ensures.0 c.if-skip-2.ensures c.suffix.ensures.err

pub returns-then-skip-3-clause-err : goal.returns-then-skip-3-clause-err
returns-then-skip-3-clause-err c = first_given_on c.param.result (codes "param") between (expect (identifier ∷ []) ending) c.args.self.now c.skip-2.new.self c.skip-3.new.self c.param.new.self refl (c.if-skip-2.ensures.0 ∙ c.if-skip.ensures.0) c.if-skip-3.ensures c.param.ensures.err

pub returns-then-skip-4-clause-err : goal.returns-then-skip-4-clause-err
returns-then-skip-4-clause-err c = first_given_on c.tool.result (codes "tool") between (expect tool_front strings) c.args.self.now c.skip-3.new.self c.skip-4.new.self c.tool.new.self refl (c.if-skip-3.ensures.0 ∙ c.if-skip-2.ensures.0 ∙ c.if-skip.ensures.0) c.if-skip-4.ensures c.tool.ensures.err

pub returns-then-skip-5-clause-err : goal.returns-then-skip-5-clause-err
returns-then-skip-5-clause-err c = first_given_on c.plain.result (codes "read") between (expect way ending) c.args.self.now c.skip-4.new.self c.skip-5.new.self c.plain.new.self refl (c.if-skip-4.ensures.0 ∙ c.if-skip-3.ensures.0 ∙ c.if-skip-2.ensures.0 ∙ c.if-skip.ensures.0) c.if-skip-5.ensures c.plain.ensures.err

pub returns-then-skip-6-clause-err : goal.returns-then-skip-6-clause-err
returns-then-skip-6-clause-err c = first_given_on c.plain-then-skip-6.result (codes "each") between (expect way ending) c.args.self.now c.skip-5.new.self c.skip-6.new.self c.plain-then-skip-6.new.self refl (c.if-skip-5.ensures.0 ∙ c.if-skip-4.ensures.0 ∙ c.if-skip-3.ensures.0 ∙ c.if-skip-2.ensures.0 ∙ c.if-skip.ensures.0) c.if-skip-6.ensures c.plain-then-skip-6.ensures.err

pub returns-then-skip-7-clause-err : goal.returns-then-skip-7-clause-err
returns-then-skip-7-clause-err c = first_given_on c.plain-then-skip-7.result (codes "pack") between (expect way ending) c.args.self.now c.skip-6.new.self c.skip-7.new.self c.plain-then-skip-7.new.self refl (c.if-skip-6.ensures.0 ∙ c.if-skip-5.ensures.0 ∙ c.if-skip-4.ensures.0 ∙ c.if-skip-3.ensures.0 ∙ c.if-skip-2.ensures.0 ∙ c.if-skip.ensures.0) c.if-skip-7.ensures c.plain-then-skip-7.ensures.err

pub returns-clause-err : goal.returns-clause-err
returns-clause-err c =
    let none : HasNoDecl c.args.self.now = record { types = none_at (word (codes "type")) c.args.self.now c.args.self.now refl c.if-skip.ensures.1; suffixes = none_at (word (codes "suffix")) c.skip.new.self c.args.self.now c.if-skip.ensures.0 c.if-skip-2.ensures.1; params = none_at (word (codes "param")) c.skip-2.new.self c.args.self.now (c.if-skip-2.ensures.0 ∙ c.if-skip.ensures.0) c.if-skip-3.ensures.1; tools = none_at (word (codes "tool")) c.skip-3.new.self c.args.self.now (c.if-skip-3.ensures.0 ∙ c.if-skip-2.ensures.0 ∙ c.if-skip.ensures.0) c.if-skip-4.ensures.1; reads = none_at (word (codes "read")) c.skip-4.new.self c.args.self.now (c.if-skip-4.ensures.0 ∙ c.if-skip-3.ensures.0 ∙ c.if-skip-2.ensures.0 ∙ c.if-skip.ensures.0) c.if-skip-5.ensures.1; eaches = none_at (word (codes "each")) c.skip-5.new.self c.args.self.now (c.if-skip-5.ensures.0 ∙ c.if-skip-4.ensures.0 ∙ c.if-skip-3.ensures.0 ∙ c.if-skip-2.ensures.0 ∙ c.if-skip.ensures.0) c.if-skip-6.ensures.1; packs = none_at (word (codes "pack")) c.skip-6.new.self c.args.self.now (c.if-skip-6.ensures.0 ∙ c.if-skip-5.ensures.0 ∙ c.if-skip-4.ensures.0 ∙ c.if-skip-3.ensures.0 ∙ c.if-skip-2.ensures.0 ∙ c.if-skip.ensures.0) c.if-skip-7.ensures.1 } in
    subst (λ place. StopsAt start c.args.self.now place) (sym (c.if-skip-7.ensures.0 ∙ c.if-skip-6.ensures.0 ∙ c.if-skip-5.ensures.0 ∙ c.if-skip-4.ensures.0 ∙ c.if-skip-3.ensures.0 ∙ c.if-skip-2.ensures.0 ∙ c.if-skip.ensures.0)) (stops_between c.args.self.now c.requires none)
