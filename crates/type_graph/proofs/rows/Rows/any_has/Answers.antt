-- Start by start.
use Rattle.std.proofs.Common.{◌∙◌, ◌||◌, ℕ, Bool, ◌∷◌, [], false, get_or, take, sym, ap}
use Rattle.std.specs.List.{list_any}
use Rattle.std.proofs.lemmas.List.{take_more, take_all}
use Rattle.std.proofs.lemmas.List.Folds.{list_any-append}
use Rattle.meaning_texts.proofs.Lemmas.{passes_one}
use Rattle.type_graph.specs.Rows.{answer}
use Rattle.type_graph.proofs.WalkLemmas.{in_at}
use Rattle.type_graph.proofs.rows.Rows.any_has.Goals as goal

pub has-requires-clause-lower : goal.has-requires-clause-lower
has-requires-clause-lower c = c.requires.starts (get_or c.args.starts.now c.loop-start.start-index 0) (in_at c.args.starts.now c.loop-start.start-index 0 c.loop-start-test.true)

pub loop-start-preserved : goal.loop-start-preserved
loop-start-preserved c =
    let p : ℕ → Bool = λ start. answer c.args.self.now start c.args.number in
    let i = c.loop-start.start-index in
    let s = get_or c.args.starts.now i 0 in
    ap (list_any p) (take_more c.args.starts.now i 0 c.loop-start-test.true) ∙ list_any-append p (take i c.args.starts.now) (s ∷ [])
    ∙ ap (λ b. b || (p s || false)) c.loop-start.invariant ∙ ap (λ b. b || false) (sym c.has.ensures ∙ c.if-has.false)

pub returns-then-has : goal.returns-then-has
returns-then-has c =
    let i = c.loop-start.start-index in
    sym (passes_one (λ start. answer c.args.self.now start c.args.number) (get_or c.args.starts.now i 0) c.args.starts.now (in_at c.args.starts.now i 0 c.loop-start-test.true) (sym c.has.ensures ∙ c.if-has.true))

pub returns : goal.returns
returns c = sym c.loop-start.invariant ∙ ap (list_any (λ start. answer c.args.self.now start c.args.number)) (take_all c.loop-start.start-index c.args.starts.now c.loop-start-test.false)
