-- The rows answer as the order of types does.
use Rattle.std.proofs.Common.{◌∙◌, ◌<◌, sym, subst}
use Rattle.meaning_graph.specs.Types.{is_a}
use Rattle.type_graph.specs.Rows.{answer}
use Rattle.type_graph.specs.Tables.{AreRows}
use Rattle.type_graph.proofs.ClosingLemmas.{any_alike}
use Rattle.type_graph.proofs.context.Context.any_is.Goals as goal

pub any_has-requires-clause-starts : goal.any_has-requires-clause-starts
any_has-requires-clause-starts c = λ start h.
    let rows = subst (λ g. AreRows g c.self.inside.rows) c.self.view_is (c.self.invariant.rows_are c.if-self.false) in
    subst (λ n. start < n) (sym rows.counted) (c.requires.starts start h)

pub returns : goal.returns
returns c =
    let rows = subst (λ g. AreRows g c.self.inside.rows) c.self.view_is (c.self.invariant.rows_are c.if-self.false) in
    c.any_has.ensures
    ∙ any_alike (λ start. answer c.self.inside.rows start c.args.number) (λ start. is_a c.args.self.now start c.args.number) c.args.starts.now
    (λ start h. rows.right start c.args.number (c.requires.starts start h) c.requires.number)
