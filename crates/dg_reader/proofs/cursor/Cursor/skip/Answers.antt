use Rattle.std.proofs.Common.{◌≡◌, Some, None, refl, sym, subst}
use Rattle.std.proofs.lemmas.Bool.{both_ways}
use Rattle.meaning_graph.specs.Lexing.{taken, token_at}
use Rattle.dg_reader.specs.Seen.{token_view}
use Rattle.dg_reader.specs.Walks.{TakesToken}
use Rattle.dg_reader.proofs.TokenLemmas.{takes_from, not_at_none, not_at_other}
use Rattle.dg_reader.proofs.cursor.Cursor.skip.Goals as goal

pub returns-in_default : goal.returns-in_default
returns-in_default c = (refl, not_at_none c.args.self.now (token_view c.args.token) (subst (λ x. token_at x ≡ None) c.self.view_is (sym c.in_default.ensures)))

pub returns-then-not-is : goal.returns-then-not-is
returns-then-not-is c = (refl, not_at_other c.args.self.now c.in-Some.behind.now (token_view c.args.token) (token_view c.in-Some.next) (subst (λ x. token_at x ≡ Some (taken (token_view c.in-Some.next) c.in-Some.behind.now)) c.self.view_is (sym c.in-Some.ensures)) (λ same. both_ways c.is.result c.if-not-is.true (c.is.ensures.1 same)))

pub returns : goal.returns
returns c =
    let k : TakesToken c.args.self.now (token_view c.args.token) _ = takes_from c.args.self.now c.in-Some.behind.now (token_view c.in-Some.next) (token_view c.args.token) (subst (λ x. token_at x ≡ Some (taken (token_view c.in-Some.next) c.in-Some.behind.now)) c.self.view_is (sym c.in-Some.ensures)) (c.is.ensures.0 c.if-not-is.false) in
    rw c.past_gap-self-inside.ensures k
