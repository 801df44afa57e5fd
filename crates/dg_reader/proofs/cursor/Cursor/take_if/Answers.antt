use Rattle.std.proofs.Common.{◌≡◌, Some, None, refl, sym, subst, false, rules}
use Rattle.meaning_graph.specs.Lexing.{taken, token_at, past_gap}
use Rattle.dg_reader.specs.Seen.{token_view}
use Rattle.dg_reader.specs.Walks.{class_of, Finds}
use Rattle.dg_reader.proofs.TokenLemmas.{found_from, has_none_at, has_none_other}
use Rattle.dg_reader.proofs.cursor.Cursor.take_if.Goals as goal

pub returns-in_default : goal.returns-in_default
returns-in_default c = (refl, has_none_at c.args.self.now (class_of c.args.wanted) (subst (λ x. token_at x ≡ None) c.self.view_is (sym c.in_default.ensures)))

pub returns-in_default-bytes_in : goal.returns-in_default-bytes_in
returns-in_default-bytes_in c = (search rules, has_none_other c.args.self.now c.in-Some.behind.now (class_of c.args.wanted) (token_view c.in-Some.next) (subst (λ x. token_at x ≡ Some (taken (token_view c.in-Some.next) c.in-Some.behind.now)) c.self.view_is (sym c.in-Some.ensures)) c.in_default-bytes_in.ensures.none)

pub returns : goal.returns
returns c =
    let f : Finds c.args.wanted c.in-Some-bytes_in.bytes.now c.args.self.now (past_gap false c.in-Some.behind.now) = found_from c.args.wanted c.in-Some-bytes_in.bytes.now c.args.self.now c.in-Some.behind.now (token_view c.in-Some.next) (subst (λ x. token_at x ≡ Some (taken (token_view c.in-Some.next) c.in-Some.behind.now)) c.self.view_is (sym c.in-Some.ensures)) c.in-Some-bytes_in.ensures.some.0 c.in-Some-bytes_in.ensures.some.1 in
    rw (c.past_gap-self-inside.ensures, c.in_ok-found.ensures) f
