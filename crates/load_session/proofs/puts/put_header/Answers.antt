use Rattle.std.proofs.Common.{ℕ, List, ◌≤◌, length, sym, subst, arith}
use Rattle.load_session.proofs.TextLemmas.{header_short}
use Rattle.load_session.proofs.puts.put_header.Goals as goal

pub put-requires-clause-short : goal.put-requires-clause-short
put-requires-clause-short c = subst (λ (t : List ℕ). length t ≤ 16777216) (sym c.in_ok-text.ensures) (header_short c.args.number c.args.value (omega arith) (omega arith))
