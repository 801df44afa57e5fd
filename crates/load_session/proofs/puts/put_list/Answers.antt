use Rattle.std.proofs.Common.{ℕ, List, ◌≤◌, length, sym, subst, arith}
use Rattle.load_session.proofs.TextLemmas.{list_short}
use Rattle.load_session.proofs.puts.put_list.Goals as goal

pub put-requires-clause-short : goal.put-requires-clause-short
put-requires-clause-short c = subst (λ (t : List ℕ). length t ≤ 16777216) (sym c.in_ok-text.ensures) (list_short c.args.units (omega arith))
