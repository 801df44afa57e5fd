use Rattle.std.proofs.Common.{◌≡◌, false, length}
use Rattle.meaning_graph.specs.Lexing.{past_gap}
use Rattle.dg_reader.proofs.lexer.past_gap.Given as goal

abbrev pub invariant-gap : goal.invariant-gap
invariant-gap l = past_gap false l.rest ≡ past_gap false l.fn.text

abbrev pub decreases-gap : goal.decreases-gap
decreases-gap l = length l.rest
