use Rattle.std.proofs.Common.{◌≢◌, ◌<◌, ℕ, get_or}
use Rattle.std.specs.Prelude.{Some}
use Rattle.meaning_records.specs.Numbers.{number_of}
use Rattle.kept_contents.specs.Stocks.{values_of_contents}
use Rattle.kept_contents.proofs.index.find_among.Given as goal

abbrev pub invariant-loop-number : goal.invariant-loop-number
invariant-loop-number l = (k : ℕ) → k < l.number-index → number_of l.value (values_of_contents l.contents) ≢ Some (get_or l.numbers k 0)
