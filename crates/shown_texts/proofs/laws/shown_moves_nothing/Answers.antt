use Rattle.std.proofs.Common.{arith}
use Rattle.shown_texts.proofs.ShownLemmas.{still}
use Rattle.shown_texts.proofs.laws.shown_moves_nothing.Goals as goal

pub returns : goal.returns
returns c = λ text bytes. still 0 text bytes (λ i below. absurd (omega arith))
