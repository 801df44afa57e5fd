use Rattle.std.proofs.Common.{arith}
use Rattle.shown_texts.proofs.ShownLemmas.{read_back}
use Rattle.shown_texts.proofs.laws.shown_is_read_back.Goals as goal

pub returns : goal.returns
returns c = λ text bytes. read_back 0 text bytes (λ i below. absurd (omega arith))
