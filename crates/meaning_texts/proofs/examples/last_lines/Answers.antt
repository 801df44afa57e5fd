use Rattle.std.proofs.Common.{refl}
use Rattle.meaning_texts.specs.Lines.{lines_of, warning_lines}
use Rattle.meaning_texts.proofs.examples.last_lines.Goals as goal

pub returns : goal.returns
unfolding warning_lines lines_of
returns c = record { full = refl; stays = refl; dropped = refl; one = refl }
