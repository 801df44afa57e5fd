use Rattle.std.proofs.Common.{refl}
use Rattle.meaning_texts.specs.Lines.{lines_of}
use Rattle.meaning_texts.specs.References.{scanned_names}
use Rattle.meaning_texts.proofs.examples.scan_outputs.Goals as goal

pub returns : goal.returns
unfolding scanned_names lines_of
returns c = record { names = refl }
