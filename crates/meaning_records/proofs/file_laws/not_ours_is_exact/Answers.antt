use Rattle.meaning_records.specs.ImageLemmas.{no_records, one_place}
use Rattle.meaning_records.proofs.file_laws.not_ours_is_exact.Goals as goal

pub returns : goal.returns
returns c = record { none = no_records; one = one_place }
