use Rattle.std.specs.Prelude.{[], ◌∷◌, codes}
use Rattle.meaning_records.specs.Forms.{number, option_of}
use Rattle.meaning_records.specs.Records.{status, step, value, line, item}
use Rattle.meaning_records.specs.ByteExamples.{four, text}
use Rattle.meaning_records.proofs.Fronts.{other_option}
use Rattle.meaning_records.proofs.RecordFronts.{no_step_from, no_value_from, no_item_from}
use Rattle.meaning_records.proofs.Refusals.{nowhere, no_status, no_line, no_number}
use Rattle.meaning_records.proofs.examples.unnamed_numbers.Goals as goal

pub returns : goal.returns
returns c = record {
  status = nowhere status (4 ∷ []) no_status;
  level = nowhere line (4 ∷ text 1 (codes "w")) no_line;
  option = nowhere (option_of number) (2 ∷ four 0) (other_option number 0 (four 0));
  step = nowhere step (3 ∷ four 0) (no_step_from 0 (four 0));
  value = nowhere value (4 ∷ four 0) (no_value_from 0 (four 0));
  item = nowhere item (7 ∷ four 0) (no_item_from 0 (four 0));
  no_bytes = nowhere number (0 ∷ 0 ∷ 0 ∷ 256 ∷ []) no_number;
}
