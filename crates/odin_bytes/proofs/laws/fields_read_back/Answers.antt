use Rattle.odin_bytes.specs.FieldLemmas.{u32_front, u64_front, body_front}
use Rattle.odin_bytes.proofs.laws.fields_read_back.Goals as goal

pub returns : goal.returns
returns c = record { u32s = u32_front; u64s = u64_front; bodies = body_front }
