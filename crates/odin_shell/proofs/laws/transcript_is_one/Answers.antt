use Rattle.odin_shell.proofs.TranscriptLemmas.{one_transcript}
use Rattle.odin_shell.proofs.laws.transcript_is_one.Goals as goal

pub returns : goal.returns
returns c = one_transcript
