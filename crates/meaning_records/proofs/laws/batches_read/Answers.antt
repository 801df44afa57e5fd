use Rattle.meaning_records.proofs.Writing.{graph_reads, put_reads, drop_reads, call_reads}
use Rattle.meaning_records.proofs.NotesWriting.{notes_read}
use Rattle.meaning_records.proofs.laws.batches_read.Goals as goal

pub returns : goal.returns
returns c = record { graph = graph_reads; put = put_reads; drop = drop_reads; call = call_reads; notes = notes_read }
