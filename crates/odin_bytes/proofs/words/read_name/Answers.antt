use Rattle.odin_bytes.specs.declared.names.NameFault.TheVariants as fault
use Rattle.odin_bytes.proofs.WordLemmas.{no_name}
use Rattle.odin_bytes.proofs.words.read_name.Goals as goal

pub returns-in-Err-Empty : goal.returns-in-Err-Empty
returns-in-Err-Empty c = no_name c.args.word.now fault.Empty (λ e. cc) (rw c.in-Err-Empty.field-0-is at c.in-Err-Empty.ensures.err)

pub returns-in-Err-TooLong : goal.returns-in-Err-TooLong
returns-in-Err-TooLong c = no_name c.args.word.now fault.TooLong (λ e. cc) (rw c.in-Err-TooLong.field-0-is at c.in-Err-TooLong.ensures.err)

pub returns-in-Err-BadByte : goal.returns-in-Err-BadByte
returns-in-Err-BadByte c = no_name c.args.word.now (fault.BadByte _) (λ e. cc) (rw c.in-Err-BadByte.field-0-is at c.in-Err-BadByte.ensures.err)
