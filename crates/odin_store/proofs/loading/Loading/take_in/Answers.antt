use Rattle.odin_store.proofs.FittingLemmas.{noted_taken}
use Rattle.odin_store.proofs.loading.Loading.take_in.Goals as goal

pub returns-in-Noted-clause-taken : goal.returns-in-Noted-clause-taken
returns-in-Noted-clause-taken c = rw c.in-Noted.is (noted_taken c.in-Noted.place c.args.self.now c.note.new.self c.note.result c.note.ensures.sources c.note.ensures.noted)
