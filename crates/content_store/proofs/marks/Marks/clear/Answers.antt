use Rattle.content_store.proofs.MarkLemmas.{finds_nothing}
use Rattle.content_store.proofs.marks.Marks.clear.Goals as goal

pub returns-clause-forgotten : goal.returns-clause-forgotten
returns-clause-forgotten c marks i = finds_nothing (record { quick = c.clear.new.self; digests = c.clear-2.new.self; clashing = c.clear-3.new.self }) c.clear.ensures.empty c.clear-2.ensures.empty c.clear-3.ensures.items marks i
