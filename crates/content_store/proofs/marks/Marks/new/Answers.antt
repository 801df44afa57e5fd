use Rattle.content_store.proofs.MarkLemmas.{finds_nothing}
use Rattle.content_store.proofs.marks.Marks.new.Goals as goal

pub returns : goal.returns
returns c marks i = finds_nothing (record { quick = c.new.result; digests = c.new-2.result; clashing = c.new-3.result }) c.new.ensures.empty c.new-2.ensures.empty c.new-3.ensures.items marks i
