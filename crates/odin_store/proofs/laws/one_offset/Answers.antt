use Rattle.odin_store.proofs.OffsetLemmas as offsets
use Rattle.odin_store.proofs.laws.one_offset.Goals as goal

pub returns : goal.returns
returns c = offsets.one_offset c.reads_in_one_way.ensures c.stands_for_one.ensures c.graph_is_one.ensures c.each_stands_or_not.ensures c.fitting_is_tested.ensures
