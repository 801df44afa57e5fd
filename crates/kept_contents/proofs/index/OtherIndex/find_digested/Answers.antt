use Rattle.std.proofs.Common.{sym}
use Rattle.kept_contents.proofs.index.OtherIndex.find_digested.Goals as goal

pub find_from-requires-clause-first : goal.find_from-requires-clause-first
find_from-requires-clause-first c = c.requires.index.first_right c.args.digest.now c.in-Some.first.now (sym c.in-Some.ensures.value)

pub find_from-requires-clause-others : goal.find_from-requires-clause-others
find_from-requires-clause-others c = rw c.as_slice.ensures.value c.requires.index.clashing_right
