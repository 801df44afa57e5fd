use Rattle.build_files.specs.Found.{FindsMore}
use Rattle.build_files.proofs.walk.take_folder.Given as goal

abbrev pub invariant-loop-entry : goal.invariant-loop-entry
invariant-loop-entry l = record {
  next : (goal.iterator-loop-entry).can_next l.entry-iterator;
  finite : (goal.iterator-loop-entry).is_finite l.entry-iterator;
  grows : FindsMore l.initial.found l.found;
}
