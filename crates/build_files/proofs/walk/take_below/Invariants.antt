use Rattle.build_files.specs.Found.{FindsMore}
use Rattle.build_files.proofs.walk.take_below.Given as goal

abbrev pub invariant-loop : goal.invariant-loop
invariant-loop l = FindsMore l.initial.found l.found
