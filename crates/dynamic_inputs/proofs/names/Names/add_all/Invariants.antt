use Rattle.std.proofs.Common.{◌≡◌, take, length}
use Rattle.dynamic_inputs.specs.Closures.{with_names}
use Rattle.dynamic_inputs.proofs.names.Names.add_all.Given as goal

abbrev pub invariant-loop-name : goal.invariant-loop-name
invariant-loop-name l = record {
  added : l.self ≡ with_names l.fn.self (take l.name-index l.names);
  known : l.known ≡ length l.fn.self;
}
