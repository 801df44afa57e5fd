-- The type after the makers so far.
use Rattle.std.proofs.Common.{map}
use Rattle.object_values.specs.declared.nodes.Step.TheVariants.{Maker}
use Rattle.odin_nodes.proofs.TypeLemmas.{IsFollowed}
use Rattle.odin_nodes.proofs.types.type_along.Given as goal

abbrev pub invariant-loop-maker : goal.invariant-loop-maker
invariant-loop-maker l = IsFollowed l.planned l.fn.from (map Maker l.path) l.maker-index l.at
