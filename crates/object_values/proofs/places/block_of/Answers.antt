use Rattle.std.proofs.Common.{rules, ◌≤◌, length, Ok, Err}
use Rattle.std.proofs.lemmas.Fn.{always_returns_same}
use Rattle.object_values.specs.Blocks.{first_of}
use Rattle.object_values.specs.Places.{Pairs}
use Rattle.object_values.proofs.PlaceLemmas.{by_bytes}
use Rattle.object_values.proofs.BlockLemmas.{searched_block}
use Rattle.object_values.proofs.places.block_of.Goals as goal

pub returns-in-Ok-clause-some : goal.returns-in-Ok-clause-some
returns-in-Ok-clause-some c =
    let some : 1 ≤ length c.args.blocks.now = search rules in
    searched_block _ _ c.requires.sorted c.requires.filled some (Ok c.in-Ok.at) c.in-Ok.ensures.bound
    (c.in-Ok.ensures.position (λ (block : Pairs). by_bytes (first_of block) c.args.name.now) (always_returns_same _ _ _ (λ a r g called. (search rules, search rules))))

pub returns-in-Err-clause-some : goal.returns-in-Err-clause-some
returns-in-Err-clause-some c =
    let some : 1 ≤ length c.args.blocks.now = search rules in
    rw c.saturating_sub.ensures (searched_block _ _ c.requires.sorted c.requires.filled some (Err c.in-Err.next) c.in-Err.ensures.bound
    (c.in-Err.ensures.position (λ (block : Pairs). by_bytes (first_of block) c.args.name.now) (always_returns_same _ _ _ (λ a r g called. (search rules, search rules)))))
