use Rattle.std.proofs.Common.{◌≡◌, rules}
use Rattle.std.specs.Prelude.{Some, None}
use Rattle.derive_walk.specs.Tables.{done_in}
use Rattle.derive_walk.proofs.RootLemmas.{waits_there, answers_there}
use Rattle.derive_walk.proofs.walker.visited_root.Goals as goal

pub returns-in-None : goal.returns-in-None
returns-in-None c w is formed =
    let none : done_in c.args.walk.now.done c.args.walk.now.root ≡ None = search rules in
    waits_there w c.args.walk.now c.requires none

pub returns-in_ok-copy-in-Some : goal.returns-in_ok-copy-in-Some
returns-in_ok-copy-in-Some c w is formed =
    let d = c.in-Some.done.now in
    let there : done_in c.args.walk.now.done c.args.walk.now.root ≡ Some d = search rules in
    answers_there w c.args.walk.now is formed d there c.in_ok-copy-in-Some.field-0 c.in_ok-copy-in-Some.ensures
