use Rattle.std.proofs.Common.{rules, ◌≡◌, ◌∙◌, ◌-◌, drop, length, slice_range, take_all, length-drop, arith}
use Rattle.odin_commands.proofs.PlaceLemmas.{none_stands}
use Rattle.odin_commands.proofs.replies.read_reply.Goals as goal

pub returns-in-None : goal.returns-in-None
returns-in-None c =
    let slice_is : c.in-Some.rest.now ≡ slice_range c.args.text.now c.args.at (length c.args.text.now) = search rules in
    let rest_is : c.in-Some.rest.now ≡ drop c.args.at c.args.text.now =
    slice_is ∙ take_all (length c.args.text.now - c.args.at) (drop c.args.at c.args.text.now) (omega (arith, length-drop c.args.at c.args.text.now)) in
    none_stands c.args.text.now c.in-Some.rest.now c.args.at rest_is (rw c.in-None.is at c.in_ok-reply.ensures)
