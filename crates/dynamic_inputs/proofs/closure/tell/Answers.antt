use Rattle.std.proofs.Common.{◌≡◌, List, ap, ◌∙◌}
use Rattle.meaning_graph.specs.Graphs.{Text}
use Rattle.dynamic_inputs.specs.Closures.{with_name}
use Rattle.dynamic_inputs.proofs.Asked.{front_kept}
use Rattle.dynamic_inputs.proofs.closure.tell.Goals as goal

rooted : (root : Text) (names room now : List Text) → now ≡ with_name room root → room ≡ names → now ≡ with_name names root
rooted root names room now is same = is ∙ ap (λ ns. with_name ns root) same

pub returns-in_err-places-clause-kept : goal.returns-in_err-places-clause-kept
returns-in_err-places-clause-kept c = front_kept c.args.root.now c.args.names.now c.add.new.self c.places_of.new.names c.from_residual-in_err-places.result (rooted c.args.root.now c.args.names.now c.make_room.new.names c.add.new.self c.in_ok-add.ensures.names c.make_room.ensures.names) c.places_of.ensures.kept

pub returns-in_err-push-clause-kept : goal.returns-in_err-push-clause-kept
returns-in_err-push-clause-kept c = front_kept c.args.root.now c.args.names.now c.add.new.self c.places_of.new.names c.from_residual-in_err-push.result (rooted c.args.root.now c.args.names.now c.make_room.new.names c.add.new.self c.in_ok-add.ensures.names c.make_room.ensures.names) c.places_of.ensures.kept
