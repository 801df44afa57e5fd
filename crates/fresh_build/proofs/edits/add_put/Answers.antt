use Rattle.std.proofs.Common.{◌≢◌}
use Rattle.std.specs.Prelude.{Some}
use Rattle.std.specs.FinMap.{get}
use Rattle.fresh_build.proofs.EditLemmas.{put_noted}
use Rattle.fresh_build.proofs.edits.add_put.Goals as goal

pub returns-in_ok-push : goal.returns-in_ok-push
returns-in_ok-push c =
    let other : get c.args.old.now.texts c.args.name.now ≢ Some c.args.text.now = λ is. (let no : ⊥ = cc (c.has_text.ensures.1 is, c.if-not-has_text.true) in no) in
    put_noted c.args.edits.now c.push.new.self _ _ c.args.name.now c.args.text.now
    (get c.args.old.now.texts c.args.name.now) c.in_ok-push.ensures.ok c.in_ok-read_name.ensures c.in_ok-copy.ensures other
