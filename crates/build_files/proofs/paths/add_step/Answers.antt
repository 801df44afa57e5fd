use Rattle.std.proofs.Common.{◌≡◌, ◌≢◌, ◌⊎◌, [], codes, subst}
use Rattle.std.proofs.lemmas.Result.{on_ok_weaker}
use Rattle.build_files.proofs.PathLemmas.{stepless, stepped}
use Rattle.build_files.proofs.paths.add_step.Goals as goal

pub returns-then-is_stepless : goal.returns-then-is_stepless
returns-then-is_stepless c =
    let start = subst (λ path. (path ≡ []) ⊎ (path ≡ codes "/")) c.as_slice.ensures (c.is_stepless.ensures.yes c.if-is_stepless.true) in
    on_ok_weaker c.extend_from_slice.result (stepless c.args.path.now c.args.step.now c.extend_from_slice.new.self start) c.extend_from_slice.ensures.ok

pub returns : goal.returns
returns c =
    let other = subst (λ path. (path ≢ []) × (path ≢ codes "/")) c.as_slice.ensures (c.is_stepless.ensures.no c.if-is_stepless.false) in
    on_ok_weaker c.extend_from_slice-2.result (stepped c.args.path.now c.args.step.now c.push.new.self c.extend_from_slice-2.new.self other c.in_ok-push.ensures.ok) c.extend_from_slice-2.ensures.ok
