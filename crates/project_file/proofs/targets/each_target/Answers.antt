use Rattle.std.proofs.Common.{List, ap, ◌∙◌}
use Rattle.toml.specs.View.{members_view}
use Rattle.project_file.specs.declared.project.Target.{Target}
use Rattle.project_file.specs.Projects.{each_member, target_of}
use Rattle.project_file.proofs.ReadLemmas.{prefixed, target_read}
use Rattle.project_file.proofs.targets.each_target.Goals as goal

pub loop-name-preserved : goal.loop-name-preserved
loop-name-preserved c =
    ap (λ (l : List Target). prefixed l (each_member target_of (members_view c.next.new.self))) c.in_ok-push.ensures.ok
    ∙ target_read c.loop-name.read c.in_ok-target_of.field-0 _ c.next.new.self c.in-Some.name.now c.in-Some.value.now c.as_bytes.result.now _
    c.in-Some.ensures.steps c.as_bytes.ensures.value
    c.in_ok-target_of.ensures c.loop-name.invariant
