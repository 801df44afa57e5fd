use Rattle.std.proofs.Common.{List, ap, ◌∙◌}
use Rattle.toml.specs.View.{members_view}
use Rattle.project_file.specs.Projects.{each_member}
use Rattle.project_kits.specs.declared.wanted.Units.{Units}
use Rattle.project_kits.specs.Entries.{prefixed}
use Rattle.project_kits.specs.Units.{units_of}
use Rattle.project_kits.proofs.ReadLemmas.{one_read}
use Rattle.project_kits.proofs.units.each_units.Goals as goal

pub loop-name-preserved : goal.loop-name-preserved
loop-name-preserved c =
    ap (λ (l : List Units). prefixed l (each_member (units_of c.args.word.now) (members_view c.next.new.self))) c.in_ok-push.ensures.ok
    ∙ one_read (units_of c.args.word.now) c.loop-name.read c.in_ok-units_of.field-0 _ c.next.new.self c.in-Some.name.now c.in-Some.value.now c.as_bytes.result.now _
    c.in-Some.ensures.steps c.as_bytes.ensures.value
    c.in_ok-units_of.ensures c.loop-name.invariant
