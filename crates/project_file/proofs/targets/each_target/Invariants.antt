use Rattle.std.proofs.Common.{◌≡◌}
use Rattle.toml.specs.View.{members_view}
use Rattle.project_file.specs.Projects.{each_member, target_of}
use Rattle.project_file.proofs.ReadLemmas.{prefixed}
use Rattle.project_file.proofs.targets.each_target.Given as goal

-- what is read and what is left to read make the whole
abbrev pub invariant-loop-name : goal.invariant-loop-name
invariant-loop-name l = prefixed l.read (each_member target_of (members_view l.name-iterator)) ≡ each_member target_of (members_view l.targets.entries)
