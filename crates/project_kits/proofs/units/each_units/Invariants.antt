use Rattle.std.proofs.Common.{◌≡◌}
use Rattle.toml.specs.View.{members_view}
use Rattle.project_file.specs.Projects.{each_member}
use Rattle.project_kits.specs.Entries.{prefixed}
use Rattle.project_kits.specs.Units.{units_of}
use Rattle.project_kits.proofs.units.each_units.Given as goal

-- what is read and what is left to read make the whole
abbrev pub invariant-loop-name : goal.invariant-loop-name
invariant-loop-name l =
    prefixed l.read (each_member (units_of l.word) (members_view l.name-iterator)) ≡ prefixed l.initial.read (each_member (units_of l.word) (members_view l.tables.entries))
