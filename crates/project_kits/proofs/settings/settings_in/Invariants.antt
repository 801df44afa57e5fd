use Rattle.std.proofs.Common.{◌≡◌}
use Rattle.toml.specs.View.{members_view}
use Rattle.project_file.specs.Projects.{each_member}
use Rattle.project_kits.specs.Entries.{prefixed}
use Rattle.project_kits.specs.Settings.{setting_of}
use Rattle.project_kits.proofs.settings.settings_in.Given as goal

-- what is read and what is left to read make the whole
abbrev pub invariant-loop-key : goal.invariant-loop-key
invariant-loop-key l =
    prefixed l.read (each_member (setting_of l.kit) (members_view l.key-iterator)) ≡ prefixed l.initial.read (each_member (setting_of l.kit) (members_view l.keys.entries))
