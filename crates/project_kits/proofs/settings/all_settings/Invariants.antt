use Rattle.std.proofs.Common.{◌≡◌, drop, map}
use Rattle.toml.specs.View.{table_view}
use Rattle.project_kits.specs.Entries.{prefixed}
use Rattle.project_kits.specs.Settings.{all_settings}
use Rattle.project_kits.proofs.settings.all_settings.Given as goal

-- what is read and what is left to read make the whole
abbrev pub invariant-loop-kit : goal.invariant-loop-kit
invariant-loop-kit l =
    prefixed l.read (all_settings (map (λ kit. kit.now) (drop l.kit-index l.kits)) (table_view l.keys)) ≡ all_settings (map (λ kit. kit.now) l.kits) (table_view l.keys)
