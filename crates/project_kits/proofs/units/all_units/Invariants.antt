use Rattle.std.proofs.Common.{◌≡◌, map}
use Rattle.toml.specs.View.{members_view}
use Rattle.project_kits.specs.Entries.{prefixed}
use Rattle.project_kits.specs.Units.{all_units}
use Rattle.project_kits.proofs.units.all_units.Given as goal

-- what is read and what is left to read make the whole
abbrev pub invariant-loop-key : goal.invariant-loop-key
invariant-loop-key l =
    let kits = map (λ kit. kit.now) l.kits in
    prefixed l.read (all_units kits (members_view l.key-iterator)) ≡ all_units kits (members_view l.keys.entries)
