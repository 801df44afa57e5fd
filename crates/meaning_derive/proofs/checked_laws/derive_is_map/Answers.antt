use Rattle.meaning_derive.specs.Derive.{derive}
use Rattle.meaning_derive.proofs.Maps.{map_at, fitting_map}
use Rattle.meaning_derive.proofs.checked_laws.derive_is_map.Goals as goal

pub returns-clause-map : goal.returns-clause-map
returns-clause-map c = λ g spellable checked s sources outcomes fitted h. fitting_map g (derive g s outcomes h) (map_at g checked s sources outcomes fitted h)

pub returns-clause-each : goal.returns-clause-each
returns-clause-each c = λ g spellable checked s sources outcomes fitted h. map_at g checked s sources outcomes fitted h
