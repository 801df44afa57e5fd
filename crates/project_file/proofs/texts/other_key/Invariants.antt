use Rattle.std.proofs.Common.{◌≡◌, ℕ, List, map, Bor}
use Rattle.toml.specs.View.{members_view}
use Rattle.project_file.specs.Projects.{other_key}
use Rattle.project_file.proofs.texts.other_key.Given as goal

-- the names behind references
abbrev pub read : List (Bor (List ℕ)) → List (List ℕ)
read names = map (λ name. name.now) names

-- what is left tells as the whole does
abbrev pub invariant-loop-key : goal.invariant-loop-key
invariant-loop-key l = other_key (read l.known) (members_view l.key-iterator) ≡ other_key (read l.known) (members_view l.keys.entries)
