-- What a walk adds to what was found.
use Rattle.std.specs.Prelude.{◌≡◌, ℕ, true, List, ◌++◌}
use Rattle.build_files.specs.declared.walk.Found.{Found}

-- The names that were found stay, and more come after them. What was odd or missing stays so.
pub record FindsMore (old new : Found) : Type 0 where
  pub more : List (List ℕ)
  pub names : new.names.items ≡ old.names.items ++ more
  pub odd : old.odd ≡ true → new.odd ≡ true
  pub missing : old.missing ≡ true → new.missing ≡ true
