-- The permissions that a new file asks for.
use Rattle.std.specs.Prelude.{ℕ, Bool, ◌||◌, List, ◌∷◌, codes, eqb, if◌then◌else◌}
use Rattle.std.specs.List.{starts_with}

-- what the system loads as a program, or runs by the program that its first line names
abbrev pub is_program : List ℕ → Bool
is_program body = starts_with eqb body (127 ∷ codes "ELF") || starts_with eqb body (codes "#!")

-- all may read and write it, and run it where it is a program: 0o777 and 0o666
abbrev pub new_mode : List ℕ → ℕ
new_mode body = if is_program body then 511 else 438
