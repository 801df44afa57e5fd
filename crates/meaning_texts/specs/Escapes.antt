-- Escaped text: printable bytes stand as they are, but for `\`, which is written twice; every other
-- byte is `\x` and two digits.
use Rattle.std.specs.Prelude.{ℕ, ◌+◌, ◌/◌, ◌%◌, Bool, nat_lt, nat_le, ◌==◌, ◌&&◌, List, [], ◌∷◌, if◌then◌else◌}
use Rattle.std.specs.List.{flat_map}

-- a hexadecimal digit, in lower case
abbrev pub hexadecimal : ℕ → ℕ
hexadecimal digit = if nat_lt digit 10 then 48 + digit else 87 + digit

-- from a space to `~`
abbrev pub is_printable : ℕ → Bool
is_printable b = nat_le 32 b && nat_le b 126

abbrev pub escaped_byte : ℕ → List ℕ
escaped_byte b =
    if b == 92 then 92 ∷ 92 ∷ []
    else if is_printable b then b ∷ []
    else 92 ∷ 120 ∷ hexadecimal (b / 16) ∷ hexadecimal (b % 16) ∷ []

-- the one spelling of a text
abbrev pub escaped : List ℕ → List ℕ
escaped text = flat_map escaped_byte text
