-- The line that takes a file spells that command.
use Rattle.std.proofs.Common.{◌≢◌, ℕ, ◌<◌, List, [], ◌∷◌, length, refl, arith}
use Rattle.meaning_texts.specs.Classes.{IsName}
use Rattle.odin_bytes.proofs.Lemmas.{has_no}
use Rattle.odin_bytes.specs.declared.commands.Command.TheVariants.{Take}
use Rattle.meaning_commands.specs.Commands.{Spells, formed, take}
use Rattle.build_files.specs.Listed.{take_line}

some_byte : (name : List ℕ) → 0 < length name → name ≢ []
some_byte [] some = absurd (omega (arith, some))
some_byte (b ∷ name) some = λ e. cc

pub take_spells : (name : List ℕ) → IsName name → Spells (take_line name) (Take name)
take_spells name named =
    formed (Take name) (omega (arith, named.short))
    (take name (record { word_is = record { some = some_byte name named.some; spaceless = has_no 32 refl name named }; is = refl }) named)
