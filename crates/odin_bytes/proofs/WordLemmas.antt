-- Names: which bytes they have not, and what is wrong with a text that is none.
use Rattle.std.proofs.Common.{◌≡◌, ◌≢◌, ℕ, List, [], ◌∷◌, length, get_or, ap, refl, subst, arith, IsTrue, Bool, true, false, not}
use Rattle.std.specs.List.{AllByRecursion}
use Rattle.std.proofs.lemmas.List.Elements.{recursion_from_All}
use Rattle.std.proofs.lemmas.List.Quantifiers.{position-Some}
use Rattle.meaning_texts.specs.Classes.{is_name_byte, IsName}
use Rattle.meaning_texts.specs.Lists.{HasNo}
use Rattle.odin_bytes.specs.Names.{IsNameFault}
use Rattle.odin_bytes.specs.declared.names.NameFault.{NameFault}
use Rattle.odin_bytes.specs.declared.names.NameFault.TheVariants as fault

not_it : (byte b : ℕ) → is_name_byte byte ≡ false → IsTrue (is_name_byte b) → b ≢ byte
not_it byte b never h e = let yes : IsTrue (is_name_byte byte) = subst (λ x. IsTrue (is_name_byte x)) e h in cc

by_each : (byte : ℕ) → is_name_byte byte ≡ false → (xs : List ℕ) → AllByRecursion (λ b. IsTrue (is_name_byte b)) xs → HasNo byte xs
by_each byte never [] h = tt
by_each byte never (x ∷ xs) h = (not_it byte x never h.0, by_each byte never xs h.1)

-- a byte that no name has stands in no name
pub has_no : (byte : ℕ) → is_name_byte byte ≡ false → (name : List ℕ) → IsName name → HasNo byte name
has_no byte never name named = by_each byte never name (recursion_from_All (λ b. IsTrue (is_name_byte b)) name named.each)

not_both : (b : Bool) → not b ≡ true → IsTrue b → ⊥
not_both true e h = cc
not_both false e h = cc

-- what is wrong with a text that is no name
pub no_name : (text : List ℕ) (f : NameFault) → (f ≡ fault.Memory → ⊥) → IsNameFault text f → ¬ IsName text
no_name text fault.Empty other is named = let some = named.some in let none : length text ≡ 0 = ap length is in absurd (omega arith)
no_name text fault.TooLong other is named = let short = named.short in absurd (omega arith)
no_name text (fault.BadByte place) other is named =
    let found = position-Some (λ b. not (is_name_byte b)) text place 0 is.1 in
    not_both (is_name_byte (get_or text place 0)) found.1 (named.each place 0 found.0)
no_name text fault.Memory other is named = other refl
