-- Forms of records: of each kind of thing what it is spelled in bytes, and which things have a spelling. A form says for itself where it ends, so
-- forms follow each other with nothing between.
use Rattle.std.specs.Prelude.{◌≡◌, ⊤, ℕ, ◌^◌, ◌<◌, List, [], ◌∷◌, ◌++◌, length, Option, Some, None}
use Rattle.std.specs.List.{flat_map, All}
use Rattle.odin_bytes.specs.Fields.{u32_field, bytes_field, IsFieldAt}

pub record Form (T : Type 0) : Type 1 where
  pub spell : T → List ℕ
  pub fits : T → Type 0

-- Of two things of a form that stand at one place both are the same, and so is what stands after them.
abbrev pub IsOfOneThing : {T : Type 0} → Form T → Type 0
IsOfOneThing {T} form = (a b : T) (s t : List ℕ) → form.fits a → form.fits b → form.spell a ++ s ≡ form.spell b ++ t → (a ≡ b) × (s ≡ t)

-- ---- forms of things that have no parts

-- a length and the bytes
abbrev pub bytes : Form (List ℕ)
bytes = record { spell = bytes_field; fits = λ body. length body < 2 ^ 32 }

-- four bytes, the highest first
abbrev pub number : Form ℕ
number = record { spell = u32_field; fits = λ n. n < 2 ^ 32 }

-- ---- forms made of others

-- one thing after another
abbrev pub both : {A B : Type 0} → Form A → Form B → Form (A × B)
both first second = record {
  spell = λ p. first.spell p.0 ++ second.spell p.1;
  fits = λ p. first.fits p.0 × second.fits p.1;
}

-- a thing by its parts
abbrev pub by_parts : {T P : Type 0} → (T → P) → Form P → Form T
by_parts parts form = record { spell = λ x. form.spell (parts x); fits = λ x. form.fits (parts x) }

-- a count, and then the members
abbrev pub list_of : {T : Type 0} → Form T → Form (List T)
list_of form = record {
  spell = λ members. u32_field (length members) ++ flat_map form.spell members;
  fits = λ members. (length members < 2 ^ 32) × All form.fits members;
}

abbrev pub spell_option : {T : Type 0} → Form T → Option T → List ℕ
spell_option form None = 0 ∷ []
spell_option form (Some member) = 1 ∷ form.spell member

abbrev pub fits_option : {T : Type 0} → Form T → Option T → Type 0
fits_option form None = ⊤
fits_option form (Some member) = form.fits member

-- a 0, or a 1 and the member
abbrev pub option_of : {T : Type 0} → Form T → Form (Option T)
option_of form = record { spell = spell_option form; fits = fits_option form }

-- ---- where they stand

-- a thing of this form stands at a place, up to an end
pub record ParsesAt {T : Type 0} (form : Form T) (from : List ℕ) (at end : ℕ) (thing : T) : Type 0 where
  pub fits : form.fits thing
  pub field : IsFieldAt from at end (form.spell thing)

-- and none stands there
abbrev pub StandsNowhere : {T : Type 0} → Form T → List ℕ → ℕ → Type 0
StandsNowhere {T} form from at = (thing : T) (end : ℕ) → ¬ ParsesAt form from at end thing
