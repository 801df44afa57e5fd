-- Texts by name, with the room that is reserved for more.
use Rattle.std.specs.Prelude.{ℕ, List, Option, slice_get, refl}
use Rattle.std.specs.Coded.{Coded, code_by, coded×, coded_ℕ, coded_list}
use Rattle.std.specs.Ordering.{nat_cmp}
use Rattle.std.specs.Cmp.Lexicographic.{slice_cmp}
use Rattle.std.specs.FinMap as map

-- the bytes of a name, or of a text
abbrev pub Text : Type 0
Text = List ℕ

-- a finite map from names to texts, in the order of the names' bytes
abbrev pub Texts : Type 0
Texts = map.FinMap (slice_cmp nat_cmp) Text

-- the map with no name
abbrev pub no_texts : Texts
no_texts = map.empty

-- the name at a place, in the order of the names' bytes, with its text
abbrev pub entry_at : Texts → ℕ → Option (Text × Text)
entry_at texts place = slice_get (map.entries texts) place

-- the texts, and how many more names have room
pub record SourceStock : Type 0 where
  pub texts : Texts
  pub spare : ℕ

abbrev pub stock_code : Coded SourceStock
stock_code = code_by (Texts × ℕ)
    (coded× (map.code (coded_list coded_ℕ) (coded_list coded_ℕ)) coded_ℕ)
    (λ s. (s.texts, s.spare))
    (λ p. record { texts = p.0; spare = p.1 })
    (λ _. refl)
