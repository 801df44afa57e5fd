-- What holds of every text on a page.
use Rattle.std.specs.Prelude.{◌≢◌, ◌≡◌, ◌≤◌, ⊤, ℕ, List, [], ◌∷◌, ◌++◌, Any, codes}
use Rattle.odin_bytes.specs.Spellings.{AreBytes}
use Rattle.build_view.specs.Escaped.{escaped, words}

-- what may come after `&`
abbrev pub entity_names : List (List ℕ)
entity_names = codes "quot;" ∷ codes "amp;" ∷ codes "#39;" ∷ codes "lt;" ∷ codes "gt;" ∷ []

pub record StartsWith (text name : List ℕ) : Type 0 where
  pub rest : List ℕ
  pub is : text ≡ name ++ rest

-- The byte at the front is no `"`, `'`, `<` or `>`, and where it is `&` it begins an entity.
pub record BeginsNoMarkup (b : ℕ) (rest : List ℕ) : Type 0 where
  pub quote : b ≢ 34
  pub apostrophe : b ≢ 39
  pub less : b ≢ 60
  pub greater : b ≢ 62
  pub entity : b ≡ 38 → Any (StartsWith rest) entity_names

abbrev pub HasNoMarkup : List ℕ → Type 0
HasNoMarkup [] = ⊤
HasNoMarkup (b ∷ rest) = BeginsNoMarkup b rest × HasNoMarkup rest

abbrev pub EscapedIsNoMarkup : Type 0
EscapedIsNoMarkup = (text : List ℕ) → HasNoMarkup (escaped text)

-- neither below the space, nor the one that deletes
abbrev pub IsNoControl : ℕ → Type 0
IsNoControl b = (32 ≤ b) × (b ≢ 127)

abbrev pub HasNoControl : List ℕ → Type 0
HasNoControl [] = ⊤
HasNoControl (b ∷ rest) = IsNoControl b × HasNoControl rest

abbrev pub WordsHaveNoControl : Type 0
WordsHaveNoControl = (text : List ℕ) → AreBytes text → HasNoControl (words text)
