-- What is escaped has no markup and no control.
use Rattle.std.proofs.Common.{◌≡◌, ◌≢◌, ◌≤◌, ◌<◌, slice_index_or, ℕ, Bool, true, false, ◌==◌, cond, List, [], ◌∷◌, ◌++◌, Any, refl, arith}
use Rattle.std.proofs.lemmas.Bool.Decides.{nat_tests}
use Rattle.odin_bytes.specs.Spellings.{AreBytes}
use Rattle.shown_texts.specs.ShownLaws.{MovesNothing}
use Rattle.shown_texts.proofs.ShownLemmas.{still}
use Rattle.build_view.specs.Escaped.{entity, escaped, words}
use Rattle.build_view.specs.EscapedLaws.{BeginsNoMarkup, HasNoMarkup, StartsWith, entity_names, IsNoControl, HasNoControl}

by_test : {A : Type 0} (P : A → Type 0) (b : Bool) (x y : A) → (b ≡ true → P x) → (b ≡ false → P y) → P (cond b x y)
by_test P true x y there other = there refl
by_test P false x y there other = other refl

-- what a byte isn't that is named by no entity
record Plain (b : ℕ) : Type 0 where
  pub quote : b ≢ 34
  pub ampersand : b ≢ 38
  pub apostrophe : b ≢ 39
  pub less : b ≢ 60
  pub greater : b ≢ 62

plain : (b : ℕ) → (b == 34) ≡ false → (b == 38) ≡ false → (b == 39) ≡ false → (b == 60) ≡ false → (b == 62) ≡ false → Plain b
plain b a c d e f = record {
  quote = grind (arith, nat_tests);
  ampersand = grind (arith, nat_tests);
  apostrophe = grind (arith, nat_tests);
  less = grind (arith, nat_tests);
  greater = grind (arith, nat_tests);
}

-- an entity by its byte
by_byte : (P : List ℕ → Type 0) (b : ℕ)
    → P (38 ∷ 113 ∷ 117 ∷ 111 ∷ 116 ∷ 59 ∷ []) → P (38 ∷ 97 ∷ 109 ∷ 112 ∷ 59 ∷ []) → P (38 ∷ 35 ∷ 51 ∷ 57 ∷ 59 ∷ [])
    → P (38 ∷ 108 ∷ 116 ∷ 59 ∷ []) → P (38 ∷ 103 ∷ 116 ∷ 59 ∷ []) → (Plain b → P (b ∷ [])) → P (entity b)
unfolding entity
by_byte P b quote ampersand apostrophe less greater other =
    by_test P (b == 34) _ _ (λ _. quote) (λ a.
    by_test P (b == 38) _ _ (λ _. ampersand) (λ c.
    by_test P (b == 39) _ _ (λ _. apostrophe) (λ d.
    by_test P (b == 60) _ _ (λ _. less) (λ e.
    by_test P (b == 62) _ _ (λ _. greater) (λ f. other (plain b a c d e f))))))

-- ---- markup

-- the byte is neither markup nor an ampersand
begin : (b : ℕ) (rest : List ℕ) → Plain b → BeginsNoMarkup b rest
begin b rest p = record { quote = p.quote; apostrophe = p.apostrophe; less = p.less; greater = p.greater; entity = λ is. absurd (p.ampersand is) }

-- a letter, a digit or a semicolon
letter : (b : ℕ) (rest : List ℕ) → (b ≢ 34) × (b ≢ 38) × (b ≢ 39) × (b ≢ 60) × (b ≢ 62) → BeginsNoMarkup b rest
letter b rest n = begin b rest (record { quote = n.0; ampersand = n.1; apostrophe = n.2; less = n.3; greater = n.4 })

-- the ampersand of an entity
opens : (rest : List ℕ) → Any (StartsWith rest) entity_names → BeginsNoMarkup 38 rest
opens rest named = record { quote = λ is. absurd (omega arith); apostrophe = λ is. absurd (omega arith); less = λ is. absurd (omega arith); greater = λ is. absurd (omega arith); entity = λ _. named }

-- the entity is the one with this number
named : (k : ℕ) (name rest : List ℕ) → k < 5 → slice_index_or entity_names k name ≡ name → Any (StartsWith (name ++ rest)) entity_names
named k name rest below is = (k, name, below, is, record { rest = rest; is = refl })

before : (rest : List ℕ) (b : ℕ) → HasNoMarkup rest → HasNoMarkup (entity b ++ rest)
before rest b none =
    by_byte (λ e. HasNoMarkup (e ++ rest)) b
    (opens _ (named 0 (113 ∷ 117 ∷ 111 ∷ 116 ∷ 59 ∷ []) rest (omega arith) refl), (letter 113 _ (grind arith), (letter 117 _ (grind arith), (letter 111 _ (grind arith), (letter 116 _ (grind arith), (letter 59 _ (grind arith), none))))))
    (opens _ (named 1 (97 ∷ 109 ∷ 112 ∷ 59 ∷ []) rest (omega arith) refl), (letter 97 _ (grind arith), (letter 109 _ (grind arith), (letter 112 _ (grind arith), (letter 59 _ (grind arith), none)))))
    (opens _ (named 2 (35 ∷ 51 ∷ 57 ∷ 59 ∷ []) rest (omega arith) refl), (letter 35 _ (grind arith), (letter 51 _ (grind arith), (letter 57 _ (grind arith), (letter 59 _ (grind arith), none)))))
    (opens _ (named 3 (108 ∷ 116 ∷ 59 ∷ []) rest (omega arith) refl), (letter 108 _ (grind arith), (letter 116 _ (grind arith), (letter 59 _ (grind arith), none))))
    (opens _ (named 4 (103 ∷ 116 ∷ 59 ∷ []) rest (omega arith) refl), (letter 103 _ (grind arith), (letter 116 _ (grind arith), (letter 59 _ (grind arith), none))))
    (λ p. (begin b rest p, none))

pub no_markup : (text : List ℕ) → HasNoMarkup (escaped text)
no_markup [] = tt
no_markup (b ∷ text) = before (escaped text) b (no_markup text)

-- ---- controls

seen : (b : ℕ) → 32 ≤ b → b < 127 → IsNoControl b
seen b low high = (low, grind arith)

before_seen : (rest : List ℕ) (b : ℕ) → IsNoControl b → HasNoControl rest → HasNoControl (entity b ++ rest)
before_seen rest b itself none =
    by_byte (λ e. HasNoControl (e ++ rest)) b
    (seen 38 (omega arith) (omega arith), (seen 113 (omega arith) (omega arith), (seen 117 (omega arith) (omega arith), (seen 111 (omega arith) (omega arith), (seen 116 (omega arith) (omega arith), (seen 59 (omega arith) (omega arith), none))))))
    (seen 38 (omega arith) (omega arith), (seen 97 (omega arith) (omega arith), (seen 109 (omega arith) (omega arith), (seen 112 (omega arith) (omega arith), (seen 59 (omega arith) (omega arith), none)))))
    (seen 38 (omega arith) (omega arith), (seen 35 (omega arith) (omega arith), (seen 51 (omega arith) (omega arith), (seen 57 (omega arith) (omega arith), (seen 59 (omega arith) (omega arith), none)))))
    (seen 38 (omega arith) (omega arith), (seen 108 (omega arith) (omega arith), (seen 116 (omega arith) (omega arith), (seen 59 (omega arith) (omega arith), none))))
    (seen 38 (omega arith) (omega arith), (seen 103 (omega arith) (omega arith), (seen 116 (omega arith) (omega arith), (seen 59 (omega arith) (omega arith), none))))
    (λ _. (itself, none))

quiet : (text : List ℕ) → MovesNothing text → HasNoControl (escaped text)
quiet [] moves = tt
quiet (b ∷ text) moves = before_seen (escaped text) b (moves.0.control, moves.0.delete) (quiet text moves.1)

pub no_control : (text : List ℕ) → AreBytes text → HasNoControl (words text)
no_control text bytes = quiet _ (still 0 text bytes (λ i below. absurd (omega arith)))
