-- Words that are cut at a space.
use Rattle.std.proofs.Common.{◌≡◌, ℕ, List, [], ◌∷◌, ◌++◌, Option, Some, None, IfSome, IfNone, option_map, Bor, refl, sym, ap, ◌∙◌}
use Rattle.std.specs.Prelude.{◌==◌}
use Rattle.std.proofs.lemmas.Bool.{cond-false, ne_eqb}
use Rattle.meaning_texts.specs.Lists.{HasNo}
use Rattle.odin_bytes.specs.Words.{IsCutAt}
use Rattle.call_layout.specs.Told.{cut_word}

-- a cut of what stands after one more byte
abbrev further : ℕ → Option (List ℕ × List ℕ) → Option (List ℕ × List ℕ)
further b = option_map (λ cut. (b ∷ cut.0, cut.1))

pub cut_there : (before behind : List ℕ) → HasNo 32 before → cut_word (before ++ 32 ∷ behind) ≡ Some (before, behind)
cut_there [] behind none = refl
cut_there (b ∷ before) behind none = cond-false (b == 32) _ _ (ne_eqb b 32 none.0) ∙ ap (further b) (cut_there before behind none.1)

pub cut_none : (text : List ℕ) → HasNo 32 text → cut_word text ≡ None
cut_none [] none = refl
cut_none (b ∷ rest) none = cond-false (b == 32) _ _ (ne_eqb b 32 none.0) ∙ ap (further b) (cut_none rest none.1)

pub cut_by : (text : List ℕ) (cut : Option (Bor (List ℕ) × Bor (List ℕ))) → IfSome cut (λ c. IsCutAt 32 text c.0.now c.1.now) → IfNone cut (HasNo 32 text)
    → option_map (λ c. (c.0.now, c.1.now)) cut ≡ cut_word text
cut_by text None some none = sym (cut_none text none)
cut_by text (Some c) some none = sym (ap cut_word some.0 ∙ cut_there c.0.now c.1.now some.1)
