-- The steps of a path.
use Rattle.std.proofs.Common.{◌≡◌, ℕ, Bool, true, false, List, [], ◌∷◌, ◌++◌, refl, sym, ap, ◌∙◌}
use Rattle.std.specs.Prelude.{◌==◌, ◌||◌}
use Rattle.std.specs.List.{list_any, onto_first}
use Rattle.std.proofs.lemmas.Bool.{cond-false, ne_eqb}
use Rattle.meaning_texts.specs.Lists.{HasNo}
use Rattle.odin_bytes.specs.Words.{IsCutAt}
use Rattle.project_file.specs.Patterns.{steps_of}

steps_there : (before behind : List ℕ) → HasNo 47 before → steps_of (before ++ 47 ∷ behind) ≡ before ∷ steps_of behind
steps_there [] behind none = refl
steps_there (b ∷ before) behind none = cond-false (b == 47) _ _ (ne_eqb b 47 none.0) ∙ ap (onto_first b) (steps_there before behind none.1)

steps_cut : (path before behind : List ℕ) → IsCutAt 47 path before behind → steps_of path ≡ before ∷ steps_of behind
steps_cut path before behind cut = ap steps_of cut.0 ∙ steps_there before behind cut.1

one_step : (path : List ℕ) → HasNo 47 path → steps_of path ≡ path ∷ []
one_step [] none = refl
one_step (b ∷ path) none = cond-false (b == 47) _ _ (ne_eqb b 47 none.0) ∙ ap (onto_first b) (one_step path none.1)

or_false : (b : Bool) → (b || false) ≡ b
or_false true = refl
or_false false = refl

-- a step of the path passes
abbrev pub some_step : (List ℕ → Bool) → List ℕ → Bool
some_step test path = list_any test (steps_of path)

pub goes_on : (test : List ℕ → Bool) (path rest before behind : List ℕ) → IsCutAt 47 rest before behind → test before ≡ false
    → some_step test path ≡ some_step test rest
    → some_step test path ≡ some_step test behind
goes_on test path rest before behind cut fails so_far =
    so_far ∙ ap (list_any test) (steps_cut rest before behind cut) ∙ ap (λ b. b || some_step test behind) fails

pub passes : (test : List ℕ → Bool) (path rest before behind : List ℕ) → IsCutAt 47 rest before behind → test before ≡ true
    → some_step test path ≡ some_step test rest
    → some_step test path ≡ true
passes test path rest before behind cut is so_far =
    so_far ∙ ap (list_any test) (steps_cut rest before behind cut) ∙ ap (λ b. b || some_step test behind) is

pub last_step : (test : List ℕ → Bool) (path rest : List ℕ) → HasNo 47 rest → some_step test path ≡ some_step test rest → test rest ≡ some_step test path
last_step test path rest none so_far = sym (so_far ∙ ap (list_any test) (one_step rest none) ∙ or_false (test rest))
