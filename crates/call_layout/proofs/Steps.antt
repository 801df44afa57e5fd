-- The steps of a path.
use Rattle.std.proofs.Common.{◌≡◌, ◌≢◌, ℕ, Bool, true, false, not, List, [], ◌∷◌, ◌++◌, refl, sym, ap, ◌∙◌}
use Rattle.std.specs.Prelude.{◌==◌, ◌&&◌, ◌↔◌, IsTrue, All, codes, bytes_eq}
use Rattle.std.specs.List.{list_all, list_any, onto_first}
use Rattle.std.proofs.lemmas.Bool.{cond-false, ne_eqb, eqb-false, both_ways, not-true, not_from_false, and_parts, and_from, or_parts, or_from}
use Rattle.std.proofs.lemmas.List.Elements.{All-nil, All-cons, All-weaker}
use Rattle.std.proofs.lemmas.List.Folds.{list_any_none}
use Rattle.std.proofs.lemmas.List.Sums.{AllPass-from_list_all, list_all-from_AllPass}
use Rattle.std.proofs.lemmas.Slice.Eq.{bytes_eq-Decides}
use Rattle.meaning_texts.specs.Lists.{HasNo, is_empty}
use Rattle.odin_bytes.specs.Words.{IsCutAt}
use Rattle.call_layout.specs.Labels.{steps_of, LeadsDown, StaysBelow, is_dots, leads_down, stays_below}

steps_there : (before behind : List ℕ) → HasNo 47 before → steps_of (before ++ 47 ∷ behind) ≡ before ∷ steps_of behind
steps_there [] behind none = refl
steps_there (b ∷ before) behind none = cond-false (b == 47) _ _ (ne_eqb b 47 none.0) ∙ ap (onto_first b) (steps_there before behind none.1)

pub steps_cut : (path before behind : List ℕ) → IsCutAt 47 path before behind → steps_of path ≡ before ∷ steps_of behind
steps_cut path before behind cut = ap steps_of cut.0 ∙ steps_there before behind cut.1

pub one_step : (path : List ℕ) → HasNo 47 path → steps_of path ≡ path ∷ []
one_step [] none = refl
one_step (b ∷ path) none = cond-false (b == 47) _ _ (ne_eqb b 47 none.0) ∙ ap (onto_first b) (one_step path none.1)

and_true : (b : Bool) → (b && true) ≡ b
and_true true = refl
and_true false = refl

pub goes_on : (path rest before behind : List ℕ) → IsCutAt 47 rest before behind → leads_down before ≡ true → stays_below path ≡ stays_below rest → stays_below path ≡ stays_below behind
goes_on path rest before behind cut leads so_far =
    so_far ∙ ap (list_all leads_down) (steps_cut rest before behind cut) ∙ ap (λ b. b && stays_below behind) leads

pub goes_astray : (path rest before behind : List ℕ) → IsCutAt 47 rest before behind → leads_down before ≡ false → stays_below path ≡ stays_below rest → stays_below path ≡ false
goes_astray path rest before behind cut leads so_far =
    so_far ∙ ap (list_all leads_down) (steps_cut rest before behind cut) ∙ ap (λ b. b && stays_below behind) leads

pub last_step : (path rest : List ℕ) → HasNo 47 rest → stays_below path ≡ stays_below rest → leads_down rest ≡ stays_below path
last_step path rest none so_far = sym (so_far ∙ ap (list_all leads_down) (one_step rest none) ∙ and_true (leads_down rest))

-- ---- the tests decide

some_byte : (step : List ℕ) → not (is_empty step) ≡ true → step ≢ []
some_byte [] h = cc
some_byte (b ∷ rest) h = λ e. cc

byte_some : (step : List ℕ) → step ≢ [] → not (is_empty step) ≡ true
byte_some [] h = absurd (h refl)
byte_some (b ∷ rest) h = refl

no_zero : (step : List ℕ) → list_any (λ b. b == 0) step ≡ false → All (λ b. b ≢ 0) step
no_zero [] h = All-nil (λ b. b ≢ 0)
no_zero (b ∷ rest) h =
    let parts = or_parts (b == 0) (list_any (λ b. b == 0) rest) h in
    All-cons (λ b. b ≢ 0) b rest (eqb-false b 0 parts.0) (no_zero rest parts.1)

other : (step text : List ℕ) → bytes_eq step text ≡ false → step ≢ text
other step text differs same = both_ways (bytes_eq step text) differs ((bytes_eq-Decides step text).1 same)

differing : (step text : List ℕ) → step ≢ text → bytes_eq step text ≡ false
differing step text others = by (bytes_eq step text) refl
  where
    by : (b : Bool) → bytes_eq step text ≡ b → bytes_eq step text ≡ false
    by true is = absurd (others ((bytes_eq-Decides step text).0 is))
    by false is = is

leading : (step : List ℕ) → leads_down step ≡ true → LeadsDown step
leading step says =
    let first = and_parts (not (is_empty step)) (not (is_dots step) && not (list_any (λ b. b == 0) step)) says in
    let rest = and_parts (not (is_dots step)) (not (list_any (λ b. b == 0) step)) first.1 in
    let dots = or_parts (bytes_eq step (codes ".")) (bytes_eq step (codes "..")) (not-true (is_dots step) rest.0) in
    record {
      some = some_byte step first.0;
      other = other step (codes ".") dots.0;
      down = other step (codes "..") dots.1;
      zero_free = no_zero step (not-true (list_any (λ b. b == 0) step) rest.1);
    }

led : (step : List ℕ) → LeadsDown step → leads_down step ≡ true
led step is =
    and_from _ _ (byte_some step is.some)
    (and_from _ _ (not_from_false (is_dots step) (or_from _ _ (differing step (codes ".") is.other) (differing step (codes "..") is.down)))
    (not_from_false (list_any (λ b. b == 0) step) (list_any_none (λ b. b == 0) step (All-weaker (λ b. b ≢ 0) (λ b. (b == 0) ≡ false) (λ b h. ne_eqb b 0 h) step is.zero_free))))

pub stays : (path : List ℕ) → stays_below path ≡ true → StaysBelow path
stays path says = All-weaker (λ s. leads_down s ≡ true) LeadsDown leading (steps_of path) (AllPass-from_list_all leads_down (steps_of path) says)

stayed : (path : List ℕ) → StaysBelow path → stays_below path ≡ true
stayed path is = list_all-from_AllPass leads_down (steps_of path) (All-weaker LeadsDown (λ s. leads_down s ≡ true) led (steps_of path) is)

pub strays : (path : List ℕ) → stays_below path ≡ false → ¬ StaysBelow path
strays path says is = both_ways (stays_below path) says (stayed path is)

pub stays_decides : (path : List ℕ) → IsTrue (stays_below path) ↔ StaysBelow path
stays_decides path = (stays path, stayed path)
