-- The last step of a list and the steps before it, by places.
use Rattle.std.proofs.Common.{◌≡◌, ◌-◌, suc, List, [], ◌∷◌, sym, ap, ◌∙◌, refl, length, take, slice_get, arith}
use Rattle.object_values.specs.declared.nodes.Step.{Step}
use Rattle.meaning_tasks.specs.Nodes.{before_last, last_step}

pub last_got : (steps : List Step) → slice_get steps (length steps - 1) ≡ last_step steps
last_got [] = refl
last_got (s ∷ []) = refl
last_got (s ∷ t ∷ steps) =
    let fewer : length (s ∷ t ∷ steps) - 1 ≡ suc (length steps) = omega arith in
    let less : length (t ∷ steps) - 1 ≡ length steps = omega arith in
    ap (slice_get (s ∷ t ∷ steps)) fewer ∙ ap (slice_get (t ∷ steps)) (sym less) ∙ last_got (t ∷ steps)

pub before_taken : (steps : List Step) → take (length steps - 1) steps ≡ before_last steps
before_taken [] = refl
before_taken (s ∷ []) = refl
before_taken (s ∷ t ∷ steps) =
    let fewer : length (s ∷ t ∷ steps) - 1 ≡ suc (length steps) = omega arith in
    let less : length steps ≡ length (t ∷ steps) - 1 = omega arith in
    ap (λ k. take k (s ∷ t ∷ steps)) fewer ∙ ap (λ k. s ∷ take k (t ∷ steps)) less ∙ ap (λ l. s ∷ l) (before_taken (t ∷ steps))
