-- What is added at the end in turn.
use Rattle.std.proofs.Common.{◌≡◌, List, ℕ, ◌++◌, ap, ◌∙◌, append_assoc, Result, Ok, Err, OnOk}

-- a first part and the rest
pub then : {mid new : List ℕ} (out part rest : List ℕ) → mid ≡ out ++ part → new ≡ mid ++ rest → new ≡ out ++ (part ++ rest)
then out part rest first next = next ∙ ap (λ l. l ++ rest) first ∙ append_assoc out part rest

-- where it succeeds
pub on_ok : {A E P Q : Type 0} (r : Result A E) → (P → Q) → OnOk r P → OnOk r Q
on_ok (Ok x) step holds = step holds
on_ok (Err e) step holds = tt
