-- Parts of parts of a buffer.
use Rattle.std.proofs.Common.{◌≡◌, ℕ, ◌+◌, ◌-◌, ◌≤◌, List, length, take, drop, sym, ap, subst, ◌∙◌, arith}
use Rattle.std.specs.List.{slice_range}
use Rattle.std.proofs.Math.Nat.{min-le_left}
use Rattle.std.proofs.lemmas.List.{drop-drop, drop-take, length-take, take-take}

-- A part of a part is a part of the whole.
part_of_part : (xs : List ℕ) (start end from to : ℕ) → from ≤ to → to ≤ end - start
    → slice_range xs (start + from) (start + to) ≡ slice_range (slice_range xs start end) from to
part_of_part xs start end from to order inside =
    ap (λ count. take count (drop (start + from) xs)) (omega arith)
    ∙ ap (take (to - from)) (sym (drop-drop from start xs))
    ∙ sym (take-take (to - from) (end - start - from) (drop from (drop start xs)) (omega arith))
    ∙ ap (take (to - from)) (sym (drop-take from (end - start - from) (drop start xs)))
    ∙ ap (λ count. take (to - from) (drop from (take count (drop start xs)))) (omega arith)

no_longer : (xs : List ℕ) (start end to : ℕ) → to ≤ length (slice_range xs start end) → to ≤ end - start
no_longer xs start end to inside =
    let long = length-take (end - start) (drop start xs) in
    let least = min-le_left (end - start) (length (drop start xs)) in
    omega arith

-- A part of a text, in a buffer with the same bytes.
pub part_of_text : (xs ys text : List ℕ) (start end from to : ℕ) → ys ≡ xs → slice_range xs start end ≡ text → from ≤ to → to ≤ length text
    → slice_range ys (start + from) (start + to) ≡ slice_range text from to
part_of_text xs ys text start end from to same is order inside =
    ap (λ zs. slice_range zs (start + from) (start + to)) same
    ∙ part_of_part xs start end from to order (no_longer xs start end to (subst (λ zs. to ≤ length zs) (sym is) inside))
    ∙ ap (λ zs. slice_range zs from to) is
