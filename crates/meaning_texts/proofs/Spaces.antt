-- A name and so many spaces: each front of it can go on, up to the limit.
use Rattle.std.proofs.Common.{◌≡◌, ℕ, zero, suc, List, [], ◌∷◌, ◌++◌, length, take, replicate, refl, ap, arith, append-nil}
use Rattle.std.specs.Prelude.{codes}
use Rattle.meaning_texts.specs.Classes.{is_name_byte}
use Rattle.meaning_texts.specs.Limits.{expression_limit}
use Rattle.meaning_texts.specs.Expressions.{Items, no_more, space, IsFront, past_limit, IsFaultPlace}
use Rattle.meaning_texts.proofs.Words.{word_decides}

-- these bytes and further ones are the name `a` and spaces
front_a : {bytes : List ℕ} (more behind : List ℕ) → bytes ++ more ≡ 97 ∷ behind → Items behind [] [] → IsFront bytes
front_a more behind is items = record { more = more; source = codes "a"; params = []; steps = []; written = record { spaces = 0; behind = behind; is = is; name = (word_decides is_name_byte (codes "a")).0 refl; items = items } }

spaces_items : (n k : ℕ) → Items (take n (replicate k 32)) [] []
spaces_items zero k = no_more
spaces_items (suc n) zero = no_more
spaces_items (suc n) (suc k) = space (take n (replicate k 32)) [] [] (spaces_items n k)

front_spaces : (k n : ℕ) → IsFront (take n (97 ∷ replicate k 32))
front_spaces k zero = front_a (codes "a") [] refl no_more
front_spaces k (suc n) = front_a [] (take n (replicate k 32)) (append-nil (97 ∷ take n (replicate k 32))) (spaces_items n k)

length_spaces : (k : ℕ) → length {A = ℕ} (replicate k 32) ≡ k
length_spaces zero = refl
length_spaces (suc k) = ap (λ n. suc n) (length_spaces k)

too_long_by : (k : ℕ) → k ≡ expression_limit → IsFaultPlace (97 ∷ replicate k 32) 1001
too_long_by k e = record { counted = omega arith; before = λ n low. front_spaces k n; within = omega arith; there = (let l : length {A = ℕ} (replicate k 32) ≡ k = length_spaces k in past_limit (omega arith) (omega arith)) }

pub too_long : IsFaultPlace (97 ∷ replicate 1000 32) 1001
too_long = too_long_by 1000 refl
