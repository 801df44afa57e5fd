-- What is found among names, with one more of them.
use Rattle.std.proofs.Common.{◌≡◌, ◌<◌, ◌≤◌, ℕ, ◌+◌, Bool, true, false, ◌&&◌, ◌||◌, List, [], ◌∷◌, ◌++◌, Option, Some, None, refl, ap, subst, ◌∙◌, arith}
use Rattle.std.specs.Prelude.{nat_le, if◌then◌else◌}
use Rattle.std.specs.List.{All, find, list_any}
use Rattle.std.specs.Option.{option_or}
use Rattle.std.proofs.lemmas.Bool.{ltb-true, ltb-false, lt-leb, le-leb}
use Rattle.std.proofs.lemmas.List.Elements.{All-append, All-cons, All-nil, All-tail}
use Rattle.std.proofs.lemmas.List.Folds.{find-append, list_any-append}
use Rattle.near_names.specs.Nearest.{distance, is_near, is_as_near, is_nearer, IsNearest, IsSoFar}

-- ---- how far one name is

pub no_reach : (b : Bool) (n : ℕ) → (if b then Some n else None) ≡ None → b ≡ false
no_reach true n is = grind arith
no_reach false n is = refl

pub reach_near : (b : Bool) (n m : ℕ) → (if b then Some n else None) ≡ Some m → b ≡ true
reach_near true n m is = refl
reach_near false n m is = grind arith

pub reach_is : (b : Bool) (n m : ℕ) → (if b then Some n else None) ≡ Some m → m ≡ n
reach_is true n m is = grind arith
reach_is false n m is = grind arith

-- ---- lists with one more

-- the first that was found stays the first
find_kept : {X : Type 0} (p : X → Bool) (xs : List X) (x f : X) → find p xs ≡ Some f → find p (xs ++ x ∷ []) ≡ Some f
find_kept p xs x f found = find-append p xs (x ∷ []) ∙ ap (λ o. option_or o (find p (x ∷ []))) found

-- where none was found before it the new one is
find_new : {X : Type 0} (p : X → Bool) (xs : List X) (x : X) → find p xs ≡ None → p x ≡ true → find p (xs ++ x ∷ []) ≡ Some x
find_new p xs x none here = find-append p xs (x ∷ []) ∙ ap (λ o. option_or o (find p (x ∷ []))) none ∙ ap (λ b. if b then Some x else None) here

any_more : {X : Type 0} (p : X → Bool) (xs : List X) (x : X) → list_any p xs ≡ false → p x ≡ false → list_any p (xs ++ x ∷ []) ≡ false
any_more p xs x none here = list_any-append p xs (x ∷ []) ∙ ap (λ b. b || (p x || false)) none ∙ ap (λ b. b || false) here

all_more : {X : Type 0} (P : X → Type 0) (xs : List X) (x : X) → All P xs → P x → All P (xs ++ x ∷ [])
all_more P xs x before here = All-append P xs (x ∷ []) before (All-cons P x [] here (All-nil P))

-- the first of a list isn't as near where it isn't near, or where it is farther
not_as_near : (b : Bool) (n m k : ℕ) → m < n → (b ≡ true → n ≤ k) → (b && nat_le k m) ≡ false
not_as_near true n m k less far = lt-leb k m (omega (arith, less, far refl))
not_as_near false n m k less far = refl

-- of those that are farther none is as near
none_as_near : {X : Type 0} (p : X → Bool) (d : X → ℕ) (n m : ℕ) (xs : List X) → m < n → All (λ x. p x ≡ true → n ≤ d x) xs → find (λ x. p x && nat_le (d x) m) xs ≡ None
none_as_near p d n m [] less far = refl
none_as_near p d n m (x ∷ xs) less far =
    ap (λ b. if b then Some x else find (λ x. p x && nat_le (d x) m) xs) (not_as_near (p x) n m (d x) less (far 0 x (omega arith)))
    ∙ none_as_near p d n m xs less (All-tail (λ x. p x ≡ true → n ≤ d x) x xs far)

or_first : (a b : Bool) → (a || b) ≡ false → a ≡ false
or_first false b is = refl
or_first true b is = is

or_rest : (a b : Bool) → (a || b) ≡ false → b ≡ false
or_rest false b is = is
or_rest true b is = grind arith

-- where none is near each is as far as one likes
all_far : {X : Type 0} (p : X → Bool) (d : X → ℕ) (n : ℕ) (xs : List X) → list_any p xs ≡ false → All (λ x. p x ≡ true → n ≤ d x) xs
all_far p d n [] none = All-nil (λ x. p x ≡ true → n ≤ d x)
all_far p d n (x ∷ xs) none =
    let not_here = or_first (p x) (list_any p xs) none in
    All-cons (λ x. p x ≡ true → n ≤ d x) x xs (λ here. grind (arith, here, not_here)) (all_far p d n xs (or_rest (p x) (list_any p xs) none))

-- farther ones are farther than what is nearer
all_above : {X : Type 0} (p : X → Bool) (d : X → ℕ) (n m : ℕ) (xs : List X) → m ≤ n → All (λ x. p x ≡ true → n ≤ d x) xs → All (λ x. p x ≡ true → m ≤ d x) xs
all_above p d n m xs less far = λ k x inside here. omega (arith, less, far k x inside here)

-- ---- what is found so far, with one more

-- one that isn't near
pub step_far : (word : List ℕ) (seen : List (List ℕ)) (best : Option (List ℕ × ℕ)) (name : List ℕ) → is_near word name ≡ false
    → IsSoFar word seen best → IsSoFar word (seen ++ name ∷ []) best
step_far word seen None name far none = any_more (is_near word) seen name none far
step_far word seen (Some near) name far so = (
  so.0,
  record {
    near = so.1.near;
    least = all_more (λ x. is_near word x ≡ true → distance word near.0 ≤ distance word x) seen name so.1.least (λ here. grind (arith, here, far));
    first = find_kept (is_as_near word near.0) seen name near.0 so.1.first;
  },
)

-- one that is no nearer
pub step_kept : (word : List ℕ) (seen : List (List ℕ)) (best : Option (List ℕ × ℕ)) (name : List ℕ) → is_nearer (distance word name) best ≡ false
    → IsSoFar word seen best → IsSoFar word (seen ++ name ∷ []) best
step_kept word seen None name far none = grind (arith, far)
step_kept word seen (Some near) name far so = (
  so.0,
  record {
    near = so.1.near;
    least = all_more (λ x. is_near word x ≡ true → distance word near.0 ≤ distance word x) seen name so.1.least
        (λ here. subst (λ n. n ≤ distance word name) so.0 (ltb-false (distance word name) near.1 far));
    first = find_kept (is_as_near word near.0) seen name near.0 so.1.first;
  },
)

-- the first that is near, or one that is nearer
new_is_nearest : (word : List ℕ) (seen : List (List ℕ)) (name : List ℕ) (n : ℕ) → is_near word name ≡ true → distance word name < n
    → All (λ x. is_near word x ≡ true → n ≤ distance word x) seen → IsNearest word (seen ++ name ∷ []) name
new_is_nearest word seen name n near less far = record {
  near = near;
  least = all_more (λ x. is_near word x ≡ true → distance word name ≤ distance word x) seen name
      (all_above (is_near word) (distance word) n (distance word name) seen (omega (arith, less)) far) (λ here. omega arith);
  first = find_new (is_as_near word name) seen name (none_as_near (is_near word) (distance word) n (distance word name) seen less far)
      (ap (λ b. b && nat_le (distance word name) (distance word name)) near ∙ le-leb (distance word name) (distance word name) (omega arith));
}

pub step_nearer : (word : List ℕ) (seen : List (List ℕ)) (best : Option (List ℕ × ℕ)) (name : List ℕ) → is_near word name ≡ true
    → is_nearer (distance word name) best ≡ true → IsSoFar word seen best → IsNearest word (seen ++ name ∷ []) name
step_nearer word seen None name near less none =
    new_is_nearest word seen name (distance word name + 1) near (omega arith) (all_far (is_near word) (distance word) (distance word name + 1) seen none)
step_nearer word seen (Some before) name near less so =
    new_is_nearest word seen name (distance word before.0) near
    (subst (λ n. distance word name < n) so.0 (ltb-true (distance word name) before.1 less)) so.1.least
