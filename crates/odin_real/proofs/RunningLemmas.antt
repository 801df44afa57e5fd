-- Lists of child programs, and what runs by them.
use Rattle.std.proofs.Common.{◌≡◌, ◌≢◌, ◌∙◌, ◌<◌, ℕ, List, [], ◌∷◌, map, length, get_or, sym, ap, ap₂, subst, arith}
use Rattle.std.specs.Prelude.{Any}
use Rattle.std.proofs.lemmas.List.{length-map, get_or-map, get_or_default}
use Rattle.odin_outside.specs.declared.events.Running.{Running}
use Rattle.odin_outside.specs.Causes.{IsCounted}
use Rattle.odin_outside.specs.Spawned.{Fails}
use Rattle.odin_real.specs.Told.{children_view}

pub any_to_map : {X Y : Type 0} (f : X → Y) (P : Y → Type 0) (xs : List X) → Any (λ x. P (f x)) xs → Any P (map f xs)
any_to_map f P xs (k, x, inside, at, holds) =
    (k, f x, subst (λ n. k < n) (sym (length-map xs f)) inside, get_or-map f xs k x (f x) inside ∙ ap f at, holds)

pub any_of_map : {X Y : Type 0} (f : X → Y) (P : Y → Type 0) (xs : List X) → Any P (map f xs) → Any (λ x. P (f x)) xs
any_of_map f P [] (k, y, inside, at, holds) = absurd (omega (arith, inside))
any_of_map f P (first ∷ xs) (k, y, inside, at, holds) =
    let within : k < length (first ∷ xs) = subst (λ n. k < n) (length-map (first ∷ xs) f) inside in (
      k,
      get_or (first ∷ xs) k first,
      within,
      get_or_default (first ∷ xs) k (get_or (first ∷ xs) k first) first within,
      subst P (sym at ∙ get_or-map f (first ∷ xs) k first y within) holds,
    )

-- the item at a place has another number
abbrev pub Misses : {X : Type 0} → (X → ℕ) → List X → ℕ → ℕ → Type 0
Misses {X} f xs number k = (x : X) → get_or xs k x ≡ x → f x ≢ number

pub misses_here : {X : Type 0} (f : X → ℕ) (xs : List X) (number k : ℕ) (item : X) → k < length xs → item ≡ get_or xs k item → f item ≢ number → Misses f xs number k
misses_here f xs number k item inside is other = λ x at same. other (ap f (is ∙ get_or_default xs k item x inside ∙ at) ∙ same)

pub none_has : {X : Type 0} (f : X → ℕ) (xs : List X) (number : ℕ) → ((k : ℕ) → k < length xs → Misses f xs number k) → Any (λ x. f x ≡ number) xs → ⊥
none_has f xs number misses (k, x, inside, at, same) = misses k inside x at same

-- what is told where nothing happened but a fault
pub fails : (running running' : List Running) (starts starts' before now : ℕ) → running' ≡ running → starts' ≡ starts → IsCounted before now → Fails (children_view running starts before) (children_view running' starts' now)
fails running running' starts starts' before now same_running same_starts counted = record { counted = counted; is = ap₂ (λ r s. children_view r s now) same_running same_starts }
