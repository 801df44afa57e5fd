-- The looks at a chain that is followed down.
use Rattle.std.proofs.Common.{◌≡◌, ℕ, suc, ◌+◌, ◌≤◌, ◌-◌, List, [], ◌∷◌, ◌++◌, sym, ap, ◌∙◌, subst, refl, length, slice_get, arith}
use Rattle.std.specs.Prelude.{Some, Bool, Result, Ok, Err, IfOk, IsErrAnd}
use Rattle.object_values.specs.declared.nodes.Node.{Node}
use Rattle.meaning_texts.proofs.Lemmas.{same_some}
use Rattle.derive_walk.specs.Looks.{IsLonger, StepsDown, look_beyond, looks_beyond, last_beyond}
use Rattle.derive_walk.specs.Places.{Lookups}
use Rattle.derive_walk.proofs.LookedLemmas.{one_at_most}

module _ (looked : Lookups) where
  -- ---- the look at the last node of a chain

  pub last_is : (chain : List Node) (n : Node) → Some n ≡ slice_get chain (length chain - 1) → last_beyond looked chain ≡ look_beyond looked n
  last_is [] n got = cc
  last_is (m ∷ []) n got = sym (ap (look_beyond looked) (same_some got))
  last_is (m ∷ k ∷ chain) n got =
      let fewer : length (m ∷ k ∷ chain) - 1 ≡ suc (length (k ∷ chain) - 1) = omega arith in
      last_is (k ∷ chain) n (got ∙ ap (slice_get (m ∷ k ∷ chain)) fewer)

  pub last_few : (chain : List Node) → last_beyond looked chain ≤ 1
  last_few [] = omega arith
  last_few (n ∷ []) = one_at_most looked n
  last_few (n ∷ m ∷ chain) = last_few (m ∷ chain)

  pub last_among : (chain : List Node) → last_beyond looked chain ≤ looks_beyond looked chain
  last_among [] = omega arith
  last_among (n ∷ []) = omega arith
  last_among (n ∷ m ∷ chain) = omega (arith, last_among (m ∷ chain))

  -- ---- one node more

  last_push : (chain : List Node) (n : Node) → last_beyond looked (chain ++ n ∷ []) ≡ look_beyond looked n
  last_push [] n = refl
  last_push (m ∷ []) n = refl
  last_push (m ∷ k ∷ chain) n = last_push (k ∷ chain) n

  looks_push : (chain : List Node) (n : Node) → looks_beyond looked (chain ++ n ∷ []) ≡ looks_beyond looked chain + look_beyond looked n
  looks_push [] n = omega arith
  looks_push (m ∷ chain) n = omega (arith, looks_push chain n)

  pub longer_looks : (old new : List Node) (n : Node) → new ≡ old ++ n ∷ [] → looks_beyond looked new ≡ looks_beyond looked old + last_beyond looked new
  longer_looks old new n same =
      subst (λ l. looks_beyond looked l ≡ looks_beyond looked old + last_beyond looked l) (sym same) (omega (arith, looks_push old n, last_push old n))

  -- ---- one step

  pub steps_down : {E : Type 0} (old new : List Node) (last : Node) (before now : ℕ) → Some last ≡ slice_get old (length old - 1)
      → now ≡ before + look_beyond looked last → (result : Result Bool E) → IfOk result (λ more. IsLonger more old new) → StepsDown looked old new before now result
  steps_down old new last before now got counted result one = record {
    later = omega (arith, counted);
    most = omega (arith, counted, last_is old last got);
    one = one;
  }

-- nothing holds of what came well where it didn't
pub never_ok : {T E : Type 0} (result : Result T E) (P : T → Type 0) (Q : E → Type 0) → IsErrAnd result Q → IfOk result P
never_ok (Ok value) P Q lost = absurd lost
never_ok (Err fault) P Q lost = tt
