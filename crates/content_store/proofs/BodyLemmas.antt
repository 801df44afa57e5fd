-- The place of a body, and lists with one body more.
use Rattle.std.proofs.Common.{◌≡◌, ℕ, zero, suc, Bool, true, false, cond, List, [], ◌∷◌, ◌++◌, ◌⊎◌, inl, inr, length, append-nil, ap, sym, ◌∙◌, subst, refl, true≢false}
use Rattle.std.specs.Prelude.{◌↔◌, Option, Some, None, is_some, option_map, slice_get, nat_eq}
use Rattle.std.specs.Cmp.Lexicographic.{pointwise, bytes_decides}
use Rattle.std.proofs.lemmas.Option.{none-some, same_Some}
use Rattle.content_store.specs.Bodies.{Bodies, EachBodyOnce, place_of_body, with_body}

-- ---- where a body stands

pub place_stands : (body : List ℕ) (bodies : Bodies) (i : ℕ) → place_of_body body bodies ≡ Some i → slice_get bodies i ≡ Some body
place_stands body [] i e = absurd (none-some i e)
place_stands body (b ∷ bodies) i e = by_test (pointwise nat_eq body b) refl (place_of_body body bodies) (place_stands body bodies) e
  where
    by_test : (t : Bool) → pointwise nat_eq body b ≡ t → (o : Option ℕ) → ((j : ℕ) → o ≡ Some j → slice_get bodies j ≡ Some body) → cond t (Some 0) (option_map suc o) ≡ Some i → slice_get (b ∷ bodies) i ≡ Some body
    by_test true same o below e = subst (λ k. slice_get (b ∷ bodies) k ≡ Some body) (same_Some 0 i e) (ap Some (sym ((bytes_decides body b).0 same)))
    by_test false apart None below e = absurd (none-some i e)
    by_test false apart (Some j) below e = subst (λ k. slice_get (b ∷ bodies) k ≡ Some body) (same_Some (suc j) i e) (below j refl)

pub none_nowhere : (body : List ℕ) (bodies : Bodies) (i : ℕ) → place_of_body body bodies ≡ None → slice_get bodies i ≡ Some body → ⊥
none_nowhere body [] i e h = none-some body h
none_nowhere body (b ∷ bodies) i e h = by_test (pointwise nat_eq body b) refl (place_of_body body bodies) (none_nowhere body bodies) e i h
  where
    by_test : (t : Bool) → pointwise nat_eq body b ≡ t → (o : Option ℕ) → ((j : ℕ) → o ≡ None → slice_get bodies j ≡ Some body → ⊥) → cond t (Some 0) (option_map suc o) ≡ None → (i : ℕ) → slice_get (b ∷ bodies) i ≡ Some body → ⊥
    by_test true same o below e i h = none-some 0 (sym e)
    by_test false apart (Some j) below e i h = none-some (suc j) (sym e)
    by_test false apart None below e zero h = true≢false (sym ((bytes_decides body b).1 (sym (same_Some b body h))) ∙ apart)
    by_test false apart None below e (suc i) h = below i refl h

pub nowhere_none : (body : List ℕ) (bodies : Bodies) → ((i : ℕ) → slice_get bodies i ≡ Some body → ⊥) → place_of_body body bodies ≡ None
nowhere_none body bodies nowhere = (elim (place_of_body body bodies) as (λ o. place_of_body body bodies ≡ o → place_of_body body bodies ≡ None) [
  | None ↦ λ e. e
  | Some i ↦ λ e. absurd (nowhere i (place_stands body bodies i e))
]) refl

pub stands_place : (body : List ℕ) (bodies : Bodies) (i : ℕ) → EachBodyOnce bodies → slice_get bodies i ≡ Some body → place_of_body body bodies ≡ Some i
stands_place body bodies i once h = (elim (place_of_body body bodies) as (λ o. place_of_body body bodies ≡ o → place_of_body body bodies ≡ Some i) [
  | None ↦ λ e. absurd (none_nowhere body bodies i e h)
  | Some j ↦ λ e. e ∙ ap Some (once j i body (place_stands body bodies j e) h)
]) refl

-- ---- more bodies

pub place_kept : (body : List ℕ) (bodies more : Bodies) (i : ℕ) → place_of_body body bodies ≡ Some i → place_of_body body (bodies ++ more) ≡ Some i
place_kept body [] more i e = absurd (none-some i e)
place_kept body (b ∷ bodies) more i e = by_test (pointwise nat_eq body b) (place_of_body body bodies) (place_kept body bodies more) e
  where
    by_test : (t : Bool) (o : Option ℕ) → ((j : ℕ) → o ≡ Some j → place_of_body body (bodies ++ more) ≡ Some j) → cond t (Some 0) (option_map suc o) ≡ Some i → cond t (Some 0) (option_map suc (place_of_body body (bodies ++ more))) ≡ Some i
    by_test true o below e = e
    by_test false None below e = absurd (none-some i e)
    by_test false (Some j) below e = ap (option_map suc) (below j refl) ∙ e

pub place_new : (body : List ℕ) (bodies : Bodies) → place_of_body body bodies ≡ None → place_of_body body (bodies ++ body ∷ []) ≡ Some (length bodies)
place_new body [] e = ap (λ t. cond t (Some 0) None) ((bytes_decides body body).1 refl)
place_new body (b ∷ bodies) e = by_test (pointwise nat_eq body b) (place_of_body body bodies) (place_new body bodies) e
  where
    by_test : (t : Bool) (o : Option ℕ) → (o ≡ None → place_of_body body (bodies ++ body ∷ []) ≡ Some (length bodies)) → cond t (Some 0) (option_map suc o) ≡ None → cond t (Some 0) (option_map suc (place_of_body body (bodies ++ body ∷ []))) ≡ Some (suc (length bodies))
    by_test true o below e = absurd (none-some 0 (sym e))
    by_test false (Some j) below e = absurd (none-some (suc j) (sym e))
    by_test false None below e = ap (option_map suc) (below refl)

-- what stands in a list with one body more
pub last_stands : (bodies : Bodies) (b body : List ℕ) (i : ℕ) → slice_get (bodies ++ b ∷ []) i ≡ Some body → (slice_get bodies i ≡ Some body) ⊎ ((i ≡ length bodies) × (body ≡ b))
last_stands [] b body zero h = inr (refl, sym (same_Some b body h))
last_stands [] b body (suc i) h = absurd (none-some body h)
last_stands (x ∷ bodies) b body zero h = inl h
last_stands (x ∷ bodies) b body (suc i) h = elim (last_stands bodies b body i h) [ inl before ↦ inl before | inr last ↦ inr (ap suc last.0, last.1) ]

pub once_more : (bodies : Bodies) (b : List ℕ) → EachBodyOnce bodies → place_of_body b bodies ≡ None → EachBodyOnce (bodies ++ b ∷ [])
once_more bodies b once fresh i j body at_i at_j = elim (last_stands bodies b body i at_i) [
  | inl i_before ↦ elim (last_stands bodies b body j at_j) [
    | inl j_before ↦ once i j body i_before j_before
    | inr j_last ↦ absurd (none_nowhere b bodies i fresh (i_before ∙ ap Some j_last.1))
  ]
  | inr i_last ↦ elim (last_stands bodies b body j at_j) [
    | inl j_before ↦ absurd (none_nowhere b bodies j fresh (j_before ∙ ap Some i_last.1))
    | inr j_last ↦ i_last.0 ∙ sym j_last.0
  ]
]

pub body_kept : (bodies later : Bodies) (body : List ℕ) (i : ℕ) → slice_get bodies i ≡ Some body → slice_get (bodies ++ later) i ≡ Some body
body_kept [] later body i h = absurd (none-some body h)
body_kept (x ∷ bodies) later body zero h = h
body_kept (x ∷ bodies) later body (suc i) h = body_kept bodies later body i h

pub goes_behind : (body : List ℕ) (bodies : Bodies) → (later : Bodies) × (with_body body bodies ≡ bodies ++ later)
goes_behind body bodies = elim (is_some (place_of_body body bodies)) as (λ t. (later : Bodies) × (cond t bodies (bodies ++ body ∷ []) ≡ bodies ++ later)) [
  | true ↦ ([], sym (append-nil bodies))
  | false ↦ (body ∷ [], refl)
]

-- ---- the laws

pub exact : (bodies more : Bodies) (a b : List ℕ) (m n : ℕ) → place_of_body a bodies ≡ Some m → place_of_body b (bodies ++ more) ≡ Some n → (m ≡ n) ↔ (a ≡ b)
exact bodies more a b m n at_m at_n =
    let kept = place_kept a bodies more m at_m in (
      λ same. same_Some a b (sym (place_stands a (bodies ++ more) m kept) ∙ ap (slice_get (bodies ++ more)) same ∙ place_stands b (bodies ++ more) n at_n),
      λ same. same_Some m n (sym kept ∙ ap (λ body. place_of_body body (bodies ++ more)) same ∙ at_n),
    )
