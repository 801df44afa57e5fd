-- Paths with one more step, and the pieces of a text.
use Rattle.std.proofs.Common.{◌≡◌, ◌≢◌, ◌⊎◌, inl, inr, ℕ, Bool, true, false, not, cond, List, [], ◌∷◌, ◌++◌, sym, ap, ◌∙◌, subst, refl, append_assoc, append-nil, codes}
use Rattle.std.specs.Prelude.{◌==◌, All, flat_map, filter, bytes_eq}
use Rattle.std.proofs.lemmas.Bool.{and_parts, cond-true, cond-false, ne_eqb}
use Rattle.std.proofs.lemmas.Grind.{flat_map-append}
use Rattle.std.proofs.lemmas.List.Elements.{All-nil, All-cons, All-head, All-append}
use Rattle.std.proofs.lemmas.Slice.Eq.{bytes_eq-Decides}
use Rattle.meaning_texts.specs.Lists.{HasNo, is_empty}
use Rattle.build_files.specs.Paths.{IsStep, path_of_steps, path_of, IsTidy, with_byte_before, pieces, leads, begins_at_root, tidied, AddsStep, AddsPiece}

-- ---- one more step

abbrev slashed : List ℕ → List ℕ
slashed step = 47 ∷ step

more_steps : (first step : List ℕ) (others : List (List ℕ)) → path_of_steps (first ∷ (others ++ step ∷ [])) ≡ (path_of_steps (first ∷ others) ++ 47 ∷ []) ++ step
more_steps first step others =
    ap (λ l. first ++ l) (flat_map-append slashed others (step ∷ []) ∙ ap (λ l. flat_map slashed others ++ l) (append-nil (47 ∷ step)))
    ∙ sym (append_assoc first (flat_map slashed others) (47 ∷ step))
    ∙ sym (append_assoc (first ++ flat_map slashed others) (47 ∷ []) step)

no_byte : (first : List ℕ) (others : List (List ℕ)) → IsStep first → path_of_steps (first ∷ others) ≢ []
no_byte [] others step is = step.some refl
no_byte (b ∷ first) others step is = cc

no_slash : (first : List ℕ) (others : List (List ℕ)) → IsStep first → path_of_steps (first ∷ others) ≢ 47 ∷ []
no_slash [] others step is = step.some refl
no_slash (b ∷ first) others step is = let slash : b ≡ 47 = cc in step.slashless.0 slash

pub first_step : (step : List ℕ) → AddsStep [] step step
first_step step true steps are is = absurd (let clash : ⊥ = cc in clash)
first_step step false [] are is = sym (append-nil step)
first_step step false (first ∷ others) are is = absurd (no_byte first others (All-head IsStep first others are) (sym is))

behind_slash : (rest : List ℕ) → 47 ∷ [] ≡ 47 ∷ rest → [] ≡ rest
behind_slash rest is = cc

pub step_at_root : (step : List ℕ) → AddsStep (47 ∷ []) ((47 ∷ []) ++ step) step
step_at_root step true [] are is = ap (λ l. 47 ∷ l) (sym (append-nil step))
step_at_root step true (first ∷ others) are is = absurd (no_byte first others (All-head IsStep first others are) (sym (behind_slash _ is)))
step_at_root step false [] are is = absurd (let clash : ⊥ = cc in clash)
step_at_root step false (first ∷ others) are is = absurd (no_slash first others (All-head IsStep first others are) (sym is))

pub step_behind : (path step : List ℕ) → path ≢ [] → path ≢ 47 ∷ [] → AddsStep path ((path ++ 47 ∷ []) ++ step) step
step_behind path step some other true [] are is = absurd (other is)
step_behind path step some other false [] are is = absurd (some is)
step_behind path step some other true (first ∷ others) are is = ap (λ l. (l ++ 47 ∷ []) ++ step) is ∙ ap (λ l. 47 ∷ l) (sym (more_steps first step others))
step_behind path step some other false (first ∷ others) are is = ap (λ l. (l ++ 47 ∷ []) ++ step) is ∙ sym (more_steps first step others)

-- by what was put after the path
pub stepless : (path step new : List ℕ) → (path ≡ []) ⊎ (path ≡ codes "/") → new ≡ path ++ step → AddsStep path new step
stepless path step new (inl none) is = subst (λ l. AddsStep path l step) (sym is) (subst (λ p. AddsStep p (p ++ step) step) (sym none) (first_step step))
stepless path step new (inr root) is = subst (λ l. AddsStep path l step) (sym is) (subst (λ p. AddsStep p (p ++ step) step) (sym root) (step_at_root step))

pub stepped : (path step middle new : List ℕ) → (path ≢ []) × (path ≢ codes "/") → middle ≡ path ++ 47 ∷ [] → new ≡ middle ++ step → AddsStep path new step
stepped path step middle new other middle_is is =
    subst (λ l. AddsStep path l step) (sym (is ∙ ap (λ l. l ++ step) middle_is)) (step_behind path step other.0 other.1)

pub leading : (path new piece : List ℕ) → leads piece ≡ true → AddsStep path new piece → AddsPiece path new piece
leading path new piece says adds root steps are is = adds root steps are is ∙ ap (λ l. path_of root (steps ++ l)) (sym (cond-true (leads piece) (piece ∷ []) [] says))

pub not_leading : (path piece : List ℕ) → leads piece ≡ false → AddsPiece path path piece
not_leading path piece says root steps are is = is ∙ ap (path_of root) (sym (append-nil steps) ∙ ap (λ l. steps ++ l) (sym (cond-false (leads piece) (piece ∷ []) [] says)))

-- ---- the pieces of a text

pub pieces_cut : (piece behind : List ℕ) → HasNo 47 piece → pieces (piece ++ 47 ∷ behind) ≡ piece ∷ pieces behind
pieces_cut [] behind none = refl
pieces_cut (b ∷ piece) behind none =
    cond-false (b == 47) _ _ (ne_eqb b 47 none.0) ∙ ap (with_byte_before b) (pieces_cut piece behind none.1)

pub pieces_last : (piece : List ℕ) → HasNo 47 piece → pieces piece ≡ piece ∷ []
pieces_last [] none = refl
pieces_last (b ∷ piece) none = cond-false (b == 47) _ _ (ne_eqb b 47 none.0) ∙ ap (with_byte_before b) (pieces_last piece none.1)

filter_first : (piece : List ℕ) (others : List (List ℕ)) → filter leads (piece ∷ others) ≡ filter leads (piece ∷ []) ++ filter leads others
filter_first piece others = by (leads piece) refl
  where
    by : (b : Bool) → leads piece ≡ b → cond b (piece ∷ filter leads others) (filter leads others) ≡ cond b (piece ∷ []) [] ++ filter leads others
    by true is = refl
    by false is = refl

is_step : (piece : List ℕ) → HasNo 47 piece → leads piece ≡ true → IsStep piece
is_step piece none says =
    let both = and_parts (not (is_empty piece)) (not (bytes_eq piece (codes "."))) says in
    record { some = some piece both.0; slashless = none; other = other (bytes_eq piece (codes ".")) refl both.1 }
  where
    some : (piece : List ℕ) → not (is_empty piece) ≡ true → piece ≢ []
    some [] h = cc
    some (b ∷ rest) h = λ e. cc

    other : (b : Bool) → bytes_eq piece (codes ".") ≡ b → not b ≡ true → piece ≢ codes "."
    other true is h = cc
    other false is h = λ e. let same : bytes_eq piece (codes ".") ≡ true = (bytes_eq-Decides piece (codes ".")).1 e in cc

are_steps : (piece : List ℕ) → HasNo 47 piece → All IsStep (filter leads (piece ∷ []))
are_steps piece none = by (leads piece) refl
  where
    by : (b : Bool) → leads piece ≡ b → All IsStep (cond b (piece ∷ []) [])
    by true is = All-cons IsStep piece [] (is_step piece none is) (All-nil IsStep)
    by false is = All-nil IsStep

-- A path of the pieces so far, and what is left of the text.
pub record Walks (text path rest : List ℕ) : Type 0 where
  pub done : List (List ℕ)
  pub are : All IsStep done
  pub is : path ≡ path_of (begins_at_root text) done
  pub left : filter leads (pieces text) ≡ done ++ filter leads (pieces rest)

pub walks_from : (text path : List ℕ) → path ≡ path_of (begins_at_root text) [] → Walks text path text
walks_from text path is = record { done = []; are = All-nil IsStep; is = is; left = refl }

pub walks_on : (text path rest new piece behind : List ℕ) → Walks text path rest → rest ≡ piece ++ 47 ∷ behind → HasNo 47 piece → AddsPiece path new piece → Walks text new behind
walks_on text path rest new piece behind walks is none adds = record {
  done = walks.done ++ filter leads (piece ∷ []);
  are = All-append IsStep walks.done (filter leads (piece ∷ [])) walks.are (are_steps piece none);
  is = adds (begins_at_root text) walks.done walks.are walks.is;
  left = walks.left ∙ ap (λ l. walks.done ++ filter leads l) (ap pieces is ∙ pieces_cut piece behind none)
      ∙ ap (λ l. walks.done ++ l) (filter_first piece (pieces behind)) ∙ sym (append_assoc walks.done (filter leads (piece ∷ [])) (filter leads (pieces behind)));
}

pub walked : (text path rest new : List ℕ) → Walks text path rest → HasNo 47 rest → AddsPiece path new rest → new ≡ tidied text
unfolding tidied
walked text path rest new walks none adds =
    adds (begins_at_root text) walks.done walks.are walks.is
    ∙ ap (path_of (begins_at_root text)) (sym (walks.left ∙ ap (λ l. walks.done ++ filter leads l) (pieces_last rest none)))

pub walked_tidy : (text path rest new : List ℕ) → Walks text path rest → HasNo 47 rest → AddsPiece path new rest → IsTidy new
walked_tidy text path rest new walks none adds = record {
  root = begins_at_root text;
  steps = walks.done ++ filter leads (rest ∷ []);
  are_steps = All-append IsStep walks.done (filter leads (rest ∷ [])) walks.are (are_steps rest none);
  is = adds (begins_at_root text) walks.done walks.are walks.is;
}
