-- What a closure's calls tell, by how it is kept.
use Rattle.std.proofs.Common.{◌≡◌, ℕ, zero, suc, ◌-◌, ◌<◌, ◌≤◌, true, false, List, [], ◌∷◌, ◌++◌, inl, inr, sym, ap, ◌∙◌, subst, refl, length, take, drop, get_or, slice_get, Option, Some, None, arith, ltb, cond}
use Rattle.std.proofs.lemmas.List.{take_at, take-take, take_rest, length-append}
use Rattle.std.specs.Prelude.{bytes_eq, ◌↔◌, is_some, IsSome, IfSome, IfNone, Result, Ok, Err, OnErr}
use Rattle.std.specs.Option.{option_copied}
use denote.Ref.{Bor}
use Rattle.std.specs.List.{IsDistinct, list_any}
use Rattle.std.proofs.lemmas.Option.{slice_get_within, slice_get_past, slice_get_read}
use Rattle.std.proofs.lemmas.Bool.{cases_lt, lt-ltb, le-ltb}
use Rattle.meaning_texts.specs.Lists.{IsIn}
use Rattle.meaning_texts.proofs.Lemmas.{never_both}
use Rattle.meaning_graph.specs.Graphs.{Text}
use Rattle.meaning_tasks.proofs.Lemmas.{in_has}
use Rattle.dynamic_inputs.specs.Closures.{ClosureView, IsReached, IsWanted, AllTold, with_name, with_names, wanted_name, with_lines}
use Rattle.dynamic_inputs.specs.Places.{is_first, closure_view, ArePlaces, TellsLines, IsFollowed, IsEmptyOrFollowed}
use Rattle.dynamic_inputs.proofs.Found.{begins_one}
use Rattle.dynamic_inputs.proofs.Reaching.{reached_in_line, apart, root_in, wanted_at, is_wanted, all_told, all_are_reached, others_are_reached, others_apart, tells_next, followed_next}

-- ---- before something is told

followed_first : (root : Text) → IsFollowed root (root ∷ []) []
followed_first root = record { few = omega arith; within = tt; all = refl; led = λ x h. absurd h }

there_already : (root : Text) (names : List Text) → IsIn root names → with_name names root ≡ names
there_already root names h = ap (λ b. cond b names (names ++ root ∷ [])) (in_has root names h)

-- with the root in front the names are the found ones
pub rooted : (root : Text) (names : List Text) (told : List (List ℕ)) → IsEmptyOrFollowed root names told → IsFollowed root (with_name names root) told
rooted root names told (inl e) = subst (λ l. IsFollowed root (with_name names root) l) (sym e.1) (subst (λ ns. IsFollowed root (with_name ns root) []) (sym e.0) (followed_first root))
rooted root names told (inr f) = subst (λ ns. IsFollowed root ns told) (sym (there_already root names (root_in root names told f))) f

pub same_telling : (root : Text) (names : List Text) (told : List (List ℕ)) → IsEmptyOrFollowed root names told → closure_view root (with_name names root) told ≡ closure_view root names told
same_telling root names told (inl e) = subst (λ l. closure_view root (with_name names root) l ≡ closure_view root names l) (sym e.1) refl
same_telling root names told (inr f) = ap (λ ns. closure_view root ns told) (there_already root names (root_in root names told f))

-- once something is told, it is followed
followed : (root : Text) (names : List Text) (told : List (List ℕ)) → IsEmptyOrFollowed root names told → (told ≡ [] → ⊥) → IsFollowed root names told
followed root names told (inl e) some = absurd (some e.1)
followed root names told (inr f) some = f

-- ---- the wanted name

-- as a look-up tells it
pub looked_up : (names : List Text) (k : ℕ) (r : Option (Bor Text)) → is_some r ≡ ltb k (length names) → IfSome r (λ x. x.now ≡ get_or names k x.now) → option_copied r ≡ slice_get names k
looked_up names k None there is = elim (cases_lt k (length names)) [
  | inl lt ↦ never_both (ltb k (length names)) (lt-ltb k (length names) lt) (sym there)
  | inr le ↦ sym (slice_get_past names k le)
]
looked_up names k (Some b) there is = elim (cases_lt k (length names)) [
  | inl lt ↦ sym (slice_get_read names (length names) k b.now refl lt is)
  | inr le ↦ never_both (ltb k (length names)) (sym there) (le-ltb k (length names) le)
]

-- the root, where nothing is told
pub first_wanted : (root : Text) (names : List Text) (told : List (List ℕ)) (c : ClosureView) → closure_view root names told ≡ c → told ≡ [] → Some root ≡ wanted_name c
first_wanted root names told c is none = subst (λ t. Some root ≡ wanted_name t) is (subst (λ l. Some root ≡ wanted_name (closure_view root names l)) (sym none) refl)

pub root_wanted : (root : Text) (names : List Text) (told : List (List ℕ)) (c : ClosureView) → closure_view root names told ≡ c → told ≡ [] → IsWanted c root
root_wanted root names told c is none =
    subst (λ t. IsWanted t root) is (subst (λ l. IsWanted (closure_view root names l) root) (sym none) (record { found = inl refl; untold = λ h. h }))

none_past : (names : List Text) (k : ℕ) → slice_get names k ≡ None → length names ≤ k
none_past [] k e = omega arith
none_past (x ∷ names) zero e = cc
none_past (x ∷ names) (suc k) e = let le = none_past names k e in omega arith

module _ (root : Text) (names : List Text) (told : List (List ℕ)) (c : ClosureView) (kept : IsEmptyOrFollowed root names told) (is : closure_view root names told ≡ c) (some : told ≡ [] → ⊥) where
  f : IsFollowed root names told
  f = followed root names told kept some

  pub next_wanted : slice_get names (length told) ≡ wanted_name c
  next_wanted = sym (wanted_at root names told f) ∙ ap wanted_name is

  pub wanted_some : (r : Option (Bor Text)) → option_copied r ≡ slice_get names (length told) → IfSome r (λ name. IsWanted c name.now)
  wanted_some None e = tt
  wanted_some (Some b) e = subst (λ t. IsWanted t b.now) is (is_wanted root names told f b.now (sym e))

  pub wanted_none : (r : Option (Bor Text)) → option_copied r ≡ slice_get names (length told) → IfNone r (AllTold c)
  wanted_none None e = subst AllTold is (all_told root names told f (none_past names (length told) (sym e)))
  wanted_none (Some b) e = tt

-- ---- the next name is told

wanted_within : (root : Text) (names : List Text) (told : List (List ℕ)) → IsFollowed root names told → IsSome (wanted_name (closure_view root names told)) → length told < length names
wanted_within root names told f some = by_place (slice_get names (length told)) refl (subst IsSome (wanted_at root names told f) some)
  where
    by_place : (o : Option Text) → slice_get names (length told) ≡ o → IsSome o → length told < length names
    by_place None e h = cc
    by_place (Some x) e h = slice_get_within names (length told) x e

module _ (root : Text) (names : List Text) (told : List (List ℕ)) (c : ClosureView) (lines more : List Text) (after : List (List ℕ)) (kept : IsEmptyOrFollowed root names told) (is : closure_view root names told ≡ c) (wanted : IsSome (wanted_name c)) (t : TellsLines (with_name names root) told lines more after) where
  abbrev rooted_names : List Text
  rooted_names = with_name names root

  g : IsFollowed root rooted_names told
  g = rooted root names told kept

  within : length told < length rooted_names
  within = wanted_within root rooted_names told g (subst (λ s. IsSome (wanted_name s)) (sym (same_telling root names told kept ∙ is)) wanted)

  at : ArePlaces (with_names rooted_names lines) lines t.places
  at = subst (λ ns. ArePlaces ns lines t.places) t.added t.at

  pub tells_as : closure_view root more after ≡ with_lines c lines
  tells_as =
      (λ i. closure_view root (t.added i) (t.pushed i))
      ∙ (tells_next root rooted_names told g within lines t.places at
      ∙ ap (λ s. with_lines s lines) (same_telling root names told kept ∙ is))

  pub followed_as : IsEmptyOrFollowed root more after
  followed_as =
      let now = followed_next root rooted_names told g within lines t.places at in
      inr (subst (λ ns. IsFollowed root ns after) (sym t.added) (subst (λ l. IsFollowed root (with_names rooted_names lines) l) (sym t.pushed) now))

-- what was there before the root and the lines were added is in front
front_stays : (root : Text) (names now : List Text) → take (length (with_name names root)) now ≡ with_name names root → take (length names) now ≡ names
front_stays root names now is =
    let b = begins_one names root in
    let long : length names ≤ length (with_name names root) = subst (λ ns. length names ≤ length ns) (sym b.1) (omega (arith, length-append names b.0)) in
    sym (take-take (length names) (length (with_name names root)) now long) ∙ (ap (take (length names)) (is ∙ b.1) ∙ take_at names b.0 (length names) refl)

pub front_kept : {A E : Type 0} (root : Text) (names rooted now : List Text) (r : Result A E) → rooted ≡ with_name names root → take (length rooted) now ≡ rooted → OnErr r (take (length names) now ≡ names)
front_kept root names rooted now (Ok a) is kept = tt
front_kept root names rooted now (Err e) is kept = front_stays root names now (subst (λ ns. take (length ns) now ≡ ns) is kept)

-- ---- the reached names

module _ (root : Text) (names : List Text) (told : List (List ℕ)) (c : ClosureView) (kept : IsEmptyOrFollowed root names told) (is : closure_view root names told ≡ c) (shown : List Text) (same_names : shown ≡ names) where
  none_told : names ≡ [] → told ≡ []
  none_told e = (elim kept as (λ k. told ≡ []) [ inl both ↦ both.1 | inr f ↦ absurd (subst (λ ns. IsIn root ns) e (root_in root names told f)) ])

  -- nothing is reached where nothing is told
  pub none_reached : shown ≡ [] → (x : Text) → IsIn x shown ↔ IsReached c x
  none_reached none x =
      let nothing : told ≡ [] = none_told (sym same_names ∙ none) in (
        λ h. absurd (subst (λ ns. IsIn x ns) none h),
        λ r.
            let k : IsReached (closure_view root names []) x = subst (λ l. IsReached (closure_view root names l) x) nothing (subst (λ t. IsReached t x) (sym is) r) in
            absurd (reached_in_line (closure_view root names []) x k),
      )

  module _ (some : shown ≡ [] → ⊥) where
    h : IsFollowed root names told
    h = elim kept as (λ k. IsFollowed root names told) [ inl both ↦ absurd (some (same_names ∙ both.0)) | inr f ↦ f ]

    pub all_apart : IsDistinct bytes_eq shown
    all_apart = subst (IsDistinct bytes_eq) (sym same_names) (apart root names told h)

    pub others_apart_answer : IsDistinct bytes_eq (take (length shown - 1) (drop 1 shown))
    others_apart_answer = subst (IsDistinct bytes_eq) (sym (take_rest shown 1 ∙ ap (drop 1) same_names)) (others_apart root names told h)

    pub all_answer : (given : List (List ℕ)) → given ≡ told → true ≡ list_any (list_any is_first) given → (x : Text) → IsIn x shown ↔ IsReached c x
    all_answer given same_told named x =
        subst (λ ns. IsIn x ns ↔ IsReached c x) (sym same_names)
        (subst (λ t. IsIn x names ↔ IsReached t x) is (all_are_reached root names told h (ap (list_any (list_any is_first)) (sym same_told) ∙ sym named) x))

    pub others_answer : (given : List (List ℕ)) → given ≡ told → false ≡ list_any (list_any is_first) given → (x : Text) → IsIn x (take (length shown - 1) (drop 1 shown)) ↔ IsReached c x
    others_answer given same_told unnamed x =
        subst (λ ns. IsIn x ns ↔ IsReached c x) (sym (take_rest shown 1 ∙ ap (drop 1) same_names))
        (subst (λ t. IsIn x (drop 1 names) ↔ IsReached t x) is (others_are_reached root names told h (ap (list_any (list_any is_first)) (sym same_told) ∙ sym unnamed) x))
