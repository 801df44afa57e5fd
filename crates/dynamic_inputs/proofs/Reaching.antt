-- A closure that is told one name after another: what it has found is reached, and what is reached it has found.
use Rattle.std.proofs.Common.{◌≡◌, ℕ, ◌<◌, ◌≤◌, true, false, List, [], ◌∷◌, ◌++◌, inl, inr, sym, ap, ◌∙◌, subst, refl, length, map, drop, get_or, slice_get, Some, arith}
use Rattle.std.proofs.lemmas.List.{append-nil, length-append, get_or_append_left, take_all}
use Rattle.std.specs.Prelude.{bytes_eq, ◌↔◌}
use Rattle.std.specs.List.{IsDistinct, list_any}
use Rattle.std.proofs.lemmas.Option.{slice_get-get_or, get_or_from_slice_get, slice_get_within}
use Rattle.std.proofs.lemmas.List.Concat.{flat_map-append}
use Rattle.std.proofs.lemmas.Map.Keys.{IsDistinct-tail}
use Rattle.meaning_texts.specs.Lists.{IsIn}
use Rattle.meaning_texts.proofs.Lemmas.{in_either, never_both}
use Rattle.meaning_graph.specs.Graphs.{Text}
use Rattle.meaning_tasks.specs.Reached.{by_own, by_line}
use Rattle.meaning_tasks.proofs.Lemmas.{reached_grows}
use Rattle.dynamic_inputs.specs.Closures.{ToldLines, ClosureView, lines_told, all_lines, told_names, IsReached, NameIsFound, IsWanted, AllTold, with_names, found_names, wanted_name, with_told, with_lines}
use Rattle.dynamic_inputs.specs.Places.{name_at, is_first, told_by, closure_view, ArePlaces, IsFollowed}
use Rattle.dynamic_inputs.proofs.Found.{stays_in, put_in, from_names, begins, distinct, in_turn, one_distinct, in_at, not_before, first_apart}
use Rattle.dynamic_inputs.proofs.Told.{lines_stay, lines_of_new, among_all}
use Rattle.dynamic_inputs.proofs.Kept.{lines_at, places_within, length_told, names_told, told_stays, told_push, within_push, first_is_named, named_is_first}

-- ---- what was told

-- what is reached stands in a line
pub reached_in_line : (c : ClosureView) (x : Text) → IsReached c x → IsIn x (all_lines c.told)
reached_in_line c x (by_own y h) = among_all c.root x c.told h
reached_in_line c x (by_line y z r h) = among_all y x c.told h

-- more that is told loses no reached name
stays_reached : (root : Text) (told more : ToldLines) (x : Text) → IsReached (record { root = root; told = told }) x → IsReached (record { root = root; told = told ++ more }) x
stays_reached root told more = reached_grows (lines_told told root) (lines_told (told ++ more) root) (lines_told told) (lines_told (told ++ more)) (λ z. lines_stay root z told more) (λ x z. lines_stay x z told more)

-- the lines of a found name that wasn't told lead to their names
new_reached : (root : Text) (told : ToldLines) (w : Text) (lines : List Text) → (IsIn w (told_names told) → ⊥) → NameIsFound (record { root = root; told = told }) w → (z : Text) → IsIn z lines → IsReached (record { root = root; told = told ++ (w, lines) ∷ [] }) z
new_reached root told w lines new found z h =
    let there : IsIn z (lines_told (told ++ (w, lines) ∷ []) w) = subst (λ l. IsIn z l) (sym (lines_of_new w lines told new)) h in
    elim found [
      | inl q ↦ by_own z (subst (λ y. IsIn z (lines_told (told ++ (w, lines) ∷ []) y)) q there)
      | inr r ↦ by_line w z (stays_reached root told ((w, lines) ∷ []) w r) there
    ]

-- ---- as it is kept

module _ (root : Text) (names : List Text) (told : List (List ℕ)) (f : IsFollowed root names told) where
  abbrev told_now : ToldLines
  told_now = told_by names names told

  pub apart : IsDistinct bytes_eq names
  apart = subst (IsDistinct bytes_eq) (sym f.all) (distinct (root ∷ []) (all_lines told_now) (one_distinct root))

  pub root_in : IsIn root names
  root_in = subst (λ l. IsIn root l) (sym f.all) (stays_in root (root ∷ []) (all_lines told_now) (inl refl))

  -- the root is the first of them
  pub headed : names ≡ root ∷ drop 1 names
  headed =
      let b = begins (root ∷ []) (all_lines told_now) in
      let is : names ≡ root ∷ b.0 = f.all ∙ b.1 in
      is ∙ ap (λ l. root ∷ drop 1 l) (sym is)

  pub at_first : name_at names 0 ≡ root
  at_first = ap (λ l. name_at l 0) headed

  line_in : (x : Text) → IsIn x (all_lines told_now) → IsIn x names
  line_in x h = subst (λ l. IsIn x l) (sym f.all) (put_in x (root ∷ []) (all_lines told_now) h)

  -- each name is the root or reached
  pub name_found : (x : Text) → IsIn x names → NameIsFound (closure_view root names told) x
  name_found x h = elim (from_names x (root ∷ []) (all_lines told_now) (subst (λ l. IsIn x l) f.all h)) [
    | inl k ↦ elim k [ inl q ↦ inl q | inr n ↦ absurd n ]
    | inr k ↦ inr (f.led x k)
  ]

  pub found_name : (x : Text) → NameIsFound (closure_view root names told) x → IsIn x names
  found_name x (inl q) = subst (λ y. IsIn y names) (sym q) root_in
  found_name x (inr r) = line_in x (reached_in_line (closure_view root names told) x r)

  -- which name is wanted
  pub wanted_at : wanted_name (closure_view root names told) ≡ slice_get names (length told)
  wanted_at = ap (λ (l : List Text). slice_get l (length told_now)) (sym f.all) ∙ ap (slice_get names) (length_told names names told f.few)

  pub is_untold : length told < length names → IsIn (get_or names (length told) []) (told_names told_now) → ⊥
  is_untold lt h = not_before names (length told) [] apart lt (subst (λ l. IsIn (get_or names (length told) []) l) (names_told names names told) h)

  pub is_wanted : (x : Text) → slice_get names (length told) ≡ Some x → IsWanted (closure_view root names told) x
  is_wanted x at =
      let lt : length told < length names = slice_get_within names (length told) x at in
      let same : get_or names (length told) [] ≡ x = get_or_from_slice_get names (length told) x [] at in
      subst (λ y. IsWanted (closure_view root names told) y) same (record {
        found = name_found (get_or names (length told) []) (in_at names (length told) [] lt);
        untold = is_untold lt;
      })

  pub all_told : length names ≤ length told → AllTold (closure_view root names told)
  all_told le x h = subst (λ l. IsIn x l) (sym (names_told names names told ∙ take_all (length told) names le)) (found_name x h)

  -- ---- the reached names

  pub all_are_reached : list_any (list_any is_first) told ≡ true → (x : Text) → IsIn x names ↔ IsReached (closure_view root names told) x
  all_are_reached named x =
      let root_line : IsIn root (all_lines told_now) = subst (λ y. IsIn y (all_lines told_now)) at_first (first_is_named names told f.few named) in (
        λ h. elim (name_found x h) [ inl q ↦ subst (λ y. IsReached (closure_view root names told) y) (sym q) (f.led root root_line) | inr r ↦ r ],
        λ r. found_name x (inr r),
      )

  pub others_are_reached : list_any (list_any is_first) told ≡ false → (x : Text) → IsIn x (drop 1 names) ↔ IsReached (closure_view root names told) x
  others_are_reached unnamed x = (
    λ i. elim (name_found x (subst (λ l. IsIn x l) (sym headed) (inr i))) [
      | inl q ↦ absurd (first_apart root x (drop 1 names) (subst (IsDistinct bytes_eq) headed apart) i q)
      | inr r ↦ r
    ],
    λ r. elim (subst (λ l. IsIn x l) headed (found_name x (inr r))) [
      | inl q ↦
          let line : IsIn (name_at names 0) (all_lines told_now) = subst (λ y. IsIn y (all_lines told_now)) (q ∙ sym at_first) (reached_in_line (closure_view root names told) x r) in
          never_both (list_any (list_any is_first) told) (named_is_first names told f.few f.within apart line) unnamed
      | inr i ↦ i
    ],
  )

  pub others_apart : IsDistinct bytes_eq (drop 1 names)
  others_apart = IsDistinct-tail bytes_eq root (drop 1 names) (subst (IsDistinct bytes_eq) headed apart)

-- ---- the next name is told

module _ (root : Text) (names : List Text) (told : List (List ℕ)) (f : IsFollowed root names told) (lt : length told < length names) (lines : List Text) (places : List ℕ) (at : ArePlaces (with_names names lines) lines places) where
  abbrev w : Text
  w = name_at names (length told)

  abbrev before : ToldLines
  before = told_by names names told

  abbrev next : ClosureView
  next = record { root = root; told = before ++ (w, lines) ∷ [] }

  long : (behind : List Text) → length names ≤ length (names ++ behind)
  long behind = omega (arith, length-append names behind)

  kept_as : (behind : List Text) → map (name_at (names ++ behind)) places ≡ lines → closure_view root (names ++ behind) (told ++ places ∷ []) ≡ next
  kept_as behind same =
      let here : name_at (names ++ behind) (length told) ≡ w = get_or_append_left names behind [] (length told) lt in
      let more : length told < length (names ++ behind) = omega (arith, long behind) in
      let pushed = told_push (names ++ behind) (names ++ behind) told places more in
      let stayed = told_stays names behind names behind told f.few f.within in
      let is : told_by (names ++ behind) (names ++ behind) (told ++ places ∷ []) ≡ before ++ (w, lines) ∷ [] = pushed ∙ (λ i. stayed i ++ (here i, same i) ∷ []) in
      λ i. record { root = root; told = is i }

  pub telling_next : closure_view root (with_names names lines) (told ++ places ∷ []) ≡ next
  telling_next =
      let b = begins names lines in
      let same : map (name_at (names ++ b.0)) places ≡ lines = subst (λ ns. map (name_at ns) places ≡ lines) b.1 (lines_at (with_names names lines) lines places at) in
      subst (λ ns. closure_view root ns (told ++ places ∷ []) ≡ next) (sym b.1) (kept_as b.0 same)

  pub tells_next : closure_view root (with_names names lines) (told ++ places ∷ []) ≡ with_lines (closure_view root names told) lines
  tells_next = telling_next ∙ ap (λ o. with_told o (closure_view root names told) lines) (sym (wanted_at root names told f ∙ slice_get-get_or names (length told) [] lt))

  all_next : all_lines (before ++ (w, lines) ∷ []) ≡ all_lines before ++ lines
  all_next = flat_map-append (λ entry. entry.1) before ((w, lines) ∷ []) ∙ ap (λ l. all_lines before ++ l) (append-nil lines)

  found_next : with_names names lines ≡ found_names next
  found_next =
      ap (λ ns. with_names ns lines) f.all
      ∙ (sym (in_turn (root ∷ []) (all_lines before) lines)
      ∙ ap (with_names (root ∷ [])) (sym all_next))

  led_next : (x : Text) → IsIn x (all_lines next.told) → IsReached next x
  led_next x h = elim (in_either x (all_lines before) lines (subst (λ l. IsIn x l) all_next h)) [
    | inl k ↦ stays_reached root before ((w, lines) ∷ []) x (f.led x k)
    | inr k ↦ new_reached root before w lines (is_untold root names told f lt) (name_found root names told f w (in_at names (length told) [] lt)) x k
  ]

  pub followed_next : IsFollowed root (with_names names lines) (told ++ places ∷ [])
  followed_next =
      let b = begins names lines in
      let le : length names ≤ length (with_names names lines) = subst (λ ns. length names ≤ length ns) (sym b.1) (long b.0) in
      let P : ClosureView → Type 0 = λ t. (x : Text) → IsIn x (all_lines t.told) → IsReached t x in
      record {
        few = let l = length-append told (places ∷ []) in omega (arith, le);
        within = within_push (length names) (length (with_names names lines)) told places le f.within (places_within (with_names names lines) lines places at);
        all = found_next ∙ ap found_names (sym telling_next);
        led = subst P (sym telling_next) led_next;
      }
