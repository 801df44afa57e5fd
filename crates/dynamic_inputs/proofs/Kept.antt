-- Lines that are kept as places of names.
use Rattle.std.proofs.Common.{◌≡◌, ℕ, zero, suc, ◌+◌, ◌<◌, ◌≤◌, true, List, [], ◌∷◌, ◌++◌, inl, inr, sym, ap, ◌∙◌, subst, refl, length, map, flat_map, take, get_or, slice_get, Some, arith}
use Rattle.std.proofs.lemmas.List.{get_or_append_left, take_more}
use Rattle.std.proofs.lemmas.Bool.Decides.{Decides-eqb}
use Rattle.std.specs.Prelude.{bytes_eq}
use Rattle.std.specs.List.{AllByRecursion, list_any, IsDistinct}
use Rattle.std.proofs.lemmas.Option.{get_or_from_slice_get, slice_get_within}
use Rattle.meaning_texts.specs.Lists.{IsIn}
use Rattle.meaning_texts.proofs.Lemmas.{in_flat, from_flat, in_map, from_map, one_passes, passes_one}
use Rattle.meaning_graph.specs.Graphs.{Text}
use Rattle.dynamic_inputs.specs.Closures.{told_names, all_lines, with_name, with_names}
use Rattle.dynamic_inputs.specs.Places.{name_at, is_first, told_by, ArePlaces}
use Rattle.dynamic_inputs.proofs.Found.{begins_one, one_more, first_place}

-- ---- lines at places

get_more : (names more : List Text) (place : ℕ) (x : Text) → slice_get names place ≡ Some x → slice_get (names ++ more) place ≡ Some x
get_more [] more place x h = cc
get_more (y ∷ names) more zero x h = h
get_more (y ∷ names) more (suc place) x h = get_more names more place x h

next_line : (lines : List Text) (i : ℕ) (line : Text) → i < length lines → line ≡ get_or lines i line → take (i + 1) lines ≡ take i lines ++ line ∷ []
next_line lines i line lt is = take_more lines i line lt ∙ ap (λ x. take i lines ++ x ∷ []) (sym is)

-- more names change no place
pub places_stay : (names more lines : List Text) (places : List ℕ) → ArePlaces names lines places → ArePlaces (names ++ more) lines places
places_stay names more [] [] a = tt
places_stay names more [] (place ∷ places) a = absurd a
places_stay names more (line ∷ lines) [] a = absurd a
places_stay names more (line ∷ lines) (place ∷ places) a = (get_more names more place line a.0, places_stay names more lines places a.1)

pub places_push : (names lines : List Text) (places : List ℕ) (line : Text) (place : ℕ) → ArePlaces names lines places → slice_get names place ≡ Some line → ArePlaces names (lines ++ line ∷ []) (places ++ place ∷ [])
places_push names [] [] line place a h = (h, tt)
places_push names [] (p ∷ places) line place a h = absurd a
places_push names (x ∷ lines) [] line place a h = absurd a
places_push names (x ∷ lines) (p ∷ places) line place a h = (a.0, places_push names lines places line place a.1 h)

-- one line more, whose name is added
pub added_step : (first names more lines : List Text) (i : ℕ) (line : Text) → i < length lines → line ≡ get_or lines i line → names ≡ with_names first (take i lines) → more ≡ with_name names line → more ≡ with_names first (take (i + 1) lines)
added_step first names more lines i line lt is so_far now =
    now ∙ (ap (λ ns. with_name ns line) so_far ∙ (one_more first (take i lines) line ∙ ap (with_names first) (sym (next_line lines i line lt is))))

pub places_step : (names more lines : List Text) (i : ℕ) (line : Text) (places after : List ℕ) (place : ℕ) → i < length lines → line ≡ get_or lines i line → ArePlaces names (take i lines) places → more ≡ with_name names line → slice_get more place ≡ Some line → after ≡ places ++ place ∷ [] → ArePlaces more (take (i + 1) lines) after
places_step names more lines i line places after place lt is so_far now there pushed =
    let b = begins_one names line in
    let stayed : ArePlaces more (take i lines) places = subst (λ ns. ArePlaces ns (take i lines) places) (sym (now ∙ b.1)) (places_stay names b.0 (take i lines) places so_far) in
    let one : ArePlaces more (take i lines ++ line ∷ []) (places ++ place ∷ []) = places_push more (take i lines) places line place stayed there in
    subst (λ ps. ArePlaces more (take (i + 1) lines) ps) (sym pushed) (subst (λ ls. ArePlaces more ls (places ++ place ∷ [])) (sym (next_line lines i line lt is)) one)

pub lines_at : (names lines : List Text) (places : List ℕ) → ArePlaces names lines places → map (name_at names) places ≡ lines
lines_at names [] [] a = refl
lines_at names [] (place ∷ places) a = absurd a
lines_at names (line ∷ lines) [] a = absurd a
lines_at names (line ∷ lines) (place ∷ places) a =
    let here : name_at names place ≡ line = get_or_from_slice_get names place line [] a.0 in
    let rest : map (name_at names) places ≡ lines = lines_at names lines places a.1 in
    λ i. here i ∷ rest i

pub places_within : (names lines : List Text) (places : List ℕ) → ArePlaces names lines places → AllByRecursion (λ place. place < length names) places
places_within names [] [] a = tt
places_within names [] (place ∷ places) a = absurd a
places_within names (line ∷ lines) [] a = absurd a
places_within names (line ∷ lines) (place ∷ places) a = (slice_get_within names place line a.0, places_within names lines places a.1)

-- ---- what was told by them

pub length_told : (all names : List Text) (told : List (List ℕ)) → length told ≤ length names → length (told_by all names told) ≡ length told
length_told all names [] few = refl
length_told all [] (places ∷ told) few = absurd (omega (arith, few))
length_told all (x ∷ names) (places ∷ told) few = ap suc (length_told all names told (omega (arith, few)))

pub names_told : (all names : List Text) (told : List (List ℕ)) → told_names (told_by all names told) ≡ take (length told) names
names_told all names [] = refl
names_told all [] (places ∷ told) = refl
names_told all (x ∷ names) (places ∷ told) = ap (λ l. x ∷ l) (names_told all names told)

same_lines : (all more : List Text) (places : List ℕ) → AllByRecursion (λ place. place < length all) places → map (name_at (all ++ more)) places ≡ map (name_at all) places
same_lines all more [] within = refl
same_lines all more (place ∷ places) within =
    let here : name_at (all ++ more) place ≡ name_at all place = get_or_append_left all more [] place within.0 in
    let rest : map (name_at (all ++ more)) places ≡ map (name_at all) places = same_lines all more places within.1 in
    λ i. here i ∷ rest i

-- more names change nothing that was told
pub told_stays : (all more names further : List Text) (told : List (List ℕ)) → length told ≤ length names → AllByRecursion (AllByRecursion (λ place. place < length all)) told → told_by (all ++ more) (names ++ further) told ≡ told_by all names told
told_stays all more names further [] few within = refl
told_stays all more [] further (places ∷ told) few within = absurd (omega (arith, few))
told_stays all more (x ∷ names) further (places ∷ told) few within =
    let here : map (name_at (all ++ more)) places ≡ map (name_at all) places = same_lines all more places within.0 in
    let rest : told_by (all ++ more) (names ++ further) told ≡ told_by all names told = told_stays all more names further told (omega (arith, few)) within.1 in
    λ i. (x, here i) ∷ rest i

pub told_push : (all names : List Text) (told : List (List ℕ)) (places : List ℕ) → length told < length names → told_by all names (told ++ places ∷ []) ≡ told_by all names told ++ (name_at names (length told), map (name_at all) places) ∷ []
told_push all [] told places lt = absurd (omega (arith, lt))
told_push all (x ∷ names) [] places lt = refl
told_push all (x ∷ names) (first ∷ told) places lt = ap (λ l. (x, map (name_at all) first) ∷ l) (told_push all names told places (omega (arith, lt)))

-- ---- bounds

within_more : (n m : ℕ) (places : List ℕ) → n ≤ m → AllByRecursion (λ place. place < n) places → AllByRecursion (λ place. place < m) places
within_more n m [] le within = tt
within_more n m (place ∷ places) le within = let here : place < n = within.0 in (omega arith, within_more n m places le within.1)

pub within_push : (n m : ℕ) (told : List (List ℕ)) (places : List ℕ) → n ≤ m → AllByRecursion (AllByRecursion (λ place. place < n)) told → AllByRecursion (λ place. place < m) places → AllByRecursion (AllByRecursion (λ place. place < m)) (told ++ places ∷ [])
within_push n m [] places le within last = (last, tt)
within_push n m (first ∷ told) places le within last = (within_more n m first le within.0, within_push n m told places le within.1 last)

within_at : (n : ℕ) (place : ℕ) (places : List ℕ) → AllByRecursion (λ p. p < n) places → IsIn place places → place < n
within_at n place [] within h = absurd h
within_at n place (p ∷ places) within (inl e) = subst (λ q. q < n) (sym e) within.0
within_at n place (p ∷ places) within (inr h) = within_at n place places within.1 h

places_at : (n : ℕ) (places : List ℕ) (told : List (List ℕ)) → AllByRecursion (AllByRecursion (λ p. p < n)) told → IsIn places told → AllByRecursion (λ p. p < n) places
places_at n places [] within h = absurd h
places_at n places (first ∷ told) within (inl e) = subst (AllByRecursion (λ p. p < n)) (sym e) within.0
places_at n places (first ∷ told) within (inr h) = places_at n places told within.1 h

-- ---- whether lines name what stands first

all_flat : (all names : List Text) (told : List (List ℕ)) → length told ≤ length names → all_lines (told_by all names told) ≡ flat_map (map (name_at all)) told
all_flat all names [] few = refl
all_flat all [] (places ∷ told) few = absurd (omega (arith, few))
all_flat all (x ∷ names) (places ∷ told) few = ap (λ l. map (name_at all) places ++ l) (all_flat all names told (omega (arith, few)))

zero_place : (place : ℕ) → is_first place ≡ true → 0 ≡ place
zero_place place e = sym ((Decides-eqb place 0).0 e)

pub first_is_named : (names : List Text) (told : List (List ℕ)) → length told ≤ length names → list_any (list_any is_first) told ≡ true → IsIn (name_at names 0) (all_lines (told_by names names told))
first_is_named names told few e =
    let r = one_passes (list_any is_first) told e in
    let s = one_passes is_first r.0 r.2 in
    let here : IsIn (name_at names 0) (map (name_at names) r.0) = subst (λ k. IsIn (name_at names k) (map (name_at names) r.0)) (sym (zero_place s.0 s.2)) (in_map (name_at names) s.0 r.0 s.1) in
    subst (λ l. IsIn (name_at names 0) l) (sym (all_flat names names told few)) (in_flat (map (name_at names)) r.0 (name_at names 0) told r.1 here)

pub named_is_first : (names : List Text) (told : List (List ℕ)) → length told ≤ length names → AllByRecursion (AllByRecursion (λ place. place < length names)) told → IsDistinct bytes_eq names → IsIn (name_at names 0) (all_lines (told_by names names told)) → list_any (list_any is_first) told ≡ true
named_is_first names told few within apart h =
    let r = from_flat (map (name_at names)) (name_at names 0) told (subst (λ l. IsIn (name_at names 0) l) (all_flat names names told few) h) in
    let s = from_map (name_at names) (name_at names 0) r.0 r.2 in
    let lt : s.0 < length names = within_at (length names) s.0 r.0 (places_at (length names) r.0 told within r.1) s.1 in
    let at : s.0 ≡ 0 = first_place names s.0 [] apart lt s.2 in
    passes_one (list_any is_first) r.0 told r.1 (passes_one is_first s.0 r.0 s.1 (ap is_first at))
