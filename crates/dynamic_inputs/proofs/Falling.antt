-- What stays, and what falls, while one name after another is told.
use Rattle.std.proofs.Common.{◌≡◌, ◌<◌, ◌≤◌, Bool, true, false, not, List, [], ◌∷◌, ◌++◌, Option, Some, None, inl, inr, sym, ap, ◌∙◌, subst, refl, cond, length, filter, arith, ◌+◌, length-append}
use Rattle.meaning_texts.specs.Lists.{IsIn}
use Rattle.meaning_texts.proofs.Lemmas.{never_both, in_left, in_right}
use Rattle.meaning_graph.specs.Graphs.{Text}
use Rattle.meaning_tasks.specs.Reached.{has_name}
use Rattle.meaning_tasks.proofs.Lemmas.{has_in, in_has}
use Rattle.dynamic_inputs.specs.Closures.{ToldLines, ClosureView, told_names, IsWanted, wanted_name, with_told, with_lines, with_name, with_names}
use Rattle.dynamic_inputs.proofs.Found.{by_there}

-- the root stays
pub root_stays : (c : ClosureView) (lines : List Text) → (with_lines c lines).root ≡ c.root
root_stays c lines = by (wanted_name c)
  where
    by : (o : Option Text) → (with_told o c lines).root ≡ c.root
    by None = refl
    by (Some x) = refl

-- what is told where a name is wanted
pub told_to : (c : ClosureView) (x : Text) (lines : List Text) → wanted_name c ≡ Some x → with_lines c lines ≡ record { root = c.root; told = c.told ++ (x, lines) ∷ [] }
told_to c x lines wanted = ap (λ o. with_told o c lines) wanted

-- ---- of finitely many names fewer and fewer are left

-- those of the names that weren't told
abbrev pub untold_of : List Text → ClosureView → List Text
untold_of names c = filter (λ x. not (has_name x (told_names c.told))) names

fewer_at : (p q : Text → Bool) (x : Text) (xs : List Text) (a b : Bool) → p x ≡ a → q x ≡ b → (b ≡ true → a ≡ true) → length (filter q xs) ≤ length (filter p xs) → length (cond b (x ∷ filter q xs) (filter q xs)) ≤ length (cond a (x ∷ filter p xs) (filter p xs))
fewer_at p q x xs true true e k f le = omega (arith, le)
fewer_at p q x xs true false e k f le = omega (arith, le)
fewer_at p q x xs false true e k f le = let n : false ≡ true = f refl in cc
fewer_at p q x xs false false e k f le = le

fewer : (p q : Text → Bool) (xs : List Text) → ((x : Text) → q x ≡ true → p x ≡ true) → length (filter q xs) ≤ length (filter p xs)
fewer p q [] f = omega arith
fewer p q (x ∷ xs) f = fewer_at p q x xs (p x) (q x) refl refl (f x) (fewer p q xs f)

one_fewer_at : (p q : Text → Bool) (x : Text) (xs : List Text) (a b : Bool) → (b ≡ true → a ≡ true) → length (filter q xs) < length (filter p xs) → length (cond b (x ∷ filter q xs) (filter q xs)) < length (cond a (x ∷ filter p xs) (filter p xs))
one_fewer_at p q x xs true true f lt = omega (arith, lt)
one_fewer_at p q x xs true false f lt = omega (arith, lt)
one_fewer_at p q x xs false true f lt = let n : false ≡ true = f refl in cc
one_fewer_at p q x xs false false f lt = lt

-- one passes the first test alone
one_fewer : (p q : Text → Bool) (x : Text) (xs : List Text) → ((y : Text) → q y ≡ true → p y ≡ true) → IsIn x xs → p x ≡ true → q x ≡ false → length (filter q xs) < length (filter p xs)
one_fewer p q x [] f h passes fails = absurd h
one_fewer p q x (y ∷ xs) f (inl e) passes fails =
    let le : length (filter q xs) ≤ length (filter p xs) = fewer p q xs f in
    let a : p y ≡ true = ap p (sym e) ∙ passes in
    let b : q y ≡ false = ap q (sym e) ∙ fails in
    let lt : length (filter q xs) < length (y ∷ filter p xs) = omega arith in
    subst (λ v. length (cond v (y ∷ filter q xs) (filter q xs)) < length (cond (p y) (y ∷ filter p xs) (filter p xs))) (sym b)
    (subst (λ v. length (filter q xs) < length (cond v (y ∷ filter p xs) (filter p xs))) (sym a) lt)
one_fewer p q x (y ∷ xs) f (inr h) passes fails = one_fewer_at p q y xs (p y) (q y) (f y) (one_fewer p q x xs f h passes fails)

untold_before : (x y : Text) (lines : List Text) (told : ToldLines) → not (has_name y (told_names (told ++ (x, lines) ∷ []))) ≡ true → not (has_name y (told_names told)) ≡ true
untold_before x y lines told e = (elim (has_name y (told_names told)) as (λ b. has_name y (told_names told) ≡ b → not b ≡ true) [
  | true ↦ λ q. let later = in_has y (told_names (told ++ (x, lines) ∷ [])) (in_more y told (has_in y (told_names told) q)) in never_both (not (has_name y (told_names (told ++ (x, lines) ∷ [])))) e (ap not later)
  | false ↦ λ q. refl
]) refl
  where
    in_more : (z : Text) (some : ToldLines) → IsIn z (told_names some) → IsIn z (told_names (some ++ (x, lines) ∷ []))
    in_more z [] h = absurd h
    in_more z (entry ∷ some) (inl q) = inl q
    in_more z (entry ∷ some) (inr h) = inr (in_more z some h)

told_now : (x : Text) (lines : List Text) (told : ToldLines) → IsIn x (told_names (told ++ (x, lines) ∷ []))
told_now x lines [] = inl refl
told_now x lines (entry ∷ told) = inr (told_now x lines told)

-- a wanted name of them is one less, once it is told
pub untold_falls : (names : List Text) (c : ClosureView) (x : Text) (lines : List Text) → wanted_name c ≡ Some x → IsWanted c x → IsIn x names → length (untold_of names (with_lines c lines)) < length (untold_of names c)
untold_falls names c x lines wanted w listed = subst (λ d. length (untold_of names d) < length (untold_of names c)) (sym (told_to c x lines wanted))
    (one_fewer (λ y. not (has_name y (told_names c.told))) (λ y. not (has_name y (told_names (c.told ++ (x, lines) ∷ [])))) x names (λ y. untold_before x y lines c.told) listed
    (untold (has_name x (told_names c.told)) (λ e. w.untold (has_in x (told_names c.told) e)))
    (ap not (in_has x (told_names (c.told ++ (x, lines) ∷ [])) (told_now x lines c.told))))
  where
    untold : (b : Bool) → (b ≡ true → ⊥) → not b ≡ true
    untold true n = absurd (n refl)
    untold false n = refl

-- ---- as many names are left as are found more

-- those of the names that weren't found
abbrev pub unfound_of : List Text → List Text → List Text
unfound_of names found = filter (λ x. not (has_name x found)) names

unfound_before : (x y : Text) (found : List Text) → not (has_name y (found ++ x ∷ [])) ≡ true → not (has_name y found) ≡ true
unfound_before x y found e = (elim (has_name y found) as (λ b. has_name y found ≡ b → not b ≡ true) [
  | true ↦ λ q. let later = in_has y (found ++ x ∷ []) (in_left y found (x ∷ []) (has_in y found q)) in never_both (not (has_name y (found ++ x ∷ []))) e (ap not later)
  | false ↦ λ q. refl
]) refl

one_found : (names found : List Text) (x : Text) → IsIn x names → length (unfound_of names (with_name found x)) + length (with_name found x) ≤ length (unfound_of names found) + length found
one_found names found x listed = by_there (λ ns. length (unfound_of names ns) + length ns ≤ length (unfound_of names found) + length found) found x
    (λ e. omega arith)
    (λ e.
    let less : length (unfound_of names (found ++ x ∷ [])) < length (unfound_of names found) =
    one_fewer (λ y. not (has_name y found)) (λ y. not (has_name y (found ++ x ∷ []))) x names (λ y. unfound_before x y found) listed
    (ap not e) (ap not (in_has x (found ++ x ∷ []) (in_right x found (x ∷ []) (inl refl)))) in
    let longer : length (found ++ x ∷ []) ≡ length found + 1 = length-append found (x ∷ []) in
    omega (arith, less, longer))

-- Where names of them are found more, as many fewer are left, or even fewer.
pub all_found : (names found more : List Text) → ((x : Text) → IsIn x more → IsIn x names) → length (unfound_of names (with_names found more)) + length (with_names found more) ≤ length (unfound_of names found) + length found
all_found names found [] all = omega arith
all_found names found (x ∷ more) all =
    let one = one_found names found x (all x (inl refl)) in
    let others = all_found names (with_name found x) more (λ y h. all y (inr h)) in
    omega (arith, one, others)
