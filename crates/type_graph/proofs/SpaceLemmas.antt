-- The table of the names of a space, name by name.
use Rattle.std.proofs.Common.{◌≡◌, ℕ, zero, suc, ◌+◌, ◌<◌, ◌||◌, Bool, true, false, List, [], ◌∷◌, ◌++◌, refl, sym, ap, ◌∙◌, length, arith, cond, take, get_or, position, nat_lt, true≢false, subst, append_assoc, length-append, append-nil, add-zero, ◌≤◌}
use Rattle.std.specs.Prelude.{Option, Some, None, bytes_eq, is_some, option_map, filter_map}
use Rattle.std.specs.List.{list_any, cons_option}
use Rattle.std.proofs.lemmas.List.{take_more}
use Rattle.std.proofs.lemmas.List.Elements.{filter_map-append}
use Rattle.object_values.specs.declared.graph.Decl.{Decl}
use Rattle.type_graph.specs.declared.spaces.Space.{Space}
use Rattle.std.specs.Option.{option_or, option_map_or, option_to_list}
use Rattle.std.specs.Cmp.Lexicographic.{bytes_decides}
use Rattle.meaning_graph.specs.Graphs.{Text, Graph}
use Rattle.type_graph.specs.Places.{Places, place_of, with_place, AreOf}
use Rattle.type_graph.specs.Spaces.{name_in, names_in, built_in}
use Rattle.type_graph.proofs.PlaceLemmas.{position-cons}

-- ---- one more name

later : (b : Bool) (o : Option ℕ) (r : Bool) (n : ℕ) → cond b (Some 0) (option_map suc (option_or o (cond r (Some n) None))) ≡ option_or (cond b (Some 0) (option_map suc o)) (cond r (Some (suc n)) None)
later true o r n = refl
later false None true n = refl
later false None false n = refl
later false (Some k) r n = refl

pub position-push : {A : Type 0} (p : A → Bool) (xs : List A) (x : A) → position p (xs ++ x ∷ []) ≡ option_or (position p xs) (cond (p x) (Some (length xs)) None)
position-push p [] x = position-cons p x []
position-push p (y ∷ ys) x =
    position-cons p y (ys ++ x ∷ []) ∙ ap (λ o. cond (p y) (Some 0) (option_map suc o)) (position-push p ys x) ∙ later (p y) (position p ys) (p x) (length ys)
    ∙ ap (λ o. option_or o (cond (p x) (Some (suc (length ys))) None)) (sym (position-cons p y ys))

one_later : (b : Bool) (k : ℕ) (o r : Option ℕ) → cond b (Some k) (option_or o r) ≡ option_or (cond b (Some k) o) r
one_later true k o r = refl
one_later false k o r = refl

place-push : (pairs : Places) (name : Text) (place : ℕ) (asked : Text) → place_of (pairs ++ (name, place) ∷ []) asked ≡ option_or (place_of pairs asked) (cond (bytes_eq asked name) (Some place) None)
place-push [] name place asked = refl
place-push (e ∷ es) name place asked = ap (cond (bytes_eq asked e.0) (Some e.1)) (place-push es name place asked) ∙ one_later (bytes_eq asked e.0) e.1 (place_of es asked) (cond (bytes_eq asked name) (Some place) None)

pub bytes_eq-sym : (a b : Text) → bytes_eq a b ≡ bytes_eq b a
bytes_eq-sym a b = by (bytes_eq a b) (bytes_eq b a) refl refl
  where
    by : (x y : Bool) → bytes_eq a b ≡ x → bytes_eq b a ≡ y → x ≡ y
    by true true e f = refl
    by true false e f = absurd (true≢false (sym ((bytes_decides b a).1 (sym ((bytes_decides a b).0 e))) ∙ f))
    by false true e f = absurd (true≢false (sym ((bytes_decides a b).1 (sym ((bytes_decides b a).0 f))) ∙ e))
    by false false e f = refl

-- a place that is there hides a later one
hidden : (o : Option ℕ) (r : Option ℕ) → is_some o ≡ true → o ≡ option_or o r
hidden None r h = absurd (true≢false (sym h))
hidden (Some k) r h = refl

unchanged : (o : Option ℕ) → o ≡ option_or o None
unchanged None = refl
unchanged (Some k) = refl

module _ (pairs : Places) (names : List Text) (are : AreOf pairs names) (name : Text) where
  abbrev asked_last : Text → Option ℕ
  asked_last asked = cond (bytes_eq name asked) (Some (length names)) None

  known : (asked : Text) (b : Bool) → bytes_eq name asked ≡ b → is_some (place_of pairs name) ≡ true → place_of pairs asked ≡ option_or (place_of pairs asked) (cond b (Some (length names)) None)
  known asked true e h = hidden (place_of pairs asked) (Some (length names)) (ap (λ n. is_some (place_of pairs n)) (sym ((bytes_decides name asked).0 e)) ∙ h)
  known asked false e h = unchanged (place_of pairs asked)

  by_there : (asked : Text) (b : Bool) → is_some (place_of pairs name) ≡ b → place_of (cond b pairs (pairs ++ (name, length names) ∷ [])) asked ≡ option_or (place_of pairs asked) (asked_last asked)
  by_there asked true h = known asked (bytes_eq name asked) refl h
  by_there asked false h = place-push pairs name (length names) asked ∙ ap (λ b. option_or (place_of pairs asked) (cond b (Some (length names)) None)) (bytes_eq-sym asked name)

  -- the table with one name more is that of the list with it
  pub one_more_name : AreOf (with_place pairs name (length names)) (names ++ name ∷ [])
  one_more_name asked =
      by_there asked (is_some (place_of pairs name)) refl ∙ ap (λ o. option_or o (asked_last asked)) (are asked)
      ∙ sym (position-push (λ n. bytes_eq n asked) names name)

-- ---- before a place

before_suc : (b : Bool) (o : Option ℕ) (k : ℕ) → option_map_or (λ j. nat_lt j (suc k)) (cond b (Some 0) (option_map suc o)) false ≡ b || option_map_or (λ j. nat_lt j k) o false
before_suc true o k = grind arith
before_suc false None k = refl
before_suc false (Some j) k = grind arith

before_zero : (b : Bool) (o : Option ℕ) → option_map_or (λ j. nat_lt j 0) (cond b (Some 0) (option_map suc o)) false ≡ false
before_zero true o = grind arith
before_zero false None = refl
before_zero false (Some j) = grind arith

pub any-before : {A : Type 0} (p : A → Bool) (xs : List A) (k : ℕ) → option_map_or (λ j. nat_lt j k) (position p xs) false ≡ list_any p (take k xs)
any-before p [] zero = refl
any-before p [] (suc k) = refl
any-before p (x ∷ xs) zero = ap (λ o. option_map_or (λ j. nat_lt j 0) o false) (position-cons p x xs) ∙ before_zero (p x) (position p xs)
any-before p (x ∷ xs) (suc k) = ap (λ o. option_map_or (λ j. nat_lt j (suc k)) o false) (position-cons p x xs) ∙ before_suc (p x) (position p xs) k ∙ ap (λ b. p x || b) (any-before p xs k)

-- ---- one declaration more

push_option : (space : Space) (g : Graph) (i : ℕ) (d : Decl) → i < length g → names_in space (take (i + 1) g) ≡ names_in space (take i g) ++ option_to_list (name_in space (get_or g i d))
push_option space g i d h =
    ap (names_in space) (take_more g i d h) ∙ ap (λ l. built_in space ++ l) (filter_map-append (name_in space) (take i g) (get_or g i d ∷ []))
    ∙ sym (append_assoc (built_in space) (filter_map (name_in space) (take i g)) (filter_map (name_in space) (get_or g i d ∷ [])))
    ∙ ap (λ l. names_in space (take i g) ++ l) (one_of (name_in space (get_or g i d)))
  where
    one_of : (o : Option Text) → cons_option o [] ≡ option_to_list o
    one_of None = refl
    one_of (Some x) = refl

-- the table and the count of the names so far
pub record IsSoFar (space : Space) (g : Graph) (i : ℕ) (table : Places) (first declared : ℕ) : Type 0 where
  pub are : AreOf table (names_in space (take i g))
  pub number : first + declared ≡ length (names_in space (take i g))
  pub few : declared ≤ i
  pub one : first ≤ 1

-- before the first declaration
pub none_yet : (space : Space) (g : Graph) (table : Places) (first : ℕ) → AreOf table (built_in space) → first ≡ length (built_in space) → first ≤ 1 → IsSoFar space g 0 table first 0
none_yet space g table first h e b = record {
  are = subst (AreOf table) (sym (append-nil (built_in space))) h;
  number = add-zero first ∙ e ∙ sym (ap length (append-nil (built_in space)));
  few = omega arith;
  one = b;
}

module _ (space : Space) (g : Graph) (i : ℕ) (table : Places) (first declared : ℕ) (so_far : IsSoFar space g i table first declared) (d : Decl) (below : i < length g) (here : d ≡ get_or g i d) where
  more : names_in space (take (i + 1) g) ≡ names_in space (take i g) ++ option_to_list (name_in space d)
  more = push_option space g i d below ∙ ap (λ e. names_in space (take i g) ++ option_to_list (name_in space e)) (sym here)

  pub named_next : (name : Text) → name_in space d ≡ Some name → IsSoFar space g (i + 1) (with_place table name (first + declared)) first (declared + 1)
  named_next name h =
      let grown : names_in space (take (i + 1) g) ≡ names_in space (take i g) ++ name ∷ [] = more ∙ ap (λ o. names_in space (take i g) ++ option_to_list o) h in
      let step = one_more_name table (names_in space (take i g)) so_far.are name in
      let counted : first + (declared + 1) ≡ length (names_in space (take i g)) + 1 = omega (arith, so_far.number) in
      record {
        are = subst (AreOf (with_place table name (first + declared))) (sym grown) (subst (λ n. AreOf (with_place table name n) (names_in space (take i g) ++ name ∷ [])) (sym so_far.number) step);
        number = counted ∙ sym (ap length grown ∙ length-append (names_in space (take i g)) (name ∷ []));
        few = omega (arith, so_far.few);
        one = so_far.one;
      }

  pub other_next : name_in space d ≡ None → IsSoFar space g (i + 1) table first declared
  other_next h =
      let same : names_in space (take (i + 1) g) ≡ names_in space (take i g) = more ∙ ap (λ o. names_in space (take i g) ++ option_to_list o) h ∙ append-nil (names_in space (take i g)) in
      record { are = subst (AreOf table) (sym same) so_far.are; number = so_far.number ∙ sym (ap length same); few = omega (arith, so_far.few); one = so_far.one }
