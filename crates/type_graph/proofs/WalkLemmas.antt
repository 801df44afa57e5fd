-- What a walk keeps, number by number.
use Rattle.std.proofs.Common.{◌≡◌, ◌≢◌, ℕ, zero, suc, ◌+◌, ◌<◌, Bool, true, false, List, [], ◌∷◌, ◌++◌, ◌⊎◌, inl, inr, refl, sym, ap, ◌∙◌, subst, length, arith, set, get_or, true≢false, length-set, length-append, replicate}
use Rattle.std.proofs.lemmas.List.{length-replicate, get_or_default, get_or-set_same, get_or-set_other}
use Rattle.meaning_texts.specs.Lists.{IsIn}
use Rattle.meaning_texts.proofs.Lemmas.{in_left, in_right, in_either}
use Rattle.type_graph.specs.Walks.{IsMarked, unmarked, Marks, Leads, here, over, IsReachedFrom}

same_or_not : (a b : ℕ) → (a ≡ b) ⊎ (a ≢ b)
same_or_not zero zero = inl refl
same_or_not zero (suc b) = inr (λ e. omega (arith, e))
same_or_not (suc a) zero = inr (λ e. omega (arith, e))
same_or_not (suc a) (suc b) = elim (same_or_not a b) [ inl e ↦ inl (ap suc e) | inr n ↦ inr (λ e. n (omega (arith, e))) ]

-- a marked number lies within the list
pub marked_within : (marked : List Bool) (n : ℕ) → IsMarked marked n → n < length marked
marked_within [] n h = absurd (true≢false (sym h))
marked_within (m ∷ ms) zero h = omega arith
marked_within (m ∷ ms) (suc n) h = omega (arith, marked_within ms n h)

pub in_one : (n m : ℕ) → IsIn n (m ∷ []) → n ≡ m
in_one n m (inl e) = e
in_one n m (inr h) = absurd h

pub in_at : (xs : List ℕ) (i d : ℕ) → i < length xs → IsIn (get_or xs i d) xs
in_at [] i d h = absurd (omega (arith, h))
in_at (x ∷ xs) zero d h = inl refl
in_at (x ∷ xs) (suc i) d h = inr (in_at xs i d (omega (arith, h)))

-- ---- a mark

unmarked-set : (marked : List Bool) (n : ℕ) → n < length marked → get_or marked n false ≡ false → unmarked (set marked n true) + 1 ≡ unmarked marked
unmarked-set [] n h e = absurd (omega (arith, h))
unmarked-set (true ∷ ms) zero h e = absurd (true≢false e)
unmarked-set (false ∷ ms) zero h e = omega arith
unmarked-set (true ∷ ms) (suc n) h e = unmarked-set ms n (omega (arith, h)) e
unmarked-set (false ∷ ms) (suc n) h e = omega (arith, unmarked-set ms n (omega (arith, h)) e)

-- the same of the parts of what a walk has seen
abbrev pub MarksTo : List Bool → List ℕ → List ℕ → List Bool → List ℕ → Type 0
MarksTo marked todo numbers m t = Marks (record { marked = marked; todo = todo }) numbers (record { marked = m; todo = t })

pub none_marked : (marked : List Bool) (todo : List ℕ) → MarksTo marked todo [] marked todo
none_marked marked todo = record {
  sized = refl;
  kept = λ n h. h;
  added = λ n h. absurd h;
  only = λ n h. inl h;
  still = λ n h. h;
  listed = λ n h. inl h;
  within = λ n h. inl h;
  work = refl;
}

module _ (marked : List Bool) (todo numbers : List ℕ) (m : List Bool) (t : List ℕ) (so_far : MarksTo marked todo numbers m t) (n : ℕ) where
  -- a number that is marked already
  pub marked_before : IsMarked m n → MarksTo marked todo (numbers ++ n ∷ []) m t
  marked_before h = record {
    sized = so_far.sized;
    kept = so_far.kept;
    added = λ k i. elim (in_either k numbers (n ∷ []) i) [ inl a ↦ so_far.added k a | inr b ↦ subst (IsMarked m) (sym (in_one k n b)) h ];
    only = λ k i. elim (so_far.only k i) [ inl a ↦ inl a | inr b ↦ inr (in_left k numbers (n ∷ []) b) ];
    still = so_far.still;
    listed = so_far.listed;
    within = so_far.within;
    work = so_far.work;
  }

  stays : (k : ℕ) → n < length m → IsMarked m k → IsMarked (set m n true) k
  stays k below h = elim (same_or_not k n) [
    | inl e ↦ subst (λ j. IsMarked (set m n true) j) (sym e) (get_or-set_same m n true false below)
    | inr d ↦ get_or-set_other m n k true false d ∙ h
  ]

  comes : (k : ℕ) → IsMarked (set m n true) k → (k ≡ n) ⊎ IsMarked m k
  comes k h = elim (same_or_not k n) [ inl e ↦ inl e | inr d ↦ inr (sym (get_or-set_other m n k true false d) ∙ h) ]

  -- a number that is new
  pub marked_now : n < length m → get_or m n false ≡ false → MarksTo marked todo (numbers ++ n ∷ []) (set m n true) (t ++ n ∷ [])
  marked_now below new = record {
    sized = length-set m n true ∙ so_far.sized;
    kept = λ k h. stays k below (so_far.kept k h);
    added = λ k i. elim (in_either k numbers (n ∷ []) i) [
      | inl a ↦ stays k below (so_far.added k a)
      | inr b ↦ subst (IsMarked (set m n true)) (sym (in_one k n b)) (get_or-set_same m n true false below)
    ];
    only = λ k h. elim (comes k h) [
      | inl e ↦ inr (in_right k numbers (n ∷ []) (inl e))
      | inr a ↦ elim (so_far.only k a) [ inl b ↦ inl b | inr i ↦ inr (in_left k numbers (n ∷ []) i) ]
    ];
    still = λ k i. in_left k t (n ∷ []) (so_far.still k i);
    listed = λ k h. elim (comes k h) [
      | inl e ↦ inr (in_right k t (n ∷ []) (inl e))
      | inr a ↦ elim (so_far.listed k a) [ inl b ↦ inl b | inr i ↦ inr (in_left k t (n ∷ []) i) ]
    ];
    within = λ k i. elim (in_either k t (n ∷ []) i) [
      | inl a ↦ elim (so_far.within k a) [ inl b ↦ inl b | inr h ↦ inr (stays k below h) ]
      | inr b ↦ inr (subst (IsMarked (set m n true)) (sym (in_one k n b)) (get_or-set_same m n true false below))
    ];
    work = omega (arith, unmarked-set m n below new, length-append t (n ∷ []), so_far.work);
  }

-- ---- the walk

pub leads_on : (lists : List (List ℕ)) (a b c : ℕ) → Leads lists a b → IsIn c (get_or lists b []) → Leads lists a c
leads_on lists a b c (here d) i = over a c c i (here c)
leads_on lists a b c (over d e f j r) i = over d e c j (leads_on lists e f c r i)

-- What is marked is reached, and only from what is to do may more be reached.
pub record IsWalk (lists : List (List ℕ)) (starts : List ℕ) (marked : List Bool) (todo : List ℕ) : Type 0 where
  pub sized : length marked ≡ length lists
  pub started : (n : ℕ) → IsIn n starts → IsMarked marked n
  pub sound : (n : ℕ) → IsMarked marked n → IsReachedFrom lists starts n
  pub closed : (n : ℕ) → IsMarked marked n → IsIn n todo ⊎ ((k : ℕ) → IsIn k (get_or lists n []) → IsMarked marked k)
  pub within : (n : ℕ) → IsIn n todo → IsMarked marked n

none_true : (n k : ℕ) → IsMarked (replicate n false) k → ⊥
none_true zero k h = true≢false (sym h)
none_true (suc n) zero h = true≢false (sym h)
none_true (suc n) (suc k) h = none_true n k h

module _ (lists : List (List ℕ)) (starts : List ℕ) where
  -- after the starts are marked
  pub walk_begins : (marked : List Bool) (todo : List ℕ) → MarksTo (replicate (length lists) false) [] starts marked todo → IsWalk lists starts marked todo
  walk_begins marked todo m = record {
    sized = m.sized ∙ length-replicate (length lists) false;
    started = m.added;
    sound = λ n h. elim (m.only n h) [ inl a ↦ absurd (none_true (length lists) n a) | inr i ↦ (n, i, here n) ];
    closed = λ n h. elim (m.listed n h) [ inl a ↦ absurd (none_true (length lists) n a) | inr i ↦ inl i ];
    within = λ n i. elim (m.within n i) [ inl a ↦ absurd a | inr h ↦ h ];
  }

  -- after the last of what is to do is looked at
  pub walk_goes : (m : List Bool) (t : List ℕ) (b : ℕ) (marked : List Bool) (todo : List ℕ) → IsWalk lists starts m (t ++ b ∷ []) → MarksTo m t (get_or lists b []) marked todo → IsWalk lists starts marked todo
  walk_goes m t b marked todo w k = record {
    sized = k.sized ∙ w.sized;
    started = λ n i. k.kept n (w.started n i);
    sound = λ n h. elim (k.only n h) [
      | inl a ↦ w.sound n a
      | inr i ↦ let r = w.sound b (w.within b (in_right b t (b ∷ []) (inl refl))) in (r.0, r.1, leads_on lists r.0 b n r.2 i)
    ];
    closed = λ n h. elim (k.listed n h) [
      | inl a ↦ elim (w.closed n a) [
        | inl i ↦ elim (in_either n t (b ∷ []) i) [
          | inl j ↦ inl (k.still n j)
          | inr j ↦ inr (λ c l. k.added c (subst (λ x. IsIn c (get_or lists x [])) (in_one n b j) l))
        ]
        | inr all ↦ inr (λ c l. k.kept c (all c l))
      ]
      | inr i ↦ inl i
    ];
    within = λ n i. elim (k.within n i) [ inl a ↦ k.kept n (w.within n (in_left n t (b ∷ []) a)) | inr h ↦ h ];
  }

  all_marked : (marked : List Bool) → IsWalk lists starts marked [] → (a b : ℕ) → Leads lists a b → IsMarked marked a → IsMarked marked b
  all_marked marked w a b (here c) h = h
  all_marked marked w a b (over c d e i r) h = elim (w.closed c h) [ inl j ↦ absurd j | inr all ↦ all_marked marked w d e r (all d i) ]

  pub walk_ends : (marked : List Bool) → IsWalk lists starts marked [] → (n : ℕ) → IsReachedFrom lists starts n → IsMarked marked n
  walk_ends marked w n r = all_marked marked w r.0 n r.2 (w.started r.0 r.1)

  pub todo_within : (marked : List Bool) (t : List ℕ) (b : ℕ) → IsWalk lists starts marked (t ++ b ∷ []) → b < length lists
  todo_within marked t b w = subst (λ n. b < n) w.sized (marked_within marked b (w.within b (in_right b t (b ∷ []) (inl refl))))

-- a number that is read at a place
pub read_default : {A : Type 0} (xs : List A) (n : ℕ) (x d : A) → n < length xs → x ≡ get_or xs n x → get_or xs n d ≡ x
read_default xs n x d below h = get_or_default xs n d x below ∙ sym h

-- where there is nothing to take
pub nothing_left : (todo : List ℕ) → (0 < length todo → false ≡ true) → todo ≡ []
nothing_left [] h = refl
nothing_left (n ∷ todo) h = absurd (true≢false (sym (h (omega arith))))
