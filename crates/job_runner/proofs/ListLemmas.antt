-- Lists of calls that run: one more, one less, and how many.
use Rattle.std.proofs.Common.{◌≡◌, ◌≤◌, ◌⊎◌, ℕ, suc, List, [], ◌∷◌, ◌++◌, map, length, inl, inr, refl, sym, ap, subst, arith, length-append}
use Rattle.object_values.specs.declared.calls.Call.{Call}
use Rattle.odin_outside.specs.declared.events.Running.{Running}
use Rattle.meaning_texts.specs.Lists.{IsIn}
use Rattle.meaning_texts.proofs.Lemmas.{in_left, in_right, in_either, split_at}
use Rattle.job_runner.specs.declared.jobs.Flying.{Flying}
use Rattle.job_runner.specs.Flights.{flying, calls_in, slots_in, tool_of, AreDistinct}

-- ---- none twice

pub distinct_more : {A : Type 0} (xs : List A) (x : A) → AreDistinct xs → (IsIn x xs → ⊥) → AreDistinct (xs ++ x ∷ [])
distinct_more [] x distinct new = (λ i. i, tt)
distinct_more (y ∷ xs) x distinct new = (
  λ i. elim (in_either y xs (x ∷ []) i) [ inl j ↦ distinct.0 j | inr (inl e) ↦ new (inl (sym e)) | inr (inr none) ↦ absurd none ],
  distinct_more xs x distinct.1 (λ i. new (inr i)),
)

in_more : {A : Type 0} (y x : A) (front back : List A) → IsIn y (front ++ back) → IsIn y (front ++ x ∷ back)
in_more y x front back i = elim (in_either y front back i) [ inl j ↦ in_left y front (x ∷ back) j | inr j ↦ in_right y front (x ∷ back) (inr j) ]

pub distinct_less : {A : Type 0} (front back : List A) (x : A) → AreDistinct (front ++ x ∷ back) → AreDistinct (front ++ back)
distinct_less [] back x distinct = distinct.1
distinct_less (y ∷ front) back x distinct = (λ i. distinct.0 (in_more y x front back i), distinct_less front back x distinct.1)

-- Calls that are all among others, none twice, are no more.
pub no_more : (few many : List Call) → AreDistinct few → ((c : Call) → IsIn c few → IsIn c many) → length few ≤ length many
no_more [] many distinct among = omega arith
no_more (c ∷ few) many distinct among =
    let parts = split_at c many (among c (inl refl)) in
    let rest : length few ≤ length (parts.0 ++ parts.1) = no_more few (parts.0 ++ parts.1) distinct.1 (λ d i. elim (in_either d parts.0 (c ∷ parts.1) (subst (λ l. IsIn d l) parts.2 (among d (inr i)))) [
      | inl j ↦ in_left d parts.0 parts.1 j
      | inr k ↦ elim k [
        | inl e ↦ absurd (distinct.0 (subst (λ z. IsIn z few) e i))
        | inr j ↦ in_right d parts.0 parts.1 j
      ]
    ]) in
    omega (arith, rest, ap length parts.2, length-append parts.0 (c ∷ parts.1), length-append parts.0 parts.1)

-- ---- one more, and one between others

pub calls_one_more : (running : List Flying) (f : Flying) → calls_in (running ++ f ∷ []) ≡ calls_in running ++ f.call ∷ []
calls_one_more [] f = refl
calls_one_more (x ∷ running) f = ap (λ l. x.call ∷ l) (calls_one_more running f)

pub slots_one_more : (running : List Flying) (f : Flying) → slots_in (running ++ f ∷ []) ≡ slots_in running ++ f.slot ∷ []
slots_one_more [] f = refl
slots_one_more (x ∷ running) f = ap (λ l. x.slot ∷ l) (slots_one_more running f)

pub told_one_more : (running : List Flying) (f : Flying) → ◌≡◌ {A = List Running} (map tool_of (running ++ f ∷ [])) (map tool_of running ++ tool_of f ∷ [])
told_one_more [] f = refl
told_one_more (x ∷ running) f = ap (λ (l : List Running). tool_of x ∷ l) (told_one_more running f)

pub length_one_more : (running : List Flying) (f : Flying) → length (running ++ f ∷ []) ≡ suc (length running)
length_one_more [] f = refl
length_one_more (x ∷ running) f = ap suc (length_one_more running f)

pub calls_cut : (front back : List Flying) (x : Flying) → calls_in (front ++ x ∷ back) ≡ calls_in front ++ x.call ∷ calls_in back
calls_cut [] back x = refl
calls_cut (y ∷ front) back x = ap (λ l. y.call ∷ l) (calls_cut front back x)

pub slots_cut : (front back : List Flying) (x : Flying) → slots_in (front ++ x ∷ back) ≡ slots_in front ++ x.slot ∷ slots_in back
slots_cut [] back x = refl
slots_cut (y ∷ front) back x = ap (λ l. y.slot ∷ l) (slots_cut front back x)

pub calls_both : (front back : List Flying) → calls_in (front ++ back) ≡ calls_in front ++ calls_in back
calls_both [] back = refl
calls_both (y ∷ front) back = ap (λ l. y.call ∷ l) (calls_both front back)

pub slots_both : (front back : List Flying) → slots_in (front ++ back) ≡ slots_in front ++ slots_in back
slots_both [] back = refl
slots_both (y ∷ front) back = ap (λ l. y.slot ∷ l) (slots_both front back)

-- ---- which run

-- as many calls as run
pub calls_long : (running : List Flying) → length (calls_in running) ≡ length running
calls_long [] = refl
calls_long (f ∷ running) = ap suc (calls_long running)

pub call_there : (slot : ℕ) (call : Call) (front back : List Flying) → IsIn call (calls_in (front ++ flying slot call ∷ back))
call_there slot call [] back = inl refl
call_there slot call (f ∷ front) back = inr (call_there slot call front back)

-- what ran before, or the one that was started
pub call_or_last : (running : List Flying) (slot : ℕ) (call c : Call) → IsIn c (calls_in (running ++ flying slot call ∷ [])) → IsIn c (calls_in running) ⊎ (c ≡ call)
call_or_last [] slot call c (inl e) = inr e
call_or_last [] slot call c (inr none) = absurd none
call_or_last (x ∷ running) slot call c (inl e) = inl (inl e)
call_or_last (x ∷ running) slot call c (inr i) = elim (call_or_last running slot call c i) [ inl j ↦ inl (inr j) | inr e ↦ inr e ]

-- What ran goes on as more are started.
pub call_goes_on : (running more : List Flying) (c : Call) → IsIn c (calls_in running) → IsIn c (calls_in (running ++ more))
call_goes_on (x ∷ running) more c (inl e) = inl e
call_goes_on (x ∷ running) more c (inr i) = inr (call_goes_on running more c i)
call_goes_on [] more c i = absurd i

-- What runs still ran before.
pub call_before : (front back : List Flying) (x : Flying) (c : Call) → IsIn c (calls_in (front ++ back)) → IsIn c (calls_in (front ++ x ∷ back))
call_before [] back x c i = inr i
call_before (y ∷ front) back x c (inl e) = inl e
call_before (y ∷ front) back x c (inr i) = inr (call_before front back x c i)

-- What ran before runs still, but for the one that ended.
pub call_left : (front back : List Flying) (x : Flying) (c : Call) → IsIn c (calls_in (front ++ x ∷ back)) → IsIn c (calls_in (front ++ back)) ⊎ (c ≡ x.call)
call_left [] back x c (inl e) = inr e
call_left [] back x c (inr i) = inl i
call_left (y ∷ front) back x c (inl e) = inl (inl e)
call_left (y ∷ front) back x c (inr i) = elim (call_left front back x c i) [ inl j ↦ inl (inr j) | inr e ↦ inr e ]

-- The one that ended isn't among the others.
pub call_is_out : (front back : List Flying) (x : Flying) → AreDistinct (calls_in (front ++ x ∷ back)) → IsIn x.call (calls_in (front ++ back)) → ⊥
call_is_out [] back x distinct i = distinct.0 i
call_is_out (y ∷ front) back x distinct (inl e) = distinct.0 (subst (λ c. IsIn c (calls_in (front ++ x ∷ back))) e (call_there x.slot x.call front back))
call_is_out (y ∷ front) back x distinct (inr i) = call_is_out front back x distinct.1 i
