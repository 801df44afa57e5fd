-- The computed first fault is the first one, and there is none exactly where a list is checked.
use Rattle.std.proofs.Common.{◌≡◌, ℕ, zero, suc, ◌+◌, ◌-◌, ◌<◌, ◌≤◌, Bool, true, false, List, [], ◌∷◌, Option, Some, None, refl, sym, ap, ◌∙◌, subst, inl, inr, ◌⊎◌, arith}
use Rattle.std.specs.Prelude.{slice_get, MatchOption}
use Rattle.std.specs.List.{find}
use Rattle.std.proofs.lemmas.Bool.{cases_Bool, both_ways, cases_order}
use Rattle.object_values.specs.declared.graph.Decl.{Decl}
use Rattle.object_values.specs.declared.graph.GraphFault.{GraphFault}
use Rattle.object_values.specs.declared.graph.GraphFault.TheVariants.{UnknownType, DoubleName, SupertypeLoop, WrongKind, TooMany, UnknownParam}
use Rattle.meaning_graph.specs.Graphs.{Graph}
use Rattle.meaning_graph.specs.Checks.{has_fault, fault_number, Checked, FirstFault, all_faults, FaultAt, at_or_later, first_from, first_fault}

-- ---- the least fault of a declaration

fault_of : ℕ → GraphFault
fault_of zero = UnknownType
fault_of (suc zero) = UnknownType
fault_of (suc (suc zero)) = DoubleName
fault_of (suc (suc (suc zero))) = SupertypeLoop
fault_of (suc (suc (suc (suc zero)))) = WrongKind
fault_of (suc (suc (suc (suc (suc zero))))) = TooMany
fault_of (suc (suc (suc (suc (suc (suc n)))))) = UnknownParam

fault_back : (f : GraphFault) → fault_of (fault_number f) ≡ f
unfolding fault_of
fault_back UnknownType = refl
fault_back DoubleName = refl
fault_back SupertypeLoop = refl
fault_back WrongKind = refl
fault_back TooMany = refl
fault_back UnknownParam = refl

fault_counted : (f : GraphFault) → (1 ≤ fault_number f) × (fault_number f ≤ 6)
fault_counted UnknownType = (omega arith, omega arith)
fault_counted DoubleName = (omega arith, omega arith)
fault_counted SupertypeLoop = (omega arith, omega arith)
fault_counted WrongKind = (omega arith, omega arith)
fault_counted TooMany = (omega arith, omega arith)
fault_counted UnknownParam = (omega arith, omega arith)

same_fault : (f g : GraphFault) → fault_number f ≡ fault_number g → f ≡ g
same_fault f g e = sym (fault_back f) ∙ ap fault_of e ∙ fault_back g

-- the faults from the number on, up to the last
abbrev AreFrom : ℕ → List GraphFault → Type 0
AreFrom n [] = n ≡ 7
AreFrom n (f ∷ fs) = (fault_number f ≡ n) × AreFrom (suc n) fs

-- a fault that stands, and none that is less
pub record Least (p : GraphFault → Bool) (n : ℕ) (f : GraphFault) : Type 0 where
  pub holds : p f ≡ true
  pub least : (g : GraphFault) → n ≤ fault_number g → p g ≡ true → fault_number f ≤ fault_number g

none_from : (p : GraphFault → Bool) (n : ℕ) (fs : List GraphFault) → AreFrom n fs → find p fs ≡ None → (g : GraphFault) → n ≤ fault_number g → p g ≡ false
none_from p n [] a e g low = let c = fault_counted g in absurd (omega arith)
none_from p n (f ∷ fs) a e g low = elim (cases_Bool (p f)) [
  | inl t ↦ let h = rw t at e in let x : ⊥ = cc in absurd x
  | inr t ↦ elim (cases_order (fault_number g) n) [
    | inl s ↦ rw (same_fault g f (s ∙ sym a.0)) t
    | inr o ↦ elim o [
      | inl l ↦ absurd (omega arith)
      | inr l ↦ none_from p (suc n) fs a.1 (rw t at e) g l
    ]
  ]
]

least_from : (p : GraphFault → Bool) (n : ℕ) (fs : List GraphFault) (f : GraphFault) → AreFrom n fs → find p fs ≡ Some f → Least p n f
least_from p n [] f a e = let x : ⊥ = cc in absurd x
least_from p n (x ∷ fs) f a e = elim (cases_Bool (p x)) [
  | inl t ↦ let h = rw t at e in let s : x ≡ f = cc in record { holds = rw (← s) t; least = λ g low q. let k : fault_number f ≡ n = rw (← s) a.0 in omega arith }
  | inr t ↦ let r : Least p (suc n) f = least_from p (suc n) fs f a.1 (rw t at e) in
      record {
        holds = r.holds;
        least = λ g low q. elim (cases_order (fault_number g) n) [
          | inl s ↦ absurd (both_ways (p x) t (subst (λ y. p y ≡ true) (same_fault g x (s ∙ sym a.0)) q))
          | inr o ↦ elim o [
            | inl l ↦ absurd (omega arith)
            | inr l ↦ r.least g l q
          ]
        ];
      }
]

all_from_one : AreFrom 1 all_faults
all_from_one = (refl, (refl, (refl, (refl, (refl, (refl, refl))))))

-- ---- the first declaration with a fault

-- none of these declarations has a fault
abbrev NoFaults : Graph → ℕ → List Decl → Type 0
NoFaults g number ds = (i : ℕ) (d : Decl) (f : GraphFault) → slice_get ds i ≡ Some d → has_fault g (number + i) d f ≡ false

-- the fault stands at one of these declarations, none before it has one, and it has no lesser one
pub record FirstOf (g : Graph) (number : ℕ) (ds : List Decl) (at : FaultAt) : Type 0 where
  pub place : ℕ
  pub declaration : Decl
  pub there : slice_get ds place ≡ Some declaration
  pub number_is : at.number ≡ number + place
  pub wrong : has_fault g (number + place) declaration at.fault ≡ true
  pub least : (i : ℕ) (d : Decl) (f : GraphFault) → slice_get ds i ≡ Some d → has_fault g (number + i) d f ≡ true → (place < i) ⊎ ((place ≡ i) × (fault_number at.fault ≤ fault_number f))

-- what the first declaration and the later ones have
abbrev pub Answer : Graph → ℕ → List Decl → Option FaultAt → Type 0
Answer g number ds o = MatchOption o (NoFaults g number ds) (FirstOf g number ds)

here : (g : Graph) (number : ℕ) (d : Decl) (ds : List Decl) (f : GraphFault) → find (has_fault g number d) all_faults ≡ Some f → FirstOf g number (d ∷ ds) (record { number = number; fault = f })
here g number d ds f e =
    let l : Least (has_fault g number d) 1 f = least_from (has_fault g number d) 1 all_faults f all_from_one e in
    let z : number + 0 ≡ number = omega arith in
    record {
      place = 0;
      declaration = d;
      there = refl;
      number_is = sym z;
      wrong = rw z l.holds;
      least = λ i. first_is i;
    }
  where
    first_is : (i : ℕ) (c : Decl) (other : GraphFault) → slice_get (d ∷ ds) i ≡ Some c → has_fault g (number + i) c other ≡ true → (0 < i) ⊎ ((0 ≡ i) × (fault_number f ≤ fault_number other))
    first_is zero c other s w =
        let l : Least (has_fault g number d) 1 f = least_from (has_fault g number d) 1 all_faults f all_from_one e in
        let same : d ≡ c = cc in
        let z : number + 0 ≡ number = omega arith in
        let w2 : has_fault g number d other ≡ true = rw (same, ← z) w in
        let c2 = fault_counted other in
        inr (refl, l.least other c2.0 w2)
    first_is (suc i) c other s w = inl (omega arith)

none_here : (g : Graph) (number : ℕ) (d : Decl) → find (has_fault g number d) all_faults ≡ None → (f : GraphFault) → has_fault g number d f ≡ false
none_here g number d e f = let c = fault_counted f in none_from (has_fault g number d) 1 all_faults all_from_one e f c.0

none_later : (g : Graph) (number : ℕ) (d : Decl) (ds : List Decl) → ((f : GraphFault) → has_fault g number d f ≡ false) → NoFaults g (number + 1) ds → NoFaults g number (d ∷ ds)
none_later g number d ds first later zero c f s = let same : d ≡ c = cc in let z : number + 0 ≡ number = omega arith in rw (← same, z) (first f)
none_later g number d ds first later (suc i) c f s = let z : number + suc i ≡ number + 1 + i = omega arith in rw z (later i c f s)

later : (g : Graph) (number : ℕ) (d : Decl) (ds : List Decl) (at : FaultAt) → ((f : GraphFault) → has_fault g number d f ≡ false) → FirstOf g (number + 1) ds at → FirstOf g number (d ∷ ds) at
later g number d ds at first o =
    let z : number + suc o.place ≡ number + 1 + o.place = omega arith in
    record { place = suc o.place; declaration = o.declaration; there = o.there; number_is = o.number_is ∙ sym z; wrong = rw z o.wrong; least = λ i. least_is i }
  where
    least_is : (i : ℕ) (c : Decl) (f : GraphFault) → slice_get (d ∷ ds) i ≡ Some c → has_fault g (number + i) c f ≡ true → (suc o.place < i) ⊎ ((suc o.place ≡ i) × (fault_number at.fault ≤ fault_number f))
    least_is zero c f s w = let same : d ≡ c = cc in let z : number + 0 ≡ number = omega arith in let w2 : has_fault g number d f ≡ true = rw (same, ← z) w in absurd (both_ways _ (first f) w2)
    least_is (suc i) c f s w = let z : number + suc i ≡ number + 1 + i = omega arith in elim (o.least i c f s (rw z at w)) [
      | inl l ↦ inl (omega arith)
      | inr l ↦ inr (ap (λ n. suc n) l.0, l.1)
    ]

answered : (g : Graph) (number : ℕ) (ds : List Decl) → Answer g number ds (first_from g number ds)
answered g number [] = λ i d f s. let x : ⊥ = cc in absurd x
answered g number (d ∷ ds) = put (find (has_fault g number d) all_faults) refl (first_from g (number + 1) ds) (answered g (number + 1) ds)
  where
    put : (o : Option GraphFault) → find (has_fault g number d) all_faults ≡ o → (r : Option FaultAt) → Answer g (number + 1) ds r → Answer g number (d ∷ ds) (at_or_later number o r)
    put (Some f) e r a = here g number d ds f e
    put None e None a = none_later g number d ds (none_here g number d e) a
    put None e (Some at) a = later g number d ds at (none_here g number d e) a

-- ---- the list

checked_from : (g : Graph) → NoFaults g 1 g → Checked g
checked_from g none number fault h =
    let z : 1 + (number - 1) ≡ number = let c : 0 < number = h.counted in omega arith in
    let n : has_fault g number h.declaration fault ≡ false = rw z at (none (number - 1) h.declaration fault h.there) in
    both_ways _ n h.wrong

first_is_from : (g : Graph) (at : FaultAt) → FirstOf g 1 g at → FirstFault g at.number at.fault
first_is_from g at o =
    let n : at.number ≡ 1 + o.place = o.number_is in
    let place : at.number - 1 ≡ o.place = omega arith in
    record {
      there = record { declaration = o.declaration; counted = omega arith; there = rw place o.there; wrong = rw n o.wrong };
      least = λ m other h.
          let c : 0 < m = h.counted in
          let z : 1 + (m - 1) ≡ m = omega arith in
          let w : has_fault g (1 + (m - 1)) h.declaration other ≡ true = rw z h.wrong in
          elim (o.least (m - 1) h.declaration other h.there w) [
            | inl l ↦ inl (omega arith)
            | inr l ↦ let e : o.place ≡ m - 1 = l.0 in inr (omega arith, l.1)
          ];
    }

pub first_or_checked : (g : Graph) → MatchOption (first_fault g) (Checked g) (λ at. FirstFault g at.number at.fault)
unfolding first_fault
first_or_checked g = by_answer (first_from g 1 g) (answered g 1 g)
  where
    by_answer : (o : Option FaultAt) → Answer g 1 g o → MatchOption o (Checked g) (λ at. FirstFault g at.number at.fault)
    by_answer None a = checked_from g a
    by_answer (Some at) a = first_is_from g at a

pub record OneFault (number other : ℕ) (fault second : GraphFault) : Type 0 where
  pub number_is : other ≡ number
  pub fault_is : second ≡ fault

pub one_first : (g : Graph) (number other : ℕ) (fault second : GraphFault) → FirstFault g number fault → FirstFault g other second → OneFault number other fault second
one_first g number other fault second f h = elim (f.least other second h.there) [
  | inl l ↦ elim (h.least number fault f.there) [
    | inl m ↦ absurd (omega arith)
    | inr m ↦ let e : other ≡ number = m.0 in absurd (omega arith)
  ]
  | inr l ↦ let e : number ≡ other = l.0 in elim (h.least number fault f.there) [
    | inl m ↦ absurd (omega arith)
    | inr m ↦ let a : fault_number fault ≤ fault_number second = l.1 in let b : fault_number second ≤ fault_number fault = m.1 in record { number_is = sym e; fault_is = same_fault second fault (omega arith) }
  ]
]
