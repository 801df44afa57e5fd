use Rattle.std.proofs.Common.{◌≡◌, ◌∙◌, sym, refl, subst, inl, inr, ◌⊎◌, ℕ, zero, suc, List, [], ◌∷◌, ◌<◌, ◌≤◌, Bool, true, false, Option, Some, None, arith}
use Rattle.std.specs.Fmt.{decimal}
use Rattle.std.specs.Str.{bytes_eq}
use Rattle.std.proofs.lemmas.Bool.{cases_lt}
use Rattle.std.proofs.lemmas.Slice.Eq.{bytes_eq-Decides}
use Rattle.std.proofs.Math.Nat.{le_refl}
use Rattle.std.specs.Prelude.{codes}
use Rattle.clap.specs.Words.{fault_of, matches_of, first_of}
use Rattle.odin_words.specs.Command.{command}
use Rattle.odin_words.specs.Asked.{AskedWork, Serve, Load, IsNumberUpTo, IsNoNumberUpTo, IsJobs, IsNoJobs, IsWork, serves, loads, IsNoWork, IsNotAccepted}
use Rattle.odin_words.specs.Laws.{IsAccepted}
use Rattle.odin_words.proofs.laws.each_is_accepted_or_not.Goals as goal

-- ---- numbers

-- the word spells a number, or none of these first ones
abbrev Spells : ℕ → List ℕ → ℕ → Type 0
Spells most word bound = ((number : ℕ) × IsNumberUpTo most word number) ⊎ ((number : ℕ) → number ≤ bound → ¬ IsNumberUpTo most word number)

one_more : (most : ℕ) (word : List ℕ) (bound : ℕ) → bound < most → Spells most word bound → (b : Bool) → bytes_eq word (decimal (suc bound)) ≡ b → Spells most word (suc bound)
one_more most word bound small (inl found) b is = inl found
one_more most word bound small (inr none) true is =
    inl (suc bound, record { spelled = (bytes_eq-Decides word (decimal (suc bound))).0 is; some = omega arith; few = omega arith })
one_more most word bound small (inr none) false is = inr (λ number few spelled. elim (cases_lt bound number) [
  | inl more ↦
      let same : number ≡ suc bound = omega arith in
      let text : word ≡ decimal (suc bound) = subst (λ (n : ℕ). word ≡ decimal n) same spelled.spelled in
      let equal : bytes_eq word (decimal (suc bound)) ≡ true = (bytes_eq-Decides word (decimal (suc bound))).1 text in
      absurd cc
  | inr less ↦ none number less spelled
])

up_to : (most : ℕ) (word : List ℕ) (bound : ℕ) → bound ≤ most → Spells most word bound
up_to most word zero small = inr (λ number few spelled. let some : 1 ≤ number = spelled.some in absurd (omega arith))
up_to most word (suc bound) small = one_more most word bound (omega arith) (up_to most word bound (omega arith)) _ refl

number_or_none : (most : ℕ) (word : List ℕ) → ((number : ℕ) × IsNumberUpTo most word number) ⊎ IsNoNumberUpTo most word
number_or_none most word = elim (up_to most word most (le_refl most)) [
  | inl found ↦ inl found
  | inr none ↦ inr (λ number spelled. none number spelled.few spelled)
]

-- ---- values

-- The value of `--jobs` is of a count, or of none.
jobs_or_none : (value : Option (List ℕ)) → ((jobs : ℕ) × IsJobs value jobs) ⊎ IsNoJobs value
jobs_or_none None = inl (1, refl)
jobs_or_none (Some word) = number_or_none 64 word

neither : (graph load : Option (List ℕ)) (work : AskedWork) → graph ≡ None → load ≡ None → IsWork graph load work → ⊥
neither graph load work g l (serves name) = cc
neither graph load work g l (loads word units number) = cc

both : (name word : List ℕ) (graph load : Option (List ℕ)) (work : AskedWork) → graph ≡ Some name → load ≡ Some word → IsWork graph load work → ⊥
both name word graph load work g l (serves same) = cc
both name word graph load work g l (loads same units number) = cc

unspelled : (word : List ℕ) (graph load : Option (List ℕ)) (work : AskedWork) → IsNoNumberUpTo 2000 word → graph ≡ None → load ≡ Some word → IsWork graph load work → ⊥
unspelled word graph load work none g l (serves name) = cc
unspelled word graph load work none g l (loads same units number) =
    let is : same ≡ word = cc in
    none units (subst (λ (t : List ℕ). IsNumberUpTo 2000 t units) is number)

-- The word GRAPH and the value of `--load` are of a work, or of none.
work_or_none : (graph load : Option (List ℕ)) → ((work : AskedWork) × IsWork graph load work) ⊎ IsNoWork graph load
work_or_none None None = inr (λ work is. neither None None work refl refl is)
work_or_none None (Some word) = elim (number_or_none 2000 word) [
  | inl found ↦ inl (Load found.0, loads word found.0 found.1)
  | inr none ↦ inr (λ work is. unspelled word None (Some word) work none refl refl is)
]
work_or_none (Some name) None = inl (Serve name, serves name)
work_or_none (Some name) (Some word) = inr (λ work is. both name word (Some name) (Some word) work refl refl is)

-- ---- words

with_values : (words : List (List ℕ)) → fault_of command words ≡ [] → IsAccepted words ⊎ IsNotAccepted words
with_values words taken = elim (work_or_none (first_of (codes "graph") (matches_of command words)) (first_of (codes "load") (matches_of command words))) [
  | inr none ↦ inr (λ work jobs asks. none work asks.has.work_is)
  | inl work ↦ elim (jobs_or_none (first_of (codes "jobs") (matches_of command words))) [
    | inl found ↦ inl (record { work = work.0; jobs = found.0; asks = record { taken = taken; has = record { work_is = work.1; jobs_is = found.1 } } })
    | inr none ↦ inr (λ other jobs asks. none jobs asks.has.jobs_is)
  ]
]

with_fault : (words : List (List ℕ)) (fault : _) → fault_of command words ≡ fault → IsAccepted words ⊎ IsNotAccepted words
with_fault words [] taken = with_values words taken
with_fault words (kind ∷ kinds) faulty = inr (λ work jobs asks. let clash : kind ∷ kinds ≡ [] = sym faulty ∙ asks.taken in absurd cc)

pub returns : goal.returns
returns c = λ words. (with_fault words _ refl, λ accepted none. none accepted.work accepted.jobs accepted.asks)
