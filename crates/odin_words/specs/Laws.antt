-- What holds of all words.
use Rattle.std.specs.Prelude.{◌≡◌, ◌⊎◌, ℕ, List}
use Rattle.odin_words.specs.Asked.{AskedWork, AsksFor, IsNotAccepted}

-- What words ask for is one work and one count of jobs.
abbrev pub AskedIsOne : Type 0
AskedIsOne =
    (words : List (List ℕ)) (work other : AskedWork) (jobs count : ℕ)
    → AsksFor words work jobs → AsksFor words other count → (other ≡ work) × (count ≡ jobs)

-- The words ask for something.
pub record IsAccepted (words : List (List ℕ)) : Type 0 where
  pub work : AskedWork
  pub jobs : ℕ
  pub asks : AsksFor words work jobs

-- Words are accepted or they aren't, and never both.
abbrev pub EachIsAcceptedOrNot : Type 0
EachIsAcceptedOrNot =
    (words : List (List ℕ))
    → (IsAccepted words ⊎ IsNotAccepted words) × (IsAccepted words → ¬ IsNotAccepted words)
