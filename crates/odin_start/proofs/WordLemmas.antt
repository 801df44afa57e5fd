-- Lists that are moved item by item to the end of another.
use Rattle.std.proofs.Common.{arith, ◌≡◌, ◌∙◌, ◌+◌, ℕ, List, [], ◌∷◌, ◌++◌, take, length, sym, ap, ap₂}
use Rattle.std.proofs.lemmas.List.{length-append, append_assoc}
use Rattle.std.proofs.Math.Seq.{take-append_seam}

-- what was moved, and then what is left, are all
pub record AreMoved {X : Type 0} (moved left all : List X) (number total : ℕ) : Type 0 where
  pub items : moved ++ left ≡ all
  pub count : length moved + number ≡ total

pub none_moved : {X : Type 0} (moved left all : List X) (count total : ℕ) → moved ≡ [] → left ≡ all → count ≡ total → AreMoved moved left all count total
none_moved moved left all count total none same number = record {
  items = ap₂ (λ m l. m ++ l) none same;
  count = omega (arith, ap length none, number);
}

pub one_moved : {X : Type 0} (moved more left rest all : List X) (x : X) (count less total : ℕ) → more ≡ moved ++ x ∷ [] → left ≡ x ∷ rest → less + 1 ≡ count → AreMoved moved left all count total → AreMoved more rest all less total
one_moved moved more left rest all x count less total pushed first number are = record {
  items = ap (λ m. m ++ rest) pushed ∙ append_assoc moved (x ∷ []) rest ∙ ap (λ l. moved ++ l) (sym first) ∙ are.items;
  count = omega (arith, ap length pushed, length-append moved (x ∷ []), number, are.count);
}

pub all_moved : {X : Type 0} (moved left all : List X) (count total : ℕ) → count ≡ 0 → AreMoved moved left all count total → moved ≡ take total all
all_moved moved left all count total none are = sym (take-append_seam moved left) ∙ ap₂ take (omega (arith, none, are.count)) are.items
