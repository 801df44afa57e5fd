-- What is written after what is there.
use Rattle.std.specs.Prelude.{◌≡◌, ℕ, List, ◌++◌, length, take, Result, Ok, Err}

-- The text was added at the end. Where memory is wanted, what was there stands in front.
abbrev pub AppendsText : {E : Type 0} → Result Unit E → List ℕ → List ℕ → List ℕ → Type 0
AppendsText (Ok done) old new text = new ≡ old ++ text
AppendsText (Err fault) old new text = take (length old) new ≡ old
