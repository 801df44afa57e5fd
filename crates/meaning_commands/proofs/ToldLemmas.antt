-- What is taken and what is left, after one part and then another.
use Rattle.std.proofs.Common.{◌≡◌, ℕ, ◌+◌, ◌-◌, List, [], ◌++◌, take, drop, length, Option, Some, None, ap, sym, refl, ◌∙◌, arith}
use Rattle.std.proofs.lemmas.List.{append_assoc}
use Rattle.std.proofs.Math.Seq.{take-add}
use Rattle.std.proofs.lemmas.Grind.{common_steps}
use Rattle.odin_outside.specs.Told.{appended, prepended}
use Rattle.meaning_commands.specs.Objects.{SinkTold, took}

pub appended-appended : (start : Option (List ℕ)) (a b : List ℕ) → appended (appended start a) b ≡ appended start (a ++ b)
appended-appended None a b = refl
appended-appended (Some had) a b = ap Some (append_assoc had a b)

pub appended_none : (start : Option (List ℕ)) → start ≡ appended start []
appended_none None = refl
appended_none (Some had) = ap Some (grind (arith, common_steps))

-- one text was taken and then another
pub took-took : (start : SinkTold) (a b : List ℕ) → took (took start a) b ≡ took start (a ++ b)
took-took start a b = ap (λ taken. record { taken = taken; faults = start.faults }) (appended-appended start.taken a b)

pub took_is : (before now : SinkTold) (bytes : List ℕ) → now.taken ≡ appended before.taken bytes → now.faults ≡ before.faults → now ≡ took before bytes
took_is before now bytes taken faults = λ i. record { taken = taken i; faults = faults i }

pub took_none : (start : SinkTold) → start ≡ took start []
took_none start = ap (λ taken. record { taken = taken; faults = start.faults }) (appended_none start.taken)

pub prepended-prepended : (a b : List ℕ) (left : Option (List ℕ)) → prepended a (prepended b left) ≡ prepended (a ++ b) left
prepended-prepended a b None = refl
prepended-prepended a b (Some rest) = ap Some (sym (append_assoc a b rest))

pub prepended_none : (left : Option (List ℕ)) → left ≡ prepended [] left
prepended_none None = refl
prepended_none (Some rest) = refl

-- all bytes from a place on
pub rest_is : (bytes : List ℕ) (at : ℕ) → take (length bytes - at) (drop at bytes) ≡ drop at bytes
rest_is bytes at = grind (arith, common_steps)

-- the next write of a text, of which the first bytes were taken
pub one_more_write : (start before now : Option (List ℕ)) (bytes : List ℕ) (at n : ℕ)
    → before ≡ appended start (take at bytes) → now ≡ appended before (take n (take (length bytes - at) (drop at bytes)))
    → now ≡ appended start (take (at + n) bytes)
one_more_write start before now bytes at n was is =
    is
    ∙ ap (λ b. appended b (take n (take (length bytes - at) (drop at bytes)))) was
    ∙ appended-appended start (take at bytes) _
    ∙ ap (λ xs. appended start (take at bytes ++ take n xs)) (rest_is bytes at)
    ∙ ap (appended start) (sym (take-add at n bytes))
