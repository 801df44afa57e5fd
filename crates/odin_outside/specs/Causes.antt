-- When an object of the outside may answer that it failed. At `Ok` its count of faults is as it was, so that a fault ends its call: none is
-- swallowed, and none is tried again.
use Rattle.std.specs.Prelude.{◌≡◌, ◌≢◌, ℕ, ◌+◌, ◌-◌, ◌^◌, ◌≤◌, min, Result, Err, OnOk, OnErr, IfErr}

-- the last number of a count that is held in a u64
abbrev pub last_count : ℕ
last_count = 2 ^ 64 - 1

-- one more, or the last number
abbrev pub once_more : ℕ → ℕ
once_more count = min (count + 1) last_count

-- the count is higher than before, or stands at its last number
abbrev pub Rose : ℕ → ℕ → Type 0
Rose before now = once_more before ≤ now

-- the count never falls, and it rose
pub record IsCounted (before now : ℕ) : Type 0 where
  pub later : before ≤ now
  pub rose : Rose before now

-- The count never falls. At `Ok` it is as it was, and an error comes only where it rose.
pub record HasCause {T E : Type 0} (before now : ℕ) (result : Result T E) : Type 0 where
  pub later : before ≤ now
  pub ok : OnOk result (now ≡ before)
  pub failed : OnErr result (Rose before now)

-- The same where one error is want of memory, which is no fault: it leaves the count as it was.
pub record HasCauseBut {T E : Type 0} (memory : E) (before now : ℕ) (result : Result T E) : Type 0 where
  pub later : before ≤ now
  pub ok : OnOk result (now ≡ before)
  pub wanted : result ≡ Err memory → now ≡ before
  pub failed : IfErr result (λ fault. fault ≢ memory → Rose before now)
