-- The looks of a walk, one call after another.
use Rattle.std.proofs.Common.{◌≡◌, ℕ, ◌+◌, ◌≤◌, List, length, sym, ap, subst, arith}
use Rattle.std.specs.Prelude.{Option, Result, Err}
use Rattle.object_values.specs.declared.nodes.Node.{Node}
use Rattle.meaning_texts.specs.Limits.{height_limit}
use Rattle.derive_walk.specs.declared.found.Found.{Found}
use Rattle.derive_walk.specs.declared.walk.Walk.{Walk}
use Rattle.derive_walk.specs.Calls.{GivenOutcomes}
use Rattle.derive_walk.specs.Looks.{GoesByLooks, LooksNoMore, TakesLooks, looks_by, looks_in, lost, spare_at}
use Rattle.derive_walk.specs.Tables.{Waits}
use Rattle.derive_walk.specs.Walks.{Walked}
use Rattle.derive_walk.specs.Worlds.{World}
use Rattle.derive_walk.proofs.RootLemmas.{seen_so}

-- ---- steps

-- without a step
pub no_step : (some before spare : ℕ) → TakesLooks some some before before spare
no_step some before spare = record { more = omega arith; least = omega arith; most = omega arith }

-- one after the other
pub looks_then : (some more most before mid now spare : ℕ) → TakesLooks some more before mid 0 → TakesLooks more most mid now spare
    → TakesLooks some most before now spare
looks_then some more most before mid now spare first second = record {
  more = omega (arith, first.more, second.more);
  least = omega (arith, first.least, second.least);
  most = omega (arith, first.most, second.most);
}

pub looks_wider : (some more before now spare wider : ℕ) → spare ≤ wider → TakesLooks some more before now spare → TakesLooks some more before now wider
looks_wider some more before now spare wider up looks = record { more = looks.more; least = looks.least; most = omega (arith, looks.most, up) }

-- at want of memory some may be lost
pub looks_lost : {T E : Type 0} (result : Result T E) (fault : E) (some more before now extra : ℕ) → result ≡ Err fault
    → TakesLooks some more before now (height_limit + 1) → TakesLooks some more before now (lost result + extra)
looks_lost result fault some more before now extra is looks =
    looks_wider some more before now (height_limit + 1) (lost result + extra) (omega (arith, ap lost is)) looks

pub one_lost : {T E : Type 0} (result : Result T E) (fault : E) → result ≡ Err fault → 1 ≤ lost result
one_lost result fault is = omega (arith, ap lost is)

-- where no more was looked at
pub no_look : (old new : Walk) → LooksNoMore old new → (before spare : ℕ) → TakesLooks (looks_in old) (looks_in new) before before spare
no_look old new same before spare =
    let looked = ap length same.looked in
    let taken = ap length same.taken in
    record { more = omega (arith, looked, taken); least = omega (arith, looked, taken); most = omega (arith, looked, taken) }

-- ---- what is taken too

module _ (w : World) (given : GivenOutcomes) {P : Type 0} (old : Walk) where
  pub goes_still : (before spare : ℕ) → GoesByLooks w given P old old before before spare
  goes_still before spare = record { steps = no_step (looks_in old) before spare; taken = λ p taken. taken }

  pub goes_wider : (new : Walk) (before now spare wider : ℕ) → spare ≤ wider → GoesByLooks w given P old new before now spare
      → GoesByLooks w given P old new before now wider
  goes_wider new before now spare wider up goes = record { steps = looks_wider (looks_in old) (looks_in new) before now spare wider up goes.steps; taken = goes.taken }

  -- the path is no part of it
  pub goes_cut : (new : Walk) (before now spare : ℕ) → GoesByLooks w given P old new before now spare → (path : List Node)
      → GoesByLooks w given P old (record new { path = path }) before now spare
  goes_cut new before now spare goes path = record { steps = goes.steps; taken = goes.taken }

  -- one after the other
  pub goes_then : {Q : Type 0} (mid new : Walk) (before between now spare : ℕ) → GoesByLooks w given P old mid before between 0 → (P → Q)
      → GoesByLooks w given Q mid new between now spare → GoesByLooks w given P old new before now spare
  goes_then mid new before between now spare first from second = record {
    steps = looks_then (looks_in old) (looks_in mid) (looks_in new) before between now spare first.steps second.steps;
    taken = λ p taken. second.taken (from p) (first.taken p taken);
  }

  -- by what was so before
  pub goes_from : {Q : Type 0} (new : Walk) (before now spare : ℕ) → (P → Q) → GoesByLooks w given Q old new before now spare
      → GoesByLooks w given P old new before now spare
  goes_from new before now spare from goes = record { steps = goes.steps; taken = λ p taken. goes.taken (from p) taken }

  -- a chain was followed down
  pub goes_down : (before now spare : ℕ) → before ≤ now → now ≤ before + spare → GoesByLooks w given P old old before now spare
  goes_down before now spare later most = record {
    steps = record { more = omega arith; least = omega (arith, later); most = omega (arith, most) };
    taken = λ p taken. taken;
  }

  -- a node waits
  pub goes_waiting : (waiting : Waits) (before spare : ℕ) → GoesByLooks w given P old (record old { waiting = waiting }) before before spare
  goes_waiting waiting before spare = record { steps = no_step (looks_in old) before spare; taken = λ p taken. taken }

  -- at want of memory some may be lost
  pub goes_lost : {E : Type 0} (new : Walk) (before now : ℕ) (result : Result (Option Found) E) (fault : E) → result ≡ Err fault
      → GoesByLooks w given P old new before now (height_limit + 1) → GoesByLooks w given P old new before now (spare_at new.looked result)
  goes_lost new before now result fault is goes = subst (λ r. GoesByLooks w given P old new before now (spare_at new.looked r)) (sym is) goes

-- ---- a walk, as its callers see it

pub looks_seen : (start : Walk) (given : GivenOutcomes) (result : Option Found) (old : Walked) (more before now spare : ℕ) → seen_so start given result ≡ old
    → TakesLooks (looks_in start) more before now spare → TakesLooks (looks_by old) more before now spare
looks_seen start given result old more before now spare same looks = subst (λ z. TakesLooks (looks_by z) more before now spare) same looks
