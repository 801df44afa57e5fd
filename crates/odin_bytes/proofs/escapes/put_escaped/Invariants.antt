use Rattle.std.proofs.Common.{◌≡◌, ◌++◌, length, take}
use Rattle.meaning_texts.specs.Escapes.{escaped}
use Rattle.odin_bytes.proofs.escapes.put_escaped.Given as goal

-- what is put and what is left to escape make the whole, and what was there stays
abbrev pub invariant-runs : goal.invariant-runs
invariant-runs l = record {
  whole : l.out ++ escaped l.rest ≡ l.initial.out ++ escaped l.initial.rest;
  kept : take (length l.initial.out) l.out ≡ l.initial.out;
}

abbrev pub decreases-runs : goal.decreases-runs
decreases-runs l = length l.rest
