use Rattle.std.proofs.Common.{◌≡◌, ◌++◌, length}
use Rattle.meaning_texts.specs.Escapes.{escaped}
use Rattle.odin_bytes.specs.Spellings.{AreBytes}
use Rattle.odin_bytes.proofs.escapes.unescape.Given as goal

-- the spelling is that of what is read, and then what is left
abbrev pub invariant-runs : goal.invariant-runs
invariant-runs l = record {
  read : l.initial.rest ≡ escaped l.text ++ l.rest;
  bytes : AreBytes l.text;
}

abbrev pub decreases-runs : goal.decreases-runs
decreases-runs l = length l.rest
