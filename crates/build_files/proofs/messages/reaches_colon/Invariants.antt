use Rattle.std.proofs.Common.{◌≡◌, drop}
use Rattle.build_files.specs.MessageLines.{reaches_colon}
use Rattle.build_files.proofs.messages.reaches_colon.Given as goal

-- what is left tells as the whole does
abbrev pub invariant-loop-byte : goal.invariant-loop-byte
invariant-loop-byte l = reaches_colon (drop l.byte-index l.text) ≡ reaches_colon l.text
