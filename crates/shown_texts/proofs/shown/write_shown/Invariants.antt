use Rattle.std.proofs.Common.{◌≡◌, ◌++◌, drop}
use Rattle.shown_texts.specs.Shown.{shown, shown_after}
use Rattle.shown_texts.proofs.shown.write_shown.Given as goal

-- what is written and what is left to write make the whole
abbrev pub invariant-loop-place : goal.invariant-loop-place
invariant-loop-place l = l.out ++ shown_after l.left (drop l.place l.text) ≡ l.initial.out ++ shown l.text
