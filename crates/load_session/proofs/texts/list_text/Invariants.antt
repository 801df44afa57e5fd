use Rattle.std.proofs.Common.{◌≡◌}
use Rattle.load_session.specs.Session.{list_text}
use Rattle.load_session.proofs.texts.list_text.Given as goal

abbrev pub invariant-loop-before : goal.invariant-loop-before
invariant-loop-before l = l.text ≡ list_text l.before
