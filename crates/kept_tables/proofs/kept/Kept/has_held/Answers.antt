use Rattle.std.proofs.Common.{◌∙◌, ap, subst, sym}
use Rattle.std.specs.Prelude.{is_some}
use Rattle.std.specs.Map.{lookup}
use Rattle.meaning_records.specs.Tables.{kept_outcome}
use Rattle.kept_contents.specs.declared.keys.CallKey.{CallKey}
use Rattle.kept_contents.specs.contracts.keys.CallKeyPartialEq.TheImpl.{ghosts as key_eq}
use Rattle.kept_contents.specs.Borrowed.{key_of}
use Rattle.kept_contents.specs.Held.{IsHeld}
use Rattle.kept_tables.specs.Holdings.{Holding}
use Rattle.kept_tables.proofs.HeldLemmas.{looked, some_found, some_outcome}
use Rattle.kept_tables.proofs.kept.Kept.has_held.Goals as goal

pub returns : goal.returns
returns c =
    let held = c.args.held.now in
    let entries = c.self.inside.calls.entries.items in
    let is : IsHeld c.self.inside.heads c.self.inside.contents.texts held = subst (λ (h : Holding). IsHeld h.heads h.texts held) (sym c.self.view_is) c.requires in
    c.is_some.ensures
    ∙ some_found _ c.get.result _ c.get.ensures
    ∙ ap (λ (k : CallKey). is_some (lookup (key_eq.eq k) entries)) c.of_held-sought.ensures
    ∙ some_outcome (lookup (key_eq.eq (key_of held)) entries)
    ∙ ap is_some (looked c.self.inside.heads c.self.inside.contents.texts entries (key_of held) held.call c.self.invariant.0.0 is)
    ∙ ap (λ (h : Holding). is_some (kept_outcome h.tables.calls held.call)) c.self.view_is
