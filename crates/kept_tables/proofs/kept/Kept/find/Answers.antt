use Rattle.std.proofs.Common.{◌≡◌, ap, sym, ◌∙◌}
use Rattle.std.specs.Prelude.{Some, None}
use Rattle.std.specs.Map.{lookup}
use Rattle.meaning_records.specs.Tables.{kept_outcome}
use Rattle.kept_contents.specs.contracts.keys.CallKeyPartialEq.TheImpl.{ghosts as key_eq}
use Rattle.kept_contents.specs.Borrowed.{as_key}
use Rattle.kept_contents.specs.Keys.{IsKeyOf}
use Rattle.kept_tables.specs.Holdings.{Holding}
use Rattle.kept_tables.proofs.HeldLemmas.{looked, not_held, outcome_in}
use Rattle.kept_tables.proofs.kept.Kept.find.Goals as goal

pub returns-in_default : goal.returns-in_default
returns-in_default c =
    let none = rw c.in_default.is at c.of.ensures.none in
    sym (not_held c.self.inside.heads c.self.inside.contents.texts c.self.inside.calls.entries.items c.args.call.now c.self.invariant.0.0 none)
    ∙ ap (λ (h : Holding). kept_outcome h.tables.calls c.args.call.now) c.self.view_is

pub returns-in-Some-get : goal.returns-in-Some-get
returns-in-Some-get c =
    let entries = c.self.inside.calls.entries.items in
    let key = as_key c.in-Some.sought in
    let is : IsKeyOf c.self.inside.heads c.self.inside.contents.texts key c.args.call.now = c.in-Some.ensures.some in
    let at : Some c.in-Some-get.kept.now ≡ lookup (key_eq.eq key) entries = c.in-Some-get.ensures in
    ap outcome_in at
    ∙ looked c.self.inside.heads c.self.inside.contents.texts entries key c.args.call.now c.self.invariant.0.0 is
    ∙ ap (λ (h : Holding). kept_outcome h.tables.calls c.args.call.now) c.self.view_is

pub returns-in-None : goal.returns-in-None
returns-in-None c =
    let entries = c.self.inside.calls.entries.items in
    let key = as_key c.in-Some.sought in
    let is : IsKeyOf c.self.inside.heads c.self.inside.contents.texts key c.args.call.now = c.in-Some.ensures.some in
    let at : None ≡ lookup (key_eq.eq key) entries = c.in-None.ensures in
    ap outcome_in at
    ∙ looked c.self.inside.heads c.self.inside.contents.texts entries key c.args.call.now c.self.invariant.0.0 is
    ∙ ap (λ (h : Holding). kept_outcome h.tables.calls c.args.call.now) c.self.view_is
