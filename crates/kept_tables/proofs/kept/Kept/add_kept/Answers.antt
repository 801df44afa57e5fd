use Rattle.std.proofs.Common.{◌≡◌, ◌++◌, ◌∷◌, [], ap, subst, sym}
use Rattle.std.specs.Prelude.{IsNone}
use Rattle.meaning_records.specs.Tables.{kept_outcome, with_call}
use Rattle.kept_contents.specs.declared.keys.CallKey.{CallKey}
use Rattle.kept_contents.specs.Borrowed.{key_of}
use Rattle.kept_contents.specs.Heads.{head_of}
use Rattle.kept_contents.specs.Held.{IsHeld}
use Rattle.kept_tables.specs.declared.call_table.Entry.{Entry}
use Rattle.kept_tables.specs.Holdings.{Holding}
use Rattle.kept_tables.proofs.HeldLemmas.{calls_push, kept_push, not_kept_yet}
use Rattle.kept_tables.proofs.kept.Kept.add_kept.Goals as goal

pub push-requires-clause-fresh : goal.push-requires-clause-fresh
push-requires-clause-fresh c =
    let heads = c.self.inside.heads in
    let texts = c.self.inside.contents.texts in
    let entries = c.self.inside.calls.entries.items in
    let held : IsHeld heads texts c.args.held = subst (λ (h : Holding). IsHeld h.heads h.texts c.args.held) (sym c.self.view_is) c.requires.held in
    let new = subst (λ (h : Holding). IsNone (kept_outcome h.tables.calls c.args.held.call)) (sym c.self.view_is) c.requires.may.new in
    rw c.into_parts-key.ensures.key (not_kept_yet heads texts entries (key_of c.args.held) c.args.held.call c.self.invariant.0.0 held new)

pub invariant_of-self : goal.invariant_of-self
invariant_of-self c =
    let heads = c.self.inside.heads in
    let texts = c.self.inside.contents.texts in
    let entries = c.self.inside.calls.entries.items in
    let key : CallKey = key_of c.args.held in
    let entry : Entry = record { head = head_of c.args.held.call; outcome = c.args.outcome } in
    let held : IsHeld heads texts c.args.held = subst (λ (h : Holding). IsHeld h.heads h.texts c.args.held) (sym c.self.view_is) c.requires.held in
    let last : c.push.new.self.entries.items ≡ entries ++ (key, entry) ∷ [] = rw (c.into_parts-key.ensures.key, c.into_parts-key.ensures.head) at c.push.ensures.entries in (
      (
        rw last (kept_push heads texts entries key entry c.self.invariant.0.0 held (c.requires.may.formed, c.requires.may.fits)),
        c.push.ensures.index,
      ),
      c.self.invariant.1,
    )

pub returns-clause-tables : goal.returns-clause-tables
returns-clause-tables c =
    let entries = c.self.inside.calls.entries.items in
    let key : CallKey = key_of c.args.held in
    let entry : Entry = record { head = head_of c.args.held.call; outcome = c.args.outcome } in
    let last : c.push.new.self.entries.items ≡ entries ++ (key, entry) ∷ [] = rw (c.into_parts-key.ensures.key, c.into_parts-key.ensures.head) at c.push.ensures.entries in
    rw (last, calls_push entries key entry) (ap (λ (h : Holding). with_call c.args.held.call c.args.outcome h.tables) c.self.view_is)
