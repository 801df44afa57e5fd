use Rattle.std.proofs.Common.{◌∙◌, subst, sym, Some}
use Rattle.odin_bytes.specs.Spellings.{AreBytes}
use Rattle.odin_commands.specs.Reading.{SpellsMessage}
use Rattle.odin_commands.proofs.ObjectLemmas.{no_level, no_label, no_spelling, message_read}
use Rattle.odin_commands.proofs.items.read_message.Goals as goal

pub returns-in_default-status_of : goal.returns-in_default-status_of
returns-in_default-status_of c =
    let cut = c.in-Some.ensures.some in
    no_level c.args.line.now c.in-Some.word.now c.in-Some.rest.now cut.0 cut.1 c.requires c.in_default-status_of.ensures.none

pub returns-in_default-cut_at : goal.returns-in_default-cut_at
returns-in_default-cut_at c =
    let cut = c.in-Some.ensures.some in
    no_label c.args.line.now c.in-Some.word.now c.in-Some.rest.now cut.0 cut.1 c.requires c.in_default-cut_at.ensures.none

pub returns-in_default-2 : goal.returns-in_default-2
returns-in_default-2 c =
    let cut = c.in-Some.ensures.some in
    let again = c.in-Some-cut_at.ensures.some in
    no_spelling c.args.line.now c.in-Some.word.now c.in-Some.rest.now c.in-Some-cut_at.label.now c.in-Some-cut_at.spelling.now cut.0 cut.1 c.requires again.0 again.1
    (rw c.in_default-2.is at c.in_ok-text.ensures.none)

pub returns : goal.returns
returns c =
    let cut = c.in-Some.ensures.some in
    let again = c.in-Some-cut_at.ensures.some in
    let label = c.in_ok-label.ensures ∙ c.in_ok-from_slice.ensures in
    subst (λ text. SpellsMessage c.args.line.now (Some (record { label = c.in_ok-label.label; level = c.in-Some-status_of.level; text = text }))) (sym c.in_ok-body.ensures)
    (message_read c.args.line.now c.in-Some.word.now c.in-Some.rest.now c.in-Some-cut_at.label.now c.in-Some-cut_at.spelling.now
    (record { label = c.in_ok-label.label; level = c.in-Some-status_of.level; text = c.in-Some-2.text })
    cut.0 c.in-Some-status_of.ensures.some c.requires again.0 again.1 label
    (rw c.in-Some-2.is at c.in_ok-text.ensures.some) (subst AreBytes c.as_slice.ensures c.holds_bytes.ensures))
