use Rattle.std.proofs.Common.{◌≡◌, [], ap, ◌∙◌}
use Rattle.meaning_records.specs.Tables.{Tables}
use Rattle.meaning_records.specs.Batches.{contents_of}
use Rattle.kept_contents.specs.Added.{texts_of_parts, texts_of_outputs}
use Rattle.kept_contents.specs.Stocks.{values_of_contents}
use Rattle.kept_contents.proofs.Lemmas.{grown_twice, texts_append}
use Rattle.kept_tables.proofs.BatchLemmas.{if_ok, call_prepared, call_short, call_stays}
use Rattle.kept_tables.proofs.HeldLemmas.{held_grown}
use Rattle.kept_tables.proofs.kept.Kept.prepare_call.Goals as goal

pub prepare-requires-clause-call : goal.prepare-requires-clause-call
prepare-requires-clause-call c =
    let held = c.in_ok-held.held in
    let same : c.stored_outcome.new.self.tables ≡ c.args.self.now.tables = c.stored_outcome.ensures.same ∙ c.stored_call.ensures.same ∙ c.hold.ensures.same in (
      rw (c.stored_outcome.ensures.heads, c.stored_call.ensures.heads) (held_grown c.hold.new.self.heads c.hold.new.self.texts c.stored_outcome.new.self.texts held (grown_twice c.hold.new.self.texts c.stored_call.new.self.texts c.stored_outcome.new.self.texts c.stored_call.ensures.texts c.stored_outcome.ensures.texts) c.in_ok-held.ensures.held),
      rw (same, c.in_ok-held.ensures.call, c.in_ok-copy.ensures) c.requires,
    )

pub prepare-requires-clause-short : goal.prepare-requires-clause-short
prepare-requires-clause-short c =
    let outcome = c.args.outcome.now in
    let contents = c.args.self.now.tables.contents in
    let first : c.hold.new.self.tables.contents ≡ contents = ap (λ (t : Tables). t.contents) c.hold.ensures.same in
    let before : c.stored_call.new.self.tables.contents ≡ contents = ap (λ (t : Tables). t.contents) c.stored_call.ensures.same ∙ first in
    let front = rw (first, c.new-added.ensures) at c.in_ok-stored.ensures.adds in
    let back = rw before at c.in_ok-given.ensures.adds in
    let adds = texts_append contents (texts_of_parts c.args.call.now.parts) (texts_of_outputs outcome.outputs) [] (values_of_contents c.stored_call.new.added) (values_of_contents c.stored_outcome.new.added) front back in
    call_short contents c.args.call.now outcome (values_of_contents c.stored_outcome.new.added) c.requires.formed c.requires.fits adds

pub returns-clause-ok : goal.returns-clause-ok
returns-clause-ok c =
    let held = c.in_ok-held.held in
    let outcome = c.args.outcome.now in
    let contents = c.args.self.now.tables.contents in
    let first : c.hold.new.self.tables.contents ≡ contents = ap (λ (t : Tables). t.contents) c.hold.ensures.same in
    let before : c.stored_call.new.self.tables.contents ≡ contents = ap (λ (t : Tables). t.contents) c.stored_call.ensures.same ∙ first in
    let same : c.prepare.new.self.tables ≡ c.args.self.now.tables = c.prepare.ensures.same ∙ c.stored_outcome.ensures.same ∙ c.stored_call.ensures.same ∙ c.hold.ensures.same in
    let front = rw (first, c.new-added.ensures) at c.in_ok-stored.ensures.adds in
    let back = rw before at c.in_ok-given.ensures.adds in
    let adds = texts_append contents (texts_of_parts c.args.call.now.parts) (texts_of_outputs outcome.outputs) [] (values_of_contents c.stored_call.new.added) (values_of_contents c.stored_outcome.new.added) front back in
    let called = call_stays contents (contents_of (texts_of_outputs outcome.outputs)) c.stored_call.new.added c.stored_outcome.new.added c.in_ok-stored.stored c.args.call.now back (rw first at c.in_ok-stored.ensures.call) in
    let came = rw before at c.in_ok-given.ensures.outcome in
    let made = rw (c.in_ok-rest.ensures, c.in_ok-copy.ensures, c.new.ensures.items) at c.prepare.ensures.made in
    if_ok c.prepare.result made (λ batch makes. call_prepared c.args.self.now c.prepare.new.self same c.stored_outcome.new.added batch held c.args.call.now c.in_ok-held.ensures.call outcome c.requires adds c.in_ok-stored.stored c.in_ok-given.given called came makes)

pub returns-clause-notes : goal.returns-clause-notes
returns-clause-notes c =
    let made = rw c.new.ensures.items at c.prepare.ensures.made in
    if_ok c.prepare.result made (λ batch makes. makes.notes_are)
