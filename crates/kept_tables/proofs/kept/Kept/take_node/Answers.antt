use Rattle.kept_notes.specs.Loaded.{MayBeLoaded}
use Rattle.kept_notes.proofs.Lemmas.{loaded_noted}
use Rattle.kept_tables.proofs.LoadLemmas.{noted}
use Rattle.kept_tables.proofs.kept.Kept.take_node.Goals as goal

pub note-requires : goal.note-requires
note-requires c =
    let may : MayBeLoaded c.args.self.now.tables.contents c.args.stored = c.may_note.ensures.0 c.if-not-may_note.false in
    rw c.in_ok-noted.ensures (loaded_noted c.args.self.now.tables.contents c.contents_are_short.ensures c.reached_stand_last.ensures c.args.stored may)

pub returns-clause-some : goal.returns-clause-some
returns-clause-some c =
    let may : MayBeLoaded c.args.self.now.tables.contents c.args.stored = c.may_note.ensures.0 c.if-not-may_note.false in
    noted c.args.self.now.tables c.args.stored may c.in_ok-noted.noted c.in_ok-place.place c.note.new.self c.in_ok-noted.ensures
    c.in_ok-place.ensures.tables c.records_fit.ensures.says c.in_ok-place.ensures.at
