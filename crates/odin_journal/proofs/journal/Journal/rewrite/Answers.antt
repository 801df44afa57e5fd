use Rattle.std.proofs.Common.{◌∙◌, rules}
use Rattle.odin_journal.proofs.ReplaceLemmas.{stays_replaced, leaves_replaced, replaces, copy_room, ready_next, works_for}
use Rattle.odin_journal.proofs.journal.Journal.rewrite.Goals as goal

pub returns-in_default-clause-any_moment : goal.returns-in_default-clause-any_moment
returns-in_default-clause-any_moment g c = stays_replaced c.args.self.now (g.D.Disk.told c.args.disk.now) c.args.records.now (λ image follows left. g.met.D.Disk.only_now c.args.disk.now image follows left)

pub returns-in_default-place_for-clause-any_moment : goal.returns-in_default-place_for-clause-any_moment
returns-in_default-place_for-clause-any_moment g c = stays_replaced c.args.self.now (g.D.Disk.told c.args.disk.now) c.args.records.now (λ image follows left. g.met.D.Disk.only_now c.args.disk.now image follows left)

pub returns-in_err-copy-clause-any_moment : goal.returns-in_err-copy-clause-any_moment
returns-in_err-copy-clause-any_moment g c = stays_replaced c.args.self.now (g.D.Disk.told c.args.disk.now) c.args.records.now (λ image follows left. g.met.D.Disk.only_now c.args.disk.now image follows left)

pub replace-requires-clause-room : goal.replace-requires-clause-room
replace-requires-clause-room g c =
    copy_room c.args.self.now c.in-Some-place_for.place c.in-Some.size c.as_slice.result.now c.args.records.now
    (record { size_is = c.in-Some.ensures.some; placed = c.in-Some-place_for.ensures.some; copy_is = c.as_slice.ensures ∙ c.in_ok-copy.ensures }) (g.D.Disk.size_of c.args.disk.now) c.requires

pub returns-in-Ok-clause-replaced : goal.returns-in-Ok-clause-replaced
returns-in-Ok-clause-replaced g c =
    replaces c.args.self.now c.in-Some-place_for.place c.in-Some.size c.as_slice.result.now c.args.records.now
    (record { size_is = c.in-Some.ensures.some; placed = c.in-Some-place_for.ensures.some; copy_is = c.as_slice.ensures ∙ c.in_ok-copy.ensures })
    (g.D.Disk.told c.args.disk.now) (g.D.Disk.told c.replace.new.disk) c.args.self.now.spent c.in-Ok.ensures.ok c.in-Ok.ensures.bytes

pub returns-in-Ok-clause-any_moment : goal.returns-in-Ok-clause-any_moment
returns-in-Ok-clause-any_moment g c =
    leaves_replaced c.args.self.now c.in-Some-place_for.place c.in-Some.size c.as_slice.result.now c.args.records.now
    (record { size_is = c.in-Some.ensures.some; placed = c.in-Some-place_for.ensures.some; copy_is = c.as_slice.ensures ∙ c.in_ok-copy.ensures })
    (g.D.Disk.told c.args.disk.now) (g.D.Disk.told c.replace.new.disk) c.replace.ensures.any_moment

pub returns-in-Ok-clause-state : goal.returns-in-Ok-clause-state
returns-in-Ok-clause-state g c = record {
  ready =
      ready_next c.args.self.now c.in-Some-place_for.place c.in-Some.size c.as_slice.result.now c.args.records.now
      (record { size_is = c.in-Some.ensures.some; placed = c.in-Some-place_for.ensures.some; copy_is = c.as_slice.ensures ∙ c.in_ok-copy.ensures })
      (g.D.Disk.size_of c.args.disk.now) (g.D.Disk.size_of c.replace.new.disk) c.requires c.in-Ok.ensures.size;
  spent = search rules;
}

pub returns-in-Ok-clause-works : goal.returns-in-Ok-clause-works
returns-in-Ok-clause-works g c =
    works_for c.args.self.now c.in-Some-place_for.place c.in-Some.size c.as_slice.result.now c.args.records.now
    (record { size_is = c.in-Some.ensures.some; placed = c.in-Some-place_for.ensures.some; copy_is = c.as_slice.ensures ∙ c.in_ok-copy.ensures })
    (g.D.Disk.told c.args.disk.now) (g.D.Disk.told c.replace.new.disk) c.replace.ensures.works

pub returns-clause-any_moment : goal.returns-clause-any_moment
returns-clause-any_moment g c =
    leaves_replaced c.args.self.now c.in-Some-place_for.place c.in-Some.size c.as_slice.result.now c.args.records.now
    (record { size_is = c.in-Some.ensures.some; placed = c.in-Some-place_for.ensures.some; copy_is = c.as_slice.ensures ∙ c.in_ok-copy.ensures })
    (g.D.Disk.told c.args.disk.now) (g.D.Disk.told c.replace.new.disk) c.replace.ensures.any_moment

pub returns-clause-works : goal.returns-clause-works
returns-clause-works g c =
    works_for c.args.self.now c.in-Some-place_for.place c.in-Some.size c.as_slice.result.now c.args.records.now
    (record { size_is = c.in-Some.ensures.some; placed = c.in-Some-place_for.ensures.some; copy_is = c.as_slice.ensures ∙ c.in_ok-copy.ensures })
    (g.D.Disk.told c.args.disk.now) (g.D.Disk.told c.replace.new.disk) c.replace.ensures.works
