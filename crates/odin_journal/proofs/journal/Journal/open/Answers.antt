use Rattle.std.proofs.Common.{[], subst, sym}
use Rattle.meaning_records.specs.Images.{IsNew, IsWritten, NotOurs}
use Rattle.odin_journal.specs.Faults.{IsOpenFault}
use Rattle.odin_journal.specs.Moments.{IsQuietAt, Untouched}
use Rattle.odin_journal.proofs.MomentLemmas.{untouched_on}
use Rattle.odin_outside.specs.Disk.{IsQuiet}
use Rattle.odin_journal.specs.Rest.{OpensJournal}
use Rattle.odin_journal.specs.Starts.{IsStartOf}
use Rattle.odin_journal.proofs.OpenLemmas.{handed, open_fault, look_again, opens_new, opens_store, new_start, keeps_untouched, keeps_made}
use Rattle.odin_journal.proofs.journal.Journal.open.Goals as goal

pub returns-in_err-looked-clause-any_moment : goal.returns-in_err-looked-clause-any_moment
returns-in_err-looked-clause-any_moment g c = keeps_untouched (g.D.Disk.told c.args.disk.now) (g.D.Disk.told c.look.new.disk) c.look.ensures.untouched

pub returns-in_err-make_new-clause-any_moment : goal.returns-in_err-make_new-clause-any_moment
returns-in_err-make_new-clause-any_moment g c = keeps_made (g.D.Disk.told c.args.disk.now) (g.D.Disk.told c.look.new.disk) (g.D.Disk.told c.make_new.new.disk) c.in_ok-looked.looked c.look.ensures.untouched c.in_ok-looked.ensures.look c.if-looked.true c.make_new.ensures.any_moment

pub returns-then-looked-clause-any_moment : goal.returns-then-looked-clause-any_moment
returns-then-looked-clause-any_moment g c = keeps_made (g.D.Disk.told c.args.disk.now) (g.D.Disk.told c.look.new.disk) (g.D.Disk.told c.make_new.new.disk) c.in_ok-looked.looked c.look.ensures.untouched c.in_ok-looked.ensures.look c.if-looked.true c.make_new.ensures.any_moment

pub returns-then-looked-clause-opened : goal.returns-then-looked-clause-opened
returns-then-looked-clause-opened g c =
    let old = g.D.Disk.told c.args.disk.now in
    let mid = g.D.Disk.told c.look.new.disk in
    let new = g.D.Disk.told c.make_new.new.disk in
    let opens : IsQuiet old → OpensJournal old new [] 64 = λ quiet.
    let same : Untouched old mid = c.look.ensures.untouched quiet in
    let is_new : IsNew old.seen = (c.in_ok-looked.ensures.look quiet).new c.if-looked.true in
    opens_new old mid new same is_new (c.in_ok-make_new.ensures.ok same.quiet (subst (λ image. IsNew image) (sym same.same) is_new)) in
    record {
      opens = λ quiet. rw c.new.ensures (opens quiet);
      starts = λ quiet.
          let is_new : IsNew old.seen = (c.in_ok-looked.ensures.look quiet).new c.if-looked.true in
          new_start old.seen new.seen ((opens quiet).made is_new);
    }

pub returns-in_err-start-clause-refused : goal.returns-in_err-start-clause-refused
returns-in_err-start-clause-refused g c =
    let old = g.D.Disk.told c.args.disk.now in
    let mid = g.D.Disk.told c.look.new.disk in
    let new = g.D.Disk.told c.read_store.new.disk in
    let looked = c.in_ok-looked.looked in
    handed (IsOpenFault old new) c.from_residual-in_err-start.result c.in_err-start.field-0.0 c.from_residual-in_err-start.ensures.1
    (open_fault old new (λ at. IsQuietAt mid looked.size → IsWritten mid.seen → NotOurs mid.seen at) c.in_err-start.field-0.0
    (λ at told quiet.
    let again = look_again old mid looked c.look.ensures.untouched c.in_ok-looked.ensures.look c.if-looked.false quiet in
    subst (λ image. NotOurs image at) (c.look.ensures.untouched quiet).same (told again.0 again.1))
    (λ quiet. untouched_on old mid new (c.look.ensures.untouched quiet) (c.read_store.ensures.left.untouched (c.look.ensures.untouched quiet).quiet))
    c.in_err-start.ensures.err)

pub returns-clause-any_moment : goal.returns-clause-any_moment
returns-clause-any_moment g c =
    let old = g.D.Disk.told c.args.disk.now in
    let mid = g.D.Disk.told c.look.new.disk in
    let new = g.D.Disk.told c.read_store.new.disk in
    keeps_untouched old new (λ quiet. untouched_on old mid new (c.look.ensures.untouched quiet) (c.read_store.ensures.left.untouched (c.look.ensures.untouched quiet).quiet))

pub returns-clause-opened : goal.returns-clause-opened
returns-clause-opened g c =
    let old = g.D.Disk.told c.args.disk.now in
    let mid = g.D.Disk.told c.look.new.disk in
    let new = g.D.Disk.told c.read_store.new.disk in
    let looked = c.in_ok-looked.looked in
    record {
      opens = λ quiet.
          let again = look_again old mid looked c.look.ensures.untouched c.in_ok-looked.ensures.look c.if-looked.false quiet in
          opens_store old mid new c.in_ok-start.records c.in_ok-start.end (c.look.ensures.untouched quiet) (c.read_store.ensures.left.untouched again.0.quiet) again.1 (c.in_ok-start.ensures.store again.0 again.1);
      starts = λ quiet.
          let again = look_again old mid looked c.look.ensures.untouched c.in_ok-looked.ensures.look c.if-looked.false quiet in
          let same = (c.read_store.ensures.left.untouched again.0.quiet).same in
          subst (λ image. IsStartOf image c.in_ok-start.start) (sym same) (c.in_ok-start.ensures.start again.0).1;
    }
