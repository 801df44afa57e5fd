use Rattle.std.proofs.Common.{inl, inr, ◌<◌, ◌≤◌, length, subst, sym, ◌∙◌, arith}
use Rattle.odin_journal.proofs.AppendLemmas.{Agree, agree_start}
use Rattle.odin_journal.proofs.StartLemmas.{first_agree, marks_there, front_there, start_there}
use Rattle.odin_journal.proofs.reads.read_start.Goals as goal

pub returns-in_default-clause-none : goal.returns-in_default-clause-none
returns-in_default-clause-none g c quiet front =
    let image = (g.D.Disk.told c.args.disk.now).seen in
    let agree : Agree 64 image c.as_slice.result.now = first_agree image _ (c.as_slice.ensures ∙ c.in_ok-front.ensures.bytes.same quiet.quiet) (omega (arith, quiet.long)) in
    rw c.in_default.is at c.start_in.ensures.none (marks_there image _ agree front)

pub returns-then-start-lt-FRONT_SIZE-clause-none : goal.returns-then-start-lt-FRONT_SIZE-clause-none
returns-then-start-lt-FRONT_SIZE-clause-none g c quiet front =
    let image = (g.D.Disk.told c.args.disk.now).seen in
    let agree : Agree 64 image c.as_slice.result.now = first_agree image _ (c.as_slice.ensures ∙ c.in_ok-front.ensures.bytes.same quiet.quiet) (omega (arith, quiet.long)) in
    let start = sym c.in-Some.ensures.start.place ∙ agree_start 64 image _ agree (omega arith) in
    elim c.then-start-lt-FRONT_SIZE.either [
      | inl below ↦ omega (arith, start, front.starts_behind)
      | inr past ↦ omega (arith, past.1, start, front.starts_within, quiet.long)
    ]

pub returns-clause-some : goal.returns-clause-some
returns-clause-some g c quiet =
    let image = (g.D.Disk.told c.args.disk.now).seen in
    let agree : Agree 64 image c.as_slice.result.now = first_agree image _ (c.as_slice.ensures ∙ c.in_ok-front.ensures.bytes.same quiet.quiet) (omega (arith, quiet.long)) in (
      front_there image _ agree c.in-Some.ensures.some (subst (λ s. 64 ≤ s) (sym c.in-Some.ensures.start.place) (omega arith)) (subst (λ s. s < length image) (sym c.in-Some.ensures.start.place) (omega (arith, quiet.long))),
      start_there image _ c.in-Some.start agree c.in-Some.ensures.start,
    )
