use Rattle.std.proofs.Common.{refl}
use Rattle.odin_shell.specs.Run.{unopened, served}
use Rattle.odin_shell.proofs.OpeningLemmas.{begins, session_ends}
use Rattle.odin_shell.proofs.entry.serve_store.Goals as goal

pub returns-in-Err : goal.returns-in-Err
returns-in-Err g c = unopened c.in-Err.fault (record {
  refused = c.in-Err.ensures.refused;
  crash = c.in-Err.ensures.any_moment;
  later = c.in-Err.ensures.cause.later;
  cause = c.in-Err.ensures.cause.err;
  works = c.in-Err.ensures.works;
}) c.end_unopened.ensures refl

pub serve_input-due-requires : goal.serve_input-due-requires
serve_input-due-requires g c = record { ready = c.in-Ok.ensures.new.ready; first = c.in-Ok.ensures.new.first; idle = c.requires.idle }

pub returns-in-Ok : goal.returns-in-Ok
returns-in-Ok g c =
    let begun = begins _ c.keeps_changes.ensures c.compactions_keep.ensures _ _ _ _ _ _ c.requires.jobs c.requires.idle refl refl refl refl c.in-Ok.ensures.opened (λ image follows left. g.met.D.Disk.only_now c.open.new.disk image follows left) c.in-Ok.ensures.new c.in-Ok.ensures.cause.ok in
    served c.serve_input-due.result _ (session_ends _ c.keeps_changes.ensures c.compactions_keep.ensures _ _ _ _ _ _ _ _ _ c.serve_input-due.result c.in-Ok.ensures.opened begun c.in-Ok.ensures.cause.ok c.serve_input-due.ensures) c.close.ensures
