use Rattle.odin_shell.specs.Run.{load_served, load_failed}
use Rattle.odin_shell.proofs.OursLemmas.{load_ours}
use Rattle.odin_shell.proofs.load.run_load.Goals as goal

pub returns-in-Ok : goal.returns-in-Ok
returns-in-Ok g c = load_served c.in-Ok.loaded c.in-Ok.ensures.ok c.tell.ensures

pub returns-in-Err : goal.returns-in-Err
returns-in-Err g c = load_failed c.in-Err.fault c.in-Err.ensures.err c.end_failed.ensures

pub end_failed-requires : goal.end_failed-requires
end_failed-requires g c = load_ours _ c.in-Err.fault c.in-Err.ensures.err
