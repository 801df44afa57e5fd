use Rattle.odin_shell.proofs.InputLemmas.{ends_unbegun}
use Rattle.odin_shell.proofs.input.serve_input.Goals as goal

pub returns-in-Err : goal.returns-in-Err
returns-in-Err g c = ends_unbegun _ _ _ _ c.requires.idle
