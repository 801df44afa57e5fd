use Rattle.std.proofs.Common.{sym, subst}
use Rattle.std.specs.Prelude.{Option}
use Rattle.meaning_graph.specs.Graphs.{Text}
use Rattle.odin_shell.specs.Opened.{GraphIsRefused, no_file, no_file_line}
use Rattle.odin_shell.proofs.graph.read_given.Goals as goal

pub returns-in_ok-from_slice-in-None : goal.returns-in_ok-from_slice-in-None
returns-in_ok-from_slice-in-None c = subst (λ (line : Text). GraphIsRefused c.args.given line) (sym c.in_ok-from_slice-in-None.ensures) (subst (λ (given : Option Text). GraphIsRefused given no_file_line) (sym c.in-None.is) no_file)
