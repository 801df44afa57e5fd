-- A text that isn't read is refused by its fault, and one that is read is opened.
use Rattle.std.proofs.Common.{refl, sym, subst}
use Rattle.std.specs.Prelude.{Some}
use Rattle.meaning_graph.specs.Graphs.{Text, Graph}
use Rattle.odin_shell.specs.Opened.{GraphIsRefused, ReadsAsGraph, not_read}
use Rattle.odin_shell.proofs.graph.read_text.Goals as goal

pub returns-in_ok-line_of_fault-in-Err : goal.returns-in_ok-line_of_fault-in-Err
returns-in_ok-line_of_fault-in-Err c =
    subst (λ (line : Text). GraphIsRefused (Some c.args.text) line) (sym c.in_ok-line_of_fault-in-Err.ensures.ok)
    (not_read c.args.text c.in-Err.fault (λ e. let err = rw c.in_ok-line_of_fault-in-Err.was at (c.line_of_fault.ensures.memory e) in cc) (rw c.as_slice.ensures at c.in-Err.ensures.err))

pub returns-in-Ok : goal.returns-in-Ok
returns-in-Ok c =
    let ok = rw c.as_slice.ensures at c.in-Ok.ensures.ok in
    subst (λ (g : Graph). ReadsAsGraph (Some c.args.text) c.args.text g) (sym c.into_graph.ensures)
    (record { there = refl; read = record { short = ok.short; spelled = ok.spelled; checked = c.checked.ensures } })
