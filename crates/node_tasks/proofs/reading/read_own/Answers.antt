use Rattle.std.proofs.Common.{◌≡◌, subst}
use Rattle.std.specs.Prelude.{IfOk}
use Rattle.meaning_tasks.specs.Tasks.{Own}
use Rattle.node_tasks.proofs.ReadLemmas.{few_lines, lines_read}
use Rattle.node_tasks.proofs.reading.read_own.Goals as goal

pub lines_own-requires : goal.lines_own-requires
lines_own-requires c = record { few = few_lines c.as_slice.result.now c.in_ok-lines-in-Simple.lines c.in_ok-lines-in-Simple.ensures }

pub returns-in_ok-lines-in-Simple : goal.returns-in_ok-lines-in-Simple
returns-in_ok-lines-in-Simple c =
    subst (λ (o : Own). IfOk c.lines_own.result (λ own. own ≡ o))
    (lines_read c.args.planned.now c.args.node.now c.args.of.now c.args.value.now c.in-Simple.text c.as_slice.result.now c.in_ok-lines-in-Simple.lines c.in-Simple.is c.as_slice.ensures c.in_ok-lines-in-Simple.ensures)
    c.lines_own.ensures
