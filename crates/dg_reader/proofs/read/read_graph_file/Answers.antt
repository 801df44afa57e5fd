use Rattle.std.proofs.Common.{length, ap, arith, rules}
use Rattle.dg_reader.proofs.FileLemmas.{fault_within, check_refused}
use Rattle.dg_reader.proofs.read.read_graph_file.Goals as goal

pub overflow_sub-start : goal.overflow_sub-start
overflow_sub-start c =
    let first = rw c.in-Err-Graph.field-0-is at c.in-Err-Graph.ensures.err in
    (fault_within _ c.in-Err-Graph.number c.in-Err-Graph.fault first).0

pub bounds-as_slice-number : goal.bounds-as_slice-number
bounds-as_slice-number c =
    let first = rw c.in-Err-Graph.field-0-is at c.in-Err-Graph.ensures.err in
    let within = (fault_within _ c.in-Err-Graph.number c.in-Err-Graph.fault first).1 in
    let same = c.in_ok-decls.ensures.ok.counted in
    let l = ap length c.as_slice.ensures in
    omega arith

pub returns-in-Err-Graph-clause-err : goal.returns-in-Err-Graph-clause-err
returns-in-Err-Graph-clause-err c =
    let first = rw c.in-Err-Graph.field-0-is at c.in-Err-Graph.ensures.err in
    let r = check_refused _ c.in_ok-decls.field-0.starts c.args.text.now c.in-Err-Graph.number c.in-Err-Graph.fault c.in_ok-decls.ensures.ok first in
    rw (c.check_fault.ensures, c.as_slice.ensures) (search rules, r.1)
