use Rattle.std.proofs.Common.{subst, rules}
use Rattle.meaning_graph.specs.Going.{start}
use Rattle.dg_reader.specs.Walks.{StopsAt, TokensHalt}
use Rattle.dg_reader.proofs.FaultLemmas.{fault_at}
use Rattle.dg_reader.proofs.FileLemmas.{none_read, more_read, left_within, decl_shorter}
use Rattle.dg_reader.proofs.read.read_decls.Goals as goal

pub decls-init : goal.decls-init
decls-init c = rw (c.new-decls.ensures, c.new-starts.ensures, c.new-cursor.ensures) (none_read c.args.text.now)

pub overflow_sub-start : goal.overflow_sub-start
overflow_sub-start c = rw c.left.ensures (left_within c.decls.decls c.decls.starts c.args.text.now c.decls.cursor c.decls.invariant)

pub overflow_sub-text : goal.overflow_sub-text
overflow_sub-text c =
    let s : StopsAt start c.decls.cursor c.decl.new.self = subst (λ stop. TokensHalt stop start c.decls.cursor c.decl.new.self) c.in-Err-Unexpected.field-0-is c.in-Err-Unexpected.ensures.err in
    rw c.left-in-Err-Unexpected.ensures (fault_at c.args.text.now c.decls.decls c.decls.cursor c.decl.new.self c.requires c.decls.invariant.spelled c.decls.invariant.tokens c.decls.invariant.past s).0

pub returns-in-Err-Unexpected-clause-err : goal.returns-in-Err-Unexpected-clause-err
returns-in-Err-Unexpected-clause-err c =
    let s : StopsAt start c.decls.cursor c.decl.new.self = subst (λ stop. TokensHalt stop start c.decls.cursor c.decl.new.self) c.in-Err-Unexpected.field-0-is c.in-Err-Unexpected.ensures.err in
    let fault = fault_at c.args.text.now c.decls.decls c.decls.cursor c.decl.new.self c.requires c.decls.invariant.spelled c.decls.invariant.tokens c.decls.invariant.past s in
    rw (c.syntax_fault.ensures, c.left-in-Err-Unexpected.ensures) (c.requires, search (rules, fault.1))

pub decls-smaller : goal.decls-smaller
decls-smaller c = decl_shorter c.in-Ok.decl c.decls.cursor c.decl.new.self c.in-Ok.ensures.ok

pub decls-preserved : goal.decls-preserved
decls-preserved c = rw (c.in_ok-push-2.ensures.ok, c.in_ok-push.ensures.ok, c.left.ensures) (more_read c.decls.decls c.decls.starts c.in-Ok.decl c.args.text.now c.decls.cursor c.decl.new.self c.requires c.decls.invariant c.in-Ok.ensures.ok)
