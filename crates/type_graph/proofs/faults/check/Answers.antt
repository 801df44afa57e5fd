-- Declaration by declaration.
use Rattle.std.proofs.Common.{◌∙◌, ◌+◌, sym, ap, subst, rules}
use Rattle.std.specs.Prelude.{find}
use Rattle.meaning_graph.specs.Checks.{has_fault, all_faults}
use Rattle.type_graph.proofs.FaultLemmas.{IsClean, clean_yet, fault_here, clean_here, few_types_yet, few_suffixes_yet, few_params_yet, few_makers_yet, all_clean, few_at_end}
use Rattle.type_graph.proofs.faults.check.Goals as goal

pub loop-decl-init : goal.loop-decl-init
loop-decl-init c = clean_yet c.args.decls.now

pub returns-in-Some-clause-err : goal.returns-in-Some-clause-err
returns-in-Some-clause-err c =
    let first =
    fault_here c.args.decls.now c.loop-decl.decl-index c.loop-decl.number c.loop-decl.before c.loop-decl.invariant c.decl-item.result c.loop-decl-test.true c.decl-item.is c.in-Some.fault
    (sym c.in-Some.is ∙ c.in_ok-fault.ensures.fault ∙ ap (λ g. find (has_fault g (c.loop-decl.number + 1) c.decl-item.result) all_faults) c.requires) in
    search (rules, first)

pub add-requires-clause-types : goal.add-requires-clause-types
add-requires-clause-types c = few_types_yet c.args.decls.now c.loop-decl.decl-index c.loop-decl.number c.loop-decl.before c.loop-decl.invariant

pub add-requires-clause-suffixes : goal.add-requires-clause-suffixes
add-requires-clause-suffixes c = few_suffixes_yet c.args.decls.now c.loop-decl.decl-index c.loop-decl.number c.loop-decl.before c.loop-decl.invariant

pub add-requires-clause-params : goal.add-requires-clause-params
add-requires-clause-params c = few_params_yet c.args.decls.now c.loop-decl.decl-index c.loop-decl.number c.loop-decl.before c.loop-decl.invariant

pub add-requires-clause-makers : goal.add-requires-clause-makers
add-requires-clause-makers c = few_makers_yet c.args.decls.now c.loop-decl.decl-index c.loop-decl.number c.loop-decl.before c.loop-decl.invariant

pub loop-decl-preserved : goal.loop-decl-preserved
loop-decl-preserved c =
    subst (IsClean c.args.decls.now (c.loop-decl.decl-index + 1) (c.loop-decl.number + 1)) (sym c.add.ensures)
    (clean_here c.args.decls.now c.loop-decl.decl-index c.loop-decl.number c.loop-decl.before c.loop-decl.invariant c.decl-item.result c.loop-decl-test.true c.decl-item.is
    (sym c.in_default.is ∙ c.in_ok-fault.ensures.fault ∙ ap (λ g. find (has_fault g (c.loop-decl.number + 1) c.decl-item.result) all_faults) c.requires)
    (c.in_ok-fault.ensures.few c.in_default.is))

pub returns-clause-ok : goal.returns-clause-ok
returns-clause-ok c = record {
  checked = all_clean c.args.decls.now c.loop-decl.decl-index c.loop-decl.number c.loop-decl.before c.loop-decl.invariant c.loop-decl-test.false;
  few = few_at_end c.args.decls.now c.loop-decl.decl-index c.loop-decl.number c.loop-decl.before c.loop-decl.invariant c.loop-decl-test.false;
}
