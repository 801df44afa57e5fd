use Rattle.std.proofs.Common.{ap, subst, sym}
use Rattle.kept_notes.proofs.Lemmas.{facts_renewed}
use Rattle.kept_tables.specs.Holdings.{Holding, MayRenew}
use Rattle.kept_tables.proofs.RecordLemmas.{renewed_in}
use Rattle.kept_tables.proofs.kept.Kept.renew.Goals as goal

pub renew-requires : goal.renew-requires
renew-requires c =
    let may = subst (λ (h : Holding). MayRenew h c.args.node.now c.args.present) (sym c.self.view_is) c.requires in
    may.has

pub invariant_of-self : goal.invariant_of-self
invariant_of-self c =
    let may = subst (λ (h : Holding). MayRenew h c.args.node.now c.args.present) (sym c.self.view_is) c.requires in (
      c.self.invariant.0,
      rw c.renew.ensures.renewed (renewed_in _ c.args.node.now c.args.present c.args.epoch may c.self.invariant.1),
    )

pub returns-clause-tables : goal.returns-clause-tables
returns-clause-tables c =
    let contents = c.self.inside.contents.contents in
    rw (c.renew.ensures.renewed, facts_renewed contents c.args.node.now c.args.present c.args.epoch c.self.inside.records.records)
    (ap (λ (h : Holding). h.tables) c.self.view_is)
