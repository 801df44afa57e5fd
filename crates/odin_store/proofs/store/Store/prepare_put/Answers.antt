use Rattle.std.proofs.Common.{sym, subst}
use Rattle.meaning_derive.specs.Given.{AreSources}
use Rattle.meaning_records.specs.Tables.{Tables}
use Rattle.odin_store.specs.Held.{NotedPass}
use Rattle.odin_store.specs.Stamps.{AreStampedBy}
use Rattle.odin_store.proofs.store.Store.prepare_put.Goals as goal

pub invariant_of-self : goal.invariant_of-self
invariant_of-self c = record { are = subst AreSources (sym c.reserve.ensures.same) c.args.self.now.are; stamped = c.args.self.now.stamped; fits = c.args.self.now.fits }

pub invariant_of-self-in-Break-branch-2 : goal.invariant_of-self-in-Break-branch-2
invariant_of-self-in-Break-branch-2 c = record { are = subst AreSources (sym c.reserve.ensures.same) c.args.self.now.are; stamped = c.args.self.now.stamped; fits = c.args.self.now.fits }

pub invariant_of-self-in-Break-branch-3 : goal.invariant_of-self-in-Break-branch-3
invariant_of-self-in-Break-branch-3 c = record { are = subst AreSources (sym c.reserve.ensures.same) c.args.self.now.are; stamped = c.args.self.now.stamped; fits = c.args.self.now.fits }

pub invariant_of-self-2 : goal.invariant_of-self-2
invariant_of-self-2 c = record {
  are = subst AreSources (sym c.reserve.ensures.same) c.args.self.now.are;
  stamped = subst (AreStampedBy c.args.self.now.epoch) (sym c.prepare_text.ensures.records) c.args.self.now.stamped;
  fits = subst (λ (t : Tables). NotedPass c.args.self.now.graph t.records) (sym c.prepare_text.ensures.same) c.args.self.now.fits;
}
