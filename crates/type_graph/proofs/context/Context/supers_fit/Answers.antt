-- A compound has no supertypes.
use Rattle.std.proofs.Common.{◌∙◌}
use Rattle.type_graph.proofs.KindLemmas.{no_supers}
use Rattle.type_graph.proofs.context.Context.supers_fit.Goals as goal

pub returns-in-Compound : goal.returns-in-Compound
returns-in-Compound c = c.is_empty.ensures ∙ no_supers c.args.self.now c.args.kind.now c.in-Compound.field-0 c.args.supers.now c.in-Compound.is
