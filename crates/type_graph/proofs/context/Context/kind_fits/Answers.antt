-- The types of parts are simple part by part.
use Rattle.std.proofs.Common.{◌∙◌, ap}
use Rattle.std.specs.List.{list_all}
use Rattle.object_values.specs.declared.graph.PartDecl.{PartDecl}
use Rattle.meaning_graph.specs.Checks.{is_simple}
use Rattle.type_graph.proofs.KindLemmas.{parts_kept}
use Rattle.type_graph.proofs.context.Context.kind_fits.Goals as goal

pub returns-in-Compound : goal.returns-in-Compound
returns-in-Compound c = c.parts_simple.ensures ∙ ap (list_all (λ (part : PartDecl). is_simple c.args.self.now part.of)) c.as_slice.ensures ∙ parts_kept c.args.self.now c.args.kind.now c.in-Compound.parts c.in-Compound.is
