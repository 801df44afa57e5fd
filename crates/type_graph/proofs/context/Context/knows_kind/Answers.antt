-- The types of parts are known part by part.
use Rattle.std.proofs.Common.{◌∙◌, ap}
use Rattle.std.specs.List.{list_all}
use Rattle.object_values.specs.declared.graph.PartDecl.{PartDecl}
use Rattle.meaning_graph.specs.Checks.{is_known}
use Rattle.type_graph.proofs.KindLemmas.{parts_known}
use Rattle.type_graph.proofs.context.Context.knows_kind.Goals as goal

pub returns-in-Compound : goal.returns-in-Compound
returns-in-Compound c = c.knows_parts.ensures ∙ ap (list_all (λ (part : PartDecl). is_known c.args.self.now part.of)) c.as_slice.ensures ∙ parts_known c.args.self.now c.args.kind.now c.in-Compound.parts c.in-Compound.is
