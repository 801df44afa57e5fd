use Rattle.std.proofs.Common.{List, [], ◌∷◌, codes, refl}
use Rattle.std.specs.Fmt.{digits}
use Rattle.object_values.specs.declared.nodes.ParamValue.{ParamValue}
use Rattle.object_values.specs.declared.expressions.ExprStep.{ExprStep}
use Rattle.object_values.specs.declared.expressions.ExprStep.TheVariants.{To, Pick}
use Rattle.object_values.specs.declared.expressions.Expression.{Expression}
use Rattle.meaning_texts.specs.Reading.{expression_of, kept_params}
use Rattle.meaning_texts.specs.Fronts.{is_front, fault_place}
use Rattle.meaning_texts.proofs.Lemmas.{is_read, fault_by}
use Rattle.meaning_graph.specs.Suffixes.{source_type}
use Rattle.meaning_graph.specs.Types.{is_a}
use Rattle.meaning_graph.specs.Paths.{chosen_path}
use Rattle.meaning_tasks.specs.Nodes.{reached_type}
use Rattle.meaning_tasks.specs.NodeOf.{node_of}
use Rattle.meaning_tasks.specs.NodeSamples.{parameter}
use Rattle.meaning_derive.specs.Answers.{Refused}
use Rattle.meaning_derive.proofs.answer_examples.refusals.Goals as goal

-- an expression of the source `a.c`
abbrev along : List ParamValue → List ExprStep → Expression
along params steps = record { source = codes "a.c"; params = params; steps = steps }

pub returns : goal.returns
unfolding digits expression_of kept_params fault_place is_front source_type is_a chosen_path reached_type node_of
returns c = record {
  place = Refused.expression (codes "a.c:") 5 (fault_by (codes "a.c:") 5 refl refl);
  param = let e = along (parameter (codes "opt") ∷ []) (To (codes "zz") ∷ []) in Refused.param (codes "a.c+opt:zz") e (codes "opt") (is_read (codes "a.c+opt:zz") e refl) refl;
  type = let e = along [] (To (codes "zz") ∷ []) in Refused.type (codes "a.c:zz") e (codes "zz") (is_read (codes "a.c:zz") e refl) refl;
  path = let e = along [] (To (codes "o") ∷ Pick (codes "1") ∷ []) in Refused.path (codes "a.c:o%1") e 2 (is_read (codes "a.c:o%1") e refl) refl;
}
