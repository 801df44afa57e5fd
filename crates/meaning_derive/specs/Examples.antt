-- Worked chains.
use Rattle.std.specs.Prelude.{◌≡◌, [], ◌∷◌, map, None, Some, codes}
use Rattle.object_values.specs.declared.views.Value.TheVariants.{List as Listed}
use Rattle.meaning_graph.specs.Samples.{c_units_back, joined_texts}
use Rattle.meaning_tasks.specs.Labels.{node_text}
use Rattle.meaning_tasks.specs.Needs.{Results, values_of}
use Rattle.meaning_derive.specs.Chains.{IsCircular}
use Rattle.meaning_derive.specs.Samples.{objs, exe, back, back_again, lines, ex_joined_node}

-- A program whose unit is made of the program, where the list of objects is known and nothing
-- further on.
pub record MadeOfItself : Type 0 where
  pub chain : (seen : Results) → values_of seen objs ≡ Some (Some (Listed (back_again ∷ [])))
      → seen back ≡ None
      → IsCircular c_units_back seen exe (exe ∷ back_again ∷ back ∷ exe ∷ [])
  pub texts : map (node_text c_units_back) (exe ∷ back_again ∷ back ∷ [])
      ≡ codes "m.sm:units:objs:exe" ∷ codes "m.sm:units:objs:exe:c:o"
      ∷ codes "m.sm:units:objs:exe:c" ∷ []

-- A text that refers to the text that is joined from it.
pub record SelfReference : Type 0 where
  pub chain : (seen : Results) → values_of seen lines ≡ Some (Some (Listed (ex_joined_node ∷ [])))
      → IsCircular joined_texts seen ex_joined_node (ex_joined_node ∷ ex_joined_node ∷ [])
  pub text : node_text joined_texts ex_joined_node ≡ codes "a1.t:l:u"
