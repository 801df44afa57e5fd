-- The worked chains.
use Rattle.std.proofs.Common.{◌≡◌, List, [], ◌∷◌, ◌++◌, inl, inr, sym, ap, subst, refl, length, arith}
use Rattle.std.specs.Prelude.{Option, Some, None, option_map}
use Rattle.std.specs.List.Sorted.{IsStrictlySortedBy}
use Rattle.object_values.specs.declared.nodes.Node.{Node}
use Rattle.object_values.specs.declared.views.Value.{Value}
use Rattle.object_values.specs.declared.views.Value.TheVariants.{List as Listed}
use Rattle.object_values.specs.declared.views.View.{View}
use Rattle.meaning_graph.specs.Graphs.{Text, Graph}
use Rattle.meaning_texts.specs.Lists.{IsIn}
use Rattle.meaning_graph.specs.Samples.{c_units_back, joined_texts}
use Rattle.meaning_tasks.specs.Reached.{Reached, by_own, by_line, AreReached}
use Rattle.meaning_tasks.specs.Tasks.{task_of}
use Rattle.meaning_tasks.specs.Needs.{Results, values_of, where_valued, elements_of, own_lines, needed, reached, in_role, nodes_of, needs_of}
use Rattle.meaning_derive.specs.Chains.{IsNeed, IsCircular}
use Rattle.meaning_derive.specs.Samples.{objs, exe, back, back_again, lines, ex_joined_node}

no_names : (own : List Text) (lines : Text → List Text) → own ≡ [] → AreReached own lines []
unfolding IsStrictlySortedBy
no_names own lines e = record { sorted = tt; only = λ x h. absurd h; each = none }
  where
    none : (x : Text) → Reached own lines x → IsIn x []
    none x (by_own y h) = subst (λ l. IsIn y l) e h
    none x (by_line y z r h) = absurd (none y r)

nowhere : {A : Type 0} (o : Option (Option Value)) → where_valued {A = A} o [] ≡ []
nowhere None = refl
nowhere (Some None) = refl
nowhere (Some (Some v)) = refl

where_none : {A : Type 0} (o : Option (Option Value)) (xs : List A) → o ≡ None → where_valued o xs ≡ []
where_none o xs e = ap (λ p. where_valued p xs) e

need : (g : Graph) (seen : Results) (n m : Node) → own_lines (task_of g n) (values_of seen) ≡ [] → IsIn m (needs_of (task_of g n) (values_of seen) []) → IsNeed g seen n m
need g seen n m e i = record { needs = needs_of (task_of g n) (values_of seen) []; listed = record { names = []; reached = no_names _ _ e; listed = refl }; one = i }

pub circular : (seen : Results) → values_of seen objs ≡ Some (Some (Listed (back_again ∷ []))) → seen back ≡ None → IsCircular c_units_back seen exe (exe ∷ back_again ∷ back ∷ exe ∷ [])
unfolding task_of
circular seen h none =
    let listed : IsIn back_again (needs_of (task_of c_units_back exe) (values_of seen) []) =
    subst (λ o. IsIn back_again (nodes_of (in_role needed (objs ∷ where_valued o (elements_of o ++ [])) ++ in_role reached (where_valued o [])))) (sym h) (inr (inl refl)) in
    let unknown : values_of seen back ≡ None = ap (option_map (λ (v : View). v.value)) none in
    record {
      front = exe ∷ back_again ∷ back ∷ [];
      last = exe;
      is = refl;
      leads = (
        refl,
        (
          need c_units_back seen exe back_again (nowhere (values_of seen objs)) listed,
          (
            need c_units_back seen back_again back (where_none (values_of seen back) _ unknown) (inl refl),
            (need c_units_back seen back exe (nowhere (values_of seen exe)) (inl refl), tt),
          ),
        ),
      );
      different = (elim [ inl e ↦ longer_steps e | inr (inl e) ↦ longer_steps_too e | inr (inr none) ↦ none ], (elim [ inl e ↦ other_steps e | inr none ↦ none ], (λ none. none, tt)));
      repeated = inl refl;
    }
  where
    longer_steps : exe ≡ back_again → ⊥
    longer_steps e = absurd (omega (arith, ap (λ (n : Node). length n.steps) e))

    longer_steps_too : exe ≡ back → ⊥
    longer_steps_too e = absurd (omega (arith, ap (λ (n : Node). length n.steps) e))

    other_steps : back_again ≡ back → ⊥
    other_steps e = absurd (omega (arith, ap (λ (n : Node). length n.steps) e))

pub self_reference : (seen : Results) → values_of seen lines ≡ Some (Some (Listed (ex_joined_node ∷ []))) → IsCircular joined_texts seen ex_joined_node (ex_joined_node ∷ ex_joined_node ∷ [])
unfolding task_of
self_reference seen h =
    let listed : IsIn ex_joined_node (needs_of (task_of joined_texts ex_joined_node) (values_of seen) []) =
    subst (λ o. IsIn ex_joined_node (nodes_of (in_role needed (lines ∷ where_valued o (elements_of o ++ [])) ++ in_role reached (where_valued o [])))) (sym h) (inr (inl refl)) in
    record {
      front = ex_joined_node ∷ [];
      last = ex_joined_node;
      is = refl;
      leads = (refl, (need joined_texts seen ex_joined_node ex_joined_node (nowhere (values_of seen lines)) listed, tt));
      different = (λ none. none, tt);
      repeated = inl refl;
    }
