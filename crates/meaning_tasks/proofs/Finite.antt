-- Needs over finite maps.
use Rattle.std.proofs.Common.{◌≡◌, List, refl, map}
use Rattle.std.specs.Prelude.{Option, Some, None, option_map}
use Rattle.object_values.specs.declared.nodes.Node.{Node}
use Rattle.object_values.specs.declared.views.View.{View}
use Rattle.meaning_graph.specs.Graphs.{Text, Graph}
use Rattle.meaning_texts.specs.Lists.{IsIn}
use Rattle.meaning_texts.proofs.Lemmas.{in_map}
use Rattle.meaning_tasks.specs.Nodes.{source_node}
use Rattle.meaning_tasks.specs.Reached.{reached_names}
use Rattle.meaning_tasks.specs.Tasks.{Task, given, picked, mapped, packed, tooled, unfit, task_of}
use Rattle.meaning_tasks.specs.Needs.{Results, Known, values_of, own_lines, other_lines, needs_of, Needs}
use Rattle.meaning_tasks.specs.Maps.{HasOnly}
use Rattle.meaning_tasks.proofs.Reached.{all_reached}
use Rattle.meaning_tasks.proofs.Valued.{IsValued, from_where}

only_listed : (known : Known) (names : List Text) → ((x : Text) → IsValued (known (source_node x)) → IsIn x names) → (t : Task) (x y : Text) → IsIn y (other_lines t known x) → IsIn x names
only_listed known names only (given name) x y h = absurd h
only_listed known names only (picked base key) x y h = absurd h
only_listed known names only (mapped base f) x y h = absurd h
only_listed known names only (packed parts) x y h = absurd h
only_listed known names only unfit x y h = absurd h
only_listed known names only (tooled t) x y h = only x (from_where (known (source_node x)) y _ (from_where (known t.base) y _ h).1).0

seen_valued : (o : Option View) → IsValued (option_map (λ v. v.value) o) → (view : View) × (o ≡ Some view)
seen_valued None h = cc
seen_valued (Some view) h = (view, refl)

pub finite_has_needs : (g : Graph) (n : Node) (seen : Results) (nodes : List Node) → HasOnly seen nodes → (needs : List Node) × Needs g n seen needs
finite_has_needs g n seen nodes only =
    let known : Known = values_of seen in
    let names : List Text = map (λ (m : Node). m.source) nodes in
    let listed : (x : Text) → IsValued (known (source_node x)) → IsIn x names = λ x h. let v = seen_valued (seen (source_node x)) h in in_map (λ (m : Node). m.source) (source_node x) nodes (only (source_node x) v.0 v.1) in
    let own : List Text = own_lines (task_of g n) known in
    let found : List Text = reached_names names own (other_lines (task_of g n) known) in (
      needs_of (task_of g n) known found,
      record { names = found; reached = all_reached names own (other_lines (task_of g n) known) (only_listed known names listed (task_of g n)); listed = refl },
    )
