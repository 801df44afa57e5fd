-- Whether nodes have values, each with its elements.
use Rattle.std.proofs.Common.{◌≡◌, ◌&&◌, List, [], ◌∷◌, flat_map, sym, ap, ◌∙◌, refl}
use Rattle.std.specs.List.{list_all}
use Rattle.std.proofs.lemmas.List.Folds.{list_all-append}
use Rattle.object_values.specs.declared.nodes.Node.{Node}
use Rattle.meaning_tasks.specs.Needs.{Known, has_value, with_elements}
use Rattle.meaning_tasks.specs.Calls.{all_valued}
use Rattle.task_needs.specs.declared.counted.Counted.{Counted}
use Rattle.task_needs.specs.Counting.{nodes_in}

pub all_whole : (known : Known) (nodes : List Node) → list_all (λ (n : Node). all_valued known (with_elements known n)) nodes ≡ all_valued known (flat_map (with_elements known) nodes)
all_whole known [] = refl
all_whole known (n ∷ nodes) =
    ap (λ b. all_valued known (with_elements known n) && b) (all_whole known nodes)
    ∙ sym (list_all-append (λ (m : Node). has_value (known m)) (with_elements known n) (flat_map (with_elements known) nodes))

pub all_counted : (known : Known) (c : Counted) → (all_valued known (flat_map (with_elements known) c.whole) && all_valued known c.alone) ≡ all_valued known (nodes_in known c)
all_counted known c = sym (list_all-append (λ (m : Node). has_value (known m)) (flat_map (with_elements known) c.whole) c.alone)
