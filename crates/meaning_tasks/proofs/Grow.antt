-- More results take no need away.
use Rattle.std.proofs.Common.{true, false, List, [], ◌++◌, inl, inr, sym, subst, refl, cond, flat_map, bytes_eq, map}
use Rattle.std.specs.Prelude.{Option, Some, None, option_to_list}
use Rattle.object_values.specs.declared.nodes.Node.{Node}
use Rattle.meaning_graph.specs.Graphs.{Text, Graph}
use Rattle.meaning_texts.specs.Lists.{IsIn}
use Rattle.meaning_texts.proofs.Lemmas.{in_left, in_right, in_either, in_map, from_map, in_flat, from_flat}
use Rattle.meaning_tasks.specs.Nodes.{source_node}
use Rattle.meaning_tasks.specs.Tasks.{Task, given, picked, mapped, packed, tooled, unfit, ToolTask, Led, task_of}
use Rattle.meaning_tasks.specs.Needs.{Results, Known, values_of, Grows, where_valued, elements_of, picked_element, with_elements, extra_needs, scan_needs, tool_needs, needs_of, lines_in, lines_by, own_lines, other_lines, Needs}
use Rattle.meaning_tasks.proofs.Reached.{reached_grows}
use Rattle.meaning_tasks.proofs.Roles.{tool_counted, tool_needs_are, picked_needs_are}
use Rattle.meaning_tasks.proofs.Valued.{where_grows, part_grows, values_grow}

either_grows : {A : Type 0} (x : A) (ps qs us vs : List A) → (IsIn x ps → IsIn x us) → (IsIn x qs → IsIn x vs) → IsIn x (ps ++ qs) → IsIn x (us ++ vs)
either_grows x ps qs us vs f k h = elim (in_either x ps qs h) [ inl p ↦ in_left x us vs (f p) | inr p ↦ in_right x us vs (k p) ]

each_grows : {A B : Type 0} (f k : A → List B) (xs ys : List A) (z : B) → ((x : A) → IsIn x xs → IsIn x ys) → ((x : A) → IsIn z (f x) → IsIn z (k x)) → IsIn z (flat_map f xs) → IsIn z (flat_map k ys)
each_grows f k xs ys z i e h = let r = from_flat f z xs h in in_flat k r.0 z ys (i r.0 r.1) (e r.0 r.2)

module _ (known other : Known) (g : Grows known other) where
  by_grows : (o : Option Node) (x : Text) → IsIn x (lines_by known o) → IsIn x (lines_by other o)
  by_grows None x h = h
  by_grows (Some n) x h = part_grows known other g lines_in refl n x h

  own_grows : (t : Task) (x : Text) → IsIn x (own_lines t known) → IsIn x (own_lines t other)
  own_grows (given name) x h = h
  own_grows (picked base key) x h = h
  own_grows (mapped base f) x h = h
  own_grows (packed parts) x h = h
  own_grows unfit x h = h
  own_grows (tooled t) x h = where_grows known other g t.base x _ _ (by_grows (t.scan t.root) x) h

  other_grows : (t : Task) (y x : Text) → IsIn x (other_lines t known y) → IsIn x (other_lines t other y)
  other_grows (given name) y x h = h
  other_grows (picked base key) y x h = h
  other_grows (mapped base f) y x h = h
  other_grows (packed parts) y x h = h
  other_grows unfit y x h = h
  other_grows (tooled t) y x h = where_grows known other g t.base x _ _ (where_grows known other g (source_node y) x _ _ (by_grows (t.scan y) x)) h

  elements_grow : (n m : Node) → IsIn m (with_elements known n) → IsIn m (with_elements other n)
  elements_grow n m (inl e) = inl e
  elements_grow n m (inr h) = inr (part_grows known other g elements_of refl n m h)

  extra_grows : (m : Node) (e : Led) → IsIn m (extra_needs known e) → IsIn m (extra_needs other e)
  extra_grows m e h = each_grows (with_elements known) (with_elements other) (option_to_list e.node) (option_to_list e.node) m (λ x i. i) (λ n k. elements_grow n m k) h

  module _ (names others : List Text) (more : (x : Text) → IsIn x names → IsIn x others) where
    scan_grows : (t : ToolTask) (m : Node) (x : Text) → IsIn m (scan_needs t known x) → IsIn m (scan_needs t other x)
    scan_grows t m x = elim (bytes_eq x t.root) as (λ b. IsIn m (cond b [] (where_valued (known (source_node x)) (option_to_list (t.scan x)))) → IsIn m (cond b [] (where_valued (other (source_node x)) (option_to_list (t.scan x))))) [
      | true ↦ λ k. k
      | false ↦ λ k. where_grows known other g (source_node x) m _ _ (λ p. p) k
    ]

    tool_grows : (t : ToolTask) (m : Node) → IsIn m (tool_needs t known names) → IsIn m (tool_needs t other others)
    tool_grows t m h =
        either_grows m (elements_of (known t.base)) _ (elements_of (other t.base)) _ (part_grows known other g elements_of refl t.base m)
        (either_grows m (flat_map (extra_needs known) t.extras) _ (flat_map (extra_needs other) t.extras) _ (each_grows (extra_needs known) (extra_needs other) t.extras t.extras m (λ x i. i) (extra_grows m))
        (either_grows m (option_to_list (t.scan t.root)) _ (option_to_list (t.scan t.root)) _ (λ p. p) (each_grows (scan_needs t known) (scan_needs t other) names others m more (scan_grows t m)))) h

    sources_grow : (m : Node) → IsIn m (map source_node names) → IsIn m (map source_node others)
    sources_grow m h = let r = from_map source_node m names h in subst (λ z. IsIn z (map source_node others)) (sym r.2) (in_map source_node r.0 others (more r.0 r.1))

    needs_of_grow : (t : Task) (m : Node) → IsIn m (needs_of t known names) → IsIn m (needs_of t other others)
    needs_of_grow (given name) m h = h
    needs_of_grow (picked base key) m h = subst (λ l. IsIn m l) (sym (picked_needs_are base key other others))
        ((elim (subst (λ l. IsIn m l) (picked_needs_are base key known names) h) [ inl e ↦ inl e | inr k ↦ inr (part_grows known other g (picked_element key) refl base m k) ]))
    needs_of_grow (mapped base f) m h = h
    needs_of_grow (packed parts) m h = h
    needs_of_grow unfit m h = h
    needs_of_grow (tooled t) m h = subst (λ l. IsIn m l) (sym (tool_needs_are t other others))
        (either_grows m (tool_counted t known names) _ (tool_counted t other others) _
        (elim [ inl e ↦ inl e | inr k ↦ inr (where_grows known other g t.base m _ _ (tool_grows t m) k) ]) (where_grows known other g t.base m _ _ (sources_grow m))
        (subst (λ l. IsIn m l) (tool_needs_are t known names) h))

-- A need stays a need.
pub need_stays : (g : Graph) (n : Node) (seen more : Results) (needs others : List Node) → Grows seen more → Needs g n seen needs → Needs g n more others → (m : Node) → IsIn m needs → IsIn m others
need_stays g n seen more needs others grows a b m h =
    let v = values_grow seen more grows in
    let names : (x : Text) → IsIn x a.names → IsIn x b.names = λ x k. b.reached.each x (reached_grows _ _ _ _ (own_grows (values_of seen) (values_of more) v (task_of g n)) (other_grows (values_of seen) (values_of more) v (task_of g n)) x (a.reached.only x k)) in
    subst (λ l. IsIn m l) (sym b.listed) (needs_of_grow (values_of seen) (values_of more) v a.names b.names names (task_of g n) m (subst (λ l. IsIn m l) a.listed h))
