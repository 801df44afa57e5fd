-- The needs of a node: the counted ones, and after them the reached sources.
use Rattle.std.proofs.Common.{◌≡◌, ℕ, ◌+◌, ◌<◌, true, false, List, [], ◌∷◌, ◌++◌, length, get_or, take, map, flat_map, inl, refl, sym, ap, ◌∙◌, subst, append_assoc}
use Rattle.std.specs.Prelude.{Option, Some, None, option_to_list}
use Rattle.std.proofs.lemmas.List.{append-nil, take_more}
use Rattle.std.proofs.lemmas.Grind.{flat_map-append}
use Rattle.object_values.specs.declared.nodes.Node.{Node}
use Rattle.object_values.specs.declared.views.Value.{Value}
use Rattle.object_values.specs.declared.graph.PartDecl.{PartDecl}
use Rattle.object_values.specs.declared.graph.ToolDecl.{ToolDecl}
use Rattle.object_values.specs.declared.graph.MakerDecl.{MakerDecl}
use Rattle.meaning_graph.specs.Graphs.{Text, Graph}
use Rattle.meaning_texts.specs.Lists.{IsIn}
use Rattle.meaning_tasks.specs.Nodes.{source_node, base_of, onward_named}
use Rattle.meaning_tasks.specs.Reached.{Reached, by_own, by_line, AreReached}
use Rattle.meaning_tasks.specs.Tasks.{Task, given, picked, mapped, packed, tooled, unfit, ToolTask, Led, led_nodes, pack_part, extra_led, scan_node, tool_task, task_of}
use Rattle.meaning_tasks.specs.Needs.{Results, Known, values_of, has_value, where_valued, elements_of, with_elements, extra_needs, scan_needs, part_nodes, own_lines, other_lines, lines_by, counted_needs, reached_needs, ReachedNames, Needs}
use Rattle.meaning_tasks.proofs.Lemmas.{names_sorted, needs_split, tool_counted_are, tool_reached_are, picked_reached_are, packed_reached_are}
use Rattle.node_tasks.specs.Tasks.{RunsNoTool}

-- ---- where there is no value

pub where_none : {A : Type 0} (o : Option (Option Value)) (xs : List A) → has_value o ≡ false → where_valued o xs ≡ []
where_none None xs h = refl
where_none (Some None) xs h = refl
where_none (Some (Some v)) xs h = cc

pub where_some : {A : Type 0} (o : Option (Option Value)) (xs : List A) → has_value o ≡ true → where_valued o xs ≡ xs
where_some None xs h = cc
where_some (Some None) xs h = cc
where_some (Some (Some v)) xs h = refl

nothing_where : {A : Type 0} (o : Option (Option Value)) → where_valued {A = A} o [] ≡ []
nothing_where None = refl
nothing_where (Some None) = refl
nothing_where (Some (Some v)) = refl

-- ---- one more of a list

pub one_more : {A : Type 0} (f : A → List Node) (xs : List A) (i : ℕ) (x : A) → i < length xs → x ≡ get_or xs i x → (first before after : List Node) → before ≡ first ++ flat_map f (take i xs) → after ≡ before ++ f x → after ≡ first ++ flat_map f (take (i + 1) xs)
one_more f xs i x below is first before after b a =
    let more : flat_map f (take (i + 1) xs) ≡ flat_map f (take i xs) ++ f x =
    ap (flat_map f) (take_more xs i x below ∙ ap (λ y. take i xs ++ y ∷ []) (sym is))
    ∙ flat_map-append f (take i xs) (x ∷ []) ∙ ap (λ l. flat_map f (take i xs) ++ l) (append-nil (f x)) in
    a ∙ ap (λ l. l ++ f x) b ∙ append_assoc first (flat_map f (take i xs)) (f x) ∙ ap (λ l. first ++ l) (sym more)

-- ---- no names

module _ (own : List Text) (lines : Text → List Text) (none : own ≡ []) (empty : (x : Text) → lines x ≡ []) where
  nothing_reached : (x : Text) → Reached own lines x → ⊥
  nothing_reached x (by_own y h) = subst (λ l. IsIn y l) none h
  nothing_reached x (by_line y z r h) = subst (λ l. IsIn z l) (empty y) h

  pub none_reached : (names : List Text) → names ≡ [] → AreReached own lines names
  none_reached names e = subst (AreReached own lines) (sym e) (record {
    sorted = names_sorted [];
    only = λ x h. absurd h;
    each = λ x r. nothing_reached x r;
  })

  pub only_none : (names : List Text) → AreReached own lines names → names ≡ []
  only_none [] a = refl
  only_none (x ∷ names) a = absurd (nothing_reached x (a.only x (inl refl)))

-- no names are reached where no tool is run, and without a scan type or a value of the base
pub no_tool_names : (t : Task) (known : Known) (names : List Text) → names ≡ [] → RunsNoTool t → AreReached (own_lines t known) (other_lines t known) names
no_tool_names (given name) known names e h = none_reached [] (λ x. []) refl (λ x. refl) names e
no_tool_names (picked base key) known names e h = none_reached [] (λ x. []) refl (λ x. refl) names e
no_tool_names (mapped base f) known names e h = none_reached [] (λ x. []) refl (λ x. refl) names e
no_tool_names (packed parts) known names e h = none_reached [] (λ x. []) refl (λ x. refl) names e
no_tool_names (tooled t) known names e h = absurd h
no_tool_names unfit known names e h = none_reached [] (λ x. []) refl (λ x. refl) names e

module _ (t : ToolTask) (known : Known) where
  none_own : has_value (known t.base) ≡ false → own_lines (tooled t) known ≡ []
  none_own h = where_none (known t.base) _ h

  none_other : has_value (known t.base) ≡ false → (x : Text) → other_lines (tooled t) known x ≡ []
  none_other h x = where_none (known t.base) _ h

  pub no_value_names : (names : List Text) → names ≡ [] → has_value (known t.base) ≡ false → AreReached (own_lines (tooled t) known) (other_lines (tooled t) known) names
  no_value_names names e h = none_reached _ _ (none_own h) (none_other h) names e

  -- all reached names are reached sources
  pub tool_sources : (names : List Text) → AreReached (own_lines (tooled t) known) (other_lines (tooled t) known) names → reached_needs (tooled t) known names ≡ map source_node names
  tool_sources names a = tool_reached_are t known names ∙ by_known (known t.base) (λ h. only_none _ _ (none_own h) (none_other h) names a)
    where
      by_known : (o : Option (Option Value)) → (has_value o ≡ false → names ≡ []) → where_valued o (map source_node names) ≡ map source_node names
      by_known None f = sym (ap (map source_node) (f refl))
      by_known (Some None) f = sym (ap (map source_node) (f refl))
      by_known (Some (Some v)) f = refl

pub no_scan_names : (g : Graph) (n : Node) (m : MakerDecl) (tool : ToolDecl) (known : Known) (names : List Text) → names ≡ [] → tool.closure ≡ None
    → AreReached (own_lines (tooled (tool_task g n m tool)) known) (other_lines (tooled (tool_task g n m tool)) known) names
no_scan_names g n m tool known names e none = none_reached _ _ own other names e
  where
    own : own_lines (tooled (tool_task g n m tool)) known ≡ []
    own = ap (λ o. where_valued (known (base_of n)) (lines_by known (scan_node g n o n.source))) none ∙ nothing_where (known (base_of n))

    other : (x : Text) → other_lines (tooled (tool_task g n m tool)) known x ≡ []
    other x =
        ap (λ o. where_valued (known (base_of n)) (where_valued (known (source_node x)) (lines_by known (scan_node g n o x)))) none
        ∙ ap (where_valued (known (base_of n))) (nothing_where (known (source_node x)))
        ∙ nothing_where (known (base_of n))

-- ---- all needs

pub sources_are : (t : Task) (known : Known) (names : List Text) → AreReached (own_lines t known) (other_lines t known) names → reached_needs t known names ≡ map source_node names
sources_are (given name) known names a = sym (ap (map source_node) (only_none [] (λ x. []) refl (λ x. refl) names a))
sources_are (picked base key) known names a = picked_reached_are base key known names ∙ sym (ap (map source_node) (only_none [] (λ x. []) refl (λ x. refl) names a))
sources_are (mapped base f) known names a = sym (ap (map source_node) (only_none [] (λ x. []) refl (λ x. refl) names a))
sources_are (packed parts) known names a = packed_reached_are parts known names ∙ sym (ap (map source_node) (only_none [] (λ x. []) refl (λ x. refl) names a))
sources_are (tooled t) known names a = tool_sources t known names a
sources_are unfit known names a = sym (ap (map source_node) (only_none [] (λ x. []) refl (λ x. refl) names a))

-- the counted needs and then the reached sources are the needs
pub needs_are : (g : Graph) (n : Node) (seen : Results) (names : List Text) (counted needs : List Node) → ReachedNames g n seen names
    → counted ≡ counted_needs (task_of g n) (values_of seen) names → needs ≡ counted ++ map source_node names → Needs g n seen needs
needs_are g n seen names counted needs r c e = record {
  names = names;
  reached = r;
  listed =
      e ∙ ap (λ l. l ++ map source_node names) c
      ∙ ap (λ l. counted_needs (task_of g n) (values_of seen) names ++ l) (sym (sources_are (task_of g n) (values_of seen) names r))
      ∙ sym (needs_split (task_of g n) (values_of seen) names);
}

-- ---- of a pack

pub part_nodes_are : (g : Graph) (n base : Node) (parts : List PartDecl) → base ≡ base_of n → flat_map (λ (p : PartDecl). option_to_list (onward_named g base p.of)) parts ≡ part_nodes (map (pack_part g n) parts)
part_nodes_are g n base parts e = ap (λ b. flat_map (λ (p : PartDecl). option_to_list (onward_named g b p.of)) parts) e ∙ along parts
  where
    along : (ps : List PartDecl) → flat_map (λ (p : PartDecl). option_to_list (onward_named g (base_of n) p.of)) ps ≡ part_nodes (map (pack_part g n) ps)
    along [] = refl
    along (p ∷ ps) = ap (λ l. option_to_list (onward_named g (base_of n) p.of) ++ l) (along ps)

-- ---- of a tool

module _ (g : Graph) (n : Node) (m : MakerDecl) (tool : ToolDecl) (known : Known) (names : List Text) where
  abbrev extras_and_scans : List Node
  extras_and_scans =
      flat_map (extra_needs known) (map (extra_led g n) tool.extras)
      ++ (option_to_list (scan_node g n tool.closure n.source) ++ flat_map (scan_needs (tool_task g n m tool) known) names)

  by_value : (o : Option (Option Value)) (rest : List Node) → elements_of o ++ where_valued o rest ≡ where_valued o (elements_of o ++ rest)
  by_value None rest = refl
  by_value (Some None) rest = refl
  by_value (Some (Some v)) rest = refl

  -- the base with its elements, and then the others
  counted_are : with_elements known (base_of n) ++ where_valued (known (base_of n)) extras_and_scans ≡ counted_needs (tooled (tool_task g n m tool)) known names
  counted_are = ap (λ l. base_of n ∷ l) (by_value (known (base_of n)) extras_and_scans) ∙ sym (tool_counted_are (tool_task g n m tool) known names)

  -- the nodes of the extras with their elements
  led_whole : (extras : List Led) → flat_map (with_elements known) (led_nodes extras) ≡ flat_map (extra_needs known) extras
  led_whole [] = refl
  led_whole (e ∷ extras) =
      flat_map-append (with_elements known) (option_to_list e.node) (led_nodes extras)
      ∙ ap (λ l. extra_needs known e ++ l) (led_whole extras)

  -- without a value of the base, and with it
  pub only_base : (whole alone : List Node) → whole ≡ base_of n ∷ [] → alone ≡ [] → has_value (known (base_of n)) ≡ false → flat_map (with_elements known) whole ++ alone ≡ counted_needs (tooled (tool_task g n m tool)) known names
  only_base whole alone w a none =
      (λ i. flat_map (with_elements known) (w i) ++ a i)
      ∙ append-nil (with_elements known (base_of n) ++ [])
      ∙ ap (λ l. with_elements known (base_of n) ++ l) (sym (where_none (known (base_of n)) extras_and_scans none))
      ∙ counted_are

  pub base_and_others : (whole alone : List Node) → whole ≡ base_of n ∷ led_nodes (map (extra_led g n) tool.extras)
      → alone ≡ option_to_list (scan_node g n tool.closure n.source) ++ flat_map (scan_needs (tool_task g n m tool) known) names
      → has_value (known (base_of n)) ≡ true → flat_map (with_elements known) whole ++ alone ≡ counted_needs (tooled (tool_task g n m tool)) known names
  base_and_others whole alone w a valued =
      let scans : List Node = option_to_list (scan_node g n tool.closure n.source) ++ flat_map (scan_needs (tool_task g n m tool) known) names in
      let extras : List Led = map (extra_led g n) tool.extras in
      (λ i. flat_map (with_elements known) (w i) ++ a i)
      ∙ append_assoc (with_elements known (base_of n)) (flat_map (with_elements known) (led_nodes extras)) scans
      ∙ ap (λ l. with_elements known (base_of n) ++ (l ++ scans)) (led_whole extras)
      ∙ ap (λ l. with_elements known (base_of n) ++ l) (sym (where_some (known (base_of n)) extras_and_scans valued))
      ∙ counted_are
