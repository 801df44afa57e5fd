-- The needs of a node that fits do so too.
use Rattle.std.proofs.Common.{◌≡◌, ℕ, true, false, List, [], inl, inr, sym, ap, ◌∙◌, subst, refl, cond, flat_map, map, slice_get, bytes_eq, ◌-◌}
use Rattle.std.specs.Prelude.{Option, Some, None, option_map, option_and_then, option_to_list, find}
use Rattle.object_values.specs.declared.nodes.Node.{Node}
use Rattle.object_values.specs.declared.views.Part.{Part}
use Rattle.object_values.specs.declared.views.Value.{Value}
use Rattle.object_values.specs.declared.views.Value.TheVariants.{Simple, List as Listed, Compound}
use Rattle.object_values.specs.declared.graph.PartDecl.{PartDecl}
use Rattle.object_values.specs.declared.graph.Kind.{Kind}
use Rattle.object_values.specs.declared.graph.Kind.TheVariants.{Simple as SimpleKind, List as ListKind, Compound as CompoundKind}
use Rattle.object_values.specs.declared.graph.Extra.{Extra}
use Rattle.object_values.specs.declared.graph.Extra.TheVariants.{Also, With}
use Rattle.object_values.specs.declared.graph.ToolDecl.{ToolDecl}
use Rattle.object_values.specs.declared.graph.Make.{Make}
use Rattle.object_values.specs.declared.graph.Make.TheVariants.{Tool, Read, Each, Pack}
use Rattle.object_values.specs.declared.graph.MakerDecl.{MakerDecl}
use Rattle.object_values.specs.declared.graph.Decl.TheVariants.{Maker as MakerDeclared}
use Rattle.meaning_texts.specs.Classes.{IsName, is_name_byte}
use Rattle.meaning_texts.specs.Tests.{is_name}
use Rattle.meaning_texts.specs.References.{scanned_names}
use Rattle.meaning_texts.specs.Lines.{lines_of}
use Rattle.meaning_texts.proofs.Lemmas.{word_decides, in_either, from_map, from_flat, from_filter, in_all, same_some}
use Rattle.meaning_graph.specs.Graphs.{Text, Graph, kind_of, kind_named}
use Rattle.meaning_texts.specs.Lists.{IsIn}
use Rattle.meaning_graph.specs.Grammar.{IsSpellable, IsSpellableDecl, IsSpellableMake, IsSpellableTool, IsSpellableExtra}
use Rattle.meaning_tasks.specs.Nodes.{source_node, base_of, element_number, reached_type, Fits}
use Rattle.meaning_tasks.specs.Values.{element, body, pick}
use Rattle.meaning_tasks.specs.Reached.{Reached, by_own, by_line}
use Rattle.meaning_tasks.specs.Tasks.{Task, given, picked, mapped, packed, tooled, unfit, ToolTask, PackPart, Led, led_nodes, pack_part, extra_led, scan_node, parts_of, tool_task, make_task, task_of}
use Rattle.meaning_tasks.specs.Needs.{Known, where_valued, elements_of, element_in, picked_element, with_elements, extra_needs, scan_needs, tool_needs, part_nodes, needs_of, lines_in, lines_by, own_lines, other_lines}
use Rattle.meaning_tasks.specs.Maps.{IsElementOf, IsOfKind}
use Rattle.meaning_tasks.proofs.Lemmas.{from_where, picked_needs_are, packed_needs_are, from_tool_needs}
use Rattle.meaning_tasks.proofs.Lemmas.{onward_named_fits}
use Rattle.meaning_derive.proofs.Rules.{slice_in}
use Rattle.meaning_derive.proofs.Bases.{AtMaker, source_fits, bare_fits, by_task}

-- ---- names that are reached

scanned : (x : Text) (text : Text) → IsIn x (scanned_names text) → IsName x
unfolding scanned_names
scanned x text h = (word_decides is_name_byte x).0 (from_filter is_name x (lines_of text) h).1

in_lines : (x : Text) (o : Option (Option Value)) → IsIn x (lines_in o) → IsName x
in_lines x None h = absurd h
in_lines x (Some None) h = absurd h
in_lines x (Some (Some (Simple text))) h = scanned x text h
in_lines x (Some (Some (Listed elements))) h = absurd h
in_lines x (Some (Some (Compound parts))) h = absurd h

by_scan : (known : Known) (x : Text) (o : Option Node) → IsIn x (lines_by known o) → IsName x
by_scan known x None h = absurd h
by_scan known x (Some n) h = in_lines x (known n) h

own_named : (t : Task) (known : Known) (x : Text) → IsIn x (own_lines t known) → IsName x
own_named (given name) known x h = absurd h
own_named (picked base key) known x h = absurd h
own_named (mapped base f) known x h = absurd h
own_named (packed parts) known x h = absurd h
own_named unfit known x h = absurd h
own_named (tooled t) known x h = by_scan known x (t.scan t.root) (from_where (known t.base) x _ h).1

other_named : (t : Task) (known : Known) (y x : Text) → IsIn x (other_lines t known y) → IsName x
other_named (given name) known y x h = absurd h
other_named (picked base key) known y x h = absurd h
other_named (mapped base f) known y x h = absurd h
other_named (packed parts) known y x h = absurd h
other_named unfit known y x h = absurd h
other_named (tooled t) known y x h = by_scan known x (t.scan y) (from_where (known (source_node y)) x _ (from_where (known t.base) x _ h).1).1

pub reached_named : (t : Task) (known : Known) (x : Text) → Reached (own_lines t known) (other_lines t known) x → IsName x
reached_named t known x (by_own y h) = own_named t known y h
reached_named t known x (by_line y z r h) = other_named t known y z h

-- ---- elements

-- what the values of nodes that fit are like
abbrev pub AreOfKind : Graph → Known → Type 0
AreOfKind g known = (n : Node) (v : Value) → Fits g n → known n ≡ Some (Some v) → (t : ℕ) (k : Kind) → reached_type g n ≡ Some t → kind_of g t ≡ Some k → IsOfKind g k v

pub element_of_kind : (g : Graph) (k : Kind) (es : List Node) → IsOfKind g k (Listed es) → (e : Node) → IsIn e es → (of : Text) × (k ≡ ListKind of) × IsElementOf g of e
element_of_kind g SimpleKind es h e i = absurd h
element_of_kind g (ListKind of) es h e i = (of, refl, h e i)
element_of_kind g (CompoundKind ps) es h e i = absurd h

picked_in : (v : Value) (key : Text) (e : Node) → IsIn e (element_in (pick v key)) → IsIn e (elements_of (Some (Some v)))
picked_in (Simple text) key e h = absurd h
picked_in (Listed es) key e h = by_number (element_number key) h
  where
    by_place : (k : ℕ) (o : Option Node) → slice_get es (k - 1) ≡ o → IsIn e (element_in (option_map element o)) → IsIn e es
    by_place k None q i = absurd i
    by_place k (Some x) q (inl p) = subst (λ z. IsIn z es) (sym p) (slice_in es (k - 1) x q)
    by_place k (Some x) q (inr none) = absurd none

    by_number : (o : Option ℕ) → IsIn e (element_in (option_map element (option_and_then (λ k. slice_get es (k - 1)) o))) → IsIn e es
    by_number None i = absurd i
    by_number (Some k) i = by_place k (slice_get es (k - 1)) refl i
picked_in (Compound ps) key e h = by_part (find (λ p. bytes_eq p.name key) ps) h
  where
    by_part : (o : Option Part) → IsIn e (element_in (option_map (λ (p : Part). body p.body) o)) → IsIn e []
    by_part None i = i
    by_part (Some p) i = i

picked_element_in : (key : Text) (o : Option (Option Value)) (e : Node) → IsIn e (picked_element key o) → IsIn e (elements_of o)
picked_element_in key None e h = h
picked_element_in key (Some None) e h = h
picked_element_in key (Some (Some v)) e h = picked_in v key e h

module _ (g : Graph) (known : Known) (kinds : AreOfKind g known) where
  -- the type of a node that fits has a kind
  pub element_fits : (n : Node) (t : ℕ) (k : Kind) → Fits g n → reached_type g n ≡ Some t → kind_of g t ≡ Some k → (e : Node) → IsIn e (elements_of (known n)) → Fits g e
  element_fits n t k f typed kind e i = by_value (known n) refl i
    where
      by_value : (o : Option (Option Value)) → known n ≡ o → IsIn e (elements_of o) → Fits g e
      by_value None q i = absurd i
      by_value (Some None) q i = absurd i
      by_value (Some (Some (Simple text))) q i = absurd i
      by_value (Some (Some (Listed es))) q i = (element_of_kind g k es (kinds n (Listed es) f q t k typed kind) e i).2.fits
      by_value (Some (Some (Compound ps))) q i = absurd i

pub in_option : {A : Type 0} (x : A) (o : Option A) → IsIn x (option_to_list o) → o ≡ Some x
in_option x None h = absurd h
in_option x (Some y) (inl e) = ap Some (sym e)
in_option x (Some y) (inr none) = absurd none

-- what is led to comes from one of the items
pub from_led : {A : Type 0} (f : A → Led) (xs : List A) (e : Node) → IsIn e (led_nodes (map f xs)) → (x : A) × IsIn x xs × ((f x).node ≡ Some e)
from_led f xs e h =
    let r = from_flat (λ (l : Led). option_to_list l.node) e (map f xs) h in
    let x = from_map f r.0 xs r.1 in
    (x.0, x.1, ap (λ (l : Led). l.node) (sym x.2) ∙ in_option e r.0.node r.2)

module _ (g : Graph) (spellable : IsSpellable g) (known : Known) (kinds : AreOfKind g known) (kinded : (n : Node) → Fits g n → (t : ℕ) × (k : Kind) × (reached_type g n ≡ Some t) × (kind_of g t ≡ Some k)) where
  elements_fit : (n : Node) → Fits g n → (m : Node) → IsIn m (with_elements known n) → Fits g m
  elements_fit n f m (inl e) = subst (Fits g) (sym e) f
  elements_fit n f m (inr h) = let k = kinded n f in element_fits g known kinds n k.0 k.1 f k.2 k.3 m h

  module _ (n : Node) (f : Fits g n) where
    module _ (m : MakerDecl) (a : AtMaker g n m) where
      with_named : (tool : ToolDecl) → m.make ≡ Tool tool → (name : Text) → IsIn (With name) tool.extras → IsName name
      with_named tool e name h =
          let d = in_all IsSpellableDecl g spellable (MakerDeclared m) a.declared in
          let t : IsSpellableTool tool = subst IsSpellableMake e d.make in
          in_all IsSpellableExtra tool.extras t.extras (With name) h

      pub extra_fits : (tool : ToolDecl) → m.make ≡ Tool tool → (x : Extra) → IsIn x tool.extras → (y : Node) → (extra_led g n x).node ≡ Some y → Fits g y
      extra_fits tool e (Also of) i y q = (onward_named_fits g (base_of n) y of a.base q).2.fits
      extra_fits tool e (With name) i y q = subst (Fits g) (same_some q) (bare_fits g name (with_named tool e name i))

      extras_fit : (tool : ToolDecl) → m.make ≡ Tool tool → (z : Node) → IsIn z (flat_map (extra_needs known) (map (extra_led g n) tool.extras)) → Fits g z
      extras_fit tool e z h =
          let r = from_flat (extra_needs known) z (map (extra_led g n) tool.extras) h in
          let x = from_map (extra_led g n) r.0 tool.extras r.1 in
          let y = from_flat (with_elements known) z (option_to_list r.0.node) r.2 in
          elements_fit y.0 (extra_fits tool e x.0 x.1 y.0 (ap (λ (w : Led). w.node) (sym x.2) ∙ in_option y.0 r.0.node y.1)) z y.2

      scan_fits : (closure : Option Text) (x : Text) → IsName x → (y : Node) → scan_node g n closure x ≡ Some y → Fits g y
      scan_fits None x h y q = cc
      scan_fits (Some of) x h y q = (onward_named_fits g (record n { source = x; steps = [] }) y of (source_fits g n x f h) q).2.fits

      scans_fit : (t : ToolTask) → ((x : Text) → IsName x → (y : Node) → t.scan x ≡ Some y → Fits g y) → (names : List Text) → ((x : Text) → IsIn x names → IsName x) → (z : Node) → IsIn z (flat_map (scan_needs t known) names) → Fits g z
      scans_fit t each names named z h =
          let r = from_flat (scan_needs t known) z names h in
          (elim (bytes_eq r.0 t.root) as (λ b. IsIn z (cond b [] (where_valued (known (source_node r.0)) (option_to_list (t.scan r.0)))) → Fits g z) [
            | true ↦ λ i. absurd i
            | false ↦ λ i. each r.0 (named r.0 r.1) z (in_option z (t.scan r.0) (from_where (known (source_node r.0)) z (option_to_list (t.scan r.0)) i).1)
          ]) r.2

      sources_fit : (names : List Text) → ((x : Text) → IsIn x names → IsName x) → (z : Node) → IsIn z (map source_node names) → Fits g z
      sources_fit names named z h = let r = from_map source_node z names h in subst (Fits g) (sym r.2) (bare_fits g r.0 (named r.0 r.1))

      tool_fits : (t : ToolTask) → t.base ≡ base_of n → IsName t.root → ((x : Text) → IsName x → (y : Node) → t.scan x ≡ Some y → Fits g y) → ((z : Node) → IsIn z (flat_map (extra_needs known) t.extras) → Fits g z) → (names : List Text) → ((x : Text) → IsIn x names → IsName x) → (z : Node) → IsIn z (needs_of (tooled t) known names) → Fits g z
      tool_fits t base root scan extras names named z h = elim (from_tool_needs t known names z h) [
        | inl i ↦ elim i [ inl e ↦ subst (Fits g) (sym (e ∙ base)) a.base | inr k ↦ by_more (from_where (known t.base) z (tool_needs t known names) k).1 ]
        | inr i ↦ sources_fit names named z (from_where (known t.base) z (map source_node names) i).1
      ]
        where
          by_more : IsIn z (tool_needs t known names) → Fits g z
          by_more k = elim (in_either z (elements_of (known t.base)) _ k) [
            | inl i ↦ elements_fit t.base (subst (Fits g) (sym base) a.base) z (inr i)
            | inr i ↦ elim (in_either z (flat_map (extra_needs known) t.extras) _ i) [
              | inl j ↦ extras z j
              | inr j ↦ elim (in_either z (option_to_list (t.scan t.root)) _ j) [
                | inl l ↦ scan t.root root z (in_option z (t.scan t.root) l)
                | inr l ↦ scans_fit t scan names named z l
              ]
            ]
          ]

      parts_fit : (ds : List PartDecl) (z : Node) → IsIn z (part_nodes (map (pack_part g n) ds)) → Fits g z
      parts_fit ds z h =
          let p = from_led (λ (p : PackPart). p.led) (map (pack_part g n) ds) z h in
          let d = from_map (pack_part g n) p.0 ds p.1 in
          (onward_named_fits g (base_of n) z d.0.of a.base (ap (λ (p : PackPart). p.led.node) (sym d.2) ∙ p.2)).2.fits

      made_needs : (make : Make) → m.make ≡ make → (names : List Text) → ((x : Text) → IsIn x names → IsName x) → (z : Node) → IsIn z (needs_of (make_task g n m make) known names) → Fits g z
      made_needs (Tool tool) e names named z h = tool_fits (tool_task g n m tool) refl f.source (scan_fits tool.closure) (extras_fit tool e) names named z h
      made_needs Read e names named z (inl q) = subst (Fits g) (sym q) a.base
      made_needs Read e names named z (inr none) = absurd none
      made_needs Each e names named z (inl q) = subst (Fits g) (sym q) a.base
      made_needs Each e names named z (inr none) = absurd none
      made_needs Pack e names named z h = parts_fit (parts_of (kind_named g m.to)) z (subst (λ l. IsIn z l) (packed_needs_are (map (pack_part g n) (parts_of (kind_named g m.to))) known names) h)

    pub task_needs_fit : (names : List Text) → ((x : Text) → IsIn x names → IsName x) → (z : Node) → IsIn z (needs_of (task_of g n) known names) → Fits g z
    task_needs_fit names named = by_task g n f (λ t. (z : Node) → IsIn z (needs_of t known names) → Fits g z)
        (λ e z h. absurd h)
        (λ key b z h. elim (subst (λ l. IsIn z l) (picked_needs_are (base_of n) key known names) h) [
          | inl e ↦ subst (Fits g) (sym e) b.fits
          | inr k ↦ elements_fit (base_of n) b.fits z (inr (picked_element_in key (known (base_of n)) z k))
        ])
        (λ m a z h. made_needs m a m.make refl names named z h)
