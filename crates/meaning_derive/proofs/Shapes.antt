-- The value that a node itself gives is of the node's kind, and short.
use Rattle.std.proofs.Common.{◌≡◌, ◌≢◌, ℕ, ◌≤◌, Bool, true, false, List, [], ◌∷◌, ◌++◌, ◌⊎◌, inl, inr, sym, ap, ◌∙◌, subst, refl, cond, flat_map, map, slice_get, bytes_eq, ◌-◌, ◌&&◌, ◌||◌, length, arith, is_some}
use Rattle.std.specs.Prelude.{Option, Some, None, option_map, option_and_then, option_to_list, find}
use Rattle.object_values.specs.declared.messages.Status.{Status}
use Rattle.object_values.specs.declared.messages.Status.TheVariants.{Ok, Warning, Error, Abort}
use Rattle.object_values.specs.declared.messages.Message.{Message}
use Rattle.object_values.specs.declared.nodes.ParamValue.{ParamValue}
use Rattle.object_values.specs.declared.nodes.Step.TheVariants.{Pick}
use Rattle.object_values.specs.declared.nodes.Node.{Node}
use Rattle.object_values.specs.declared.views.Part.{Part}
use Rattle.object_values.specs.declared.views.Value.{Value}
use Rattle.object_values.specs.declared.views.Value.TheVariants.{Simple, List as Listed, Compound}
use Rattle.object_values.specs.declared.expressions.Expression.{Expression}
use Rattle.object_values.specs.declared.expressions.Line.{Line}
use Rattle.object_values.specs.declared.expressions.Line.TheVariants.{Good, Bad}
use Rattle.object_values.specs.declared.expressions.Lines.{Lines}
use Rattle.object_values.specs.declared.expressions.Lines.TheVariants.{These, TooMany}
use Rattle.object_values.specs.declared.graph.PartDecl.{PartDecl}
use Rattle.object_values.specs.declared.graph.Kind.{Kind}
use Rattle.object_values.specs.declared.graph.Kind.TheVariants.{Simple as SimpleKind, List as ListKind, Compound as CompoundKind}
use Rattle.object_values.specs.declared.graph.ToolDecl.{ToolDecl}
use Rattle.object_values.specs.declared.graph.Make.{Make}
use Rattle.object_values.specs.declared.graph.Make.TheVariants.{Tool, Read, Each, Pack}
use Rattle.object_values.specs.declared.graph.MakerDecl.{MakerDecl}
use Rattle.object_values.specs.declared.graph.Decl.TheVariants.{Maker as MakerDeclared}
use Rattle.object_values.specs.declared.calls.Call.{Call}
use Rattle.object_values.specs.declared.calls.Outcome.{Outcome}
use Rattle.meaning_texts.specs.Expressions.{IsParamOfClass, IsCanonical}
use Rattle.meaning_texts.specs.Limits.{body_limit}
use Rattle.meaning_texts.specs.References.{references}
use Rattle.meaning_calls.specs.Outcomes.{OutcomeFits as OutcomeFits}
use Rattle.meaning_graph.specs.Graphs.{Text, Graph, type_named, kind_of, kind_named}
use Rattle.meaning_texts.specs.Lists.{is_empty, IsIn}
use Rattle.meaning_graph.specs.Suffixes.{source_type}
use Rattle.meaning_texts.proofs.Lemmas.{in_either, in_map, in_all, all_in, in_all_pass, same_some, value_of_some}
use Rattle.std.proofs.lemmas.Bool.{and_parts, or_cases}
use Rattle.meaning_graph.proofs.Lemmas.{found_passes}
use Rattle.meaning_graph.specs.Checks.{Checked, is_simple, is_list, is_compound as is_compound_type, keeps_make}
use Rattle.meaning_tasks.specs.Nodes.{base_of, element_number, picked_type, reached_type, onward_named, Fits}
use Rattle.meaning_tasks.specs.Values.{element, body, pick}
use Rattle.meaning_tasks.specs.NodeOf.{NodeAnswer, is_node, unknown_param, unknown_type, no_path, node_of}
use Rattle.meaning_tasks.specs.Tasks.{Own, Task, tooled, ToolTask, PackPart, fine_unless, unless_node, led_to, led_nodes, led_missing, with_params_of, answer_node, line_node, line_led, lines_own, read_own, each_own, element_name, parts_of, is_compound, outs_of, pack_part, tool_task, make_task, task_of}
use Rattle.meaning_tasks.specs.Needs.{Known, has_value, elements_of, part_nodes, counted_needs}
use Rattle.meaning_tasks.specs.Calls.{text_in, all_valued, call_of, tool_call}
use Rattle.meaning_tasks.specs.Settle.{SourceLookup, given_own, element_own, pick_own, picked_own, mapped_own, named_body, part_body, first_body, made_value, at_status, outcome_own, own_of}
use Rattle.meaning_tasks.specs.Maps.{IsElementOf, IsOfKind}
use Rattle.meaning_tasks.proofs.Lemmas.{HasBase, made_fits, onward_named_fits}
use Rattle.meaning_tasks.proofs.Lemmas.{packed_counted_are, from_kept, references_canonical}
use Rattle.meaning_derive.specs.Given.{IsSource}
use Rattle.meaning_derive.specs.Premises.{IsShort}
use Rattle.meaning_derive.proofs.Rules.{kind_name, name_kind, named_kind, simple_named, list_named, compound_named, simple_number, kept_rules, contents_simple, simple_down, source_simple, slice_in}
use Rattle.meaning_derive.proofs.Bases.{AtMaker, source_typed, by_task}
use Rattle.meaning_derive.proofs.Needed.{AreOfKind, element_fits, from_led}

-- ---- values of kinds

simple_value : (g : Graph) (v : Value) → IsOfKind g SimpleKind v → (text : Text) × (v ≡ Simple text)
simple_value g (Simple text) h = (text, refl)
simple_value g (Listed es) h = absurd h
simple_value g (Compound ps) h = absurd h

-- what is known of nodes that fit: values of their kinds, and short ones
abbrev pub AreShort : Graph → Known → Type 0
AreShort g known = (n : Node) (v : Value) → Fits g n → known n ≡ Some (Some v) → IsShort v

-- the outcome fits the call of the task
abbrev pub IsOutcomeOf : Graph → Task → Known → List Text → Option Outcome → Type 0
IsOutcomeOf g t known names o = (x : Outcome) → o ≡ Some x → (call : Call) × (call_of g t known names ≡ Some call) × OutcomeFits call x

-- the kind of the type of a node
module _ (g : Graph) (checked : Checked g) where
  picked_named : (key : Text) (o : Option Kind) (t : ℕ) → picked_type g key o ≡ Some t → (name : Text) × (type_named g name ≡ Some t)
  picked_named key None t e = cc
  picked_named key (Some SimpleKind) t e = cc
  picked_named key (Some (ListKind of)) t e = by_number (is_some (element_number key)) e
    where
      by_number : (b : Bool) → cond b (type_named g of) None ≡ Some t → (name : Text) × (type_named g name ≡ Some t)
      by_number true q = (of, q)
      by_number false q = cc
  picked_named key (Some (CompoundKind ps)) t e = by_part (find (λ p. bytes_eq p.name key) ps) e
    where
      by_part : (o : Option PartDecl) → option_and_then (λ (p : PartDecl). type_named g p.of) o ≡ Some t → (name : Text) × (type_named g name ≡ Some t)
      by_part None q = cc
      by_part (Some p) q = (p.of, q)

  pub kinded : (n : Node) → Fits g n → (t : ℕ) × (k : Kind) × (reached_type g n ≡ Some t) × (kind_of g t ≡ Some k)
  kinded n f = by_task g n f (λ _. (t : ℕ) × (k : Kind) × (reached_type g n ≡ Some t) × (kind_of g t ≡ Some k))
      (λ e. (source_type g n.source, SimpleKind, source_typed g n e, source_simple g checked n.source))
      (λ key b.
      let t = value_of_some (reached_type g n) f.typed in
      let p = picked_named key (kind_of g b.type) t.0 (b.step ∙ t.1) in
      let k = named_kind g p.0 t.0 p.1 in
      (t.0, k.0, t.1, k.1))
      (λ m a.
      let t = value_of_some (reached_type g n) f.typed in
      let k = named_kind g m.to t.0 (sym a.typed ∙ t.1) in
      (t.0, k.0, t.1, k.1))

  -- ---- picks

  abbrev IsGood : Node → Value → Type 0
  IsGood n v = (t : ℕ) (k : Kind) → reached_type g n ≡ Some t → kind_of g t ≡ Some k → IsOfKind g k v × IsShort v

  -- what is simple is good where its type is
  good_simple : (n : Node) (t : ℕ) → reached_type g n ≡ Some t → kind_of g t ≡ Some SimpleKind → (text : Text) → length text ≤ body_limit → IsGood n (Simple text)
  good_simple n t typed kind text short u k e q =
      let same : t ≡ u = same_some (sym typed ∙ e) in
      let simple : SimpleKind ≡ k = same_some (sym kind ∙ ap (kind_of g) same ∙ q) in
      (subst (λ z. IsOfKind g z (Simple text)) simple tt, short)

  module _ (known : Known) (kinds : AreOfKind g known) (short : AreShort g known) where
    -- an element of a simple type
    element_good : (n : Node) (t : ℕ) → reached_type g n ≡ Some t → (of : Text) → type_named g of ≡ Some t → is_simple g of ≡ true → (e : Node) → IsElementOf g of e → (v : Value) → known e ≡ Some (Some v) → IsGood n v
    element_good n t typed of named simple e i v there =
        let kt : kind_of g t ≡ Some SimpleKind = simple_number g of t simple named in
        let same : i.named ≡ t = same_some (sym i.element ∙ named) in
        let ke : kind_of g i.type ≡ Some SimpleKind = simple_down g checked i.type i.named i.is (ap (kind_of g) same ∙ kt) in
        let text = simple_value g v (kinds e v i.fits there i.type SimpleKind i.typed ke) in
        subst (IsGood n) (sym text.1) (good_simple n t typed kt text.0 (subst IsShort text.1 (short e v i.fits there)))

    picked_list : (n : Node) (key : Text) (of : Text) (t : ℕ) → reached_type g n ≡ Some t → picked_type g key (Some (ListKind of)) ≡ Some t → type_named g of ≡ Some t
    picked_list n key of t typed e = by_number (is_some (element_number key)) e
      where
        by_number : (b : Bool) → cond b (type_named g of) None ≡ Some t → type_named g of ≡ Some t
        by_number true q = q
        by_number false q = cc

    element_value : (o : Option (Option Value)) (v : Value) → (element_own o).value ≡ Some v → o ≡ Some (Some v)
    element_value None v e = cc
    element_value (Some None) v e = cc
    element_value (Some (Some w)) v e = ap (λ x. Some (Some x)) (same_some e)

    module _ (n : Node) (key : Text) (b : HasBase g n (Pick key)) (t : ℕ) (typed : reached_type g n ≡ Some t) where
      -- from a list
      from_list : (label : Text) (es : List Node) (kb : Kind) → kind_of g b.type ≡ Some kb → IsOfKind g kb (Listed es) → (v : Value) → (pick_own label known key (pick (Listed es) key)).value ≡ Some v → IsGood n v
      from_list label es SimpleKind q h v e = absurd h
      from_list label es (CompoundKind ps) q h v e = absurd h
      from_list label es (ListKind of) q h v e = by_number (element_number key) e
        where
          named : type_named g of ≡ Some t
          named = picked_list n key of t typed (ap (picked_type g key) (sym q) ∙ b.step ∙ typed)

          simple : is_simple g of ≡ true
          simple = contents_simple g checked b.type (ListKind of) q of (inl refl)

          by_place : (k : ℕ) (o : Option Node) → slice_get es (k - 1) ≡ o → (pick_own label known key (option_map element o)).value ≡ Some v → IsGood n v
          by_place k None p r = cc
          by_place k (Some x) p r = element_good n t typed of named simple x (h x (slice_in es (k - 1) x p)) v (element_value (known x) v r)

          by_number : (o : Option ℕ) → (pick_own label known key (option_map element (option_and_then (λ k. slice_get es (k - 1)) o))).value ≡ Some v → IsGood n v
          by_number None r = cc
          by_number (Some k) r = by_place k (slice_get es (k - 1)) refl r

      -- from a compound
      from_compound : (label : Text) (ps : List Part) (kb : Kind) → kind_of g b.type ≡ Some kb → IsOfKind g kb (Compound ps) → IsShort (Compound ps) → (v : Value) → (pick_own label known key (pick (Compound ps) key)).value ≡ Some v → IsGood n v
      from_compound label ps SimpleKind q h s v e = absurd h
      from_compound label ps (ListKind of) q h s v e = absurd h
      from_compound label ps (CompoundKind ds) q h s v e = by_part (find (λ (p : Part). bytes_eq p.name key) ps) refl e (find (λ (d : PartDecl). bytes_eq d.name key) ds) refl (ap (picked_type g key) (sym q) ∙ b.step ∙ typed)
        where
          by_decl : (p : Part) → IsIn p ps → (pick_own label known key (Some (body p.body))).value ≡ Some v → (o : Option PartDecl) → find (λ (d : PartDecl). bytes_eq d.name key) ds ≡ o → option_and_then (λ (d : PartDecl). type_named g d.of) o ≡ Some t → IsGood n v
          by_decl p i r None x y = cc
          by_decl p i r (Some d) x y =
              let kt : kind_of g t ≡ Some SimpleKind = simple_number g d.of t (contents_simple g checked b.type (CompoundKind ds) q d.of (in_map (λ (z : PartDecl). z.of) d ds (found_passes (λ (z : PartDecl). bytes_eq z.name key) ds d x).0)) y in
              subst (IsGood n) (same_some r) (good_simple n t typed kt p.body (s p i))

          by_part : (o : Option Part) → find (λ (p : Part). bytes_eq p.name key) ps ≡ o → (pick_own label known key (option_map (λ (p : Part). body p.body) o)).value ≡ Some v → (d : Option PartDecl) → find (λ (d : PartDecl). bytes_eq d.name key) ds ≡ d → option_and_then (λ (d : PartDecl). type_named g d.of) d ≡ Some t → IsGood n v
          by_part None p r d x y = cc
          by_part (Some w) p r d x y = by_decl w (found_passes (λ (z : Part). bytes_eq z.name key) ps w p).0 r d x y

      picked_good : (label : Text) (kb : Kind) → kind_of g b.type ≡ Some kb → (v : Value) → (picked_own label known key (known (base_of n))).value ≡ Some v → IsGood n v
      picked_good label kb q v e = by_value (known (base_of n)) refl e
        where
          by_value : (o : Option (Option Value)) → known (base_of n) ≡ o → (picked_own label known key o).value ≡ Some v → IsGood n v
          by_value None p r = cc
          by_value (Some None) p r = cc
          by_value (Some (Some (Simple text))) p r = cc
          by_value (Some (Some (Listed es))) p r = from_list label es kb q (kinds (base_of n) (Listed es) b.fits p b.type kb b.typed q) v r
          by_value (Some (Some (Compound ps))) p r = from_compound label ps kb q (kinds (base_of n) (Compound ps) b.fits p b.type kb b.typed q) (short (base_of n) (Compound ps) b.fits p) v r

    -- ---- lists

    unless_value : (w : Value) (messages : List Message) (v : Value) → (fine_unless w messages).value ≡ Some v → (v ≡ w) × (messages ≡ [])
    unless_value w [] v e = (sym (same_some e), refl)
    unless_value w (m ∷ messages) v e = cc

    led_element : (n e : Node) (of : Text) → Fits g n → onward_named g n of ≡ Some e → IsElementOf g of e
    led_element n e of f h = let l = onward_named_fits g n e of f h in record { fits = l.2.fits; type = l.2.type; typed = l.2.typed; named = l.0; element = l.1; is = l.2.is }

    with_params_fits : (n m : Node) → Fits g n → Fits g m → Fits g (with_params_of n m)
    unfolding reached_type
    with_params_fits n m f h = record { source = h.source; params = all_in IsParamOfClass _ each; keys = h.keys; typed = h.typed }
      where
        each : (p : ParamValue) → IsIn p (with_params_of n m).params → IsParamOfClass p
        each p i = elim (in_either p n.params m.params (from_kept p (n.params ++ m.params) i)) [ inl k ↦ in_all IsParamOfClass n.params f.params p k | inr k ↦ in_all IsParamOfClass m.params h.params p k ]

    answer_element : (n e : Node) (of : Text) (x : Expression) → Fits g n → IsCanonical x → (a : NodeAnswer) → node_of g x ≡ a → answer_node g n of a ≡ Some e → IsElementOf g of e
    answer_element n e of x f c (is_node m) q h = led_element (with_params_of n m) e of (with_params_fits n m f (made_fits g x m c q)) h
    answer_element n e of x f c (unknown_param name) q h = cc
    answer_element n e of x f c (unknown_type name) q h = cc
    answer_element n e of x f c (no_path k) q h = cc

    line_element : (n e : Node) (of : Text) (line : Line) → Fits g n → ((k : ℕ) (x : Expression) → line ≡ Good k x → IsCanonical x) → line_node g n of line ≡ Some e → IsElementOf g of e
    line_element n e of (Bad k) f c h = cc
    line_element n e of (Good k x) f c h = answer_element n e of x f (c k x refl) (node_of g x) refl h

    lines_element : (n e : Node) (of : Text) (text : Text) (ls : Lines) → references text ≡ ls → Fits g n → (v : Value) → (lines_own g n of ls).value ≡ Some v → (es : List Node) × (v ≡ Listed es) × ((e : Node) → IsIn e es → IsElementOf g of e)
    lines_element n e of text TooMany q f v h = cc
    lines_element n e of text (These lines) q f v h = (led_nodes (map (line_led g n of) lines), (unless_value _ _ v h).0, each)
      where
        each : (e : Node) → IsIn e (led_nodes (map (line_led g n of) lines)) → IsElementOf g of e
        each e i = let r = from_led (line_led g n of) lines e i in line_element n e of r.0 f (λ k x p. references_canonical text lines k x q (subst (λ z. IsIn z lines) p r.1)) r.2

    read_elements : (n : Node) (of : Text) → Fits g n → (w v : Value) → (read_own g n of w).value ≡ Some v → (es : List Node) × (v ≡ Listed es) × ((e : Node) → IsIn e es → IsElementOf g of e)
    read_elements n of f (Simple text) v h = lines_element n n of text (references text) refl f v h
    read_elements n of f (Listed es) v h = cc
    read_elements n of f (Compound ps) v h = cc

    each_elements : (n : Node) (of : Text) (w v : Value) → ((es : List Node) → w ≡ Listed es → (e : Node) → IsIn e es → Fits g e) → (each_own g n of w).value ≡ Some v → (es : List Node) × (v ≡ Listed es) × ((e : Node) → IsIn e es → IsElementOf g of e)
    each_elements n of (Simple text) v f h = cc
    each_elements n of (Listed es) v f h = (led_nodes (map (led_to g n of) es), (unless_value _ _ v h).0, λ e i. let r = from_led (led_to g n of) es e i in led_element r.0 e of (f es refl r.0 r.1) r.2)
    each_elements n of (Compound ps) v f h = cc

    -- the list type that a maker makes
    good_list : (n : Node) (m : MakerDecl) → reached_type g n ≡ type_named g m.to → is_list g m.to ≡ true → (v : Value) → (es : List Node) × (v ≡ Listed es) × ((e : Node) → IsIn e es → IsElementOf g (element_name (kind_named g m.to)) e) → IsGood n v
    good_list n m typed list v es t k e q =
        let l = list_named g m.to list in
        let same : ListKind l.0 ≡ k = same_some (sym l.1 ∙ name_kind g m.to t (sym typed ∙ e) ∙ q) in
        let each : (x : Node) → IsIn x es.0 → IsElementOf g l.0 x = subst (λ z. (x : Node) → IsIn x es.0 → IsElementOf g z x) (ap element_name l.1) es.2 in
        (subst (λ z. IsOfKind g z v) same (subst (IsOfKind g (ListKind l.0)) (sym es.1) each), subst IsShort (sym es.1) tt)

    -- ---- packs

    part_named : (base x : Node) (d : PartDecl) → Fits g base → is_simple g d.of ≡ true → onward_named g base d.of ≡ Some x → has_value (known x) ≡ true → (text : Text) × (known x ≡ Some (Some (Simple text))) × (length text ≤ body_limit)
    part_named base x d f simple h valued = by_value (known x) refl valued
      where
        l : IsElementOf g d.of x
        l = led_element base x d.of f h

        by_value : (o : Option (Option Value)) → known x ≡ o → has_value o ≡ true → (text : Text) × (known x ≡ Some (Some (Simple text))) × (length text ≤ body_limit)
        by_value None q r = cc
        by_value (Some None) q r = cc
        by_value (Some (Some w)) q r =
            let ke : kind_of g l.type ≡ Some SimpleKind = simple_down g checked l.type l.named l.is (simple_number g d.of l.named simple l.element) in
            let text = simple_value g w (kinds x w l.fits q l.type SimpleKind l.typed ke) in
            (text.0, q ∙ ap (λ z. Some (Some z)) text.1, subst IsShort text.1 (short x w l.fits q))

    -- bodies of parts as they are declared, none too long
    record ArePacked (parts : List Part) (ds : List PartDecl) : Type 0 where
      names : map (λ (p : Part). p.name) parts ≡ map (λ (d : PartDecl). d.name) ds
      small : IsShort (Compound parts)

    packed_first : (d : PartDecl) (ds : List PartDecl) (rest : List Part) (o : Option (Option Value)) (text : Text) → o ≡ Some (Some (Simple text)) → length text ≤ body_limit → ArePacked rest ds → ArePacked ((named_body d.name (text_in o) ++ []) ++ rest) (d ∷ ds)
    packed_first d ds rest o text e small more = subst (λ z. ArePacked ((named_body d.name (text_in z) ++ []) ++ rest) (d ∷ ds)) (sym e)
        (record { names = ap (λ l. d.name ∷ l) more.names; small = λ p. elim [ inl q ↦ subst (λ (z : Part). length z.body ≤ body_limit) (sym q) small | inr i ↦ more.small p i ] })

    packed_node : (base : Node) → Fits g base → (d : PartDecl) (ds : List PartDecl) (rest : List Part) (m : Message) (more : List Message) (nodes : List Node) → is_simple g d.of ≡ true → (o : Option Node) → onward_named g base d.of ≡ o → unless_node m o ++ more ≡ [] → ((x : Node) → IsIn x (option_to_list o ++ nodes) → has_value (known x) ≡ true)
        → (more ≡ [] → ((x : Node) → IsIn x nodes → has_value (known x) ≡ true) → ArePacked rest ds) → ArePacked (flat_map (λ y. named_body d.name (text_in (known y))) (option_to_list o) ++ rest) (d ∷ ds)
    packed_node base f d ds rest m more nodes simple None q e valued k = cc
    packed_node base f d ds rest m more nodes simple (Some x) q e valued k =
        let t = part_named base x d f simple q (valued x (inl refl)) in
        packed_first d ds rest (known x) t.0 t.1 t.2 (k e (λ y i. valued y (inr i)))

    packed_parts : (n : Node) → Fits g (base_of n) → (ds : List PartDecl) → ((d : PartDecl) → IsIn d ds → is_simple g d.of ≡ true) → led_missing (map (λ (p : PackPart). p.led) (map (pack_part g n) ds)) ≡ [] → ((x : Node) → IsIn x (part_nodes (map (pack_part g n) ds)) → has_value (known x) ≡ true) → ArePacked (flat_map (part_body known) (map (pack_part g n) ds)) ds
    packed_parts n f [] simple none valued = record { names = refl; small = λ p i. absurd i }
    packed_parts n f (d ∷ ds) simple none valued = packed_node (base_of n) f d ds _ _ _ _ (simple d (inl refl)) (onward_named g (base_of n) d.of) refl none valued (λ e v. packed_parts n f ds (λ x i. simple x (inr i)) e v)

    -- ---- tools

    status_value : (status : Status) (w v : Value) (messages : List Message) → (at_status status w messages).value ≡ Some v → (status ≢ Abort) × (w ≡ v)
    status_value Ok w v messages e = (λ q. cc, same_some e)
    status_value Warning w v messages e = (λ q. cc, same_some e)
    status_value Error w v messages e = (λ q. cc, same_some e)
    status_value Abort w v messages e = cc

    if_called : {A : Type 0} (b : Bool) (x y : A) → cond b (Some x) None ≡ Some y → x ≡ y
    if_called true x y e = same_some e
    if_called false x y e = cc

    call_outs : (t : ToolTask) (names : List Text) (call : Call) → call_of g (tooled t) known names ≡ Some call → t.outs ≡ call.outs
    call_outs t names call e = ap (λ (c : Call). c.outs) (if_called (is_empty (led_missing t.extras) && all_valued known (counted_needs (tooled t) known names)) (tool_call g t known names) call e)

    first_short : (outputs : List Part) → ((p : Part) → IsIn p outputs → length p.body ≤ body_limit) → length (first_body outputs) ≤ body_limit
    first_short [] h = omega arith
    first_short (p ∷ outputs) h = h p (inl refl)

    outcome_names : (x : Outcome) (call : Call) → OutcomeFits call x → x.status ≢ Abort → map (λ (p : Part). p.name) x.outputs ≡ call.outs
    outcome_names x call f n = elim f.outputs [ inl a ↦ absurd (n a.0) | inr b ↦ b.1 ]

    tool_good : (n : Node) (m : MakerDecl) → AtMaker g n m → (tool : ToolDecl) → m.make ≡ Tool tool → (label : Text) (missing : List Message) (names : List Text) (o : Option Outcome) → IsOutcomeOf g (tooled (tool_task g n m tool)) known names o → (v : Value) → (outcome_own label (tool_task g n m tool).makes_compound missing o).value ≡ Some v → IsGood n v
    tool_good n m a tool is label missing names None ok v e = cc
    tool_good n m a tool is label missing names (Some x) ok v e = by_rule (or_cases (is_simple g m.to) (is_compound_type g m.to) (and_parts (is_simple g m.to || is_compound_type g m.to) _ rules).0)
      where
        rules : keeps_make g m.from m.to (Tool tool) ≡ true
        rules = subst (λ z. keeps_make g m.from m.to z ≡ true) is (kept_rules g checked (MakerDeclared m) a.declared)

        value : (x.status ≢ Abort) × (made_value (is_compound (kind_named g m.to)) x.outputs ≡ v)
        value = status_value x.status (made_value (is_compound (kind_named g m.to)) x.outputs) v _ e

        call : (call : Call) × (call_of g (tooled (tool_task g n m tool)) known names ≡ Some call) × OutcomeFits call x
        call = ok x refl

        small : (p : Part) → IsIn p x.outputs → length p.body ≤ body_limit
        small = in_all (λ (p : Part). length p.body ≤ body_limit) x.outputs call.2.short

        by_simple : kind_named g m.to ≡ Some SimpleKind → IsGood n v
        by_simple k t kt typed q = (subst (λ z. IsOfKind g z v) same (subst (IsOfKind g SimpleKind) made tt), subst IsShort made (first_short x.outputs small))
          where
            made : Simple (first_body x.outputs) ≡ v
            made = ap (λ z. made_value (is_compound z) x.outputs) (sym k) ∙ value.1

            same : SimpleKind ≡ kt
            same = same_some (sym k ∙ name_kind g m.to t (sym a.typed ∙ typed) ∙ q)

        by_compound : (ps : List PartDecl) → kind_named g m.to ≡ Some (CompoundKind ps) → IsGood n v
        by_compound ps k t kt typed q = (subst (λ z. IsOfKind g z v) same (subst (IsOfKind g (CompoundKind ps)) made outs), subst IsShort made small)
          where
            made : Compound x.outputs ≡ v
            made = ap (λ z. made_value (is_compound z) x.outputs) (sym k) ∙ value.1

            same : CompoundKind ps ≡ kt
            same = same_some (sym k ∙ name_kind g m.to t (sym a.typed ∙ typed) ∙ q)

            outs : map (λ (p : Part). p.name) x.outputs ≡ map (λ (d : PartDecl). d.name) ps
            outs = outcome_names x call.0 call.2 value.0 ∙ sym (call_outs (tool_task g n m tool) names call.0 call.1) ∙ ap (outs_of m.to) k

        by_rule : (is_simple g m.to ≡ true) ⊎ (is_compound_type g m.to ≡ true) → IsGood n v
        by_rule (inl s) = by_simple (simple_named g m.to s)
        by_rule (inr c) = let ps = compound_named g m.to c in by_compound ps.0 ps.1

    -- ---- all tasks

    module _ (n : Node) (f : Fits g n) (label : Text) (texts : SourceLookup) (sources : (name text : Text) → texts name ≡ Some text → IsSource name text) (o : Option Outcome) (names : List Text) where
      source_good : n.steps ≡ [] → (v : Value) → (given_own label n.source (texts n.source)).value ≡ Some v → IsGood n v
      source_good e v h = by_text (texts n.source) refl h
        where
          by_text : (o : Option Text) → texts n.source ≡ o → (given_own label n.source o).value ≡ Some v → IsGood n v
          by_text None q r = cc
          by_text (Some text) q r = subst (IsGood n) (same_some r) (good_simple n (source_type g n.source) (source_typed g n e) (source_simple g checked n.source) text (sources n.source text q).short)

      mapped_value : (h : Value → Own) (v : Value) → (mapped_own h (known (base_of n))).value ≡ Some v → (w : Value) × (known (base_of n) ≡ Some (Some w)) × ((h w).value ≡ Some v)
      mapped_value h v e = by_value (known (base_of n)) refl e
        where
          by_value : (o : Option (Option Value)) → known (base_of n) ≡ o → (mapped_own h o).value ≡ Some v → (w : Value) × (known (base_of n) ≡ Some (Some w)) × ((h w).value ≡ Some v)
          by_value None q r = cc
          by_value (Some None) q r = cc
          by_value (Some (Some w)) q r = (w, q, r)

      base_elements : Fits g (base_of n) → (w : Value) → known (base_of n) ≡ Some (Some w) → (es : List Node) → w ≡ Listed es → (e : Node) → IsIn e es → Fits g e
      base_elements b w q es p e i =
          let k = kinded (base_of n) b in
          element_fits g known kinds (base_of n) k.0 k.1 b k.2 k.3 e (subst (λ z. IsIn e (elements_of z)) (sym (q ∙ ap (λ z. Some (Some z)) p)) i)

      made_good : (m : MakerDecl) → AtMaker g n m → (make : Make) → m.make ≡ make → (v : Value) → (own_of label texts (make_task g n m make) known o).value ≡ Some v → all_valued known (counted_needs (make_task g n m make) known names) ≡ true → IsOutcomeOf g (make_task g n m make) known names o → IsGood n v
      made_good m a (Tool tool) is v e valued ok = tool_good n m a tool is label _ names o ok v e
      made_good m a Read is v e valued ok =
          let rules : keeps_make g m.from m.to Read ≡ true = subst (λ z. keeps_make g m.from m.to z ≡ true) is (kept_rules g checked (MakerDeclared m) a.declared) in
          let w = mapped_value (read_own g n (element_name (kind_named g m.to))) v e in
          good_list n m a.typed (and_parts (is_simple g m.from) (is_list g m.to) rules).1 v (read_elements n (element_name (kind_named g m.to)) f w.0 v w.2)
      made_good m a Each is v e valued ok =
          let rules : keeps_make g m.from m.to Each ≡ true = subst (λ z. keeps_make g m.from m.to z ≡ true) is (kept_rules g checked (MakerDeclared m) a.declared) in
          let w = mapped_value (each_own g n (element_name (kind_named g m.to))) v e in
          good_list n m a.typed (and_parts (is_list g m.from) (is_list g m.to) rules).1 v (each_elements n (element_name (kind_named g m.to)) w.0 v (base_elements a.base w.0 w.1) w.2)
      made_good m a Pack is v e valued ok = packed_good
        where
          rules : is_compound_type g m.to ≡ true
          rules = subst (λ z. keeps_make g m.from m.to z ≡ true) is (kept_rules g checked (MakerDeclared m) a.declared)

          ps : (ps : List PartDecl) × (kind_named g m.to ≡ Some (CompoundKind ps))
          ps = compound_named g m.to rules

          value : (v ≡ Compound (flat_map (part_body known) (map (pack_part g n) (parts_of (kind_named g m.to))))) × (led_missing (map (λ (p : PackPart). p.led) (map (pack_part g n) (parts_of (kind_named g m.to)))) ≡ [])
          value = unless_value _ _ v e

          simple : (d : PartDecl) → IsIn d (parts_of (kind_named g m.to)) → is_simple g d.of ≡ true
          simple d i =
              let h = kind_name g m.to (CompoundKind ps.0) ps.1 in
              contents_simple g checked h.number (CompoundKind ps.0) h.kind d.of (in_map (λ (z : PartDecl). z.of) d ps.0 (subst (λ z. IsIn d (parts_of z)) ps.1 i))

          all_there : all_valued known (part_nodes (map (pack_part g n) (parts_of (kind_named g m.to)))) ≡ true
          all_there = subst (λ l. all_valued known l ≡ true) (packed_counted_are (map (pack_part g n) (parts_of (kind_named g m.to))) known names) valued

          done : ArePacked (flat_map (part_body known) (map (pack_part g n) (parts_of (kind_named g m.to)))) (parts_of (kind_named g m.to))
          done = packed_parts n a.base (parts_of (kind_named g m.to)) simple value.1 (in_all_pass (λ x. has_value (known x)) (part_nodes (map (pack_part g n) (parts_of (kind_named g m.to)))) all_there)

          packed_good : IsGood n v
          packed_good t k typed q = (subst (λ z. IsOfKind g z v) same (subst (IsOfKind g (CompoundKind ps.0)) (sym value.0) (done.names ∙ ap (λ z. map (λ (d : PartDecl). d.name) (parts_of z)) ps.1)), subst IsShort (sym value.0) done.small)
            where
              same : CompoundKind ps.0 ≡ k
              same = same_some (sym ps.1 ∙ name_kind g m.to t (sym a.typed ∙ typed) ∙ q)

      pub own_good : (v : Value) → (own_of label texts (task_of g n) known o).value ≡ Some v → all_valued known (counted_needs (task_of g n) known names) ≡ true → IsOutcomeOf g (task_of g n) known names o → IsGood n v
      own_good = by_task g n f (λ t. (v : Value) → (own_of label texts t known o).value ≡ Some v → all_valued known (counted_needs t known names) ≡ true → IsOutcomeOf g t known names o → IsGood n v)
          (λ e v h valued ok. source_good e v h)
          (λ key b v h valued ok.
          let t = value_of_some (reached_type g n) f.typed in
          let k = kinded (base_of n) b.fits in
          let same : k.0 ≡ b.type = same_some (sym k.2 ∙ b.typed) in
          picked_good n key b t.0 t.1 label k.1 (ap (kind_of g) (sym same) ∙ k.3) v h)
          (λ m a v h valued ok. made_good m a m.make refl v h valued ok)
