-- What depends on the needs alone.
use Rattle.std.proofs.Common.{◌≡◌, ℕ, ◌+◌, Bool, true, false, List, [], ◌∷◌, ◌++◌, inl, inr, sym, ap, ◌∙◌, subst, refl, ◌&&◌, cond, length, map, flat_map, bytes_eq}
use Rattle.std.specs.Prelude.{Option, Some, None, option_to_list}
use Rattle.std.specs.List.{list_all}
use Rattle.std.specs.Cmp.Lexicographic.{bytes_decides}
use Rattle.object_values.specs.declared.nodes.Node.{Node}
use Rattle.object_values.specs.declared.views.Value.{Value}
use Rattle.object_values.specs.declared.views.Value.TheVariants.{Simple, List as Listed, Compound}
use Rattle.object_values.specs.declared.calls.Outcome.{Outcome}
use Rattle.meaning_graph.specs.Graphs.{Text, Graph}
use Rattle.meaning_texts.specs.Lists.{is_empty, IsIn}
use Rattle.meaning_texts.proofs.Lemmas.{in_left, in_right, in_map, in_flat}
use Rattle.std.proofs.lemmas.Bool.{and_parts, cases_Bool, cond-false}
use Rattle.meaning_tasks.specs.Nodes.{source_node}
use Rattle.meaning_tasks.specs.Labels.{label_of}
use Rattle.meaning_tasks.specs.Values.{Picked, element, body, pick}
use Rattle.meaning_tasks.specs.Reached.{AreReached, reached_names, lines_among, has_name}
use Rattle.meaning_tasks.specs.Tasks.{Task, given, picked, mapped, packed, tooled, unfit, ToolTask, PackPart, Led, fine_unless, led_missing, task_of}
use Rattle.meaning_tasks.specs.Needs.{Results, Known, values_of, AgreeOn, has_value, where_valued, elements_of, element_in, picked_element, with_elements, extra_needs, scan_needs, tool_needs, part_nodes, counted_needs, reached_needs, needs_of, lines_in, lines_by, own_lines, other_lines, ReachedNames, Needs}
use Rattle.meaning_tasks.specs.Calls.{text_in, simple_part, value_parts, node_parts, extra_parts, reached_part, call_parts, tool_call, all_valued, call_of}
use Rattle.meaning_tasks.specs.Settle.{SourceLookup, element_own, pick_own, picked_own, mapped_own, named_body, part_body, packed_own, outcome_own, own_of}
use Rattle.meaning_tasks.specs.Laws.{IsSameUnder}
use Rattle.meaning_tasks.proofs.Reached.{reached_moved, among_reached, one_list}
use Rattle.meaning_tasks.proofs.Valued.{IsValued, in_where, where_same}
use Rattle.meaning_tasks.proofs.Roles.{tool_counted_are, tool_reached_are, packed_needs_are, picked_needs_are, picked_counted_are, picked_reached_are, packed_reached_are, needs_split, counted_in_needs, in_tool_counted, in_tool_reached}

-- one list from each item: the same where it is the same for each
pub same_flat : {A B : Type 0} (f g : A → List B) (xs : List A) → ((x : A) → IsIn x xs → f x ≡ g x) → flat_map f xs ≡ flat_map g xs
same_flat f g [] e = refl
same_flat f g (x ∷ xs) e = let p = e x (inl refl) in let q = same_flat f g xs (λ y i. e y (inr i)) in λ i. p i ++ q i

pub same_map : {A B : Type 0} (f g : A → B) (xs : List A) → ((x : A) → IsIn x xs → f x ≡ g x) → map f xs ≡ map g xs
same_map f g [] e = refl
same_map f g (x ∷ xs) e = let p = e x (inl refl) in let q = same_map f g xs (λ y i. e y (inr i)) in λ i. p i ∷ q i

pub same_all : {A : Type 0} (p q : A → Bool) (xs : List A) → ((x : A) → IsIn x xs → p x ≡ q x) → list_all p xs ≡ list_all q xs
same_all p q [] e = refl
same_all p q (x ∷ xs) e = let a = e x (inl refl) in let b = same_all p q xs (λ y i. e y (inr i)) in λ i. a i && b i

-- the same by cases of a test, where it is the same if the test passes
same_cond : {A : Type 0} (b : Bool) (x y z : A) → (b ≡ true → x ≡ y) → cond b x z ≡ cond b y z
same_cond true x y z e = e refl
same_cond false x y z e = refl

module _ (known other : Known) where
  -- with the elements
  same_elements : (n : Node) → AgreeOn known other (with_elements known n) → with_elements known n ≡ with_elements other n
  same_elements n a = ap (λ o. n ∷ elements_of o) (a n (inl refl))

  same_extra : (e : Led) → AgreeOn known other (extra_needs known e) → extra_needs known e ≡ extra_needs other e
  same_extra e a = same_flat (with_elements known) (with_elements other) (option_to_list e.node) (λ n i. same_elements n (λ m h. a m (in_flat (with_elements known) n m (option_to_list e.node) i h)))

  same_lines_by : (o : Option Node) → AgreeOn known other (option_to_list o) → lines_by known o ≡ lines_by other o
  same_lines_by None a = refl
  same_lines_by (Some n) a = ap lines_in (a n (inl refl))

  -- What follows for the parts of a tool's needs, where its base has a value.
  record ToolAgrees (t : ToolTask) (names : List Text) : Type 0 where
    base : known t.base ≡ other t.base
    elements : AgreeOn known other (elements_of (known t.base))
    extras : AgreeOn known other (flat_map (extra_needs known) t.extras)
    root : AgreeOn known other (option_to_list (t.scan t.root))
    scans : AgreeOn known other (flat_map (scan_needs t known) names)
    sources : AgreeOn known other (map source_node names)

  tool_agrees : (t : ToolTask) (names : List Text) → AgreeOn known other (needs_of (tooled t) known names) → IsValued (known t.base) → ToolAgrees t names
  tool_agrees t names a v =
      let scans : List Node = flat_map (scan_needs t known) names in
      let roots : List Node = option_to_list (t.scan t.root) in
      let extras : List Node = flat_map (extra_needs known) t.extras in
      let more : AgreeOn known other (tool_needs t known names) = λ n h. a n (in_tool_counted t known names n (inr (in_where (known t.base) n (tool_needs t known names) v h))) in
      record {
        base = a t.base (inl refl);
        elements = λ n h. more n (in_left n (elements_of (known t.base)) _ h);
        extras = λ n h. more n (in_right n (elements_of (known t.base)) _ (in_left n extras _ h));
        root = λ n h. more n (in_right n (elements_of (known t.base)) _ (in_right n extras _ (in_left n roots scans h)));
        scans = λ n h. more n (in_right n (elements_of (known t.base)) _ (in_right n extras _ (in_right n roots scans h)));
        sources = λ n h. a n (in_tool_reached t known names n (in_where (known t.base) n (map source_node names) v h));
      }

  -- the base of a tool is always a need
  tool_base : (t : ToolTask) (names : List Text) → AgreeOn known other (needs_of (tooled t) known names) → known t.base ≡ other t.base
  tool_base t names a = a t.base (inl refl)

  same_scans : (t : ToolTask) (names : List Text) → AgreeOn known other (map source_node names) → flat_map (scan_needs t known) names ≡ flat_map (scan_needs t other) names
  same_scans t names a = same_flat (scan_needs t known) (scan_needs t other) names (λ x i. ap (λ o. cond (bytes_eq x t.root) [] (where_valued o (option_to_list (t.scan x)))) (a (source_node x) (in_map source_node x names i)))

  same_tool_needs : (t : ToolTask) (names : List Text) → ToolAgrees t names → tool_needs t known names ≡ tool_needs t other names
  same_tool_needs t names p =
      let e = ap elements_of p.base in
      let x = same_flat (extra_needs known) (extra_needs other) t.extras (λ e i. same_extra e (λ n h. p.extras n (in_flat (extra_needs known) e n t.extras i h))) in
      let s = same_scans t names p.sources in
      λ i. e i ++ (x i ++ (option_to_list (t.scan t.root) ++ s i))

  -- the scan node of a reached name that has a value is among the needs
  scan_agrees : (t : ToolTask) (names : List Text) (x : Text) → ToolAgrees t names → IsIn x names → IsValued (known (source_node x)) → AgreeOn known other (option_to_list (t.scan x))
  scan_agrees t names x p h v n k = elim (cases_Bool (bytes_eq x t.root)) [
    | inl e ↦ p.root n (subst (λ z. IsIn n (option_to_list (t.scan z))) ((bytes_decides x t.root).0 e) k)
    | inr e ↦ p.scans n (in_flat (scan_needs t known) x n names h (subst (λ l. IsIn n l) (sym (cond-false (bytes_eq x t.root) [] _ e)) (in_where (known (source_node x)) n (option_to_list (t.scan x)) v k)))
  ]

  -- ---- needs

  own_lines_local : (t : Task) (names : List Text) → AgreeOn known other (needs_of t known names) → own_lines t known ≡ own_lines t other
  own_lines_local (given name) names a = refl
  own_lines_local (picked base key) names a = refl
  own_lines_local (mapped base f) names a = refl
  own_lines_local (packed parts) names a = refl
  own_lines_local unfit names a = refl
  own_lines_local (tooled t) names a = where_same (known t.base) (other t.base) _ _ (tool_base t names a) (λ v. same_lines_by (t.scan t.root) (tool_agrees t names a v).root)

  other_lines_local : (t : Task) (names : List Text) → AgreeOn known other (needs_of t known names) → (x : Text) → IsIn x names → other_lines t known x ≡ other_lines t other x
  other_lines_local (given name) names a x h = refl
  other_lines_local (picked base key) names a x h = refl
  other_lines_local (mapped base f) names a x h = refl
  other_lines_local (packed parts) names a x h = refl
  other_lines_local unfit names a x h = refl
  other_lines_local (tooled t) names a x h = where_same (known t.base) (other t.base) _ _ (tool_base t names a) (λ v.
      let p = tool_agrees t names a v in
      where_same (known (source_node x)) (other (source_node x)) _ _ (p.sources (source_node x) (in_map source_node x names h)) (λ w. same_lines_by (t.scan x) (scan_agrees t names x p h w)))

  pub counted_local : (t : Task) (names : List Text) → AgreeOn known other (needs_of t known names) → counted_needs t known names ≡ counted_needs t other names
  counted_local (given name) names a = refl
  counted_local (picked base key) names a = picked_counted_are base key known names ∙ ap (λ o. base ∷ picked_element key o) (a base (inl refl)) ∙ sym (picked_counted_are base key other names)
  counted_local (mapped base f) names a = refl
  counted_local (packed parts) names a = refl
  counted_local unfit names a = refl
  counted_local (tooled t) names a =
      tool_counted_are t known names
      ∙ ap (λ l. t.base ∷ l) (where_same (known t.base) (other t.base) _ _ (tool_base t names a) (λ v. same_tool_needs t names (tool_agrees t names a v)))
      ∙ sym (tool_counted_are t other names)

  reached_local : (t : Task) (names : List Text) → AgreeOn known other (needs_of t known names) → reached_needs t known names ≡ reached_needs t other names
  reached_local (given name) names a = refl
  reached_local (picked base key) names a = picked_reached_are base key known names ∙ sym (picked_reached_are base key other names)
  reached_local (mapped base f) names a = refl
  reached_local (packed parts) names a = packed_reached_are parts known names ∙ sym (packed_reached_are parts other names)
  reached_local unfit names a = refl
  reached_local (tooled t) names a =
      tool_reached_are t known names
      ∙ where_same (known t.base) (other t.base) (map source_node names) (map source_node names) (tool_base t names a) (λ v. refl)
      ∙ sym (tool_reached_are t other names)

  pub list_local : (t : Task) (names : List Text) → AgreeOn known other (needs_of t known names) → needs_of t known names ≡ needs_of t other names
  list_local t names a =
      let p = counted_local t names a in
      let q = reached_local t names a in
      needs_split t known names ∙ (λ i. p i ++ q i) ∙ sym (needs_split t other names)

  pub names_stay : (t : Task) (names : List Text) → AreReached (own_lines t known) (other_lines t known) names → AgreeOn known other (needs_of t known names) → AreReached (own_lines t other) (other_lines t other) names
  names_stay t names r a = reached_moved _ _ _ _ (own_lines_local t names a) (λ x h. other_lines_local t names a x (r.each x h)) names r

  -- the names that are computed over the listed ones are the same
  pub computed_local : (listed : List Text) (t : Task) → AgreeOn known other (needs_of t known (reached_names listed (own_lines t known) (other_lines t known))) → reached_names listed (own_lines t known) (other_lines t known) ≡ reached_names listed (own_lines t other) (other_lines t other)
  computed_local listed t a =
      let names : List Text = reached_names listed (own_lines t known) (other_lines t known) in
      let r : AreReached (own_lines t known) (lines_among listed (other_lines t known)) names = among_reached listed (own_lines t known) (other_lines t known) in
      let q : AreReached (own_lines t other) (lines_among listed (other_lines t other)) names =
      reached_moved _ _ _ _ (own_lines_local t names a) (λ x h. ap (λ l. cond (has_name x listed) l []) (other_lines_local t names a x (r.each x h))) names r in
      one_list _ _ _ _ q (among_reached listed (own_lines t other) (other_lines t other))

  -- ---- calls

  same_value_parts : (g : Graph) (slot : ℕ) (n : Node) (o : Option (Option Value)) → AgreeOn known other (elements_of o) → value_parts g known slot n o ≡ value_parts g other slot n o
  same_value_parts g slot n None a = refl
  same_value_parts g slot n (Some None) a = refl
  same_value_parts g slot n (Some (Some (Simple text))) a = refl
  same_value_parts g slot n (Some (Some (Listed es))) a = same_map (simple_part g known slot) (simple_part g other slot) es (λ e i. ap (λ o. record { slot = slot; label = label_of g e; body = text_in o }) (a e i))
  same_value_parts g slot n (Some (Some (Compound ps))) a = refl

  same_node_parts : (g : Graph) (slot : ℕ) (n : Node) → AgreeOn known other (with_elements known n) → node_parts g known slot n ≡ node_parts g other slot n
  same_node_parts g slot n a = same_value_parts g slot n (known n) (λ m h. a m (inr h)) ∙ ap (value_parts g other slot n) (a n (inl refl))

  same_extra_parts : (g : Graph) (slot : ℕ) (es : List Led) → AgreeOn known other (flat_map (extra_needs known) es) → extra_parts g known slot es ≡ extra_parts g other slot es
  same_extra_parts g slot [] a = refl
  same_extra_parts g slot (e ∷ es) a =
      let p = same_flat (node_parts g known slot) (node_parts g other slot) (option_to_list e.node) (λ n i. same_node_parts g slot n (λ m h. a m (in_left m (extra_needs known e) _ (in_flat (with_elements known) n m (option_to_list e.node) i h)))) in
      let q = same_extra_parts g (slot + 1) es (λ m h. a m (in_right m (extra_needs known e) _ h)) in
      λ i. p i ++ q i

  same_call_parts : (g : Graph) (t : ToolTask) (names : List Text) → ToolAgrees t names → call_parts g t known names ≡ call_parts g t other names
  same_call_parts g t names p =
      let b = same_node_parts g 0 t.base (λ m h. elim h [ inl e ↦ subst (λ z. known z ≡ other z) (sym e) p.base | inr k ↦ p.elements m k ]) in
      let x = same_extra_parts g 1 t.extras p.extras in
      let r = same_map (reached_part known (length t.extras + 1)) (reached_part other (length t.extras + 1)) names
      (λ y i. ap (λ o. record { slot = length t.extras + 1; label = y; body = text_in o }) (p.sources (source_node y) (in_map source_node y names i))) in
      λ i. b i ++ (x i ++ r i)

  pub valued_local : (ns : List Node) → AgreeOn known other ns → all_valued known ns ≡ all_valued other ns
  valued_local ns a = same_all (λ n. has_value (known n)) (λ n. has_value (other n)) ns (λ n i. ap has_value (a n i))

  -- The call is the same under what agrees on the needs.
  pub call_local : (g : Graph) (t : Task) (names : List Text) → AgreeOn known other (needs_of t known names) → call_of g t known names ≡ call_of g t other names
  call_local g (given name) names a = refl
  call_local g (picked base key) names a = refl
  call_local g (mapped base f) names a = refl
  call_local g (packed parts) names a = refl
  call_local g unfit names a = refl
  call_local g (tooled t) names a =
      let counted : List Node = counted_needs (tooled t) known names in
      let whole : all_valued known counted ≡ all_valued other (counted_needs (tooled t) other names) = valued_local counted (λ n h. a n (counted_in_needs (tooled t) known names n h)) ∙ ap (all_valued other) (counted_local (tooled t) names a) in
      same_cond (is_empty (led_missing t.extras) && all_valued known counted) (Some (tool_call g t known names)) (Some (tool_call g t other names)) None
      (λ e.
      let v : IsValued (known t.base) = (and_parts (has_value (known t.base)) _ (and_parts (is_empty (led_missing t.extras)) _ e).1).0 in
      ap (λ parts. Some (record { tool = t.name; version = t.tool.version; words = t.tool.words; params = t.params; parts = parts; outs = t.outs })) (same_call_parts g t names (tool_agrees t names a v)))
      ∙ ap (λ b. cond (is_empty (led_missing t.extras) && b) (Some (tool_call g t other names)) None) whole

  -- ---- what the node itself gives

  same_pick : (label key : Text) (o : Option Picked) → AgreeOn known other (element_in o) → pick_own label known key o ≡ pick_own label other key o
  same_pick label key None a = refl
  same_pick label key (Some (element e)) a = ap element_own (a e (inl refl))
  same_pick label key (Some (body text)) a = refl

  same_picked : (label key : Text) (o : Option (Option Value)) → AgreeOn known other (picked_element key o) → picked_own label known key o ≡ picked_own label other key o
  same_picked label key None a = refl
  same_picked label key (Some None) a = refl
  same_picked label key (Some (Some v)) a = same_pick label key (pick v key) a

  same_part_body : (p : PackPart) → AgreeOn known other (option_to_list p.led.node) → part_body known p ≡ part_body other p
  same_part_body p a = same_flat (λ n. named_body p.name (text_in (known n))) (λ n. named_body p.name (text_in (other n))) (option_to_list p.led.node) (λ n i. ap (λ o. named_body p.name (text_in o)) (a n i))

  same_packed : (parts : List PackPart) → AgreeOn known other (part_nodes parts) → packed_own known parts ≡ packed_own other parts
  same_packed parts a = ap (λ bodies. fine_unless (Compound bodies) (led_missing (map (λ p. p.led) parts)))
      (same_flat (part_body known) (part_body other) parts (λ p i. same_part_body p (λ n h. a n (in_flat (λ (l : Led). option_to_list l.node) p.led n (map (λ q. q.led) parts) (in_map (λ (q : PackPart). q.led) p parts i) h))))

  -- What the node itself gives is the same under what agrees on the needs.
  pub own_local : (label : Text) (texts : SourceLookup) (t : Task) (names : List Text) (o : Option Outcome) → AgreeOn known other (needs_of t known names) → own_of label texts t known o ≡ own_of label texts t other o
  own_local label texts (given name) names o a = refl
  own_local label texts (picked base key) names o a = same_picked label key (known base) (λ n h. a n (subst (λ l. IsIn n l) (sym (picked_needs_are base key known names)) (inr h))) ∙ ap (picked_own label other key) (a base (inl refl))
  own_local label texts (mapped base f) names o a = ap (mapped_own f) (a base (inl refl))
  own_local label texts (packed parts) names o a = same_packed parts (λ n h. a n (subst (λ l. IsIn n l) (sym (packed_needs_are parts known names)) h))
  own_local label texts unfit names o a = refl
  own_local label texts (tooled t) names o a = ap (λ missing. outcome_own label t.makes_compound missing o) (where_same (known t.base) (other t.base) _ _ (tool_base t names a) (λ v. refl))

-- Needs, call, own part and value are the same under maps that agree on the values of the needs.
pub local : (g : Graph) (n : Node) (seen other : Results) (names : List Text) → ReachedNames g n seen names → AgreeOn (values_of seen) (values_of other) (needs_of (task_of g n) (values_of seen) names) → IsSameUnder g n seen other names
local g n seen other names r a = record {
  reached = names_stay (values_of seen) (values_of other) (task_of g n) names r a;
  needs = list_local (values_of seen) (values_of other) (task_of g n) names a;
  counted = counted_same;
  call = call_local (values_of seen) (values_of other) g (task_of g n) names a;
  own = own_same;
  value = λ texts o i. cond (valued_same i) (own_same texts o i).value None;
}
  where
    counted_same : counted_needs (task_of g n) (values_of seen) names ≡ counted_needs (task_of g n) (values_of other) names
    counted_same = counted_local (values_of seen) (values_of other) (task_of g n) names a

    own_same : (texts : SourceLookup) (o : Option Outcome) → own_of (label_of g n) texts (task_of g n) (values_of seen) o ≡ own_of (label_of g n) texts (task_of g n) (values_of other) o
    own_same texts o = own_local (values_of seen) (values_of other) (label_of g n) texts (task_of g n) names o a

    valued_same : all_valued (values_of seen) (counted_needs (task_of g n) (values_of seen) names) ≡ all_valued (values_of other) (counted_needs (task_of g n) (values_of other) names)
    valued_same = valued_local (values_of seen) (values_of other) (counted_needs (task_of g n) (values_of seen) names) (λ m h. a m (counted_in_needs (task_of g n) (values_of seen) names m h)) ∙ ap (all_valued (values_of other)) counted_same

-- there is one list of needs
pub one_list_of_needs : (g : Graph) (n : Node) (seen : Results) (needs others : List Node) → Needs g n seen needs → Needs g n seen others → needs ≡ others
one_list_of_needs g n seen needs others a b = a.listed ∙ ap (needs_of (task_of g n) (values_of seen)) (one_list _ _ _ _ a.reached b.reached) ∙ sym b.listed
