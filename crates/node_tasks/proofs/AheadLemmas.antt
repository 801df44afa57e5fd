-- What was told while lines are followed, and the needs that come into sight by that.
use Rattle.std.proofs.Common.{◌≡◌, true, false, List, [], ◌∷◌, ◌++◌, ◌⊎◌, cond, flat_map, map, bytes_eq, inl, inr, refl, sym, subst}
use Rattle.std.specs.Prelude.{Bool, Option, Some, None, Result, Ok, Err, OnOk, OnErr, option_to_list}
use Rattle.std.specs.Cmp.Lexicographic.{bytes_decides}
use Rattle.std.specs.List.Sorted.{IsPermutation}
use Rattle.std.proofs.lemmas.List.Elements.{All-nil, All-push, All-append}
use Rattle.std.proofs.lemmas.List.Sorted.{All-permutation}
use Rattle.object_values.specs.declared.nodes.Node.{Node}
use Rattle.meaning_graph.specs.Graphs.{Text, Graph}
use Rattle.meaning_texts.specs.Lists.{IsIn}
use Rattle.meaning_texts.proofs.Lemmas.{never_both, in_left, in_right, in_map, in_flat}
use Rattle.meaning_tasks.specs.Nodes.{source_node}
use Rattle.meaning_tasks.specs.Reached.{Reached, by_own, by_line, AreReached}
use Rattle.meaning_tasks.specs.Tasks.{Task, given, picked, mapped, packed, tooled, unfit, ToolTask, task_of}
use Rattle.meaning_tasks.specs.Needs.{Results, Known, values_of, Grows, has_value, elements_of, extra_needs, scan_needs, tool_needs, needs_of, lines_in, lines_by, own_lines, other_lines}
use Rattle.meaning_tasks.proofs.Lemmas.{in_where, where_grows, part_grows, values_grow, in_tool_counted, in_tool_reached}
use Rattle.dynamic_inputs.specs.Closures.{with_names}
use Rattle.dynamic_inputs.specs.Laws.{with_own}
use Rattle.dynamic_inputs.proofs.Lemmas.{from_names}
use Rattle.node_tasks.specs.declared.ahead.Ahead.{Ahead}
use Rattle.node_tasks.specs.declared.ahead.Level.{Level}
use Rattle.node_tasks.specs.Ahead.{AreLed, IsAhead, IsLedOn, IsUnseen, IsReachedScan, IsInSight, AreInSight, IsOfLevel}

-- ---- names to which lines lead

module _ (root : Text) (own : List Text) (lines : Text → List Text) where
  -- the lines of the root, and those of a name to which lines lead
  pub line_leads : (y z : Text) → (y ≡ root) ⊎ Reached own lines y → IsIn z (with_own root own lines y) → Reached own lines z
  line_leads y z at h = (elim (bytes_eq y root) as (λ b. bytes_eq y root ≡ b → IsIn z (cond b own (lines y)) → Reached own lines z) [
    | true ↦ λ q k. by_own z k
    | false ↦ λ q k. elim at [ inl e ↦ never_both (bytes_eq y root) ((bytes_decides y root).1 e) q | inr r ↦ by_line y z r k ]
  ]) refl h

-- Where names to which lines lead are added, lines lead to all.
pub led_on : (t : Task) (known : Known) (before after : List Text) → AreLed t known before → IsLedOn t known before after → AreLed t known after
led_on t known before after led on x h = elim (from_names x before on.lines (subst (λ l. IsIn x l) on.is h)) [ inl k ↦ led x k | inr k ↦ on.led x k ]

-- none are added
pub led_none : (t : Task) (known : Known) (before after : List Text) → after ≡ before → IsLedOn t known before after
led_none t known before after e = record { lines = []; led = λ x h. absurd h; is = e }

module _ (root : Text) (t : Task) (known : Known) where
  -- the lines of a name that is told
  pub led_lines : (before after : List Text) (x : Text) (lines : List Text) → (x ≡ root) ⊎ Reached (own_lines t known) (other_lines t known) x
      → lines ≡ with_own root (own_lines t known) (other_lines t known) x → after ≡ with_names before lines → IsLedOn t known before after
  led_lines before after x lines at are e = record {
    lines = lines;
    led = λ z h. line_leads root (own_lines t known) (other_lines t known) x z at (subst (λ l. IsIn z l) are h);
    is = e;
  }

  -- the same where memory may be wanting
  pub led_added : {T E : Type 0} (r : Result T E) (before after : List Text) (x : Text) (lines : List Text) → (x ≡ root) ⊎ Reached (own_lines t known) (other_lines t known) x
      → lines ≡ with_own root (own_lines t known) (other_lines t known) x → OnOk r (after ≡ with_names before lines) → OnErr r (after ≡ before) → IsLedOn t known before after
  led_added (Ok value) before after x lines at are ok err = led_lines before after x lines at are ok
  led_added (Err fault) before after x lines at are ok err = led_none t known before after err

pub on_ok : {T E : Type 0} (r : Result T E) (P Q : Type 0) → OnOk r P → (P → Q) → OnOk r Q
on_ok (Ok value) P Q p f = f p
on_ok (Err fault) P Q p f = tt

-- ---- what a name brings

module _ (t : ToolTask) (known : Known) (valued : has_value (known t.base) ≡ true) where
  module _ (names : List Text) (are : AreReached (own_lines (tooled t) known) (other_lines (tooled t) known) names) where
    scan_listed : (m : Node) → IsIn m (option_to_list (t.scan t.root) ++ flat_map (scan_needs t known) names) → IsIn m (needs_of (tooled t) known names)
    scan_listed m h = in_tool_counted t known names m (inr (in_where (known t.base) m (tool_needs t known names) valued
        (in_right m (elements_of (known t.base)) _ (in_right m (flat_map (extra_needs known) t.extras) _ h))))

    source_listed : (x : Text) → IsIn x names → IsIn (source_node x) (needs_of (tooled t) known names)
    source_listed x i = in_tool_reached t known names (source_node x) (in_where (known t.base) (source_node x) (map source_node names) valued (in_map source_node x names i))

  -- the source of a reached name, the scan node of one, and that of the own source
  pub source_in_sight : (x : Text) (visited : Node → Bool) (m : Node) → Reached (own_lines (tooled t) known) (other_lines (tooled t) known) x → m ≡ source_node x → visited m ≡ false → IsInSight (tooled t) known visited m
  source_in_sight x visited m r e unseen = record {
    need = λ names are. subst (λ z. IsIn z (needs_of (tooled t) known names)) (sym e) (source_listed names are x (are.each x r));
    unseen = unseen;
  }

  pub scan_in_sight : (x : Text) (visited : Node → Bool) (m : Node) → Reached (own_lines (tooled t) known) (other_lines (tooled t) known) x → IsReachedScan t known x visited m → IsInSight (tooled t) known visited m
  scan_in_sight x visited m r b = record {
    need = λ names are. scan_listed names are m (in_right m (option_to_list (t.scan t.root)) (flat_map (scan_needs t known) names) (in_flat (scan_needs t known) x m names (are.each x r) b.one));
    unseen = b.unseen;
  }

  pub own_in_sight : (visited : Node → Bool) (m : Node) → IsUnseen visited (t.scan t.root) m → IsInSight (tooled t) known visited m
  own_in_sight visited m u = record {
    need = λ names are. scan_listed names are m (in_left m (option_to_list (t.scan t.root)) (flat_map (scan_needs t known) names) (subst (λ o. IsIn m (option_to_list o)) (sym u.is) (inl refl)));
    unseen = u.unseen;
  }

-- ---- a level

module _ (t : Task) (known : Known) (visited : Node → Bool) where
  pub no_level : (level : Level) → level ≡ record { untold = []; scans = []; sources = [] } → IsOfLevel t known visited level
  no_level level e = subst (IsOfLevel t known visited) (sym e) (record { scans = All-nil (IsInSight t known visited); sources = All-nil (IsInSight t known visited) })

  pub put_source : (level after : Level) (m : Node) → IsInSight t known visited m → after.scans ≡ level.scans → after.sources ≡ level.sources ++ m ∷ [] → IsOfLevel t known visited level → IsOfLevel t known visited after
  put_source level after m sight same more so = record {
    scans = subst (AreInSight t known visited) (sym same) so.scans;
    sources = subst (AreInSight t known visited) (sym more) (All-push (IsInSight t known visited) level.sources m so.sources sight);
  }

  pub put_scan : (level after : Level) (m : Node) → IsInSight t known visited m → after.sources ≡ level.sources → after.scans ≡ level.scans ++ m ∷ [] → IsOfLevel t known visited level → IsOfLevel t known visited after
  put_scan level after m sight same more so = record {
    scans = subst (AreInSight t known visited) (sym more) (All-push (IsInSight t known visited) level.scans m so.scans sight);
    sources = subst (AreInSight t known visited) (sym same) so.sources;
  }

  pub in_order : (level : Level) (scans sources : List Node) → IsPermutation level.scans scans → IsPermutation level.sources sources → IsOfLevel t known visited level → AreInSight t known visited (scans ++ sources)
  in_order level scans sources p q so =
      All-append (IsInSight t known visited) scans sources
      (All-permutation (IsInSight t known visited) level.scans scans p so.scans)
      (All-permutation (IsInSight t known visited) level.sources sources q so.sources)

-- ---- as results are added

module _ (known other : Known) (g : Grows known other) where
  scan_grows : (o : Option Node) (x : Text) → IsIn x (lines_by known o) → IsIn x (lines_by other o)
  scan_grows None x h = h
  scan_grows (Some n) x h = part_grows known other g lines_in refl n x h

  own_grows : (t : Task) (x : Text) → IsIn x (own_lines t known) → IsIn x (own_lines t other)
  own_grows (given name) x h = h
  own_grows (picked base key) x h = h
  own_grows (mapped base f) x h = h
  own_grows (packed parts) x h = h
  own_grows unfit x h = h
  own_grows (tooled t) x h = where_grows known other g t.base x _ _ (scan_grows (t.scan t.root) x) h

  other_grows : (t : Task) (y x : Text) → IsIn x (other_lines t known y) → IsIn x (other_lines t other y)
  other_grows (given name) y x h = h
  other_grows (picked base key) y x h = h
  other_grows (mapped base f) y x h = h
  other_grows (packed parts) y x h = h
  other_grows unfit y x h = h
  other_grows (tooled t) y x h = where_grows known other g t.base x _ _ (where_grows known other g (source_node y) x _ _ (scan_grows (t.scan y) x)) h

  reached_grows : (t : Task) (x : Text) → Reached (own_lines t known) (other_lines t known) x → Reached (own_lines t other) (other_lines t other) x
  reached_grows t x (by_own z h) = by_own z (own_grows t z h)
  reached_grows t x (by_line y z r h) = by_line y z (reached_grows t y r) (other_grows t y z h)

-- To the names that were told lines lead still.
pub ahead_stays : (g : Graph) (n : Node) (seen more : Results) → Grows seen more → (ahead : Ahead) → IsAhead g n seen ahead → IsAhead g n more ahead
ahead_stays g n seen more grows ahead led x h = reached_grows (values_of seen) (values_of more) (values_grow seen more grows) (task_of g n) x (led x h)
