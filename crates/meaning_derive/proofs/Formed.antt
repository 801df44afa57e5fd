-- The calls of a derivation are well formed.
use Rattle.std.proofs.Common.{◌≡◌, ◌≢◌, ℕ, ◌+◌, ◌^◌, ◌<◌, ◌≤◌, arith, nat_eq, ◌⊎◌, Bool, true, false, List, [], ◌∷◌, ◌++◌, inl, inr, sym, ap, ◌∙◌, subst, refl, cond, flat_map, map, slice_get, ◌&&◌, length, codes}
use Rattle.std.specs.Prelude.{Option, Some, None, option_to_list, IfSome}
use Rattle.object_values.specs.declared.nodes.Step.{Step}
use Rattle.object_values.specs.declared.nodes.Step.TheVariants.{Maker, Pick}
use Rattle.object_values.specs.declared.nodes.Node.{Node}
use Rattle.object_values.specs.declared.views.Part.{Part}
use Rattle.object_values.specs.declared.views.Value.{Value}
use Rattle.object_values.specs.declared.views.Value.TheVariants.{Simple, List as Listed, Compound}
use Rattle.object_values.specs.declared.graph.PartDecl.{PartDecl}
use Rattle.object_values.specs.declared.graph.Kind.{Kind}
use Rattle.object_values.specs.declared.graph.Kind.TheVariants.{Simple as SimpleKind, List as ListKind, Compound as CompoundKind}
use Rattle.object_values.specs.declared.graph.TypeDecl.{TypeDecl}
use Rattle.object_values.specs.declared.graph.ToolDecl.{ToolDecl}
use Rattle.object_values.specs.declared.graph.Make.{Make}
use Rattle.object_values.specs.declared.graph.Make.TheVariants.{Tool, Read, Each as EachOf, Pack}
use Rattle.object_values.specs.declared.graph.MakerDecl.{MakerDecl}
use Rattle.object_values.specs.declared.graph.Decl.TheVariants.{Maker as MakerDeclared, ObjectType}
use Rattle.object_values.specs.declared.calls.CallPart.{CallPart}
use Rattle.object_values.specs.declared.calls.Call.{Call}
use Rattle.meaning_texts.specs.Classes.{IsWordOf, IsName, IsId, IsKey, is_name_byte, is_key_byte}
use Rattle.meaning_texts.specs.Expressions.{IsParamOfClass, step_spelling}
use Rattle.meaning_texts.specs.Limits.{body_limit, height_limit}
use Rattle.meaning_calls.specs.Jobs.{IsLabel, IsPartOfClass, IsWellFormed}
use Rattle.meaning_graph.specs.Graphs.{Text, Graph, makers, text_type, kind_of, kind_named}
use Rattle.meaning_texts.specs.Lists.{is_empty, IsIn}
use Rattle.meaning_texts.proofs.Lemmas.{in_either, in_map, from_map, from_flat, from_filter, in_all, all_in, same_some}
use Rattle.meaning_graph.specs.Grammar.{IsSpellable, IsSpellableDecl, IsSpellableMake, IsSpellableTool, IsSpellableKind, AreSpellableParts, IsSpellablePart}
use Rattle.meaning_graph.specs.Checks.{Checked}
use Rattle.meaning_tasks.specs.Nodes.{source_node, base_of, reached_type, HasKeyOfClass, Fits}
use Rattle.meaning_tasks.specs.Labels.{made_name, written_step, label_of}
use Rattle.meaning_tasks.specs.Tasks.{Led, led_missing, extra_led, outs_of, tool_task, make_task, task_of}
use Rattle.meaning_tasks.specs.Needs.{Results, Known, values_of, elements_of, counted_needs}
use Rattle.meaning_tasks.specs.Calls.{text_in, simple_part, compound_part, value_parts, node_parts, extra_parts, reached_part, call_parts, tool_call, all_valued, call_of}
use Rattle.meaning_tasks.specs.Maps.{IsOfKind}
use Rattle.meaning_derive.specs.Derive.{Sources, Outcomes, derived}
use Rattle.meaning_derive.specs.Chains.{LeadsOn, Chain}
use Rattle.meaning_derive.specs.Calls.{IsCallFrom}
use Rattle.meaning_derive.specs.Given.{AreSources, OutcomesFit}
use Rattle.meaning_derive.specs.Premises.{IsMapOverFitting}
use Rattle.meaning_derive.proofs.Rules.{maker_declared, type_declared, HasDecl, kind_decl, kind_name}
use Rattle.meaning_derive.proofs.Bases.{AtMaker, bare_fits, by_task}
use Rattle.meaning_derive.proofs.Needed.{AreOfKind, reached_named, element_fits, in_option, extra_fits}
use Rattle.meaning_derive.proofs.Shapes.{AreShort, kinded}
use Rattle.meaning_derive.proofs.Maps.{needs_fit, good_at, map_at}

same_length : {A B : Type 0} (f : A → B) (xs : List A) → length (map f xs) ≡ length xs
same_length f [] = refl
same_length f (x ∷ xs) = omega (arith, same_length f xs)

-- ---- labels

-- neither a space nor an LF stands in the text
abbrev IsClear : Text → Type 0
IsClear text = (b : ℕ) → IsIn b text → (b ≢ 32) × (b ≢ 10)

clear_class : (class : ℕ → Bool) → class 32 ≡ false → class 10 ≡ false → (text : Text) → IsWordOf class text → IsClear text
clear_class class space lf text w b h =
    let k : class b ≡ true = in_all (λ c. class c ≡ true) text w.each b h in
    (λ e. let q : class 32 ≡ true = ap class (sym e) ∙ k in cc, λ e. let q : class 10 ≡ true = ap class (sym e) ∙ k in cc)

clear_name : (text : Text) → IsName text → IsClear text
clear_name text h = clear_class is_name_byte refl refl text h

clear_key : (text : Text) → IsKey text → IsClear text
clear_key text h = clear_class is_key_byte refl refl text h

clear_both : (xs ys : Text) → IsClear xs → IsClear ys → IsClear (xs ++ ys)
clear_both xs ys a c b h = elim (in_either b xs ys h) [ inl i ↦ a b i | inr i ↦ c b i ]

clear_byte : (c : ℕ) → c ≢ 32 → c ≢ 10 → (xs : Text) → IsClear xs → IsClear (c ∷ xs)
clear_byte c space lf xs a b (inl e) = (λ q. space (sym e ∙ q), λ q. lf (sym e ∙ q))
clear_byte c space lf xs a b (inr i) = a b i

not_space : (c : ℕ) → nat_eq c 32 ≡ false → c ≢ 32
not_space c h e = let q : nat_eq 32 32 ≡ false = ap (λ z. nat_eq z 32) (sym e) ∙ h in cc

not_lf : (c : ℕ) → nat_eq c 10 ≡ false → c ≢ 10
not_lf c h e = let q : nat_eq 10 10 ≡ false = ap (λ z. nat_eq z 10) (sym e) ∙ h in cc

module _ (g : Graph) (spellable : IsSpellable g) where
  clear_made : (k : ℕ) (o : Option MakerDecl) → slice_get (makers g) k ≡ o → IsClear (made_name o)
  clear_made k None e = λ b h. absurd h
  clear_made k (Some m) e = clear_key m.to (in_all IsSpellableDecl g spellable (MakerDeclared m) (maker_declared g k m e)).to.key

  clear_step : (s : Step) → HasKeyOfClass s → IsClear (step_spelling (written_step g s))
  clear_step (Pick key) c = clear_byte 37 (not_space 37 refl) (not_lf 37 refl) key (clear_key key c)
  clear_step (Maker k) c = clear_byte 58 (not_space 58 refl) (not_lf 58 refl) (made_name (slice_get (makers g) k)) (clear_made k (slice_get (makers g) k) refl)

  pub clear_label : (n : Node) → Fits g n → IsClear (label_of g n)
  clear_label n f = clear_both n.source _ (clear_name n.source f.source) steps
    where
      steps : IsClear (flat_map step_spelling (map (written_step g) n.steps))
      steps b h =
          let r = from_flat step_spelling b (map (written_step g) n.steps) h in
          let s = from_map (written_step g) r.0 n.steps r.1 in
          clear_step s.0 (in_all HasKeyOfClass n.steps f.keys s.0 s.1) b (subst (λ z. IsIn b (step_spelling z)) s.2 r.2)

  as_label : (text : Text) → IsClear text → IsLabel text
  as_label text h = all_in _ text h

  -- ---- parts

  -- the names of the parts of a compound type are identifiers
  pub part_named : (t : ℕ) (ds : List PartDecl) → kind_of g t ≡ Some (CompoundKind ds) → (d : PartDecl) → IsIn d ds → IsId d.name
  part_named t ds e d i = by_decl (type_declared g t c.decl c.there)
    where
      c : HasDecl g t (CompoundKind ds)
      c = kind_decl g t (CompoundKind ds) e

      by_decl : (c.decl ≡ text_type) ⊎ IsIn (ObjectType c.decl) g → IsId d.name
      by_decl (inl q) = let bad : SimpleKind ≡ CompoundKind ds = ap (λ (x : TypeDecl). x.kind) (sym q) ∙ c.kind in cc
      by_decl (inr h) =
          let s : AreSpellableParts ds = subst IsSpellableKind c.kind (in_all IsSpellableDecl g spellable (ObjectType c.decl) h).kind in
          (in_all IsSpellablePart ds s.each d i).name

  module _ (known : Known) (kinds : AreOfKind g known) (short : AreShort g known) (has : (n : Node) → Fits g n → (t : ℕ) × (k : Kind) × (reached_type g n ≡ Some t) × (kind_of g t ≡ Some k)) where
    abbrev Each : List CallPart → Type 0
    Each parts = (p : CallPart) → IsIn p parts → IsPartOfClass p

    short_text : (n : Node) → Fits g n → IfSome (text_in (known n)) (λ (text : Text). length text ≤ body_limit)
    short_text n f = by_value (known n) refl
      where
        by_value : (o : Option (Option Value)) → known n ≡ o → IfSome (text_in o) (λ (text : Text). length text ≤ body_limit)
        by_value None e = tt
        by_value (Some None) e = tt
        by_value (Some (Some (Simple text))) e = short n (Simple text) f e
        by_value (Some (Some (Listed es))) e = tt
        by_value (Some (Some (Compound ps))) e = tt

    simple_formed : (slot : ℕ) → slot < 2 ^ 32 → (n : Node) → Fits g n → IsPartOfClass (simple_part g known slot n)
    simple_formed slot small n f = record { slot = small; label = as_label (label_of g n) (clear_label n f); body = short_text n f }

    compound_names : (k : Kind) (t : ℕ) → kind_of g t ≡ Some k → (ps : List Part) → IsOfKind g k (Compound ps) → (p : Part) → IsIn p ps → IsId p.name
    compound_names SimpleKind t e ps h p i = absurd h
    compound_names (ListKind of) t e ps h p i = absurd h
    compound_names (CompoundKind ds) t e ps h p i =
        let named : IsIn p.name (map (λ (d : PartDecl). d.name) ds) = subst (λ l. IsIn p.name l) h (in_map (λ (z : Part). z.name) p ps i) in
        let r = from_map (λ (d : PartDecl). d.name) p.name ds named in
        subst IsId (sym r.2) (part_named t ds e r.0 r.1)

    value_formed : (slot : ℕ) → slot < 2 ^ 32 → (n : Node) → Fits g n → (o : Option (Option Value)) → known n ≡ o → Each (value_parts g known slot n o)
    value_formed slot small n f None e p i = absurd i
    value_formed slot small n f (Some None) e p i = absurd i
    value_formed slot small n f (Some (Some (Simple text))) e p (inl q) = subst IsPartOfClass (sym q) (record { slot = small; label = as_label (label_of g n) (clear_label n f); body = short n (Simple text) f e })
    value_formed slot small n f (Some (Some (Simple text))) e p (inr none) = absurd none
    value_formed slot small n f (Some (Some (Listed es))) e p i =
        let r = from_map (simple_part g known slot) p es i in
        let k = has n f in
        subst IsPartOfClass (sym r.2) (simple_formed slot small r.0 (element_fits g known kinds n k.0 k.1 f k.2 k.3 r.0 (subst (λ z. IsIn r.0 (elements_of z)) (sym e) r.1)))
    value_formed slot small n f (Some (Some (Compound ps))) e p i =
        let r = from_map (compound_part slot (label_of g n)) p ps i in
        let k = has n f in
        let id = compound_names k.1 k.0 k.3 ps (kinds n (Compound ps) f e k.0 k.1 k.2 k.3) r.0 r.1 in
        subst IsPartOfClass (sym r.2) (record {
          slot = small;
          label = as_label _ (clear_both (label_of g n ++ codes "%") r.0.name (clear_both (label_of g n) (codes "%") (clear_label n f) (clear_byte 37 (not_space 37 refl) (not_lf 37 refl) [] (λ b h. absurd h))) (clear_key r.0.name id.key));
          body = short n (Compound ps) f e r.0 r.1;
        })

    node_formed : (slot : ℕ) → slot < 2 ^ 32 → (n : Node) → Fits g n → Each (node_parts g known slot n)
    node_formed slot small n f = value_formed slot small n f (known n) refl

    extras_formed : (es : List Led) → ((e : Led) → IsIn e es → (y : Node) → e.node ≡ Some y → Fits g y) → (slot : ℕ) → slot + length es ≤ 2 ^ 32 → Each (extra_parts g known slot es)
    extras_formed [] fit slot few p i = absurd i
    extras_formed (e ∷ es) fit slot few p i = elim (in_either p (flat_map (node_parts g known slot) (option_to_list e.node)) (extra_parts g known (slot + 1) es) i) [
      | inl k ↦ let r = from_flat (node_parts g known slot) p (option_to_list e.node) k in node_formed slot (omega (arith, few)) r.0 (fit e (inl refl) r.0 (in_option r.0 e.node r.1)) p r.2
      | inr k ↦ extras_formed es (λ x j. fit x (inr j)) (slot + 1) (omega (arith, few)) p k
    ]

    reached_formed : (slot : ℕ) → slot < 2 ^ 32 → (x : Text) → IsName x → IsPartOfClass (reached_part known slot x)
    reached_formed slot small x h = record { slot = small; label = as_label x (clear_name x h); body = short_text (source_node x) (bare_fits g x h) }

    -- ---- calls

    outs_formed : (to : Text) → IsId to → (name : Text) → IsIn name (outs_of to (kind_named g to)) → IsId name
    outs_formed to id name i = by_kind (kind_named g to) refl i
      where
        by_kind : (o : Option Kind) → kind_named g to ≡ o → IsIn name (outs_of to o) → IsId name
        by_kind None e (inl q) = subst IsId (sym q) id
        by_kind None e (inr none) = absurd none
        by_kind (Some SimpleKind) e (inl q) = subst IsId (sym q) id
        by_kind (Some SimpleKind) e (inr none) = absurd none
        by_kind (Some (ListKind of)) e (inl q) = subst IsId (sym q) id
        by_kind (Some (ListKind of)) e (inr none) = absurd none
        by_kind (Some (CompoundKind ds)) e i =
            let h = kind_name g to (CompoundKind ds) e in
            let r = from_map (λ (d : PartDecl). d.name) name ds i in
            subst IsId (sym r.2) (part_named h.number ds h.kind r.0 r.1)

    if_called : {A : Type 0} (b : Bool) (x y : A) → Some y ≡ cond b (Some x) None → x ≡ y
    if_called true x y e = sym (same_some e)
    if_called false x y e = cc

    tool_formed : (n : Node) → Fits g n → (m : MakerDecl) (a : AtMaker g n m) (tool : ToolDecl) → m.make ≡ Tool tool → (names : List Text) → ((x : Text) → IsIn x names → IsName x) → IsWellFormed (tool_call g (tool_task g n m tool) known names)
    tool_formed n f m a tool is names named = record {
      tool = (in_all IsSpellableDecl g spellable (MakerDeclared m) a.declared).name;
      version = spelled.version;
      params = all_in IsParamOfClass _ (λ p i. in_all IsParamOfClass n.params f.params p (from_filter _ p n.params i).0);
      parts = all_in IsPartOfClass _ parts;
      outs = all_in IsId _ (outs_formed m.to (in_all IsSpellableDecl g spellable (MakerDeclared m) a.declared).to);
    }
      where
        spelled : IsSpellableTool tool
        spelled = subst IsSpellableMake is (in_all IsSpellableDecl g spellable (MakerDeclared m) a.declared).make

        extra : (e : Led) → IsIn e (map (extra_led g n) tool.extras) → (y : Node) → e.node ≡ Some y → Fits g y
        extra e i y q =
            let r = from_map (extra_led g n) e tool.extras i in
            extra_fits g spellable known kinds has n f m a tool is r.0 r.1 y (ap (λ (w : Led). w.node) (sym r.2) ∙ q)

        parts : Each (call_parts g (tool_task g n m tool) known names)
        parts p i = elim (in_either p (node_parts g known 0 (base_of n)) _ i) [
          | inl k ↦ node_formed 0 (omega arith) (base_of n) a.base p k
          | inr k ↦ elim (in_either p (extra_parts g known 1 (map (extra_led g n) tool.extras)) _ k) [
            | inl j ↦ extras_formed (map (extra_led g n) tool.extras) extra 1 (omega (arith, same_length (extra_led g n) tool.extras, spelled.few)) p j
            | inr j ↦ let r = from_map (reached_part known (length (map (extra_led g n) tool.extras) + 1)) p names j in subst IsPartOfClass (sym r.2) (reached_formed (length (map (extra_led g n) tool.extras) + 1) (omega (arith, same_length (extra_led g n) tool.extras, spelled.few)) r.0 (named r.0 r.1))
          ]
        ]

    made_formed : (n : Node) → Fits g n → (m : MakerDecl) (a : AtMaker g n m) (make : Make) → m.make ≡ make → (names : List Text) → ((x : Text) → IsIn x names → IsName x) → (call : Call) → Some call ≡ call_of g (make_task g n m make) known names → IsWellFormed call
    made_formed n f m a (Tool tool) is names named call e = subst IsWellFormed (if_called (is_empty (led_missing (tool_task g n m tool).extras) && all_valued known (counted_needs (make_task g n m (Tool tool)) known names)) (tool_call g (tool_task g n m tool) known names) call e) (tool_formed n f m a tool is names named)
    made_formed n f m a Read is names named call e = cc
    made_formed n f m a EachOf is names named call e = cc
    made_formed n f m a Pack is names named call e = cc

    pub call_formed : (n : Node) → Fits g n → (names : List Text) → ((x : Text) → IsIn x names → IsName x) → (call : Call) → Some call ≡ call_of g (task_of g n) known names → IsWellFormed call
    call_formed n f names named call = by_task g n f (λ t. Some call ≡ call_of g t known names → IsWellFormed call) (λ e q. cc) (λ key b q. cc) (λ m a q. made_formed n f m a m.make refl names named call q)

-- ---- met nodes

leads_fit : (g : Graph) → IsSpellable g → Checked g → (seen : Results) → IsMapOverFitting g seen → (front : List Node) (n m : Node) → Fits g n → LeadsOn g seen n (front ++ m ∷ []) → Fits g m
leads_fit g spellable checked seen map' [] n m f l = needs_fit g spellable checked seen map' n f l.0.needs l.0.listed m l.0.one
leads_fit g spellable checked seen map' (x ∷ front) n m f l = leads_fit g spellable checked seen map' front x m (needs_fit g spellable checked seen map' n f l.0.needs l.0.listed x l.0.one) l.1

pub met_fits : (g : Graph) → IsSpellable g → Checked g → (seen : Results) → IsMapOverFitting g seen → (front : List Node) (n m : Node) → Fits g n → Chain g seen n (front ++ m ∷ []) → Fits g m
met_fits g spellable checked seen map' [] n m f c = subst (Fits g) c.0 f
met_fits g spellable checked seen map' (x ∷ front) n m f c = leads_fit g spellable checked seen map' front x m (subst (Fits g) c.0 f) c.1

pub calls_formed : (g : Graph) → IsSpellable g → Checked g → (s : Sources) → AreSources s → (outcomes : Outcomes) → OutcomesFit outcomes → (n : Node) → Fits g n → (call : Call) → IsCallFrom g (derived g s outcomes) n call → IsWellFormed call
calls_formed g spellable checked s sources outcomes fitted n f call c =
    let map' : IsMapOverFitting g (derived g s outcomes) = map_at g checked s sources outcomes fitted height_limit in
    let good = good_at g checked s sources outcomes fitted height_limit in
    let fit : Fits g c.node = met_fits g spellable checked (derived g s outcomes) map' c.met.front n c.node f c.met.leads in
    let known : Known = values_of (derived g s outcomes) in
    call_formed g spellable known good.kinds good.short (kinded g checked) c.node fit c.runs.called.names (λ x h. reached_named (task_of g c.node) known x (c.runs.called.reached.only x h)) call c.runs.called.is
