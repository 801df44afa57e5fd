-- Nodes that are led on or made from expressions fit.
use Rattle.std.proofs.Common.{◌≡◌, ℕ, true, false, List, [], ◌∷◌, ◌++◌, ◌+◌, inl, inr, sym, ap, ◌∙◌, subst, refl, cond, is_some, map}
use Rattle.std.specs.Prelude.{Option, Some, None, option_map, option_and_then, MatchOption}
use Rattle.object_values.specs.declared.nodes.ParamValue.{ParamValue}
use Rattle.object_values.specs.declared.nodes.Step.{Step}
use Rattle.object_values.specs.declared.nodes.Step.TheVariants.{Maker, Pick as PickKey}
use Rattle.object_values.specs.declared.nodes.Node.{Node}
use Rattle.object_values.specs.declared.expressions.ExprStep.{ExprStep}
use Rattle.object_values.specs.declared.expressions.ExprStep.TheVariants.{To, Pick}
use Rattle.object_values.specs.declared.expressions.Expression.{Expression}
use Rattle.meaning_texts.specs.Expressions.{IsCanonical, IsStepOfClass as IsExprStepOfClass}
use Rattle.meaning_graph.specs.Graphs.{Text, Graph, type_named}
use Rattle.meaning_texts.specs.Lists.{IsIn}
use Rattle.meaning_graph.specs.Suffixes.{source_type}
use Rattle.meaning_graph.specs.Types.{IsA, is_a}
use Rattle.meaning_graph.specs.Paths.{Makes, Path, Chosen, HasNoPath, made_of, chosen_path}
use Rattle.meaning_texts.proofs.Lemmas.{in_either, in_left, from_map, in_all, all_in, same_some}
use Rattle.std.proofs.lemmas.Bool.{cond-true}
use Rattle.meaning_graph.proofs.Lemmas.{so_is_a, path_chosen}
use Rattle.meaning_tasks.specs.Nodes.{before_last, last_step, base_of, node_with_step, extended, step_type, type_after, reached_type, onward, onward_named, HasKeyOfClass, Fits}
use Rattle.meaning_tasks.specs.NodeOf.{NodeAnswer, is_node, unknown_param, unknown_type, no_path, node_or_no_path, toward, step_on, steps_on, unknown_in, of_known, node_of}
use Rattle.meaning_tasks.specs.NodeLaws.{IsLedTo}

-- ---- types along steps

pub type_after-append : (g : Graph) (o : Option ℕ) (xs ys : List Step) → type_after g o (xs ++ ys) ≡ type_after g (type_after g o xs) ys
type_after-append g None xs ys = refl
type_after-append g (Some t) [] ys = refl
type_after-append g (Some t) (x ∷ xs) ys = type_after-append g (step_type g t x) xs ys

pub type_after_none : (g : Graph) (o : Option ℕ) → type_after g o [] ≡ o
type_after_none g None = refl
type_after_none g (Some t) = refl

step_makes : (g : Graph) (a k to : ℕ) → Makes g a k to → step_type g a (Maker k) ≡ Some to
step_makes g a k to m =
    ap (option_and_then (made_of g a)) m.numbered
    ∙ ap (option_and_then (λ taken. cond (is_a g a taken) (type_named g m.maker.to) None)) m.takes
    ∙ cond-true (is_a g a m.taken) (type_named g m.maker.to) None (so_is_a g a m.taken m.fits) ∙ m.makes

-- the type at the end of a path
pub path_type : (g : Graph) (p : List ℕ) (a b : ℕ) → Path g a b p → (c : ℕ) × (type_after g (Some a) (map Maker p) ≡ Some c) × IsA g c b
path_type g [] a b w = (a, refl, w)
path_type g (k ∷ p) a b w = let i = path_type g p w.0 b w.2 in (i.0, ap (λ o. type_after g o (map Maker p)) (step_makes g a k w.0 w.1) ∙ i.1, i.2)

chosen_is_path : (g : Graph) (a b : ℕ) (p : List ℕ) → chosen_path g a b ≡ Some p → Path g a b p
chosen_is_path g a b p e = let c : Chosen g a b p = subst (λ o. MatchOption o (HasNoPath g a b) (Chosen g a b)) e (path_chosen g a b) in c.path

-- ---- onward

extended_fits : (g : Graph) (n : Node) (t to : ℕ) (p : List ℕ) → Fits g n → reached_type g n ≡ Some t → Path g t to p → IsLedTo g n to (extended n p)
unfolding reached_type
extended_fits g n t to p f e w =
    let i = path_type g p t to w in
    let whole : reached_type g (extended n p) ≡ Some i.0 = type_after-append g (Some (source_type g n.source)) n.steps (map Maker p) ∙ ap (λ o. type_after g o (map Maker p)) e ∙ i.1 in
    record {
      fits = record { source = f.source; params = f.params; keys = all_in HasKeyOfClass (n.steps ++ map Maker p) keys; typed = ap is_some whole };
      type = i.0;
      typed = whole;
      is = i.2;
    }
  where
    keys : (s : Step) → IsIn s (n.steps ++ map Maker p) → HasKeyOfClass s
    keys s h = elim (in_either s n.steps (map Maker p) h) [
      | inl k ↦ in_all HasKeyOfClass n.steps f.keys s k
      | inr k ↦ let r = from_map Maker s p k in subst HasKeyOfClass (sym r.2) tt
    ]

pub onward_fits : (g : Graph) (n m : Node) (to : ℕ) → Fits g n → onward g n to ≡ Some m → IsLedTo g n to m
onward_fits g n m to f h = by_type (reached_type g n) refl h
  where
    by_path : (t : ℕ) → reached_type g n ≡ Some t → (o : Option (List ℕ)) → chosen_path g t to ≡ o → option_map (extended n) o ≡ Some m → IsLedTo g n to m
    by_path t e None q k = cc
    by_path t e (Some p) q k = subst (IsLedTo g n to) (same_some k) (extended_fits g n t to p f e (chosen_is_path g t to p q))

    by_type : (o : Option ℕ) → reached_type g n ≡ o → option_and_then (λ t. option_map (extended n) (chosen_path g t to)) o ≡ Some m → IsLedTo g n to m
    by_type None e k = cc
    by_type (Some t) e k = by_path t e (chosen_path g t to) refl k

pub onward_named_fits : (g : Graph) (n m : Node) (name : Text) → Fits g n → onward_named g n name ≡ Some m → (to : ℕ) × (type_named g name ≡ Some to) × IsLedTo g n to m
onward_named_fits g n m name f h = by_name (type_named g name) refl h
  where
    by_name : (o : Option ℕ) → type_named g name ≡ o → option_and_then (onward g n) o ≡ Some m → (to : ℕ) × (type_named g name ≡ Some to) × IsLedTo g n to m
    by_name None e k = cc
    by_name (Some to) e k = (to, e, onward_fits g n m to f k)

-- ---- the base

pub last_split : (steps : List Step) (s : Step) → last_step steps ≡ Some s → steps ≡ before_last steps ++ s ∷ []
last_split [] s e = cc
last_split (x ∷ []) s e = ap (λ z. z ∷ []) (same_some e)
last_split (x ∷ y ∷ steps) s e = ap (λ l. x ∷ l) (last_split (y ∷ steps) s e)

pub record HasBase (g : Graph) (n : Node) (s : Step) : Type 0 where
  pub fits : Fits g (base_of n)
  pub type : ℕ
  pub typed : reached_type g (base_of n) ≡ Some type
  pub step : step_type g type s ≡ reached_type g n

-- the base of a node that fits does, and the last step can be applied to its type
pub base_fits : (g : Graph) (n : Node) (s : Step) → Fits g n → last_step n.steps ≡ Some s → HasBase g n s
unfolding reached_type
base_fits g n s f e = by_type (reached_type g (base_of n)) refl
  where
    split : n.steps ≡ before_last n.steps ++ s ∷ []
    split = last_split n.steps s e

    whole : (o : Option ℕ) → reached_type g (base_of n) ≡ o → reached_type g n ≡ type_after g o (s ∷ [])
    whole o q = ap (type_after g (Some (source_type g n.source))) split ∙ type_after-append g (Some (source_type g n.source)) (before_last n.steps) (s ∷ []) ∙ ap (λ p. type_after g p (s ∷ [])) q

    by_type : (o : Option ℕ) → reached_type g (base_of n) ≡ o → HasBase g n s
    by_type None q = let none : is_some (reached_type g n) ≡ false = ap is_some (whole None q) in let some : is_some (reached_type g n) ≡ true = f.typed in cc
    by_type (Some t) q = record {
      fits = record {
        source = f.source;
        params = f.params;
        keys = all_in HasKeyOfClass (before_last n.steps) (λ x i. in_all HasKeyOfClass n.steps f.keys x (subst (λ l. IsIn x l) (sym split) (in_left x (before_last n.steps) (s ∷ []) i)));
        typed = ap is_some q;
      };
      type = t;
      typed = q;
      step = sym (type_after_none g (step_type g t s)) ∙ sym (whole (Some t) q);
    }

-- ---- nodes of expressions

pick_fits : (g : Graph) (n : Node) (key : Text) → Fits g n → IsExprStepOfClass (Pick key) → is_some (reached_type g (node_with_step n (PickKey key))) ≡ true → Fits g (node_with_step n (PickKey key))
pick_fits g n key f k t = record { source = f.source; params = f.params; keys = all_in HasKeyOfClass (n.steps ++ PickKey key ∷ []) keys; typed = t }
  where
    keys : (s : Step) → IsIn s (n.steps ++ PickKey key ∷ []) → HasKeyOfClass s
    keys s h = elim (in_either s n.steps (PickKey key ∷ []) h) [
      | inl i ↦ in_all HasKeyOfClass n.steps f.keys s i
      | inr i ↦ elim i [ inl e ↦ subst HasKeyOfClass (sym e) k | inr none ↦ absurd none ]
    ]

same_node : {n m : Node} → is_node n ≡ is_node m → n ≡ m
same_node e = cc

step_on_fits : (g : Graph) (n m : Node) (k : ℕ) (s : ExprStep) → Fits g n → IsExprStepOfClass s → step_on g n k s ≡ is_node m → Fits g m
step_on_fits g n m k (To name) f c h = by_name (type_named g name) h
  where
    by_onward : (to : ℕ) (o : Option Node) → onward g n to ≡ o → node_or_no_path k o ≡ is_node m → Fits g m
    by_onward to None e q = cc
    by_onward to (Some x) e q = subst (Fits g) (same_node q) (onward_fits g n x to f e).fits

    by_name : (o : Option ℕ) → toward g n k name o ≡ is_node m → Fits g m
    by_name None q = cc
    by_name (Some to) q = by_onward to (onward g n to) refl q
step_on_fits g n m k (Pick key) f c h = (elim (is_some (reached_type g (node_with_step n (PickKey key)))) as (λ b. is_some (reached_type g (node_with_step n (PickKey key))) ≡ b → cond b (is_node (node_with_step n (PickKey key))) (no_path k) ≡ is_node m → Fits g m) [
  | true ↦ λ e q. subst (Fits g) (same_node q) (pick_fits g n key f c e)
  | false ↦ λ e q. cc
]) refl h

steps_on_fits : (g : Graph) (steps : List ExprStep) (k : ℕ) (a : NodeAnswer) (m : Node) → ((n : Node) → a ≡ is_node n → Fits g n) → ((s : ExprStep) → IsIn s steps → IsExprStepOfClass s) → steps_on g k a steps ≡ is_node m → Fits g m
steps_on_fits g [] k a m f c h = f m h
steps_on_fits g (s ∷ steps) k (is_node n) m f c h = steps_on_fits g steps (k + 1) (step_on g n k s) m (λ x e. step_on_fits g n x k s (f n refl) (c s (inl refl)) e) (λ x i. c x (inr i)) h
steps_on_fits g (s ∷ steps) k (unknown_param name) m f c h = cc
steps_on_fits g (s ∷ steps) k (unknown_type name) m f c h = cc
steps_on_fits g (s ∷ steps) k (no_path j) m f c h = cc

-- The node of a canonical expression fits.
pub made_fits : (g : Graph) (e : Expression) (n : Node) → IsCanonical e → node_of g e ≡ is_node n → Fits g n
unfolding node_of reached_type
made_fits g e n c h = by_known (unknown_in g e.params) h
  where
    start : Node
    start = record { source = e.source; params = e.params; steps = [] }

    start_fits : Fits g start
    start_fits = record { source = c.source; params = c.params; keys = all_in HasKeyOfClass [] (λ x i. absurd i); typed = refl }

    by_known : (o : Option ParamValue) → of_known g e o ≡ is_node n → Fits g n
    by_known None q = steps_on_fits g e.steps 1 (is_node start) n (λ x r. subst (Fits g) (same_node r) start_fits) (in_all IsExprStepOfClass e.steps c.steps) q
    by_known (Some p) q = cc
