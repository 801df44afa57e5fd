-- Chains lead down, and sources stand at the first height.
use Rattle.std.proofs.Common.{◌≡◌, ℕ, zero, suc, ◌+◌, ◌≤◌, List, [], ◌∷◌, ◌++◌, sym, subst, refl, length, arith}
use Rattle.std.specs.Prelude.{Some}
use Rattle.object_values.specs.declared.nodes.Node.{Node}
use Rattle.object_values.specs.declared.views.View.{View}
use Rattle.meaning_texts.specs.Limits.{height_limit}
use Rattle.meaning_graph.specs.Graphs.{Graph}
use Rattle.meaning_tasks.specs.Labels.{label_of}
use Rattle.meaning_tasks.specs.Values.{inherit}
use Rattle.meaning_tasks.specs.Tasks.{task_of}
use Rattle.meaning_tasks.specs.Settle.{given_own}
use Rattle.meaning_derive.specs.Derive.{Sources, text_of, Outcomes, derive, derived}
use Rattle.meaning_derive.specs.Chains.{LeadsOn, Chain}
use Rattle.meaning_derive.specs.WalkLaws.{IsLower}
use Rattle.meaning_derive.proofs.Heights.{need_below}

module _ (g : Graph) (s : Sources) (outcomes : Outcomes) where
  pub nothing_at_zero : (n : Node) (v : View) → derive g s outcomes 0 n ≡ Some v → ⊥
  unfolding derive
  nothing_at_zero n v e = cc

  pub falls : (h : ℕ) → h ≤ height_limit → (n m : Node) (v : View) → derive g s outcomes h n ≡ Some v → (front : List Node) → LeadsOn g (derived g s outcomes) n (front ++ m ∷ []) → IsLower g s outcomes h (length front) m
  falls zero le n m v e front l = absurd (nothing_at_zero n v e)
  falls (suc h) le n m v e [] l = let w = need_below g s outcomes h (omega (arith, le)) n m v e l.0 in record { height = h; view = w.0; is = w.1; low = omega arith }
  falls (suc h) le n m v e (f ∷ front) l =
      let w = need_below g s outcomes h (omega (arith, le)) n f v e l.0 in
      let i = falls h (omega (arith, le)) f m w.0 w.1 front l.1 in
      record { height = i.height; view = i.view; is = i.is; low = omega (arith, i.low) }

  -- where a chain from what is derived ends: by the length of what is before
  pub record IsEnd (front : List Node) (m : Node) : Type 0 where
    pub height : ℕ
    pub view : View
    pub is : derive g s outcomes height m ≡ Some view
    pub low : height + length front ≤ height_limit

  pub chain_end : (n : Node) (v : View) → derived g s outcomes n ≡ Some v → (front : List Node) (m : Node) → Chain g (derived g s outcomes) n (front ++ m ∷ []) → IsEnd front m
  chain_end n v e [] m c = record { height = height_limit; view = v; is = subst (λ z. derived g s outcomes z ≡ Some v) c.0 e; low = omega arith }
  chain_end n v e (f ∷ front) m c =
      let i = falls height_limit (omega arith) f m v (subst (λ z. derived g s outcomes z ≡ Some v) c.0 e) front c.1 in
      record { height = i.height; view = i.view; is = i.is; low = omega (arith, i.low) }

abbrev source_view : Graph → Sources → Node → View
source_view g s n = let own = given_own (label_of g n) n.source (text_of s n.source) in record { value = own.value; status = own.status; messages = inherit [] own.messages }

at_source : (g : Graph) (s : Sources) (n : Node) → n.steps ≡ [] → (outcomes : Outcomes) (h : ℕ) → derive g s outcomes (suc h) n ≡ Some (source_view g s n)
unfolding derive task_of
at_source g s n is outcomes h = subst (λ z. derive g s outcomes (suc h) (record n { steps = z }) ≡ Some (source_view g s (record n { steps = z }))) (sym is) refl

pub sources_are_there : (g : Graph) (s : Sources) (n : Node) → n.steps ≡ [] → (view : View) × ((outcomes : Outcomes) (h : ℕ) → derive g s outcomes (suc h) n ≡ Some view)
sources_are_there g s n is = (source_view g s n, at_source g s n is)
