-- The calls of a founded node are its own and those of its needs.
use Rattle.std.proofs.Common.{◌↔◌, ◌⊎◌, ◌≤◌, List, [], ◌∷◌, ◌++◌, inl, inr, sym, subst, refl, length, arith}
use Rattle.object_values.specs.declared.nodes.Node.{Node}
use Rattle.object_values.specs.declared.calls.Call.{Call}
use Rattle.meaning_texts.specs.Limits.{height_limit}
use Rattle.meaning_texts.proofs.Lemmas.{value_of_some}
use Rattle.meaning_graph.specs.Graphs.{Graph}
use Rattle.meaning_tasks.specs.Needs.{Results}
use Rattle.meaning_derive.specs.Derive.{Sources, Outcomes, derived, IsFounded}
use Rattle.meaning_derive.specs.Chains.{IsNeed, LeadsOn, Chain}
use Rattle.meaning_derive.specs.Calls.{Runs, IsCallFrom}
use Rattle.meaning_derive.specs.WalkLaws.{IsCallOfNeed}
use Rattle.meaning_derive.proofs.Lower.{chain_end}

module _ (g : Graph) (seen : Results) (call : Call) where
  -- a chain that leads on from a node begins with a need of it
  to_need : (n m : Node) (front : List Node) → LeadsOn g seen n (front ++ m ∷ []) → length front ≤ height_limit → Runs g seen m call → IsCallOfNeed g seen n call
  to_need n m [] l few runs = record { need = m; one = l.0; from = record { node = m; met = record { front = []; leads = (refl, tt); short = omega arith }; runs = runs } }
  to_need n m (f ∷ front) l few runs = record { need = f; one = l.0; from = record { node = m; met = record { front = f ∷ front; leads = (refl, l.1); short = few }; runs = runs } }

  own_or_need : (n m : Node) (front : List Node) → Chain g seen n (front ++ m ∷ []) → length front ≤ height_limit → Runs g seen m call → Runs g seen n call ⊎ IsCallOfNeed g seen n call
  own_or_need n m [] c few runs = inl (subst (λ z. Runs g seen z call) (sym c.0) runs)
  own_or_need n m (f ∷ front) c few runs = inr (to_need n m front (subst (λ z. LeadsOn g seen z (front ++ m ∷ [])) (sym c.0) c.1) (omega (arith, few)) runs)

  own_call : (n : Node) → Runs g seen n call → IsCallFrom g seen n call
  own_call n runs = record { node = n; met = record { front = []; leads = (refl, tt); short = omega arith }; runs = runs }

  -- the chain of a need, with the node before it
  longer : (n m : Node) (chain : List Node) → IsNeed g seen n m → Chain g seen m chain → Chain g seen n (n ∷ chain)
  longer n m [] need c = absurd c
  longer n m (f ∷ rest) need c = (refl, (subst (λ z. IsNeed g seen n z) c.0 need, c.1))

module _ (g : Graph) (s : Sources) (outcomes : Outcomes) where
  need_call : (n : Node) (call : Call) → IsFounded g s outcomes n → IsCallOfNeed g (derived g s outcomes) n call → IsCallFrom g (derived g s outcomes) n call
  need_call n call founded c =
      let v = value_of_some (derived g s outcomes n) founded in
      let front : List Node = c.from.met.front in
      let leads = longer g (derived g s outcomes) call n c.need (front ++ c.from.node ∷ []) c.one c.from.met.leads in
      let e = chain_end g s outcomes n v.0 v.1 (n ∷ front) c.from.node leads in
      record { node = c.from.node; met = record { front = n ∷ front; leads = leads; short = omega (arith, e.low) }; runs = c.from.runs }

  pub calls_by_needs : (n : Node) (call : Call) → IsFounded g s outcomes n
      → IsCallFrom g (derived g s outcomes) n call ↔ (Runs g (derived g s outcomes) n call ⊎ IsCallOfNeed g (derived g s outcomes) n call)
  calls_by_needs n call founded = (
    λ c. own_or_need g (derived g s outcomes) call n c.node c.met.front c.met.leads c.met.short c.runs,
    elim [ inl runs ↦ own_call g (derived g s outcomes) call n runs | inr c ↦ need_call n call founded c ],
  )
