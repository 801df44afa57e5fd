-- Where heights fall no chain is long or comes back.
use Rattle.std.proofs.Common.{◌≡◌, ℕ, ◌+◌, ◌≤◌, ◌<◌, List, [], ◌∷◌, ◌++◌, inl, inr, sym, ap, ◌∙◌, subst, length, arith, append_assoc}
use Rattle.std.specs.Prelude.{Option, Some}
use Rattle.object_values.specs.declared.nodes.Node.{Node}
use Rattle.meaning_texts.specs.Limits.{height_limit}
use Rattle.meaning_graph.specs.Graphs.{Graph}
use Rattle.meaning_texts.proofs.Lemmas.{split_at, same_some}
use Rattle.meaning_tasks.specs.Needs.{Results}
use Rattle.meaning_derive.specs.Chains.{IsNeed, LeadsOn, Chain, IsCircular, IsRefusal}
use Rattle.meaning_derive.specs.WalkLaws.{AreFalling}

module _ (g : Graph) (seen : Results) (heights : Node → Option ℕ) (are : AreFalling g seen heights) where
  falls : (n m : Node) (k : ℕ) → heights n ≡ Some k → IsNeed g seen n m → (j : ℕ) × (heights m ≡ Some j) × (j < k)
  falls = are.falls

  -- the node to which a chain leads is lower by its length
  to_end : (n m : Node) (k : ℕ) → heights n ≡ Some k → (front : List Node) → LeadsOn g seen n (front ++ m ∷ []) → (j : ℕ) × (heights m ≡ Some j) × (j + length front < k)
  to_end n m k e [] l = let r = falls n m k e l.0 in (r.0, r.1, omega (arith, r.2))
  to_end n m k e (f ∷ front) l =
      let r = falls n f k e l.0 in
      let q = to_end f m r.0 r.1 front l.1 in
      (q.0, q.1, omega (arith, r.2, q.2))

  -- no chain comes back
  no_way_back : (n : Node) (k : ℕ) → heights n ≡ Some k → (back : List Node) → LeadsOn g seen n (back ++ n ∷ []) → ⊥
  no_way_back n k e back l = let q = to_end n n k e back l in let same : k ≡ q.0 = same_some (sym e ∙ q.1) in absurd (omega (arith, same, q.2))

  -- what a chain leads through has a height
  through : (n m : Node) (k : ℕ) → heights n ≡ Some k → (front back : List Node) → LeadsOn g seen n (front ++ m ∷ back) → ((j : ℕ) × (heights m ≡ Some j)) × LeadsOn g seen m back
  through n m k e [] back l = let r = falls n m k e l.0 in ((r.0, r.1), l.1)
  through n m k e (f ∷ front) back l = let r = falls n f k e l.0 in through f m r.0 r.1 front back l.1

  long : (n : Node) (k : ℕ) → heights n ≡ Some k → (rest : List Node) → LeadsOn g seen n rest → length rest < k
  long n k e [] l = are.low n k e
  long n k e (m ∷ rest) l = let r = falls n m k e l.0 in let q = long m r.0 r.1 rest l.1 in omega (arith, r.2, q)

  not_circular : (n : Node) (k : ℕ) → heights n ≡ Some k → (chain : List Node) → IsCircular g seen n chain → ⊥
  not_circular n k e chain c = by_front parts.0 parts.1 (subst (λ l. Chain g seen n l) (c.is ∙ ap (λ l. l ++ c.last ∷ []) parts.2 ∙ append_assoc parts.0 (c.last ∷ parts.1) (c.last ∷ [])) c.leads)
    where
      parts : (front back : List Node) × (c.front ≡ front ++ c.last ∷ back)
      parts = split_at c.last c.front c.repeated

      by_front : (front back : List Node) → Chain g seen n (front ++ c.last ∷ (back ++ c.last ∷ [])) → ⊥
      by_front [] back h = no_way_back c.last k (subst (λ z. heights z ≡ Some k) h.0 e) back h.1
      by_front (f ∷ front) back h =
          let r = through f c.last k (subst (λ z. heights z ≡ Some k) h.0 e) front (back ++ c.last ∷ []) h.1 in
          no_way_back c.last r.0.0 r.0.1 back r.1

  not_deep : (n : Node) (k : ℕ) → heights n ≡ Some k → k ≤ height_limit → (chain : List Node) → Chain g seen n chain → length chain ≡ height_limit + 1 → ⊥
  not_deep n k e le [] c l = c
  not_deep n k e le (m ∷ rest) c l = let q = long m k (subst (λ z. heights z ≡ Some k) c.0 e) rest c.1 in absurd (omega (arith, q, l, le))

  pub none_refused : (n : Node) (k : ℕ) → heights n ≡ Some k → k ≤ height_limit → (chain : List Node) → IsRefusal g seen n chain → ⊥
  none_refused n k e le chain (inl c) = not_circular n k e chain c
  none_refused n k e le chain (inr d) = not_deep n k e le chain d.leads d.long
