-- One more entry in a table, its nodes, and the heights that the tables give.
use Rattle.std.proofs.Common.{◌≡◌, ℕ, Bool, true, false, cond, List, [], ◌∷◌, ◌++◌, map, ◌⊎◌, inl, inr, sym, ap, ◌∙◌, subst, refl}
use Rattle.std.specs.Prelude.{Some, None, IsSome, is_some, option_map}
use Rattle.std.specs.Map.{lookup}
use Rattle.object_values.specs.declared.nodes.Node.{Node}
use Rattle.object_values.specs.contracts.nodes.NodePartialEq.TheImpl.{ghosts as node_eq}
use Rattle.object_values.specs.Exact.{node_exact}
use Rattle.meaning_texts.specs.Lists.{IsIn}
use Rattle.meaning_texts.proofs.Lemmas.{some_or_none, value_of_some, same_some, in_right, in_either}
use Rattle.meaning_derive.specs.Chains.{AreDifferent}
use Rattle.derive_walk.specs.declared.done.Done.{Done}
use Rattle.derive_walk.specs.Tables.{Entries, Waits, done_in, height_in, height_or, heights_of}

-- ---- an entry after the others

module _ {V : Type 0} where
  -- those that are there stay
  pub push_keeps : (es : List (Node × V)) (k : Node) (v : V) (n : Node) (x : V) → lookup (node_eq.eq n) es ≡ Some x → lookup (node_eq.eq n) (es ++ (k, v) ∷ []) ≡ Some x
  push_keeps [] k v n x h = cc
  push_keeps (e ∷ es) k v n x h = (elim (node_eq.eq n e.0) as (λ b. cond b (Some e.1) (lookup (node_eq.eq n) es) ≡ Some x → cond b (Some e.1) (lookup (node_eq.eq n) (es ++ (k, v) ∷ [])) ≡ Some x) [
    | true ↦ λ q. q
    | false ↦ λ q. push_keeps es k v n x q
  ]) h

  -- it is there
  pub push_new : (es : List (Node × V)) (k : Node) (v : V) → lookup (node_eq.eq k) es ≡ None → lookup (node_eq.eq k) (es ++ (k, v) ∷ []) ≡ Some v
  push_new [] k v h = ap (λ b. cond b (Some v) None) ((node_exact k k).1 refl)
  push_new (e ∷ es) k v h = (elim (node_eq.eq k e.0) as (λ b. cond b (Some e.1) (lookup (node_eq.eq k) es) ≡ None → cond b (Some e.1) (lookup (node_eq.eq k) (es ++ (k, v) ∷ [])) ≡ Some v) [
    | true ↦ λ q. cc
    | false ↦ λ q. push_new es k v q
  ]) h

  -- there is no other
  pub push_from : (es : List (Node × V)) (k : Node) (v : V) (n : Node) (x : V) → lookup (node_eq.eq n) (es ++ (k, v) ∷ []) ≡ Some x → (lookup (node_eq.eq n) es ≡ Some x) ⊎ ((n ≡ k) × (v ≡ x))
  push_from [] k v n x h = (elim (node_eq.eq n k) as (λ b. node_eq.eq n k ≡ b → cond b (Some v) None ≡ Some x → (lookup (node_eq.eq n) [] ≡ Some x) ⊎ ((n ≡ k) × (v ≡ x))) [
    | true ↦ λ q w. inr ((node_exact n k).0 q, same_some w)
    | false ↦ λ q w. inl w
  ]) refl h
  push_from (e ∷ es) k v n x h = (elim (node_eq.eq n e.0) as (λ b. cond b (Some e.1) (lookup (node_eq.eq n) (es ++ (k, v) ∷ [])) ≡ Some x → (cond b (Some e.1) (lookup (node_eq.eq n) es) ≡ Some x) ⊎ ((n ≡ k) × (v ≡ x))) [
    | true ↦ λ q. inl q
    | false ↦ λ q. push_from es k v n x q
  ]) h

  pub push_other : (es : List (Node × V)) (k : Node) (v : V) (n : Node) → lookup (node_eq.eq n) es ≡ None → (n ≡ k → ⊥) → lookup (node_eq.eq n) (es ++ (k, v) ∷ []) ≡ None
  push_other es k v n h apart = elim (some_or_none (lookup (node_eq.eq n) (es ++ (k, v) ∷ []))) [
    | inr q ↦ q
    | inl x ↦ elim (push_from es k v n x.0 x.1) [ inl q ↦ cc | inr q ↦ absurd (apart q.0) ]
  ]

-- ---- lists of nodes

pub different_push : (front : List Node) (x : Node) → AreDifferent front → (IsIn x front → ⊥) → AreDifferent (front ++ x ∷ [])
different_push [] x d apart = (λ h. h, tt)
different_push (f ∷ front) x d apart = (λ h. elim (in_either f front (x ∷ []) h) [ inl k ↦ d.0 k | inr k ↦ elim k [ inl e ↦ apart (inl (sym e)) | inr none ↦ none ] ], different_push front x d.1 (λ k. apart (inr k)))

pub in_push : (m n : Node) (front : List Node) → IsIn m (front ++ n ∷ []) → IsIn m front ⊎ (m ≡ n)
in_push m n front i = elim (in_either m front (n ∷ []) i) [ inl k ↦ inl k | inr k ↦ elim k [ inl e ↦ inr e | inr none ↦ absurd none ] ]

pub at_end : (n : Node) (front : List Node) → IsIn n (front ++ n ∷ [])
at_end n front = in_right n front (n ∷ []) (inl refl)

-- ---- the nodes of a table

module _ {V : Type 0} where
  pub nodes_push : (es : List (Node × V)) (n : Node) (v : V) → map (λ (e : Node × V). e.0) (es ++ (n, v) ∷ []) ≡ map (λ (e : Node × V). e.0) es ++ n ∷ []
  nodes_push [] n v = refl
  nodes_push (e ∷ es) n v = ap (λ l. e.0 ∷ l) (nodes_push es n v)

  -- a node without an entry is none of them
  pub not_among : (es : List (Node × V)) (n : Node) → lookup (node_eq.eq n) es ≡ None → IsIn n (map (λ (e : Node × V). e.0) es) → ⊥
  not_among [] n none i = i
  not_among (e ∷ es) n none i = by_test (node_eq.eq n e.0) refl none (not_among es n)
    where
      by_test : (b : Bool) → node_eq.eq n e.0 ≡ b → cond b (Some e.1) (lookup (node_eq.eq n) es) ≡ None
          → (lookup (node_eq.eq n) es ≡ None → IsIn n (map (λ (e : Node × V). e.0) es) → ⊥) → ⊥
      by_test true same none below = cc
      by_test false same none below = elim i [
        | inl q ↦ let yes : node_eq.eq n e.0 ≡ true = (node_exact n e.0).1 q in cc
        | inr j ↦ below none j
      ]

  -- each of them has one
  pub has_entry : (es : List (Node × V)) (n : Node) → IsIn n (map (λ (e : Node × V). e.0) es) → IsSome (lookup (node_eq.eq n) es)
  has_entry es n i = elim (some_or_none (lookup (node_eq.eq n) es)) [
    | inl d ↦ ap is_some d.1
    | inr none ↦ absurd (not_among es n none i)
  ]

  -- what has one is among them
  pub is_among : (es : List (Node × V)) (n : Node) → IsSome (lookup (node_eq.eq n) es) → IsIn n (map (λ (e : Node × V). e.0) es)
  is_among [] n there = cc
  is_among (e ∷ es) n there = by_test (node_eq.eq n e.0) refl there (is_among es n)
    where
      by_test : (b : Bool) → node_eq.eq n e.0 ≡ b → IsSome (cond b (Some e.1) (lookup (node_eq.eq n) es))
          → (IsSome (lookup (node_eq.eq n) es) → IsIn n (map (λ (e : Node × V). e.0) es)) → IsIn n (map (λ (e : Node × V). e.0) (e ∷ es))
      by_test true same there below = inl ((node_exact n e.0).0 same)
      by_test false same there below = inr (below there)

  pub still_there : (es : List (Node × V)) (k : Node) (v : V) (n : Node) → IsSome (lookup (node_eq.eq n) es) → IsSome (lookup (node_eq.eq n) (es ++ (k, v) ∷ []))
  still_there es k v n there = let x = value_of_some (lookup (node_eq.eq n) es) there in ap is_some (push_keeps es k v n x.0 x.1)

-- ---- heights

module _ (done : Entries) (waits : Waits) where
  pub height_if_done : (n : Node) (d : Done) → done_in done n ≡ Some d → heights_of done waits n ≡ Some d.height
  height_if_done n d e = ap (λ o. height_or (option_map (λ (d : Done). d.height) o) (height_in waits n)) e

  pub height_if_waiting : (n : Node) (h : ℕ) → done_in done n ≡ None → height_in waits n ≡ Some h → heights_of done waits n ≡ Some h
  height_if_waiting n h none e = ap (λ o. height_or (option_map (λ (d : Done). d.height) o) (height_in waits n)) none ∙ e

  -- what was visited is done or waits
  pub done_or_waiting : (n : Node) (k : ℕ) → heights_of done waits n ≡ Some k → ((d : Done) × (done_in done n ≡ Some d) × (d.height ≡ k)) ⊎ ((done_in done n ≡ None) × (height_in waits n ≡ Some k))
  done_or_waiting n k h = elim (some_or_none (done_in done n)) [
    | inl d ↦ inl (d.0, d.1, same_some (sym (height_if_done n d.0 d.1) ∙ h))
    | inr none ↦ inr (none, sym (ap (λ o. height_or (option_map (λ (d : Done). d.height) o) (height_in waits n)) none) ∙ h)
  ]

  -- what was not visited is neither
  pub not_done : (n : Node) → heights_of done waits n ≡ None → done_in done n ≡ None
  not_done n h = elim (some_or_none (done_in done n)) [
    | inl d ↦ let z : None ≡ Some d.0.height = sym h ∙ height_if_done n d.0 d.1 in cc
    | inr none ↦ none
  ]

  pub not_waiting : (n : Node) → heights_of done waits n ≡ None → height_in waits n ≡ None
  not_waiting n h = sym (ap (λ o. height_or (option_map (λ (d : Done). d.height) o) (height_in waits n)) (not_done n h)) ∙ h

  not_visited : (n : Node) → done_in done n ≡ None → height_in waits n ≡ None → heights_of done waits n ≡ None
  not_visited n none e = ap (λ o. height_or (option_map (λ (d : Done). d.height) o) (height_in waits n)) none ∙ e

-- ---- a node that was not visited becomes done, or waits

module _ (done : Entries) (waits : Waits) (n : Node) (new : heights_of done waits n ≡ None) where
  pub done_there : (d : Done) → heights_of (done ++ (n, d) ∷ []) waits n ≡ Some d.height
  done_there d = height_if_done (done ++ (n, d) ∷ []) waits n d (push_new done n d (not_done done waits n new))

  pub waiting_there : (h : ℕ) → heights_of done (waits ++ (n, h) ∷ []) n ≡ Some h
  waiting_there h = height_if_waiting done (waits ++ (n, h) ∷ []) n h (not_done done waits n new) (push_new waits n h (not_waiting done waits n new))

  pub done_keeps : (d : Done) (m : Node) (k : ℕ) → heights_of done waits m ≡ Some k → heights_of (done ++ (n, d) ∷ []) waits m ≡ Some k
  done_keeps d m k e = elim (done_or_waiting done waits m k e) [
    | inl x ↦ height_if_done (done ++ (n, d) ∷ []) waits m x.0 (push_keeps done n d m x.0 x.1) ∙ ap (λ z. Some z) x.2
    | inr x ↦ height_if_waiting (done ++ (n, d) ∷ []) waits m k (push_other done n d m x.0 (λ same. let z : None ≡ Some k = sym (subst (λ y. heights_of done waits y ≡ None) (sym same) new) ∙ e in cc)) x.1
  ]

  pub waiting_keeps : (h : ℕ) (m : Node) (k : ℕ) → heights_of done waits m ≡ Some k → heights_of done (waits ++ (n, h) ∷ []) m ≡ Some k
  waiting_keeps h m k e = elim (done_or_waiting done waits m k e) [
    | inl x ↦ height_if_done done (waits ++ (n, h) ∷ []) m x.0 x.1 ∙ ap (λ z. Some z) x.2
    | inr x ↦ height_if_waiting done (waits ++ (n, h) ∷ []) m k x.0 (push_keeps waits n h m k x.1)
  ]

  pub done_apart : (d : Done) (m : Node) → heights_of done waits m ≡ None → (m ≡ n → ⊥) → heights_of (done ++ (n, d) ∷ []) waits m ≡ None
  done_apart d m e apart = not_visited (done ++ (n, d) ∷ []) waits m (push_other done n d m (not_done done waits m e) apart) (not_waiting done waits m e)

  pub waiting_apart : (h : ℕ) (m : Node) → heights_of done waits m ≡ None → (m ≡ n → ⊥) → heights_of done (waits ++ (n, h) ∷ []) m ≡ None
  waiting_apart h m e apart = not_visited done (waits ++ (n, h) ∷ []) m (not_done done waits m e) (push_other waits n h m (not_waiting done waits m e) apart)
