-- The place of the first node of a height.
use Rattle.std.proofs.Common.{◌≡◌, ℕ, suc, ◌<◌, Bool, true, false, cond, List, [], ◌∷◌, ◌++◌, length, map, sym, ap, ◌∙◌, refl, arith}
use Rattle.std.specs.Prelude.{nat_eq, Option, Some, None, Result, Ok, Err, OnOk, option_map}
use Rattle.std.proofs.lemmas.Bool.Decides.{Decides-eqb}
use Rattle.std.proofs.lemmas.List.{map-append}
use Rattle.object_values.specs.declared.nodes.Node.{Node}
use Rattle.object_values.specs.declared.facts.FactDep.{FactDep}
use Rattle.meaning_graph.specs.Graphs.{Graph}
use Rattle.derive_walk.specs.declared.done.Done.{Done}
use Rattle.derive_walk.specs.declared.noting.NotedDeps.{NotedDeps}
use Rattle.derive_walk.specs.Tables.{Entries, done_in, heights_of, height_or, is_height}
use Rattle.derive_walk.specs.Walks.{AreFormedDone}
use Rattle.derive_walk.specs.Noting.{is_at, found_or, place_of_height, tight_in}

module _ (heights : Node → Option ℕ) (h : ℕ) where
  suc_found : (o : Option ℕ) (fits : Bool) (k : ℕ) → option_map suc (found_or o fits k) ≡ found_or (option_map suc o) fits (suc k)
  suc_found None true k = refl
  suc_found None false k = refl
  suc_found (Some p) fits k = refl

  found_by : (b fits : Bool) (o : Option ℕ) (k : ℕ) → cond b (Some 0) (found_or o fits k) ≡ found_or (cond b (Some 0) o) fits k
  found_by true fits o k = refl
  found_by false fits o k = refl

  -- one node more
  pub place_push : (nodes : List Node) (n : Node) → place_of_height heights h (nodes ++ n ∷ []) ≡ found_or (place_of_height heights h nodes) (is_height h (heights n)) (length nodes)
  place_push [] n = by (is_height h (heights n))
    where
      by : (b : Bool) → cond b (Some 0) None ≡ found_or None b 0
      by true = refl
      by false = refl
  place_push (m ∷ nodes) n =
      ap (λ o. cond (is_height h (heights m)) (Some 0) (option_map suc o)) (place_push nodes n)
      ∙ ap (λ o. cond (is_height h (heights m)) (Some 0) o) (suc_found (place_of_height heights h nodes) (is_height h (heights n)) (length nodes))
      ∙ found_by (is_height h (heights m)) (is_height h (heights n)) (option_map suc (place_of_height heights h nodes)) (suc (length nodes))

at_height_of : (o : Option Done) (h : ℕ) → is_at o h ≡ is_height h (height_or (option_map (λ (d : Done). d.height) o) None)
at_height_of None h = refl
at_height_of (Some d) h = refl

length_nodes : (deps : List FactDep) → length (map (λ (d : FactDep). d.node) deps) ≡ length deps
length_nodes [] = refl
length_nodes (d ∷ deps) = ap suc (length_nodes deps)

-- one dep more
pub tight_push : (done : Entries) (below : ℕ) (deps : List FactDep) (d : FactDep) → tight_in done below (deps ++ d ∷ []) ≡ found_or (tight_in done below deps) (is_at (done_in done d.node) below) (length deps)
tight_push done below deps d =
    ap (place_of_height (heights_of done []) below) (map-append (λ (x : FactDep). x.node) deps (d ∷ []))
    ∙ place_push (heights_of done []) below (map (λ (x : FactDep). x.node) deps) d.node
    ∙ ap (λ b. found_or (tight_in done below deps) b (length (map (λ (x : FactDep). x.node) deps))) (sym (at_height_of (done_in done d.node) below))
    ∙ ap (λ k. found_or (tight_in done below deps) (is_at (done_in done d.node) below) k) (length_nodes deps)

-- what was put so far has the place of the first
pub tight_put : {T E : Type 0} (result : Result T E) (done : Entries) (below : ℕ) (old new : NotedDeps) (d : FactDep) (entry : Option Done) (fits : Bool)
    → old.tight ≡ tight_in done below old.deps → entry ≡ done_in done d.node → fits ≡ is_at entry below
    → OnOk result (new.deps ≡ old.deps ++ d ∷ []) → OnOk result (new.tight ≡ found_or old.tight fits (length old.deps))
    → OnOk result (new.tight ≡ tight_in done below new.deps)
tight_put (Ok v) done below old new d entry fits was is at deps tight =
    tight ∙ (λ i. found_or (was i) (at i) (length old.deps)) ∙ ap (λ o. found_or (tight_in done below old.deps) (is_at o below) (length old.deps)) is
    ∙ sym (tight_push done below old.deps d) ∙ sym (ap (tight_in done below) deps)
tight_put (Err e) done below old new d entry fits was is at deps tight = tt

-- ---- at no height

no_place : (heights : Node → Option ℕ) (h : ℕ) → ((n : Node) → is_height h (heights n) ≡ false) → (nodes : List Node) → place_of_height heights h nodes ≡ None
no_place heights h none [] = refl
no_place heights h none (n ∷ nodes) =
    ap (λ b. cond b (Some 0) (option_map suc (place_of_height heights h nodes))) (none n) ∙ ap (option_map suc) (no_place heights h none nodes)

not_low : (k : ℕ) → 0 < k → nat_eq k 0 ≡ false
not_low k low = by (nat_eq k 0) refl
  where
    by : (b : Bool) → nat_eq k 0 ≡ b → b ≡ false
    by true e = let zero_is : k ≡ 0 = (Decides-eqb k 0).0 e in absurd (omega (arith, low, zero_is))
    by false e = refl

-- no node that is done is at height 0
pub none_at_zero : (g : Graph) (done : Entries) → AreFormedDone g done → (deps : List FactDep) → tight_in done 0 deps ≡ None
none_at_zero g done formed deps = no_place (heights_of done []) 0 (λ n. at n (done_in done n) refl) (map (λ (d : FactDep). d.node) deps)
  where
    at : (n : Node) (o : Option Done) → done_in done n ≡ o → is_height 0 (heights_of done [] n) ≡ false
    at n None e = sym (at_height_of (done_in done n) 0) ∙ ap (λ o. is_at o 0) e
    at n (Some d) e = sym (at_height_of (done_in done n) 0) ∙ ap (λ o. is_at o 0) e ∙ not_low d.height (formed.each n d e).low
