-- The dep of a note that is just one lower.
use Rattle.std.proofs.Common.{◌≡◌, ◌⊎◌, ℕ, suc, Bool, true, false, cond, List, [], ◌∷◌, inl, inr, sym, ap, ◌∙◌, refl, map}
use Rattle.std.specs.Prelude.{Option, Some, None, option_map}
use Rattle.std.proofs.lemmas.Bool.Decides.{Decides-eqb}
use Rattle.object_values.specs.declared.nodes.Node.{Node}
use Rattle.object_values.specs.declared.facts.FactDep.{FactDep}
use Rattle.meaning_texts.specs.Lists.{IsIn}
use Rattle.meaning_graph.specs.Graphs.{Graph}
use Rattle.meaning_tasks.specs.Needs.{Needs}
use Rattle.node_tasks.specs.declared.needed.Needed.{Needed}
use Rattle.node_tasks.specs.Needed.{IsNeeded}
use Rattle.derive_walk.specs.Tables.{Entries, results_of, heights_of, is_height, top_of}
use Rattle.derive_walk.specs.Noting.{IsTightAt, all_deps, tight_in}
use Rattle.derive_walk.proofs.TopLemmas.{one_at_top}
use Rattle.derive_walk.proofs.NotedDeps.{dep_of_need}

of_this : (o : Option ℕ) (h : ℕ) → is_height h o ≡ true → o ≡ Some h
of_this None h e = cc
of_this (Some k) h e = ap Some ((Decides-eqb k h).0 e)

-- where one of them has the height, the first is found
pub tight_there : (done : Entries) (below : ℕ) (deps : List FactDep) (n : Node) → IsIn n (map (λ (d : FactDep). d.node) deps)
    → heights_of done [] n ≡ Some below → IsTightAt done below deps (tight_in done below deps)
tight_there done below [] n i e = absurd i
tight_there done below (x ∷ deps) n i e = by_test (is_height below (heights_of done [] x.node)) refl (λ j. tight_there done below deps n j e) i
  where
    by_test : (b : Bool) → is_height below (heights_of done [] x.node) ≡ b
        → (IsIn n (map (λ (d : FactDep). d.node) deps) → IsTightAt done below deps (tight_in done below deps)) → IsIn n (map (λ (d : FactDep). d.node) (x ∷ deps))
        → IsTightAt done below (x ∷ deps) (cond b (Some 0) (option_map suc (tight_in done below deps)))
    by_test true t more i = record { place = 0; is = refl; dep = x; one = refl; height = of_this (heights_of done [] x.node) below t }
    by_test false t more (inl q) = let yes : is_height below (heights_of done [] x.node) ≡ true = ap (λ m. is_height below (heights_of done [] m)) (sym q) ∙ ap (is_height below) e ∙ (Decides-eqb below below).1 refl in cc
    by_test false t more (inr j) = let r = more j in record { place = suc r.place; is = ap (option_map suc) r.is; dep = r.dep; one = r.one; height = r.height }

-- One of the deps of a note is as high as the highest need, if that isn't at 0.
pub next_lower : (g : Graph) (n : Node) (done : Entries) (needed : Needed) → IsNeeded g n (results_of done) needed → (needs : List Node) → Needs g n (results_of done) needs
    → (top_of (heights_of done []) needs ≡ 0)
    ⊎ IsTightAt done (top_of (heights_of done []) needs) (all_deps done needed) (tight_in done (top_of (heights_of done []) needs) (all_deps done needed))
next_lower g n done needed found needs are = elim (one_at_top (heights_of done []) needs) [
  | inl none ↦ inl none
  | inr m ↦ inr (tight_there done (top_of (heights_of done []) needs) (all_deps done needed) m.0 (dep_of_need g n done needed found needs are m.0 m.1) m.2)
]
