-- What is told of a dep that is just one lower, over a table that is done.
use Rattle.std.proofs.Common.{◌≡◌, ◌+◌, ◌⊎◌, ℕ, suc, cond, List, [], ◌∷◌, inl, inr, sym, ap, ◌∙◌, subst, refl, arith, map}
use Rattle.std.specs.Prelude.{Option, Some, option_map}
use Rattle.object_values.specs.declared.nodes.Node.{Node}
use Rattle.object_values.specs.declared.facts.FactDep.{FactDep}
use Rattle.object_values.specs.declared.facts.Fresh.{Fresh}
use Rattle.meaning_derive.specs.Derive.{HasHeight}
use Rattle.meaning_true.specs.Knowing.{KeptRecord, IsTight, TellsTight}
use Rattle.node_tasks.specs.declared.settling.Settled.{Settled as Whole}
use Rattle.derive_walk.specs.declared.done.Done.{Done}
use Rattle.derive_walk.specs.declared.trial.Current.{Current}
use Rattle.derive_walk.specs.Noting.{IsNoteOf, IsTightAt, place_of_height}
use Rattle.derive_walk.specs.Tables.{Entries, done_in, heights_of, is_height, place_of}
use Rattle.derive_walk.specs.Told.{noted_record, renewed_record}
use Rattle.derive_walk.specs.Trials.{IsCurrent, renewed_by, top_of_deps}
use Rattle.derive_walk.specs.Walks.{AreDone}
use Rattle.derive_walk.specs.Worlds.{World}
use Rattle.derive_walk.proofs.Tables.{done_or_waiting}
use Rattle.derive_walk.proofs.TightLemmas.{tight_there}
use Rattle.derive_walk.proofs.TopLemmas.{one_at_top}

-- the first of a height stands at one place
same_place : (heights : Node → Option ℕ) (h : ℕ) (nodes : List Node) → place_of heights h nodes ≡ place_of_height heights h nodes
same_place heights h [] = refl
same_place heights h (n ∷ nodes) = ap (λ o. cond (is_height h (heights n)) (Some 0) (option_map suc o)) (same_place heights h nodes)

-- what has a height without any that wait is done at it
done_at : (done : Entries) (n : Node) (h : ℕ) → heights_of done [] n ≡ Some h → (d : Done) × (done_in done n ≡ Some d) × (d.height ≡ h)
done_at done n h e = elim (done_or_waiting done [] n h e) [ inl d ↦ d | inr q ↦ cc ]

module _ (w : World) (done : Entries) (are : AreDone w done) where
  at_place : (k : KeptRecord) (below : ℕ) → suc below ≡ k.height → (at : IsTightAt done below k.fact.deps k.tight)
      → IsTight w.graph w.sources w.outcomes k at.place
  at_place k below next at =
      let d = done_at done at.dep.node below at.height in
      record {
        dep = at.dep;
        one = at.one;
        height = below;
        has = subst (HasHeight w.graph w.sources w.outcomes at.dep.node) d.2 (are.each at.dep.node d.0 d.1).has;
        next = next;
      }

  tells : (k : KeptRecord) (below : ℕ) → suc below ≡ k.height → (below ≡ 0) ⊎ IsTightAt done below k.fact.deps k.tight
      → TellsTight w.graph w.sources w.outcomes k
  tells k below next (inl none) = inl (omega (arith, next, none))
  tells k below next (inr at) = inr (at.place, at.is, at_place k below next at)

  -- what is noted of a settled node tells it
  pub note_tells : (n : Node) (whole : Whole) (high : ℕ) (note : Fresh) → IsNoteOf w.graph w.outcomes done n whole high note → (below : ℕ) → below + 1 ≡ high
      → TellsTight w.graph w.sources w.outcomes (noted_record note)
  note_tells n whole high note noted below next = tells (noted_record note) below (omega (arith, next, noted.height)) (noted.next below next)

  -- and so does what a current record came to
  pub current_tells : (n : Node) (k : KeptRecord) (c : Current) → IsCurrent done k.fact c
      → TellsTight w.graph w.sources w.outcomes (renewed_record (renewed_by n c).present k)
  current_tells n k c current =
      let top = top_of_deps done k.fact.deps in
      let nodes = map (λ (d : FactDep). d.node) k.fact.deps in
      tells (renewed_record (renewed_by n c).present k) top (sym current.height) (elim (one_at_top (heights_of done []) nodes) [
        | inl none ↦ inl none
        | inr m ↦
            let first = current.tight ∙ same_place (heights_of done []) top nodes in
            inr (subst (IsTightAt done top k.fact.deps) (sym first) (tight_there done top k.fact.deps m.0 m.1 m.2))
      ])
