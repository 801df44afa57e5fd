-- A record that is checked: what it gives is formed, and its node's result, and its dep that is just one lower is a need that can be gone on from.
use Rattle.std.proofs.Common.{◌≡◌, ℕ, zero, suc, ◌≤◌, ◌<◌, ◌⊎◌, List, [], ◌∷◌, inl, inr, sym, ap, ◌∙◌, subst, refl, arith, map, slice_get, is_some}
use Rattle.std.proofs.lemmas.Option.{slice_get-map}
use Rattle.std.specs.Prelude.{Option, Some, None, option_map}
use Rattle.object_values.specs.declared.facts.FactDep.{FactDep}
use Rattle.object_values.specs.declared.nodes.Node.{Node}
use Rattle.object_values.specs.declared.records.Dep.{Dep}
use Rattle.object_values.specs.declared.records.NodeRecord.{NodeRecord}
use Rattle.object_values.specs.declared.views.View.{View}
use Rattle.meaning_texts.specs.Limits.{height_limit}
use Rattle.meaning_texts.specs.Lists.{IsIn}
use Rattle.meaning_texts.proofs.Lemmas.{same_some, from_map, in_all}
use Rattle.meaning_graph.specs.Graphs.{Graph}
use Rattle.meaning_tasks.specs.Nodes.{Fits, reached_type}
use Rattle.meaning_tasks.specs.Needs.{Needs, nodes_of}
use Rattle.meaning_derive.specs.Derive.{Sources, derive, HasHeight}
use Rattle.meaning_derive.proofs.Lemmas.{nothing_at_zero, sources_are_there}
use Rattle.meaning_true.specs.Facts.{needs_in}
use Rattle.meaning_true.specs.Knowing.{IsChecked, IsTight}
use Rattle.meaning_true.specs.Numbered.{Contents, dep_by, kept_by}
use Rattle.meaning_true.proofs.Lemmas.{of_dep}
use Rattle.derive_walk.specs.CheckedRecords.{HasChecked, IsCheckedRecord, node_at, tight_node}
use Rattle.derive_walk.specs.declared.done.Done.{Done}
use Rattle.derive_walk.specs.Calls.{GivenOutcomes}
use Rattle.derive_walk.specs.Keeping.{Keeping, IsReadable}
use Rattle.derive_walk.specs.Paths.{IsNextByRecord}
use Rattle.derive_walk.specs.Settings.{world_by}
use Rattle.derive_walk.specs.Walks.{IsDone, IsFormedDone}
use Rattle.derive_walk.specs.Worlds.{World, IsWorld, KnowsIn, seen_in, IsNeedIn}
use Rattle.derive_walk.proofs.CurrentLemmas.{none_is, is_none_so}
use Rattle.derive_walk.proofs.LeastHeights.{one_height}

module _ (w : World) (n : Node) (d : Done) (by : HasChecked w n d) where
  pub checked_is : IsChecked w.records n
  checked_is = record { kept = by.kept; is = by.is; checked = by.checked }

  -- what it gives is formed, whatever is kept
  pub checked_is_formed : IsWorld w → IsFormedDone w.graph n d
  checked_is_formed is =
      let readable : IsReadable w.graph n by.kept = is.readable n by.kept by.is in
      let value : d.view.value ≡ by.kept.fact.value = ap (λ (v : View). v.value) by.view in
      let status : d.view.status ≡ by.kept.status = ap (λ (v : View). v.status) by.view in
      record {
        result = record {
          result = record {
            fits = subst (Fits w.graph) readable.is readable.fits.node;
            valued = (
              λ none. status ∙ readable.valued.0 (is_none_so by.kept.fact.value (sym value ∙ none)),
              λ abort. value ∙ none_is by.kept.fact.value (readable.valued.1 (sym status ∙ abort)),
            );
            kind = λ t kind v typed named e. readable.fits.kind t kind v (ap (reached_type w.graph) readable.is ∙ typed) named (sym value ∙ e);
          };
          short = λ v e. readable.short v (sym value ∙ e);
        };
        low = subst (λ h. 0 < h) (sym by.height) (omega (arith, readable.least));
        high = subst (λ h. h ≤ height_limit) (sym by.height) readable.most;
      }

  -- it is the node's result
  pub checked_is_done : KnowsIn w → IsDone w n d
  checked_is_done knows =
      let each = knows.each n by.kept by.is in
      let holds = knows.holds n by.kept by.is by.checked in
      record {
        fits = subst (Fits w.graph) each.0 each.1.fits;
        high = subst (λ h. h ≤ height_limit) (sym by.height) holds.high;
        is = ap (λ h. derive w.graph w.sources w.outcomes h n) by.height ∙ ap (derive w.graph w.sources w.outcomes by.kept.height) (sym each.0) ∙ holds.is ∙ ap Some (sym by.view);
        has = subst (HasHeight w.graph w.sources w.outcomes n) (sym by.height) (subst (λ z. HasHeight w.graph w.sources w.outcomes z by.kept.height) each.0 holds.has);
      }

-- ---- the dep at a place

slice_in : {A : Type 0} (xs : List A) (i : ℕ) (x : A) → slice_get xs i ≡ Some x → IsIn x xs
slice_in [] zero x e = cc
slice_in [] (suc i) x e = cc
slice_in (y ∷ xs) zero x e = inl (same_some (sym e))
slice_in (y ∷ xs) (suc i) x e = inr (slice_in xs i x e)

node_at_in : (nodes : List Node) (place : Option ℕ) (m : Node) → node_at nodes place ≡ Some m → IsIn m nodes
node_at_in nodes None m e = cc
node_at_in nodes (Some place) m e = slice_in nodes place m e

-- ---- as it is stored

nodes_by : (contents : Contents) (deps : List Dep) → map (λ (d : Dep). d.node) deps ≡ map (λ (d : FactDep). d.node) (map (dep_by contents) deps)
nodes_by contents [] = refl
nodes_by contents (d ∷ deps) = ap (λ l. d.node ∷ l) (nodes_by contents deps)

pub next_stored : (keeping : Keeping) (g : Graph) (s : Sources) (given : GivenOutcomes) (n : Node) (r : NodeRecord) → IsCheckedRecord keeping n r
    → (next : Option Node) → next ≡ node_at (map (λ (d : Dep). d.node) r.deps) r.present.tight → IsNextByRecord (world_by keeping g s given) n next
next_stored keeping g s given n r so next told = record {
  checked = record {
    kept = kept_by keeping.contents keeping.epoch r;
    is = so.is.is;
    checked = so.checked;
  };
  is = told ∙ ap (λ l. node_at l r.present.tight) (nodes_by keeping.contents r.deps);
}

-- ---- the need that it tells

-- it fits, whatever is kept
pub tight_fits : (w : World) → IsWorld w → (n : Node) (c : IsChecked w.records n) (m : Node) → tight_node c.kept ≡ Some m → Fits w.graph m
tight_fits w is n c m e =
    let d = from_map (λ (x : FactDep). x.node) m c.kept.fact.deps (node_at_in (map (λ (x : FactDep). x.node) c.kept.fact.deps) c.kept.tight m e) in
    let readable : IsReadable w.graph n c.kept = is.readable n c.kept c.is in
    subst (Fits w.graph) (sym d.2) (in_all (λ (x : FactDep). Fits w.graph x.node) c.kept.fact.deps readable.fits.deps d.0 d.1)

-- a source is 1 high
pub source_height : (w : World) (m : Node) (h : ℕ) → m.steps ≡ [] → HasHeight w.graph w.sources w.outcomes m h → h ≡ 1
source_height w m h source has = one_height w.graph w.sources w.outcomes m h 1 has (record {
  there = ap is_some ((sources_are_there w.graph w.sources m source).1 w.outcomes 0);
  least = λ k less. at_zero k (omega (arith, less));
})
  where
    none_so : (o : Option View) → ((v : View) → o ≡ Some v → ⊥) → o ≡ None
    none_so None never = refl
    none_so (Some v) never = absurd (never v refl)

    at_zero : (k : ℕ) → k ≡ 0 → derive w.graph w.sources w.outcomes k m ≡ None
    at_zero k e = ap (λ z. derive w.graph w.sources w.outcomes z m) e ∙ none_so (derive w.graph w.sources w.outcomes 0 m) (λ v q. nothing_at_zero w.graph w.sources w.outcomes m v q)

-- A need that is told by the record: at the height, and a source or checked itself.
pub record IsToldNeed (w : World) (n : Node) (next : Option Node) (h : ℕ) : Type 0 where
  pub node : Node
  pub is : next ≡ Some node
  pub need : IsNeedIn w n node
  pub has : HasHeight w.graph w.sources w.outcomes node h
  pub on : (node.steps ≡ []) ⊎ IsChecked w.records node

module _ (w : World) (knows : KnowsIn w) (n : Node) (c : IsChecked w.records n) where
  of_node : c.kept.fact.node ≡ n
  of_node = (knows.each n c.kept c.is).0

  pub checked_has : HasHeight w.graph w.sources w.outcomes n c.kept.height
  checked_has = subst (λ z. HasHeight w.graph w.sources w.outcomes z c.kept.height) of_node (knows.holds n c.kept c.is c.checked).has

  pub checked_high : c.kept.height ≤ height_limit
  checked_high = (knows.holds n c.kept c.is c.checked).high

  -- each dep is a need
  dep_need : (d : FactDep) → IsIn d c.kept.fact.deps → IsNeedIn w n d.node
  dep_need d i = record {
    needs = nodes_of (needs_in c.kept.fact.deps);
    listed = subst (λ z. Needs w.graph z (seen_in w) (nodes_of (needs_in c.kept.fact.deps))) of_node (knows.holds n c.kept c.is c.checked).needs;
    one = of_dep c.kept.fact.deps d i;
  }

  pub told_need : (h : ℕ) → 0 < h → c.kept.height ≡ suc h → IsToldNeed w n (tight_node c.kept) h
  told_need h low high = elim (knows.tight n c.kept c.is c.checked) [
    | inl one ↦ absurd (omega (arith, one, high, low))
    | inr at ↦ told at.0 at.1 at.2
  ]
    where
      told : (place : ℕ) → c.kept.tight ≡ Some place → IsTight w.graph w.sources w.outcomes c.kept place → IsToldNeed w n (tight_node c.kept) h
      told place is tight =
          let nodes = map (λ (x : FactDep). x.node) c.kept.fact.deps in
          let there : IsIn tight.dep c.kept.fact.deps = slice_in c.kept.fact.deps place tight.dep tight.one in
          let same : tight.height ≡ h = omega (arith, tight.next, high) in
          record {
            node = tight.dep.node;
            is = ap (node_at nodes) is ∙ slice_get-map (λ (x : FactDep). x.node) c.kept.fact.deps place ∙ ap (option_map (λ (x : FactDep). x.node)) tight.one;
            need = dep_need tight.dep there;
            has = subst (HasHeight w.graph w.sources w.outcomes tight.dep.node) same tight.has;
            on = knows.closed n c.kept c.is c.checked tight.dep there;
          }
