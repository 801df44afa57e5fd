-- What is noted of a node that is closed: it is over the present needs, and no record of the node was.
use Rattle.std.proofs.Common.{◌≡◌, ◌<◌, ℕ, ◌+◌, List, [], ◌∷◌, ◌++◌, inl, inr, sym, ap, ◌∙◌, subst, refl, arith}
use Rattle.std.specs.Prelude.{◌≢◌, Some, None, IsSome, option_map}
use Rattle.object_values.specs.declared.nodes.Node.{Node}
use Rattle.object_values.specs.declared.views.View.{View}
use Rattle.object_values.specs.declared.facts.Fresh.{Fresh}
use Rattle.meaning_texts.specs.Limits.{height_limit}
use Rattle.meaning_graph.specs.Graphs.{Graph}
use Rattle.meaning_tasks.specs.Needs.{Needs, nodes_of}
use Rattle.meaning_tasks.proofs.Lemmas.{one_list_of_needs}
use Rattle.meaning_true.specs.Closed.{IsClosedBy}
use Rattle.meaning_true.specs.Facts.{needs_in}
use Rattle.meaning_true.specs.Knowing.{KeptRecord, IsPresent}
use Rattle.node_tasks.specs.declared.needed.Needed.{Needed}
use Rattle.node_tasks.specs.declared.settling.Settled.{Settled as Whole}
use Rattle.derive_walk.specs.declared.done.Done.{Done}
use Rattle.derive_walk.specs.declared.walk.Walk.{Walk}
use Rattle.derive_walk.specs.Noting.{IsNoteOf}
use Rattle.derive_walk.specs.Tables.{Entries, done_in, results_of, top_of}
use Rattle.derive_walk.specs.Told.{IsFreshIn, IsPresentIn}
use Rattle.derive_walk.specs.Paths.{IsClosing}
use Rattle.derive_walk.specs.States.{heights_in, HoldsIn}
use Rattle.derive_walk.specs.Worlds.{World, seen_in}
use Rattle.derive_walk.proofs.ClosingLemmas.{need_done, all_visited}
use Rattle.derive_walk.proofs.CurrentLemmas.{not_current_lacks}
use Rattle.derive_walk.proofs.NeedLemmas.{table_grows, carried}
use Rattle.derive_walk.proofs.Tables.{push_new}

-- what is noted is of the node's entry
pub note_in : (w : World) (done : Entries) (n : Node) (whole : Whole) (height : ℕ) (note : Fresh) → IsNoteOf w.graph w.outcomes done n whole height note
    → (d : Done) → d.view ≡ whole.view → d.height ≡ height → done_in done n ≡ None → IsFreshIn w (done ++ (n, d) ∷ []) note
note_in w done n whole height note noted d view high none = record {
  truth = noted.truth;
  fits = noted.fits;
  notable = noted.notable;
  entry = d;
  is = subst (λ z. done_in (done ++ (n, d) ∷ []) z ≡ Some d) (sym noted.node) (push_new done n d none);
  value = noted.value ∙ sym (ap (λ (v : View). v.value) view);
  comes = record {
    status = noted.status ∙ sym (ap (λ (v : View). v.status) view);
    messages = noted.messages ∙ sym (ap (λ (v : View). v.messages) view);
    height = noted.height ∙ sym high;
  };
}

module _ (w : World) (walk : Walk) (holds : HoldsIn w walk) (n : Node) {needed : Needed} (height : ℕ) (closing : IsClosing w walk n needed height) where
  listed_now : Needs w.graph n (seen_in w) closing.needs
  listed_now = (carried w walk holds n closing.needs (all_visited w walk holds n height closing)).needs

  pub note_present : (note : Fresh) → note.fact.node ≡ n → IsClosedBy w.graph w.outcomes (results_of walk.done) note.fact
      → IsPresent w.graph w.sources w.outcomes note.fact
  note_present note node closed =
      let here : Needs w.graph note.fact.node (results_of walk.done) (nodes_of (needs_in note.fact.deps)) =
      record { names = closed.names; reached = closed.reached; listed = ap nodes_of closed.needs } in
      let same : nodes_of (needs_in note.fact.deps) ≡ closing.needs =
      one_list_of_needs w.graph n (results_of walk.done) (nodes_of (needs_in note.fact.deps)) closing.needs
      (subst (λ z. Needs w.graph z (results_of walk.done) (nodes_of (needs_in note.fact.deps))) node here) closing.listed in
      record {
        needs = subst (λ z. Needs w.graph z (seen_in w) (nodes_of (needs_in note.fact.deps))) (sym node) (subst (λ l. Needs w.graph n (seen_in w) l) (sym same) listed_now);
        seen = λ d i. let s = closed.each d i in
            ap (option_map (λ (v : View). v.value)) (table_grows w walk holds d.node s.view s.is) ∙ ap Some s.value;
      }

  pub none_present : n.steps ≢ [] → (k : KeptRecord) → w.records n ≡ Some k → ¬ IsPresentIn w k
  none_present stepped k here = elim closing.anew [
    | inl source ↦ absurd (stepped source)
    | inr none ↦
        not_current_lacks w walk holds n k here (none.1 k here) closing.needs listed_now
        (λ m i. let d = need_done w walk holds n height closing m i in subst IsSome (sym d.1) refl) (omega (arith, closing.above, closing.high))
  ]

  pub note_anew : n.steps ≢ [] → (note : Fresh) → note.fact.node ≡ n → (k : KeptRecord) → w.records note.fact.node ≡ Some k → ¬ IsPresentIn w k
  note_anew stepped note node k kept = none_present stepped k (subst (λ z. w.records z ≡ Some k) node kept)
