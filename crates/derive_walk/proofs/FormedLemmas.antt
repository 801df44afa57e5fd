-- A walk that is formed: its results are a map of results, and what is added to it is formed too.
use Rattle.std.proofs.Common.{◌≡◌, ◌≤◌, ℕ, List, [], ◌∷◌, ◌++◌, inl, inr, sym, ap, ◌∙◌, subst, refl}
use Rattle.std.specs.Prelude.{◌≢◌, Option, Some, None, IsSome, option_map}
use Rattle.object_values.specs.declared.nodes.Node.{Node}
use Rattle.object_values.specs.declared.views.View.{View}
use Rattle.object_values.specs.declared.calls.Call.{Call}
use Rattle.object_values.specs.declared.calls.Outcome.{Outcome}
use Rattle.meaning_texts.specs.Limits.{height_limit}
use Rattle.meaning_texts.proofs.Lemmas.{some_or_none, some_is_none, same_some}
use Rattle.meaning_graph.specs.Graphs.{Graph}
use Rattle.meaning_calls.specs.Jobs.{IsWellFormed}
use Rattle.meaning_calls.specs.Outcomes.{OutcomeFits}
use Rattle.meaning_tasks.specs.Nodes.{Fits}
use Rattle.meaning_derive.specs.Chains.{AreDifferent, IsNeed}
use Rattle.meaning_derive.specs.CheckedLaws.{HasShortValues, HasFittingElements, IsShortResultOf}
use Rattle.meaning_derive.specs.Derive.{Outcomes, outcome_for}
use Rattle.meaning_derive.specs.Premises.{IsMapOverFitting}
use Rattle.meaning_derive.proofs.Lemmas.{needs_fit, listed_fit, formed_over, settles_well}
use Rattle.derive_walk.specs.declared.done.Done.{Done}
use Rattle.object_values.specs.declared.facts.Fresh.{Fresh}
use Rattle.object_values.specs.declared.facts.RenewedNode.{RenewedNode}
use Rattle.derive_walk.specs.Tables.{Entries, Waits, done_in, done_nodes, results_of}
use Rattle.derive_walk.specs.Calls.{put_in}
use Rattle.derive_walk.specs.Places.{place_in}
use Rattle.derive_walk.specs.declared.walk.Walk.{Walk}
use Rattle.derive_walk.specs.Settled.{HasSettled, NodeHasStopped}
use Rattle.derive_walk.specs.States.{heights_in, IsFormedWait, IsFormedIn}
use Rattle.derive_walk.specs.Walks.{IsFormedDone, AreFormedDone, AreFormedCalls}
use Rattle.derive_walk.specs.Told.{AreTold}
use Rattle.derive_walk.specs.Worlds.{World, IsWorld}
use Rattle.derive_walk.proofs.CallLemmas.{from_put, put_once}
use Rattle.derive_walk.proofs.Lookups.{lookups_done}
use Rattle.derive_walk.proofs.Tables.{push_from, different_push, nodes_push, not_among, not_done, done_or_waiting}

-- ---- a table

module _ (g : Graph) (done : Entries) (are : AreFormedDone g done) where
  entry_of : (n : Node) (view : View) → results_of done n ≡ Some view → (d : Done) × (done_in done n ≡ Some d) × (d.view ≡ view)
  entry_of n view e = elim (some_or_none (done_in done n)) [
    | inl d ↦ (d.0, d.1, same_some (sym (ap (option_map (λ (d : Done). d.view)) d.1) ∙ e))
    | inr none ↦ some_is_none (results_of done n) view e (ap (option_map (λ (d : Done). d.view)) none)
  ]

  short_result : (n : Node) (view : View) → results_of done n ≡ Some view → IsShortResultOf g n view
  short_result n view e = let r = entry_of n view e in subst (λ v. IsShortResultOf g n v) r.2 (are.each n r.0 r.1).result

  -- its results are a map, and short
  pub formed_map : IsMapOverFitting g (results_of done)
  formed_map n view f e = (short_result n view e).result

  pub formed_short : HasShortValues g (results_of done)
  formed_short n view v f e is = (short_result n view e).short v is

-- one node more
pub formed_push : (g : Graph) (done : Entries) → AreFormedDone g done → (n : Node) → done_in done n ≡ None → (d : Done) → IsFormedDone g n d
    → AreFormedDone g (done ++ (n, d) ∷ [])
formed_push g done are n none d is = record {
  each = λ m x e. elim (push_from done n d m x e) [
    | inl q ↦ are.each m x q
    | inr q ↦ subst (λ z. IsFormedDone g z x) (sym q.0) (subst (λ z. IsFormedDone g n z) q.1 is)
  ];
  different = subst AreDifferent (sym (nodes_push done n d)) (different_push (done_nodes done) n are.different (not_among done n none));
}

-- one call more
pub formed_put : (outcomes : Outcomes) (wanted : List Call) → AreFormedCalls outcomes wanted → (call : Call) → IsWellFormed call → outcomes call ≡ None
    → AreFormedCalls outcomes (put_in call wanted)
formed_put outcomes wanted are call formed outside = record {
  each = λ c i. elim (from_put call c wanted i) [ inl j ↦ are.each c j | inr e ↦ subst IsWellFormed (sym e) formed ];
  outside = λ c i. elim (from_put call c wanted i) [ inl j ↦ are.outside c j | inr e ↦ subst (λ z. outcomes z ≡ None) (sym e) outside ];
  once = put_once call wanted are.once;
}

-- ---- a walk

-- the path is no part of it
pub formed_at : (w : World) (walk : Walk) (path : List Node) → IsFormedIn w walk → IsFormedIn w (record walk { path = path })
formed_at w walk path f = record { root = f.root; done = f.done; told = f.told; looked = f.looked; waiting = f.waiting; wanted = f.wanted }

-- nor are the nodes for which an outcome was looked for
pub formed_taking : (w : World) (walk : Walk) (taken : List Node) → IsFormedIn w walk → IsFormedIn w (record walk { taken = taken })
formed_taking w walk taken f = record { root = f.root; done = f.done; told = f.told; looked = f.looked; waiting = f.waiting; wanted = f.wanted }

module _ (w : World) (walk : Walk) (formed : IsFormedIn w walk) where
  pub low_enough : (m : Node) (k : ℕ) → heights_in walk m ≡ Some k → k ≤ height_limit
  low_enough m k e = elim (done_or_waiting walk.done walk.waiting m k e) [
    | inl d ↦ subst (λ z. z ≤ height_limit) d.2 (formed.done.each m d.0 d.1).high
    | inr q ↦ (formed.waiting m k q.1).high
  ]

  -- ---- one entry more

  module _ (n : Node) (new : heights_in walk n ≡ None) where
    pub formed_with_done : (d : Done) → IsFormedDone w.graph n d → (fresh : List Fresh) (renewed : List RenewedNode)
        → AreTold w (walk.done ++ (n, d) ∷ []) fresh renewed → (n.steps ≢ [] → IsSome (place_in walk.looked n)) → (next : Walk) → next ≡ record walk { done = walk.done ++ (n, d) ∷ []; fresh = fresh; renewed = renewed }
        → IsFormedIn w next
    formed_with_done d is fresh renewed told there next same = subst (IsFormedIn w) (sym same) (record {
      root = formed.root;
      told = told;
      looked = lookups_done w walk.done walk.looked formed.looked n d there;
      done = formed_push w.graph walk.done formed.done n (not_done walk.done walk.waiting n new) d is;
      waiting = formed.waiting;
      wanted = formed.wanted;
    })

  pub formed_with_waiting : (n : Node) (h : ℕ) → IsFormedWait w.graph n h → (waiting : Waits) → waiting ≡ walk.waiting ++ (n, h) ∷ []
      → IsFormedIn w (record walk { waiting = waiting })
  formed_with_waiting n h is waiting same = subst (λ z. IsFormedIn w (record walk { waiting = z })) (sym same) (record {
    root = formed.root;
    done = formed.done;
    told = formed.told;
    looked = formed.looked;
    waiting = λ m k e. elim (push_from walk.waiting n h m k e) [
      | inl q ↦ formed.waiting m k q
      | inr q ↦ subst (λ z. IsFormedWait w.graph z k) (sym q.0) (subst (λ z. IsFormedWait w.graph n z) q.1 is)
    ];
    wanted = formed.wanted;
  })

  pub formed_with_wanted : (call : Call) → IsWellFormed call → w.outcomes call ≡ None → (wanted : List Call) → wanted ≡ put_in call walk.wanted
      → IsFormedIn w (record walk { wanted = wanted })
  formed_with_wanted call is outside wanted same = subst (λ z. IsFormedIn w (record walk { wanted = z })) (sym same) (record {
    root = formed.root;
    done = formed.done;
    told = formed.told;
    looked = formed.looked;
    waiting = formed.waiting;
    wanted = formed_put w.outcomes walk.wanted formed.wanted call is outside;
  })

  -- ---- what comes of its results

  module _ (is : IsWorld w) where
    -- each need of a node that fits, fits
    pub need_is_fit : (n m : Node) → Fits w.graph n → IsNeed w.graph (results_of walk.done) n m → Fits w.graph m
    need_is_fit n m fits need =
        needs_fit w.graph is.spellable is.checked (results_of walk.done) (formed_map w.graph walk.done formed.done) n fits need.needs need.listed m need.one

    pub elements_fit : HasFittingElements w.graph (results_of walk.done)
    elements_fit = listed_fit w.graph is.checked (results_of walk.done) (formed_map w.graph walk.done formed.done)

    module _ (n : Node) (fits : Fits w.graph n) where
      pub settles_formed : (view : View) → HasSettled w n (results_of walk.done) view → IsShortResultOf w.graph n view
      settles_formed view so =
          settles_well w.graph is.spellable is.checked w.sources is.sources (results_of walk.done) (formed_map w.graph walk.done formed.done)
          (formed_short w.graph walk.done formed.done) n fits so.outcome
          (record { call = so.call; called = so.called; fits = λ o e. given_fits so.call so.outcome so.given o e })
          view so.settles
        where
          given_fits : (call : Option Call) (outcome : Option Outcome) → outcome_for w.outcomes call ≡ Some outcome → (o : Outcome) → outcome ≡ Some o
              → (c : Call) × (call ≡ Some c) × OutcomeFits c o
          given_fits None outcome given o e = let same : None ≡ outcome = same_some given in some_is_none outcome o e (sym same)
          given_fits (Some c) outcome given o e = by_outcome (w.outcomes c) refl given
            where
              by_outcome : (r : Option Outcome) → w.outcomes c ≡ r → option_map (λ z. Some z) r ≡ Some outcome
                  → (d : Call) × (Some c ≡ Some d) × OutcomeFits d o
              by_outcome None p q = cc
              by_outcome (Some z) p q = let same : Some z ≡ outcome = same_some q in (c, refl, is.fit c o (p ∙ same ∙ e))

      pub stops_formed : (call : Call) → NodeHasStopped w n (results_of walk.done) call → IsWellFormed call
      stops_formed call so =
          formed_over w.graph is.spellable is.checked (results_of walk.done) (formed_map w.graph walk.done formed.done)
          (formed_short w.graph walk.done formed.done) n fits call so.called
