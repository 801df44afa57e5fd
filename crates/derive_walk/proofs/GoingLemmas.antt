-- What a walk has come to once the last node of its path is done, or waits.
use Rattle.std.proofs.Common.{◌≡◌, ℕ, List, [], ◌∷◌, ◌++◌, inl, inr, sym, ap, ◌∙◌, subst, refl}
use Rattle.std.specs.Prelude.{IsSome, option_map}
use Rattle.object_values.specs.declared.nodes.Node.{Node}
use Rattle.object_values.specs.declared.calls.Call.{Call}
use Rattle.meaning_texts.proofs.Lemmas.{some_or_none, some_is_none}
use Rattle.meaning_tasks.specs.Needs.{Grows}
use Rattle.derive_walk.specs.declared.done.Done.{Done}
use Rattle.object_values.specs.declared.facts.Fresh.{Fresh}
use Rattle.object_values.specs.declared.facts.RenewedNode.{RenewedNode}
use Rattle.derive_walk.specs.Tables.{Entries, Waits, done_in, results_of}
use Rattle.derive_walk.specs.declared.walk.Walk.{Walk}
use Rattle.derive_walk.specs.Paths.{IsLast}
use Rattle.derive_walk.specs.States.{GoesOnFrom, OnlyLooks, Visited}
use Rattle.derive_walk.specs.Worlds.{World}
use Rattle.derive_walk.proofs.Added.{KeepCalls}
use Rattle.derive_walk.proofs.ClosingLemmas.{last_is_new}
use Rattle.derive_walk.proofs.Tables.{push_keeps, done_there, waiting_there, done_keeps, waiting_keeps, done_apart, waiting_apart}

-- as it is
pub stays : (walk : Walk) → GoesOnFrom walk walk
stays walk = record { root = refl; wanted = λ c i. i; keeps = λ m k e. e; looked = λ m place e. e; results = λ m view e. e }

-- with more that was looked at
pub goes_looking : (old new : Walk) → OnlyLooks old new → GoesOnFrom old new
goes_looking old new only = subst (GoesOnFrom old) (sym only.is)
    (record { root = refl; wanted = λ c i. i; keeps = λ m k e. e; looked = only.stays; results = λ m view e. e })

-- results stay where one comes after them
results_grow : (done : Entries) (n : Node) (d : Done) → Grows (results_of done) (results_of (done ++ (n, d) ∷ []))
results_grow done n d m view e = elim (some_or_none (done_in done m)) [
  | inl x ↦ ap (option_map (λ (d : Done). d.view)) (push_keeps done n d m x.0 x.1) ∙ sym (ap (option_map (λ (d : Done). d.view)) x.1) ∙ e
  | inr none ↦ some_is_none (results_of done m) view e (ap (option_map (λ (d : Done). d.view)) none)
]

module _ (w : World) (walk : Walk) (n : Node) (last : IsLast w walk n) where
  -- ---- done

  module _ (d : Done) (fresh : List Fresh) (renewed : List RenewedNode) (next : Walk)
      (same : next ≡ record walk { done = walk.done ++ (n, d) ∷ []; fresh = fresh; renewed = renewed }) where
    pub goes_with_done : GoesOnFrom walk next
    goes_with_done = subst (GoesOnFrom walk) (sym same) (record {
      root = refl;
      wanted = λ c i. i;
      keeps = done_keeps walk.done walk.waiting n (last_is_new w walk n last) d;
      looked = λ m place e. e;
      results = results_grow walk.done n d;
    })

    pub visited_with_done : Visited w walk next n
    visited_with_done = subst (λ z. Visited w walk z n) (sym same) (record {
      path = refl;
      there = subst IsSome (sym (done_there walk.done walk.waiting n (last_is_new w walk n last) d)) refl;
      apart = λ m i other. done_apart walk.done walk.waiting n (last_is_new w walk n last) d m (last.path.apart m i) other;
    })

  -- ---- waiting

  module _ (h : ℕ) (waiting : Waits) (same : waiting ≡ walk.waiting ++ (n, h) ∷ []) (wanted : List Call) where
    pub goes_with_waiting : KeepCalls walk.wanted wanted → GoesOnFrom walk (record walk { wanted = wanted; waiting = waiting })
    goes_with_waiting more = subst (λ z. GoesOnFrom walk (record walk { wanted = wanted; waiting = z })) (sym same) (record {
      root = refl;
      wanted = more;
      keeps = waiting_keeps walk.done walk.waiting n (last_is_new w walk n last) h;
      looked = λ m place e. e;
      results = λ m view e. e;
    })

    pub visited_with_waiting : Visited w walk (record walk { wanted = wanted; waiting = waiting }) n
    visited_with_waiting = subst (λ z. Visited w walk (record walk { wanted = wanted; waiting = z }) n) (sym same) (record {
      path = refl;
      there = subst IsSome (sym (waiting_there walk.done walk.waiting n (last_is_new w walk n last) h)) refl;
      apart = λ m i other. waiting_apart walk.done walk.waiting n (last_is_new w walk n last) h m (last.path.apart m i) other;
    })
