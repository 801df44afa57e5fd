-- An added entry keeps all others: what holds of a walk holds with one node or one call more.
use Rattle.std.proofs.Common.{◌≡◌, ℕ, List, [], ◌∷◌, ◌++◌, ◌⊎◌, inl, inr, sym, subst, refl}
use Rattle.std.specs.Prelude.{Option, Some, None, IsSome}
use Rattle.object_values.specs.declared.nodes.Node.{Node}
use Rattle.object_values.specs.declared.calls.Call.{Call}
use Rattle.meaning_texts.specs.Lists.{IsIn}
use Rattle.meaning_texts.proofs.Lemmas.{value_of_some}
use Rattle.meaning_derive.specs.Chains.{AreDifferent, IsMet}
use Rattle.meaning_true.specs.Knowing.{IsChecked}
use Rattle.derive_walk.specs.declared.done.Done.{Done}
use Rattle.object_values.specs.declared.facts.Fresh.{Fresh}
use Rattle.object_values.specs.declared.facts.RenewedNode.{RenewedNode}
use Rattle.derive_walk.specs.Tables.{Entries, Waits, done_in, done_nodes}
use Rattle.derive_walk.specs.Calls.{AreOnce, put_in}
use Rattle.derive_walk.proofs.CallLemmas.{put_keeps, from_put}
use Rattle.derive_walk.specs.declared.walk.Walk.{Walk}
use Rattle.derive_walk.specs.States.{heights_in, IsWaiting, HoldsIn}
use Rattle.derive_walk.specs.Walks.{IsDone, AreDone, AreMet}
use Rattle.derive_walk.specs.Told.{AreToldRightly}
use Rattle.derive_walk.specs.Worlds.{World, seen_in, IsNeedIn, StopsAtCall}
use Rattle.derive_walk.proofs.Tables.{push_keeps, push_from, different_push, in_push, nodes_push, not_among, not_done, done_keeps, waiting_keeps}

-- the second has each height of the first
abbrev pub KeepHeights : (Node → Option ℕ) → (Node → Option ℕ) → Type 0
KeepHeights heights more = (m : Node) (k : ℕ) → heights m ≡ Some k → more m ≡ Some k

-- the second has each call of the first
abbrev pub KeepCalls : List Call → List Call → Type 0
KeepCalls wanted others = (call : Call) → IsIn call wanted → IsIn call others

-- what waits goes on to wait
pub waits_on : (w : World) (heights more : Node → Option ℕ) → KeepHeights heights more → (wanted others : List Call) → KeepCalls wanted others → (n : Node) (h : ℕ) → IsWaiting w heights wanted n h → IsWaiting w more others n h
waits_on w heights more keeps wanted others sub n h x = record {
  fits = x.fits;
  high = x.high;
  none = x.none;
  call = λ c runs. sub c (x.call c runs);
  lower = λ m one. let b = x.lower m one in record { below = b.below; is = keeps m b.below b.is; lower = b.lower };
  tight = elim x.tight [
    | inl e ↦ inl e
    | inr b ↦ inr (record { need = b.need; one = b.one; below = b.below; is = keeps b.need b.below b.is; next = b.next })
  ];
}

module _ (w : World) (walk : Walk) (holds : HoldsIn w walk) where
  -- ---- a node that is done

  module _ (n : Node) (new : heights_in walk n ≡ None) (d : Done) (is : IsDone w n d) (needs : IsChecked w.records n ⊎ ((m : Node) → IsNeedIn w n m → IsSome (done_in walk.done m))) (met : IsMet w.graph (seen_in w) walk.root n) where
    still_there : (m : Node) → IsSome (done_in walk.done m) → IsSome (done_in (walk.done ++ (n, d) ∷ []) m)
    still_there m there = let x = value_of_some (done_in walk.done m) there in subst IsSome (sym (push_keeps walk.done n d m x.0 x.1)) refl

    still_needs : (m : Node) → IsChecked w.records m ⊎ ((k : Node) → IsNeedIn w m k → IsSome (done_in walk.done k))
        → IsChecked w.records m ⊎ ((k : Node) → IsNeedIn w m k → IsSome (done_in (walk.done ++ (n, d) ∷ []) k))
    still_needs m (inl checked) = inl checked
    still_needs m (inr each) = inr (λ k one. still_there k (each k one))

    are_done : AreDone w (walk.done ++ (n, d) ∷ [])
    are_done = record {
      each = λ m x e. elim (push_from walk.done n d m x e) [
        | inl q ↦ holds.done.each m x q
        | inr q ↦ subst (λ z. IsDone w z x) (sym q.0) (subst (λ z. IsDone w n z) q.1 is)
      ];
      needs = λ m x e. still_needs m (elim (push_from walk.done n d m x e) [
        | inl q ↦ holds.done.needs m x q
        | inr q ↦ subst (λ z. IsChecked w.records z ⊎ ((k : Node) → IsNeedIn w z k → IsSome (done_in walk.done k))) (sym q.0) needs
      ]);
      different = subst AreDifferent (sym (nodes_push walk.done n d)) (different_push (done_nodes walk.done) n holds.done.different (not_among walk.done n (not_done walk.done walk.waiting n new)));
    }

    are_met : AreMet w walk.root (walk.done ++ (n, d) ∷ [])
    are_met m i = elim (in_push m n (done_nodes walk.done) (subst (λ l. IsIn m l) (nodes_push walk.done n d) i)) [
      | inl j ↦ holds.met m j
      | inr e ↦ subst (λ z. IsMet w.graph (seen_in w) walk.root z) (sym e) met
    ]

    pub holds_with_done : (fresh : List Fresh) (renewed : List RenewedNode) → AreToldRightly w fresh renewed → (next : Walk)
        → next ≡ record walk { done = walk.done ++ (n, d) ∷ []; fresh = fresh; renewed = renewed } → HoldsIn w next
    holds_with_done fresh renewed rightly next same = subst (HoldsIn w) (sym same) (record {
      knows = holds.knows;
      may = holds.may;
      rightly = rightly;
      done = are_done;
      met = are_met;
      waiting = λ m h e. waits_on w (heights_in walk) (heights_in (record walk { done = walk.done ++ (n, d) ∷ [] })) (done_keeps walk.done walk.waiting n new d) walk.wanted walk.wanted (λ c i. i) m h (holds.waiting m h e);
      one = holds.one;
      only = holds.only;
      once = holds.once;
    })

  -- ---- a node that waits

  module _ (n : Node) (new : heights_in walk n ≡ None) (h : ℕ) (is : IsWaiting w (heights_in walk) walk.wanted n h) (one : (call : Call) × IsIn call walk.wanted) where
    pub holds_with_waiting : (waiting : Waits) → waiting ≡ walk.waiting ++ (n, h) ∷ [] → HoldsIn w (record walk { waiting = waiting })
    holds_with_waiting waiting same = subst (λ z. HoldsIn w (record walk { waiting = z })) (sym same) (record {
      knows = holds.knows;
      done = holds.done;
      met = holds.met;
      rightly = holds.rightly;
      may = holds.may;
      waiting = λ m k e. waits_on w (heights_in walk) (heights_in (record walk { waiting = walk.waiting ++ (n, h) ∷ [] })) (waiting_keeps walk.done walk.waiting n new h) walk.wanted walk.wanted (λ c i. i) m k (elim (push_from walk.waiting n h m k e) [
        | inl q ↦ holds.waiting m k q
        | inr q ↦ subst (λ z. IsWaiting w (heights_in walk) walk.wanted z k) (sym q.0) (subst (λ z. IsWaiting w (heights_in walk) walk.wanted n z) q.1 is)
      ]);
      one = λ m k e. one;
      only = holds.only;
      once = holds.once;
    })

  -- ---- a call that is wanted

  pub holds_with_wanted : (call : Call) → StopsAtCall w walk.root call → (wanted : List Call) → wanted ≡ put_in call walk.wanted → AreOnce wanted → HoldsIn w (record walk { wanted = wanted })
  holds_with_wanted call stops wanted same once = record {
    knows = holds.knows;
    done = holds.done;
    met = holds.met;
    rightly = holds.rightly;
    may = holds.may;
    waiting = λ m h e. waits_on w (heights_in walk) (heights_in walk) (λ n k q. q) walk.wanted wanted keep m h (holds.waiting m h e);
    one = λ m h e. let c = holds.one m h e in (c.0, keep c.0 c.1);
    only = λ c i. elim (from_put call c walk.wanted (subst (λ l. IsIn c l) same i)) [
      | inl q ↦ holds.only c q
      | inr q ↦ subst (λ z. StopsAtCall w walk.root z) (sym q) stops
    ];
    once = once;
  }
    where
      keep : KeepCalls walk.wanted wanted
      keep c i = subst (λ l. IsIn c l) (sym same) (put_keeps call c walk.wanted i)
