-- The nodes for which an outcome was looked for, as the walk goes on, and one more.
use Rattle.std.proofs.Common.{◌≡◌, ℕ, ◌+◌, ◌≤◌, Bool, true, false, cond, List, [], ◌∷◌, ◌++◌, length, length-append, ◌⊎◌, inl, inr, sym, ap, ◌∙◌, subst, refl, is_some, arith}
use Rattle.std.specs.Prelude.{◌≢◌, Some, None, IsSome, option_map}
use Rattle.object_values.specs.declared.nodes.Node.{Node}
use Rattle.meaning_texts.specs.Lists.{IsIn}
use Rattle.meaning_texts.proofs.Lemmas.{some_or_none, some_is_none, value_of_some}
use Rattle.meaning_derive.specs.Calls.{Runs}
use Rattle.meaning_derive.proofs.Lemmas.{one_run}
use Rattle.meaning_true.specs.Knowing.{TakesOutcome}
use Rattle.node_tasks.specs.declared.needed.Needed.{Needed}
use Rattle.derive_walk.specs.declared.done.Done.{Done}
use Rattle.derive_walk.specs.declared.walk.Walk.{Walk}
use Rattle.derive_walk.specs.declared.settling.Closed.{Closed}
use Rattle.derive_walk.specs.declared.settling.Closed.TheVariants.{Given, Settled, Stops}
use Rattle.derive_walk.specs.Calls.{GivenOutcomes, outcome_in}
use Rattle.derive_walk.specs.Looked.{AreTaken, IsAsked, IsEnded, IsTaken, MayTake}
use Rattle.derive_walk.specs.Looks.{GoesByLooks, LooksNoMore, TakesLooks, looks_in}
use Rattle.derive_walk.specs.Paths.{IsClosing, IsLast, IsLed}
use Rattle.derive_walk.specs.Places.{looked_nodes, place_in}
use Rattle.derive_walk.specs.Settled.{NodeIsClosed}
use Rattle.derive_walk.specs.States.{GoesOnFrom, HoldsIn, OnlyLooks, Visited}
use Rattle.derive_walk.specs.Tables.{done_in, results_of}
use Rattle.derive_walk.specs.Worlds.{World, seen_in}
use Rattle.derive_walk.proofs.ClosingLemmas.{called_runs, last_is_new, stopped_runs}
use Rattle.derive_walk.proofs.GoingLemmas.{goes_looking}
use Rattle.derive_walk.proofs.NoteLemmas.{none_present}
use Rattle.derive_walk.proofs.SourceSettles.{source_calls_none}
use Rattle.derive_walk.proofs.Tables.{different_push, has_entry, in_push, is_among, not_done}

-- the nodes for which an outcome was looked for are no part of what goes on
pub goes_taking : (old walk : Walk) (taken : List Node) → GoesOnFrom old walk → GoesOnFrom old (record walk { taken = taken })
goes_taking old walk taken g = record { root = g.root; wanted = g.wanted; keeps = g.keeps; looked = g.looked; results = g.results }

pub holds_taking : (w : World) (walk : Walk) (taken : List Node) → HoldsIn w walk → HoldsIn w (record walk { taken = taken })
holds_taking w walk taken h = record {
  knows = h.knows;
  done = h.done;
  met = h.met;
  rightly = h.rightly;
  may = h.may;
  waiting = h.waiting;
  one = h.one;
  only = h.only;
  once = h.once;
}

pub visited_taking : (w : World) (old walk : Walk) (n : Node) (taken : List Node) → Visited w old walk n → Visited w old (record walk { taken = taken }) n
visited_taking w old walk n taken v = record { path = v.path; there = v.there; apart = v.apart }

-- ---- as the walk goes on

module _ (w : World) (given : GivenOutcomes) (old new : Walk) (on : GoesOnFrom old new) where
  -- what has a result keeps it
  done_on : (n : Node) → IsSome (done_in old.done n) → IsSome (done_in new.done n)
  done_on n there =
      let d = value_of_some (done_in old.done n) there in
      let view = on.results n d.0.view (ap (option_map (λ (d : Done). d.view)) d.1) in
      elim (some_or_none (done_in new.done n)) [
        | inl x ↦ ap is_some x.1
        | inr none ↦ some_is_none (results_of new.done n) d.0.view view (ap (option_map (λ (d : Done). d.view)) none)
      ]

  looked_on : (n : Node) → IsIn n (looked_nodes old.looked) → IsIn n (looked_nodes new.looked)
  looked_on n i =
      let p = value_of_some (place_in old.looked n) (has_entry old.looked n i) in
      is_among new.looked n (ap is_some (on.looked n p.0 p.1))

  asked_on : (n : Node) → IsAsked w given old.wanted n → IsAsked w given new.wanted n
  asked_on n is = record {
    call = is.call;
    runs = is.runs;
    asked = elim is.asked [ inl i ↦ inl (on.wanted is.call i) | inr there ↦ inr there ];
  }

  one_on : (n : Node) → IsTaken w given old.looked old.done old.wanted n → IsTaken w given new.looked new.done new.wanted n
  one_on n is = record {
    looked = looked_on n is.looked;
    takes = is.takes;
    after = elim is.after [ inl there ↦ inl (done_on n there) | inr asked ↦ inr (asked_on n asked) ];
  }

  pub taken_on : new.taken ≡ old.taken → AreTaken w given old.looked old.done old.wanted old.taken → AreTaken w given new.looked new.done new.wanted new.taken
  taken_on same taken = subst (λ l. AreTaken w given new.looked new.done new.wanted l) (sym same)
      (record { once = taken.once; each = λ n i. one_on n (taken.each n i) })

  -- the steps of what goes on so
  pub goes_alone : {P : Type 0} → new.taken ≡ old.taken → (before now spare : ℕ) → TakesLooks (looks_in old) (looks_in new) before now spare
      → GoesByLooks w given P old new before now spare
  goes_alone same before now spare steps = record { steps = steps; taken = λ p taken. taken_on same taken }

  -- ---- one more

  module _ (n : Node) {needed : Needed} (height : ℕ) (last : IsLast w old n) (closing : IsClosing w old n needed height)
      (may : MayTake w.graph (results_of old.done) given old.wanted n) (led : IsLed w old) where
    stepped : n.steps ≢ []
    stepped none = some_is_none (Some may.call) may.call refl (source_calls_none w n (results_of old.done) (Some may.call) none may.called)

    runs : Runs w.graph (seen_in w) n may.call
    runs = called_runs w old led.holds n height closing may.call may.called

    takes : TakesOutcome w.graph w.sources w.outcomes w.records n
    takes = record { runs = (may.call, runs); anew = λ k e. none_present w old led.holds n height closing stepped k e }

    -- it isn't among them yet
    apart : AreTaken w given old.looked old.done old.wanted old.taken → IsIn n old.taken → ⊥
    apart taken i = elim (taken.each n i).after [
      | inl there ↦
          let d = value_of_some (done_in old.done n) there in
          some_is_none (done_in old.done n) d.0 d.1 (not_done old.done old.waiting n (last_is_new w old n last))
      | inr is ↦
          let same : is.call ≡ may.call = one_run w.graph (seen_in w) n is.call may.call is.runs runs in
          elim is.asked [
            | inl j ↦ may.new (subst (λ z. IsIn z old.wanted) same j)
            | inr there ↦
                let o = value_of_some (outcome_in given is.call) there in
                some_is_none (outcome_in given is.call) o.0 o.1 (subst (λ z. outcome_in given z ≡ None) (sym same) may.none)
          ]
    ]

    ended : (closed : Closed) → NodeIsClosed w n (results_of old.done) closed → IsEnded new.done new.wanted n closed
        → IsSome (done_in new.done n) ⊎ IsAsked w given new.wanted n
    ended (Given view) is end = inl end
    ended (Settled whole) is end = inl end
    ended (Stops call) is end = inr (record { call = call; runs = stopped_runs w old led.holds n height closing call is; asked = inl end })

    this_one : (closed : Closed) → NodeIsClosed w n (results_of old.done) closed → IsEnded new.done new.wanted n closed
        → IsTaken w given new.looked new.done new.wanted n
    this_one closed is end = record {
      looked = looked_on n (is_among old.looked n (last.looked stepped));
      takes = takes;
      after = ended closed is end;
    }

    pub taken_more : (closed : Closed) → NodeIsClosed w n (results_of old.done) closed → IsEnded new.done new.wanted n closed → new.taken ≡ old.taken
        → AreTaken w given old.looked old.done old.wanted old.taken → (taken : List Node) → taken ≡ new.taken ++ n ∷ []
        → AreTaken w given new.looked new.done new.wanted taken
    taken_more closed is end same before taken longer =
        subst (λ l. AreTaken w given new.looked new.done new.wanted l) (sym (longer ∙ ap (λ l. l ++ n ∷ []) same)) (record {
          once = different_push old.taken n before.once (apart before);
          each = λ m i. elim (in_push m n old.taken i) [
            | inl j ↦ one_on m (before.each m j)
            | inr e ↦ subst (λ z. IsTaken w given new.looked new.done new.wanted z) (sym e) (this_one closed is end)
          ];
        })

-- the look at a node
pub goes_by_look : (w : World) (given : GivenOutcomes) {P : Type 0} (old new : Walk) → OnlyLooks old new → (before now spare : ℕ)
    → TakesLooks (looks_in old) (looks_in new) before now spare → GoesByLooks w given P old new before now spare
goes_by_look w given old new only before now spare steps =
    goes_alone w given old new (goes_looking old new only) (ap (λ (z : Walk). z.taken) only.is) before now spare steps

-- ---- the closing of a node

pub took_none : (before now : ℕ) (took : Bool) → now ≡ before + cond took 1 0 → took ≡ false → now ≡ before
took_none before now took is none = let z : now ≡ before + cond false 1 0 = subst (λ b. now ≡ before + cond b 1 0) none is in omega (arith, z)

pub took_one : (before now : ℕ) (took : Bool) → now ≡ before + cond took 1 0 → took ≡ true → now ≡ before + 1
took_one before now took is one = subst (λ b. now ≡ before + cond b 1 0) one is

module _ (w : World) (given : GivenOutcomes) (old mid : Walk) (on : GoesOnFrom old mid) (same : LooksNoMore old mid) (before now : ℕ) where
  -- an outcome may have been looked for in vain
  pub closes_lost : {P : Type 0} (spare : ℕ) → 1 ≤ spare → before ≤ now → now ≤ before + 1 → GoesByLooks w given P old mid before now spare
  closes_lost spare some later once =
      let looked = ap length same.looked in
      let taken = ap length same.taken in
      goes_alone w given old mid on same.taken before now spare
      (record { more = omega (arith, looked, taken); least = omega (arith, looked, taken, later); most = omega (arith, looked, taken, once, some) })

  -- none was looked for
  pub closes_without : {P : Type 0} (spare : ℕ) → now ≡ before → GoesByLooks w given P old mid before now spare
  closes_without spare none =
      let looked = ap length same.looked in
      let taken = ap length same.taken in
      goes_alone w given old mid on same.taken before now spare
      (record { more = omega (arith, looked, taken); least = omega (arith, looked, taken, none); most = omega (arith, looked, taken, none) })

  -- one was
  pub closes_taking : (n : Node) {needed : Needed} (height : ℕ) → IsLast w old n → IsClosing w old n needed height
      → MayTake w.graph (results_of old.done) given old.wanted n → (closed : Closed) → NodeIsClosed w n (results_of old.done) closed
      → IsEnded mid.done mid.wanted n closed → (taken : List Node) → taken ≡ mid.taken ++ n ∷ [] → (spare : ℕ) → now ≡ before + 1
      → GoesByLooks w given (IsLed w old) old (record mid { taken = taken }) before now spare
  closes_taking n height last closing may closed is end taken longer spare one =
      let looked = ap length same.looked in
      let few = ap length same.taken in
      let more = ap length longer in
      let push = length-append mid.taken (n ∷ []) in
      record {
        steps = record {
          more = omega (arith, looked, few, more, push);
          least = omega (arith, looked, few, more, push, one);
          most = omega (arith, looked, few, more, push, one);
        };
        taken = λ led all. taken_more w given old mid on n height last closing may led closed is end same.taken all taken longer;
      }
