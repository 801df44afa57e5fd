-- The looks of a derivation.
use Rattle.std.proofs.Common.{◌≡◌, ℕ, ◌+◌, ◌≤◌, List, [], ◌∷◌, length, inl, inr, refl, sym, ap, subst, arith, ◌∙◌}
use Rattle.std.specs.Prelude.{Option, Some, None, IfSome, Result, Err, IfErr}
use Rattle.object_values.specs.declared.nodes.Node.{Node}
use Rattle.object_values.specs.declared.views.View.{View}
use Rattle.odin_outside.specs.Disk.{Telling}
use Rattle.odin_outside.specs.Spawned.{Spawned}
use Rattle.meaning_texts.specs.Limits.{height_limit}
use Rattle.meaning_graph.specs.Graphs.{Graph}
use Rattle.meaning_derive.specs.Chains.{IsDeep}
use Rattle.meaning_derive.specs.Derive.{Outcomes, derived}
use Rattle.meaning_records.specs.Tables.{Calls, Tables, kept_outcome}
use Rattle.meaning_true.specs.Knowing.{Knows, LooksAreCounted}
use Rattle.odin_store.specs.declared.store.Store.{Store}
use Rattle.odin_store.specs.OnDisk.{HoldsOn}
use Rattle.odin_store.specs.Going.{ChangesFollow}
use Rattle.derive_walk.specs.declared.found.Found.{Found}
use Rattle.derive_walk.specs.declared.found.Found.TheVariants.{Answer, Circular, Deep}
use Rattle.derive_walk.specs.Founds.{IsFound}
use Rattle.derive_walk.specs.Looks.{LooksAreDeep, LooksAreWithin, TakesLooks, looks_beyond, looks_by, spare_for}
use Rattle.derive_walk.specs.Outcomes.{after}
use Rattle.derive_walk.specs.Walks.{Walked, IsPlacedIn, IsRight, ExtendsWalk as WalkGoesOn}
use Rattle.derive_walk.specs.Worlds.{World}
use Rattle.derive_walk.proofs.Lemmas.{all_looked, deep_is_few, looked_at, looks_counted, looks_deep, looks_later, looks_within}
use Rattle.job_runner.specs.Flights.{InFlight}
use Rattle.plain_derive.specs.Flights.{Course}
use Rattle.kept_derive.specs.declared.fault.KeptFault.{KeptFault}
use Rattle.kept_derive.specs.declared.fault.KeptFault.TheVariants.{Spawn, Disk, Full, Memory}
use Rattle.kept_derive.specs.Knowing.{known_in, KnowsStore, store_records}
use Rattle.kept_derive.specs.Runs.{At, at, store_world}
use Rattle.kept_derive.specs.declared.landing.Landed.{Landed}
use Rattle.kept_derive.specs.declared.landing.Landed.TheVariants.{Kept, Lost}
use Rattle.kept_derive.specs.Calls.{Lands, FailsToLand}
use Rattle.kept_derive.specs.Looked.{AreCounted, AreLooks, HasCounted, HasLooked, HasLookedDown, HasLookedFor, most_lost}
use Rattle.kept_derive.specs.Ways.{IsOnWay, IsHalted, DrainStops}
use Rattle.kept_derive.proofs.HeldLemmas.{calls_after, more_known}
use Rattle.kept_derive.proofs.RestLemmas.{way_rests, fails_rests}
use Rattle.kept_derive.proofs.StayLemmas.{known_now}
use Rattle.kept_derive.proofs.TurnLemmas.{MayEndIf, flown_over, fails, gives_up}

-- ---- on the way

pub none_counted : (walked : Walked) (first : ℕ) → looks_by walked ≡ 0 → AreCounted first first 0 walked
none_counted walked first none = record { more = omega arith; least = omega (arith, none); most = omega (arith, none) }

-- more may be lost that was not
pub counted_wider : (first last spare wider : ℕ) (walked : Walked) → spare ≤ wider → AreCounted first last spare walked → AreCounted first last wider walked
counted_wider first last spare wider walked few counted = record { more = counted.more; least = counted.least; most = omega (arith, counted.most, few) }

pub any_spare : (first last spare : ℕ) (walked : Walked) → AreCounted first last 0 walked → AreCounted first last spare walked
any_spare first last spare walked counted = counted_wider first last 0 spare walked (omega arith) counted

-- an advance
pub advance_counted : (first mid last spare : ℕ) (old new : Walked) → AreCounted first mid 0 old → TakesLooks (looks_by old) (looks_by new) mid last spare → AreCounted first last spare new
advance_counted first mid last spare old new counted takes = record {
  more = omega arith;
  least = omega (arith, counted.least, takes.least);
  most = omega (arith, counted.most, takes.most);
}

-- of which none is lost
pub advance_found : (first mid last spare : ℕ) (old new : Walked) → AreCounted first mid 0 old → TakesLooks (looks_by old) (looks_by new) mid last (0 + spare) → AreCounted first last spare new
advance_found first mid last spare old new counted takes = counted_wider first last (0 + spare) spare new (omega arith) (advance_counted first mid last (0 + spare) old new counted takes)

-- after which nothing is found yet
pub still_counted : (first last : ℕ) (walked : Walked) → walked.result ≡ None → AreCounted first last (spare_for walked.looked walked.result) walked → AreCounted first last 0 walked
still_counted first last walked still counted = subst (λ o. AreCounted first last (spare_for walked.looked o) walked) still counted

-- calls that ended
module _ (old new : Walked) (looked : new.looked ≡ old.looked) (taken : new.taken ≡ old.taken) where
  pub ends_counted : (first last spare : ℕ) → AreCounted first last spare old → AreCounted first last spare new
  ends_counted first last spare counted =
      let same : looks_by new ≡ looks_by old = λ i. length (looked i) + length (taken i) in
      record { more = omega arith; least = omega (arith, counted.least, same); most = omega (arith, counted.most, same) }

  pub drained_counted : new.result ≡ old.result → (first last : ℕ) → AreCounted first last (spare_for old.looked old.result) old → AreCounted first last (spare_for new.looked new.result) new
  drained_counted result first last counted =
      let spare : spare_for old.looked old.result ≡ spare_for new.looked new.result = λ i. spare_for (sym looked i) (sym result i) in
      subst (λ k. AreCounted first last k new) spare (ends_counted first last (spare_for old.looked old.result) counted)

-- an end, whether it was lost or not
module _ {D : Type 0} (told : D → Telling) (walked : Walked) (jobs : InFlight) (old : At D) (walked' : Walked) (jobs' : InFlight) (new : At D) where
  pub same_looked : (landed : Landed) → Lands told walked jobs old walked' jobs' new landed → walked'.looked ≡ walked.looked
  same_looked Kept has = has.given.looked
  same_looked Lost has = ap (λ (z : Walked). z.looked) has.walk

  pub same_taken : (landed : Landed) → Lands told walked jobs old walked' jobs' new landed → walked'.taken ≡ walked.taken
  same_taken Kept has = has.given.taken
  same_taken Lost has = ap (λ (z : Walked). z.taken) has.walk

-- ---- calls that are kept

pub same_calls : (store next : Store) → HoldsOn store next → ◌≡◌ {A = Outcomes} (known_in next) (known_in store)
same_calls store next same = ap (λ (t : Tables). kept_outcome t.calls) same.tables

-- ---- as its callers see it

pub none_looked : (g : Graph) (n : Node) (store : Store) (count spare : ℕ) → HasLooked g n store store count count spare
none_looked g n store count spare = record {
  looked = [];
  different = tt;
  stepped = λ m i. absurd i;
  may = λ m i. absurd i;
  taken = [];
  once = tt;
  among = λ m i. absurd i;
  least = omega arith;
  most = omega arith;
}

-- The looks of a walk that is right, by a store that keeps just what it knows of calls.
module _ (g : Graph) (n : Node) (first : Store) (walked : Walked) (root : walked.root ≡ n) (right : IsRight (store_world g first walked.given) walked) (next : Store)
    (known : ◌≡◌ {A = Outcomes} (known_in next) (after (known_in first) walked.given)) where
  abbrev here : World
  here = store_world g first walked.given

  is_found : (found : Found) → walked.result ≡ Some found → IsFound g first.sources.texts (after (known_in first) walked.given) walked.root found
  is_found found is = subst (λ r. IfSome r (IsFound g first.sources.texts (after (known_in first) walked.given) walked.root)) is right.found

  pub looked_within : (before last spare : ℕ) → AreCounted before last spare walked → HasLooked g n first next before last spare
  looked_within before last spare counted =
      subst (λ (z : Outcomes × Node). LooksAreWithin g first.sources.texts z.0 (store_records first) z.1 before last spare) (λ i. (sym known i, root i))
      (looks_within here walked (looked_at here walked right) before last spare counted)

  -- a view is found
  pub looked_all : IsPlacedIn walked.root walked.done walked.result → (view : View) → walked.result ≡ Some (Answer view) → (before last : ℕ) → AreCounted before last 0 walked
      → HasCounted g n first next before last
  looked_all placed view is before last counted =
      subst (λ (z : Outcomes × Node). LooksAreCounted g first.sources.texts z.0 (store_records first) z.1 before last) (λ i. (sym known i, root i))
      (looks_counted here walked (looked_at here walked right) (all_looked here walked right placed view is) before last counted)

  -- a chain that is too deep
  pub looked_down : (chain : List Node) → walked.result ≡ Some (Deep chain) → (before last : ℕ) → AreCounted before last (looks_beyond walked.looked chain) walked → HasLookedDown g n chain first next before last
  looked_down chain is before last counted =
      let deep : IsDeep g (derived g first.sources.texts (after (known_in first) walked.given)) walked.root chain = is_found (Deep chain) is in
      record {
        deep = subst (λ (z : Outcomes × Node). IsDeep g (derived g first.sources.texts z.0) z.1 chain) (λ i. (sym known i, root i)) deep;
        looks = subst (λ (z : Outcomes × Node). LooksAreDeep g first.sources.texts z.0 (store_records first) z.1 chain before last) (λ i. (sym known i, root i))
            (looks_deep here walked (looked_at here walked right) chain deep.different before last counted);
      }

  -- something or nothing is found
  pub looked_for : (before last : ℕ) → AreCounted before last (spare_for walked.looked walked.result) walked → HasLookedFor g n first next before last
  looked_for before last counted = by_result walked.result refl counted
    where
      by_result : (o : Option Found) → walked.result ≡ o → AreCounted before last (spare_for walked.looked o) walked → HasLookedFor g n first next before last
      by_result None is all = inl (looked_within before last 0 all)
      by_result (Some (Answer view)) is all = inl (looked_within before last 0 all)
      by_result (Some (Circular chain)) is all = inl (looked_within before last 0 all)
      by_result (Some (Deep chain)) is all = inr (chain, looked_down chain is before last all)

  -- ---- memory is wanting

  few_spared : spare_for walked.looked walked.result ≤ height_limit + 1
  few_spared = by_result walked.result refl
    where
      by_result : (o : Option Found) → walked.result ≡ o → spare_for walked.looked o ≤ height_limit + 1
      by_result None is = omega arith
      by_result (Some (Answer view)) is = omega arith
      by_result (Some (Circular chain)) is = omega arith
      by_result (Some (Deep chain)) is =
          let deep : IsDeep g (derived g first.sources.texts (after (known_in first) walked.given)) walked.root chain = is_found (Deep chain) is in
          omega (arith, deep_is_few walked.looked chain, deep.long)

  pub looked_wanting : (before last : ℕ) → AreCounted before last (spare_for walked.looked walked.result) walked → HasLooked g n first next before last most_lost
  looked_wanting before last counted =
      looked_within before last most_lost (counted_wider before last (spare_for walked.looked walked.result) most_lost walked (omega (arith, few_spared)) counted)

  -- and so it was in an advance
  pub advance_wanting : (before last : ℕ) → AreCounted before last (height_limit + 1 + spare_for walked.looked walked.result) walked → HasLooked g n first next before last most_lost
  advance_wanting before last counted =
      looked_within before last most_lost (counted_wider before last (height_limit + 1 + spare_for walked.looked walked.result) most_lost walked (omega (arith, few_spared)) counted)

module _ {D : Type 0} (told : D → Telling) (g : Graph) (n : Node) (first : At D) where
  module _ (course : Course) (walked : Walked) (jobs : InFlight) (now : At D) (way : IsOnWay told g n course first walked jobs now) where
    pub way_known : ◌≡◌ {A = Outcomes} (known_in now.store) (after (known_in first.store) walked.given)
    way_known = known_now told g first walked.given now way.goes way.new

    pub way_looked_by : (next : Store) → ◌≡◌ {A = Outcomes} (known_in next) (known_in now.store) → KnowsStore g first.store → (before last : ℕ)
        → AreCounted before last (spare_for walked.looked walked.result) walked → HasLookedFor g n first.store next before last
    way_looked_by next same knows before last counted = looked_for g n first.store walked way.root (way.right knows).right next (same ∙ way_known) before last counted

    pub way_looked : KnowsStore g first.store → (before last : ℕ) → AreCounted before last (spare_for walked.looked walked.result) walked → HasLookedFor g n first.store now.store before last
    way_looked knows before last counted = way_looked_by now.store refl knows before last counted

    -- memory is wanting
    pub gives_up_looked : (next : Store) → ◌≡◌ {A = Outcomes} (known_in next) (known_in now.store) → KnowsStore g first.store → (before last : ℕ)
        → AreCounted before last (spare_for walked.looked walked.result) walked → HasLooked g n first.store next before last most_lost
    gives_up_looked next same knows before last counted = looked_wanting g n first.store walked way.root (way.right knows).right next (same ∙ way_known) before last counted

    -- it is given up, and nothing happened
    pub gives_up_halted : (before last : ℕ) → AreCounted before last 0 walked → (limit : ℕ) → jobs.limit ≡ limit → (tools : Spawned) → tools ≡ now.tools → IsHalted told g n limit first (at now.store now.disk tools) before last Memory
    gives_up_halted before last counted limit same tools still =
        let there : IsHalted told g n jobs.limit first now before last Memory = record {
          stopped = gives_up told g n first course walked jobs now way;
          looks = λ knows. gives_up_looked now.store refl knows before last (any_spare before last (spare_for walked.looked walked.result) walked counted);
          rest = way_rests told g n first course walked jobs now way Memory tt;
        } in
        subst (λ (z : ℕ × Spawned). IsHalted told g n z.0 first (at now.store now.disk z.1) before last Memory) (λ i. (same i, sym still i)) there

    -- as the walk went on, where memory was wanting
    pub advance_halted : (walked' : Walked) → WalkGoesOn walked walked' → (IsRight (store_world g first.store walked.given) walked → IsRight (store_world g first.store walked'.given) walked')
        → (before last : ℕ) → AreCounted before last (height_limit + 1 + spare_for walked'.looked walked'.result) walked' → IsHalted told g n jobs.limit first now before last Memory
    advance_halted walked' on right before last counted = record {
      stopped = gives_up told g n first course walked jobs now way;
      looks = λ knows.
          let known : ◌≡◌ {A = Outcomes} (known_in now.store) (after (known_in first.store) walked'.given) =
          way_known ∙ ap (λ (l : Calls). after (known_in first.store) l) (sym on.given) in
          advance_wanting g n first.store walked' (on.root ∙ way.root) (right (way.right knows).right) now.store known before last counted;
      rest = way_rests told g n first course walked jobs now way Memory tt;
    }

    -- an end after which it stops
    fails_looked : KnowsStore g first.store → MayEndIf told g n first course walked jobs now → (walked' : Walked) (jobs' : InFlight) (new : At D) (before last : ℕ) (fault : KeptFault)
        → FailsToLand told walked jobs now walked' jobs' new fault → AreCounted before last (spare_for walked.looked walked.result) walked → AreLooks told g n jobs.limit first new before last (Err fault)
    fails_looked knows may walked' jobs' new before last Spawn none counted = absurd none
    fails_looked knows may walked' jobs' new before last Disk has counted = record {
      given = walked.given;
      rest = (has.call, has.outcome) ∷ [];
      few = omega arith;
      mid = now;
      flown = flown_over told g n first course walked jobs now way may knows has.call has.outcome jobs' new has.ended;
      goes = way.goes;
      looked = way_looked knows before last counted;
    }
    fails_looked knows may walked' jobs' new before last (Full end count) has counted = way_looked_by new.store (same_calls now.store new.store has.failed.1.0.store_is) knows before last counted
    fails_looked knows may walked' jobs' new before last Memory (inl held) counted = gives_up_looked new.store (same_calls now.store new.store held.same.store_is) knows before last counted
    fails_looked knows may walked' jobs' new before last Memory (inr has) counted =
        let more = more_known now.store new.store ((has.call, has.outcome) ∷ []) (calls_after told ((has.call, has.outcome) ∷ []) now.store new.store now.disk new.disk has.goes) in
        let known = subst (λ (p : Outcomes). Knows g first.store.sources.texts p (store_records first.store)) (sym way_known) (way.right knows).right.knows in
        looks_later g first.store.sources.texts (known_in now.store) (known_in new.store) more (store_records first.store) known n before last most_lost
        (gives_up_looked now.store refl knows before last counted)

    pub halts : ChangesFollow told → MayEndIf told g n first course walked jobs now → (walked' : Walked) (jobs' : InFlight) (new : At D) (fault : KeptFault) → FailsToLand told walked jobs now walked' jobs' new fault
        → (limit : ℕ) → jobs.limit ≡ limit → (before last : ℕ) → AreCounted before last (spare_for walked.looked walked.result) walked → IsHalted told g n limit first new before last fault
    halts follow may walked' jobs' new fault has limit same before last counted = subst (λ k. IsHalted told g n k first new before last fault) same (record {
      stopped = fails told g n first course walked jobs now way may follow walked' jobs' new fault has;
      looks = λ knows. fails_looked knows may walked' jobs' new before last fault has counted;
      rest = fails_rests told g n first course walked jobs now way walked' jobs' new fault has;
    })

-- as the answers say it
pub halted_at : {T D : Type 0} (result : Result T KeptFault) (told : D → Telling) (g : Graph) (n : Node) (limit k : ℕ) (first new : At D) (before last : ℕ) (fault : KeptFault) → result ≡ Err fault → k ≡ limit
    → IsHalted told g n k first new before last fault → IfErr result (IsHalted told g n limit first new before last)
halted_at result told g n limit k first new before last fault is same halted =
    subst (λ r. IfErr r (IsHalted told g n limit first new before last)) (sym is) (subst (λ m. IsHalted told g n m first new before last fault) same halted)

pub drain_stops_at : {T D : Type 0} (result : Result T KeptFault) (told : D → Telling) (walked : Walked) (jobs : InFlight) (old new : At D) (fault : KeptFault) → result ≡ Err fault → DrainStops told walked jobs old new fault → IfErr result (DrainStops told walked jobs old new)
drain_stops_at result told walked jobs old new fault is stops = subst (λ r. IfErr r (DrainStops told walked jobs old new)) (sym is) stops
