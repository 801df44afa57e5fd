-- What a derivation comes to, once none of its tools runs any more.
use Rattle.std.proofs.Common.{◌≡◌, ◌<◌, ◌≤◌, ◌∷◌, ℕ, true, false, List, [], length, inl, inr, refl, sym, ap, subst, arith, ◌∙◌, is_some}
use Rattle.std.specs.Prelude.{Option, Some, None, IsSome, IfSome}
use Rattle.object_values.specs.declared.nodes.Node.{Node}
use Rattle.object_values.specs.declared.views.View.{View}
use Rattle.odin_outside.specs.Disk.{Telling}
use Rattle.odin_outside.specs.Spawned.{Spawned}
use Rattle.meaning_graph.specs.Graphs.{Graph}
use Rattle.odin_store.specs.declared.store.Store.{Store}
use Rattle.derive_walk.specs.declared.found.Found.{Found}
use Rattle.derive_walk.specs.declared.found.Found.TheVariants.{Answer, Circular, Deep}
use Rattle.derive_walk.specs.Founds.{IsFound}
use Rattle.derive_walk.specs.Outcomes.{after}
use Rattle.derive_walk.specs.Walks.{Walked, IsFormed, IsRight}
use Rattle.job_runner.specs.declared.jobs.Flying.{Flying}
use Rattle.job_runner.specs.Flights.{InFlight, none_in_flight}
use Rattle.plain_derive.specs.Flights.{Course, on_course, off_course, Why, for_chain, for_spawn}
use Rattle.plain_derive.proofs.Lemmas.{founded_rests}
use Rattle.kept_derive.specs.Knowing.{known_in, KnowsStore}
use Rattle.kept_derive.specs.Runs.{At, at, store_world, course_of}
use Rattle.kept_derive.specs.Telling.{world_now}
use Rattle.kept_derive.specs.declared.flight.Flown.{Flown}
use Rattle.kept_derive.specs.declared.flight.Flown.TheVariants as flight
use Rattle.kept_derive.specs.Ways.{IsOnWay, ComesTo, Drains, IsOver, IsCutOff, EndsBy}
use Rattle.kept_derive.proofs.KnowLemmas.{SaysFacts}
use Rattle.kept_derive.proofs.StayLemmas.{world_is_now}
use Rattle.kept_derive.proofs.WayLemmas.{waits, on_other}
use Rattle.kept_derive.proofs.TurnLemmas.{finds_chain}

pub none_not_some : (o : Option Found) → o ≡ None → IsSome o → ⊥
none_not_some (Some found) e some = cc
none_not_some None e some = let no : false ≡ true = some in cc

pub none_runs : (running : List Flying) → length running ≤ 0 → running ≡ []
none_runs [] none = refl
none_runs (f ∷ running) none = absurd (omega (arith, none))

module _ {D : Type 0} (told : D → Telling) (g : Graph) (n : Node) (first : At D) where
  module _ (course : Course) (walked : Walked) (jobs : InFlight) (now : At D) (way : IsOnWay told g n course first walked jobs now) where
    pub is_found : KnowsStore g first.store → (found : Found) → walked.result ≡ Some found → IsFound g first.store.sources.texts (after (known_in first.store) walked.given) n found
    is_found knows found is =
        let of_root : IsFound g first.store.sources.texts (after (known_in first.store) walked.given) walked.root found =
        subst (λ r. IfSome r (IsFound g first.store.sources.texts (after (known_in first.store) walked.given) walked.root)) is (way.right knows).right.found in
        subst (λ z. IsFound g first.store.sources.texts (after (known_in first.store) walked.given) z found) way.root of_root

    -- the walk goes by what is kept now
    world_here : SaysFacts first.store → SaysFacts now.store → world_now g now.store ≡ store_world g first.store walked.given
    world_here before later = world_is_now told g first walked.given now way.goes way.nodes way.epoch before later way.new

    pub formed_here : SaysFacts first.store → SaysFacts now.store → IsFormed (world_now g now.store) walked
    formed_here before later = subst (λ w. IsFormed w walked) (sym (world_here before later)) way.formed

    pub right_here : SaysFacts first.store → SaysFacts now.store → KnowsStore g first.store → IsRight (world_now g now.store) walked
    right_here before later knows = subst (λ w. IsRight w walked) (sym (world_here before later)) (way.right knows).right

    pub at_rest_here : (limit : ℕ) → jobs.limit ≡ limit → jobs.running ≡ [] → IsOnWay told g n course first walked (none_in_flight limit) now
    at_rest_here limit same none =
        let rested : jobs ≡ none_in_flight limit = λ i. record { limit = same i; running = none i } in
        subst (λ (z : InFlight). IsOnWay told g n course first walked z now) rested way

    -- a tool failed
    pub cut_off : (limit : ℕ) → course ≡ off_course for_spawn → SaysFacts first.store → SaysFacts now.store → jobs.limit ≡ limit → jobs.running ≡ [] → IsCutOff told g n limit first walked now
    cut_off limit is before later same none = record {
      way = subst (λ k. IsOnWay told g n k first walked (none_in_flight limit) now) is (at_rest_here limit same none);
      knows = λ knows. (right_here before later knows).knows;
    }

  module _ (walked : Walked) (jobs : InFlight) (now : At D) (way : IsOnWay told g n on_course first walked jobs now) where
    -- for a chain it is off its course
    takes_course : (found : Found) → walked.result ≡ Some found → IsOnWay told g n (course_of found) first walked jobs now
    takes_course (Answer view) is = way
    takes_course (Circular chain) is = finds_chain told g n first walked jobs now way (λ knows. record { chain = chain; is = inl (is_found on_course walked jobs now way knows (Circular chain) is) })
    takes_course (Deep chain) is = finds_chain told g n first walked jobs now way (λ knows. record { chain = chain; is = inr (is_found on_course walked jobs now way knows (Deep chain) is) })

    -- With a view that is right none runs.
    view_rests : KnowsStore g first.store → (view : View) → walked.result ≡ Some (Answer view) → jobs.running ≡ []
    view_rests knows view is =
        founded_rests g first.store.sources.texts (after (known_in first.store) walked.given) n jobs.running (ap is_some (is_found on_course walked jobs now way knows (Answer view) is))
        (λ call i. waits told g n first on_course walked jobs now way (way.right knows) call (way.runs call i))

    -- Where some run it is off its course, or to be taken off it.
    off_for_found : (found : Found) → walked.result ≡ Some found → 0 < length jobs.running → IsOnWay told g n (off_course for_chain) first walked jobs now
    off_for_found (Answer view) is some = on_other told g n first on_course (off_course for_chain) walked jobs now way (λ knows. absurd (omega (arith, some, ap length (view_rests knows view is))))
    off_for_found (Circular chain) is some = takes_course (Circular chain) is
    off_for_found (Deep chain) is some = takes_course (Deep chain) is

    -- and back on it, once what ran is drained
    back_for_found : (found : Found) → walked.result ≡ Some found → 0 < length jobs.running → (walked' : Walked) (jobs' : InFlight) (new : At D) → IsOnWay told g n (off_course for_chain) first walked' jobs' new
        → IsOnWay told g n (course_of found) first walked' jobs' new
    back_for_found (Answer view) is some walked' jobs' new off = on_other told g n first (off_course for_chain) on_course walked' jobs' new off (λ knows. absurd (omega (arith, some, ap length (view_rests knows view is))))
    back_for_found (Circular chain) is some walked' jobs' new off = off
    back_for_found (Deep chain) is some walked' jobs' new off = off

    pub found_off : IsSome walked.result → 0 < length jobs.running → IsOnWay told g n (off_course for_chain) first walked jobs now
    found_off there some = by_result walked.result refl there
      where
        by_result : (o : Option Found) → walked.result ≡ o → IsSome o → IsOnWay told g n (off_course for_chain) first walked jobs now
        by_result (Some found) is there = off_for_found found is some
        by_result None is there = absurd (none_not_some None refl there)

    -- ---- what it ends by

    over_now : IsSome walked.result → (limit : ℕ) → SaysFacts first.store → SaysFacts now.store → jobs.limit ≡ limit → jobs.running ≡ [] → IsOver told g n limit first walked now
    over_now there limit before later same none = record {
      some = there;
      way = λ found is. at_rest_here (course_of found) walked jobs now (takes_course found is) limit same none;
      formed = formed_here on_course walked jobs now way before later;
      right = right_here on_course walked jobs now way before later;
    }

    over_drained : IsSome walked.result → 0 < length jobs.running → (walked' : Walked) (jobs' : InFlight) (new : At D) → Drains told walked jobs now walked' jobs' new
        → (limit : ℕ) → SaysFacts first.store → SaysFacts new.store → jobs.limit ≡ limit → IsOver told g n limit first walked' new
    over_drained there some walked' jobs' new drains limit before later same =
        let off : IsOnWay told g n (off_course for_chain) first walked' jobs' new = drains.on g n for_chain first (found_off there some) in
        record {
          some = subst (λ o. IsSome o) (sym drains.result) there;
          way = λ found is. at_rest_here (course_of found) walked' jobs' new (back_for_found found (sym drains.result ∙ is) some walked' jobs' new off) limit (drains.limit ∙ same) drains.none;
          formed = formed_here (off_course for_chain) walked' jobs' new off before later;
          right = right_here (off_course for_chain) walked' jobs' new off before later;
        }

  -- ---- what a flight came to

  pub on_some_way : (walked : Walked) (jobs : InFlight) (now : At D) (flown : Flown) → ComesTo told g n first walked jobs now flown → (course : Course) × IsOnWay told g n course first walked jobs now
  on_some_way walked jobs now flight.Found has = (on_course, has.way)
  on_some_way walked jobs now flight.Cut way = (off_course for_spawn, way)

  -- Where some run it is off its course, or to be taken off it.
  pub drained_for : (walked : Walked) (jobs : InFlight) (now : At D) (flown : Flown) → ComesTo told g n first walked jobs now flown → 0 < length jobs.running → (why : Why) × IsOnWay told g n (off_course why) first walked jobs now
  drained_for walked jobs now flight.Cut way some = (for_spawn, way)
  drained_for walked jobs now flight.Found has some = (for_chain, found_off walked jobs now has.way has.found some)

  pub ends_now : (walked : Walked) (jobs : InFlight) (now : At D) (flown : Flown) → ComesTo told g n first walked jobs now flown → (limit : ℕ) → SaysFacts first.store → SaysFacts now.store → jobs.limit ≡ limit → jobs.running ≡ []
      → EndsBy told g n limit first walked now flown
  ends_now walked jobs now flight.Found has limit before later same none = over_now walked jobs now has.way has.found limit before later same none
  ends_now walked jobs now flight.Cut way limit before later same none = cut_off (off_course for_spawn) walked jobs now way limit refl before later same none

  pub ends_drained : (walked : Walked) (jobs : InFlight) (now : At D) (flown : Flown) → ComesTo told g n first walked jobs now flown → 0 < length jobs.running → (walked' : Walked) (jobs' : InFlight) (new : At D)
      → Drains told walked jobs now walked' jobs' new → (limit : ℕ) → SaysFacts first.store → SaysFacts new.store → jobs.limit ≡ limit → EndsBy told g n limit first walked' new flown
  ends_drained walked jobs now flight.Found has some walked' jobs' new drains limit before later same = over_drained walked jobs now has.way has.found some walked' jobs' new drains limit before later same
  ends_drained walked jobs now flight.Cut way some walked' jobs' new drains limit before later same =
      cut_off (off_course for_spawn) walked' jobs' new (drains.on g n for_spawn first way) limit refl before later (drains.limit ∙ same) drains.none

pub ends_move : {D : Type 0} (told : D → Telling) (g : Graph) (n : Node) (limit : ℕ) (first : At D) (flown : Flown) {walked walked' : Walked} {store store' : Store} {disk disk' : D} {tools tools' : Spawned}
    → walked' ≡ walked → store' ≡ store → disk' ≡ disk → tools' ≡ tools → EndsBy told g n limit first walked (at store disk tools) flown → EndsBy told g n limit first walked' (at store' disk' tools') flown
ends_move {D} told g n limit first flown walked_is store_is disk_is tools_is it =
    subst (λ (z : Walked × Store × D × Spawned). EndsBy told g n limit first z.0 (at z.1 z.2 z.3) flown) (λ i. (sym walked_is i, sym store_is i, sym disk_is i, sym tools_is i)) it
