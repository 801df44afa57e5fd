-- What a derivation comes to: what is found, once what the walk tells is kept, or a tool that failed.
use Rattle.std.proofs.Common.{◌≡◌, ◌++◌, ℕ, List, [], ◌∷◌, refl, sym, ap, subst, arith, ◌∙◌}
use Rattle.std.specs.Prelude.{Option, Some, None, IsSome, IfSome, Result, Ok, Err, IfOk, IfErr}
use Rattle.object_values.specs.declared.facts.Fact.{Fact}
use Rattle.object_values.specs.declared.nodes.Node.{Node}
use Rattle.odin_outside.specs.Disk.{Telling}
use Rattle.meaning_graph.specs.Graphs.{Graph}
use Rattle.meaning_graph.specs.Grammar.{GraphText}
use Rattle.meaning_derive.specs.Derive.{Outcomes}
use Rattle.meaning_records.specs.Tables.{Calls, kept_outcome}
use Rattle.odin_journal.specs.declared.fault.JournalFault.{JournalFault}
use Rattle.odin_journal.specs.declared.fault.JournalFault.TheVariants as store
use Rattle.odin_journal.specs.Rest.{IsReady}
use Rattle.odin_store.specs.declared.store.Store.{Store}
use Rattle.odin_store.specs.Held.{notes}
use Rattle.odin_store.specs.Going.{Performs, ChangesFollow}
use Rattle.derive_walk.specs.declared.found.Found.{Found}
use Rattle.derive_walk.specs.declared.found.Found.TheVariants.{Answer, Circular, Deep}
use Rattle.derive_walk.specs.Founds.{NodesFit}
use Rattle.derive_walk.specs.Looks.{spare_for}
use Rattle.derive_walk.specs.Outcomes.{after as after_given}
use Rattle.derive_walk.specs.Walks.{Walked, IsRight}
use Rattle.job_runner.specs.Flights.{none_in_flight}
use Rattle.plain_derive.specs.Flights.{off_course, for_spawn}
use Rattle.kept_derive.specs.declared.fault.KeptFault.{KeptFault}
use Rattle.kept_derive.specs.declared.fault.KeptFault.TheVariants.{Spawn, Disk, Full, Memory}
use Rattle.kept_derive.specs.Knowing.{IsRecorded, KnowsStore, known_in}
use Rattle.kept_derive.specs.Looked.{AreLooks, AreCounted}
use Rattle.kept_derive.specs.Rests.{LeavesTools, ComesToRest}
use Rattle.kept_derive.specs.Runs.{At, at, store_world, keeps_of, changes_for, course_of, HasFound}
use Rattle.kept_derive.specs.Stops.{IsUnkept, IsStopped}
use Rattle.kept_derive.specs.Telling.{notes_of, MayTell, HasTold, FailsToNote, FailsToTell}
use Rattle.kept_derive.specs.declared.flight.Flown.{Flown}
use Rattle.kept_derive.specs.declared.flight.Flown.TheVariants as flight
use Rattle.kept_derive.specs.Ways.{IsOnWay, IsOver, IsCutOff, EndsBy, FliesOut}
use Rattle.kept_derive.proofs.HeldLemmas.{nothing_behind, calls_after_all}
use Rattle.kept_derive.proofs.StayLemmas.{graph_after}
use Rattle.kept_derive.proofs.TurnLemmas.{still_goes, flown_so_far}
use Rattle.kept_derive.proofs.LookLemmas.{gives_up_looked, looked_all, looked_down, looked_within, same_calls, way_known, way_looked, way_looked_by}
use Rattle.kept_derive.proofs.EndLemmas.{is_found, none_not_some}
use Rattle.kept_derive.proofs.RestLemmas.{none_rests, rests_so}

module _ {D : Type 0} (told : D → Telling) (g : Graph) (root n : Node) (same : root ≡ n) (limit : ℕ) (first : At D) (walked : Walked) (now : At D) (before last : ℕ) (flown : Flown)
    (out : FliesOut told g root limit first walked now before last flown) where
  pub over_of : flown ≡ flight.Found → IsOver told g n limit first walked now
  over_of is = subst (λ r. IsOver told g r limit first walked now) same (subst (EndsBy told g root limit first walked now) is out.ends)

  pub cut_of : flown ≡ flight.Cut → IsCutOff told g n limit first walked now
  cut_of is = subst (λ r. IsCutOff told g r limit first walked now) same (subst (EndsBy told g root limit first walked now) is out.ends)

-- ---- a tool failed

module _ {D : Type 0} (told : D → Telling) (g : Graph) (n : Node) (limit : ℕ) (first : At D) (walked : Walked) (now : At D) (cut : IsCutOff told g n limit first walked now) where
  pub cut_stops : IsStopped told g n limit first now Spawn
  cut_stops = record {
    given = walked.given;
    goes = cut.way.goes;
    epoch = cut.way.epoch;
    right = λ knows. record { run = record { flown = (cut.way.right knows).flown }; knows = cut.knows knows };
  }

  pub cut_rests : {T : Type 0} → ComesToRest {T = T} LeavesTools limit first.tools now.tools (Err Spawn)
  cut_rests {T} = none_rests {T = T} limit first.tools now.tools cut.way.answer cut.way.later (Err Spawn) cut.way.running

  pub cut_looks : (before last : ℕ) → AreCounted before last (spare_for walked.looked walked.result) walked → KnowsStore g first.store → AreLooks told g n limit first now before last (Err Spawn)
  cut_looks before last counted knows = way_looked told g n first (off_course for_spawn) walked (none_in_flight limit) now cut.way knows before last counted

-- ---- something is found

changes_behind : (given : Calls) (noted : List Fact) → changes_for given noted ≡ keeps_of given ++ notes_of noted
changes_behind given [] = sym (nothing_behind (keeps_of given))
changes_behind given (fact ∷ facts) = refl

-- notes keep the calls
noted_calls : {D : Type 0} (told : D → Telling) (noted : List Fact) (store next : Store) (disk after : D) → Performs told (notes_of noted) store next disk after → ◌≡◌ {A = Outcomes} (known_in next) (known_in store)
noted_calls told noted store next disk after goes =
    let calls = calls_after_all told [] noted store next disk after (subst (λ l. Performs told l store next disk after) (sym (changes_behind [] noted)) goes) in
    ap kept_outcome (calls ∙ nothing_behind store.kept.tables.calls)

module _ {D : Type 0} (told : D → Telling) (follow : ChangesFollow told) (g : Graph) (n : Node) (limit : ℕ) (first : At D) (walked : Walked) (now : At D) (over : IsOver told g n limit first walked now) where
  -- the course on which it ended
  some_way : (found : Found) × IsOnWay told g n (course_of found) first walked (none_in_flight limit) now
  some_way = by_result walked.result refl over.some
    where
      by_result : (o : Option Found) → walked.result ≡ o → IsSome o → (found : Found) × IsOnWay told g n (course_of found) first walked (none_in_flight limit) now
      by_result (Some found) is some = (found, over.way found is)
      by_result None is some = absurd (none_not_some None refl some)

  -- What the walk tells may be kept.
  pub may_tell : (size : ℕ) → IsReady now.store.journal size → GraphText first.store.graph g → MayTell g now.store size walked
  may_tell size ready spelled = record {
    ready = ready;
    spelled = subst (λ text. GraphText text g) (sym (graph_after told walked.given first.store now.store first.disk now.disk some_way.1.goes)) spelled;
    formed = over.formed;
    found = over.some;
  }

  module _ (next : Store) (after : D) where
    -- ---- what is told is kept

    has_found : (found : Found) → HasTold told g walked now.store next now.disk after found → HasFound told g n limit first (at next after now.tools) found
    has_found found has =
        let way = over.way found has.is in
        record {
          given = walked.given;
          noted = has.noted;
          goes = subst (λ l. Performs told l first.store next first.disk after) (sym (changes_behind walked.given has.noted))
              (follow.behind (keeps_of walked.given) (notes_of has.noted) first.store now.store next first.disk now.disk after way.goes has.goes);
          epoch = has.epoch ∙ way.epoch;
          may = has.may;
          fit = subst (λ r. IfSome r (NodesFit g)) has.is over.formed.found;
          right = λ knows. let rightly = has.right (over.right knows) in record {
            run = record { flown = (way.right knows).flown };
            is = is_found told g n first (course_of found) walked (none_in_flight limit) now way knows found has.is;
            truth = rightly.truth;
            knows = rightly.knows;
            recorded = subst (λ z. IsRecorded found z next) way.root rightly.recorded;
          };
        }

    module _ (found : Found) (has : HasTold told g walked now.store next now.disk after found) (knows : KnowsStore g first.store) (before last : ℕ) where
      there : IsOnWay told g n (course_of found) first walked (none_in_flight limit) now
      there = over.way found has.is

      all_known : ◌≡◌ {A = Outcomes} (known_in next) (after_given (known_in first.store) walked.given)
      all_known = noted_calls told has.noted now.store next now.disk after has.goes ∙ way_known told g n first (course_of found) walked (none_in_flight limit) now there

      is_right : IsRight (store_world g first.store walked.given) walked
      is_right = (there.right knows).right

      found_counted : AreCounted before last (spare_for walked.looked walked.result) walked → AreCounted before last (spare_for walked.looked (Some found)) walked
      found_counted counted = subst (λ o. AreCounted before last (spare_for walked.looked o) walked) has.is counted

    has_looked : (found : Found) → HasTold told g walked now.store next now.disk after found → (before last : ℕ) → AreCounted before last (spare_for walked.looked walked.result) walked → KnowsStore g first.store
        → AreLooks told g n limit first (at next after now.tools) before last (Ok found)
    has_looked (Answer view) has before last counted knows =
        looked_all g n first.store walked (there (Answer view) has knows before last).root (is_right (Answer view) has knows before last) next (all_known (Answer view) has knows before last) has.placed view has.is before last
        (found_counted (Answer view) has knows before last counted)
    has_looked (Circular chain) has before last counted knows =
        looked_within g n first.store walked (there (Circular chain) has knows before last).root (is_right (Circular chain) has knows before last) next (all_known (Circular chain) has knows before last) before last 0
        (found_counted (Circular chain) has knows before last counted)
    has_looked (Deep chain) has before last counted knows =
        looked_down g n first.store walked (there (Deep chain) has knows before last).root (is_right (Deep chain) has knows before last) next (all_known (Deep chain) has knows before last) chain has.is before last
        (found_counted (Deep chain) has knows before last counted)

    -- ---- it is not

    not_noted : (fault : JournalFault) → FailsToNote told g walked fault now.store next now.disk after → IsUnkept told g n limit fault first (at next after now.tools)
    not_noted fault has =
        let way = some_way in
        record {
          given = walked.given;
          last = notes has.facts;
          is = tt;
          mid = now;
          goes = way.1.goes;
          epoch = way.1.epoch;
          failed = has.failed;
          right = λ knows. record {
            rest = [];
            ends = (has.facts, refl, has.right (over.right knows));
            flown = flown_so_far told g n first (course_of way.0) walked (none_in_flight limit) now way.1 knows;
          };
        }

    stops : (fault : KeptFault) → FailsToTell told g walked now.store next now.disk after fault → IsStopped told g n limit first (at next after now.tools) fault
    stops Spawn none = absurd none
    stops Disk has = not_noted store.Disk has
    stops (Full end count) has = not_noted (store.Full end count) has
    stops Memory same =
        let way = some_way in
        record {
          given = walked.given;
          goes = still_goes told follow (keeps_of walked.given) first now (at next after now.tools) way.1.goes same;
          epoch = same.store_is.epoch ∙ way.1.epoch;
          right = λ knows. record { rest = []; few = omega arith; flown = flown_so_far told g n first (course_of way.0) walked (none_in_flight limit) now way.1 knows };
        }

    stops_looked : (fault : KeptFault) → FailsToTell told g walked now.store next now.disk after fault → (before last : ℕ) → AreCounted before last (spare_for walked.looked walked.result) walked → KnowsStore g first.store
        → AreLooks told g n limit first (at next after now.tools) before last (Err fault)
    stops_looked Spawn none before last counted knows = absurd none
    stops_looked Disk has before last counted knows =
        let way = some_way in
        record {
          given = walked.given;
          rest = [];
          few = omega arith;
          mid = now;
          flown = flown_so_far told g n first (course_of way.0) walked (none_in_flight limit) now way.1 knows;
          goes = way.1.goes;
          looked = way_looked told g n first (course_of way.0) walked (none_in_flight limit) now way.1 knows before last counted;
        }
    stops_looked (Full end count) has before last counted knows =
        let way = some_way in
        way_looked_by told g n first (course_of way.0) walked (none_in_flight limit) now way.1 next (same_calls now.store next has.failed.1.0.store_is) knows before last counted
    stops_looked Memory same before last counted knows =
        let way = some_way in
        gives_up_looked told g n first (course_of way.0) walked (none_in_flight limit) now way.1 next (same_calls now.store next same.store_is) knows before last counted

    -- ---- as the answer says it

    pub told_found : (result : Result Found KeptFault) → IfOk result (HasTold told g walked now.store next now.disk after) → IfOk result (HasFound told g n limit first (at next after now.tools))
    told_found (Ok found) has = has_found found has
    told_found (Err fault) has = tt

    pub told_stops : (result : Result Found KeptFault) → IfErr result (FailsToTell told g walked now.store next now.disk after) → IfErr result (IsStopped told g n limit first (at next after now.tools))
    told_stops (Ok found) has = tt
    told_stops (Err fault) has = stops fault has

    pub told_looks : (result : Result Found KeptFault) → IfOk result (HasTold told g walked now.store next now.disk after) → IfErr result (FailsToTell told g walked now.store next now.disk after)
        → (before last : ℕ) → AreCounted before last (spare_for walked.looked walked.result) walked → KnowsStore g first.store → AreLooks told g n limit first (at next after now.tools) before last result
    told_looks (Ok found) has none before last counted knows = has_looked found has before last counted knows
    told_looks (Err fault) none has before last counted knows = stops_looked fault has before last counted knows

  pub told_rests : (result : Result Found KeptFault) → ComesToRest LeavesTools limit first.tools now.tools result
  told_rests result = let way = some_way in none_rests limit first.tools now.tools way.1.answer way.1.later result way.1.running

-- ---- as the answers say it

module _ {D : Type 0} (result : Result Found KeptFault) (told : D → Telling) (g : Graph) (n : Node) (limit : ℕ) (first now : At D) (fault : KeptFault) (is : result ≡ Err fault) where
  pub stopped_at : IsStopped told g n limit first now fault → IfErr result (IsStopped told g n limit first now)
  stopped_at stopped = subst (λ r. IfErr r (IsStopped told g n limit first now)) (sym is) stopped

  pub looks_at : (before last : ℕ) → AreLooks told g n limit first now before last (Err fault) → AreLooks told g n limit first now before last result
  looks_at before last looks = subst (AreLooks told g n limit first now before last) (sym is) looks

  pub rests_at : {T : Type 0} → ComesToRest {T = T} LeavesTools limit first.tools now.tools (Err fault) → ComesToRest LeavesTools limit first.tools now.tools result
  rests_at rest = subst (ComesToRest LeavesTools limit first.tools now.tools) (sym is) (rests_so limit first.tools now.tools fault rest)
