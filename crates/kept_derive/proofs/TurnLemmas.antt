-- One turn of a derivation on its way: a call is started, or one ends or is lost, or the walk goes on.
use Rattle.std.proofs.Common.{◌≡◌, ◌≤◌, ℕ, List, [], ◌∷◌, ◌++◌, length, inl, inr, refl, sym, ap, subst, arith, append_assoc, length-append, ◌∙◌}
use Rattle.std.specs.Prelude.{Bool, None, IsTrue}
use Rattle.object_values.specs.declared.nodes.Node.{Node}
use Rattle.object_values.specs.declared.calls.Call.{Call}
use Rattle.object_values.specs.declared.calls.Outcome.{Outcome}
use Rattle.odin_outside.specs.declared.events.ToolEvent.TheVariants.{Ended, Lost as LostEnd}
use Rattle.odin_outside.specs.Causes.{IsCounted}
use Rattle.odin_outside.specs.Disk.{Telling}
use Rattle.odin_outside.specs.Spawned.{Spawned, Fails}
use Rattle.meaning_texts.specs.Lists.{IsIn}
use Rattle.meaning_graph.specs.Graphs.{Graph}
use Rattle.meaning_derive.specs.Derive.{Sources}
use Rattle.meaning_records.specs.Tables.{Calls}
use Rattle.odin_journal.specs.declared.fault.JournalFault.{JournalFault}
use Rattle.odin_journal.specs.declared.fault.JournalFault.TheVariants as store
use Rattle.odin_journal.specs.Rest.{IsReady}
use Rattle.odin_store.specs.declared.store.Store.{Store}
use Rattle.odin_store.specs.Held.{Change, keeps}
use Rattle.odin_store.specs.OnDisk.{IsSame}
use Rattle.odin_store.specs.Going.{Performs, ChangesFollow}
use Rattle.derive_walk.specs.Keeping.{Keeping}
use Rattle.derive_walk.specs.Outcomes.{after}
use Rattle.derive_walk.specs.Settings.{world_by}
use Rattle.derive_walk.specs.Walks.{Walked, IsFormed, IsRight, IsAdvanced, ExtendsWalk as WalkGoesOn}
use Rattle.derive_core.specs.Kept.{keeping_of}
use Rattle.job_runner.specs.declared.jobs.Flying.{Flying}
use Rattle.job_runner.specs.Flights.{InFlight, flying, calls_in, AreDistinct, landed, IsOut, HasBegun, HasEnded, HasLost}
use Rattle.job_runner.specs.Made.{IsOutcomeOfCall}
use Rattle.job_runner.proofs.Lemmas.{distinct_more, calls_one_more, call_or_last, begun_told}
use Rattle.plain_derive.specs.Given.{IsRefusedBy}
use Rattle.plain_derive.specs.GivenLaws.{AreNew}
use Rattle.plain_derive.specs.Flights.{Flight, ends, loses, Course, on_course, off_course, for_chain, for_spawn, WaitsForCall, IsCalled, MayBegin, Flies, AreFlown}
use Rattle.kept_derive.specs.declared.fault.KeptFault.{KeptFault}
use Rattle.kept_derive.specs.declared.fault.KeptFault.TheVariants.{Spawn, Disk, Full, Memory}
use Rattle.kept_derive.specs.Knowing.{known_in, KnowsStore}
use Rattle.kept_derive.specs.Looked.{AreCounted}
use Rattle.kept_derive.specs.Runs.{At, at, store_world, keeps_of}
use Rattle.kept_derive.specs.Stops.{IsUnkept, IsStopped}
use Rattle.kept_derive.specs.declared.landing.Landed.{Landed}
use Rattle.kept_derive.specs.declared.landing.Landed.TheVariants.{Kept, Lost}
use Rattle.kept_derive.specs.Calls.{HasLanded, HasCrashed, HasSpilled, Lands, FailsToLand}
use Rattle.kept_derive.specs.Ways.{IsOnWay, IsStartable, StaysOff}
use Rattle.kept_derive.proofs.HeldLemmas.{keeps_one_more, nothing_behind}
use Rattle.kept_derive.proofs.CallLemmas.{same_here, out_rest, out_limit, out_ran, out_fewer, out_before, out_other, out_apart}
use Rattle.kept_derive.proofs.StayLemmas.{one_more_new}
use Rattle.kept_derive.proofs.WayLemmas.{flight_at, MayEnd, waits, frontier, on_other}

-- a lost end puts a derivation off its course, if it isn't off it yet
abbrev pub after_loss : Course → Course
after_loss on_course = off_course for_spawn
after_loss (off_course why) = off_course why

-- changes, and then none
pub still_goes : {D : Type 0} (told : D → Telling) → ChangesFollow told → (changes : List Change) (first mid last : At D) → Performs told changes first.store mid.store first.disk mid.disk → IsSame mid.store last.store mid.disk last.disk
    → Performs told changes first.store last.store first.disk last.disk
still_goes told follow changes first mid last goes same =
    subst (λ l. Performs told l first.store last.store first.disk last.disk) (nothing_behind changes)
    (follow.behind changes [] first.store mid.store last.store first.disk mid.disk last.disk goes (follow.none mid.store last.store mid.disk last.disk same))

module _ {D : Type 0} (told : D → Telling) (g : Graph) (n : Node) (first : At D) where
  -- ---- an end, on its course or off it

  flies_ended : (course : Course) (f : Flight) (limit : ℕ) (front back : List Flying) (slot : ℕ) (call : Call) (outcome : Outcome) → Flies g first.store.sources.texts (known_in first.store) n limit first.tools course f
      → MayEnd g first.store.sources.texts (known_in first.store) n limit course f → f.running ≡ front ++ flying slot call ∷ back → WaitsForCall g first.store.sources.texts (known_in first.store) n f.given call → IsOutcomeOfCall first.tools.answer call outcome
      → Flies g first.store.sources.texts (known_in first.store) n limit first.tools course (ends f (front ++ back) slot call outcome)
  flies_ended on_course f limit front back slot call outcome flown may was stops came = Flies.one_ended f front back slot call outcome flown was may.0 may.1 came
  flies_ended (off_course why) f limit front back slot call outcome flown may was stops came = Flies.one_drained why f front back slot call outcome flown was stops came

  flies_lost : (course : Course) (f : Flight) (limit : ℕ) (front back : List Flying) (slot : ℕ) (call : Call) (faults : ℕ) → Flies g first.store.sources.texts (known_in first.store) n limit first.tools course f
      → MayEnd g first.store.sources.texts (known_in first.store) n limit course f → f.running ≡ front ++ flying slot call ∷ back → IsCounted f.tools.faults faults
      → Flies g first.store.sources.texts (known_in first.store) n limit first.tools (after_loss course) (loses f (front ++ back) slot faults)
  flies_lost on_course f limit front back slot call faults flown may was counted = Flies.end_lost f front back slot call faults flown was may.0 may.1 counted
  flies_lost (off_course why) f limit front back slot call faults flown may was counted = Flies.drain_lost why f front back slot call faults flown was counted

  -- what was called is so still
  called_on : (given later more : Calls) (call : Call) → later ≡ given ++ more → IsCalled g first.store.sources.texts (known_in first.store) n given call → IsCalled g first.store.sources.texts (known_in first.store) n later call
  called_on given later more call is called = record {
    seen = called.seen;
    since = called.since ++ more;
    is = is ∙ ap (λ (l : Calls). l ++ more) called.is ∙ append_assoc called.seen called.since more;
    stops = called.stops;
    calm = called.calm;
  }

  -- an end may be waited for where it is right
  abbrev pub MayEndIf : Course → Walked → InFlight → At D → Type 0
  MayEndIf course walked jobs now = KnowsStore g first.store → MayEnd g first.store.sources.texts (known_in first.store) n jobs.limit course (flight_at walked jobs now.tools)

  module _ (course : Course) (walked : Walked) (jobs : InFlight) (old : At D) (way : IsOnWay told g n course first walked jobs old) (may : MayEndIf course walked jobs old) where
    flight_ended : KnowsStore g first.store → (call : Call) (outcome : Outcome) (jobs' : InFlight) (new : At D) → HasEnded call outcome jobs old.tools jobs' new.tools
        → Flies g first.store.sources.texts (known_in first.store) n jobs.limit first.tools course (record { running = jobs'.running; given = walked.given ++ (call, outcome) ∷ []; tools = new.tools })
    flight_ended knows call outcome jobs' new ended =
        let is = way.right knows in
        let rest : jobs'.running ≡ ended.out.front ++ ended.out.back = out_rest ended.slot call jobs jobs' ended.out in
        let tools : new.tools ≡ landed old.tools (ended.out.front ++ ended.out.back) (Ended ended.slot) old.tools.faults = ended.told ∙ ap (λ l. landed old.tools l (Ended ended.slot) old.tools.faults) rest in
        subst (λ (z : List Flying × Spawned). Flies g first.store.sources.texts (known_in first.store) n jobs.limit first.tools course (record { running = z.0; given = walked.given ++ (call, outcome) ∷ []; tools = z.1 })) (λ i. (sym rest i, sym tools i))
        (flies_ended course (flight_at walked jobs old.tools) jobs.limit ended.out.front ended.out.back ended.slot call outcome is.flown (may knows) ended.out.was
        (waits told g n first course walked jobs old way is call (way.runs call (out_ran ended.slot call jobs jobs' ended.out)))
        (subst (λ a. IsOutcomeOfCall a call outcome) way.answer ended.came))

    flight_lost : KnowsStore g first.store → (jobs' : InFlight) (new : At D) → HasLost jobs old.tools jobs' new.tools
        → Flies g first.store.sources.texts (known_in first.store) n jobs.limit first.tools (after_loss course) (record { running = jobs'.running; given = walked.given; tools = new.tools })
    flight_lost knows jobs' new lost =
        let rest : jobs'.running ≡ lost.out.front ++ lost.out.back = out_rest lost.slot lost.call jobs jobs' lost.out in
        let tools : new.tools ≡ landed old.tools (lost.out.front ++ lost.out.back) (LostEnd lost.slot) new.tools.faults = lost.told ∙ ap (λ l. landed old.tools l (LostEnd lost.slot) new.tools.faults) rest in
        subst (λ (z : List Flying × Spawned). Flies g first.store.sources.texts (known_in first.store) n jobs.limit first.tools (after_loss course) (record { running = z.0; given = walked.given; tools = z.1 })) (λ i. (sym rest i, sym tools i))
        (flies_lost course (flight_at walked jobs old.tools) jobs.limit lost.out.front lost.out.back lost.slot lost.call new.tools.faults (way.right knows).flown (may knows) lost.out.was lost.counted)

    few_left : (slot : ℕ) (call : Call) (jobs' : InFlight) → IsOut slot call jobs jobs' → length jobs'.running ≤ jobs.limit
    few_left slot call jobs' out = omega (arith, way.few, out_fewer slot call jobs jobs' out)

    -- one ended as it may, is kept, and is given to the walk
    pub lands : ChangesFollow told → (walked' : Walked) (jobs' : InFlight) (new : At D) → HasLanded told walked jobs old walked' jobs' new → IsFormed (store_world g first.store walked'.given) walked'
        → (IsRight (store_world g first.store walked.given) walked → IsRight (store_world g first.store walked'.given) walked') → IsOnWay told g n course first walked' jobs' new
    lands follow walked' jobs' new has formed right =
        let out = has.ended.out in
        let limit : jobs'.limit ≡ jobs.limit = out_limit has.ended.slot has.call jobs jobs' out in
        record {
          root = has.given.root ∙ way.root;
          running = ap (λ (z : Spawned). z.running) has.ended.told;
          apart = out_apart has.ended.slot has.call jobs jobs' out way.apart;
          few = omega (arith, few_left has.ended.slot has.call jobs' out, limit);
          answer = ap (λ (z : Spawned). z.answer) has.ended.told ∙ way.answer;
          later = subst (λ k. first.tools.faults ≤ k) (sym (ap (λ (z : Spawned). z.faults) has.ended.told)) way.later;
          goes = subst (λ l. Performs told l first.store new.store first.disk new.disk) (sym (ap keeps_of has.given.given ∙ keeps_one_more walked.given has.call has.outcome))
              (follow.behind (keeps_of walked.given) (keeps has.call has.outcome ∷ []) first.store old.store new.store first.disk old.disk new.disk way.goes has.goes);
          epoch = has.epoch ∙ way.epoch;
          nodes = has.nodes ∙ way.nodes;
          new = subst (λ (l : Calls). AreNew (known_in first.store) l) (sym has.given.given)
              (one_more_new (known_in first.store) walked.given has.call has.outcome way.new (way.formed.wanted.outside has.call (way.runs has.call (out_ran has.ended.slot has.call jobs jobs' out))));
          formed = formed;
          runs = λ c i. (has.given.wanted c).1 (way.runs c (out_before has.ended.slot has.call jobs jobs' out c i), out_other has.ended.slot has.call jobs jobs' out way.apart c i);
          right = λ knows. let is = way.right knows in record {
            flown = subst (λ (z : ℕ × Calls). Flies g first.store.sources.texts (known_in first.store) n z.0 first.tools course (record { running = jobs'.running; given = z.1; tools = new.tools })) (λ i. (sym limit i, sym has.given.given i))
                (flight_ended knows has.call has.outcome jobs' new has.ended);
            right = right is.right;
            called = λ still c i. called_on walked.given walked'.given ((has.call, has.outcome) ∷ []) c has.given.given (is.called (sym has.given.result ∙ still) c ((has.given.wanted c).0 i).0);
          };
        }

    -- its end was lost
    pub crashes : ChangesFollow told → (walked' : Walked) (jobs' : InFlight) (new : At D) → HasCrashed told walked jobs old walked' jobs' new → IsOnWay told g n (after_loss course) first walked' jobs' new
    crashes follow walked' jobs' new has =
        let out = has.lost.out in
        let limit : jobs'.limit ≡ jobs.limit = out_limit has.lost.slot has.lost.call jobs jobs' out in
        let there : IsOnWay told g n (after_loss course) first walked jobs' new = record {
          root = way.root;
          running = ap (λ (z : Spawned). z.running) has.lost.told;
          apart = out_apart has.lost.slot has.lost.call jobs jobs' out way.apart;
          few = omega (arith, few_left has.lost.slot has.lost.call jobs' out, limit);
          answer = ap (λ (z : Spawned). z.answer) has.lost.told ∙ way.answer;
          later = omega (arith, way.later, has.lost.counted.later);
          goes = still_goes told follow (keeps_of walked.given) first old new way.goes has.same;
          epoch = has.same.store_is.epoch ∙ way.epoch;
          nodes = has.same.nodes ∙ way.nodes;
          new = way.new;
          formed = way.formed;
          runs = λ c i. way.runs c (out_before has.lost.slot has.lost.call jobs jobs' out c i);
          right = λ knows. let is = way.right knows in record {
            flown = subst (λ (z : ℕ). Flies g first.store.sources.texts (known_in first.store) n z first.tools (after_loss course) (record { running = jobs'.running; given = walked.given; tools = new.tools })) (sym limit) (flight_lost knows jobs' new has.lost);
            right = is.right;
            called = is.called;
          };
        } in
        subst (λ (z : Walked). IsOnWay told g n (after_loss course) first z jobs' new) (sym has.walk) there

    -- ---- it stops at a fault

    -- up to an end with which nothing was kept
    pub flown_over : KnowsStore g first.store → (call : Call) (outcome : Outcome) (jobs' : InFlight) (new : At D) → HasEnded call outcome jobs old.tools jobs' new.tools
        → AreFlown g first.store.sources.texts (known_in first.store) n jobs.limit (walked.given ++ (call, outcome) ∷ []) first.tools new.tools
    flown_over knows call outcome jobs' new ended = record { course = course; running = jobs'.running; few = few_left ended.slot call jobs' ended.out; flown = flight_ended knows call outcome jobs' new ended }

    spills : (fault : JournalFault) (walked' : Walked) (jobs' : InFlight) (new : At D) → HasSpilled told walked jobs old walked' jobs' new fault → IsUnkept told g n jobs.limit fault first new
    spills fault walked' jobs' new has = record {
      given = walked.given;
      last = keeps has.call has.outcome;
      is = tt;
      mid = old;
      goes = way.goes;
      epoch = way.epoch;
      failed = has.failed;
      right = λ knows. record { rest = (has.call, has.outcome) ∷ []; ends = (refl, refl); flown = flown_over knows has.call has.outcome jobs' new has.ended };
    }

    pub fails : ChangesFollow told → (walked' : Walked) (jobs' : InFlight) (new : At D) (fault : KeptFault) → FailsToLand told walked jobs old walked' jobs' new fault → IsStopped told g n jobs.limit first new fault
    fails follow walked' jobs' new Spawn none = absurd none
    fails follow walked' jobs' new Disk has = spills store.Disk walked' jobs' new has
    fails follow walked' jobs' new (Full end count) has = spills (store.Full end count) walked' jobs' new has
    fails follow walked' jobs' new Memory (inl held) = record {
      given = walked.given;
      goes = still_goes told follow (keeps_of walked.given) first old new way.goes held.same;
      epoch = held.same.store_is.epoch ∙ way.epoch;
      right = λ knows. elim held.may [
        | inl none ↦ record {
          rest = [];
          few = omega arith;
          flown = record {
            course = course;
            running = jobs.running;
            few = way.few;
            flown = subst (λ (z : Calls × Spawned). Flies g first.store.sources.texts (known_in first.store) n jobs.limit first.tools course (record { running = jobs.running; given = z.0; tools = z.1 })) (λ i. (sym (nothing_behind walked.given) i, sym none.1 i)) (way.right knows).flown;
          };
        }
        | inr up ↦ record { rest = (up.call, up.outcome) ∷ []; few = omega arith; flown = flown_over knows up.call up.outcome jobs' new up.ended }
      ];
    }
    fails follow walked' jobs' new Memory (inr has) = record {
      given = walked.given ++ (has.call, has.outcome) ∷ [];
      goes = subst (λ l. Performs told l first.store new.store first.disk new.disk) (sym (keeps_one_more walked.given has.call has.outcome))
          (follow.behind (keeps_of walked.given) (keeps has.call has.outcome ∷ []) first.store old.store new.store first.disk old.disk new.disk way.goes has.goes);
      epoch = has.epoch ∙ way.epoch;
      right = λ knows. record {
        rest = [];
        few = omega arith;
        flown = subst (λ (l : Calls). AreFlown g first.store.sources.texts (known_in first.store) n jobs.limit l first.tools new.tools) (sym (nothing_behind (walked.given ++ (has.call, has.outcome) ∷ []))) (flown_over knows has.call has.outcome jobs' new has.ended);
      };
    }

  -- ---- where it is

  -- it is given up before anything is done
  pub none_begun : ChangesFollow told → (limit : ℕ) → IsStopped told g n limit first first Memory
  none_begun follow limit = record {
    given = [];
    goes = follow.none first.store first.store first.disk first.disk (same_here first.store first.disk);
    epoch = refl;
    right = λ knows. record {
      rest = [];
      few = omega arith;
      flown = record { course = on_course; running = []; few = omega arith; flown = Flies.none_flown };
    };
  }

  module _ (course : Course) (walked : Walked) (jobs : InFlight) (old : At D) (way : IsOnWay told g n course first walked jobs old) where
    pub flown_so_far : KnowsStore g first.store → AreFlown g first.store.sources.texts (known_in first.store) n jobs.limit (walked.given ++ []) first.tools old.tools
    flown_so_far knows = record {
      course = course;
      running = jobs.running;
      few = way.few;
      flown = subst (λ (l : Calls). Flies g first.store.sources.texts (known_in first.store) n jobs.limit first.tools course (record { running = jobs.running; given = l; tools = old.tools })) (sym (nothing_behind walked.given)) (way.right knows).flown;
    }

    -- memory was wanting, and nothing happened
    pub gives_up : IsStopped told g n jobs.limit first old Memory
    gives_up = record { given = walked.given; goes = way.goes; epoch = way.epoch; right = λ knows. record { rest = []; few = omega arith; flown = flown_so_far knows } }

  -- ---- on its course

  module _ (walked : Walked) (jobs : InFlight) (old : At D) (way : IsOnWay told g n on_course first walked jobs old) where
    may_begin : KnowsStore g first.store → walked.result ≡ None → (call : Call) → IsStartable walked.wanted jobs call → MayBegin g first.store.sources.texts (known_in first.store) n jobs.limit (flight_at walked jobs old.tools) call
    may_begin knows still call next =
        let is = way.right knows in
        record { waits = waits told g n first on_course walked jobs old way is call next.wanted; called = is.called still call next.wanted; new = next.new; room = next.room }

    -- a call is started
    pub starts : walked.result ≡ None → (call : Call) (jobs' : InFlight) (tools : Spawned) → IsStartable walked.wanted jobs call → HasBegun call jobs old.tools jobs' tools → IsOnWay told g n on_course first walked jobs' (at old.store old.disk tools)
    starts still call jobs' tools next begins =
        let running : jobs'.running ≡ jobs.running ++ flying begins.slot call ∷ [] = ap (λ (z : InFlight). z.running) begins.is in
        let limit : jobs'.limit ≡ jobs.limit = ap (λ (z : InFlight). z.limit) begins.is in
        record {
          root = way.root;
          running = begun_told jobs old.tools way.running jobs' tools call begins;
          apart = subst (λ (l : List Flying). AreDistinct (calls_in l)) (sym running) (subst AreDistinct (sym (calls_one_more jobs.running (flying begins.slot call))) (distinct_more (calls_in jobs.running) call way.apart next.new));
          few = omega (arith, next.room, limit, ap length running, length-append jobs.running (flying begins.slot call ∷ []));
          answer = ap (λ (z : Spawned). z.answer) begins.told ∙ way.answer;
          later = subst (λ k. first.tools.faults ≤ k) (sym (ap (λ (z : Spawned). z.faults) begins.told)) way.later;
          goes = way.goes;
          epoch = way.epoch;
          nodes = way.nodes;
          new = way.new;
          formed = way.formed;
          runs = λ c i. elim (call_or_last jobs.running begins.slot call c (subst (λ (l : List Flying). IsIn c (calls_in l)) running i)) [
            | inl j ↦ way.runs c j
            | inr e ↦ subst (λ z. IsIn z walked.wanted) (sym e) next.wanted
          ];
          right = λ knows. let is = way.right knows in record {
            flown = subst (λ (z : InFlight × Spawned). Flies g first.store.sources.texts (known_in first.store) n z.0.limit first.tools on_course (record { running = z.0.running; given = walked.given; tools = z.1 })) (λ i. (sym begins.is i, sym begins.told i))
                (Flies.one_began (flight_at walked jobs old.tools) begins.slot call is.flown (may_begin knows still call next) begins.free);
            right = is.right;
            called = is.called;
          };
        }

    -- a start is refused
    pub refuses : walked.result ≡ None → (call : Call) (jobs' : InFlight) (tools : Spawned) → IsStartable walked.wanted jobs call → jobs' ≡ jobs → Fails old.tools tools → IsOnWay told g n (off_course for_spawn) first walked jobs' (at old.store old.disk tools)
    refuses still call jobs' tools next same fails =
        let there : IsOnWay told g n (off_course for_spawn) first walked jobs (at old.store old.disk tools) = record {
          root = way.root;
          running = ap (λ (z : Spawned). z.running) fails.is ∙ way.running;
          apart = way.apart;
          few = way.few;
          answer = ap (λ (z : Spawned). z.answer) fails.is ∙ way.answer;
          later = omega (arith, way.later, fails.counted.later);
          goes = way.goes;
          epoch = way.epoch;
          nodes = way.nodes;
          new = way.new;
          formed = way.formed;
          runs = way.runs;
          right = λ knows. let is = way.right knows in record {
            flown = Flies.start_refused (flight_at walked jobs old.tools) call tools is.flown (may_begin knows still call next) fails;
            right = is.right;
            called = is.called;
          };
        } in
        subst (λ (z : InFlight). IsOnWay told g n (off_course for_spawn) first walked z (at old.store old.disk tools)) (sym same) there

    -- The walk goes on as far as it can.
    pub advances : (walked' : Walked) → WalkGoesOn walked walked' → IsFormed (store_world g first.store walked'.given) walked'
        → (IsRight (store_world g first.store walked.given) walked → IsRight (store_world g first.store walked'.given) walked' × IsAdvanced (store_world g first.store walked'.given) walked')
        → IsOnWay told g n on_course first walked' jobs old
    advances walked' on formed right =
        let root : walked'.root ≡ n = on.root ∙ way.root in
        record {
          root = root;
          running = way.running;
          apart = way.apart;
          few = way.few;
          answer = way.answer;
          later = way.later;
          goes = subst (λ (l : Calls). Performs told (keeps_of l) first.store old.store first.disk old.disk) (sym on.given) way.goes;
          epoch = way.epoch;
          nodes = way.nodes;
          new = subst (λ (l : Calls). AreNew (known_in first.store) l) (sym on.given) way.new;
          formed = formed;
          runs = λ c i. on.wanted c (way.runs c i);
          right = λ knows. let is = way.right knows in let there = right is.right in record {
            flown = subst (λ (l : Calls). Flies g first.store.sources.texts (known_in first.store) n jobs.limit first.tools on_course (record { running = jobs.running; given = l; tools = old.tools })) (sym on.given) is.flown;
            right = there.0;
            called = λ still c i.
                let all = frontier told g n first walked' root still there.1 in
                record { seen = walked'.given; since = []; is = sym (nothing_behind walked'.given); stops = all.only c i; calm = λ r. all.calm r.chain r.is };
          };
        }

    -- A chain is found: nothing more is started.
    pub finds_chain : (KnowsStore g first.store → IsRefusedBy g first.store.sources.texts (after (known_in first.store) walked.given) n) → IsOnWay told g n (off_course for_chain) first walked jobs old
    finds_chain refused = on_other told g n first on_course (off_course for_chain) walked jobs old way (λ knows. let is = way.right knows in record {
      flown = Flies.chain_found (flight_at walked jobs old.tools) is.flown (refused knows);
      right = is.right;
      called = is.called;
    })

-- ---- off its course, whether an end was lost or not

pub stays_off : {D : Type 0} (told : D → Telling) → ChangesFollow told → (walked : Walked) (jobs : InFlight) (old : At D) (walked' : Walked) (jobs' : InFlight) (new : At D) (landed : Landed) → Lands told walked jobs old walked' jobs' new landed
    → ((g : Graph) (s : Sources) (keeping : Keeping) → IsFormed (world_by keeping g s walked.given) walked → IsFormed (world_by keeping g s walked'.given) walked')
    → ((g : Graph) (s : Sources) (keeping : Keeping) → IsRight (world_by keeping g s walked.given) walked → IsRight (world_by keeping g s walked'.given) walked') → StaysOff told walked jobs old walked' jobs' new
stays_off told follow walked jobs old walked' jobs' new Kept has formed right g n why first way =
    lands told g n first (off_course why) walked jobs old way (λ knows. tt) follow walked' jobs' new has (formed g first.store.sources.texts (keeping_of first.store.kept first.store.epoch) way.formed)
    (right g first.store.sources.texts (keeping_of first.store.kept first.store.epoch))
stays_off told follow walked jobs old walked' jobs' new Lost has formed right g n why first way = crashes told g n first (off_course why) walked jobs old way (λ knows. tt) follow walked' jobs' new has

-- ---- a flight in its turns

-- It is on its way, nothing is found, and where it is fresh and right the walk has gone as far as it can.
pub record IsFlying {D : Type 0} (told : D → Telling) (size_of faults : D → ℕ) (g : Graph) (n : Node) (most : ℕ) (first : At D) (begun : ℕ) (walked : Walked) (jobs : InFlight) (store : Store) (disk : D) (tools : Spawned) (steps : ℕ) (newest : Bool) : Type 0 where
  pub way : IsOnWay told g n on_course first walked jobs (at store disk tools)
  pub still : walked.result ≡ None
  pub fresh : IsTrue newest → KnowsStore g first.store → IsAdvanced (store_world g first.store walked.given) walked
  pub ready : IsReady store.journal (size_of disk)
  pub limit : jobs.limit ≡ most
  pub cause : faults disk ≡ faults first.disk
  pub counted : AreCounted begun steps 0 walked

pub flying_moves : {D : Type 0} (told : D → Telling) (size_of faults : D → ℕ) (g : Graph) (n : Node) (most : ℕ) (first : At D) (begun : ℕ)
    {walked walked' : Walked} {jobs jobs' : InFlight} {store store' : Store} {disk disk' : D} {tools tools' : Spawned} {steps steps' : ℕ} {newest newest' : Bool}
    → walked' ≡ walked → jobs' ≡ jobs → store' ≡ store → disk' ≡ disk → tools' ≡ tools → steps' ≡ steps → newest' ≡ newest
    → IsFlying told size_of faults g n most first begun walked jobs store disk tools steps newest → IsFlying told size_of faults g n most first begun walked' jobs' store' disk' tools' steps' newest'
flying_moves {D} told size_of faults g n most first begun walked_is jobs_is store_is disk_is tools_is steps_is newest_is it =
    subst (λ (z : Walked × InFlight × Store × D × Spawned × ℕ × Bool). IsFlying told size_of faults g n most first begun z.0 z.1 z.2 z.3 z.4 z.5 z.6)
    (λ i. (sym walked_is i, sym jobs_is i, sym store_is i, sym disk_is i, sym tools_is i, sym steps_is i, sym newest_is i)) it
