-- A derivation on its way: where it begins, and what may be waited for.
use Rattle.std.proofs.Common.{◌≡◌, ◌⊎◌, ℕ, List, [], length, inl, inr, refl, sym, ap, subst, arith, ◌∙◌}
use Rattle.std.specs.Prelude.{⊤, None}
use Rattle.object_values.specs.declared.nodes.Node.{Node}
use Rattle.object_values.specs.declared.calls.Call.{Call}
use Rattle.odin_outside.specs.Disk.{Telling}
use Rattle.odin_outside.specs.Spawned.{Spawned}
use Rattle.meaning_texts.specs.Lists.{IsIn}
use Rattle.meaning_graph.specs.Graphs.{Graph}
use Rattle.meaning_tasks.specs.Nodes.{Fits}
use Rattle.meaning_derive.specs.Derive.{Sources, Outcomes}
use Rattle.meaning_derive.specs.Calls.{IsFrontier}
use Rattle.meaning_derive.specs.Given.{OutcomesFit}
use Rattle.meaning_records.specs.Tables.{Calls}
use Rattle.odin_journal.specs.Rest.{IsReady}
use Rattle.odin_store.specs.Going.{Performs, ChangesFollow}
use Rattle.derive_walk.specs.Outcomes.{after}
use Rattle.derive_walk.specs.Walks.{Walked, new_walk, IsRight, AreFrontier, IsAdvanced, FindsOrWants}
use Rattle.derive_walk.specs.Worlds.{World}
use Rattle.derive_walk.proofs.Lemmas.{new_is_right}
use Rattle.job_runner.specs.declared.jobs.Flying.{Flying}
use Rattle.job_runner.specs.Flights.{InFlight, calls_in, AreDistinct, AreTold}
use Rattle.job_runner.proofs.Lemmas.{calls_long}
use Rattle.plain_derive.specs.Flights.{Flight, Course, on_course, off_course, WaitsForCall, IsFull, IsClear, Flies}
use Rattle.plain_derive.specs.GivenLaws.{AreNew}
use Rattle.kept_derive.specs.Knowing.{known_in, KnowsStore}
use Rattle.kept_derive.specs.Runs.{At, store_world, keeps_of}
use Rattle.kept_derive.specs.Calls.{MayDrain}
use Rattle.kept_derive.specs.Ways.{IsOnWay, IsOnRightWay, IsUnbegun, IsNextStart}
use Rattle.kept_derive.proofs.CallLemmas.{same_here}
use Rattle.kept_derive.proofs.StayLemmas.{known_now}

abbrev pub flight_at : Walked → InFlight → Spawned → Flight
flight_at walked jobs tools = record { running = jobs.running; given = walked.given; tools = tools }

-- what an end stands on: on its course as many run as may
abbrev pub MayEnd : Graph → Sources → Outcomes → Node → ℕ → Course → Flight → Type 0
MayEnd g s kept n limit on_course f = IsFull (WaitsForCall g s kept n f.given) limit (calls_in f.running) × IsClear g s kept n limit f
MayEnd g s kept n limit (off_course why) f = ⊤

-- as many run as may, or the walk has gone as far as it can
abbrev pub IsFresh : World → Walked → InFlight → Type 0
IsFresh w walked jobs = (length jobs.running ≡ jobs.limit) ⊎ IsAdvanced w walked

module _ {D : Type 0} (told : D → Telling) (g : Graph) (n : Node) (first : At D) where
  -- ---- at the start

  pub start : ChangesFollow told → (walked : Walked) (jobs : InFlight) → walked.root ≡ n → IsUnbegun walked jobs → Fits g n → OutcomesFit (known_in first.store) → first.tools.running ≡ [] → IsOnWay told g n on_course first walked jobs first
  start follow walked jobs root unbegun fits fit idle =
      let none : jobs.running ≡ [] = ap (λ (z : InFlight). z.running) unbegun.rested in
      let is : walked ≡ new_walk n = unbegun.walk ∙ ap new_walk root in
      let nothing : walked.given ≡ [] = ap (λ (z : Walked). z.given) is in
      let fitting : OutcomesFit (after (known_in first.store) walked.given) = subst (λ (l : Calls). OutcomesFit (after (known_in first.store) l)) (sym nothing) fit in
      record {
        root = root;
        running = subst (λ (l : List Flying). AreTold l first.tools) (sym none) idle;
        apart = subst (λ (l : List Flying). AreDistinct (calls_in l)) (sym none) tt;
        few = omega (arith, ap length none);
        answer = refl;
        later = omega arith;
        goes = subst (λ (l : Calls). Performs told (keeps_of l) first.store first.store first.disk first.disk) (sym nothing) (follow.none first.store first.store first.disk first.disk (same_here first.store first.disk));
        epoch = refl;
        nodes = refl;
        new = subst (λ (l : Calls). AreNew (known_in first.store) l) (sym nothing) (record { once = tt; none = λ call i. absurd i });
        formed = unbegun.formed (store_world g first.store walked.given) (subst (λ r. Fits g r) (sym root) fits) fitting;
        runs = λ call i. absurd (subst (λ (l : List Flying). IsIn call (calls_in l)) none i);
        right = λ knows. record {
          flown = subst (λ (z : List Flying × Calls). Flies g first.store.sources.texts (known_in first.store) n jobs.limit first.tools on_course (record { running = z.0; given = z.1; tools = first.tools })) (λ i. (sym none i, sym nothing i)) Flies.none_flown;
          right = subst (λ (z : Walked). IsRight (store_world g first.store z.given) z) (sym is) (new_is_right (store_world g first.store []) n fits fit knows);
          called = λ still call i. absurd (subst (λ (z : Walked). IsIn call z.wanted) is i);
        };
      }

  -- Where it is right there by another course, it is on that.
  pub on_other : (course other : Course) (walked : Walked) (jobs : InFlight) (now : At D) → IsOnWay told g n course first walked jobs now → (KnowsStore g first.store → IsOnRightWay g n other first walked jobs now)
      → IsOnWay told g n other first walked jobs now
  on_other _ other walked jobs now way right = record {
    root = way.root;
    running = way.running;
    apart = way.apart;
    few = way.few;
    answer = way.answer;
    later = way.later;
    goes = way.goes;
    epoch = way.epoch;
    nodes = way.nodes;
    new = way.new;
    formed = way.formed;
    runs = way.runs;
    right = right;
  }

  -- Where nothing is found what is wanted is the whole frontier.
  pub frontier : (walked : Walked) → walked.root ≡ n → walked.result ≡ None → IsAdvanced (store_world g first.store walked.given) walked → AreFrontier (store_world g first.store walked.given) n walked.wanted
  frontier walked root still ended =
      let there = subst (λ z. FindsOrWants (store_world g first.store walked.given) walked.root walked.wanted z) still ended in
      subst (λ z. FindsOrWants (store_world g first.store walked.given) z walked.wanted None) root there

  module _ (course : Course) (walked : Walked) (jobs : InFlight) (now : At D) (way : IsOnWay told g n course first walked jobs now) where
    -- Each call that runs may be kept as it ends.
    pub may_drain : (size : ℕ) → IsReady now.store.journal size → MayDrain walked jobs now.store size now.tools
    may_drain size ready =
        let known : ◌≡◌ {A = Outcomes} (known_in now.store) (after (known_in first.store) walked.given) = known_now told g first walked.given now way.goes way.new in
        record {
          told = way.running;
          apart = way.apart;
          once = way.formed.wanted.once;
          wanted = way.runs;
          keepable = λ call i. record {
            formed = way.formed.wanted.each call (way.runs call i);
            new = ap (λ (p : Outcomes). p call) known ∙ way.formed.wanted.outside call (way.runs call i);
          };
          ready = ready;
        }

    -- ---- where it is right

    module _ (is : IsOnRightWay g n course first walked jobs now) where
      pub waits : (call : Call) → IsIn call walked.wanted → WaitsForCall g first.store.sources.texts (known_in first.store) n walked.given call
      waits call i = subst (λ z. IsFrontier g first.store.sources.texts (after (known_in first.store) walked.given) z call) way.root (is.right.wanted call i)

      limited : length jobs.running ≡ jobs.limit → MayEnd g first.store.sources.texts (known_in first.store) n jobs.limit on_course (flight_at walked jobs now.tools)
      limited full = (
        record { only = λ call i. waits call (way.runs call i); once = way.apart; few = omega (arith, way.few, calls_long jobs.running); full = inl (calls_long jobs.running ∙ full) },
        inl full,
      )

      -- as many run as may
      pub may_wait : walked.result ≡ None → IsNextStart walked.wanted jobs None → IsFresh (store_world g first.store walked.given) walked jobs → MayEnd g first.store.sources.texts (known_in first.store) n jobs.limit on_course (flight_at walked jobs now.tools)
      may_wait still (inl full) fresh = limited full
      may_wait still (inr all) (inl full) = limited full
      may_wait still (inr all) (inr ended) =
          let there = frontier walked way.root still ended in (
            record { only = λ call i. waits call (way.runs call i); once = way.apart; few = omega (arith, way.few, calls_long jobs.running); full = inr (λ call stops. all call (there.each call stops)) },
            inr (λ r. there.calm r.chain r.is),
          )
