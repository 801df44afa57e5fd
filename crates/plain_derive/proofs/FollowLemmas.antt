-- What the log of a flight leads to.
use Rattle.std.proofs.Common.{◌≡◌, ◌≢◌, ℕ, Bool, true, false, not, cond, List, [], ◌∷◌, ◌++◌, map, filter, inl, inr, refl, sym, ap, subst, append_assoc, ◌∙◌}
use Rattle.std.specs.Prelude.{◌==◌, Option, Some, None}
use Rattle.std.proofs.lemmas.Bool.{eq-eqb, ne_eqb}
use Rattle.std.proofs.lemmas.List.{append-nil}
use Rattle.object_values.specs.declared.nodes.Node.{Node}
use Rattle.object_values.specs.declared.calls.Call.{Call}
use Rattle.object_values.specs.declared.calls.Outcome.{Outcome}
use Rattle.object_values.specs.declared.jobs.Job.{Job}
use Rattle.odin_outside.specs.declared.events.Running.{Running}
use Rattle.odin_outside.specs.declared.events.ToolEvent.{ToolEvent}
use Rattle.odin_outside.specs.declared.events.ToolEvent.TheVariants.{Began, Ended, Lost}
use Rattle.odin_outside.specs.Spawned.{Spawned, noted}
use Rattle.meaning_texts.specs.Lists.{IsIn}
use Rattle.meaning_calls.specs.Jobs.{job_of}
use Rattle.meaning_graph.specs.Graphs.{Graph}
use Rattle.meaning_derive.specs.Derive.{Sources, Outcomes}
use Rattle.derive_walk.specs.Calls.{GivenOutcomes as Listed}
use Rattle.job_runner.specs.declared.jobs.Flying.{Flying}
use Rattle.job_runner.specs.Flights.{flying, slots_in, tool_of, AreDistinct}
use Rattle.job_runner.proofs.Lemmas.{distinct_more, distinct_less, slots_one_more, slots_cut, slots_both, told_one_more}
use Rattle.plain_derive.specs.Given.{calls_of}
use Rattle.plain_derive.specs.Flights.{Flight, Course, on_course, off_course, Flies}
use Rattle.plain_derive.specs.FlightLaws.{FlightsAreLogged}
use Rattle.plain_derive.specs.Followed.{Followed, followed, jobs_at, elsewhere, follow_one, follow, LogLeadsTo}
use Rattle.plain_derive.proofs.GivenLemmas.{one_more_call}
use Rattle.plain_derive.proofs.StartLemmas.{jobs_more}

-- ---- what runs in a slot

-- a tool of another slot
other_slot : (f : Flying) (slot : ℕ) (rest : List Running) → f.slot ≢ slot → (jobs_at slot (tool_of f ∷ rest) ≡ jobs_at slot rest) × (elsewhere slot (tool_of f ∷ rest) ≡ tool_of f ∷ elsewhere slot rest)
other_slot f slot rest apart =
    let no : (f.slot == slot) ≡ false = ne_eqb f.slot slot apart in
    let there : List Running = filter (λ (tool : Running). tool.slot == slot) rest in (
      ap (λ (b : Bool). map (λ (tool : Running). tool.job) (cond b (tool_of f ∷ there) there)) no,
      ap (λ (b : Bool). cond (not b) (tool_of f ∷ elsewhere slot rest) (elsewhere slot rest)) no,
    )

-- the tool of the slot
this_slot : (slot : ℕ) (call : Call) (rest : List Running) → (jobs_at slot (tool_of (flying slot call) ∷ rest) ≡ job_of call ∷ jobs_at slot rest) × (elsewhere slot (tool_of (flying slot call) ∷ rest) ≡ elsewhere slot rest)
this_slot slot call rest =
    let yes : (slot == slot) ≡ true = eq-eqb slot slot refl in
    let there : List Running = filter (λ (tool : Running). tool.slot == slot) rest in (
      ap (λ (b : Bool). map (λ (tool : Running). tool.job) (cond b (tool_of (flying slot call) ∷ there) there)) yes,
      ap (λ (b : Bool). cond (not b) (tool_of (flying slot call) ∷ elsewhere slot rest) (elsewhere slot rest)) yes,
    )

none_at : (running : List Flying) (slot : ℕ) → (IsIn slot (slots_in running) → ⊥) → (jobs_at slot (map tool_of running) ≡ []) × (elsewhere slot (map tool_of running) ≡ map tool_of running)
none_at [] slot none = (refl, refl)
none_at (f ∷ running) slot none =
    let first = other_slot f slot (map tool_of running) (λ e. none (inl (sym e))) in
    let more = none_at running slot (λ i. none (inr i)) in
    (first.0 ∙ more.0, first.1 ∙ ap (λ (l : List Running). tool_of f ∷ l) more.1)

slot_there : (front back : List Flying) (slot : ℕ) (call : Call) → IsIn slot (slots_in (front ++ flying slot call ∷ back))
slot_there [] back slot call = inl refl
slot_there (f ∷ front) back slot call = inr (slot_there front back slot call)

-- Just the call of the slot runs there.
one_at : (front back : List Flying) (slot : ℕ) (call : Call) → AreDistinct (slots_in (front ++ flying slot call ∷ back))
    → (jobs_at slot (map tool_of (front ++ flying slot call ∷ back)) ≡ job_of call ∷ []) × (elsewhere slot (map tool_of (front ++ flying slot call ∷ back)) ≡ map tool_of (front ++ back))
one_at [] back slot call apart =
    let first = this_slot slot call (map tool_of back) in
    let more = none_at back slot apart.0 in
    (first.0 ∙ ap (λ (l : List Job). job_of call ∷ l) more.0, first.1 ∙ more.1)
one_at (f ∷ front) back slot call apart =
    let all : List Flying = front ++ flying slot call ∷ back in
    let first = other_slot f slot (map tool_of all) (λ e. apart.0 (subst (λ k. IsIn k (slots_in all)) (sym e) (slot_there front back slot call))) in
    let more = one_at front back slot call apart.1 in
    (first.0 ∙ more.0, first.1 ∙ ap (λ (l : List Running). tool_of f ∷ l) more.1)

-- ---- events after events

follow_both : (events more : List ToolEvent) (so_far : Followed) → follow (events ++ more) so_far ≡ follow more (follow events so_far)
follow_both [] more so_far = refl
follow_both (event ∷ events) more so_far = follow_both events more (follow_one event so_far)

-- What came to an end before stays in front.
ended_before : (events : List ToolEvent) (running : List Running) (front ended : List Job)
    → follow events (followed running (front ++ ended)) ≡ followed (follow events (followed running ended)).running (front ++ (follow events (followed running ended)).ended)
ended_before [] running front ended = refl
ended_before (Began slot job ∷ events) running front ended = ended_before events (running ++ (record { slot = slot; job = job }) ∷ []) front ended
ended_before (Ended slot ∷ events) running front ended =
    ap (λ (l : List Job). follow events (followed (elsewhere slot running) l)) (append_assoc front ended (jobs_at slot running)) ∙ ended_before events (elsewhere slot running) front (ended ++ jobs_at slot running)
ended_before (Lost slot ∷ events) running front ended = ended_before events (elsewhere slot running) front ended

pub log_stays : (log : Option (List ToolEvent)) → LogLeadsTo log log [] []
log_stays None = refl
log_stays (Some front) = ([], ap (λ (l : List ToolEvent). Some l) (sym (append-nil front)), refl)

log_more : (front now : Option (List ToolEvent)) (event : ToolEvent) (running running' : List Running) (ended ended' : List Job) → follow_one event (followed running ended) ≡ followed running' ended'
    → LogLeadsTo front now running ended → LogLeadsTo front (noted now event) running' ended'
log_more None now event running running' ended ended' step has = ap (λ o. noted o event) has
log_more (Some front) now event running running' ended ended' step has = (
  has.0 ++ event ∷ [],
  ap (λ o. noted o event) has.1 ∙ ap (λ (l : List ToolEvent). Some l) (append_assoc front has.0 (event ∷ [])),
  follow_both has.0 (event ∷ []) (followed [] []) ∙ ap (follow_one event) has.2 ∙ step,
)

-- one stretch of the log after another, with nothing running between them
pub log_both : (first mid last : Option (List ToolEvent)) (ended more : List Job) → LogLeadsTo first mid [] ended → LogLeadsTo mid last [] more → LogLeadsTo first last [] (ended ++ more)
log_both None mid last ended more has next = subst (λ o. LogLeadsTo o last [] more) has next
log_both (Some front) mid last ended more has next =
    let then : LogLeadsTo (Some (front ++ has.0)) last [] more = subst (λ o. LogLeadsTo o last [] more) has.1 next in (
      has.0 ++ then.0,
      then.1 ∙ ap (λ (l : List ToolEvent). Some l) (append_assoc front has.0 then.0),
      follow_both has.0 then.0 (followed [] [])
          ∙ ap (follow then.0) has.2
          ∙ ap (λ (l : List Job). follow then.0 (followed [] l)) (sym (append-nil ended))
          ∙ ended_before then.0 [] ended []
          ∙ ap (λ (so_far : Followed). followed so_far.running (ended ++ so_far.ended)) then.2,
    )

-- ---- over a flight

-- the jobs of calls that were given outcomes, and one more
jobs_given : (given : Listed) (call : Call) (outcome : Outcome) → ◌≡◌ {A = List Job} (map job_of (calls_of (given ++ (call, outcome) ∷ []))) (map job_of (calls_of given) ++ job_of call ∷ [])
jobs_given given call outcome = ap (λ (l : List Call). map job_of l) (one_more_call given call outcome) ∙ jobs_more (calls_of given) call

left_apart : (running front back : List Flying) (slot : ℕ) (call : Call) → running ≡ front ++ flying slot call ∷ back → AreDistinct (slots_in running) → AreDistinct (slots_in (front ++ back))
left_apart running front back slot call is apart =
    subst AreDistinct (sym (slots_both front back)) (distinct_less (slots_in front) (slots_in back) slot (subst AreDistinct (ap slots_in is ∙ slots_cut front back (flying slot call)) apart))

-- an end and a lost end of one of these
one_ends : (running front back : List Flying) (slot : ℕ) (call : Call) (ended : List Job) → running ≡ front ++ flying slot call ∷ back → AreDistinct (slots_in running)
    → follow_one (Ended slot) (followed (map tool_of running) ended) ≡ followed (map tool_of (front ++ back)) (ended ++ job_of call ∷ [])
one_ends running front back slot call ended is apart =
    let one = one_at front back slot call (subst (λ l. AreDistinct (slots_in l)) is apart) in
    let rest : elsewhere slot (map tool_of running) ≡ map tool_of (front ++ back) = ap (λ (l : List Flying). elsewhere slot (map tool_of l)) is ∙ one.1 in
    let job : jobs_at slot (map tool_of running) ≡ job_of call ∷ [] = ap (λ (l : List Flying). jobs_at slot (map tool_of l)) is ∙ one.0 in
    λ i. followed (rest i) (ended ++ job i)

one_is_lost : (running front back : List Flying) (slot : ℕ) (call : Call) (ended : List Job) → running ≡ front ++ flying slot call ∷ back → AreDistinct (slots_in running)
    → follow_one (Lost slot) (followed (map tool_of running) ended) ≡ followed (map tool_of (front ++ back)) ended
one_is_lost running front back slot call ended is apart =
    let one = one_at front back slot call (subst (λ l. AreDistinct (slots_in l)) is apart) in
    ap (λ (l : List Running). followed l ended) (ap (λ (l : List Flying). elsewhere slot (map tool_of l)) is ∙ one.1)

module _ (g : Graph) (s : Sources) (kept : Outcomes) (n : Node) (limit : ℕ) (before : Spawned) where
  -- no slot has two
  pub flown_apart : (course : Course) (f : Flight) → Flies g s kept n limit before course f → AreDistinct (slots_in f.running)
  flown_apart way f Flies.none_flown = tt
  flown_apart way f (Flies.one_began o slot call flown may free) = subst AreDistinct (sym (slots_one_more o.running (flying slot call))) (distinct_more (slots_in o.running) slot (flown_apart on_course o flown) free)
  flown_apart way f (Flies.one_ended o front back slot call outcome flown is full clear came) = left_apart o.running front back slot call is (flown_apart on_course o flown)
  flown_apart way f (Flies.chain_found o flown refused) = flown_apart on_course f flown
  flown_apart way f (Flies.start_refused o call tools flown may fails) = flown_apart on_course o flown
  flown_apart way f (Flies.end_lost o front back slot call faults flown is full clear counted) = left_apart o.running front back slot call is (flown_apart on_course o flown)
  flown_apart way f (Flies.one_drained why o front back slot call outcome flown is waits came) = left_apart o.running front back slot call is (flown_apart (off_course why) o flown)
  flown_apart way f (Flies.drain_lost why o front back slot call faults flown is counted) = left_apart o.running front back slot call is (flown_apart (off_course why) o flown)

  -- what the log of a flight leads to
  abbrev Leads : Flight → Type 0
  Leads f = LogLeadsTo before.log f.tools.log (map tool_of f.running) (map job_of (calls_of f.given))

  after_end : (course : Course) (o : Flight) (front back : List Flying) (slot : ℕ) (call : Call) (outcome : Outcome) → Flies g s kept n limit before course o → o.running ≡ front ++ flying slot call ∷ back → Leads o
      → LogLeadsTo before.log (noted o.tools.log (Ended slot)) (map tool_of (front ++ back)) (map job_of (calls_of (o.given ++ (call, outcome) ∷ [])))
  after_end course o front back slot call outcome flown is leads =
      let jobs = jobs_given o.given call outcome in
      log_more before.log o.tools.log (Ended slot) (map tool_of o.running) (map tool_of (front ++ back)) (map job_of (calls_of o.given)) (map job_of (calls_of (o.given ++ (call, outcome) ∷ [])))
      (one_ends o.running front back slot call (map job_of (calls_of o.given)) is (flown_apart course o flown) ∙ ap (λ (l : List Job). followed (map tool_of (front ++ back)) l) (sym jobs)) leads

  after_loss : (course : Course) (o : Flight) (front back : List Flying) (slot : ℕ) (call : Call) → Flies g s kept n limit before course o → o.running ≡ front ++ flying slot call ∷ back → Leads o
      → LogLeadsTo before.log (noted o.tools.log (Lost slot)) (map tool_of (front ++ back)) (map job_of (calls_of o.given))
  after_loss course o front back slot call flown is leads =
      log_more before.log o.tools.log (Lost slot) (map tool_of o.running) (map tool_of (front ++ back)) (map job_of (calls_of o.given)) (map job_of (calls_of o.given))
      (one_is_lost o.running front back slot call (map job_of (calls_of o.given)) is (flown_apart course o flown)) leads

  pub flown_leads : (course : Course) (f : Flight) → Flies g s kept n limit before course f → Leads f
  flown_leads way f Flies.none_flown = log_stays before.log
  flown_leads way f (Flies.one_began o slot call flown may free) =
      log_more before.log o.tools.log (Began slot (job_of call)) (map tool_of o.running) (map tool_of (o.running ++ flying slot call ∷ [])) (map job_of (calls_of o.given)) (map job_of (calls_of o.given))
      (ap (λ (l : List Running). followed l (map job_of (calls_of o.given))) (sym (told_one_more o.running (flying slot call)))) (flown_leads on_course o flown)
  flown_leads way f (Flies.one_ended o front back slot call outcome flown is full clear came) = after_end on_course o front back slot call outcome flown is (flown_leads on_course o flown)
  flown_leads way f (Flies.chain_found o flown refused) = flown_leads on_course f flown
  flown_leads way f (Flies.start_refused o call tools flown may fails) =
      subst (λ l. LogLeadsTo before.log l (map tool_of o.running) (map job_of (calls_of o.given))) (sym (ap (λ (z : Spawned). z.log) fails.is)) (flown_leads on_course o flown)
  flown_leads way f (Flies.end_lost o front back slot call faults flown is full clear counted) = after_loss on_course o front back slot call flown is (flown_leads on_course o flown)
  flown_leads way f (Flies.one_drained why o front back slot call outcome flown is waits came) = after_end (off_course why) o front back slot call outcome flown is (flown_leads (off_course why) o flown)
  flown_leads way f (Flies.drain_lost why o front back slot call faults flown is counted) = after_loss (off_course why) o front back slot call flown is (flown_leads (off_course why) o flown)

pub flights_are_logged : FlightsAreLogged
flights_are_logged g s kept n limit before course f flown = flown_leads g s kept n limit before course f flown
