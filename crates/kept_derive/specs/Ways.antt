-- A derivation on its way over what a store keeps.
use Rattle.std.specs.Prelude.{◌≡◌, ◌⊎◌, ◌<◌, ◌≤◌, ℕ, List, [], length, Option, Some, None, IsSome, Err}
use Rattle.object_values.specs.declared.nodes.Node.{Node}
use Rattle.object_values.specs.declared.calls.Call.{Call}
use Rattle.odin_outside.specs.Disk.{Telling}
use Rattle.meaning_texts.specs.Lists.{IsIn}
use Rattle.meaning_graph.specs.Graphs.{Graph}
use Rattle.meaning_tasks.specs.Nodes.{Fits}
use Rattle.meaning_derive.specs.Given.{OutcomesFit}
use Rattle.odin_store.specs.Going.{Performs}
use Rattle.odin_store.specs.OnDisk.{KeepsNodes}
use Rattle.derive_walk.specs.declared.found.Found.{Found as FoundOf}
use Rattle.derive_walk.specs.Walks.{Walked, new_walk, IsFormed, IsRight}
use Rattle.derive_walk.specs.Worlds.{World}
use Rattle.job_runner.specs.Flights.{InFlight, none_in_flight, calls_in, AreDistinct, AreTold}
use Rattle.plain_derive.specs.Flights.{Why, Course, on_course, off_course, for_spawn, IsCalled, Flies}
use Rattle.plain_derive.specs.GivenLaws.{AreNew}
use Rattle.kept_derive.specs.declared.fault.KeptFault.{KeptFault}
use Rattle.kept_derive.specs.declared.flight.Flown.{Flown}
use Rattle.kept_derive.specs.declared.flight.Flown.TheVariants.{Found, Cut}
use Rattle.derive_walk.specs.Looks.{spare_for}
use Rattle.kept_derive.specs.Looked.{AreCounted, AreLooks}
use Rattle.kept_derive.specs.Knowing.{known_in, KnowsStore}
use Rattle.kept_derive.specs.Runs.{At, store_world, keeps_of, course_of}
use Rattle.kept_derive.specs.Rests.{ComesToRest, LeavesTools}
use Rattle.kept_derive.specs.Stops.{IsStopped}
use Rattle.kept_derive.specs.Telling.{world_now}

-- Its tools in flight, and the walk right by what was kept before and by what came; and while nothing is found, what is wanted was so at a moment at
-- which no chain was there.
pub record IsOnRightWay {Disk : Type 0} (g : Graph) (n : Node) (course : Course) (first : At Disk) (walked : Walked) (jobs : InFlight) (now : At Disk) : Type 0 where
  pub flown : Flies g first.store.sources.texts (known_in first.store) n jobs.limit first.tools course (record { running = jobs.running; given = walked.given; tools = now.tools })
  pub right : IsRight (store_world g first.store walked.given) walked
  pub called : walked.result ≡ None → (call : Call) → IsIn call walked.wanted → IsCalled g first.store.sources.texts (known_in first.store) n walked.given call

-- What came of its tools is kept, and nothing else changed; the walk is formed by what was kept before and by what came, which is new. What runs is
-- wanted, and the tools answer as before. Where what was kept of nodes was known, it is on its right way.
pub record IsOnWay {Disk : Type 0} (told : Disk → Telling) (g : Graph) (n : Node) (course : Course) (first : At Disk) (walked : Walked) (jobs : InFlight) (now : At Disk) : Type 0 where
  pub root : walked.root ≡ n
  pub running : AreTold jobs.running now.tools
  pub apart : AreDistinct (calls_in jobs.running)
  pub few : length jobs.running ≤ jobs.limit
  pub answer : now.tools.answer ≡ first.tools.answer
  pub later : first.tools.faults ≤ now.tools.faults
  pub goes : Performs told (keeps_of walked.given) first.store now.store first.disk now.disk
  pub epoch : now.store.epoch ≡ first.store.epoch
  pub nodes : KeepsNodes first.store now.store
  pub new : AreNew (known_in first.store) walked.given
  pub formed : IsFormed (store_world g first.store walked.given) walked
  pub runs : (call : Call) → IsIn call (calls_in jobs.running) → IsIn call walked.wanted
  pub right : KnowsStore g first.store → IsOnRightWay g n course first walked jobs now

-- Nothing has been done for it: it is formed wherever its root fits.
pub record IsUnbegun (walked : Walked) (jobs : InFlight) : Type 0 where
  pub walk : walked ≡ new_walk walked.root
  pub formed : (w : World) → Fits w.graph walked.root → OutcomesFit w.outcomes → IsFormed w walked
  pub rested : jobs ≡ none_in_flight jobs.limit

-- ---- the next start

-- A wanted call that doesn't run, where a slot is free; none where no slot is, or all that is wanted runs.
pub record IsStartable (calls : List Call) (jobs : InFlight) (call : Call) : Type 0 where
  pub wanted : IsIn call calls
  pub new : IsIn call (calls_in jobs.running) → ⊥
  pub room : length jobs.running < jobs.limit

abbrev pub IsNextStart : List Call → InFlight → Option Call → Type 0
IsNextStart wanted jobs (Some call) = IsStartable wanted jobs call
IsNextStart wanted jobs None = (length jobs.running ≡ jobs.limit) ⊎ ((call : Call) → IsIn call wanted → IsIn call (calls_in jobs.running))

-- ---- a fault

-- It is stopped by the fault, and the tools come to rest so; where what was kept of nodes was known, so are its looks.
pub record IsHalted {Disk : Type 0} (told : Disk → Telling) (g : Graph) (n : Node) (limit : ℕ) (first new : At Disk) (before last : ℕ) (fault : KeptFault) : Type 0 where
  pub stopped : IsStopped told g n limit first new fault
  pub looks : KnowsStore g first.store → AreLooks told g n limit first new before last (Err fault)
  pub rest : ComesToRest {T = Flown} LeavesTools limit first.tools new.tools (Err fault)

-- ---- what a flight comes to

-- Something is found, by what came; or a tool was not started, or its end lost.
pub record HasCome {Disk : Type 0} (told : Disk → Telling) (g : Graph) (n : Node) (first : At Disk) (walked : Walked) (jobs : InFlight) (now : At Disk) : Type 0 where
  pub way : IsOnWay told g n on_course first walked jobs now
  pub found : IsSome walked.result

abbrev pub ComesTo : {Disk : Type 0} → (Disk → Telling) → Graph → Node → At Disk → Walked → InFlight → At Disk → Flown → Type 0
ComesTo told g n first walked jobs now Found = HasCome told g n first walked jobs now
ComesTo told g n first walked jobs now Cut = IsOnWay told g n (off_course for_spawn) first walked jobs now

-- A flight came to it, as many may run as before, and each step was a look of the walk, but for those at a chain that is too deep.
pub record HasFlown {Disk : Type 0} (told : Disk → Telling) (g : Graph) (n : Node) (most : ℕ) (first : At Disk) (walked : Walked) (jobs : InFlight) (now : At Disk) (before last : ℕ) (flown : Flown) : Type 0 where
  pub comes : ComesTo told g n first walked jobs now flown
  pub limit : jobs.limit ≡ most
  pub counted : AreCounted before last (spare_for walked.looked walked.result) walked

-- ---- the draining

-- every derivation that is off its course stays so
abbrev pub StaysOff : {Disk : Type 0} → (Disk → Telling) → Walked → InFlight → At Disk → Walked → InFlight → At Disk → Type 0
StaysOff {Disk} told walked jobs old walked' jobs' new =
    (g : Graph) (n : Node) (why : Why) (first : At Disk) → IsOnWay told g n (off_course why) first walked jobs old → IsOnWay told g n (off_course why) first walked' jobs' new

-- None of its tools runs any more, and what is found of it is the same.
pub record Drains {Disk : Type 0} (told : Disk → Telling) (walked : Walked) (jobs : InFlight) (old : At Disk) (walked' : Walked) (jobs' : InFlight) (new : At Disk) : Type 0 where
  pub on : StaysOff told walked jobs old walked' jobs' new
  pub none : jobs'.running ≡ []
  pub limit : jobs'.limit ≡ jobs.limit
  pub result : walked'.result ≡ walked.result
  pub looked : walked'.looked ≡ walked.looked
  pub taken : walked'.taken ≡ walked.taken

-- every one is halted by the fault
abbrev pub DrainStops : {Disk : Type 0} → (Disk → Telling) → Walked → InFlight → At Disk → At Disk → KeptFault → Type 0
DrainStops {Disk} told walked jobs old new fault =
    (g : Graph) (n : Node) (why : Why) (first : At Disk) (before last : ℕ) → IsOnWay told g n (off_course why) first walked jobs old → AreCounted before last (spare_for walked.looked walked.result) walked
    → IsHalted told g n jobs.limit first new before last fault

-- ---- where no tool runs any more

-- Something is found, on the course on which that ends, and the walk is formed by what is kept now; where what was kept of nodes was known, it is right
-- by that.
pub record IsOver {Disk : Type 0} (told : Disk → Telling) (g : Graph) (n : Node) (limit : ℕ) (first : At Disk) (walked : Walked) (now : At Disk) : Type 0 where
  pub some : IsSome walked.result
  pub way : (found : FoundOf) → walked.result ≡ Some found → IsOnWay told g n (course_of found) first walked (none_in_flight limit) now
  pub formed : IsFormed (world_now g now.store) walked
  pub right : KnowsStore g first.store → IsRight (world_now g now.store) walked

-- A tool was not started, or its end lost; what is kept of nodes is still known.
pub record IsCutOff {Disk : Type 0} (told : Disk → Telling) (g : Graph) (n : Node) (limit : ℕ) (first : At Disk) (walked : Walked) (now : At Disk) : Type 0 where
  pub way : IsOnWay told g n (off_course for_spawn) first walked (none_in_flight limit) now
  pub knows : KnowsStore g first.store → KnowsStore g now.store

abbrev pub EndsBy : {Disk : Type 0} → (Disk → Telling) → Graph → Node → ℕ → At Disk → Walked → At Disk → Flown → Type 0
EndsBy told g n limit first walked now Found = IsOver told g n limit first walked now
EndsBy told g n limit first walked now Cut = IsCutOff told g n limit first walked now

-- It ended by one of these, and each step was a look of the walk, but for those at a chain that is too deep.
pub record FliesOut {Disk : Type 0} (told : Disk → Telling) (g : Graph) (n : Node) (limit : ℕ) (first : At Disk) (walked : Walked) (now : At Disk) (before last : ℕ) (flown : Flown) : Type 0 where
  pub ends : EndsBy told g n limit first walked now flown
  pub counted : AreCounted before last (spare_for walked.looked walked.result) walked
