-- What the events of a log lead to: what runs by them, and which jobs they brought to an end.
use Rattle.std.specs.Prelude.{◌≡◌, ◌==◌, not, ℕ, List, [], ◌∷◌, ◌++◌, map, filter, Option, Some, None}
use Rattle.object_values.specs.declared.jobs.Job.{Job}
use Rattle.odin_outside.specs.declared.events.Running.{Running}
use Rattle.odin_outside.specs.declared.events.ToolEvent.{ToolEvent}
use Rattle.odin_outside.specs.declared.events.ToolEvent.TheVariants.{Began, Ended, Lost}

-- What runs, each job in its slot, and the jobs that came to an end, in the order of their ends.
pub record Followed : Type 0 where
  pub running : List Running
  pub ended : List Job

abbrev pub followed : List Running → List Job → Followed
followed running ended = record { running = running; ended = ended }

-- the jobs that run in the slot: one at most, where no slot has two
abbrev pub jobs_at : ℕ → List Running → List Job
jobs_at slot running = map (λ (tool : Running). tool.job) (filter (λ (tool : Running). tool.slot == slot) running)

-- what runs in other slots
abbrev pub elsewhere : ℕ → List Running → List Running
elsewhere slot running = filter (λ (tool : Running). not (tool.slot == slot)) running

-- A start runs on in its slot, an end brings the job of its slot to an end, and a lost end does not.
abbrev pub follow_one : ToolEvent → Followed → Followed
follow_one (Began slot job) so_far = followed (so_far.running ++ (record { slot = slot; job = job }) ∷ []) so_far.ended
follow_one (Ended slot) so_far = followed (elsewhere slot so_far.running) (so_far.ended ++ jobs_at slot so_far.running)
follow_one (Lost slot) so_far = followed (elsewhere slot so_far.running) so_far.ended

-- one event after another
abbrev pub follow : List ToolEvent → Followed → Followed
follow [] so_far = so_far
follow (event ∷ events) so_far = follow events (follow_one event so_far)

-- Where the log is told, it went on by events which lead from nothing to this: just these run, and just these jobs came to an end, in this
-- order.
abbrev pub LogLeadsTo : Option (List ToolEvent) → Option (List ToolEvent) → List Running → List Job → Type 0
LogLeadsTo None now running ended = now ≡ None
LogLeadsTo (Some front) now running ended = (events : List ToolEvent) × (now ≡ Some (front ++ events)) × (follow events (followed [] []) ≡ followed running ended)
