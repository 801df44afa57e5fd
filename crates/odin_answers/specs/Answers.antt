-- The replies to texts, and what was run for them, over the calls that are kept.
use Rattle.std.specs.Prelude.{◌≡◌, ◌≢◌, ◌≤◌, ◌⊎◌, ◌++◌, ℕ, List, [], length, Some, IsSome}
use Rattle.object_values.specs.declared.facts.Fact.{Fact}
use Rattle.object_values.specs.declared.nodes.Node.{Node}
use Rattle.object_values.specs.declared.views.View.{View}
use Rattle.object_values.specs.declared.calls.Call.{Call}
use Rattle.odin_outside.specs.Spawned.{Spawned}
use Rattle.meaning_texts.specs.Lists.{IsIn}
use Rattle.meaning_graph.specs.Graphs.{Text, Graph}
use Rattle.meaning_derive.specs.Derive.{Sources, Outcomes, derived, IsFounded}
use Rattle.meaning_derive.specs.Calls.{IsCallFrom}
use Rattle.meaning_derive.specs.Laws.{HasMore}
use Rattle.meaning_records.specs.Tables.{Calls, kept_outcome}
use Rattle.object_values.specs.declared.replies.Reply.{Reply}
use Rattle.object_values.specs.declared.replies.Reply.TheVariants.{RefusedToolStart}
use Rattle.meaning_derive.specs.Replies.{shown, refused_circular, refused_deep}
use Rattle.meaning_derive.specs.Answers.{Refused, Asks, Answer}
use Rattle.derive_walk.specs.declared.found.Found.{Found}
use Rattle.derive_walk.specs.declared.found.Found.TheVariants as found
use Rattle.derive_walk.specs.Founds.{IsFound}
use Rattle.derive_walk.specs.Outcomes.{after}
use Rattle.plain_derive.specs.Given.{calls_of}
use Rattle.plain_derive.specs.Flights.{off_course, for_spawn, AreRun, AreFlown}
use Rattle.kept_derive.specs.Runs.{course_of}

-- ---- what was run

-- outcomes that agree with those that are kept and with those that were given
abbrev pub Agrees : Calls → Calls → Outcomes → Type 0
Agrees kept given outcomes = HasMore (after (kept_outcome kept) given) outcomes

-- the call is kept, or was given an outcome
abbrev pub IsKnown : Calls → Calls → Call → Type 0
IsKnown kept given call = IsSome (kept_outcome kept call) ⊎ IsIn call (calls_of given)

-- Where the node has a result, each of its calls is kept or was given an outcome, whatever else is known.
abbrev pub AreAll : Graph → Sources → Calls → Node → Calls → Type 0
AreAll g s kept n given =
    (outcomes : Outcomes) → Agrees kept given outcomes → IsFounded g s outcomes n
    → (call : Call) → IsCallFrom g (derived g s outcomes) n call → IsKnown kept given call

-- For a text that is refused nothing is done.
pub record IsLeftAlone (g : Graph) (text : Text) (reply : Reply) (given : Calls) (before now : Spawned) : Type 0 where
  pub refused : Refused g text reply
  pub none : given ≡ []
  pub told : now ≡ before

-- For a text of a node its tools ran, as many at once as may, and this was found by what is kept and by what came of them: a view, or a chain
-- for which nothing more was started. All its calls are known then, where the node has a result.
pub record IsDerived (g : Graph) (s : Sources) (kept : Calls) (limit : ℕ) (text : Text) (given : Calls) (before now : Spawned) : Type 0 where
  pub node : Node
  pub asks : Asks g text node
  pub found : Found
  pub run : AreRun g s (kept_outcome kept) node limit (course_of found) given before now
  pub is : IsFound g s (after (kept_outcome kept) given) node found
  pub all : AreAll g s kept node given

-- They ran until one was not started, or its end was lost; and then what ran was drained.
pub record IsDrained (g : Graph) (s : Sources) (kept : Calls) (limit : ℕ) (text : Text) (given : Calls) (before now : Spawned) : Type 0 where
  pub node : Node
  pub asks : Asks g text node
  pub run : AreRun g s (kept_outcome kept) node limit (off_course for_spawn) given before now

-- They ran up to a moment at which some may run.
pub record HaveFlown (g : Graph) (s : Sources) (kept : Calls) (limit : ℕ) (text : Text) (given : Calls) (before now : Spawned) : Type 0 where
  pub node : Node
  pub asks : Asks g text node
  pub flown : AreFlown g s (kept_outcome kept) node limit given before now

-- nothing was done
pub record IsUntouched (given : Calls) (before now : Spawned) : Type 0 where
  pub none : given ≡ []
  pub told : now ≡ before

-- The text has no reply: nothing was done, or tools of its node ran, and these outcomes came of them.
abbrev pub MayHaveBegun : Graph → Sources → Calls → ℕ → Text → Calls → Spawned → Spawned → Type 0
MayHaveBegun g s kept limit text given before now = IsUntouched given before now ⊎ HaveFlown g s kept limit text given before now

-- These outcomes came of tools, and one more at most.
pub record MayHaveBegunWith (g : Graph) (s : Sources) (kept : Calls) (limit : ℕ) (text : Text) (given : Calls) (before now : Spawned) : Type 0 where
  pub rest : Calls
  pub few : length rest ≤ 1
  pub begun : MayHaveBegun g s kept limit text (given ++ rest) before now

-- ---- replies

-- the reply that shows what was found
abbrev pub found_reply : Graph → Found → Reply
found_reply g (found.Answer view) = shown g view
found_reply g (found.Circular chain) = refused_circular g chain
found_reply g (found.Deep chain) = refused_deep g chain

-- The reply is the answer by every outcomes of calls that agree with those that are kept and were given, whatever else they are; and what
-- was run is what it takes.
pub record HasAnswer (g : Graph) (s : Sources) (kept : Calls) (limit : ℕ) (text : Text) (reply : Reply) (given : Calls) (before now : Spawned) : Type 0 where
  pub answer : (outcomes : Outcomes) → Agrees kept given outcomes → Answer g s outcomes text reply
  pub did : IsLeftAlone g text reply given before now ⊎ IsDerived g s kept limit text given before now

-- A tool of the derivation was not started, or its end was lost: a fault, which was counted. The text is one of a node.
pub record IsStartRefused (g : Graph) (s : Sources) (kept : Calls) (limit : ℕ) (text : Text) (reply : Reply) (given : Calls) (before now : Spawned) : Type 0 where
  pub is : reply ≡ RefusedToolStart
  pub drained : IsDrained g s kept limit text given before now

-- The answer, or that a tool was not started.
abbrev pub IsReply : Graph → Sources → Calls → ℕ → Text → Reply → Calls → Spawned → Spawned → Type 0
IsReply g s kept limit text reply given before now = HasAnswer g s kept limit text reply given before now ⊎ IsStartRefused g s kept limit text reply given before now

-- The text is refused, and nothing is done; or, where this holds, it is the reply.
abbrev pub IsReplyIf : Type 0 → Graph → Sources → Calls → ℕ → Text → Reply → Calls → Spawned → Spawned → Type 0
IsReplyIf trust g s kept limit text reply given before now = IsLeftAlone g text reply given before now ⊎ (trust → IsReply g s kept limit text reply given before now)

-- ---- records

-- it is noted of the node
pub record HasFact (n : Node) (records : List Fact) : Type 0 where
  pub fact : Fact
  pub there : IsIn fact records
  pub is : fact.node ≡ n

-- Where an object is answered, its node has a record, unless it is a source.
abbrev pub IsRecordedFor : Graph → Sources → Outcomes → Text → Reply → List Fact → Type 0
IsRecordedFor g s outcomes text reply records =
    (n : Node) (view : View) → Asks g text n → derived g s outcomes n ≡ Some view → reply ≡ shown g view → n.steps ≢ [] → HasFact n records
