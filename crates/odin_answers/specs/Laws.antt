-- What follows from replies: how the count of the tools' faults goes on, which calls were run, that what is kept stays true, and that an
-- answer is one.
use Rattle.std.specs.Prelude.{◌≡◌, ◌≤◌, ◌⊎◌, ◌↔◌, ℕ, [], ◌++◌, None, Some}
use Rattle.object_values.specs.declared.nodes.Node.{Node}
use Rattle.object_values.specs.declared.calls.Call.{Call}
use Rattle.odin_outside.specs.Causes.{IsCounted}
use Rattle.odin_outside.specs.Spawned.{Table, Spawned}
use Rattle.meaning_texts.specs.Lists.{IsIn}
use Rattle.meaning_graph.specs.Graphs.{Text, Graph}
use Rattle.object_values.specs.declared.views.View.{View}
use Rattle.meaning_derive.specs.Derive.{Sources, Outcomes, derived, text_of, IsFounded}
use Rattle.meaning_derive.specs.Chains.{IsMet}
use Rattle.meaning_derive.specs.Calls.{IsCallFrom}
use Rattle.meaning_derive.specs.Given.{table_outcomes}
use Rattle.meaning_derive.specs.Laws.{HasMore}
use Rattle.meaning_records.specs.Tables.{Calls, kept_outcome}
use Rattle.object_values.specs.declared.replies.Reply.{Reply}
use Rattle.meaning_derive.specs.Answers.{Asks, Answer}
use Rattle.meaning_derive.specs.AnswerLaws.{BothShowChains}
use Rattle.derive_walk.specs.Calls.{AreOnce}
use Rattle.derive_walk.specs.Outcomes.{after}
use Rattle.plain_derive.specs.Given.{calls_of}
use Rattle.plain_derive.specs.Flights.{at_rest}
use Rattle.plain_derive.specs.FlightLaws.{HasStarted}
use Rattle.odin_answers.specs.Answers.{Agrees, AreAll, IsDerived, HasAnswer, IsStartRefused, IsReply, MayHaveBegun}

-- ---- counts

-- An answer never lets it fall, and leaves it where the node has a result: only while a chain is drained may an end be lost.
pub record AnswersAreCounted : Type 0 where
  pub later : (g : Graph) (s : Sources) (kept : Calls) (limit : ℕ) (text : Text) (reply : Reply)
      (given : Calls) (before now : Spawned) → HasAnswer g s kept limit text reply given before now
      → before.faults ≤ now.faults
  pub same : (g : Graph) (s : Sources) (kept : Calls) (limit : ℕ) (text : Text) (reply : Reply)
      (given : Calls) (before now : Spawned) → HasAnswer g s kept limit text reply given before now
      → (n : Node) → Asks g text n → (outcomes : Outcomes) → Agrees kept given outcomes
      → IsFounded g s outcomes n → now.faults ≡ before.faults

-- A refused start raised it.
abbrev pub RefusalIsCounted : Type 0
RefusalIsCounted =
    (g : Graph) (s : Sources) (kept : Calls) (limit : ℕ) (text : Text) (reply : Reply)
    (given : Calls) (before now : Spawned)
    → IsStartRefused g s kept limit text reply given before now
    → IsCounted before.faults now.faults

-- Without a reply it never falls.
abbrev pub NoneIsTakenBack : Type 0
NoneIsTakenBack =
    (g : Graph) (s : Sources) (kept : Calls) (limit : ℕ) (text : Text) (given : Calls)
    (before now : Spawned) → MayHaveBegun g s kept limit text given before now
    → before.faults ≤ now.faults

-- ---- the calls

-- These are calls of the node, whatever else is known; each once, and none that was kept; and all of the others where the node has a result.
pub record AreItsCalls (g : Graph) (s : Sources) (kept : Calls) (n : Node) (given : Calls) : Type 0 where
  pub only : (outcomes : Outcomes) → Agrees kept given outcomes → (call : Call)
      → IsIn call (calls_of given) → IsCallFrom g (derived g s outcomes) n call
  pub once : AreOnce (calls_of given)
  pub new : (call : Call) → IsIn call (calls_of given) → kept_outcome kept call ≡ None
  pub all : AreAll g s kept n given

-- What came of tools for a text are calls of its node.
abbrev pub CallsAreItsOwn : Type 0
CallsAreItsOwn =
    (g : Graph) (s : Sources) (kept : Calls) (limit : ℕ) (text : Text) (given : Calls)
    (before now : Spawned) → (d : IsDerived g s kept limit text given before now)
    → AreItsCalls g s kept d.node given

-- Each tool that was started for a text was started for a call of its node that isn't kept, and no call was started twice.
pub record HaveStarted (g : Graph) (s : Sources) (kept : Calls) (text : Text) (given : Calls) (before now : Spawned) : Type 0 where
  pub node : Node
  pub asks : Asks g text node
  pub started : HasStarted g s (kept_outcome kept) node before (at_rest given now)

abbrev pub StartsOnlyIts : Graph → Sources → Calls → Text → Calls → Spawned → Spawned → Type 0
StartsOnlyIts g s kept text given before now = (now ≡ before) ⊎ HaveStarted g s kept text given before now

-- So it is of every ask: with an answer, with a refused start, and without a reply.
pub record StartsAreItsOwn : Type 0 where
  pub replied : (g : Graph) (s : Sources) (kept : Calls) (limit : ℕ) (text : Text) (reply : Reply)
      (given : Calls) (before now : Spawned) → IsReply g s kept limit text reply given before now
      → StartsOnlyIts g s kept text given before now
  pub begun : (g : Graph) (s : Sources) (kept : Calls) (limit : ℕ) (text : Text) (given : Calls)
      (before now : Spawned) → MayHaveBegun g s kept limit text given before now
      → StartsOnlyIts g s kept text given before now

-- Nothing is run, and the text is answered: no start is refused.
pub record IsAnsweredAtOnce (g : Graph) (s : Sources) (kept : Calls) (limit : ℕ) (text : Text) (reply : Reply) (given : Calls) (before now : Spawned) : Type 0 where
  pub answer : HasAnswer g s kept limit text reply given before now
  pub none : given ≡ []
  pub told : now ≡ before

-- What was answered once is answered from what is kept then, from the same sources, however many tools may run.
abbrev pub AskedAgain : Type 0
AskedAgain =
    (g : Graph) (s : Sources) (kept later : Calls) (limit most : ℕ) (text : Text)
    (reply other : Reply) (given more : Calls) (before now before' now' : Spawned)
    → HasAnswer g s kept limit text reply given before now
    → Agrees kept given (kept_outcome later)
    → IsReply g s later most text other more before' now'
    → IsAnsweredAtOnce g s later most text other more before' now'

-- ---- the table

-- The tools answer by this table, and each call that is kept has the outcome that it gives.
pub record IsTrueFor (table : Table) (tools : Spawned) (kept : Calls) : Type 0 where
  pub told : tools.answer ≡ Some table
  pub gives : HasMore (kept_outcome kept) (table_outcomes table)

-- By a table what is kept stays true, with a reply and without one.
pub record KeptStaysTrueByAsk : Type 0 where
  pub replied : (g : Graph) (table : Table) (s : Sources) (kept : Calls) (limit : ℕ)
      (text : Text) (reply : Reply) (given : Calls) (before now : Spawned)
      → IsTrueFor table before kept → IsReply g s kept limit text reply given before now
      → IsTrueFor table now (kept ++ given)
  pub begun : (g : Graph) (table : Table) (s : Sources) (kept : Calls) (limit : ℕ)
      (text : Text) (given rest : Calls) (before now : Spawned) → IsTrueFor table before kept
      → MayHaveBegun g s kept limit text (given ++ rest) before now
      → IsTrueFor table now (kept ++ given)

-- By a table a reply that is no refused start is what is derived with nothing kept.
abbrev pub AnswersAreFresh : Type 0
AnswersAreFresh =
    (g : Graph) (table : Table) (s : Sources) (kept : Calls) (limit : ℕ) (text : Text)
    (reply : Reply) (given : Calls) (before now : Spawned) → IsTrueFor table before kept
    → HasAnswer g s kept limit text reply given before now
    → Answer g s (table_outcomes table) text reply

-- ---- one answer

-- the same calls are kept, each with the same outcome
abbrev pub KeepSame : Calls → Calls → Type 0
KeepSame kept other = (call : Call) → kept_outcome other call ≡ kept_outcome kept call

-- The same calls were given outcomes, and so the same are kept then.
pub record RunSame (kept kept' given given' : Calls) : Type 0 where
  pub calls : (call : Call) → IsIn call (calls_of given) ↔ IsIn call (calls_of given')
  pub keep : KeepSame (kept ++ given) (kept' ++ given')

-- The replies are the same; and where the same calls are kept, the same are run.
pub record AreSameAnswers (kept kept' given given' : Calls) (reply other : Reply) : Type 0 where
  pub same : other ≡ reply
  pub run : KeepSame kept kept' → RunSame kept kept' given given'

-- By a table a text has one answer from the same sources, whatever is kept, but for the choice of the chain that a refusal shows.
abbrev pub KeptAnswerIsUnique : Type 0
KeptAnswerIsUnique =
    (g : Graph) (table : Table) (s : Sources) (kept kept' : Calls) (limit most : ℕ)
    (text : Text) (reply other : Reply) (given given' : Calls) (before now before' now' : Spawned)
    → IsTrueFor table before kept → IsTrueFor table before' kept'
    → HasAnswer g s kept limit text reply given before now
    → HasAnswer g s kept' most text other given' before' now'
    → AreSameAnswers kept kept' given given' reply other
    ⊎ BothShowChains g s (table_outcomes table) text reply other

-- ---- sources that an object doesn't need

-- An object was answered, of which this view was derived. Whatever becomes of the sources that aren't met from it, and whatever is kept
-- more, it is answered by the same reply, and nothing is run.
abbrev pub OthersDontMatter : Type 0
OthersDontMatter =
    (g : Graph) (s other : Sources) (kept later : Calls) (limit most : ℕ) (text : Text) (n : Node)
    (view : View) (reply answer : Reply) (given more : Calls) (before now before' now' : Spawned)
    → HasAnswer g s kept limit text reply given before now → Asks g text n
    → derived g s (after (kept_outcome kept) given) n ≡ Some view
    → Agrees kept given (kept_outcome later)
    → ((m : Node) → IsMet g (derived g s (after (kept_outcome kept) given)) n m → m.steps ≡ []
    → text_of s m.source ≡ text_of other m.source)
    → IsReply g other later most text answer more before' now'
    → (answer ≡ reply) × IsAnsweredAtOnce g other later most text answer more before' now'
