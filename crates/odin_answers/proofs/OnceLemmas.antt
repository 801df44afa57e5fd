-- What was run for a text, and that what is kept stays true.
use Rattle.std.proofs.Common.{◌≡◌, ◌⊎◌, ℕ, Bool, true, false, cond, [], ◌∷◌, ◌++◌, refl, ap, sym, subst, inl, inr, is_some, ◌∙◌}
use Rattle.std.specs.Prelude.{Some}
use Rattle.object_values.specs.declared.nodes.Node.{Node}
use Rattle.object_values.specs.declared.calls.Call.{Call}
use Rattle.object_values.specs.declared.calls.Outcome.{Outcome}
use Rattle.object_values.specs.contracts.calls.CallPartialEq.TheImpl.{ghosts as call_eq}
use Rattle.odin_outside.specs.Spawned.{Table, Spawned}
use Rattle.meaning_texts.proofs.Lemmas.{in_left}
use Rattle.meaning_graph.specs.Graphs.{Text, Graph}
use Rattle.meaning_derive.specs.Derive.{Sources}
use Rattle.meaning_derive.specs.Calls.{IsFrontier}
use Rattle.meaning_derive.specs.Given.{table_outcomes}
use Rattle.meaning_derive.specs.Laws.{HasMore}
use Rattle.meaning_derive.proofs.Lemmas.{no_frontier}
use Rattle.meaning_records.specs.Tables.{Calls, kept_outcome}
use Rattle.object_values.specs.declared.replies.Reply.{Reply}
use Rattle.meaning_derive.specs.Answers.{Asks, Answer}
use Rattle.meaning_derive.proofs.Lemmas.{not_refused, one_node}
use Rattle.derive_walk.specs.Calls.{outcome_in}
use Rattle.plain_derive.specs.Given.{HaveCome, IsRefusedBy}
use Rattle.plain_derive.specs.Flights.{Course, Flight, Flies, at_rest, for_spawn, off_course}
use Rattle.plain_derive.specs.FlightLaws.{HasStarted, IsUnflown}
use Rattle.plain_derive.proofs.Lemmas.{given_are_calls, given_are_new, given_are_true, given_is_in, known_fly_none, refused_fly_none, only_needed_starts}
use Rattle.kept_derive.specs.Runs.{course_of}
use Rattle.odin_answers.specs.Answers.{IsDerived, HasAnswer, IsReply, MayHaveBegun}
use Rattle.odin_answers.specs.Laws.{AreItsCalls, StartsOnlyIts, IsAnsweredAtOnce, IsTrueFor}
use Rattle.odin_answers.proofs.CountLemmas.{derived_flown, drained_flown, have_flown, begun_answer, reply_answer}

-- ---- the calls

pub its_own : (g : Graph) (s : Sources) (kept : Calls) (limit : ℕ) (text : Text) (given : Calls) (before now : Spawned) → (d : IsDerived g s kept limit text given before now) → AreItsCalls g s kept d.node given
its_own g s kept limit text given before now d =
    let is = derived_flown g s kept limit text given before now d in
    let new = given_are_new g s (kept_outcome kept) d.node given is.are in
    record {
      only = λ outcomes agrees call i. given_are_calls g s (kept_outcome kept) d.node given is.are outcomes agrees call i;
      once = new.once;
      new = new.none;
      all = d.all;
    }

-- ---- the starts

pub reply_starts : (g : Graph) (s : Sources) (kept : Calls) (limit : ℕ) (text : Text) (reply : Reply) (given : Calls) (before now : Spawned) → IsReply g s kept limit text reply given before now → StartsOnlyIts g s kept text given before now
reply_starts g s kept limit text reply given before now (inl answered) = elim answered.did [
  | inl alone ↦ inl alone.told
  | inr d ↦ inr (record {
    node = d.node;
    asks = d.asks;
    started = only_needed_starts g s (kept_outcome kept) d.node limit before (course_of d.found) (at_rest given now) d.run.flown;
  })
]
reply_starts g s kept limit text reply given before now (inr refused) =
    let d = refused.drained in
    inr (record {
      node = d.node;
      asks = d.asks;
      started = only_needed_starts g s (kept_outcome kept) d.node limit before (off_course for_spawn) (at_rest given now) d.run.flown;
    })

-- what runs still is none of it
at_its_rest : (g : Graph) (s : Sources) (kept : Calls) (n : Node) (before : Spawned) (f : Flight) → HasStarted g s (kept_outcome kept) n before f → HasStarted g s (kept_outcome kept) n before (at_rest f.given f.tools)
at_its_rest g s kept n before f has = record { calls = has.calls; once = has.once; none = has.none; each = has.each; starts = has.starts; log = has.log }

pub begun_starts : (g : Graph) (s : Sources) (kept : Calls) (limit : ℕ) (text : Text) (given : Calls) (before now : Spawned) → MayHaveBegun g s kept limit text given before now → StartsOnlyIts g s kept text given before now
begun_starts g s kept limit text given before now (inl untouched) = inl untouched.told
begun_starts g s kept limit text given before now (inr h) =
    let f : Flight = record { running = h.flown.running; given = given; tools = now } in
    inr (record {
      node = h.node;
      asks = h.asks;
      started = at_its_rest g s kept h.node before f (only_needed_starts g s (kept_outcome kept) h.node limit before h.flown.course f h.flown.flown);
    })

-- ---- the same text again

-- Where a text of a node is answered by what is kept, none of its tools is touched.
none_flies : (g : Graph) (s : Sources) (kept : Calls) (text : Text) (reply : Reply) → Answer g s (kept_outcome kept) text reply → (n : Node) → Asks g text n
    → (limit : ℕ) (before : Spawned) (course : Course) (f : Flight) → Flies g s (kept_outcome kept) n limit before course f → IsUnflown before course f
none_flies g s kept text reply (Answer.refused _ _ refused) n asks limit before path f flies = absurd (not_refused g text reply n asks refused)
none_flies g s kept text reply (Answer.object _ m view asked is) n asks limit before path f flies =
    known_fly_none g s (kept_outcome kept) n limit before path f flies
    (λ call waits. no_frontier g s (kept_outcome kept) m call (ap is_some is) (subst (λ k. IsFrontier g s (kept_outcome kept) k call) (one_node g text m n asked asks) waits))
none_flies g s kept text reply (Answer.circular _ m chain asked is) n asks limit before path f flies =
    refused_fly_none g s (kept_outcome kept) n limit before path f flies (subst (IsRefusedBy g s (kept_outcome kept)) (one_node g text n m asks asked) (record { chain = chain; is = inl is }))
none_flies g s kept text reply (Answer.deep _ m chain asked is) n asks limit before path f flies =
    refused_fly_none g s (kept_outcome kept) n limit before path f flies (subst (IsRefusedBy g s (kept_outcome kept)) (one_node g text n m asks asked) (record { chain = chain; is = inr is }))

-- Such a text is answered at once.
pub at_once : (g : Graph) (s : Sources) (kept : Calls) (limit : ℕ) (text : Text) (said reply : Reply) (given : Calls) (before now : Spawned) → Answer g s (kept_outcome kept) text said → IsReply g s kept limit text reply given before now
    → IsAnsweredAtOnce g s kept limit text reply given before now
at_once g s kept limit text said reply given before now by_kept (inl answered) = elim answered.did [
  | inl alone ↦ record { answer = answered; none = alone.none; told = alone.told }
  | inr d ↦
      let none = none_flies g s kept text said by_kept d.node d.asks limit before (course_of d.found) (at_rest given now) d.run.flown in
      record { answer = answered; none = none.none; told = none.told }
]
at_once g s kept limit text said reply given before now by_kept (inr refused) =
    let d = refused.drained in
    let none = none_flies g s kept text said by_kept d.node d.asks limit before (off_course for_spawn) (at_rest given now) d.run.flown in
    absurd (none.unrefused refl)

-- ---- the table

-- what is kept after others is one or the other
pub kept_or_given : (kept given : Calls) (call : Call) (o : Outcome) → kept_outcome (kept ++ given) call ≡ Some o → (kept_outcome kept call ≡ Some o) ⊎ (outcome_in given call ≡ Some o)
kept_or_given [] given call o e = inr e
kept_or_given (x ∷ kept) given call o e = by_test (call_eq.eq call x.0) e (kept_or_given kept given call o)
  where
    by_test : (b : Bool) → cond b (Some x.1) (kept_outcome (kept ++ given) call) ≡ Some o → (kept_outcome (kept ++ given) call ≡ Some o → (kept_outcome kept call ≡ Some o) ⊎ (outcome_in given call ≡ Some o))
        → (cond b (Some x.1) (kept_outcome kept call) ≡ Some o) ⊎ (outcome_in given call ≡ Some o)
    by_test true e more = inl e
    by_test false e more = more e

true_behind : (table : Table) (kept given : Calls) (now : Spawned) → now.answer ≡ Some table → HasMore (kept_outcome kept) (table_outcomes table) → HaveCome (Some table) given → IsTrueFor table now (kept ++ given)
true_behind table kept given now told right came = record {
  told = told;
  gives = λ call o e. elim (kept_or_given kept given call o e) [
    | inl there ↦ right call o there
    | inr there ↦ (came call o (given_is_in given call o there)).told table refl
  ];
}

none_come_yet : (table : Table) (given : Calls) → given ≡ [] → HaveCome (Some table) given
none_come_yet table given none = subst (HaveCome (Some table)) (sym none) (λ call o i. absurd i)

pub come_by : (table : Table) (before : Spawned) (given : Calls) → before.answer ≡ Some table → HaveCome before.answer given → HaveCome (Some table) given
come_by table before given told came = subst (λ a. HaveCome a given) told came

module _ (g : Graph) (table : Table) (s : Sources) (kept : Calls) (limit : ℕ) (text : Text) (before now : Spawned) (right : IsTrueFor table before kept) where
  answered_came : (reply : Reply) (given : Calls) → HasAnswer g s kept limit text reply given before now → HaveCome (Some table) given
  answered_came reply given answer = elim answer.did [
    | inl alone ↦ none_come_yet table given alone.none
    | inr d ↦ let is = derived_flown g s kept limit text given before now d in come_by table before given right.told is.came
  ]

  reply_came : (reply : Reply) (given : Calls) → IsReply g s kept limit text reply given before now → HaveCome (Some table) given
  reply_came reply given (inl answer) = answered_came reply given answer
  reply_came reply given (inr refused) = let is = drained_flown g s kept limit text given before now refused.drained in come_by table before given right.told is.came

  begun_came : (given : Calls) → MayHaveBegun g s kept limit text given before now → HaveCome (Some table) given
  begun_came given (inl untouched) = none_come_yet table given untouched.none
  begun_came given (inr h) = let is = have_flown g s kept limit text given before now h in come_by table before given right.told is.came

  pub reply_true : (reply : Reply) (given : Calls) → IsReply g s kept limit text reply given before now → IsTrueFor table now (kept ++ given)
  reply_true reply given is = true_behind table kept given now (reply_answer g s kept limit text reply given before now is ∙ right.told) right.gives (reply_came reply given is)

  -- of the outcomes that came some first ones are kept
  pub begun_true : (given rest : Calls) → MayHaveBegun g s kept limit text (given ++ rest) before now → IsTrueFor table now (kept ++ given)
  begun_true given rest begun =
      true_behind table kept given now (begun_answer g s kept limit text (given ++ rest) before now begun ∙ right.told) right.gives
      (λ call o i. begun_came (given ++ rest) begun call o (in_left (call, o) given rest i))

  pub fresh : (reply : Reply) (given : Calls) → HasAnswer g s kept limit text reply given before now → Answer g s (table_outcomes table) text reply
  fresh reply given answer = answer.answer (table_outcomes table) (given_are_true table (kept_outcome kept) given right.gives (answered_came reply given answer))
