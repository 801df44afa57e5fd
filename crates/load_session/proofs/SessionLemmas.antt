-- Sessions of a load: what one step and many steps make of them.
use Rattle.std.proofs.Common.{◌≡◌, ◌≢◌, ℕ, ◌+◌, ◌-◌, ◌≤◌, ◌<◌, ◌^◌, Bool, true, false, cond, List, [], ◌∷◌, ◌++◌, length, sym, ap, ◌∙◌, subst, refl, arith, inl, inr}
use Rattle.std.proofs.Math.Path.{subst₂}
use Rattle.std.specs.Prelude.{Result, IfErr}
use Rattle.std.specs.Result.{IsErrAnd}
use Rattle.std.proofs.lemmas.Result.{err_from_is_err_and}
use Rattle.std.proofs.lemmas.List.{length-append}
use Rattle.odin_outside.specs.Causes.{IsCounted}
use Rattle.odin_memory.specs.File.{image_of}
use Rattle.odin_memory.specs.Tools as tools
use Rattle.meaning_graph.specs.Graphs.{Text, Graph}
use Rattle.meaning_records.specs.Tables.{Calls}
use Rattle.object_values.specs.declared.replies.Reply.{Reply}
use Rattle.odin_journal.specs.Faults.{CountAfterJournalFault}
use Rattle.odin_journal.specs.Rest.{IsReady}
use Rattle.odin_journal.specs.declared.fault.JournalFault.{JournalFault}
use Rattle.odin_journal.specs.declared.fault.JournalFault.TheVariants as fault
use Rattle.odin_store.specs.Held as held
use Rattle.odin_store.specs.Edited.{HasPut, HasFailed}
use Rattle.kept_derive.specs.Knowing.{KnowsStore, StaysKnown}
use Rattle.kept_derive.proofs.Lemmas.{calls_after_all}
use Rattle.odin_engine.specs.Engaged.{GraphStays}
use Rattle.odin_answers.specs.Replied.{HasReplied, HasStopped}
use Rattle.odin_answers.proofs.Lemmas.{refusal_counted, reply_of}
use Rattle.load_session.specs.declared.session.Session.{Session}
use Rattle.load_session.specs.declared.asked.Asked.{Asked}
use Rattle.load_session.specs.Room.{LoadFile, told_of_disk, PassesRoom}
use Rattle.load_session.specs.Session.{LoadStep, puts, asks, asked_text}
use Rattle.load_session.specs.Served.{Moment, HasAnswered, ServesSteps, none, put, ask, StepFails, PassesFor, StopsAtStep, StepsStopFor, shown_length}
use Rattle.load_session.specs.Moments.{moment, session_calls, IsAtRest, MayServeSteps, HasServed, HasAsked, LoadStopsFor}
use Rattle.load_session.proofs.StepLemmas.{put_calls, answer_starts}
use Rattle.load_session.proofs.ServeLemmas.{serves_more, stops_first, stops_then}

-- what the exit of a `?` hands on
pub at_stop : {T E : Type 0} (r : Result T E) (s : E) (Q : E → Type 0) → IsErrAnd r (λ e. e ≡ s) → Q s → IfErr r Q
at_stop r s Q is q =
    let p = err_from_is_err_and r is in
    subst (λ v. IfErr v Q) (sym p.1) (subst Q (sym p.2) q)

-- ---- one step

-- the calls that were run stand after the others
calls_behind : (old new : Session) (given : Calls) (reply : Reply) → HasAnswered old.engine.graph (moment old) given reply (moment new)
    → session_calls new ≡ session_calls old ++ given
calls_behind old new given reply has = calls_after_all told_of_disk given has.noted old.engine.store new.engine.store old.disk new.disk has.goes

-- an edit raises the epoch by one at most
one_edit : (changed : Bool) (before now : ℕ) → now ≡ before + cond changed 1 0 → now ≤ before + 1
one_edit true before now is = omega (arith, is)
one_edit false before now is = omega (arith, is)

-- what is known for the graph that stays
known_by : (new : Session) (g : Graph) → new.engine.graph ≡ g → KnowsStore g new.engine.store → KnowsStore new.engine.graph new.engine.store
known_by new g same known = subst (λ h. KnowsStore h new.engine.store) (sym same) known

pub put_served : (old new : Session) (name text name' text' : Text) (changed : Bool) → name' ≡ name → text' ≡ text
    → HasPut told_of_disk name' text' old.engine.store new.engine.store old.disk new.disk changed → StaysKnown old.engine.store new.engine.store
    → GraphStays old.engine new.engine → new.tools ≡ old.tools
    → IsReady new.engine.store.journal (length (image_of new.disk.file)) → IsAtRest old → HasServed old (puts name text ∷ []) [] new
put_served old new name text name' text' changed name_is text_is has knows stays same ready rests =
    let put_is : HasPut told_of_disk name text old.engine.store new.engine.store old.disk new.disk changed =
    subst₂ (λ n t. HasPut told_of_disk n t old.engine.store new.engine.store old.disk new.disk changed) name_is text_is has in
    record {
      graph = stays.graph;
      serves = put [] [] (moment old) (moment new) name text changed none put_is (ap tools.tools_view same);
      rests = record {
        jobs = stays.jobs ∙ rests.jobs;
        idle = record { ready = ready; none = ap (λ (t : tools.Tools). t.running) same ∙ rests.idle.none };
        knows = known_by new old.engine.graph stays.graph (knows old.engine.graph rests.knows);
        counted = ap (λ (t : tools.Tools). t.starts) same ∙ rests.counted ∙ ap length (sym (put_calls name text old.engine.store new.engine.store old.disk new.disk changed put_is));
      };
      epoch = one_edit changed old.engine.store.epoch new.engine.store.epoch has.epoch;
    }

-- The answer for what was replied: none of such tools is refused a start.
answered : (old new : Session) (reply : Reply) → KnowsStore old.engine.graph old.engine.store
    → (r : HasReplied told_of_disk old.engine.graph 1 asked_text (moment old) (moment new) reply) → HasAnswered old.engine.graph (moment old) r.given reply (moment new)
answered old new reply known r =
    let sources = old.engine.store.sources.texts in
    let before = tools.tools_view old.tools in
    let now = tools.tools_view new.tools in
    elim (reply_of old.engine.graph sources (session_calls old) 1 asked_text reply r.given before now r.is known) [
      | inl answer ↦ record { is = answer; noted = r.noted; goes = r.goes; epoch = r.epoch }
      | inr refused ↦
          let counted : IsCounted 0 0 = refusal_counted old.engine.graph sources (session_calls old) 1 asked_text reply r.given before now refused in
          let rose = counted.rose in
          absurd (omega arith)
    ]

-- how many more tools were started
answer_run : (old new : Session) (given : Calls) (reply : Reply) → HasAnswered old.engine.graph (moment old) given reply (moment new) → IsAtRest old → length (session_calls new) < 2 ^ 64
    → (length (session_calls new) ≡ length (session_calls old) + length given) × (new.tools.starts ≡ old.tools.starts + length given)
answer_run old new given reply has rests small =
    let more : length (session_calls new) ≡ length (session_calls old) + length given = ap length (calls_behind old new given reply has) ∙ length-append (session_calls old) given in
    let counted = rests.counted in (
      more,
      answer_starts old.engine.graph old.engine.store.sources.texts (session_calls old) 1 asked_text reply given (tools.tools_view old.tools) (tools.tools_view new.tools) has.is refl (omega arith) (omega arith),
    )

-- the limit is that of a load
by_one : (old new : Session) (reply : Reply) → IsAtRest old → HasReplied told_of_disk old.engine.graph old.engine.jobs asked_text (moment old) (moment new) reply → HasReplied told_of_disk old.engine.graph 1 asked_text (moment old) (moment new) reply
by_one old new reply rests r = subst (λ (limit : ℕ). HasReplied told_of_disk old.engine.graph limit asked_text (moment old) (moment new) reply) rests.jobs r

pub ask_rises : (old new : Session) (reply : Reply) → HasReplied told_of_disk old.engine.graph old.engine.jobs asked_text (moment old) (moment new) reply → IsAtRest old → length (session_calls new) < 2 ^ 64
    → old.tools.starts ≤ new.tools.starts
ask_rises old new reply replied rests small =
    let r = by_one old new reply rests replied in
    let run = (answer_run old new r.given reply (answered old new reply rests.knows r) rests small).1 in omega arith

pub ask_served : (old new : Session) (asked : Asked) (reply : Reply) → HasReplied told_of_disk old.engine.graph old.engine.jobs asked_text (moment old) (moment new) reply
    → GraphStays old.engine new.engine → IsReady new.engine.store.journal (length (image_of new.disk.file)) → new.tools.running ≡ [] → IsAtRest old
    → asked.starts ≡ new.tools.starts - old.tools.starts → asked.length ≡ shown_length reply → asked.kept ≡ length (session_calls new) → length (session_calls new) < 2 ^ 64
    → HasAsked old (asks ∷ []) new asked
ask_served old new asked reply replied stays ready idle rests starts length_is kept small =
    let r = by_one old new reply rests replied in
    let has = answered old new reply rests.knows r in
    let run = answer_run old new r.given reply has rests small in
    let counted = rests.counted in
    let same = has.epoch in
    record {
      given = r.given;
      reply = reply;
      served = record {
        graph = stays.graph;
        serves = ask [] [] (moment old) (moment new) r.given reply none has;
        rests = record {
          jobs = stays.jobs ∙ rests.jobs;
          idle = record { ready = ready; none = idle };
          knows = known_by new old.engine.graph stays.graph (r.right rests.knows).knows;
          counted = omega (arith, run.0, run.1);
        };
        epoch = omega arith;
      };
      starts = omega (arith, run.1);
      length_is = length_is;
      kept = kept;
    }

-- ---- a step that failed

-- a disk that failed has passed its room
room_for : (old new : LoadFile) (e : JournalFault) → CountAfterJournalFault old.file.faults new.file.faults e → (new.file.faults ≢ 0 → PassesRoom new) → PassesFor e new
room_for old new fault.Disk cause past = past (λ zero. absurd (omega arith))
room_for old new (fault.NotOurs at) cause past = tt
room_for old new (fault.Full at size) cause past = tt
room_for old new fault.Memory cause past = tt

step_stops : (old : Session) (step : LoadStep) (new : Moment) (e : JournalFault) → StepFails old.engine.graph step (moment old) new e → CountAfterJournalFault old.disk.file.faults new.disk.file.faults e
    → (new.disk.file.faults ≢ 0 → PassesRoom new.disk) → StopsAtStep old.engine.graph (moment old) (step ∷ []) e
step_stops old step new e fails cause past = record {
  served = [];
  step = step;
  more = [];
  whole = refl;
  answers = [];
  mid = moment old;
  serves = none;
  new = new;
  fails = fails;
  cause = cause;
  room = room_for old.disk new.disk e cause past;
}

put_stopped : (old new : Session) (name text : Text) (e : JournalFault) → HasFailed told_of_disk (held.puts name text) old.engine.store new.engine.store old.disk new.disk e
    → CountAfterJournalFault old.disk.file.faults new.disk.file.faults e → (new.disk.file.faults ≢ 0 → PassesRoom new.disk) → LoadStopsFor old (puts name text ∷ []) e
put_stopped old new name text fault.Disk fails cause past = step_stops old (puts name text) (moment new) fault.Disk fails cause past
put_stopped old new name text (fault.NotOurs at) fails cause past = absurd fails
put_stopped old new name text (fault.Full at size) fails cause past = step_stops old (puts name text) (moment new) (fault.Full at size) fails cause past
put_stopped old new name text fault.Memory fails cause past = tt

pub put_stops : (old new : Session) (name text name' text' : Text) (e : JournalFault) → name' ≡ name → text' ≡ text
    → HasFailed told_of_disk (held.puts name' text') old.engine.store new.engine.store old.disk new.disk e → CountAfterJournalFault old.disk.file.faults new.disk.file.faults e
    → (new.disk.file.faults ≢ 0 → PassesRoom new.disk) → LoadStopsFor old (puts name text ∷ []) e
put_stops old new name text name' text' e name_is text_is fails cause past =
    put_stopped old new name text e (subst₂ (λ n t. HasFailed told_of_disk (held.puts n t) old.engine.store new.engine.store old.disk new.disk e) name_is text_is fails) cause past

ask_stopped : (old new : Session) (e : JournalFault) → HasStopped told_of_disk old.engine.graph 1 asked_text (moment old) (moment new) e
    → CountAfterJournalFault old.disk.file.faults new.disk.file.faults e → (new.disk.file.faults ≢ 0 → PassesRoom new.disk) → LoadStopsFor old (asks ∷ []) e
ask_stopped old new fault.Disk fails cause past = step_stops old asks (moment new) fault.Disk fails cause past
ask_stopped old new (fault.NotOurs at) fails cause past = absurd fails
ask_stopped old new (fault.Full at size) fails cause past = step_stops old asks (moment new) (fault.Full at size) fails cause past
ask_stopped old new fault.Memory fails cause past = tt

pub ask_stops : (old new : Session) (e : JournalFault) → IsAtRest old → HasStopped told_of_disk old.engine.graph old.engine.jobs asked_text (moment old) (moment new) e
    → CountAfterJournalFault old.disk.file.faults new.disk.file.faults e → (new.disk.file.faults ≢ 0 → PassesRoom new.disk) → LoadStopsFor old (asks ∷ []) e
ask_stops old new e rests fails cause past =
    ask_stopped old new e (subst (λ (limit : ℕ). HasStopped told_of_disk old.engine.graph limit asked_text (moment old) (moment new) e) rests.jobs fails) cause past

-- ---- many steps

pub nothing_served : (session : Session) → IsAtRest session → HasServed session [] [] session
nothing_served session rests = record { graph = refl; serves = none; rests = rests; epoch = omega arith }

-- more steps may be served after those that were
pub may_go : (all more : ℕ) (old : Session) (steps : List LoadStep) (answers : List (Calls × Reply)) (new : Session) → MayServeSteps all old → HasServed old steps answers new
    → length steps + more ≤ all → MayServeSteps more new
may_go all more old steps answers new may served le =
    let early = may.early in let epoch = served.epoch in record { rests = served.rests; early = omega arith }

pub served_then : (old : Session) (xs : List LoadStep) (some : List (Calls × Reply)) (mid : Session) (ys : List LoadStep) (bs : List (Calls × Reply)) (new : Session)
    → HasServed old xs some mid → HasServed mid ys bs new → HasServed old (xs ++ ys) (some ++ bs) new
served_then old xs some mid ys bs new first second =
    let count : length (xs ++ ys) ≡ length xs + length ys = length-append xs ys in
    let before = first.epoch in
    let behind = second.epoch in
    record {
      graph = second.graph ∙ first.graph;
      serves =
          serves_more old.engine.graph (moment old) xs some (moment mid) ys bs (moment new) first.serves
          (subst (λ g. ServesSteps g (moment mid) ys bs (moment new)) first.graph second.serves);
      rests = second.rests;
      epoch = omega arith;
    }

pub asked_then : (old : Session) (xs : List LoadStep) (mid : Session) (ys : List LoadStep) (new : Session) (asked : Asked)
    → HasServed old xs [] mid → HasAsked mid ys new asked → HasAsked old (xs ++ ys) new asked
asked_then old xs mid ys new asked first second = record {
  given = second.given;
  reply = second.reply;
  served = served_then old xs [] mid ys ((second.given, second.reply) ∷ []) new first second.served;
  starts = second.starts;
  length_is = second.length_is;
  kept = second.kept;
}

pub first_stops : (session : Session) (xs ys : List LoadStep) (e : JournalFault) → LoadStopsFor session xs e → LoadStopsFor session (xs ++ ys) e
first_stops session xs ys e stops = stops_first session.engine.graph (moment session) xs ys e stops

pub then_stops : (old : Session) (xs : List LoadStep) (some : List (Calls × Reply)) (mid : Session) (ys : List LoadStep) (e : JournalFault)
    → HasServed old xs some mid → LoadStopsFor mid ys e → LoadStopsFor old (xs ++ ys) e
then_stops old xs some mid ys e served stops =
    stops_then old.engine.graph (moment old) xs some (moment mid) ys e served.serves (subst (λ g. StepsStopFor g (moment mid) ys e) served.graph stops)
