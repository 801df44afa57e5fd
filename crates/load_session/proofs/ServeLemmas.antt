-- Steps of a load follow each other, and what they keep.
use Rattle.std.proofs.Common.{◌≡◌, List, [], ◌∷◌, ◌++◌, sym, ap, ◌∙◌, subst}
use Rattle.std.proofs.Math.Path.{subst₂}
use Rattle.std.specs.List.{flat_map}
use Rattle.std.proofs.lemmas.Grind.{flat_map-append}
use Rattle.std.proofs.lemmas.List.{append-nil, append_assoc}
use Rattle.meaning_graph.specs.Graphs.{Graph}
use Rattle.meaning_records.specs.Tables.{Calls}
use Rattle.object_values.specs.declared.replies.Reply.{Reply}
use Rattle.odin_journal.specs.declared.fault.JournalFault.{JournalFault}
use Rattle.odin_journal.specs.declared.fault.JournalFault.TheVariants as fault
use Rattle.kept_derive.proofs.Lemmas.{calls_after_all}
use Rattle.load_session.specs.Room.{told_of_disk}
use Rattle.load_session.specs.Session.{LoadStep, puts, asks}
use Rattle.load_session.proofs.StepLemmas.{put_calls}
use Rattle.load_session.specs.Served.{Moment, ServesSteps, none, put, ask, StopsAtStep, StepsStopFor}

-- ---- one after another

pub serves_more
    : (g : Graph) (old : Moment) (xs : List LoadStep) (some : List (Calls × Reply)) (mid : Moment) (ys : List LoadStep) (bs : List (Calls × Reply)) (new : Moment)
    → ServesSteps g old xs some mid → ServesSteps g mid ys bs new → ServesSteps g old (xs ++ ys) (some ++ bs) new
serves_more g old xs some mid ys bs new first none = subst₂ (λ steps answers. ServesSteps g old steps answers mid) (sym (append-nil xs)) (sym (append-nil some)) first
serves_more g old xs some mid ys bs new first (put steps answers between _ name text changed before has same) =
    subst (λ all. ServesSteps g old all (some ++ answers) new) (append_assoc xs steps (puts name text ∷ []))
    (put (xs ++ steps) (some ++ answers) between new name text changed (serves_more g old xs some mid steps answers between first before) has same)
serves_more g old xs some mid ys bs new first (ask steps answers between _ given reply before has) =
    subst₂ (λ all replies. ServesSteps g old all replies new) (append_assoc xs steps (asks ∷ [])) (append_assoc some answers ((given, reply) ∷ []))
    (ask (xs ++ steps) (some ++ answers) between new given reply (serves_more g old xs some mid steps answers between first before) has)

-- ---- the kept calls

-- those that were run for these asks
abbrev pub all_given : List (Calls × Reply) → Calls
all_given = flat_map (λ (answer : Calls × Reply). answer.0)

pub serves_calls : (g : Graph) (old : Moment) (steps : List LoadStep) (answers : List (Calls × Reply)) (new : Moment) → ServesSteps g old steps answers new
    → new.store.kept.tables.calls ≡ old.store.kept.tables.calls ++ all_given answers
serves_calls g old steps answers new none = sym (append-nil new.store.kept.tables.calls)
serves_calls g old steps answers new (put before others mid _ name text changed serves has same) =
    put_calls name text mid.store new.store mid.disk new.disk changed has ∙ serves_calls g old before answers mid serves
serves_calls g old steps answers new (ask before others mid _ given reply serves has) =
    calls_after_all told_of_disk given has.noted mid.store new.store mid.disk new.disk has.goes
    ∙ ap (λ (calls : Calls). calls ++ given) (serves_calls g old before others mid serves)
    ∙ append_assoc old.store.kept.tables.calls (all_given others) given
    ∙ ap (λ (calls : Calls). old.store.kept.tables.calls ++ calls) (ap (λ (calls : Calls). all_given others ++ calls) (sym (append-nil given)) ∙ sym (flat_map-append (λ (answer : Calls × Reply). answer.0) others ((given, reply) ∷ [])))

-- ---- where they stop

first_at : (g : Graph) (old : Moment) (xs ys : List LoadStep) (e : JournalFault) → StopsAtStep g old xs e → StopsAtStep g old (xs ++ ys) e
first_at g old xs ys e stops = record {
  served = stops.served;
  step = stops.step;
  more = stops.more ++ ys;
  whole = ap (λ (l : List LoadStep). l ++ ys) stops.whole ∙ append_assoc stops.served (stops.step ∷ stops.more) ys;
  answers = stops.answers;
  mid = stops.mid;
  serves = stops.serves;
  new = stops.new;
  fails = stops.fails;
  cause = stops.cause;
  room = stops.room;
}

then_at : (g : Graph) (old : Moment) (xs : List LoadStep) (some : List (Calls × Reply)) (mid : Moment) (ys : List LoadStep) (e : JournalFault)
    → ServesSteps g old xs some mid → StopsAtStep g mid ys e → StopsAtStep g old (xs ++ ys) e
then_at g old xs some mid ys e serves stops = record {
  served = xs ++ stops.served;
  step = stops.step;
  more = stops.more;
  whole = ap (λ (l : List LoadStep). xs ++ l) stops.whole ∙ sym (append_assoc xs stops.served (stops.step ∷ stops.more));
  answers = some ++ stops.answers;
  mid = stops.mid;
  serves = serves_more g old xs some mid stops.served stops.answers stops.mid serves stops.serves;
  new = stops.new;
  fails = stops.fails;
  cause = stops.cause;
  room = stops.room;
}

-- the steps that come first fail as all do
pub stops_first : (g : Graph) (old : Moment) (xs ys : List LoadStep) (e : JournalFault) → StepsStopFor g old xs e → StepsStopFor g old (xs ++ ys) e
stops_first g old xs ys fault.Disk stops = first_at g old xs ys fault.Disk stops
stops_first g old xs ys (fault.NotOurs at) stops = absurd stops
stops_first g old xs ys (fault.Full at size) stops = first_at g old xs ys (fault.Full at size) stops
stops_first g old xs ys fault.Memory stops = tt

-- and so do those after steps that were served
pub stops_then : (g : Graph) (old : Moment) (xs : List LoadStep) (some : List (Calls × Reply)) (mid : Moment) (ys : List LoadStep) (e : JournalFault)
    → ServesSteps g old xs some mid → StepsStopFor g mid ys e → StepsStopFor g old (xs ++ ys) e
stops_then g old xs some mid ys fault.Disk serves stops = then_at g old xs some mid ys fault.Disk serves stops
stops_then g old xs some mid ys (fault.NotOurs at) serves stops = absurd stops
stops_then g old xs some mid ys (fault.Full at size) serves stops = then_at g old xs some mid ys (fault.Full at size) serves stops
stops_then g old xs some mid ys fault.Memory serves stops = tt
