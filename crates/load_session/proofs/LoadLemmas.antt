-- A whole load of its parts.
use Rattle.std.proofs.Common.{◌≡◌, ℕ, ◌+◌, ◌≤◌, ◌<◌, ◌^◌, [], ◌∷◌, ◌++◌, length, sym, ap, ◌∙◌, arith}
use Rattle.std.proofs.lemmas.List.{append-nil, append_assoc, length-append}
use Rattle.std.proofs.lemmas.List.FromFn.{length-map-range_with_len}
use Rattle.meaning_records.specs.Tables.{Calls}
use Rattle.odin_journal.specs.declared.fault.JournalFault.{JournalFault}
use Rattle.odin_journal.specs.declared.fault.JournalFault.TheVariants as fault
use Rattle.load_session.specs.declared.session.Session.{Session}
use Rattle.load_session.specs.declared.asked.Asked.{Asked}
use Rattle.load_session.specs.declared.loaded.Loaded.{Loaded}
use Rattle.load_session.specs.Session.{asks, headers, puts_header, puts_unit, puts_list, header_steps, unit_steps, first_steps, edit_steps, load_steps}
use Rattle.load_session.specs.Loads.{IsOpeningFault, LoadIsServed, IsLoadFault}
use Rattle.load_session.specs.Moments.{moment, session_calls, SessionIsNew, MayServeSteps, HasAsked, LoadStopsFor}
use Rattle.load_session.proofs.ServeLemmas.{serves_calls}
use Rattle.load_session.proofs.PassLemmas.{passes_with}
use Rattle.load_session.proofs.SessionLemmas.{may_go, served_then, first_stops, then_stops}

-- ---- edits that may come

pub new_serves : (more : ℕ) (session : Session) → SessionIsNew session → more < 2 ^ 63 → MayServeSteps more session
new_serves more session new small = let first = new.first in record { rests = new.rests; early = omega arith }

first_length : (units : ℕ) → length (first_steps units) ≡ units + 14
first_length units =
    let all : length (first_steps units) ≡ length (header_steps headers ++ unit_steps units) + 2 = length-append (header_steps headers ++ unit_steps units) (puts_list units ∷ asks ∷ []) in
    let both : length (header_steps headers ++ unit_steps units) ≡ length (header_steps headers) + length (unit_steps units) = length-append (header_steps headers) (unit_steps units) in
    let some : length (header_steps headers) ≡ 12 = length-map-range_with_len (puts_header 1) 1 12 in
    let others : length (unit_steps units) ≡ units = length-map-range_with_len puts_unit 1 units in
    omega arith

pub first_serves : (units : ℕ) (session one : Session) (first : Asked) → SessionIsNew session → units ≤ 2000 → HasAsked session (first_steps units) one first → MayServeSteps 1000 one
first_serves units session one first new few asked =
    let long = first_length units in
    may_go 5000 1000 session (first_steps units) ((asked.given, asked.reply) ∷ []) one (new_serves 5000 session new (omega arith)) asked.served (omega arith)

pub serves_less : (more less : ℕ) (session : Session) → MayServeSteps more session → less ≤ more → MayServeSteps less session
serves_less more less session may le = let early = may.early in record { rests = may.rests; early = omega arith }

pub edit_serves : (value : ℕ) (one two : Session) (second : Asked) → MayServeSteps 1000 one → HasAsked one (edit_steps value) two second → MayServeSteps 1 two
edit_serves value one two second may asked = may_go 1000 1 one (edit_steps value) ((asked.given, asked.reply) ∷ []) two may asked.served (omega arith)

-- ---- the whole

pub load_unopened : (units : ℕ) (e : JournalFault) → IsOpeningFault e → IsLoadFault units e
load_unopened units fault.Disk fails = absurd fails
load_unopened units (fault.NotOurs at) fails = absurd fails
load_unopened units (fault.Full at size) fails = absurd fails
load_unopened units fault.Memory fails = tt

pub load_stopped : (units : ℕ) (session : Session) (e : JournalFault) → SessionIsNew session → LoadStopsFor session (load_steps units) e → IsLoadFault units e
load_stopped units session fault.Disk new stops = record {
  graph = session.engine.graph;
  start = moment session;
  opened = new.opened;
  stops = stops;
  past = passes_with session.engine.graph (moment session) (load_steps units) new.opened stops;
}
load_stopped units session (fault.NotOurs at) new stops = absurd stops
load_stopped units session (fault.Full at size) new stops = record { graph = session.engine.graph; start = moment session; opened = new.opened; stops = stops }
load_stopped units session fault.Memory new stops = tt

pub all_loaded : (units : ℕ) (session one two end : Session) (first second third : Asked) (loaded : Loaded) → SessionIsNew session
    → HasAsked session (first_steps units) one first → HasAsked one (edit_steps 2) two second → HasAsked two (edit_steps 1) end third
    → loaded.starts ≡ first.starts ∷ second.starts ∷ third.starts ∷ [] → loaded.length ≡ third.length → loaded.kept ≡ third.kept → LoadIsServed units loaded
all_loaded units session one two end first second third loaded new a b c starts length_is kept =
    let before = served_then session (first_steps units) ((a.given, a.reply) ∷ []) one (edit_steps 2) ((b.given, b.reply) ∷ []) two a.served b.served in
    let all = served_then session (first_steps units ++ edit_steps 2) ((a.given, a.reply) ∷ (b.given, b.reply) ∷ []) two (edit_steps 1) ((c.given, c.reply) ∷ []) end before c.served in
    let calls : session_calls end ≡ a.given ++ b.given ++ c.given =
    serves_calls session.engine.graph (moment session) (load_steps units) ((a.given, a.reply) ∷ (b.given, b.reply) ∷ (c.given, c.reply) ∷ []) (moment end) all.serves
    ∙ ap (λ (l : Calls). l ++ (a.given ++ (b.given ++ (c.given ++ [])))) new.none_kept
    ∙ ap (λ (l : Calls). a.given ++ (b.given ++ l)) (append-nil c.given)
    ∙ sym (append_assoc a.given b.given c.given) in
    record {
      graph = session.engine.graph;
      start = moment session;
      opened = new.opened;
      first = (a.given, a.reply);
      second = (b.given, b.reply);
      third = (c.given, c.reply);
      end = moment end;
      serves = all.serves;
      starts = starts ∙ (λ i. a.starts i ∷ b.starts i ∷ c.starts i ∷ []);
      length_is = length_is ∙ c.length_is;
      kept = kept ∙ c.kept ∙ ap length calls;
      all = calls;
    }

-- ---- where it stops

pub first_fails : (units : ℕ) (session : Session) (e : JournalFault) → SessionIsNew session → LoadStopsFor session (first_steps units) e → IsLoadFault units e
first_fails units session e new stops =
    load_stopped units session e new
    (first_stops session (first_steps units ++ edit_steps 2) (edit_steps 1) e (first_stops session (first_steps units) (edit_steps 2) e stops))

pub second_fails : (units : ℕ) (session one : Session) (first : Asked) (e : JournalFault) → SessionIsNew session → HasAsked session (first_steps units) one first
    → LoadStopsFor one (edit_steps 2) e → IsLoadFault units e
second_fails units session one first e new a stops =
    load_stopped units session e new
    (first_stops session (first_steps units ++ edit_steps 2) (edit_steps 1) e (then_stops session (first_steps units) ((a.given, a.reply) ∷ []) one (edit_steps 2) e a.served stops))

pub third_fails : (units : ℕ) (session one two : Session) (first second : Asked) (e : JournalFault) → SessionIsNew session → HasAsked session (first_steps units) one first
    → HasAsked one (edit_steps 2) two second → LoadStopsFor two (edit_steps 1) e → IsLoadFault units e
third_fails units session one two first second e new a b stops =
    load_stopped units session e new
    (then_stops session (first_steps units ++ edit_steps 2) ((a.given, a.reply) ∷ (b.given, b.reply) ∷ []) two (edit_steps 1) e
    (served_then session (first_steps units) ((a.given, a.reply) ∷ []) one (edit_steps 2) ((b.given, b.reply) ∷ []) two a.served b.served) stops)
