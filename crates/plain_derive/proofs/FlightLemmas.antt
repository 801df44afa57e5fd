-- What follows of a flight: what came, what is told, how faults are counted, and when nothing happens.
use Rattle.std.proofs.Common.{◌≡◌, ◌≤◌, ℕ, true, false, List, [], ◌∷◌, ◌++◌, length, inl, inr, refl, sym, ap, subst, arith, length-append, ◌∙◌}
use Rattle.std.specs.Prelude.{Option, Some, None, IsSome}
use Rattle.object_values.specs.declared.nodes.Node.{Node}
use Rattle.object_values.specs.declared.calls.Call.{Call}
use Rattle.object_values.specs.declared.calls.Outcome.{Outcome}
use Rattle.odin_outside.specs.declared.events.Running.{Running}
use Rattle.odin_outside.specs.Causes.{IsCounted}
use Rattle.odin_outside.specs.Spawned.{Table, Spawned}
use Rattle.meaning_texts.specs.Lists.{IsIn}
use Rattle.meaning_texts.proofs.Lemmas.{in_either}
use Rattle.meaning_graph.specs.Graphs.{Graph}
use Rattle.meaning_derive.specs.Derive.{Sources, Outcomes, IsFounded}
use Rattle.meaning_derive.specs.Calls.{IsFrontier}
use Rattle.meaning_derive.proofs.Lemmas.{kept as chains_stay, known}
use Rattle.derive_walk.specs.Calls.{GivenOutcomes as Listed}
use Rattle.derive_walk.specs.Outcomes.{after}
use Rattle.job_runner.specs.declared.jobs.Flying.{Flying}
use Rattle.job_runner.specs.Made.{IsOutcomeOfCall}
use Rattle.job_runner.specs.Flights.{flying, calls_in, tool_of, AreTold}
use Rattle.job_runner.proofs.Lemmas.{no_more, told_one_more, call_there}
use Rattle.plain_derive.specs.Given.{AreGiven, HaveCome, IsRefusedBy}
use Rattle.plain_derive.specs.Flights.{Flight, WaitsForCall, IsCalled, IsFull, Course, on_course, off_course, for_chain, for_spawn, Flies}
use Rattle.plain_derive.specs.FlightLaws.{FullIsLesser, FlightsAreFew, FlightsAreGiven, FlightsAreCounted, IsUnflown, RefusedFlyNone, KnownFlyNone}
use Rattle.plain_derive.proofs.KeptLemmas.{one_more_known}

none_between : {A : Type 0} (front back : List A) (x : A) → [] ≡ front ++ x ∷ back → ⊥
none_between [] back x e = cc
none_between (y ∷ front) back x e = cc

front_is_none : (front back : Listed) → [] ≡ front ++ back → front ≡ []
front_is_none [] back e = refl
front_is_none (x ∷ front) back e = cc

came_more : (answer : Option Table) (given : Listed) (call : Call) (outcome : Outcome) → HaveCome answer given → IsOutcomeOfCall answer call outcome → HaveCome answer (given ++ (call, outcome) ∷ [])
came_more answer given call outcome came last c o i = elim (in_either (c, o) given ((call, outcome) ∷ []) i) [
  | inl j ↦ came c o j
  | inr (inl e) ↦ subst (λ (z : Call × Outcome). IsOutcomeOfCall answer z.0 z.1) (sym e) last
  | inr (inr none) ↦ absurd none
]

fewer : (front back : List Flying) (x : Flying) (all : List Flying) {limit : ℕ} → all ≡ front ++ x ∷ back → length all ≤ limit → length (front ++ back) ≤ limit
fewer front back x all is few = omega (arith, few, ap length is, length-append front (x ∷ back), length-append front back)

module _ (g : Graph) (s : Sources) (kept : Outcomes) (n : Node) (limit : ℕ) (before : Spawned) where
  -- a call that runs is one at which the derivation stops, where as many run as may
  pub full_waits : (f : Flight) (front back : List Flying) (slot : ℕ) (call : Call) → f.running ≡ front ++ flying slot call ∷ back → IsFull (WaitsForCall g s kept n f.given) limit (calls_in f.running) → WaitsForCall g s kept n f.given call
  full_waits f front back slot call is full = full.only call (subst (λ l. IsIn call (calls_in l)) (sym is) (call_there slot call front back))

  -- ---- what came, and what is told

  pub flown_given : (course : Course) (f : Flight) → Flies g s kept n limit before course f → AreGiven g s kept n f.given
  flown_given way f Flies.none_flown = AreGiven.none_given
  flown_given way f (Flies.one_began o slot call flown may free) = flown_given on_course o flown
  flown_given way f (Flies.one_ended o front back slot call outcome flown is full clear came) = AreGiven.one_more o.given call outcome (flown_given on_course o flown) (full_waits o front back slot call is full)
  flown_given way f (Flies.chain_found o flown refused) = flown_given on_course f flown
  flown_given way f (Flies.start_refused o call tools flown may fails) = flown_given on_course o flown
  flown_given way f (Flies.end_lost o front back slot call faults flown is full clear counted) = flown_given on_course o flown
  flown_given way f (Flies.one_drained why o front back slot call outcome flown is waits came) = AreGiven.one_more o.given call outcome (flown_given (off_course why) o flown) waits
  flown_given way f (Flies.drain_lost why o front back slot call faults flown is counted) = flown_given (off_course why) o flown

  pub flown_came : (course : Course) (f : Flight) → Flies g s kept n limit before course f → HaveCome before.answer f.given
  flown_came way f Flies.none_flown = λ call outcome i. absurd i
  flown_came way f (Flies.one_began o slot call flown may free) = flown_came on_course o flown
  flown_came way f (Flies.one_ended o front back slot call outcome flown is full clear came) = came_more before.answer o.given call outcome (flown_came on_course o flown) came
  flown_came way f (Flies.chain_found o flown refused) = flown_came on_course f flown
  flown_came way f (Flies.start_refused o call tools flown may fails) = flown_came on_course o flown
  flown_came way f (Flies.end_lost o front back slot call faults flown is full clear counted) = flown_came on_course o flown
  flown_came way f (Flies.one_drained why o front back slot call outcome flown is waits came) = came_more before.answer o.given call outcome (flown_came (off_course why) o flown) came
  flown_came way f (Flies.drain_lost why o front back slot call faults flown is counted) = flown_came (off_course why) o flown

  pub flown_answer : (course : Course) (f : Flight) → Flies g s kept n limit before course f → f.tools.answer ≡ before.answer
  flown_answer way f Flies.none_flown = refl
  flown_answer way f (Flies.one_began o slot call flown may free) = flown_answer on_course o flown
  flown_answer way f (Flies.one_ended o front back slot call outcome flown is full clear came) = flown_answer on_course o flown
  flown_answer way f (Flies.chain_found o flown refused) = flown_answer on_course f flown
  flown_answer way f (Flies.start_refused o call tools flown may fails) = ap (λ (z : Spawned). z.answer) fails.is ∙ flown_answer on_course o flown
  flown_answer way f (Flies.end_lost o front back slot call faults flown is full clear counted) = flown_answer on_course o flown
  flown_answer way f (Flies.one_drained why o front back slot call outcome flown is waits came) = flown_answer (off_course why) o flown
  flown_answer way f (Flies.drain_lost why o front back slot call faults flown is counted) = flown_answer (off_course why) o flown

  pub flown_told : before.running ≡ [] → (course : Course) (f : Flight) → Flies g s kept n limit before course f → AreTold f.running f.tools
  flown_told idle way f Flies.none_flown = idle
  flown_told idle way f (Flies.one_began o slot call flown may free) = ap (λ (l : List Running). l ++ tool_of (flying slot call) ∷ []) (flown_told idle on_course o flown) ∙ sym (told_one_more o.running (flying slot call))
  flown_told idle way f (Flies.one_ended o front back slot call outcome flown is full clear came) = refl
  flown_told idle way f (Flies.chain_found o flown refused) = flown_told idle on_course f flown
  flown_told idle way f (Flies.start_refused o call tools flown may fails) = ap (λ (z : Spawned). z.running) fails.is ∙ flown_told idle on_course o flown
  flown_told idle way f (Flies.end_lost o front back slot call faults flown is full clear counted) = refl
  flown_told idle way f (Flies.one_drained why o front back slot call outcome flown is waits came) = refl
  flown_told idle way f (Flies.drain_lost why o front back slot call faults flown is counted) = refl

  -- no more run than may
  pub flown_few : (course : Course) (f : Flight) → Flies g s kept n limit before course f → length f.running ≤ limit
  flown_few way f Flies.none_flown = omega arith
  flown_few way f (Flies.one_began o slot call flown may free) = omega (arith, may.room, length-append o.running (flying slot call ∷ []))
  flown_few way f (Flies.one_ended o front back slot call outcome flown is full clear came) = fewer front back (flying slot call) o.running is (flown_few on_course o flown)
  flown_few way f (Flies.chain_found o flown refused) = flown_few on_course f flown
  flown_few way f (Flies.start_refused o call tools flown may fails) = flown_few on_course o flown
  flown_few way f (Flies.end_lost o front back slot call faults flown is full clear counted) = fewer front back (flying slot call) o.running is (flown_few on_course o flown)
  flown_few way f (Flies.one_drained why o front back slot call outcome flown is waits came) = fewer front back (flying slot call) o.running is (flown_few (off_course why) o flown)
  flown_few way f (Flies.drain_lost why o front back slot call faults flown is counted) = fewer front back (flying slot call) o.running is (flown_few (off_course why) o flown)

  -- ---- on its course

  -- no fault is counted
  pub flown_faults : (f : Flight) → Flies g s kept n limit before on_course f → f.tools.faults ≡ before.faults
  flown_faults f Flies.none_flown = refl
  flown_faults f (Flies.one_began o slot call flown may free) = flown_faults o flown
  flown_faults f (Flies.one_ended o front back slot call outcome flown is full clear came) = flown_faults o flown

  -- where nothing came and nothing runs nothing happened
  pub none_flew : (f : Flight) → Flies g s kept n limit before on_course f → f.given ≡ [] → f.running ≡ [] → f.tools ≡ before
  none_flew f Flies.none_flown given running = refl
  none_flew f (Flies.one_began o slot call flown may free) given running = absurd (none_between o.running [] (flying slot call) (sym running))
  none_flew f (Flies.one_ended o front back slot call outcome flown is full clear came) given running = absurd (none_between o.given [] (call, outcome) (sym given))

  -- ---- off it

  pub faults_later : (f : Flight) → Flies g s kept n limit before (off_course for_chain) f → before.faults ≤ f.tools.faults
  faults_later f (Flies.chain_found o flown refused) = let same = flown_faults o flown in omega (arith, same)
  faults_later f (Flies.one_drained why o front back slot call outcome flown is waits came) = faults_later o flown
  faults_later f (Flies.drain_lost why o front back slot call faults flown is counted) = let first = faults_later o flown in omega (arith, first, counted.later)

  pub faults_rose : (f : Flight) → Flies g s kept n limit before (off_course for_spawn) f → IsCounted before.faults f.tools.faults
  faults_rose f (Flies.start_refused o call tools flown may fails) = subst (λ k. IsCounted k f.tools.faults) (flown_faults o flown) fails.counted
  faults_rose f (Flies.end_lost o front back slot call faults flown is full clear counted) = subst (λ k. IsCounted k faults) (flown_faults o flown) counted
  faults_rose f (Flies.one_drained why o front back slot call outcome flown is waits came) = faults_rose o flown
  faults_rose f (Flies.drain_lost why o front back slot call faults flown is counted) =
      let first = faults_rose o flown in
      record { later = omega (arith, first.later, counted.later); rose = omega (arith, first.rose, counted.later) }

  -- a chain stays as outcomes come
  pub refused_more : (given : Listed) (call : Call) (outcome : Outcome) → after kept given call ≡ None → IsRefusedBy g s (after kept given) n → IsRefusedBy g s (after kept (given ++ (call, outcome) ∷ [])) n
  refused_more given call outcome none refused =
      let stay = chains_stay g s (after kept given) (after kept (given ++ (call, outcome) ∷ [])) (one_more_known kept given call outcome none) n in
      record { chain = refused.chain; is = elim refused.is [ inl circular ↦ inl (stay.circular refused.chain circular) | inr deep ↦ inr (stay.deep refused.chain deep) ] }

  -- Off its course for a chain the node has one, by all that came.
  pub off_for_chain : (f : Flight) → Flies g s kept n limit before (off_course for_chain) f → IsRefusedBy g s (after kept f.given) n
  off_for_chain f (Flies.chain_found o flown refused) = refused
  off_for_chain f (Flies.one_drained why o front back slot call outcome flown is waits came) = refused_more o.given call outcome waits.outside (off_for_chain o flown)
  off_for_chain f (Flies.drain_lost why o front back slot call faults flown is counted) = off_for_chain o flown

  -- ---- where nothing is to be done

  -- No tool is touched where the derivation stopped at no call.
  pub none_flies : ((call : Call) → IsCalled g s kept n [] call → ⊥) → (course : Course) (f : Flight) → Flies g s kept n limit before course f → IsUnflown before course f
  none_flies never way f Flies.none_flown = record { none = refl; idle = refl; told = refl; unrefused = λ e. cc }
  none_flies never way f (Flies.one_began o slot call flown may free) = absurd (never call (subst (λ l. IsCalled g s kept n l call) (none_flies never on_course o flown).none may.called))
  none_flies never way f (Flies.one_ended o front back slot call outcome flown is full clear came) = absurd (none_between front back (flying slot call) (sym (none_flies never on_course o flown).idle ∙ is))
  none_flies never way f (Flies.chain_found o flown refused) = let un = none_flies never on_course f flown in record { none = un.none; idle = un.idle; told = un.told; unrefused = λ e. cc }
  none_flies never way f (Flies.start_refused o call tools flown may fails) = absurd (never call (subst (λ l. IsCalled g s kept n l call) (none_flies never on_course o flown).none may.called))
  none_flies never way f (Flies.end_lost o front back slot call faults flown is full clear counted) = absurd (none_between front back (flying slot call) (sym (none_flies never on_course o flown).idle ∙ is))
  none_flies never way f (Flies.one_drained why o front back slot call outcome flown is waits came) = absurd (none_between front back (flying slot call) (sym (none_flies never (off_course why) o flown).idle ∙ is))
  none_flies never way f (Flies.drain_lost why o front back slot call faults flown is counted) = absurd (none_between front back (flying slot call) (sym (none_flies never (off_course why) o flown).idle ∙ is))

-- ---- laws

pub is_flown : FlightsAreGiven
is_flown g s kept n limit before course f flown = record {
  are = flown_given g s kept n limit before course f flown;
  came = flown_came g s kept n limit before course f flown;
  answer = flown_answer g s kept n limit before course f flown;
  told = λ idle. flown_told g s kept n limit before idle course f flown;
}

pub flights_are_few : FlightsAreFew
flights_are_few g s kept n limit before course f flown = flown_few g s kept n limit before course f flown

pub counted_on : FlightsAreCounted
counted_on g s kept n limit before on_course f flown = flown_faults g s kept n limit before f flown
counted_on g s kept n limit before (off_course for_chain) f flown = faults_later g s kept n limit before f flown
counted_on g s kept n limit before (off_course for_spawn) f flown = faults_rose g s kept n limit before f flown

pub refused_fly_none : RefusedFlyNone
refused_fly_none g s kept n limit before course f flown refused =
    none_flies g s kept n limit before (λ call called. called.calm (subst (λ (l : Listed). IsRefusedBy g s (after kept l) n) (sym (front_is_none called.seen called.since called.is)) refused)) course f flown

pub known_fly_none : KnownFlyNone
known_fly_none g s kept n limit before course f flown never =
    none_flies g s kept n limit before (λ call called. never call (subst (λ l. WaitsForCall g s kept n l call) (front_is_none called.seen called.since called.is) called.stops)) course f flown

-- ---- how many run

pub full_is_lesser : FullIsLesser
full_is_lesser g s outcomes n limit running all is distinct only each =
    let fewer : length running ≤ length all = no_more running all is.once (λ call i. each call (is.only call i)) in
    elim is.full [
      | inl same ↦ omega (arith, fewer, same)
      | inr full ↦ let most : length all ≤ length running = no_more all running distinct (λ call i. full call (only call i)) in omega (arith, fewer, most, is.few)
    ]

-- none runs where the node has a result
pub founded_rests : (g : Graph) (s : Sources) (outcomes : Outcomes) (n : Node) (running : List Flying) → IsFounded g s outcomes n
    → ((call : Call) → IsIn call (calls_in running) → IsFrontier g s outcomes n call) → running ≡ []
founded_rests g s outcomes n [] founded waits = refl
founded_rests g s outcomes n (f ∷ running) founded waits = let w = waits f.call (inl refl) in absurd (none_waits (outcomes f.call) (known g s outcomes n f.call founded w.from) w.outside)
  where
    none_waits : (o : Option Outcome) → IsSome o → o ≡ None → ⊥
    none_waits (Some x) some e = cc
    none_waits None some e = let no : false ≡ true = some in cc
