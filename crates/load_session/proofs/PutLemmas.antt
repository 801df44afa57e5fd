-- The steps of a load, several at a time.
use Rattle.std.proofs.Common.{◌≡◌, ℕ, ◌+◌, ◌≤◌, ◌<◌, List, [], ◌∷◌, ◌++◌, length, map, drop, sym, subst, arith}
use Rattle.std.specs.List.{range_with_len}
use Rattle.std.proofs.lemmas.List.{length-append}
use Rattle.std.proofs.lemmas.List.FromFn.{length-map-range_with_len}
use Rattle.odin_journal.specs.declared.fault.JournalFault.{JournalFault}
use Rattle.load_session.specs.declared.session.Session.{Session}
use Rattle.load_session.specs.declared.asked.Asked.{Asked}
use Rattle.load_session.specs.Session.{LoadStep, asks, headers, puts_header, puts_unit, header_steps, unit_steps, puts_list, first_steps}
use Rattle.load_session.specs.Moments.{MayServeSteps, HasServed, HasAsked, LoadStopsFor}
use Rattle.load_session.proofs.SessionLemmas.{may_go, served_then, asked_then, first_stops, then_stops}
use Rattle.load_session.proofs.TextLemmas.{steps_more, steps_split}

-- ---- steps by number

module _ (f : ℕ → LoadStep) (old now : Session) (count : ℕ) (served : HasServed old (map f (range_with_len 1 count)) [] now) where
  pub next_may : (all : ℕ) → MayServeSteps all old → count < all → MayServeSteps 1 now
  next_may all may less = let long = length-map-range_with_len f 1 count in may_go all 1 old (map f (range_with_len 1 count)) [] now may served (omega arith)

  pub next_served : (next : Session) → HasServed now (f (count + 1) ∷ []) [] next → HasServed old (map f (range_with_len 1 (count + 1))) [] next
  next_served next one =
      subst (λ (l : List LoadStep). HasServed old l [] next) (sym (steps_more f count))
      (served_then old (map f (range_with_len 1 count)) [] now (f (count + 1) ∷ []) [] next served one)

  pub next_stops : (all : ℕ) (e : JournalFault) → count < all → LoadStopsFor now (f (count + 1) ∷ []) e → LoadStopsFor old (map f (range_with_len 1 all)) e
  next_stops all e less stops =
      subst (λ (l : List LoadStep). LoadStopsFor old l e) (sym (steps_split f (count + 1) all (omega arith)))
      (first_stops old (map f (range_with_len 1 (count + 1))) (drop (count + 1) (map f (range_with_len 1 all))) e
      (subst (λ (l : List LoadStep). LoadStopsFor old l e) (sym (steps_more f count)) (then_stops old (map f (range_with_len 1 count)) [] now (f (count + 1) ∷ []) e served stops)))

-- ---- all sources and the first ask

module _ (units : ℕ) (old : Session) where
  pub headers_stop : (e : JournalFault) → LoadStopsFor old (header_steps headers) e → LoadStopsFor old (first_steps units) e
  headers_stop e stops = first_stops old (header_steps headers ++ unit_steps units) (puts_list units ∷ asks ∷ []) e (first_stops old (header_steps headers) (unit_steps units) e stops)

  pub units_stop : (one : Session) (e : JournalFault) → HasServed old (header_steps headers) [] one → LoadStopsFor one (unit_steps units) e → LoadStopsFor old (first_steps units) e
  units_stop one e served stops =
      first_stops old (header_steps headers ++ unit_steps units) (puts_list units ∷ asks ∷ []) e (then_stops old (header_steps headers) [] one (unit_steps units) e served stops)

  pub sources_served : (one two : Session) → HasServed old (header_steps headers) [] one → HasServed one (unit_steps units) [] two → HasServed old (header_steps headers ++ unit_steps units) [] two
  sources_served one two first second = served_then old (header_steps headers) [] one (unit_steps units) [] two first second

  pub list_may : (two : Session) → MayServeSteps 2013 old → units ≤ 2000 → HasServed old (header_steps headers ++ unit_steps units) [] two → MayServeSteps 1 two
  list_may two may few served =
      let both : length (header_steps headers ++ unit_steps units) ≡ length (header_steps headers) + length (unit_steps units) = length-append (header_steps headers) (unit_steps units) in
      let some : length (header_steps headers) ≡ 12 = length-map-range_with_len (puts_header 1) 1 12 in
      let others : length (unit_steps units) ≡ units = length-map-range_with_len puts_unit 1 units in
      may_go 2013 1 old (header_steps headers ++ unit_steps units) [] two may served (omega arith)

  pub list_stops : (two : Session) (e : JournalFault) → HasServed old (header_steps headers ++ unit_steps units) [] two → LoadStopsFor two (puts_list units ∷ []) e → LoadStopsFor old (first_steps units) e
  list_stops two e served stops =
      then_stops old (header_steps headers ++ unit_steps units) [] two (puts_list units ∷ asks ∷ []) e served (first_stops two (puts_list units ∷ []) (asks ∷ []) e stops)

  pub first_ask_stops : (two three : Session) (e : JournalFault) → HasServed old (header_steps headers ++ unit_steps units) [] two → HasServed two (puts_list units ∷ []) [] three
      → LoadStopsFor three (asks ∷ []) e → LoadStopsFor old (first_steps units) e
  first_ask_stops two three e served listed stops =
      then_stops old (header_steps headers ++ unit_steps units) [] two (puts_list units ∷ asks ∷ []) e served (then_stops two (puts_list units ∷ []) [] three (asks ∷ []) e listed stops)

  pub first_asked : (two three four : Session) (asked : Asked) → HasServed old (header_steps headers ++ unit_steps units) [] two → HasServed two (puts_list units ∷ []) [] three
      → HasAsked three (asks ∷ []) four asked → HasAsked old (first_steps units) four asked
  first_asked two three four asked served listed has =
      asked_then old (header_steps headers ++ unit_steps units) two (puts_list units ∷ asks ∷ []) four asked served (asked_then two (puts_list units ∷ []) three (asks ∷ []) four asked listed has)
