-- Where a reading of declarations stops, the text has its syntax fault.
use Rattle.std.proofs.Common.{◌≡◌, ℕ, ◌-◌, ◌≤◌, true, false, List, [], ◌∷◌, ◌++◌, length, take, drop, Option, Some, None, refl, sym, ap, ◌∙◌, subst, append_assoc, length-append, arith, take-append-drop}
use Rattle.std.proofs.Math.Seq.{drop-append_seam}
use Rattle.std.proofs.lemmas.Bool.{both_ways}
use Rattle.object_values.specs.declared.graph.Decl.{Decl}
use Rattle.meaning_texts.specs.Limits.{graph_limit}
use Rattle.meaning_graph.specs.Tokens.{Token, BeginsWith, a_word, a_string, a_semicolon, a_comma, an_opening, a_closing, Tokens, no_more, blank, comment, one, is_past_gap}
use Rattle.meaning_graph.specs.Lexing.{Taken, token_at}
use Rattle.meaning_graph.specs.Grammar.{graph_tokens, HasSpelling, GraphText}
use Rattle.meaning_graph.specs.Places.{line_behind, column_behind, IsFrontOfGraph, IsSyntaxFault}
use Rattle.meaning_graph.specs.Going.{Expected, start, expected_after, run, can_go_on}
use Rattle.meaning_graph.proofs.Lemmas.{begins_from, graph_run, run_append, front_from_going, going_from_front, no_graph_at, no_graph_without, tokens_append, tokens_short, past_is_past}
use Rattle.dg_reader.specs.Walks.{StopsAt, here, behind}
use Rattle.dg_reader.proofs.TokenLemmas.{takes_cons}

-- ---- what stands before the rest of a reading

record Front (text rest : List ℕ) : Type 0 where
  front : List ℕ
  is : text ≡ front ++ rest

front_more : (text mid rest head : List ℕ) → text ≡ head ++ mid → Front mid rest → Front text rest
front_more text mid rest head e f = record { front = head ++ f.front; is = e ∙ ap (λ x. head ++ x) f.is ∙ sym (append_assoc head f.front rest) }

begins_front : (text : List ℕ) (t : Token) (rest : List ℕ) → BeginsWith text t rest → Front text rest
begins_front text t rest (a_word w more i n) = record { front = w; is = refl }
begins_front text t rest (a_string s more i) = record { front = 34 ∷ (s ++ 34 ∷ []); is = ap (λ x. 34 ∷ x) (sym (append_assoc s (34 ∷ []) more)) }
begins_front text t rest (a_semicolon more) = record { front = 59 ∷ []; is = refl }
begins_front text t rest (a_comma more) = record { front = 44 ∷ []; is = refl }
begins_front text t rest (an_opening more) = record { front = 40 ∷ []; is = refl }
begins_front text t rest (a_closing more) = record { front = 41 ∷ []; is = refl }

tokens_front : (text : List ℕ) (ts : List Token) (rest : List ℕ) → Tokens text ts rest → Front text rest
tokens_front text ts rest (no_more end) = record { front = []; is = refl }
tokens_front text ts rest (blank b more tokens end i d) = front_more (b ∷ more) more end (b ∷ []) refl (tokens_front more tokens end d)
tokens_front text ts rest (comment words more tokens end n l d) = front_more (35 ∷ (words ++ more)) more end (35 ∷ words) refl (tokens_front more tokens end d)
tokens_front text ts rest (one whole t more tokens end b d) = let h : Front whole more = begins_front whole t more b in front_more whole more end h.front h.is (tokens_front more tokens end d)

-- the rest of a reading stands at its place
pub rest_at : (text : List ℕ) (ts : List Token) (rest : List ℕ) → Tokens text ts rest → drop (length text - length rest) text ≡ rest
rest_at text ts rest d =
    let f : Front text rest = tokens_front text ts rest d in
    let l = ap length f.is in
    let a = length-append f.front rest in
    let n : length text - length rest ≡ length f.front = omega arith in
    ap (λ k. drop k text) n ∙ ap (drop (length f.front)) f.is ∙ drop-append_seam f.front rest

-- ---- the tokens up to a stop

record Stopped (e : Expected) (text place : List ℕ) : Type 0 where
  ts : List Token
  f : Expected
  read : Tokens text ts place
  past : is_past_gap place ≡ true
  runs : run e ts ≡ Some f
  none : (t : Token) (left : List ℕ) → BeginsWith place t left → expected_after f.must f.stage t ≡ None
  ends : place ≡ [] → f ≡ start → ⊥

stopped : (e : Expected) (text place : List ℕ) → StopsAt e text place → is_past_gap text ≡ true → Stopped e text place
stopped e text place (here e2 text2 none ends) p = record { ts = []; f = e2; read = no_more text2; past = p; runs = refl; none = none; ends = ends }
stopped e text place (behind e2 f text2 t rest place2 k s more) p =
    let after : is_past_gap rest ≡ true = subst (λ x. is_past_gap x ≡ true) (sym k.is) (past_is_past false k.left) in
    let h : Stopped f rest place2 = stopped f rest place2 more after in
    record { ts = t ∷ h.ts; f = h.f; read = takes_cons text2 t rest h.ts place2 k h.read; past = h.past; runs = rw s h.runs; none = h.none; ends = h.ends }

-- ---- the fault

-- declarations and further tokens, after which something stands that isn't expected
record Faulty (text : List ℕ) (ts : List Token) (place : List ℕ) (f : Expected) : Type 0 where
  low : length text ≤ graph_limit
  read : Tokens text ts place
  past : is_past_gap place ≡ true
  runs : run start ts ≡ Some f
  none : (t : Token) (left : List ℕ) → BeginsWith place t left → expected_after f.must f.stage t ≡ None
  ends : place ≡ [] → f ≡ start → ⊥

not_expected : (ts : List Token) (f : Expected) (t : Token) → run start ts ≡ Some f → expected_after f.must f.stage t ≡ None → IsFrontOfGraph (ts ++ t ∷ []) → ⊥
unfolding can_go_on
not_expected ts f t h s g =
    let one_more : run start (ts ++ t ∷ []) ≡ None = run_append start ts (t ∷ []) ∙ (rw (h, s) refl) in
    let go : can_go_on (ts ++ t ∷ []) ≡ true = going_from_front (ts ++ t ∷ []) g in
    both_ways false refl (rw one_more at go)

front_of_graph : (text : List ℕ) (ts : List Token) (place : List ℕ) (f : Expected) → Faulty text ts place f → IsFrontOfGraph ts
unfolding can_go_on
front_of_graph text ts place f h =
    let short = tokens_short text ts place h.read in
    let low : length text ≤ graph_limit = h.low in
    front_from_going ts (omega arith) (rw h.runs refl)

inside : (e f : Expected) → ◌≡◌ {A = Option Expected} (Some e) (Some f) → e ≡ f
inside e f h = cc

never_whole : (text : List ℕ) (ts : List Token) (place : List ℕ) (f : Expected) → Faulty text ts place f → place ≡ [] → (decls : List Decl) → HasSpelling decls → ts ≡ graph_tokens decls → ⊥
never_whole text ts place f h e decls good w = h.ends e (inside f start (sym h.runs ∙ ap (run start) w ∙ graph_run decls good.spellable))

no_graph : (text : List ℕ) (ts : List Token) (place : List ℕ) (f : Expected) → Faulty text ts place f → (o : Option Taken) → token_at place ≡ o → (decls : List Decl) → GraphText text decls → ⊥
no_graph text ts place f h None k = no_graph_without text place ts h.read h.past k (never_whole text ts place f h)
no_graph text ts place f h (Some t) k =
    no_graph_at text place t.rest ts t.token h.read h.past k (λ decls more good w. not_expected ts f t.token h.runs (h.none t.token t.rest (begins_from place t k)) (record { more = more; decls = decls; spelled = good; is = append_assoc ts (t.token ∷ []) more ∙ w }))

syntax_fault : (text : List ℕ) (ts : List Token) (place : List ℕ) (f : Expected) → Faulty text ts place f → IsSyntaxFault text (line_behind (take (length text - length place) text)) (column_behind (take (length text - length place) text))
syntax_fault text ts place f h =
    let n : ℕ = length text - length place in
    let is : text ≡ take n text ++ place = sym (take-append-drop n text) ∙ ap (λ x. take n text ++ x) (rest_at text ts place h.read) in
    record {
      front = take n text;
      rest = place;
      tokens = ts;
      is = is;
      before = h.read;
      begins = h.past;
      goes_on = front_of_graph text ts place f h;
      stops = λ t left b. not_expected ts f t h.runs (h.none t left b);
      none = no_graph text ts place f h (token_at place) refl;
      line_is = refl;
      column_is = refl;
    }

-- the next declaration stops
pub fault_at : (text : List ℕ) (decls : List Decl) (mid place : List ℕ) → length text ≤ graph_limit → HasSpelling decls → Tokens text (graph_tokens decls) mid → is_past_gap mid ≡ true → StopsAt start mid place
    → (length place ≤ length text) × IsSyntaxFault text (line_behind (take (length text - length place) text)) (column_behind (take (length text - length place) text))
fault_at text decls mid place low good d p s =
    let h : Stopped start mid place = stopped start mid place s p in
    let read : Tokens text (graph_tokens decls ++ h.ts) place = tokens_append text (graph_tokens decls) mid h.ts place d h.read in
    let short = tokens_short text (graph_tokens decls ++ h.ts) place read in
    let back : run start (graph_tokens decls) ≡ Some start = graph_run decls good.spellable in (
      omega arith,
      syntax_fault text (graph_tokens decls ++ h.ts) place h.f (record {
        low = low;
        read = read;
        past = h.past;
        runs = run_append start (graph_tokens decls) h.ts ∙ rw back h.runs;
        none = h.none;
        ends = h.ends;
      }),
    )
