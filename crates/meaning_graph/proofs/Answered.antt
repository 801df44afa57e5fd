-- A text that isn't too long is one of a graph, or has a syntax fault.
use Rattle.std.proofs.Common.{◌≡◌, ℕ, zero, suc, ◌+◌, ◌<◌, ◌≤◌, Bool, true, false, List, [], ◌∷◌, ◌++◌, length, Option, Some, None, refl, sym, ap, ◌∙◌, subst, inl, inr, append_assoc, arith}
use Rattle.std.specs.Prelude.{◌-◌, cond, take, nat_le, MatchOption}
use Rattle.std.specs.Option.{option_and_then}
use Rattle.std.proofs.Math.Seq.{take-append_seam}
use Rattle.std.proofs.Common.{length-append, leb-true}
use Rattle.std.proofs.lemmas.Bool.{both_ways}
use Rattle.object_values.specs.declared.graph.Decl.{Decl}
use Rattle.meaning_texts.specs.Limits.{graph_limit}
use Rattle.meaning_graph.specs.Tokens.{Token, BeginsWith, Tokens, one, is_past_gap}
use Rattle.meaning_graph.specs.Lexing.{past_gap, Taken, taken, token_at}
use Rattle.meaning_graph.specs.Grammar.{graph_tokens, HasSpelling, GraphText}
use Rattle.meaning_graph.specs.Places.{line_behind, column_behind, IsFrontOfGraph, IsSyntaxFault}
use Rattle.meaning_graph.specs.Going.{Class, Stage, between, kind, supers, super_ids, parts, ending, strings, used_ids, extras, Expected, expect, start, expected_after, run, can_go_on}
use Rattle.meaning_graph.specs.Stopping.{is_done, stop_by, stop_at, stop_from, syntax_stop, front_of}
use Rattle.meaning_graph.proofs.Lexed.{begins_from}
use Rattle.meaning_graph.proofs.Readings.{Before, tokens_append, read_before, past_is_past, past_read, gap_shorter, begins_shorter, tokens_short}
use Rattle.meaning_graph.proofs.Runs.{graph_run, run_append}
use Rattle.meaning_graph.specs.TextLaws.{AreOfGraph}
use Rattle.meaning_graph.proofs.Fronts.{front_from_going, going_from_front, whole_from_run}
use Rattle.meaning_graph.proofs.Tokens.{begins_told}
use Rattle.meaning_graph.proofs.Stops.{compared, none_at_end}

-- ---- where no graph goes on

same_taken : (t u : Token) (left other : List ℕ) → ◌≡◌ {A = Option Taken} (Some (taken t left)) (Some (taken u other)) → t ≡ u
same_taken t u left other e = ap (λ (o : Option Taken). token_or t o) e
  where
    token_or : Token → Option Taken → Token
    token_or d None = d
    token_or d (Some k) = k.token

-- the rest begins with a token that no graph has there
stops_at : (rest left : List ℕ) (tokens : List Token) (u : Token) → token_at rest ≡ Some (taken u left) → ((decls : List Decl) (more : List Token) → HasSpelling decls → tokens ++ u ∷ more ≡ graph_tokens decls → ⊥)
    → (t : Token) (other : List ℕ) → BeginsWith rest t other → IsFrontOfGraph (tokens ++ t ∷ []) → ⊥
stops_at rest left tokens u k never t other b f =
    let same : t ≡ u = same_taken t u other left (sym (begins_told rest t other b) ∙ k) in
    let whole : tokens ++ u ∷ f.more ≡ graph_tokens f.decls = ap (λ x. tokens ++ x ∷ f.more) (sym same) ∙ sym (append_assoc tokens (t ∷ []) f.more) ∙ f.is in
    never f.decls f.more f.spelled whole

pub no_graph_at : (text rest left : List ℕ) (tokens : List Token) (u : Token) → Tokens text tokens rest → is_past_gap rest ≡ true → token_at rest ≡ Some (taken u left) → ((decls : List Decl) (more : List Token) → HasSpelling decls → tokens ++ u ∷ more ≡ graph_tokens decls → ⊥)
    → (decls : List Decl) → GraphText text decls → ⊥
no_graph_at text rest left tokens u d p k never decls g = elim (compared text tokens (graph_tokens decls) rest [] d g.tokens p refl) [
  | inl h ↦ let e : ◌≡◌ {A = Option Taken} None (Some (taken u left)) = subst (λ x. token_at x ≡ Some (taken u left)) h.left k in let n : ⊥ = cc in absurd n
  | inr h ↦ elim h [
    | inl o ↦ let same : o.token ≡ u = same_taken o.token u o.left left (sym (begins_told rest o.token o.left o.begins) ∙ k) in never decls o.more g.spelled (ap (λ x. tokens ++ x ∷ o.more) (sym same) ∙ sym o.tokens)
    | inr o ↦ none_at_end o.token o.left o.begins
  ]
]

-- the rest begins with no token
stops_without : (rest : List ℕ) (tokens : List Token) → token_at rest ≡ None → (t : Token) (other : List ℕ) → BeginsWith rest t other → IsFrontOfGraph (tokens ++ t ∷ []) → ⊥
stops_without rest tokens k t other b f = let e : ◌≡◌ {A = Option Taken} None (Some (taken t other)) = sym k ∙ begins_told rest t other b in cc

pub no_graph_without : (text rest : List ℕ) (tokens : List Token) → Tokens text tokens rest → is_past_gap rest ≡ true → token_at rest ≡ None → (rest ≡ [] → (decls : List Decl) → HasSpelling decls → tokens ≡ graph_tokens decls → ⊥) → (decls : List Decl) → GraphText text decls → ⊥
no_graph_without text rest tokens d p k never decls g = elim (compared text tokens (graph_tokens decls) rest [] d g.tokens p refl) [
  | inl h ↦ never h.left decls g.spelled h.tokens
  | inr h ↦ elim h [
    | inl o ↦ let e : ◌≡◌ {A = Option Taken} None (Some (taken o.token o.left)) = sym k ∙ begins_told rest o.token o.left o.begins in let n : ⊥ = cc in absurd n
    | inr o ↦ none_at_end o.token o.left o.begins
  ]
]

-- ---- answers

abbrev FaultAt : List ℕ → List ℕ → Type 0
FaultAt text rest = IsSyntaxFault text (line_behind (front_of text rest)) (column_behind (front_of text rest))

abbrev Answer : List ℕ → Option (List ℕ) → Type 0
Answer text stop = MatchOption stop ((decls : List Decl) × GraphText text decls) (FaultAt text)

-- a reading, up to what isn't in a gap
record Reading (text : List ℕ) (ts : List Token) (rest : List ℕ) (e : Expected) : Type 0 where
  low : length text ≤ graph_limit
  tokens : Tokens text ts rest
  past : is_past_gap rest ≡ true
  runs : run start ts ≡ Some e

reading_front : (text : List ℕ) (ts : List Token) (rest : List ℕ) (e : Expected) → Reading text ts rest e → IsFrontOfGraph ts
unfolding can_go_on
reading_front text ts rest e r =
    let c : length ts + length rest ≤ length text = tokens_short text ts rest r.tokens in
    let low : length text ≤ graph_limit = r.low in
    front_from_going ts (omega arith) (rw r.runs refl)

front_is : (text rest front : List ℕ) → text ≡ front ++ rest → front ≡ front_of text rest
front_is text rest front e =
    let n : length text ≡ length front + length rest = ap length e ∙ length-append front rest in
    let m : length text - length rest ≡ length front = omega arith in
    sym (rw m (ap (take (length front)) e ∙ take-append_seam front rest))

fault : (text : List ℕ) (ts : List Token) (rest : List ℕ) (e : Expected) → Reading text ts rest e → ((t : Token) (left : List ℕ) → BeginsWith rest t left → IsFrontOfGraph (ts ++ t ∷ []) → ⊥) → ((decls : List Decl) → GraphText text decls → ⊥) → FaultAt text rest
fault text ts rest e r stops none =
    let b : Before text rest = read_before text ts rest r.tokens in
    let f : b.front ≡ front_of text rest = front_is text rest b.front b.is in
    record { front = b.front; rest = rest; tokens = ts; is = b.is; before = r.tokens; begins = r.past; goes_on = reading_front text ts rest e r; stops = stops; none = none; line_is = ap line_behind (sym f); column_is = ap column_behind (sym f) }

-- a token that isn't expected goes on to no graph
not_expected : (ts : List Token) (e : Expected) (t : Token) → run start ts ≡ Some e → expected_after e.must e.stage t ≡ None → IsFrontOfGraph (ts ++ t ∷ []) → ⊥
unfolding can_go_on
not_expected ts e t h s f =
    let one_more : run start (ts ++ t ∷ []) ≡ None = run_append start ts (t ∷ []) ∙ (rw (h, s) refl) in
    let g : can_go_on (ts ++ t ∷ []) ≡ true = going_from_front (ts ++ t ∷ []) f in
    both_ways false refl (rw one_more at g)

never_there : (ts : List Token) (e : Expected) (t : Token) → run start ts ≡ Some e → expected_after e.must e.stage t ≡ None → (decls : List Decl) (more : List Token) → HasSpelling decls → ts ++ t ∷ more ≡ graph_tokens decls → ⊥
never_there ts e t h s decls more good w = not_expected ts e t h s (record { more = more; decls = decls; spelled = good; is = append_assoc ts (t ∷ []) more ∙ w })

unexpected : (text : List ℕ) (ts : List Token) (rest : List ℕ) (e : Expected) (k : Taken) → Reading text ts rest e → token_at rest ≡ Some k → expected_after e.must e.stage k.token ≡ None → FaultAt text rest
unexpected text ts rest e k r a s = fault text ts rest e r (stops_at rest k.rest ts k.token a (never_there ts e k.token r.runs s)) (no_graph_at text rest k.rest ts k.token r.tokens r.past a (never_there ts e k.token r.runs s))

no_token : (text : List ℕ) (ts : List Token) (b : ℕ) (rest : List ℕ) (e : Expected) → Reading text ts (b ∷ rest) e → token_at (b ∷ rest) ≡ None → FaultAt text (b ∷ rest)
no_token text ts b rest e r a = fault text ts (b ∷ rest) e r (stops_without (b ∷ rest) ts a) (no_graph_without text (b ∷ rest) ts r.tokens r.past a (λ h. let n : ⊥ = cc in absurd n))

done_start : (cs : List Class) (l : Stage) → is_done cs l ≡ true → expect cs l ≡ start
done_start [] between h = refl
done_start [] kind h = absurd (both_ways false refl h)
done_start [] supers h = absurd (both_ways false refl h)
done_start [] super_ids h = absurd (both_ways false refl h)
done_start [] parts h = absurd (both_ways false refl h)
done_start [] ending h = absurd (both_ways false refl h)
done_start [] strings h = absurd (both_ways false refl h)
done_start [] used_ids h = absurd (both_ways false refl h)
done_start [] extras h = absurd (both_ways false refl h)
done_start (c ∷ cs) l h = absurd (both_ways false refl h)

inside : (e f : Expected) → ◌≡◌ {A = Option Expected} (Some e) (Some f) → e ≡ f
inside e f h = cc

at_end : (text : List ℕ) (ts : List Token) (e : Expected) → Reading text ts [] e → (b : Bool) → is_done e.must e.stage ≡ b → Answer text (cond b None (Some []))
at_end text ts e r true d =
    let c : length ts + 0 ≤ length text = tokens_short text ts [] r.tokens in
    let low : length text ≤ graph_limit = r.low in
    let g : AreOfGraph ts = whole_from_run ts (omega arith) (r.runs ∙ ap (λ (x : Expected). Some x) (done_start e.must e.stage d)) in
    (g.decls, record { spelled = g.spelled; tokens = subst (λ x. Tokens text x []) g.is r.tokens })
at_end text ts e r false d = fault text ts [] e r (stops_without [] ts refl) (no_graph_without text [] ts r.tokens refl refl (λ h decls good w. not_done (inside e start (sym r.runs ∙ ap (run start) w ∙ graph_run decls good.spellable))))
  where
    not_done : e ≡ start → ⊥
    not_done s = let h : is_done e.must e.stage ≡ true = ap (λ (x : Expected). is_done x.must x.stage) s in both_ways (is_done e.must e.stage) d h

-- one token more that is expected
onward : (text : List ℕ) (ts : List Token) (rest : List ℕ) (e : Expected) (k : Taken) (f : Expected) → Reading text ts rest e → BeginsWith rest k.token k.rest → expected_after e.must e.stage k.token ≡ Some f → Reading text (ts ++ k.token ∷ []) (past_gap false k.rest) f
onward text ts rest e k f r b s = record {
  low = r.low;
  tokens = tokens_append text ts rest (k.token ∷ []) (past_gap false k.rest) r.tokens (one rest k.token k.rest [] (past_gap false k.rest) b (past_read k.rest));
  past = past_is_past false k.rest;
  runs = run_append start ts (k.token ∷ []) ∙ step_on e f (run start ts) r.runs s;
}
  where
    step_on : (e f : Expected) (o : Option Expected) → o ≡ Some e → expected_after e.must e.stage k.token ≡ Some f → option_and_then (λ (g : Expected). run g (k.token ∷ [])) o ≡ Some f
    step_on e f o h s = rw (h, s) refl

-- what is after a token is shorter
shorter : (rest : List ℕ) (k : Taken) (n : ℕ) → BeginsWith rest k.token k.rest → length rest ≤ suc n → length (past_gap false k.rest) ≤ n
shorter rest k n b low =
    let a : length k.rest < length rest = begins_shorter rest k.token k.rest b in
    let c : length (past_gap false k.rest) ≤ length k.rest = gap_shorter false k.rest in
    omega arith

by_step : (go : Expected → List ℕ → Option (List ℕ)) (text : List ℕ) (ts : List Token) (b : ℕ) (rest : List ℕ) (e : Expected) (k : Taken) → Reading text ts (b ∷ rest) e → token_at (b ∷ rest) ≡ Some k → ((f : Expected) → Reading text (ts ++ k.token ∷ []) (past_gap false k.rest) f → Answer text (go f (past_gap false k.rest))) → (o : Option Expected) → expected_after e.must e.stage k.token ≡ o → Answer text (stop_by go (b ∷ rest) k o)
by_step go text ts b rest e k r a more None s = unexpected text ts (b ∷ rest) e k r a s
by_step go text ts b rest e k r a more (Some f) s = more f (onward text ts (b ∷ rest) e k f r (begins_from (b ∷ rest) k a) s)

by_token : (go : Expected → List ℕ → Option (List ℕ)) (text : List ℕ) (ts : List Token) (b : ℕ) (rest : List ℕ) (e : Expected) → Reading text ts (b ∷ rest) e → ((k : Taken) → token_at (b ∷ rest) ≡ Some k → (f : Expected) → Reading text (ts ++ k.token ∷ []) (past_gap false k.rest) f → Answer text (go f (past_gap false k.rest))) → (o : Option Taken) → token_at (b ∷ rest) ≡ o → Answer text (stop_at go e (b ∷ rest) o)
by_token go text ts b rest e r more None a = no_token text ts b rest e r a
by_token go text ts b rest e r more (Some k) a = by_step go text ts b rest e k r a (more k a) (expected_after e.must e.stage k.token) refl

answer : (n : ℕ) (text : List ℕ) (ts : List Token) (rest : List ℕ) (e : Expected) → length rest ≤ n → Reading text ts rest e → Answer text (stop_from n e rest)
answer zero text ts [] e low r = at_end text ts e r (is_done e.must e.stage) refl
answer zero text ts (b ∷ rest) e low r = absurd (omega arith)
answer (suc n) text ts [] e low r = at_end text ts e r (is_done e.must e.stage) refl
answer (suc n) text ts (b ∷ rest) e low r = by_token (stop_from n) text ts b rest e r (λ k a f d. answer n text (ts ++ k.token ∷ []) (past_gap false k.rest) f (shorter (b ∷ rest) k n (begins_from (b ∷ rest) k a) low) d) (token_at (b ∷ rest)) refl

pub answered : (text : List ℕ) → length text ≤ graph_limit → MatchOption (syntax_stop text) ((decls : List Decl) × GraphText text decls) (FaultAt text)
unfolding syntax_stop
answered text low = answer (length text) text [] (past_gap false text) start (gap_shorter false text) (record { low = low; tokens = past_read text; past = past_is_past false text; runs = refl })

-- a text that is computed to stop before the rest has its fault there
pub fault_by : (text rest : List ℕ) (line column : ℕ) → nat_le (length text) graph_limit ≡ true → syntax_stop text ≡ Some rest → line_behind (front_of text rest) ≡ line → column_behind (front_of text rest) ≡ column → IsSyntaxFault text line column
fault_by text rest line column low stop l c =
    let f : FaultAt text rest = subst (λ o. Answer text o) stop (answered text (leb-true (length text) graph_limit low)) in
    subst (λ x. IsSyntaxFault text line x) c (subst (λ x. IsSyntaxFault text x (column_behind (front_of text rest))) l f)
