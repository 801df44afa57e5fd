-- The computed test holds of the tokens that can go on to a graph.
use Rattle.std.proofs.Common.{◌≡◌, ℕ, suc, ◌+◌, ◌≤◌, Bool, true, false, List, [], ◌∷◌, ◌++◌, length, Option, Some, None, cond, refl, sym, ap, ◌∙◌, subst, arith, length-append}
use Rattle.std.specs.Prelude.{codes, bytes_eq, is_some, MatchOption, ⊤}
use Rattle.std.specs.Option.{option_and_then}
use Rattle.std.proofs.lemmas.Bool.{both_ways}
use Rattle.std.proofs.lemmas.Slice.Eq.{bytes_eq-Decides}
use Rattle.meaning_texts.specs.Limits.{graph_limit}
use Rattle.meaning_texts.specs.Tests.{is_string_text}
use Rattle.meaning_graph.specs.Tokens.{Token, word, string, semicolon, comma, opening, closing}
use Rattle.meaning_graph.specs.Places.{IsFrontOfGraph}
use Rattle.meaning_graph.specs.Going.{Class, keyword, identifier, any_word, any_string, name_string, open_mark, accepts, Stage, between, kind, supers, super_ids, parts, ending, strings, used_ids, extras, Expected, expect, start, extra_word, step_at, expected_after, run, can_go_on}
use Rattle.meaning_graph.proofs.Runs.{graph_run, run_append}
use Rattle.meaning_graph.specs.TextLaws.{AreOfGraph}
use Rattle.meaning_graph.proofs.Accepted.{graph_told}

-- ---- tokens that lead back to the start

abbrev sample : Class → Token
sample (keyword w) = word w
sample identifier = word (codes "a")
sample any_word = word (codes "a")
sample any_string = string []
sample name_string = string (codes "a")
sample open_mark = opening

sample_accepted : (c : Class) → accepts c (sample c) ≡ true
sample_accepted (keyword w) = (bytes_eq-Decides w w).1 refl
sample_accepted identifier = refl
sample_accepted any_word = refl
sample_accepted any_string = refl
sample_accepted name_string = refl
sample_accepted open_mark = refl

abbrev stage_end : Stage → List Token
stage_end between = []
stage_end kind = word (codes "simple") ∷ semicolon ∷ []
stage_end supers = semicolon ∷ []
stage_end super_ids = semicolon ∷ []
stage_end parts = closing ∷ semicolon ∷ []
stage_end ending = semicolon ∷ []
stage_end strings = semicolon ∷ []
stage_end used_ids = semicolon ∷ []
stage_end extras = semicolon ∷ []

abbrev samples : List Class → List Token
samples [] = []
samples (c ∷ cs) = sample c ∷ samples cs

completes : (cs : List Class) (l : Stage) → run (expect cs l) (samples cs ++ stage_end l) ≡ Some start
completes [] between = refl
completes [] kind = refl
completes [] supers = refl
completes [] super_ids = refl
completes [] parts = refl
completes [] ending = refl
completes [] strings = refl
completes [] used_ids = refl
completes [] extras = refl
completes (c ∷ cs) l = rw (sample_accepted c) (completes cs l)

-- ---- few tokens lead back

abbrev Short : Option Expected → Type 0
Short o = MatchOption o ⊤ (λ (f : Expected). length f.must ≤ 8)

short_cond : (b : Bool) (x : Expected) (o : Option Expected) → length x.must ≤ 8 → Short o → Short (cond b (Some x) o)
short_cond true x o s t = s
short_cond false x o s t = t

extra_short : (w : List ℕ) → Short (extra_word w)
extra_short w = short_cond (bytes_eq w (codes "also")) _ _ (omega arith) (short_cond (bytes_eq w (codes "with")) _ _ (omega arith) (short_cond (bytes_eq w (codes "closure")) _ _ (omega arith) tt))

at_short : (l : Stage) (t : Token) → Short (step_at l t)
at_short between (word w) = short_cond (bytes_eq w (codes "type")) _ _ (omega arith) (short_cond (bytes_eq w (codes "suffix")) _ _ (omega arith) (short_cond (bytes_eq w (codes "param")) _ _ (omega arith) (short_cond (bytes_eq w (codes "tool")) _ _ (omega arith) (short_cond (bytes_eq w (codes "read")) _ _ (omega arith) (short_cond (bytes_eq w (codes "each")) _ _ (omega arith) (short_cond (bytes_eq w (codes "pack")) _ _ (omega arith) tt))))))
at_short between (string s) = tt
at_short between semicolon = tt
at_short between comma = tt
at_short between opening = tt
at_short between closing = tt
at_short kind (word w) = short_cond (bytes_eq w (codes "simple")) _ _ (omega arith) (short_cond (bytes_eq w (codes "list")) _ _ (omega arith) (short_cond (bytes_eq w (codes "compound")) _ _ (omega arith) tt))
at_short kind (string s) = tt
at_short kind semicolon = tt
at_short kind comma = tt
at_short kind opening = tt
at_short kind closing = tt
at_short supers (word w) = short_cond (bytes_eq w (codes "is")) _ _ (omega arith) tt
at_short supers (string s) = tt
at_short supers semicolon = omega arith
at_short supers comma = tt
at_short supers opening = tt
at_short supers closing = tt
at_short super_ids (word w) = tt
at_short super_ids (string s) = tt
at_short super_ids semicolon = omega arith
at_short super_ids comma = omega arith
at_short super_ids opening = tt
at_short super_ids closing = tt
at_short parts (word w) = tt
at_short parts (string s) = tt
at_short parts semicolon = tt
at_short parts comma = omega arith
at_short parts opening = tt
at_short parts closing = omega arith
at_short ending (word w) = tt
at_short ending (string s) = tt
at_short ending semicolon = omega arith
at_short ending comma = tt
at_short ending opening = tt
at_short ending closing = tt
at_short strings (word w) = short_cond (bytes_eq w (codes "uses")) _ _ (omega arith) (extra_short w)
at_short strings (string s) = short_cond (is_string_text s) _ _ (omega arith) tt
at_short strings semicolon = omega arith
at_short strings comma = tt
at_short strings opening = tt
at_short strings closing = tt
at_short used_ids (word w) = extra_short w
at_short used_ids (string s) = tt
at_short used_ids semicolon = omega arith
at_short used_ids comma = omega arith
at_short used_ids opening = tt
at_short used_ids closing = tt
at_short extras (word w) = extra_short w
at_short extras (string s) = tt
at_short extras semicolon = omega arith
at_short extras comma = tt
at_short extras opening = tt
at_short extras closing = tt

step_short : (cs : List Class) (l : Stage) (t : Token) → length cs ≤ 8 → Short (expected_after cs l t)
step_short [] l t low = at_short l t
step_short (c ∷ cs) l t low = short_cond (accepts c t) (expect cs l) None (omega arith) tt

short_next : (o : Option Expected) → Short o → (f : Expected) → o ≡ Some f → length f.must ≤ 8
short_next None s f e = let n : ⊥ = cc in absurd n
short_next (Some x) s f e = let same : x ≡ f = cc in subst (λ (y : Expected). length y.must ≤ 8) same s

and_then_some : (g : Expected → Option Expected) (o : Option Expected) (y : Expected) → option_and_then g o ≡ Some y → (x : Expected) × (o ≡ Some x) × (g x ≡ Some y)
and_then_some g None y e = let n : ⊥ = cc in absurd n
and_then_some g (Some x) y e = (x, refl, e)

run_short : (e : Expected) (ts : List Token) (f : Expected) → length e.must ≤ 8 → run e ts ≡ Some f → length f.must ≤ 8
run_short e [] f low h = let same : e ≡ f = cc in subst (λ (y : Expected). length y.must ≤ 8) same low
run_short e (t ∷ ts) f low h =
    let a = and_then_some (λ (g : Expected). run g ts) (expected_after e.must e.stage t) f h in
    run_short a.0 ts f (short_next (expected_after e.must e.stage t) (step_short e.must e.stage t low) a.0 a.1) a.2

length_samples : (cs : List Class) → length (samples cs) ≡ length cs
length_samples [] = refl
length_samples (c ∷ cs) = ap (λ n. suc n) (length_samples cs)

length_end : (l : Stage) → length (stage_end l) ≤ 2
length_end between = omega arith
length_end kind = omega arith
length_end supers = omega arith
length_end super_ids = omega arith
length_end parts = omega arith
length_end ending = omega arith
length_end strings = omega arith
length_end used_ids = omega arith
length_end extras = omega arith

-- ---- fronts

some_is : (o : Option Expected) → is_some o ≡ true → (x : Expected) × (o ≡ Some x)
some_is None e = absurd (both_ways false refl e)
some_is (Some x) e = (x, refl)

-- where the tokens lead to what is expected, they go on
goes_on : (tokens : List Token) (e : Expected) → length tokens ≤ graph_limit → run start tokens ≡ Some e → IsFrontOfGraph tokens
goes_on tokens e low h =
    let short : length e.must ≤ 8 = run_short start tokens e (omega arith) h in
    let a : length (samples e.must ++ stage_end e.stage) ≡ length (samples e.must) + length (stage_end e.stage) = length-append (samples e.must) (stage_end e.stage) in
    let b : length (samples e.must) ≡ length e.must = length_samples e.must in
    let c : length (stage_end e.stage) ≤ 2 = length_end e.stage in
    let d : length (tokens ++ (samples e.must ++ stage_end e.stage)) ≡ length tokens + length (samples e.must ++ stage_end e.stage) = length-append tokens (samples e.must ++ stage_end e.stage) in
    let back : run start (tokens ++ (samples e.must ++ stage_end e.stage)) ≡ Some start = run_append start tokens (samples e.must ++ stage_end e.stage) ∙ ap (option_and_then (λ (f : Expected). run f (samples e.must ++ stage_end e.stage))) h ∙ completes e.must e.stage in
    let g : AreOfGraph (tokens ++ (samples e.must ++ stage_end e.stage)) = graph_told (tokens ++ (samples e.must ++ stage_end e.stage)) (omega arith) back in
    record { more = samples e.must ++ stage_end e.stage; decls = g.decls; spelled = g.spelled; is = g.is }

pub front_from_going : (tokens : List Token) → length tokens ≤ graph_limit → can_go_on tokens ≡ true → IsFrontOfGraph tokens
unfolding can_go_on
front_from_going tokens low h = let s = some_is (run start tokens) h in goes_on tokens s.0 low s.1

prefix_runs : (o : Option Expected) (ys : List Token) → option_and_then (λ (f : Expected). run f ys) o ≡ Some start → is_some o ≡ true
prefix_runs None ys e = let n : ⊥ = cc in absurd n
prefix_runs (Some x) ys e = refl

pub going_from_front : (tokens : List Token) → IsFrontOfGraph tokens → can_go_on tokens ≡ true
unfolding can_go_on
going_from_front tokens f =
    let back : run start (tokens ++ f.more) ≡ Some start = ap (run start) f.is ∙ graph_run f.decls f.spelled.spellable in
    prefix_runs (run start tokens) f.more (sym (run_append start tokens f.more) ∙ back)

-- where the tokens lead back to the start, they are those of a graph
pub whole_from_run : (tokens : List Token) → length tokens ≤ graph_limit → run start tokens ≡ Some start → AreOfGraph tokens
whole_from_run tokens low h = graph_told tokens (omega arith) h
