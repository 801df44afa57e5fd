-- Whole texts: what is read of them, and where their fault is.
use Rattle.std.proofs.Common.{◌≡◌, ℕ, zero, suc, ◌+◌, ◌-◌, ◌<◌, ◌≤◌, true, false, List, [], ◌∷◌, ◌++◌, length, min, take, drop, replicate, Some, refl, sym, ap, subst, ◌∙◌, inl, inr, arith, append_assoc, append-nil, length-append, length-take, length-drop, take-append-drop}
use Rattle.std.specs.Prelude.{nat_eq}
use Rattle.std.specs.List.{list_all}
use Rattle.std.proofs.lemmas.Bool.{cases_Bool, cases_lt, both_ways, and_parts, eqb-true}
use Rattle.std.proofs.lemmas.List.{take_all, take-append-le}
use Rattle.std.proofs.lemmas.List.Sums.{list_all-from_AllPass}
use Rattle.object_values.specs.declared.nodes.ParamValue.{ParamValue}
use Rattle.object_values.specs.declared.expressions.ExprStep.{ExprStep}
use Rattle.object_values.specs.declared.expressions.Expression.{Expression}
use Rattle.meaning_texts.specs.Classes.{is_name_byte, IsName}
use Rattle.meaning_texts.specs.Limits.{expression_limit}
use Rattle.meaning_texts.specs.Expressions.{Items, no_more, SpellsExpression, ExpressionText, IsFront, IsStop, no_front, past_limit, too_short, IsFaultPlace}
use Rattle.request_parser.specs.declared.bytes.Class.TheVariants as class
use Rattle.request_parser.specs.declared.bytes.Wanted.TheVariants as wanted
use Rattle.request_parser.specs.Runs.{has, next, IsPast, TakesRun, TakesWord, HaltsInWord}
use Rattle.request_parser.specs.Reads.{HaltsAt, AreItems, ReadsItems, IsOfGrammar, IsWrittenAs}
use Rattle.request_parser.proofs.RunLemmas.{past_alike, SameRun, same_run}
use Rattle.request_parser.proofs.ReadLemmas.{halts_behind, halts_in_word, items_past}

-- ---- a name and items

-- a text of the grammar without spaces before the name
record IsNamed (text : List ℕ) : Type 0 where
  source : List ℕ
  behind : List ℕ
  is : text ≡ source ++ behind
  name : IsName source
  items : AreItems behind

name_run : (source : List ℕ) → IsName source → list_all is_name_byte source ≡ true
name_run source n = list_all-from_AllPass is_name_byte source n.each

past_name : (rest : List ℕ) → AreItems rest → IsPast is_name_byte rest
past_name rest a = items_past is_name_byte refl refl refl refl rest a.0 a.1 a.2

name_halts : (text place : List ℕ) → HaltsInWord wanted.Name text place → HaltsAt IsNamed text place
name_halts text place h = halts_in_word IsNamed wanted.Name text place
    (λ word i. record { source = word; behind = []; is = sym (append-nil word); name = i; items = ([], [], no_more) })
    (λ t n. let a : AreItems n.behind = n.items in record { word = n.source; rest = n.behind; is = n.is; of = n.name; past = past_name n.behind a })
    h

items_halt : (source text rest place : List ℕ) → TakesWord wanted.Name source text rest → HaltsAt AreItems rest place → HaltsAt IsNamed text place
items_halt source text rest place t h = rw t.is (halts_behind IsNamed AreItems source rest place
    (λ u a. record { source = source; behind = u; is = refl; name = t.of; items = a })
    (λ u n named.
    let a : AreItems named.behind = named.items in
    let past : IsPast is_name_byte u = past_alike is_name_byte u rest n t.past in
    let s : SameRun source named.source u named.behind = same_run is_name_byte source named.source u named.behind (name_run source t.of) (name_run named.source named.name) past (past_name named.behind a) named.is in
    subst AreItems (sym s.rest) a)
    h)

-- ---- spaces before the name

spaces_are : (run : List ℕ) → list_all (has class.Space) run ≡ true → run ≡ replicate (length run) 32
spaces_are [] e = refl
spaces_are (b ∷ run) e =
    let h = and_parts (nat_eq b 32) (list_all (has class.Space) run) e in
    ap (λ x. x ∷ run) (eqb-true b 32 h.0) ∙ ap (λ t. 32 ∷ t) (spaces_are run h.1)

all_spaces : (n : ℕ) → list_all (has class.Space) (replicate n 32) ≡ true
all_spaces zero = refl
all_spaces (suc n) = all_spaces n

no_space_in : (b : ℕ) → is_name_byte b ≡ true → nat_eq b 32 ≡ false
no_space_in b e = elim (cases_Bool (nat_eq b 32)) [
  | inl t ↦ let f : is_name_byte b ≡ false = rw (eqb-true b 32 t) refl in absurd (both_ways (is_name_byte b) f e)
  | inr f ↦ f
]

name_past_space : (source behind : List ℕ) → IsName source → IsPast (has class.Space) (source ++ behind)
name_past_space [] behind n = let s : 0 < length {A = ℕ} [] = n.some in absurd (omega arith)
name_past_space (b ∷ source) behind n = let h = and_parts (is_name_byte b) (list_all is_name_byte source) (name_run (b ∷ source) n) in no_space_in b h.0

named_text : (n : ℕ) (text : List ℕ) → IsNamed text → IsOfGrammar (replicate n 32 ++ text)
named_text n text named =
    let a : AreItems named.behind = named.items in
    (named.source, a.0, a.1, record { spaces = n; behind = named.behind; is = ap (λ t. replicate n 32 ++ t) named.is; name = named.name; items = a.2 })

text_named : (run text : List ℕ) → list_all (has class.Space) run ≡ true → IsPast (has class.Space) text → IsOfGrammar (run ++ text) → IsNamed text
text_named run text all past t =
    let w : SpellsExpression (run ++ text) t.0 t.1 t.2 = t.3 in
    let s : SameRun run (replicate w.spaces 32) text (t.0 ++ w.behind) = same_run (has class.Space) run (replicate w.spaces 32) text (t.0 ++ w.behind) all (all_spaces w.spaces) past (name_past_space t.0 w.behind w.name) w.is in
    record { source = t.0; behind = w.behind; is = s.rest; name = w.name; items = (t.1, t.2, w.items) }

named_halts : (run text rest place : List ℕ) → TakesRun (has class.Space) run text rest → HaltsAt IsNamed rest place → HaltsAt IsOfGrammar text place
named_halts run text rest place t h = rw t.is (halts_behind IsOfGrammar IsNamed run rest place
    (λ u n. subst (λ r. IsOfGrammar (r ++ u)) (sym (spaces_are run t.each)) (named_text (length run) u n))
    (λ u n w. text_named run u t.each (past_alike (has class.Space) u rest n t.past) w)
    h)

pub source_halts : (run text rest place : List ℕ) → TakesRun (has class.Space) run text rest → HaltsInWord wanted.Name rest place → HaltsAt IsOfGrammar text place
source_halts run text rest place t h = named_halts run text rest place t (name_halts rest place h)

pub behind_halts : (run source text rest behind place : List ℕ) → TakesRun (has class.Space) run text rest → TakesWord wanted.Name source rest behind → HaltsAt AreItems behind place → HaltsAt IsOfGrammar text place
behind_halts run source text rest behind place t w h = named_halts run text rest place t (items_halt source rest behind place w h)

-- ---- what is read

pub text_read : (run text rest behind : List ℕ) (e : Expression) (kept : List ParamValue) (steps : List ExprStep) → TakesRun (has class.Space) run text rest → TakesWord wanted.Name e.source rest behind → ReadsItems behind [] kept steps → e.params ≡ kept → e.steps ≡ steps → IsWrittenAs text e
text_read run text rest behind e kept steps t w a params_are steps_are =
    let written : List ParamValue = a.written in
    let items : Items behind written steps = rw (append-nil, append-nil) at (a.reads [] [] no_more) in
    let whole : text ≡ replicate (length run) 32 ++ (e.source ++ behind) = t.is ∙ ap (λ r. r ++ rest) (spaces_are run t.each) ∙ ap (λ r. replicate (length run) 32 ++ r) w.is in
    record {
      params = written;
      written = record { spaces = length run; behind = behind; is = whole; name = w.of; items = rw steps_are items };
      kept = rw params_are a.are_kept;
    }

-- ---- the place of a fault

-- fewer bytes of a front are one
front_of : (done more : List ℕ) (n : ℕ) → IsOfGrammar (done ++ more) → IsFront (take n done)
front_of done more n t =
    let joined : take n done ++ (drop n done ++ more) ≡ done ++ more = sym (append_assoc (take n done) (drop n done) more) ∙ ap (λ x. x ++ more) (take-append-drop n done) in
    record { more = drop n done ++ more; source = t.0; params = t.1; steps = t.2; written = rw joined t.3 }

one_more : (done : List ℕ) (b : ℕ) (rest : List ℕ) → take (length done + 1) (done ++ b ∷ rest) ≡ done ++ b ∷ []
one_more [] b rest = refl
one_more (x ∷ done) b rest =
    let n : length (x ∷ done) + 1 ≡ suc (length done + 1) = omega arith in
    ap (λ k. take k (x ∷ (done ++ b ∷ rest))) n ∙ ap (λ t. x ∷ t) (one_more done b rest)

not_front : (done : List ℕ) (b : ℕ) (rest : List ℕ) → ((behind : List ℕ) → next behind ≡ Some b → IsOfGrammar (done ++ behind) → ⊥) → IsFront (take (length done + 1) (done ++ b ∷ rest)) → ⊥
not_front done b rest stops f =
    let g : IsFront (done ++ b ∷ []) = subst IsFront (one_more done b rest) f in
    stops (b ∷ g.more) refl (g.source, g.params, g.steps, rw append_assoc at g.written)

fault_behind : (done more place tail : List ℕ) → IsOfGrammar (done ++ more) → ((behind : List ℕ) → next behind ≡ next place → IsOfGrammar (done ++ behind) → ⊥) → length (done ++ place) ≤ expression_limit → (0 < length tail → length (done ++ place) ≡ expression_limit) → IsFaultPlace (done ++ (place ++ tail)) (length done + 1)
fault_behind done more place tail goes stops short full =
    let l : length (done ++ place) ≡ length done + length place = length-append done place in
    record {
      counted = omega arith;
      before = λ n lt. let le : n ≤ length done = omega arith in rw (take-append-le n done (place ++ tail) le) (front_of done more n goes);
      within = omega arith;
      there = at place tail stops short full;
    }
  where
    at : (place tail : List ℕ) → ((behind : List ℕ) → next behind ≡ next place → IsOfGrammar (done ++ behind) → ⊥) → length (done ++ place) ≤ expression_limit → (0 < length tail → length (done ++ place) ≡ expression_limit) → IsStop (done ++ (place ++ tail)) (length done + 1)
    at (b ∷ place) tail stops short full =
        let l : length (done ++ (b ∷ (place ++ tail))) ≡ length done + length (b ∷ (place ++ tail)) = length-append done (b ∷ (place ++ tail)) in
        no_front (omega arith) (not_front done b (place ++ tail) stops)
    at [] [] stops short full = too_short (rw append-nil refl) (λ e t. stops [] refl (e.source, t.params, e.steps, t.written))
    at [] (b ∷ tail) stops short full =
        let l : length (done ++ (b ∷ tail)) ≡ length done + length (b ∷ tail) = length-append done (b ∷ tail) in
        let k : length (done ++ []) ≡ length done = ap length (append-nil done) in
        let f : length (done ++ []) ≡ expression_limit = full (omega arith) in
        past_limit (omega arith) (omega arith)

fault_at : (counted tail place : List ℕ) → HaltsAt IsOfGrammar counted place → length counted ≤ expression_limit → (0 < length tail → length counted ≡ expression_limit) → IsFaultPlace (counted ++ tail) (length counted - length place + 1)
fault_at counted tail place h short full =
    let done : List ℕ = h.done in
    let is : counted ≡ done ++ place = h.is in
    let l : length (done ++ place) ≡ length done + length place = length-append done place in
    let c : length counted ≡ length (done ++ place) = ap length is in
    let n : length counted - length place ≡ length done = omega arith in
    let whole : counted ++ tail ≡ done ++ (place ++ tail) = ap (λ x. x ++ tail) is ∙ append_assoc done place tail in
    rw (whole, n) (fault_behind done h.more place tail h.goes h.stops (omega arith) (λ some. sym c ∙ full some))

-- as many bytes of a text as count
first_bytes : (text : List ℕ) (n : ℕ) → n ≡ min (length text) expression_limit → take n text ≡ take expression_limit text
first_bytes text n is = elim (cases_lt expression_limit (length text)) [
  | inl l ↦ ap (λ k. take k text) (let same : n ≡ expression_limit = omega arith in same)
  | inr l ↦ take_all n text (omega arith) ∙ sym (take_all expression_limit text l)
]

pub first_read : (text : List ℕ) (n : ℕ) (e : Expression) → n ≡ min (length text) expression_limit → IsWrittenAs (take n text) e → IsWrittenAs (take expression_limit text) e
first_read text n e is w = subst (λ t. IsWrittenAs t e) (first_bytes text n is) w

pub fault_first : (text place : List ℕ) (n left : ℕ) → n ≡ min (length text) expression_limit → left ≡ length place → HaltsAt IsOfGrammar (take n text) place → IsFaultPlace text (length (take n text) - left + 1)
fault_first text place n left is left_is h =
    let taken : length (take n text) ≡ min n (length text) = length-take n text in
    let behind : length (drop n text) ≡ length text - n = length-drop n text in
    let f : IsFaultPlace (take n text ++ drop n text) (length (take n text) - length place + 1) = fault_at (take n text) (drop n text) place h (omega arith) (λ some. omega arith) in
    rw left_is (subst (λ t. IsFaultPlace t (length (take n text) - length place + 1)) (take-append-drop n text) f)

-- ---- a text that goes on after the limit

pub goes_on : (text : List ℕ) (e : Expression) → IsWrittenAs (take expression_limit text) e → expression_limit < length text → IsFaultPlace text 1001
goes_on text e w long =
    let counted : List ℕ = take expression_limit text in
    let l : length counted ≡ min expression_limit (length text) = length-take expression_limit text in
    record {
      counted = omega arith;
      before = λ n lt.
          let le : n ≤ length counted = omega arith in
          let same : take n text ≡ take n counted = ap (take n) (sym (take-append-drop expression_limit text)) ∙ take-append-le n counted (drop expression_limit text) le in
          rw same (front_of counted [] n (e.source, w.params, e.steps, rw append-nil w.written));
      within = omega arith;
      there = past_limit long (omega arith);
    }

pub whole_read : (text : List ℕ) (e : Expression) → IsWrittenAs (take expression_limit text) e → length text ≤ expression_limit → ExpressionText text e
whole_read text e w short =
    let all : take expression_limit text ≡ text = take_all expression_limit text short in
    record { params = w.params; written = subst (λ t. SpellsExpression t e.source w.params e.steps) all w.written; kept = w.kept; short = short }
