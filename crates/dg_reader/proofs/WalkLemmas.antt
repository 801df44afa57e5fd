-- Where readings stop, from token to token.
use Rattle.std.proofs.Common.{◌≡◌, ℕ, true, false, List, [], ◌∷◌, Some, refl, sym, ap, subst, inl, inr}
use Rattle.std.specs.Prelude.{bytes_eq, Result, Ok, Err, IfOk, IfErr}
use Rattle.std.specs.Result.{IsErrAnd}
use Rattle.std.proofs.lemmas.Result.{err_from_is_err_and}
use Rattle.std.proofs.lemmas.Bool.{cases_Bool}
use Rattle.std.proofs.lemmas.Slice.Eq.{bytes_eq-Decides}
use Rattle.meaning_graph.specs.Tokens.{Token, word, string, semicolon, comma, opening, closing, BeginsWith}
use Rattle.meaning_graph.specs.Going.{Class, keyword, open_mark, accepts, Stage, Expected, expect, expected_after, step_at}
use Rattle.dg_reader.specs.declared.cursor.Stop.{Stop}
use Rattle.dg_reader.specs.declared.cursor.Stop.TheVariants.{Unexpected, Memory}
use Rattle.dg_reader.specs.declared.cursor.Wanted.{Wanted}
use Rattle.dg_reader.specs.Walks.{TakesToken, IsNotAt, HasNone, class_of, token_of, Finds, StopsAt, here, behind, CarriesStops, TokensHalt}

-- ---- halts

-- where the expectations lead, a later halt is one from the text
pub halts_behind : (stop : Stop) (e : Expected) (text : List ℕ) (f : Expected) (rest place : List ℕ) → CarriesStops e text f rest → TokensHalt stop f rest place → TokensHalt stop e text place
halts_behind Unexpected e text f rest place l h = l place h
halts_behind Memory e text f rest place l h = h

pub halts_if : (stop : Stop) (e : Expected) (text place : List ℕ) → StopsAt e text place → TokensHalt stop e text place
halts_if Unexpected e text place h = h
halts_if Memory e text place h = tt

-- ---- a token that must come

pub leads_step : (e f : Expected) (text : List ℕ) (t : Token) (rest : List ℕ) → TakesToken text t rest → expected_after e.must e.stage t ≡ Some f → CarriesStops e text f rest
leads_step e f text t rest k s = λ place h. behind e f text t rest place k s h

pub leads_class : (class : Class) (text : List ℕ) (t : Token) (rest : List ℕ) → TakesToken text t rest → accepts class t ≡ true → (more : List Class) (stage : Stage) → CarriesStops (expect (class ∷ more) stage) text (expect more stage) rest
leads_class class text t rest k a more stage = leads_step (expect (class ∷ more) stage) (expect more stage) text t rest k (rw a refl)

pub leads_found : (wanted : Wanted) (bytes text rest : List ℕ) → Finds wanted bytes text rest → (more : List Class) (stage : Stage) → CarriesStops (expect (class_of wanted ∷ more) stage) text (expect more stage) rest
leads_found wanted bytes text rest f = leads_class (class_of wanted) text (token_of wanted bytes) rest f.taken f.accepted

same_word : (w : List ℕ) → bytes_eq w w ≡ true
same_word w = (bytes_eq-Decides w w).1 refl

pub leads_keyword : (w text rest : List ℕ) → TakesToken text (word w) rest → (more : List Class) (stage : Stage) → CarriesStops (expect (keyword w ∷ more) stage) text (expect more stage) rest
leads_keyword w text rest k = leads_class (keyword w) text (word w) rest k (same_word w)

pub stops_class : (class : Class) (text : List ℕ) → HasNone class text → (more : List Class) (stage : Stage) → StopsAt (expect (class ∷ more) stage) text text
stops_class class text none more stage = here (expect (class ∷ more) stage) text (λ t left b. rw (none t left b) refl) (λ e s. let h : ◌≡◌ {A = List Class} (class ∷ more) [] = ap (λ (x : Expected). x.must) s in cc)

-- ---- words that don't come next

pub other_word : (w v text left : List ℕ) → IsNotAt (word v) text → BeginsWith text (word w) left → bytes_eq w v ≡ false
other_word w v text left none b = elim (cases_Bool (bytes_eq w v)) [
  | inl e ↦ absurd (none left (subst (λ x. BeginsWith text (word x) left) ((bytes_eq-Decides w v).0 e) b))
  | inr e ↦ e
]

pub none_of_word : (v text : List ℕ) → IsNotAt (word v) text → HasNone (keyword v) text
none_of_word v text none (word w) left b = other_word w v text left none b
none_of_word v text none (string s) left b = refl
none_of_word v text none semicolon left b = refl
none_of_word v text none comma left b = refl
none_of_word v text none opening left b = refl
none_of_word v text none closing left b = refl

pub stops_keyword : (v text : List ℕ) → IsNotAt (word v) text → (more : List Class) (stage : Stage) → StopsAt (expect (keyword v ∷ more) stage) text text
stops_keyword v text none = stops_class (keyword v) text (none_of_word v text none)

-- ---- the exit of a `?`

pub at_stop : {T : Type 0} (r : Result T Stop) (s : Stop) (Q : Stop → Type 0) → IsErrAnd r (λ e. e ≡ s) → Q s → IfErr r Q
at_stop r s Q is q =
    let p = err_from_is_err_and r is in
    subst (λ v. IfErr v Q) (sym p.1) (subst Q (sym p.2) q)

-- a stop where the cursor stands still
pub halts_here : (stop : Stop) (e : Expected) (text : List ℕ) (f : Expected) (rest place : List ℕ) → CarriesStops e text f rest → StopsAt f rest rest → place ≡ rest → TokensHalt stop e text place
halts_here stop e text f rest place l s same = halts_if stop e text place (subst (λ p. StopsAt e text p) (sym same) (l rest s))

pub stops_open : (text : List ℕ) → IsNotAt opening text → (more : List Class) (stage : Stage) → StopsAt (expect (open_mark ∷ more) stage) text text
stops_open text none = stops_class open_mark text none_open
  where
    none_open : (t : Token) (left : List ℕ) → BeginsWith text t left → accepts open_mark t ≡ false
    none_open (word w) left b = refl
    none_open (string s) left b = refl
    none_open semicolon left b = refl
    none_open comma left b = refl
    none_open opening left b = absurd (none left b)
    none_open closing left b = refl

-- ---- results that are given on

pub if_both : {T E : Type 0} (r : Result T E) (P Q R : T → Type 0) → IfOk r P → IfOk r Q → ((x : T) → P x → Q x → R x) → IfOk r R
if_both (Ok x) P Q R p q f = f x p q
if_both (Err e) P Q R p q f = tt

-- where the expectations lead to what the call found, its stop is one from the text
pub given_on : {T : Type 0} (r : Result T Stop) (e : Expected) (text : List ℕ) (f : Expected) (rest place : List ℕ) → CarriesStops e text f rest → IfErr r (λ stop. TokensHalt stop f rest place) → IfErr r (λ stop. TokensHalt stop e text place)
given_on (Ok x) e text f rest place l h = tt
given_on (Err stop) e text f rest place l h = halts_behind stop e text f rest place l h

pub first_given_on : {T : Type 0} (r : Result T Stop) (w : List ℕ) (l : Stage) (f : Expected) (text same rest place : List ℕ) → step_at l (word w) ≡ Some f → same ≡ text → TakesToken same (word w) rest → IfErr r (λ stop. TokensHalt stop f rest place) → IfErr r (λ stop. TokensHalt stop (expect [] l) text place)
first_given_on r w l f text same rest place s e k h = given_on r (expect [] l) text f rest place (leads_step (expect [] l) f text (word w) rest (subst (λ x. TakesToken x (word w) rest) e k) s) h

pub none_at : (t : Token) (same text : List ℕ) → same ≡ text → IsNotAt t same → IsNotAt t text
none_at t same text e none = subst (λ x. IsNotAt t x) e none

pub taken_at : (t : Token) (same text rest : List ℕ) → same ≡ text → TakesToken same t rest → TakesToken text t rest
taken_at t same text rest e k = subst (λ x. TakesToken x t rest) e k
