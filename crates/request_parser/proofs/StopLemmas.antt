-- What a reading that stopped says, carried on.
use Rattle.std.proofs.Common.{◌≡◌, List, ℕ, ◌∷◌, sym, subst}
use Rattle.std.specs.Prelude.{Result, Ok, Err, IfErr}
use Rattle.std.specs.Result.{IsErrAnd}
use Rattle.std.proofs.lemmas.Result.{err_from_is_err_and}
use Rattle.request_parser.specs.declared.bytes.Wanted.{Wanted}
use Rattle.request_parser.specs.declared.cursor.Stop.{Stop}
use Rattle.request_parser.specs.declared.cursor.Stop.TheVariants.{Unexpected, Memory}
use Rattle.request_parser.specs.Runs.{InWord, HaltsInWord}
use Rattle.request_parser.specs.Reads.{HaltsAt, Halts, HaltsIn, AreItems, AreItemsBehind}
use Rattle.request_parser.proofs.ReadLemmas.{halts_mark}

-- the stop that was handed on
pub at_stop : {T : Type 0} (r : Result T Stop) (s : Stop) (Q : Stop → Type 0) → IsErrAnd r (λ e. e ≡ s) → Q s → IfErr r Q
at_stop r s Q is q =
    let p = err_from_is_err_and r is in
    subst (λ v. IfErr v Q) (sym p.1) (subst Q (sym p.2) q)

-- the stop of a call whose result is the whole's
pub same_stop : {T : Type 0} (r : Result T Stop) (P Q : Stop → Type 0) → ((s : Stop) → P s → Q s) → IfErr r P → IfErr r Q
same_stop (Ok x) P Q f h = tt
same_stop (Err s) P Q f h = f s h

-- what a word that wasn't read says of a whole
pub word_halts_whole : (is_text : List ℕ → Type 0) (w : Wanted) (text whole place : List ℕ) → (HaltsInWord w text place → HaltsAt is_text whole place) → (s : Stop) → InWord s w text place → Halts s is_text whole place
word_halts_whole is_text w text whole place f Unexpected h = f h
word_halts_whole is_text w text whole place f Memory h = tt

pub word_stops : (is_text : List ℕ → Type 0) (w : Wanted) (text place : List ℕ) → (HaltsInWord w text place → HaltsAt is_text text place) → (s : Stop) → InWord s w text place → Halts s is_text text place
word_stops is_text w text place f s h = word_halts_whole is_text w text text place f s h

pub stops_behind : (part whole : List ℕ → Type 0) (rest text place : List ℕ) → (HaltsAt part rest place → HaltsAt whole text place) → (s : Stop) → Halts s part rest place → Halts s whole text place
stops_behind part whole rest text place f Unexpected h = f h
stops_behind part whole rest text place f Memory h = tt

-- a stop after a mark that was taken
pub mark_stops : {T : Type 0} (r : Result T Stop) (mark : ℕ) (text rest place : List ℕ) → text ≡ mark ∷ rest → IfErr r (HaltsIn (AreItemsBehind mark) rest place) → IfErr r (HaltsIn AreItems text place)
mark_stops r mark text rest place is h = same_stop r (HaltsIn (AreItemsBehind mark) rest place) (HaltsIn AreItems text place) (stops_behind (AreItemsBehind mark) AreItems rest text place (λ x. rw is (halts_mark mark rest place x))) h
