-- Which error it is.
use Rattle.std.proofs.Common.{◌≡◌, ◌≢◌, ◌∙◌, ◌<◌, ℕ, zero, suc, Bool, true, false, List, [], ◌∷◌, ◌++◌, drop, take, length, get_or, map, refl, sym, ap, subst, arith}
use Rattle.std.specs.Prelude.{Option, Some, None, Result, Ok, Err, IfErr, IsOk, if◌then◌else◌}
use Rattle.std.specs.Result.{is_ok}
use Rattle.std.specs.List.{All}
use Rattle.std.specs.Str.{IsUtf8}
use Rattle.std.proofs.lemmas.Bool.{false≢true}
use Rattle.std.proofs.lemmas.List.{map-append}
use Rattle.odin_real.specs.declared.fault.SystemFault.{SystemFault}
use Rattle.odin_real.specs.declared.fault.SystemFault.TheVariants as system
use Rattle.odin_outside.specs.declared.spawner.StartFault.{StartFault}
use Rattle.odin_outside.specs.declared.spawner.StartFault.TheVariants as start
use Rattle.odin_outside.specs.declared.spawner.FinishFault.{FinishFault}
use Rattle.odin_outside.specs.declared.spawner.FinishFault.TheVariants as finish
use Rattle.odin_real.specs.Folders.{Standing, removed, IsGone}

abbrev is_memory : {T : Type 0} → Result T SystemFault → Bool
is_memory (Ok x) = false
is_memory (Err system.Failed) = false
is_memory (Err system.Memory) = true

pub ok_differs : {T : Type 0} (result : Result T SystemFault) (x : T) → result ≡ Ok x → result ≢ Err system.Memory
ok_differs result x is = λ same. false≢true (ap is_memory (sym is ∙ same))

pub failed_differs : {T : Type 0} (result : Result T SystemFault) → result ≡ Err system.Failed → result ≢ Err system.Memory
failed_differs result is = λ same. false≢true (ap is_memory (sym is ∙ same))

abbrev is_failed : {T : Type 0} → Result T SystemFault → Bool
is_failed (Ok x) = false
is_failed (Err system.Failed) = true
is_failed (Err system.Memory) = false

pub ok_not_failed : {T : Type 0} (result : Result T SystemFault) (x : T) → result ≡ Ok x → result ≢ Err system.Failed
ok_not_failed result x is = λ same. false≢true (ap is_failed (sym is ∙ same))

pub memory_not_failed : {T : Type 0} (result : Result T SystemFault) → result ≡ Err system.Memory → result ≢ Err system.Failed
memory_not_failed result is = λ same. false≢true (ap is_failed (sym is ∙ same))

-- what a push with room left
pub pushed : {T E X : Type 0} (result : Result T E) (new full same : List X) → IsOk result → new ≡ (if is_ok result then full else same) → new ≡ full
pushed (Ok x) new full same ok is = is
pushed (Err e) new full same ok is = absurd (false≢true ok)

-- what was removed is gone
pub gone_removed : (held : Option Standing) → IsGone (removed held)
gone_removed None = tt
gone_removed (Some standing) = refl

abbrev is_memory_fault : SystemFault → Bool
is_memory_fault system.Failed = false
is_memory_fault system.Memory = true

-- what holds where a call has failed
pub on_failed : {T P : Type 0} (result : Result T SystemFault) → result ≡ Err system.Failed → IfErr result (λ fault. fault ≢ system.Memory → P) → P
on_failed {T} {P} result is holds = subst (λ (r : Result T SystemFault). IfErr r (λ fault. fault ≢ system.Memory → P)) is holds (λ same. false≢true (ap is_memory_fault same))

pub start_failed : {P : Type 0} (result : Result ℕ StartFault) → result ≡ Err start.Failed → P → IfErr result (λ fault. fault ≢ start.Memory → P)
start_failed {P} result is holds = subst (λ (r : Result ℕ StartFault). IfErr r (λ fault. fault ≢ start.Memory → P)) (sym is) (λ differs. holds)

-- an error that a callee has given is passed on
pub carry : {T U E : Type 0} (Q : E → Type 0) (given : Result T E) (result : Result U E) (fault : E) → given ≡ Err fault → result ≡ Err fault → IfErr given Q → IfErr result Q
carry {T} {U} {E} Q given result fault was is holds = subst (λ (r : Result U E). IfErr r Q) (sym is) (subst (λ (r : Result T E). IfErr r Q) was holds)

text_at : (n : ℕ) (words : List (List ℕ)) (k : ℕ) (word : List ℕ) → All IsUtf8 words → k < length (take n words) → word ≡ get_or (take n words) k word → IsUtf8 word
text_at zero [] k word all inside at = absurd (omega (arith, inside))
text_at zero (first ∷ words) k word all inside at = absurd (omega (arith, inside))
text_at (suc n) [] k word all inside at = absurd (omega (arith, inside))
text_at (suc n) (first ∷ words) zero word all inside at = subst IsUtf8 (sym at) (all 0 first (omega arith))
text_at (suc n) (first ∷ words) (suc k) word all inside at = text_at n words k word (λ i d within. all (suc i) d (omega (arith, within))) (omega (arith, inside)) at

-- the texts after the first
pub text_after : (words : List (List ℕ)) (n k : ℕ) (word : List ℕ) → All IsUtf8 words → k < length (take n (drop 1 words)) → word ≡ get_or (take n (drop 1 words)) k word → IsUtf8 word
text_after [] n k word all inside at = text_at n [] k word all inside at
text_after (first ∷ words) n k word all inside at = text_at n words k word (λ i d within. all (suc i) d (omega (arith, within))) inside at

-- one more in a list
pub one_more_seen : {X Y : Type 0} (f : X → Y) (olds mids news : List X) (x : X) → mids ≡ olds → news ≡ mids ++ x ∷ [] → map f news ≡ map f olds ++ f x ∷ []
one_more_seen f olds mids news x same is = ap (map f) (is ∙ ap (λ xs. xs ++ x ∷ []) same) ∙ map-append f olds (x ∷ [])

abbrev is_memory_finish : {T : Type 0} → Result T FinishFault → Bool
is_memory_finish (Ok x) = false
is_memory_finish (Err (finish.Failed slot)) = false
is_memory_finish (Err finish.Memory) = true

pub finish_differs : {T : Type 0} (result : Result T FinishFault) (slot : ℕ) → result ≡ Err (finish.Failed slot) → result ≢ Err finish.Memory
finish_differs result slot is = λ same. false≢true (ap is_memory_finish (sym is ∙ same))
