-- What is answered of a file, from what was opened of it.
use Rattle.std.proofs.Common.{◌≡◌, ℕ, Bool, true, false, IsTrue, List, Option, Some, None, Result, Ok, Err, IfOk, IfSome, length, take, ap, sym, refl, subst}
use Rattle.std.specs.Option.{option_map}
use Rattle.std.specs.IoError.{error_kind}
use Rattle.std.specs.FinMap.{get}
use Rattle.std.specs.declared.io.Error.{Error}
use Rattle.odin_outside.specs.Files.{Files, IsGiven, given_file_limit}
use Rattle.odin_real.specs.declared.fault.SystemFault.{SystemFault}
use Rattle.odin_real.specs.Answers.{answer_of_error, fault_of}
use Rattle.odin_real.specs.Opens.{IsOpened, IsAbsentIn, says_absent}
use Rattle.std.specs.Prelude.{if◌then◌else◌, ◌≤◌}
use Rattle.std.proofs.Math.Nat.{le_of_eq}
use Rattle.odin_outside.specs.Causes.{HasCauseBut}
use Rattle.odin_outside.specs.declared.tree.TreeFault.{TreeFault}
use Rattle.odin_outside.specs.declared.tree.TreeFault.TheVariants as tree
use Rattle.odin_real.specs.declared.fault.SystemFault.TheVariants.{Failed, Memory}
use Rattle.odin_real.specs.Answers.{tree_fault, faults_after}

-- the front of what is left of it
pub given_front : {T : Type 0} (remaining : T → Option (List ℕ)) (bodies : Option Files) (path : List ℕ) (reader : T) (size : ℕ) (front : List ℕ) → IsOpened remaining bodies path (Some (reader, size)) → IfSome (remaining reader) (λ left. size ≡ length left → front ≡ take given_file_limit left) → IsGiven bodies path (Some front)
given_front remaining None path reader size front opened same = tt
given_front remaining (Some files) path reader size front (body, got, left, long) same =
    let is : size ≡ length body → front ≡ take given_file_limit body = subst (λ known. IfSome known (λ rest. size ≡ length rest → front ≡ take given_file_limit rest)) left same in
    subst (λ known. Some front ≡ option_map (λ xs. take given_file_limit xs) known) (sym got) (ap Some (is long))

-- nothing where none was opened
pub given_none : {T : Type 0} (remaining : T → Option (List ℕ)) (bodies : Option Files) (path : List ℕ) → IsOpened remaining bodies path None → IsGiven bodies path None
given_none remaining None path opened = tt
given_none remaining (Some files) path opened = sym (ap (option_map (λ body. take given_file_limit body)) opened)

by_absent : (is : Bool) (files : Files) (path : List ℕ) (fault : SystemFault) → (IsTrue is → get files path ≡ None) → IfOk (if is then Ok None else Err fault) (IsGiven (Some files) path)
by_absent true files path fault absent = sym (ap (option_map (λ body. take given_file_limit body)) (absent refl))
by_absent false files path fault absent = tt

untold : (result : Result (Option (List ℕ)) SystemFault) (path : List ℕ) → IfOk result (IsGiven None path)
untold (Ok found) path = tt
untold (Err fault) path = tt

-- what is answered at an error
pub given_at_error : (bodies : Option Files) (path : List ℕ) (error : Error) (result : Result (Option (List ℕ)) SystemFault) → IsAbsentIn bodies path error → result ≡ answer_of_error error → IfOk result (IsGiven bodies path)
given_at_error None path error result absent is = untold result path
given_at_error (Some files) path error result absent is = subst (λ r. IfOk r (IsGiven (Some files) path)) (sym is) (by_absent (says_absent (error_kind error)) files path (fault_of (error_kind error)) absent)

no_memory : {T : Type 0} (given : TreeFault) → given ≡ tree.Failed → (let refused : Result T TreeFault = Err given in refused ≡ Err tree.Memory) → ⊥
no_memory given is memory = cc

-- what a fault is counted as
pub cause_of : {T : Type 0} (fault : SystemFault) (given : TreeFault) (before now : ℕ) → given ≡ tree_fault fault → now ≡ faults_after fault before → before ≤ now → HasCauseBut {T = T} tree.Memory before now (Err given)
cause_of Memory given before now is count later = record { later = later; ok = tt; wanted = λ _. count; failed = λ other. absurd (other is) }
cause_of Failed given before now is count later = record { later = later; ok = tt; wanted = λ memory. absurd (no_memory given is memory); failed = λ _. le_of_eq (sym count) }
