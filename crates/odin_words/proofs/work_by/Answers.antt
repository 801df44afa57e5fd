use Rattle.std.proofs.Common.{◌≡◌, sym, ap, subst, ℕ, List, Option, Some, None}
use Rattle.std.specs.Option.{option_copied}
use Rattle.odin_words.specs.Asked.{Serve, Load, IsNumberUpTo, IsWork, serves, loads}
use Rattle.odin_words.proofs.work_by.Goals as goal

-- a name alone
name_alone : (graph load : Option (List ℕ)) (name : List ℕ) → graph ≡ Some name → load ≡ None → IsWork graph load (Serve name)
name_alone graph load name named none =
    subst (λ g. IsWork g load (Serve name)) (sym named) (subst (λ l. IsWork (Some name) l (Serve name)) (sym none) (serves name))

-- a number alone
number_alone : (graph load : Option (List ℕ)) (word : List ℕ) (units : ℕ) → graph ≡ None → load ≡ Some word → IsNumberUpTo 2000 word units → IsWork graph load (Load units)
number_alone graph load word units none given number =
    subst (λ g. IsWork g load (Load units)) (sym none) (subst (λ l. IsWork None l (Load units)) (sym given) (loads word units number))

pub returns-in-None-load-clause-some : goal.returns-in-None-load-clause-some
returns-in-None-load-clause-some c = name_alone _ _ c.in-Some.name.now (ap option_copied c.in-Some.is) (ap option_copied c.in-None-load.is)

pub returns-in_ok-read_up_to-in-None-clause-some : goal.returns-in_ok-read_up_to-in-None-clause-some
returns-in_ok-read_up_to-in-None-clause-some c =
    number_alone _ _ c.in_ok-load-in-None.field-0.now c.in_ok-read_up_to-in-None.field-0 (ap option_copied c.in-None.is) (ap option_copied c.in_ok-load-in-None.was) c.in_ok-read_up_to-in-None.ensures.some
