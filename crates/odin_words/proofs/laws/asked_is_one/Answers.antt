use Rattle.std.proofs.Common.{◌≡◌, ◌∙◌, sym, refl, ap, subst, ℕ, List, ◌<◌, ◌≤◌, ◌^◌, Option, Some, None, arith, lit<}
use Rattle.std.proofs.lemmas.Fmt.{decimal_injective}
use Rattle.odin_words.specs.Asked.{AskedWork, Serve, Load, IsNumberUpTo, IsJobs, IsWork, serves, loads}
use Rattle.odin_words.proofs.laws.asked_is_one.Goals as goal

-- a word spells one number
one_number : (most : ℕ) (word : List ℕ) (number other : ℕ) → most < 2 ^ 64 → IsNumberUpTo most word number → IsNumberUpTo most word other → other ≡ number
one_number most word number other small one same =
    let few : number ≤ most = one.few in
    let also : other ≤ most = same.few in
    decimal_injective other number (omega arith) (omega arith) (sym same.spelled ∙ one.spelled)

-- a value of `--jobs` is of one count
one_count : (value : Option (List ℕ)) (jobs count : ℕ) → IsJobs value jobs → IsJobs value count → count ≡ jobs
one_count None jobs count one other = other ∙ sym one
one_count (Some word) jobs count one other = one_number 64 word jobs count (lit< tt) one other

-- the values are of one work
one_work : (graph load : Option (List ℕ)) (work : AskedWork) → IsWork graph load work → (graph' load' : Option (List ℕ)) (other : AskedWork) → graph' ≡ graph → load' ≡ load → IsWork graph' load' other → other ≡ work
one_work graph load work (serves name) graph' load' other g l (serves same) =
    let is : same ≡ name = cc in
    ap Serve is
one_work graph load work (serves name) graph' load' other g l (loads word units number) = absurd cc
one_work graph load work (loads word units number) graph' load' other g l (serves name) = absurd cc
one_work graph load work (loads word units number) graph' load' other g l (loads same count counted) =
    let is : same ≡ word = cc in
    ap Load (one_number 2000 word units count (lit< tt) number (subst (λ (t : List ℕ). IsNumberUpTo 2000 t count) is counted))

pub returns : goal.returns
returns c = λ words work other jobs count one two.
    (one_work _ _ work one.has.work_is _ _ other refl refl two.has.work_is, one_count _ jobs count one.has.jobs_is two.has.jobs_is)
