-- What the words of the program ask for.
use Rattle.std.specs.Prelude.{◌≡◌, ◌≤◌, ℕ, List, [], Option, Some, None, codes, decimal}
use Rattle.clap.specs.Words.{Row, fault_of, matches_of, first_of}
use Rattle.meaning_texts.specs.Limits.{unit_limit}
use Rattle.odin_words.specs.declared.Work.{Work}
use Rattle.odin_words.specs.declared.Work.TheVariants as code
use Rattle.odin_words.specs.Command.{command}

-- the digits of a number from 1 to the most
pub record IsNumberUpTo (most : ℕ) (word : List ℕ) (number : ℕ) : Type 0 where
  pub spelled : word ≡ decimal number
  pub some : 1 ≤ number
  pub few : number ≤ most

-- of none
abbrev pub IsNoNumberUpTo : ℕ → List ℕ → Type 0
IsNoNumberUpTo most word = (number : ℕ) → ¬ IsNumberUpTo most word number

-- ---- jobs

-- the count of jobs by the value of `--jobs`, from 1 to 64: 1 where there is none
abbrev pub IsJobs : Option (List ℕ) → ℕ → Type 0
IsJobs None jobs = jobs ≡ 1
IsJobs (Some word) jobs = IsNumberUpTo 64 word jobs

abbrev pub IsNoJobs : Option (List ℕ) → Type 0
IsNoJobs value = (jobs : ℕ) → ¬ IsJobs value jobs

-- ---- the work

-- what the program is to do: serve a session over the graph in a file of this name, or the load session of so many units
pub data AskedWork : Type 0 where
  Serve : List ℕ → AskedWork
  Load : ℕ → AskedWork

abbrev pub work_of : Work → AskedWork
work_of (code.Serve name) = Serve name.now
work_of (code.Load units) = Load units

-- The work by the word GRAPH and the value of `--load`: exactly one of them is there, and that of `--load` is a number from 1 to 2,000.
pub data IsWork : Option (List ℕ) → Option (List ℕ) → AskedWork → Type 0 where
  serves : (name : List ℕ) → IsWork (Some name) None (Serve name)
  loads : (word : List ℕ) (units : ℕ) → IsNumberUpTo unit_limit word units → IsWork None (Some word) (Load units)

abbrev pub IsNoWork : Option (List ℕ) → Option (List ℕ) → Type 0
IsNoWork graph load = (work : AskedWork) → ¬ IsWork graph load work

-- ---- the words

-- The values of the words have this work and these jobs.
pub record RowsAskFor (rows : List Row) (work : AskedWork) (jobs : ℕ) : Type 0 where
  pub work_is : IsWork (first_of (codes "graph") rows) (first_of (codes "load") rows) work
  pub jobs_is : IsJobs (first_of (codes "jobs") rows) jobs

-- They have no work, or no jobs.
abbrev pub RowsAskForNothing : List Row → Type 0
RowsAskForNothing rows = (work : AskedWork) (jobs : ℕ) → ¬ RowsAskFor rows work jobs

-- The command takes the words, whose values are these.
pub record AsksFor (words : List (List ℕ)) (work : AskedWork) (jobs : ℕ) : Type 0 where
  pub taken : fault_of command words ≡ []
  pub has : RowsAskFor (matches_of command words) work jobs

-- There is nothing that they ask for.
abbrev pub IsNotAccepted : List (List ℕ) → Type 0
IsNotAccepted words = (work : AskedWork) (jobs : ℕ) → ¬ AsksFor words work jobs
