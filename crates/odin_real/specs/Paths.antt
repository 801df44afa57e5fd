-- Where the folders of child programs are.
use Rattle.std.specs.Prelude.{◌≡◌, ℕ, false, List, [], ◌∷◌, ◌++◌, ◌^◌, ◌-◌, codes, decimal}
use Rattle.std.specs.Fmt.{padded_integral, format_spec, digits}
use Rattle.odin_real.specs.declared.work.Work.{Work}
use Rattle.odin_real.specs.declared.work.Work.TheVariants.{Sessions, Builds}

-- the folder of all sessions, in the current one
abbrev pub work_path : Work → List ℕ
work_path Sessions = codes "odin.work"
work_path Builds = codes ".odin/work"

-- a number below 2 ^ 64 as 16 lower hex digits
abbrev pub sixteen_digits : ℕ → List ℕ
sixteen_digits number = padded_integral (format_spec 32 0 4 16 (2 ^ 64 - 1)) false [] (digits 16 false number)

-- the name of a session: two random numbers
abbrev pub session_of : ℕ → ℕ → List ℕ
session_of first second = sixteen_digits first ++ sixteen_digits second

-- the folder of a session in that of all
abbrev pub home_of : List ℕ → List ℕ → List ℕ
home_of work name = work ++ 47 ∷ name

-- a path is that of the folder of a session
abbrev pub IsSession : List ℕ → List ℕ → Type 0
IsSession work home = (first : ℕ) × (second : ℕ) × (home ≡ home_of work (session_of first second))

-- the folder of a start, by its number, in that of the session
abbrev pub call_path : List ℕ → ℕ → List ℕ
call_path home number = home ++ 47 ∷ decimal number
