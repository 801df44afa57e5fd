use Rattle.std.proofs.Common.{◌≡◌, ◌∙◌, sym, ℕ, List, ◌<◌, ◌≤◌, ◌^◌, arith}
use Rattle.std.specs.Fmt.{decimal}
use Rattle.std.proofs.lemmas.Fmt.{decimal_injective}
use Rattle.project_folder.specs.Command.{IsCount}
use Rattle.project_folder.proofs.words.read_count.Goals as goal
use Rattle.project_folder.proofs.words.read_count.Goals.{then-number-lt1-via-then-number-lt1, then-number-lt1-via-else-number-lt1+then-number-gt-MOST_JOBS}

-- a word spells one count alone
same_count : (word : List ℕ) (read count : ℕ) → word ≡ decimal read → read < 2 ^ 64 → IsCount word count → read ≡ count
same_count word read count is small spelled =
    let few : count ≤ 64 = spelled.few in
    decimal_injective read count small (omega arith) (sym is ∙ spelled.spelled)

pub returns-then-number-lt1-clause-none : goal.returns-then-number-lt1-clause-none
returns-then-number-lt1-clause-none c = λ count spelled.
    let same : c.in_ok-number.number ≡ count = same_count c.args.word.now c.in_ok-number.number count (sym c.as_bytes.ensures.value ∙ c.in_ok-number.ensures.some) c.in_ok-number.ensures.small spelled in
    let some : 1 ≤ count = spelled.some in
    let few : count ≤ 64 = spelled.few in
    elim c.then-number-lt1.branch [
      | then-number-lt1-via-then-number-lt1 w ↦ absurd (omega (arith, w.if-number-lt1.true))
      | then-number-lt1-via-else-number-lt1+then-number-gt-MOST_JOBS w ↦ absurd (omega (arith, w.if-number-gt-MOST_JOBS.true))
    ]
