use Rattle.std.proofs.Common.{◌≡◌, ◌∙◌, sym, ℕ, List, ◌<◌, ◌≤◌, ◌^◌, arith}
use Rattle.std.specs.Fmt.{decimal}
use Rattle.std.proofs.lemmas.Fmt.{decimal_injective}
use Rattle.odin_words.specs.Asked.{IsNumberUpTo}
use Rattle.odin_words.proofs.read_up_to.Goals as goal
use Rattle.odin_words.proofs.read_up_to.Goals.{then-number-lt-LEAST-via-then-number-lt-LEAST, then-number-lt-LEAST-via-else-number-lt-LEAST+then-number-most}

-- a word spells one number alone
same_number : (most : ℕ) (word : List ℕ) (read number : ℕ) → most < 2 ^ 64 → word ≡ decimal read → read < 2 ^ 64 → IsNumberUpTo most word number → read ≡ number
same_number most word read number fits is small spelled =
    let few : number ≤ most = spelled.few in
    decimal_injective read number small (omega arith) (sym is ∙ spelled.spelled)

pub returns-then-number-lt-LEAST-clause-none : goal.returns-then-number-lt-LEAST-clause-none
returns-then-number-lt-LEAST-clause-none c = λ number spelled.
    let fits : c.args.most < 2 ^ 64 = omega arith in
    let same : c.in_ok-number.number ≡ number = same_number c.args.most c.args.word.now c.in_ok-number.number number fits (sym c.as_bytes.ensures.value ∙ c.in_ok-number.ensures.some) c.in_ok-number.ensures.small spelled in
    let some : 1 ≤ number = spelled.some in
    let few : number ≤ c.args.most = spelled.few in
    elim c.then-number-lt-LEAST.branch [
      | then-number-lt-LEAST-via-then-number-lt-LEAST w ↦ absurd (omega (arith, w.if-number-lt-LEAST.true))
      | then-number-lt-LEAST-via-else-number-lt-LEAST+then-number-most w ↦ absurd (omega (arith, w.if-number-most.true))
    ]
