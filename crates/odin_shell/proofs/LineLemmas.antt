-- Of a long line the first bytes serve.
use Rattle.std.proofs.Common.{◌≡◌, ℕ, ◌+◌, ◌<◌, ◌≤◌, List, [], ◌∷◌, length, take, ap, sym, ◌∙◌, subst, arith, true, false, cond, nat_eq, inl, inr}
use Rattle.std.proofs.lemmas.List.{length-take, take_all}
use Rattle.std.proofs.lemmas.Bool.{cases_lt}
use Rattle.meaning_texts.specs.Lines.{without_cr}
use Rattle.odin_bytes.specs.declared.commands.Command.{Command}
use Rattle.odin_bytes.specs.declared.commands.Command.TheVariants.{Bad}
use Rattle.meaning_commands.specs.Commands.{Spells, too_long}
use Rattle.meaning_commands.proofs.Lemmas.{one_command}
use Rattle.odin_shell.specs.Held.{held_length}

without_cr_long : (line : List ℕ) → length line ≤ length (without_cr line) + 1
without_cr_long [] = omega arith
without_cr_long (b ∷ []) = elim (nat_eq b 13) as (λ t. 1 ≤ length (cond t [] (b ∷ [])) + 1) [ true ↦ omega arith | false ↦ omega arith ]
without_cr_long (b ∷ c ∷ rest) = omega (arith, without_cr_long (c ∷ rest))

-- one line that is too long is the same command as another
respelled : (command : Command) (a b : List ℕ) → 1024 < length a → 1024 < length b → Spells a command → Spells b command
respelled command a b long_a long_b s = subst (λ (c : Command). Spells b c) (sym (one_command Bad command a (too_long long_a) s)) (too_long long_b)

pub Spells-held : (command : Command) (held part : List ℕ) → held ≡ take held_length part → Spells (without_cr held) command → Spells (without_cr part) command
Spells-held command held part e s =
    elim (cases_lt 1026 (length part)) [
      | inr le ↦ subst (λ l. Spells (without_cr l) command) (e ∙ take_all 1026 part le) s
      | inl gt ↦
          let n : length held ≡ 1026 = ap length e ∙ length-take 1026 part ∙ omega arith in
          let p = without_cr_long part in
          let k = without_cr_long held in
          respelled command (without_cr held) (without_cr part) (omega arith) (omega arith) s
    ]
