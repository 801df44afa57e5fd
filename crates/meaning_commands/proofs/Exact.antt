-- A line is the computed command, and no other.
use Rattle.std.proofs.Common.{◌≡◌, ℕ, ◌≤◌, List, [], ◌∷◌, inl, inr, length, sym, ap, ◌∙◌, subst, refl, cond, arith}
use Rattle.std.specs.Prelude.{Option, Some, None, nat_lt}
use Rattle.std.proofs.lemmas.Bool.{cond-true, cond-false, ltb-true, lt-ltb, ltb-false, le-ltb, cond_both}
use Rattle.meaning_texts.specs.Limits.{command_limit}
use Rattle.meaning_texts.proofs.Lemmas.{some_or_none}
use Rattle.odin_bytes.specs.declared.commands.Command.{Command}
use Rattle.odin_bytes.specs.declared.commands.Command.TheVariants.{Nothing, Bad}
use Rattle.meaning_commands.specs.Commands.{IsForm, Spells, nothing, formed, too_long, formless}
use Rattle.meaning_commands.specs.Reading.{formed_command, or_bad, command_of}
use Rattle.meaning_commands.proofs.Forms.{form_reads, reads_form}

none_formed : (line : List ℕ) → ((command : Command) → ¬ IsForm line command) → formed_command line ≡ None
none_formed line none = elim (some_or_none (formed_command line)) [
  | inl p ↦ absurd (none p.0 (reads_form line p.0 p.1))
  | inr e ↦ e
]

empty_formed : {P : Type 0} (c : Command) → IsForm [] c → P
unfolding formed_command
empty_formed c f = let e : formed_command [] ≡ Some c = form_reads [] c f in let n : formed_command [] ≡ None = refl in cc

-- the computed command of a line that isn't empty
some_line : (b : ℕ) (rest : List ℕ) → command_of (b ∷ rest) ≡ cond (nat_lt command_limit (length (b ∷ rest))) Bad (or_bad (formed_command (b ∷ rest)))
unfolding command_of
some_line b rest = refl

no_line : command_of [] ≡ Nothing
unfolding command_of
no_line = refl

pub spelled : (line : List ℕ) (command : Command) → Spells line command → command ≡ command_of line
spelled line _ (nothing e) = sym (ap command_of e ∙ no_line)
spelled [] _ (formed command short f) = empty_formed command f
spelled (b ∷ rest) _ (formed command short f) = sym (some_line b rest ∙ cond-false _ _ _ (le-ltb command_limit (length (b ∷ rest)) short) ∙ ap or_bad (form_reads (b ∷ rest) command f))
spelled [] _ (too_long long) = absurd (omega arith)
spelled (b ∷ rest) _ (too_long long) = sym (some_line b rest ∙ cond-true _ _ _ (lt-ltb command_limit (length (b ∷ rest)) long))
spelled [] _ (formless some none) = absurd (some refl)
spelled (b ∷ rest) _ (formless some none) = sym (some_line b rest ∙ cond_both (nat_lt command_limit (length (b ∷ rest))) Bad (or_bad (formed_command (b ∷ rest))) (λ c. c ≡ Bad) (λ e. refl) (λ e. ap or_bad (none_formed (b ∷ rest) none)))

read : (b : ℕ) (rest : List ℕ) (o : Option Command) → formed_command (b ∷ rest) ≡ o → length (b ∷ rest) ≤ command_limit → Spells (b ∷ rest) (or_bad o)
read b rest None e short = formless (λ e. cc) (λ command f. let k = form_reads (b ∷ rest) command f in cc)
read b rest (Some command) e short = formed command short (reads_form (b ∷ rest) command e)

pub spells : (line : List ℕ) → Spells line (command_of line)
spells [] = subst (Spells []) (sym no_line) (nothing refl)
spells (b ∷ rest) = subst (Spells (b ∷ rest)) (sym (some_line b rest))
    (cond_both (nat_lt command_limit (length (b ∷ rest))) Bad (or_bad (formed_command (b ∷ rest))) (Spells (b ∷ rest))
    (λ e. too_long (ltb-true command_limit (length (b ∷ rest)) e))
    (λ e. read b rest (formed_command (b ∷ rest)) refl (ltb-false command_limit (length (b ∷ rest)) e)))

pub one_command : (a b : Command) (line : List ℕ) → Spells line a → Spells line b → b ≡ a
one_command a b line p q = spelled line b q ∙ sym (spelled line a p)
