-- The command of a line, by the first bytes that it has.
use Rattle.std.proofs.Common.{◌≡◌, ◌≢◌, ℕ, zero, suc, ◌<◌, ◌≤◌, ◌^◌, length, replicate, true, false, List, [], ◌∷◌, ◌++◌, inl, inr, sym, ap, ◌∙◌, refl, codes}
use Rattle.std.specs.Prelude.{Option, Some, None}
use Rattle.std.specs.Option.{option_and_then}
use Rattle.std.specs.Fmt.{decimal}
use Rattle.std.proofs.lemmas.Bool.{cond-true, cond-false, cases_Bool}
use Rattle.meaning_texts.specs.Classes.{IsName, is_name_byte}
use Rattle.meaning_texts.specs.Tests.{is_name}
use Rattle.meaning_texts.specs.Limits.{command_limit}
use Rattle.meaning_texts.specs.Lists.{HasNo}
use Rattle.meaning_texts.proofs.Lemmas.{word_decides}
use Rattle.odin_bytes.specs.declared.commands.Command.{Command}
use Rattle.odin_bytes.specs.declared.commands.Command.TheVariants.{Put, Ask, Plan, Bad, BadName}
use Rattle.meaning_commands.specs.Commands.{Spells, formed, formless}
use Rattle.meaning_commands.specs.Reading.{decimal_number, before_space, behind_space, is_argument, naming, put_of, put_words, first_command_of, formed_command}
use Rattle.meaning_commands.proofs.Lemmas.{reads_number, none_number, before_is, behind_is, none_space, none_behind, argument_test, form_reads, reads_form}
use Rattle.odin_commands.specs.declared.read.Argument.{Argument}
use Rattle.odin_commands.specs.declared.read.Argument.TheVariants.{Name, Other, NoWord}
use Rattle.odin_commands.specs.Arguments.{argument_of, take_command, drop_command, single_word}

-- ---- a word in the place of a name

pub names_it : (word : List ℕ) → is_argument word ≡ true → IsName word → Name word ≡ argument_of word
names_it word a n = sym (cond-true _ _ _ a ∙ cond-true _ _ _ ((word_decides is_name_byte word).1 n))

pub names_none : (word : List ℕ) → is_argument word ≡ true → ¬ IsName word → Other ≡ argument_of word
names_none word a none = sym (cond-true _ _ _ a ∙ cond-false _ _ _ (no_name word none))
  where
    no_name : (word : List ℕ) → ¬ IsName word → is_name word ≡ false
    no_name word none = elim (cases_Bool (is_name word)) [
      | inl e ↦ absurd (none ((word_decides is_name_byte word).0 e))
      | inr e ↦ e
    ]

pub may_name : (word : List ℕ) → word ≢ [] → HasNo 32 word → is_argument word ≡ true
may_name word some spaceless = argument_test word (record { some = some; spaceless = spaceless })

-- ---- the words after `put `

pub no_put_space : (rest : List ℕ) → HasNo 32 rest → None ≡ put_words rest
no_put_space rest h = sym (ap (λ o. put_of (before_space rest) (option_and_then decimal_number o)) (none_space rest h))

-- the words are cut at the first space
pub put_cut : (rest word digits : List ℕ) → rest ≡ word ++ 32 ∷ digits → HasNo 32 word → put_words rest ≡ put_of word (decimal_number digits)
put_cut rest word digits is spaceless = ap put_words is ∙ ap (λ w. put_of w (option_and_then decimal_number (behind_space (word ++ 32 ∷ digits)))) (before_is word digits spaceless) ∙ ap (λ o. put_of word (option_and_then decimal_number o)) (behind_is word digits spaceless)

pub no_put_number : (rest word digits : List ℕ) → rest ≡ word ++ 32 ∷ digits → HasNo 32 word → ((n : ℕ) → n < 2 ^ 64 → digits ≢ decimal n) → None ≡ put_words rest
no_put_number rest word digits is spaceless none = sym (put_cut rest word digits is spaceless ∙ ap (put_of word) (none_number digits none))

pub put_number : (rest word digits : List ℕ) (count : ℕ) → rest ≡ word ++ 32 ∷ digits → HasNo 32 word → count < 2 ^ 64 → digits ≡ decimal count → put_words rest ≡ naming (Put word count) count word
put_number rest word digits count is spaceless small spelled = put_cut rest word digits is spaceless ∙ ap (λ d. put_of word (decimal_number d)) spelled ∙ ap (put_of word) (reads_number count small)

-- the command that is made of what stands in the place of a name
abbrev pub put_made : ℕ → Argument → Option Command
put_made count (Name name) = Some (Put name count)
put_made count Other = Some (BadName count)
put_made count NoWord = None

pub naming_put : (word : List ℕ) (count : ℕ) → naming (Put word count) count word ≡ put_made count (argument_of word)
naming_put word count = elim (cases_Bool (is_argument word)) [
  | inl a ↦ elim (cases_Bool (is_name word)) [
    | inl n ↦ rw (a, n) refl
    | inr n ↦ rw (a, n) refl
  ]
  | inr a ↦ rw a refl
]

-- the words, by what stands in the place of the name
pub put_is : (rest word digits : List ℕ) (count : ℕ) (argument : Argument) → rest ≡ word ++ 32 ∷ digits → HasNo 32 word → count < 2 ^ 64 → digits ≡ decimal count → argument_of word ≡ argument
    → put_words rest ≡ put_made count argument
put_is rest word digits count argument is spaceless small spelled names = put_number rest word digits count is spaceless small spelled ∙ naming_put word count ∙ ap (put_made count) names

-- ---- lines

-- none of the longer commands has its first bytes in the line
pub record HasNoFirst (line : List ℕ) : Type 0 where
  pub put : (rest : List ℕ) → line ≢ codes "put " ++ rest
  pub take : (rest : List ℕ) → line ≢ codes "take " ++ rest
  pub drop : (rest : List ℕ) → line ≢ codes "drop " ++ rest
  pub ask : (rest : List ℕ) → line ≢ codes "ask " ++ rest
  pub plan : (rest : List ℕ) → line ≢ codes "plan " ++ rest

none_first : (n : ℕ) → ◌≡◌ {A = Option Command} None (first_command_of (replicate n None))
none_first zero = refl
none_first (suc n) = none_first n

only_first : (o : Option Command) (n : ℕ) → o ≡ first_command_of (o ∷ replicate n None)
only_first None n = none_first n
only_first (Some command) n = refl

pub behind_put : (rest : List ℕ) → put_words rest ≡ formed_command (codes "put " ++ rest)
unfolding formed_command
behind_put rest = only_first (put_words rest) 7

pub behind_take : (word : List ℕ) → take_command word ≡ formed_command (codes "take " ++ word)
unfolding formed_command
behind_take word = only_first (take_command word) 6

pub behind_drop : (word : List ℕ) → drop_command word ≡ formed_command (codes "drop " ++ word)
unfolding formed_command
behind_drop word = only_first (drop_command word) 5

pub behind_ask : (text : List ℕ) → Some (Ask text) ≡ formed_command (codes "ask " ++ text)
unfolding formed_command
behind_ask text = refl

pub behind_plan : (text : List ℕ) → Some (Plan text) ≡ formed_command (codes "plan " ++ text)
unfolding formed_command
behind_plan text = refl

pub single : (line : List ℕ) → HasNoFirst line → single_word line ≡ formed_command line
unfolding formed_command
single line h = rw (none_behind (codes "put ") line h.put, none_behind (codes "take ") line h.take, none_behind (codes "drop ") line h.drop, none_behind (codes "ask ") line h.ask, none_behind (codes "plan ") line h.plan) refl

pub spells_it : (line : List ℕ) (command : Command) → length line ≤ command_limit → Some command ≡ formed_command line → Spells line command
spells_it line command short is = formed command short (reads_form line command (sym is))

pub spells_none : (line : List ℕ) → line ≢ [] → None ≡ formed_command line → Spells line Bad
spells_none line some none = formless some (λ command form. let reads = form_reads line command form in cc)
