-- The computed command of the shown words is the one that the line has the form of.
use Rattle.std.proofs.Common.{◌≡◌, ℕ, ◌<◌, ◌^◌, Bool, true, false, List, [], ◌∷◌, ◌++◌, ◌⊎◌, inl, inr, sym, ap, ◌∙◌, subst, refl, cond, codes}
use Rattle.std.specs.Prelude.{Option, Some, None}
use Rattle.std.specs.Option.{option_map, option_and_then}
use Rattle.std.specs.Fmt.{decimal}
use Rattle.std.proofs.lemmas.Bool.{cond-true, cond-false}
use Rattle.std.proofs.lemmas.Option.{cond_some}
use Rattle.std.proofs.lemmas.Slice.Eq.{bytes_eq-Decides}
use Rattle.meaning_texts.specs.Classes.{IsName, is_name_byte}
use Rattle.meaning_texts.specs.Tests.{is_name}
use Rattle.meaning_texts.specs.Lists.{IsIn}
use Rattle.meaning_texts.proofs.Lemmas.{same_some, word_decides}
use Rattle.odin_bytes.specs.declared.commands.Command.{Command}
use Rattle.odin_bytes.specs.declared.commands.Command.TheVariants.{Put, Take, Remove, Ask, Plan, Sources, Kept, Quit, BadName}
use Rattle.meaning_commands.specs.Commands.{IsArgument, IsPut, IsForm, put, put_bad, take, take_bad, remove, remove_bad, ask, plan, sources, kept, quit}
use Rattle.meaning_commands.specs.Reading.{decimal_number, before_space, behind_space, behind, is_argument, naming, put_of, put_words, word_alone, first_command_of, readings, formed_command}
use Rattle.meaning_commands.proofs.Words.{reads_number, is_number, before_is, behind_is, is_cut, argument_test, test_argument, is_behind}

-- ---- names

is_no_name : (word : List ℕ) → ¬ IsName word → is_name word ≡ false
is_no_name word none = (elim (is_name word) as (λ t. is_name word ≡ t → t ≡ false) [
  | true ↦ λ e. absurd (none ((word_decides is_name_byte word).0 e))
  | false ↦ λ e. refl
]) refl

names : (command : Command) (count : ℕ) (word : List ℕ) → IsArgument word → IsName word → naming command count word ≡ Some command
names command count word a n = cond-true _ _ _ (argument_test word a) ∙ cond-true _ _ _ ((word_decides is_name_byte word).1 n)

names_none : (command : Command) (count : ℕ) (word : List ℕ) → IsArgument word → ¬ IsName word → naming command count word ≡ Some (BadName count)
names_none command count word a none = cond-true _ _ _ (argument_test word a) ∙ cond-false _ _ _ (is_no_name word none)

-- What a command over a word is: itself where the word is a name, else its refusal.
record IsNamed (command : Command) (count : ℕ) (word : List ℕ) (is : Command) : Type 0 where
  argument : IsArgument word
  which : (IsName word × (command ≡ is)) ⊎ (¬ IsName word × (BadName count ≡ is))

given : (b : Bool) (o : Option Command) (c : Command) → cond b o None ≡ Some c → (b ≡ true) × (o ≡ Some c)
given true o c h = (refl, h)
given false o c h = cc

which_name : (command : Command) (count : ℕ) (word : List ℕ) (c : Command) → cond (is_name word) (Some command) (Some (BadName count)) ≡ Some c
    → (IsName word × (command ≡ c)) ⊎ (¬ IsName word × (BadName count ≡ c))
which_name command count word c h = (elim (is_name word) as (λ t. is_name word ≡ t → cond t (Some command) (Some (BadName count)) ≡ Some c → (IsName word × (command ≡ c)) ⊎ (¬ IsName word × (BadName count ≡ c))) [
  | true ↦ λ e k. inl ((word_decides is_name_byte word).0 e, same_some k)
  | false ↦ λ e k. inr (λ n. let yes : is_name word ≡ true = (word_decides is_name_byte word).1 n in cc, same_some k)
]) refl h

named : (command : Command) (count : ℕ) (word : List ℕ) (c : Command) → naming command count word ≡ Some c → IsNamed command count word c
named command count word c h =
    let p = given (is_argument word) _ c h in
    record { argument = test_argument word p.0; which = which_name command count word c p.1 }

-- ---- the first that is there

first_is : (o : Option Command) (rest : List (Option Command)) (c : Command) → o ≡ Some c → first_command_of (o ∷ rest) ≡ Some c
first_is o rest c h = ap (λ x. first_command_of (x ∷ rest)) h

is_first : (xs : List (Option Command)) (c : Command) → first_command_of xs ≡ Some c → IsIn (Some c) xs
is_first [] c h = cc
is_first (None ∷ rest) c h = inr (is_first rest c h)
is_first (Some d ∷ rest) c h = inl (sym h)

bound : {A B : Type 0} (f : A → Option B) (o : Option A) (y : B) → Some y ≡ option_and_then f o → (x : A) × (o ≡ Some x) × (f x ≡ Some y)
bound f None y h = cc
bound f (Some x) y h = (x, refl, sym h)

mapped : {A B : Type 0} (f : A → B) (o : Option A) (y : B) → Some y ≡ option_map f o → (x : A) × (o ≡ Some x) × (f x ≡ y)
mapped f None y h = cc
mapped f (Some x) y h = (x, refl, same_some (sym h))

lone : (word line : List ℕ) (command c : Command) → Some c ≡ word_alone word command line → (line ≡ word) × (command ≡ c)
lone word line command c h = let p = cond_some _ command c (sym h) in ((bytes_eq-Decides line word).0 p.0, p.1)

-- ---- from the form

put_reads : (word : List ℕ) (count : ℕ) (c : Command) → IsArgument word → count < 2 ^ 64 → naming (Put word count) count word ≡ Some c → put_words (word ++ 32 ∷ decimal count) ≡ Some c
put_reads word count c a small h =
    let number : option_and_then decimal_number (behind_space (word ++ 32 ∷ decimal count)) ≡ Some count = ap (option_and_then decimal_number) (behind_is word (decimal count) a.spaceless) ∙ reads_number count small in
    ap (λ w. put_of w (option_and_then decimal_number (behind_space (word ++ 32 ∷ decimal count)))) (before_is word (decimal count) a.spaceless) ∙ ap (put_of word) number ∙ h

behind_put : (rest : List ℕ) (c : Command) → put_words rest ≡ Some c → formed_command (codes "put " ++ rest) ≡ Some c
unfolding formed_command
behind_put rest c h = first_is _ _ c h

behind_take : (word : List ℕ) (c : Command) → naming (Take word) 0 word ≡ Some c → formed_command (codes "take " ++ word) ≡ Some c
unfolding formed_command
behind_take word c h = first_is _ _ c h

behind_drop : (word : List ℕ) (c : Command) → naming (Remove word) 0 word ≡ Some c → formed_command (codes "drop " ++ word) ≡ Some c
unfolding formed_command
behind_drop word c h = first_is _ _ c h

behind_ask : (text : List ℕ) → formed_command (codes "ask " ++ text) ≡ Some (Ask text)
unfolding formed_command
behind_ask text = refl

behind_plan : (text : List ℕ) → formed_command (codes "plan " ++ text) ≡ Some (Plan text)
unfolding formed_command
behind_plan text = refl

of_sources : formed_command (codes "sources") ≡ Some Sources
unfolding formed_command
of_sources = refl

of_kept : formed_command (codes "kept") ≡ Some Kept
unfolding formed_command
of_kept = refl

of_quit : formed_command (codes "quit") ≡ Some Quit
unfolding formed_command
of_quit = refl

pub form_reads : (line : List ℕ) (c : Command) → IsForm line c → formed_command line ≡ Some c
form_reads line _ (put name count p n) = ap formed_command p.is ∙ behind_put _ _ (put_reads name count _ p.word_is p.small (names (Put name count) count name p.word_is n))
form_reads line _ (put_bad word count p none) = ap formed_command p.is ∙ behind_put _ _ (put_reads word count _ p.word_is p.small (names_none (Put word count) count word p.word_is none))
form_reads line _ (take name p n) = ap formed_command p.is ∙ behind_take _ _ (names (Take name) 0 name p.word_is n)
form_reads line _ (take_bad word p none) = ap formed_command p.is ∙ behind_take _ _ (names_none (Take word) 0 word p.word_is none)
form_reads line _ (remove name p n) = ap formed_command p.is ∙ behind_drop _ _ (names (Remove name) 0 name p.word_is n)
form_reads line _ (remove_bad word p none) = ap formed_command p.is ∙ behind_drop _ _ (names_none (Remove word) 0 word p.word_is none)
form_reads line _ (ask text is) = ap formed_command is ∙ behind_ask text
form_reads line _ (plan text is) = ap formed_command is ∙ behind_plan text
form_reads line _ (sources is) = ap formed_command is ∙ of_sources
form_reads line _ (kept is) = ap formed_command is ∙ of_kept
form_reads line _ (quit is) = ap formed_command is ∙ of_quit

-- ---- to the form

put_number : (rest : List ℕ) (o : Option ℕ) (c : Command) → put_of (before_space rest) o ≡ Some c
    → (count : ℕ) × (o ≡ Some count) × (naming (Put (before_space rest) count) count (before_space rest) ≡ Some c)
put_number rest None c h = cc
put_number rest (Some count) c h = (count, refl, h)

put_form : (line rest : List ℕ) (c : Command) → line ≡ codes "put " ++ rest → put_words rest ≡ Some c → IsForm line c
put_form line rest c is h =
    let word = before_space rest in
    let p = put_number rest (option_and_then decimal_number (behind_space rest)) c h in
    let q = bound decimal_number (behind_space rest) p.0 (sym p.1) in
    let number = is_number q.0 p.0 q.2 in
    let w = named (Put word p.0) p.0 word c p.2 in
    let same : line ≡ codes "put " ++ (word ++ 32 ∷ decimal p.0) = is ∙ ap (λ l. codes "put " ++ l) (is_cut rest q.0 q.1 ∙ ap (λ l. word ++ 32 ∷ l) number.1) in
    let puts : IsPut line word p.0 = record { word_is = w.argument; small = number.0; is = same } in
    elim w.which [
      | inl n ↦ subst (IsForm line) n.1 (put word p.0 puts n.0)
      | inr n ↦ subst (IsForm line) n.1 (put_bad word p.0 puts n.0)
    ]

take_form : (line word : List ℕ) (c : Command) → line ≡ codes "take " ++ word → naming (Take word) 0 word ≡ Some c → IsForm line c
take_form line word c is h =
    let w = named (Take word) 0 word c h in
    elim w.which [
      | inl n ↦ subst (IsForm line) n.1 (take word (record { word_is = w.argument; is = is }) n.0)
      | inr n ↦ subst (IsForm line) n.1 (take_bad word (record { word_is = w.argument; is = is }) n.0)
    ]

drop_form : (line word : List ℕ) (c : Command) → line ≡ codes "drop " ++ word → naming (Remove word) 0 word ≡ Some c → IsForm line c
drop_form line word c is h =
    let w = named (Remove word) 0 word c h in
    elim w.which [
      | inl n ↦ subst (IsForm line) n.1 (remove word (record { word_is = w.argument; is = is }) n.0)
      | inr n ↦ subst (IsForm line) n.1 (remove_bad word (record { word_is = w.argument; is = is }) n.0)
    ]

among : (line : List ℕ) (c : Command) → IsIn (Some c) (readings line) → IsForm line c
among line c (inl e) = let p = bound put_words (behind (codes "put ") line) c e in put_form line p.0 c (is_behind (codes "put ") line p.0 p.1) p.2
among line c (inr (inl e)) = let p = bound (λ word. naming (Take word) 0 word) (behind (codes "take ") line) c e in take_form line p.0 c (is_behind (codes "take ") line p.0 p.1) p.2
among line c (inr (inr (inl e))) = let p = bound (λ word. naming (Remove word) 0 word) (behind (codes "drop ") line) c e in drop_form line p.0 c (is_behind (codes "drop ") line p.0 p.1) p.2
among line c (inr (inr (inr (inl e)))) = let p = mapped Ask (behind (codes "ask ") line) c e in subst (IsForm line) p.2 (ask p.0 (is_behind (codes "ask ") line p.0 p.1))
among line c (inr (inr (inr (inr (inl e))))) = let p = mapped Plan (behind (codes "plan ") line) c e in subst (IsForm line) p.2 (plan p.0 (is_behind (codes "plan ") line p.0 p.1))
among line c (inr (inr (inr (inr (inr (inl e)))))) = let p = lone (codes "sources") line Sources c e in subst (IsForm line) p.1 (sources p.0)
among line c (inr (inr (inr (inr (inr (inr (inl e))))))) = let p = lone (codes "kept") line Kept c e in subst (IsForm line) p.1 (kept p.0)
among line c (inr (inr (inr (inr (inr (inr (inr (inl e)))))))) = let p = lone (codes "quit") line Quit c e in subst (IsForm line) p.1 (quit p.0)
among line c (inr (inr (inr (inr (inr (inr (inr (inr none)))))))) = absurd none

pub reads_form : (line : List ℕ) (c : Command) → formed_command line ≡ Some c → IsForm line c
unfolding formed_command
reads_form line c h = among line c (is_first (readings line) c h)
