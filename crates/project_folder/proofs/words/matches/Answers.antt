use Rattle.std.proofs.Common.{ap, ap₂, refl, true, ◌≡◌, ◌∙◌, subst, List, Result, Ok, Err, IfOk, map, string_bytes}
use Rattle.clap.specs.declared.error.Error.{Error}
use Rattle.clap.specs.declared.parser.matches.ArgMatches.{ArgMatches}
use Rattle.clap.specs.Words.{App, HasMatchesOf, app_of, fault_of, found_of, is_simple, is_simple_and_free, matches_of, rows_of, with_rule, FailsBy, Text}
use Rattle.clap.proofs.OnLiterals.{clap_on_literals}
use Rattle.project_folder.specs.Command.{command}
use Rattle.project_folder.proofs.words.matches.Goals as goal

free : is_simple_and_free command ≡ true
unfolding clap_on_literals
free = refl

simple : is_simple command ≡ true
unfolding clap_on_literals
simple = refl

-- the words, as lists of bytes
abbrev words : goal.After-try_get_matches_from → List Text
words c = map (λ s. string_bytes s) c.args.words.now

-- the command that the body builds
command_is : (c : goal.After-try_get_matches_from) → app_of c.in_ok-command.command ≡ command
command_is c =
    c.in_ok-command.ensures.shape c.target_words.ensures.local
    ∙ ap₂ with_rule (c.in_ok-arg-6.ensures.shape c.long_option-3.ensures.local
    ∙ ap₂ with_rule (c.in_ok-arg-5.ensures.shape c.long_option-2.ensures.local
    ∙ ap₂ with_rule (c.in_ok-arg-4.ensures.shape c.long_option.ensures.local
    ∙ ap₂ with_rule (c.in_ok-arg-3.ensures.shape c.long_flag.ensures.local
    ∙ ap₂ with_rule (c.in_ok-arg-2.ensures.shape c.flag-2.ensures.local
    ∙ ap₂ with_rule (c.in_ok-arg.ensures.shape c.flag.ensures.local ∙ ap₂ with_rule c.in_ok-bare_command.ensures c.flag.ensures.rule) c.flag-2.ensures.rule)
    c.long_flag.ensures.rule) c.long_option.ensures.rule) c.long_option-2.ensures.rule) c.long_option-3.ensures.rule) c.target_words.ensures.rule

-- the rows of a command that is the same as this one
rows_by : (a b : App) (given : List Text) (r : Result ArgMatches Error) → a ≡ b → is_simple b ≡ true → IfOk r (λ m. HasMatchesOf a given m)
    → IfOk r (λ m. rows_of (found_of m) ≡ matches_of b given)
rows_by a b given (Ok m) same plain has = (has (ap is_simple same ∙ plain)).0 ∙ ap (λ x. matches_of x given) same
rows_by a b given (Err e) same plain has = tt

kinds_by : (a b : App) (given : List Text) (r : Result ArgMatches Error) → a ≡ b → is_simple_and_free b ≡ true
    → (is_simple_and_free a ≡ true → FailsBy (fault_of a given) r) → FailsBy (fault_of b given) r
kinds_by a b given r same plain fails = subst (λ (x : App). FailsBy (fault_of x given) r) same (fails (ap is_simple_and_free same ∙ plain))

pub returns-clause-rows : goal.returns-clause-rows
returns-clause-rows c = rows_by (app_of c.in_ok-command.command) command (words c) c.try_get_matches_from.result (command_is c) simple c.try_get_matches_from.ensures.matches

pub returns-clause-kinds : goal.returns-clause-kinds
returns-clause-kinds c = kinds_by (app_of c.in_ok-command.command) command (words c) c.try_get_matches_from.result (command_is c) free c.try_get_matches_from.ensures.kinds
