use Rattle.std.proofs.Common.{rules, Option, Some, None, codes, ap, ap₂, refl, true, ◌≡◌, ◌∙◌, subst, List, map, string_bytes}
use Rattle.std.proofs.lemmas.Result.{IfOk-weaker}
use Rattle.std.specs.Prelude.{IsSomeAnd}
use Rattle.clap.specs.Lexer.{usize_max}
use Rattle.clap.specs.declared.builder.ArgAction.TheVariants.{Append}
use Rattle.clap.specs.declared.builder.range.ValueRange.{ValueRange}
use Rattle.clap.specs.Words.{App, Rule, new_rule, app_of, fault_of, is_simple, is_simple_and_free, matches_of, rule_of, with_rule, FailsBy, Text}
use Rattle.clap.specs.Simple.{app_of_fields}
use Rattle.clap.proofs.OnLiterals.{clap_on_literals}
use Rattle.call_layout.specs.Command.{bare_odin_lay, given, command}
use Rattle.call_layout.proofs.words.matches.Goals as goal

free : is_simple_and_free command ≡ true
unfolding clap_on_literals
free = refl

simple : is_simple command ≡ true
unfolding clap_on_literals
simple = refl

with_version : App → App
with_version app = record app { top = record app.top { has_version = true } }

abbrev set_range : Option ValueRange → Rule → Rule
set_range range rule = record rule { range = range }

abbrev set_trailing : Rule → Rule
set_trailing rule = record rule { trailing_var_arg = true }

abbrev set_required : Rule → Rule
set_required rule = record rule { required = true }

abbrev set_action : Rule → Rule
set_action rule = record rule { action = Some Append }

range_of : (range : Option ValueRange) (one : ValueRange) → IsSomeAnd range (λ r. r ≡ one) → range ≡ Some one
range_of None one h = absurd h
range_of (Some r) one h = ap (λ (r : ValueRange). Some r) h

-- the words, as lists of bytes
abbrev words : goal.After-try_get_matches_from → List Text
words c = map (λ s. string_bytes s) c.args.words.now

-- the command that the body builds
command_is : (c : goal.After-try_get_matches_from) → app_of c.in_ok-command.command ≡ command
unfolding with_version
command_is c =
    let range_is = range_of c.num_args.result.num_vals (record { start_inclusive = 1; end_inclusive = usize_max }) c.num_args.ensures.1 in
    let given_is : rule_of c.action-given.result ≡ given =
    ap rule_of c.action-given.ensures
    ∙ ap set_action (ap rule_of c.required.ensures
    ∙ ap set_required (ap rule_of c.trailing_var_arg.ensures
    ∙ ap set_trailing (ap rule_of c.num_args.ensures.0
    ∙ ap (set_range c.num_args.result.num_vals) (ap rule_of c.help.ensures ∙ c.new.ensures.rule)
    ∙ ap (λ r. set_range r (new_rule (codes "words"))) range_is))) in
    let bare_is : app_of c.override_usage.result ≡ bare_odin_lay =
    ap app_of_fields c.override_usage.ensures ∙ ap app_of_fields c.version.ensures ∙ ap with_version (ap app_of_fields c.about.ensures ∙ c.new-2.ensures.app) in
    c.in_ok-command.ensures.shape (search rules) ∙ ap₂ with_rule bare_is given_is

pub returns-clause-rows : goal.returns-clause-rows
returns-clause-rows c = IfOk-weaker c.try_get_matches_from.result _ _ (λ m h. (h (ap is_simple (command_is c) ∙ simple)).0 ∙ ap (λ a. matches_of a (words c)) (command_is c)) c.try_get_matches_from.ensures.matches

pub returns-clause-kinds : goal.returns-clause-kinds
returns-clause-kinds c =
    subst (λ (a : App). FailsBy (fault_of a (words c)) c.try_get_matches_from.result) (command_is c) (c.try_get_matches_from.ensures.kinds (ap is_simple_and_free (command_is c) ∙ free))
