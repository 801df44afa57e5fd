use Rattle.std.proofs.Common.{rules, ap, ap₂, refl, true, ◌≡◌, ◌≢◌, ◌∙◌, subst, inl, inr, [], Ok, Err, Result, IfOk, IfErr, List, map, string_bytes}
use Rattle.std.proofs.lemmas.Result.{IfOk-weaker}
use Rattle.clap.specs.Words.{App, app_of, fault_of, is_simple, is_simple_and_free, kind_of, matches_of, rule_of, with_rule, Kinds, IsAmong, FailsBy, Text}
use Rattle.clap.specs.declared.error.Error.{Error}
use Rattle.clap.specs.declared.error.ErrorKind.TheVariants.{OutOfMemory}
use Rattle.clap.specs.Simple.{app_of_fields}
use Rattle.clap.proofs.OnLiterals.{clap_on_literals}
use Rattle.build_files.specs.Command.{bare_odin_get, file, messages, labels, command}
use Rattle.build_files.proofs.words.matches.Goals as goal

free : is_simple_and_free command ≡ true
unfolding clap_on_literals
free = refl

simple : is_simple command ≡ true
unfolding clap_on_literals
simple = refl

no_help : App → App
no_help app = record app { top = record app.top { disable_help_flag = true } }

-- the words, as lists of bytes
abbrev words : goal.After-try_get_matches_from → List Text
words c = map (λ s. string_bytes s) c.args.words.now

-- the command that the body builds
command_is : (c : goal.After-try_get_matches_from) → app_of c.in_ok-command.command ≡ command
unfolding no_help
command_is c =
    let file_is : rule_of c.action.result ≡ file = search rules in
    let messages_is : rule_of c.action-2.result ≡ messages = search rules in
    let labels_is : rule_of c.action-3.result ≡ labels = search rules in
    let bare_is : app_of c.disable_help_flag.result ≡ bare_odin_get = ap app_of_fields c.disable_help_flag.ensures ∙ ap no_help c.new.ensures.app in
    c.in_ok-command.ensures.shape (search rules)
    ∙ ap₂ with_rule (c.in_ok-arg-2.ensures.shape (search rules)
    ∙ ap₂ with_rule (c.in_ok-arg.ensures.shape (search rules) ∙ ap₂ with_rule bare_is file_is) messages_is) labels_is

accepted_by : {T : Type 0} (kinds : Kinds) (r : Result T Error) → FailsBy kinds r → IfOk r (λ _. kinds ≡ [])
accepted_by kinds (Ok m) h = h
accepted_by kinds (Err e) h = tt

refused_by : {T : Type 0} (kinds : Kinds) (r : Result T Error) → FailsBy kinds r → IfErr r (λ e. kind_of e ≢ OutOfMemory → kinds ≢ [])
refused_by kinds (Ok m) h = tt
refused_by kinds (Err e) (inl m) = λ n z. n m
refused_by kinds (Err e) (inr among) = λ n z. subst (IsAmong (kind_of e)) z among

pub returns-clause-rows : goal.returns-clause-rows
returns-clause-rows c = IfOk-weaker c.try_get_matches_from.result _ _ (λ m h. (h (ap is_simple (command_is c) ∙ simple)).0 ∙ ap (λ a. matches_of a (words c)) (command_is c)) c.try_get_matches_from.ensures.matches

pub returns-clause-taken : goal.returns-clause-taken
returns-clause-taken c = accepted_by _ _ (subst (λ (a : App). FailsBy (fault_of a (words c)) c.try_get_matches_from.result) (command_is c) (c.try_get_matches_from.ensures.kinds (ap is_simple_and_free (command_is c) ∙ free)))

pub returns-clause-refused : goal.returns-clause-refused
returns-clause-refused c = refused_by _ _ (subst (λ (a : App). FailsBy (fault_of a (words c)) c.try_get_matches_from.result) (command_is c) (c.try_get_matches_from.ensures.kinds (ap is_simple_and_free (command_is c) ∙ free)))
