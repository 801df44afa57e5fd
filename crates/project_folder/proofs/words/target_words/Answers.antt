use Rattle.std.proofs.Common.{Option, Some, None, codes, ap, ◌≡◌, ◌∙◌}
use Rattle.std.specs.Prelude.{IsSomeAnd}
use Rattle.clap.specs.Lexer.{usize_max}
use Rattle.clap.specs.declared.builder.ArgAction.TheVariants.{Append}
use Rattle.clap.specs.declared.builder.range.ValueRange.{ValueRange}
use Rattle.clap.specs.Words.{Rule, new_rule, rule_of}
use Rattle.project_folder.proofs.words.target_words.Goals as goal

abbrev set_range : Option ValueRange → Rule → Rule
set_range range rule = record rule { range = range }

abbrev set_action : Rule → Rule
set_action rule = record rule { action = Some Append }

range_of : (range : Option ValueRange) (one : ValueRange) → IsSomeAnd range (λ r. r ≡ one) → range ≡ Some one
range_of None one h = absurd h
range_of (Some r) one h = ap (λ (r : ValueRange). Some r) h

pub returns-clause-rule : goal.returns-clause-rule
returns-clause-rule c =
    let range_is = range_of c.num_args.result.num_vals (record { start_inclusive = 1; end_inclusive = usize_max }) c.num_args.ensures.1 in
    ap rule_of c.action.ensures
    ∙ ap set_action (ap rule_of c.num_args.ensures.0
    ∙ ap (set_range c.num_args.result.num_vals) (ap rule_of c.help.ensures ∙ c.new.ensures.rule)
    ∙ ap (λ r. set_range r (new_rule (codes "targets"))) range_is)
