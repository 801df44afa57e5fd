-- The command by which the words are read: one word or more, of which those after the first are taken as they stand; or help, or the version.
use Rattle.std.specs.Prelude.{true, Some, codes}
use Rattle.clap.specs.Lexer.{usize_max}
use Rattle.clap.specs.Words.{App, Rule, new_app, new_rule, with_rule}
use Rattle.clap.specs.declared.builder.ArgAction.TheVariants.{Append}

abbrev pub given : Rule
given = record (new_rule (codes "words")) {
  range = Some (record { start_inclusive = 1; end_inclusive = usize_max });
  trailing_var_arg = true;
  required = true;
  action = Some Append;
}

abbrev pub bare_odin_lay : App
bare_odin_lay =
    let app = new_app (codes "odin_lay") in
    record app { top = record app.top { has_version = true } }

abbrev pub command : App
command = with_rule bare_odin_lay given
