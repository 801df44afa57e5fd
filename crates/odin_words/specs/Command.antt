-- The command by which the words are read: the options `--jobs` and `--load` with one value each, and the word GRAPH, each at most once. None is
-- required, and there is no help flag.
use Rattle.std.specs.Prelude.{Some, true, codes}
use Rattle.clap.specs.Words.{App, Rule, new_app, new_rule, with_rule}
use Rattle.clap.specs.declared.builder.ArgAction.TheVariants.{Set}

abbrev pub jobs : Rule
jobs = record (new_rule (codes "jobs")) { long = Some (codes "jobs"); action = Some Set }

abbrev pub load : Rule
load = record (new_rule (codes "load")) { long = Some (codes "load"); action = Some Set }

abbrev pub graph : Rule
graph = record (new_rule (codes "graph")) { action = Some Set }

abbrev pub bare_odin : App
bare_odin = let app = new_app (codes "odin") in record app { top = record app.top { disable_help_flag = true } }

abbrev pub command : App
command = with_rule (with_rule (with_rule bare_odin jobs) load) graph
