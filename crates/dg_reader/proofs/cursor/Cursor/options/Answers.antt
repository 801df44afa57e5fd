use Rattle.dg_reader.proofs.DeclLemmas.{tool_options}
use Rattle.dg_reader.proofs.cursor.Cursor.options.Goals as goal

pub returns-clause-ok : goal.returns-clause-ok
returns-clause-ok c = tool_options (record { version = c.args.version; words = c.in_ok-words.words; uses = c.in_ok-uses.uses; extras = c.in_ok-extras.extras; closure = c.in_ok-closure.closure }) c.args.self.now c.strings.new.self c.uses.new.self c.extras.new.self c.closure.new.self c.in_ok-words.ensures.ok c.in_ok-words.ensures.end c.in_ok-uses.ensures.ok c.in_ok-extras.ensures.ok c.in_ok-extras.ensures.end c.in_ok-closure.ensures.ok
