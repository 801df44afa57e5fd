use Rattle.std.proofs.Common.{[], ◌∷◌}
use Rattle.std.specs.Prelude.{codes}
use Rattle.meaning_graph.specs.Going.{keyword, any_word, any_string, strings, tool_front, expect}
use Rattle.dg_reader.specs.Reads.{way_classes}
use Rattle.dg_reader.proofs.WalkLemmas.{at_stop, halts_behind, halts_here, stops_keyword}
use Rattle.dg_reader.proofs.DeclLemmas.{name_leads, version_leads, way_leads, run_leads, tool_read}
use Rattle.dg_reader.proofs.cursor.Cursor.tool.Goals as goal

pub returns-in_err-version-clause-err : goal.returns-in_err-version-clause-err
returns-in_err-version-clause-err c =
    at_stop _ c.in_err-version.field-0.0 _ c.from_residual-in_err-version.ensures.1 (halts_behind c.in_err-version.field-0.0 (expect tool_front strings) c.args.self.now (expect (any_word ∷ way_classes (keyword (codes "run") ∷ any_string ∷ [])) strings) c.take.new.self c.take-2.new.self (name_leads c.in_ok-name.name c.args.self.now c.take.new.self c.in_ok-name.ensures.ok) (c.in_err-version.ensures.err (way_classes (keyword (codes "run") ∷ any_string ∷ [])) strings))

pub returns-in_err-from-clause-err : goal.returns-in_err-from-clause-err
returns-in_err-from-clause-err c =
    at_stop _ c.in_err-from.field-0.0 _ c.from_residual-in_err-from.ensures.1 (halts_behind c.in_err-from.field-0.0 (expect tool_front strings) c.args.self.now (expect (way_classes (keyword (codes "run") ∷ any_string ∷ [])) strings) c.take-2.new.self c.way.new.self (version_leads c.in_ok-name.name c.in_ok-version.version c.args.self.now c.take.new.self c.take-2.new.self c.in_ok-name.ensures.ok c.in_ok-version.ensures.ok) (c.in_err-from.ensures.err (keyword (codes "run") ∷ any_string ∷ []) strings))

pub returns-in_err-require-clause-err : goal.returns-in_err-require-clause-err
returns-in_err-require-clause-err c =
    at_stop _ c.in_err-require.field-0.0 _ c.from_residual-in_err-require.ensures.1 (halts_here c.in_err-require.field-0.0 (expect tool_front strings) c.args.self.now (expect (keyword (codes "run") ∷ any_string ∷ []) strings) c.way.new.self c.require.new.self (way_leads c.in_ok-name.name c.in_ok-version.version c.in_ok-from.from c.in_ok-from.to c.args.self.now c.take.new.self c.take-2.new.self c.way.new.self c.in_ok-name.ensures.ok c.in_ok-version.ensures.ok c.in_ok-from.ensures.ok) (stops_keyword (codes "run") c.way.new.self c.in_err-require.ensures.err.1 (any_string ∷ []) strings) c.in_err-require.ensures.err.0)

pub returns-in_err-options-clause-err : goal.returns-in_err-options-clause-err
returns-in_err-options-clause-err c =
    at_stop _ c.in_err-options.field-0.0 _ c.from_residual-in_err-options.ensures.1 (halts_behind c.in_err-options.field-0.0 (expect tool_front strings) c.args.self.now (expect (any_string ∷ []) strings) c.require.new.self c.options.new.self (run_leads c.in_ok-name.name c.in_ok-version.version c.in_ok-from.from c.in_ok-from.to c.args.self.now c.take.new.self c.take-2.new.self c.way.new.self c.require.new.self c.in_ok-name.ensures.ok c.in_ok-version.ensures.ok c.in_ok-from.ensures.ok c.in_ok-require.ensures.ok) (c.in_err-options.ensures.err))

pub returns-clause-ok : goal.returns-clause-ok
returns-clause-ok c = tool_read c.in_ok-name.name c.in_ok-version.version c.in_ok-from.from c.in_ok-from.to c.in_ok-options.field-0 c.args.self.now c.take.new.self c.take-2.new.self c.way.new.self c.require.new.self c.options.new.self c.in_ok-options.ensures.version c.in_ok-name.ensures.ok c.in_ok-version.ensures.ok c.in_ok-from.ensures.ok c.in_ok-require.ensures.ok c.in_ok-options.ensures.ok
