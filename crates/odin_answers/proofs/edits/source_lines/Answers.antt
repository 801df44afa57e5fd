use Rattle.std.proofs.Common.{◌≡◌, length, rules}
use Rattle.std.specs.Prelude.{Some, None}
use Rattle.object_values.specs.Texts.{entry_at}
use Rattle.odin_answers.specs.Edits.{source_line}
use Rattle.odin_answers.proofs.SourceLemmas.{next_within, next_lines, all_lines}
use Rattle.odin_answers.proofs.edits.source_lines.Goals as goal

pub loop-name-preserved : goal.loop-name-preserved
loop-name-preserved c =
    let there : entry_at c.args.sources.now.texts (length c.loop-name.lines) ≡ Some (c.in-Some.name.now, c.in-Some.text.now) = search rules in
    let line : c.in_ok-source_line.field-0 ≡ source_line (c.in-Some.name.now, c.in-Some.text.now) = search rules in
    record {
      within = next_within c.args.sources.now.texts c.loop-name.lines c.push.new.self c.in_ok-source_line.field-0 _ there c.in_ok-push.ensures.ok;
      lines = next_lines c.args.sources.now.texts c.loop-name.lines c.push.new.self c.in_ok-source_line.field-0 _ there c.loop-name.invariant.lines line c.in_ok-push.ensures.ok;
    }

pub returns : goal.returns
returns c =
    let none : entry_at c.args.sources.now.texts (length c.loop-name.lines) ≡ None = search rules in
    all_lines c.args.sources.now.texts c.loop-name.lines none c.loop-name.invariant.lines
