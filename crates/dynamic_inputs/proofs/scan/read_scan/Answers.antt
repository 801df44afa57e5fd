use Rattle.std.proofs.Common.{◌++◌, Some, None, sym, ap, ◌∙◌, append-nil, rules}
use Rattle.std.specs.Prelude.{filter}
use Rattle.meaning_texts.specs.Tests.{is_name}
use Rattle.meaning_texts.specs.References.{scanned_names}
use Rattle.odin_bytes.specs.Words.{MayName}
use Rattle.dynamic_inputs.proofs.Scanned.{named_line, other_line}
use Rattle.dynamic_inputs.proofs.scan.read_scan.Goals as goal

pub lines-preserved-in_ok-push : goal.lines-preserved-in_ok-push
lines-preserved-in_ok-push c =
    let told = rw c.in-Some-2.is at c.in_ok-name.ensures in
    let named : MayName c.in-Some.line.now (Some c.in-Some-2.name) = search rules in
    rw c.in_ok-push.ensures.ok (named_line _ c.lines.names c.lines.rest.now c.in-Some.line.now c.in-Some.behind.now c.in-Some-2.name c.lines.invariant c.in-Some.ensures.some named)

pub lines-preserved : goal.lines-preserved
lines-preserved c =
    let told = rw c.in_default-2.is at c.in_ok-name.ensures in
    let other : MayName c.in-Some.line.now None = search rules in
    other_line _ c.lines.names c.lines.rest.now c.in-Some.line.now c.in-Some.behind.now c.lines.invariant c.in-Some.ensures.some other

pub returns : goal.returns
unfolding scanned_names
returns c = sym (c.lines.invariant ∙ (ap (λ lines. c.lines.names ++ filter is_name lines) c.in_default.ensures.none ∙ append-nil c.lines.names))
