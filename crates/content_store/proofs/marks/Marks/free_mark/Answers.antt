use Rattle.std.proofs.Common.{◌≡◌, ◌<◌, ◌∙◌, ap, length, sym, false, not, true, arith}
use Rattle.std.specs.Prelude.{None, is_some}
use Rattle.content_store.specs.Marks.{leads}
use Rattle.content_store.proofs.MarkLemmas.{free_further, free_here, none_there}
use Rattle.content_store.proofs.marks.Marks.free_mark.Goals as goal

pub returns-then-is_none : goal.returns-then-is_none
returns-then-is_none g c =
    let marks = g.S.Sought.marks c.args.sought.now in
    let within : c.loop-level.level < length marks = omega (arith, c.loop-level.invariant.long) in
    let none : leads c.args.self.now c.mark-mark.result ≡ None = sym c.number_at.ensures ∙ none_there c.number_at.result (c.is_none.ensures ∙ ap not c.if-is_none.true) in
    sym (free_here (leads c.args.self.now) c.args.self.now.clashing.items marks c.loop-level.level c.mark-mark.result within c.mark-mark.ensures none) ∙ c.loop-level.invariant.rest

pub loop-level-preserved : goal.loop-level-preserved
loop-level-preserved g c =
    let marks = g.S.Sought.marks c.args.sought.now in
    let within : c.loop-level.level < length marks = omega (arith, c.loop-level.invariant.long) in
    let some : is_some (leads c.args.self.now c.mark-mark.result) ≡ true = ap is_some (sym c.number_at.ensures) ∙ c.is_none.ensures ∙ ap not c.if-is_none.false in
    record {
      rest = sym (free_further (leads c.args.self.now) c.args.self.now.clashing.items marks c.loop-level.level c.mark-mark.result within c.mark-mark.ensures some) ∙ c.loop-level.invariant.rest;
      long = c.loop-level.invariant.long;
    }
