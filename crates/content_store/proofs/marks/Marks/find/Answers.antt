use Rattle.std.proofs.Common.{◌≡◌, ◌<◌, ◌∙◌, length, sym, subst, drop, arith}
use Rattle.std.specs.Prelude.{None, Some, Contains}
use Rattle.std.proofs.lemmas.List.{drop_all}
use Rattle.std.proofs.lemmas.List.Elements.{All-contains}
use Rattle.content_store.specs.Marks.{IsLed, leads}
use Rattle.content_store.proofs.MarkLemmas.{led_further, led_nowhere}
use Rattle.content_store.proofs.marks.Marks.find.Goals as goal

pub returns-in_default-clause-none : goal.returns-in_default-clause-none
returns-in_default-clause-none g c i found is =
    let marks = g.S.Sought.marks c.args.sought.now in
    let within : c.loop-level.level < length marks = omega (arith, c.loop-level.invariant.long) in
    let none : leads c.args.self.now c.mark.result ≡ None = sym c.number_at.ensures ∙ c.in_default.is in
    led_nowhere (leads c.args.self.now) c.args.self.now.clashing.items marks c.loop-level.level c.mark.result within c.mark.ensures i none (c.loop-level.invariant.rest i is found)

pub loop-level-preserved : goal.loop-level-preserved
loop-level-preserved g c =
    let marks = g.S.Sought.marks c.args.sought.now in
    let within : c.loop-level.level < length marks = omega (arith, c.loop-level.invariant.long) in
    let at : leads c.args.self.now c.mark.result ≡ Some c.in-Some.number = sym c.number_at.ensures ∙ c.in-Some.is in
    record {
      rest = λ i is found. led_further (leads c.args.self.now) c.args.self.now.clashing.items marks c.loop-level.level c.mark.result within c.mark.ensures (g.S.Sought.is_at c.args.sought.now) i c.in-Some.number at (λ other. let yes = c.is_at.ensures.1 other in let no = c.if-is_at.false in cc) is (c.loop-level.invariant.rest i is found);
      long = c.loop-level.invariant.long;
    }
