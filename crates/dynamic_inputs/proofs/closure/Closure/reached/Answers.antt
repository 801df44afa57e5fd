use Rattle.std.proofs.Common.{◌≡◌, true, false, List, [], length, sym, ap, ◌∙◌, subst}
use Rattle.std.specs.Prelude.{nat_eq, bytes_eq}
use Rattle.std.specs.List.{IsDistinct}
use Rattle.std.proofs.lemmas.List.{nil_from_length}
use Rattle.std.proofs.lemmas.Bool.Decides.{Decides-eqb}
use Rattle.meaning_graph.specs.Graphs.{Text}
use Rattle.dynamic_inputs.proofs.Found.{none_distinct}
use Rattle.dynamic_inputs.proofs.Asked.{none_reached, all_answer, all_apart, others_answer, others_apart_answer}
use Rattle.dynamic_inputs.proofs.closure.Closure.reached.Goals as goal

none : (shown : List Text) → true ≡ nat_eq (length shown) 0 → shown ≡ []
none shown is = nil_from_length shown ((Decides-eqb (length shown) 0).0 (sym is))

some : (shown : List Text) → false ≡ nat_eq (length shown) 0 → shown ≡ [] → ⊥
some shown is e = let k : false ≡ true = is ∙ ap (λ (l : List Text). nat_eq (length l) 0) e in cc

pub returns-then-is_empty-clause-each : goal.returns-then-is_empty-clause-each
returns-then-is_empty-clause-each c = none_reached c.self.inside.root c.self.inside.names c.self.inside.told c.args.self.now c.self.invariant c.self.view_is c.as_slice-names.result.now c.as_slice-names.ensures (none c.as_slice-names.result.now c.if-is_empty.ensures)

pub returns-then-is_empty-clause-distinct : goal.returns-then-is_empty-clause-distinct
returns-then-is_empty-clause-distinct c = subst (IsDistinct bytes_eq) (sym (none c.as_slice-names.result.now c.if-is_empty.ensures)) none_distinct

pub returns-then-has_first-clause-each : goal.returns-then-has_first-clause-each
returns-then-has_first-clause-each c = all_answer c.self.inside.root c.self.inside.names c.self.inside.told c.args.self.now c.self.invariant c.self.view_is c.as_slice-names.result.now c.as_slice-names.ensures (some c.as_slice-names.result.now c.if-is_empty.ensures) c.as_slice.result.now c.as_slice.ensures c.if-has_first.ensures

pub returns-then-has_first-clause-distinct : goal.returns-then-has_first-clause-distinct
returns-then-has_first-clause-distinct c = all_apart c.self.inside.root c.self.inside.names c.self.inside.told c.args.self.now c.self.invariant c.self.view_is c.as_slice-names.result.now c.as_slice-names.ensures (some c.as_slice-names.result.now c.if-is_empty.ensures)

pub returns-else-has_first-clause-each : goal.returns-else-has_first-clause-each
returns-else-has_first-clause-each c = others_answer c.self.inside.root c.self.inside.names c.self.inside.told c.args.self.now c.self.invariant c.self.view_is c.as_slice-names.result.now c.as_slice-names.ensures (some c.as_slice-names.result.now c.if-is_empty.ensures) c.as_slice.result.now c.as_slice.ensures c.if-has_first.ensures

pub returns-else-has_first-clause-distinct : goal.returns-else-has_first-clause-distinct
returns-else-has_first-clause-distinct c = others_apart_answer c.self.inside.root c.self.inside.names c.self.inside.told c.args.self.now c.self.invariant c.self.view_is c.as_slice-names.result.now c.as_slice-names.ensures (some c.as_slice-names.result.now c.if-is_empty.ensures)
