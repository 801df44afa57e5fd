-- What stands before the declaration, by the counts.
use Rattle.std.proofs.Common.{◌∙◌, ◌||◌, sym, ap, take, arith}
use Rattle.std.proofs.lemmas.Result.{IfOk-weaker}
use Rattle.meaning_graph.specs.Checks.{doubles_name, has_twice, part_names, used_params}
use Rattle.type_graph.proofs.DoubleLemmas.{type_before, suffix_before, param_before, maker_before}
use Rattle.type_graph.proofs.context.Context.doubles_name.Goals as goal

pub returns-then-stands_before : goal.returns-then-stands_before
returns-then-stands_before c place counts =
    let there = sym (type_before c.args.self.now place c.in-ObjectType.declared.name c.args.before.now.types (ap (λ k. k.types) counts)) ∙ sym c.stands_before.ensures ∙ c.if-stands_before.true in
    ap (λ b. b || has_twice (part_names c.in-ObjectType.declared.kind)) (sym there) ∙ ap (doubles_name (take place c.args.self.now)) (sym c.in-ObjectType.is)

pub returns-else-stands_before : goal.returns-else-stands_before
returns-else-stands_before c place counts =
    let there = sym (type_before c.args.self.now place c.in-ObjectType.declared.name c.args.before.now.types (ap (λ k. k.types) counts)) ∙ sym c.stands_before.ensures ∙ c.if-stands_before.false in
    IfOk-weaker c.parts_twice.result _ _ (λ twice e. e ∙ ap (λ b. b || has_twice (part_names c.in-ObjectType.declared.kind)) (sym there) ∙ ap (doubles_name (take place c.args.self.now)) (sym c.in-ObjectType.is)) c.parts_twice.ensures

pub returns-in-Suffix : goal.returns-in-Suffix
returns-in-Suffix c place counts =
    let before = suffix_before c.args.self.now place c.in-Suffix.declared.suffix c.args.before.now.suffixes (ap (λ k. k.suffixes) counts) in
    let named = ap (doubles_name (take place c.args.self.now)) (sym c.in-Suffix.is) in
    grind (arith, c.stands_before-in-Suffix.ensures, before, named)

pub returns-in-Param : goal.returns-in-Param
returns-in-Param c place counts =
    let before = param_before c.args.self.now place c.in-Param.name c.args.before.now.params (ap (λ k. k.params) counts) in
    let named = ap (doubles_name (take place c.args.self.now)) (sym c.in-Param.is) in
    grind (arith, c.stands_before-in-Param.ensures, before, named)

pub returns-then-stands_before-2 : goal.returns-then-stands_before-2
returns-then-stands_before-2 c place counts =
    let there = sym (maker_before c.args.self.now place c.in-Maker.declared.name c.args.before.now.makers (ap (λ k. k.makers) counts)) ∙ sym c.stands_before-in-Maker.ensures ∙ c.if-stands_before-2.true in
    ap (λ b. b || has_twice (used_params c.in-Maker.declared.make)) (sym there) ∙ ap (doubles_name (take place c.args.self.now)) (sym c.in-Maker.is)

pub returns-else-stands_before-2 : goal.returns-else-stands_before-2
returns-else-stands_before-2 c place counts =
    let there = sym (maker_before c.args.self.now place c.in-Maker.declared.name c.args.before.now.makers (ap (λ k. k.makers) counts)) ∙ sym c.stands_before-in-Maker.ensures ∙ c.if-stands_before-2.false in
    IfOk-weaker c.uses_twice.result _ _ (λ twice e. e ∙ ap (λ b. b || has_twice (used_params c.in-Maker.declared.make)) (sym there) ∙ ap (doubles_name (take place c.args.self.now)) (sym c.in-Maker.is)) c.uses_twice.ensures
