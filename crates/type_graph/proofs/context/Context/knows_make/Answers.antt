-- What a tool names are its further inputs and its scan type.
use Rattle.std.proofs.Common.{◌≡◌, ◌∙◌, ◌&&◌, sym, ap, true, false}
use Rattle.std.specs.List.{list_all}
use Rattle.std.specs.Option.{option_to_list}
use Rattle.meaning_graph.specs.Checks.{is_known, also_type}
use Rattle.type_graph.proofs.KindLemmas.{tool_known}
use Rattle.type_graph.proofs.context.Context.knows_make.Goals as goal

pub returns-then-knows_extras : goal.returns-then-knows_extras
returns-then-knows_extras c =
    let extras = list_all (λ extra. list_all (is_known c.args.self.now) (option_to_list (also_type extra))) in
    let known : extras c.in-Tool.tool.extras ≡ true = sym (c.knows_extras.ensures ∙ ap extras c.as_slice.ensures) ∙ c.if-knows_extras.true in
    c.knows_scan.ensures ∙ ap (λ b. b && list_all (is_known c.args.self.now) (option_to_list c.in-Tool.tool.closure)) (sym known) ∙ tool_known c.args.self.now c.args.make.now c.in-Tool.tool c.in-Tool.is

pub returns-else-knows_extras : goal.returns-else-knows_extras
returns-else-knows_extras c =
    let extras = list_all (λ extra. list_all (is_known c.args.self.now) (option_to_list (also_type extra))) in
    let known : extras c.in-Tool.tool.extras ≡ false = sym (c.knows_extras.ensures ∙ ap extras c.as_slice.ensures) ∙ c.if-knows_extras.false in
    c.if-knows_extras.false ∙ ap (λ b. b && list_all (is_known c.args.self.now) (option_to_list c.in-Tool.tool.closure)) (sym known) ∙ tool_known c.args.self.now c.args.make.now c.in-Tool.tool c.in-Tool.is
