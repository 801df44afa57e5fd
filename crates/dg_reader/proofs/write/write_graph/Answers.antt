use Rattle.std.proofs.Common.{◌≡◌, ◌++◌, ◌∷◌, ◌+◌, [], take, refl, sym, ap, ◌∙◌}
use Rattle.std.proofs.lemmas.List.{take_all}
use Rattle.meaning_graph.specs.Tokens.{semicolon}
use Rattle.meaning_graph.specs.Grammar.{decl_tokens}
use Rattle.meaning_graph.specs.Spelling.{tokens_spelling, graph_spelling}
use Rattle.meaning_graph.proofs.Lemmas.{checked_has_spelling, spelled}
use Rattle.dg_reader.proofs.WriteLemmas.{graph_none, graph_more, take_step}
use Rattle.dg_reader.proofs.write.write_graph.Goals as goal

pub decls-init : goal.decls-init
decls-init c = (c.new.ensures ∙ sym graph_none, refl)

pub decls-preserved : goal.decls-preserved
decls-preserved c =
    let step : graph_spelling (take c.decls.decl-index c.decls-decl-items.result.now) ++ tokens_spelling (decl_tokens c.decl-item.result ++ semicolon ∷ []) ≡ graph_spelling (take (c.decls.decl-index + 1) c.decls-decl-items.result.now) = graph_more (take c.decls.decl-index c.decls-decl-items.result.now) c.decl-item.result ∙ ap graph_spelling (take_step c.decls-decl-items.result.now c.decl-item.result c.decls.decl-index c.decls-test.true c.decl-item.is) in
    (c.in_ok-line.ensures.out ∙ ap (λ x. x ++ tokens_spelling (decl_tokens c.decl-item.result ++ semicolon ∷ [])) c.decls.invariant.0 ∙ step, c.in_ok-line.ensures.glued)

pub returns-clause-reads_back : goal.returns-clause-reads_back
returns-clause-reads_back c spellable =
    let all : graph_spelling (take c.decls.decl-index c.decls-decl-items.result.now) ≡ graph_spelling c.args.graph.now = ap graph_spelling (take_all c.decls.decl-index c.decls-decl-items.result.now c.decls-test.false ∙ c.decls-decl-items.ensures) in
    rw (c.decls.invariant.0, all) (spelled c.args.graph.now (checked_has_spelling c.args.graph.now spellable c.checked.ensures))
