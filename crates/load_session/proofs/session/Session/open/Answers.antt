use Rattle.std.proofs.Common.{ℕ, List, ◌≤◌, length, sym, ap, ◌∙◌, subst}
use Rattle.odin_memory.specs.Tools.{new_tools}
use Rattle.odin_memory.specs.declared.answers.Answers.TheVariants.{Toys}
use Rattle.meaning_texts.specs.Limits.{graph_limit}
use Rattle.load_session.proofs.OpenLemmas.{none_written, opened_new, opening_fault}
use Rattle.load_session.proofs.SessionLemmas.{at_stop}
use Rattle.load_session.proofs.session.Session.open.Goals as goal

pub returns-in_err-engine-clause-err : goal.returns-in_err-engine-clause-err
returns-in_err-engine-clause-err c =
    at_stop _ c.in_err-engine.field-0.0 _ c.from_residual-in_err-engine.ensures.1
    (opening_fault c.graph_text.result.now c.in_ok-disk.disk c.open-opened.new.disk c.in_err-engine.field-0.0 c.stands_for_one.ensures
    (subst (λ (text : List ℕ). length text ≤ graph_limit) (sym c.graph_text.ensures) c.in_ok-graph.ensures.short) c.in_ok-disk.ensures
    c.in_err-engine.ensures.refused c.in_err-engine.ensures.works c.in_err-engine.ensures.cause.err c.fails_past_room.ensures)

pub returns-clause-ok : goal.returns-clause-ok
returns-clause-ok c =
    opened_new _ c.graph_text.result.now c.in_ok-graph.graph c.in_ok-disk.disk c.graph_text.ensures c.in_ok-disk.ensures c.in_ok-graph.ensures
    (c.in_ok-engine.ensures.empty (none_written c.in_ok-disk.disk c.in_ok-disk.ensures)) c.in_ok-engine.ensures.new (c.toy.ensures ∙ ap (new_tools Toys) c.new-2.ensures)
