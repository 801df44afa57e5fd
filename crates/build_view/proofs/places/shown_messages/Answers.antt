use Rattle.std.proofs.Common.{[], ◌∷◌, ◌++◌, take, ap, sym, subst, ◌∙◌}
use Rattle.std.specs.List.{AllZip}
use Rattle.std.proofs.lemmas.List.{take_more}
use Rattle.indexmap.proofs.SetLemmas.{AllZip-push}
use Rattle.build_view.specs.Places.{IsPageMessage}
use Rattle.build_view.proofs.places.shown_messages.Goals as goal

pub loop-message-preserved : goal.loop-message-preserved
loop-message-preserved c =
    let seen = take c.loop-message.message-index c.args.messages.now in
    let message = c.message-item.result in
    let more = take_more c.args.messages.now c.loop-message.message-index message c.loop-message-test.true ∙ ap (λ m. seen ++ m ∷ []) (sym c.message-item.is) in
    subst (λ l. AllZip IsPageMessage l c.push.new.self) (sym more)
    (subst (AllZip IsPageMessage (seen ++ message ∷ [])) (sym c.in_ok-push.ensures.ok)
    (AllZip-push IsPageMessage seen c.loop-message.all message c.in_ok-page_message.field-0 c.loop-message.invariant c.in_ok-page_message.ensures))
