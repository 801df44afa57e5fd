use Rattle.std.proofs.Common.{sym, ◌∙◌}
use Rattle.std.proofs.lemmas.Option.{same_Some}
use Rattle.content_store.proofs.Lemmas.{place_stands}
use Rattle.kept_contents.proofs.Items.{has_place}
use Rattle.kept_contents.proofs.table.ContentTable.share.Goals as goal

pub held-requires : goal.held-requires
held-requires c = has_place _ _ _ (place_stands c.args.text.now c.hold.new.self.texts c.in_ok-id.id c.in_ok-id.ensures.id)

pub returns-clause-text : goal.returns-clause-text
returns-clause-text c = same_Some _ _ (sym c.in_ok-text.ensures ∙ place_stands c.args.text.now c.hold.new.self.texts c.in_ok-id.id c.in_ok-id.ensures.id)
