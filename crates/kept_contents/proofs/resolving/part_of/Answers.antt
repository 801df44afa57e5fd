use Rattle.std.proofs.Common.{◌∙◌, ap}
use Rattle.content_store.specs.Bodies.{place_of_body}
use Rattle.kept_contents.proofs.resolving.part_of.Goals as goal
use Rattle.kept_contents.proofs.resolving.part_of.Goals.{in-Some+in-Some-shared+in_ok-copy-in-Some-shared, in-None}

pub returns-clause-held : goal.returns-clause-held
returns-clause-held c =
    let texts = c.args.table.now.texts in
    elim c.match-stored.branch [
      | in-Some+in-Some-shared+in_ok-copy-in-Some-shared w ↦ rw w.body-is (w.in-Some-shared.shared.now.id, ap (λ t. place_of_body t texts) w.in_ok-copy-in-Some-shared.ensures ∙ w.in-Some-shared.ensures.held)
      | in-None w ↦ rw w.body-is tt
    ]
