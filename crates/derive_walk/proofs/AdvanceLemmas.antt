-- What an advance makes of a walk that has no result.
use Rattle.std.proofs.Common.{◌≡◌, false, sym, subst, is_some, ◌∙◌, true≢false}
use Rattle.std.specs.Prelude.{Option, IfSome}
use Rattle.meaning_tasks.specs.Nodes.{Fits}
use Rattle.derive_walk.specs.declared.found.Found.{Found}
use Rattle.derive_walk.specs.Calls.{GivenOutcomes}
use Rattle.derive_walk.specs.declared.walk.Walk.{Walk}
use Rattle.meaning_derive.specs.Given.{OutcomesFit}
use Rattle.derive_walk.specs.Founds.{IsFound, NodesFit}
use Rattle.derive_walk.specs.Looked.{AreTaken}
use Rattle.derive_walk.specs.States.{IsFormedIn, HoldsIn, GoesOnFrom}
use Rattle.derive_walk.specs.Walks.{Walked, IsFormed, IsRight, ExtendsWalk}
use Rattle.derive_walk.specs.Worlds.{World}
use Rattle.derive_walk.proofs.RootLemmas.{seen_so, formed_at_end, right_at_end}

module _ (start new : Walk) (on : GoesOnFrom start new) (given : GivenOutcomes) (old : Option Found) where
  pub goes_on : is_some old ≡ false → (result : Option Found) → (now : Walked) → seen_so start given old ≡ now → ExtendsWalk now (seen_so new given result)
  goes_on none result now same = subst (λ s. ExtendsWalk s (seen_so new given result)) same (record {
    root = on.root;
    given = λ i. given;
    wanted = on.wanted;
    stays = λ there. absurd (true≢false (sym there ∙ none));
  })

  -- what is formed
  pub stays_formed : (w : World) → OutcomesFit w.outcomes → IsFormedIn w new → (result : Option Found) → IfSome result (NodesFit w.graph)
      → IsFormed w (seen_so new given result)
  stays_formed w fit formed result found = formed_at_end w new formed fit given result found

  -- what is right
  pub stays_right : (w : World) → IsRight w (seen_so start given old) → IsFormedIn w new → HoldsIn w new → AreTaken w given new.looked new.done new.wanted new.taken
      → (result : Option Found) → IfSome result (IsFound w.graph w.sources w.outcomes new.root) → IsRight w (seen_so new given result)
  stays_right w right formed holds taken result found = right_at_end w new holds formed right.fit (subst (λ r. Fits w.graph r) (sym on.root) right.root) given taken result found

  pub still_found : (w : World) → IsRight w (seen_so start given old) → IfSome old (IsFound w.graph w.sources w.outcomes new.root)
  still_found w right = subst (λ r. IfSome old (IsFound w.graph w.sources w.outcomes r)) (sym on.root) right.found
