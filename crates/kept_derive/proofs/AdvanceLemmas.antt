-- The walk goes on by what is kept now, as it would by what was kept before and by what came.
use Rattle.std.proofs.Common.{◌≡◌, refl, sym, subst}
use Rattle.object_values.specs.declared.nodes.Node.{Node}
use Rattle.odin_outside.specs.Disk.{Telling}
use Rattle.meaning_graph.specs.Graphs.{Graph}
use Rattle.meaning_records.specs.Tables.{Calls}
use Rattle.odin_store.specs.Going.{Performs}
use Rattle.derive_walk.specs.Walks.{Walked, IsFormed, IsRight, IsAdvanced, ExtendsWalk as WalkGoesOn}
use Rattle.job_runner.specs.Flights.{InFlight}
use Rattle.plain_derive.specs.Flights.{on_course}
use Rattle.kept_derive.specs.Runs.{At, store_world, keeps_of}
use Rattle.kept_derive.specs.Ways.{IsOnWay}
use Rattle.kept_derive.proofs.KnowLemmas.{SaysFacts}
use Rattle.kept_derive.proofs.StayLemmas.{worlds_are}
use Rattle.kept_derive.proofs.TurnLemmas.{advances}

module _ {D : Type 0} (told : D → Telling) (g : Graph) (n : Node) (first : At D) (walked : Walked) (jobs : InFlight) (now : At D) (way : IsOnWay told g n on_course first walked jobs now)
    (before : SaysFacts first.store) (later : SaysFacts now.store) where
  world_at : (given : Calls) → given ≡ walked.given → store_world g now.store given ≡ store_world g first.store given
  world_at given same =
      worlds_are told g first given now (subst (λ (l : Calls). Performs told (keeps_of l) first.store now.store first.disk now.disk) (sym same) way.goes) way.nodes way.epoch before later

  pub formed_now : IsFormed (store_world g now.store walked.given) walked
  formed_now = subst (λ w. IsFormed w walked) (sym (world_at walked.given refl)) way.formed

  right_now : IsRight (store_world g first.store walked.given) walked → IsRight (store_world g now.store walked.given) walked
  right_now right = subst (λ w. IsRight w walked) (sym (world_at walked.given refl)) right

  module _ (walked' : Walked) (on : WalkGoesOn walked walked') where
    pub right_first : (IsRight (store_world g now.store walked.given) walked → IsRight (store_world g now.store walked'.given) walked') → IsRight (store_world g first.store walked.given) walked
        → IsRight (store_world g first.store walked'.given) walked'
    right_first goes right = subst (λ w. IsRight w walked') (world_at walked'.given on.given) (goes (right_now right))

    pub advanced_first : (IsRight (store_world g now.store walked.given) walked → IsAdvanced (store_world g now.store walked'.given) walked') → IsRight (store_world g first.store walked.given) walked
        → IsAdvanced (store_world g first.store walked'.given) walked'
    advanced_first goes right = subst (λ w. IsAdvanced w walked') (world_at walked'.given on.given) (goes (right_now right))

    pub goes_on : IsFormed (store_world g now.store walked'.given) walked' → (IsRight (store_world g now.store walked.given) walked → IsRight (store_world g now.store walked'.given) walked')
        → (IsRight (store_world g now.store walked.given) walked → IsAdvanced (store_world g now.store walked'.given) walked') → IsOnWay told g n on_course first walked' jobs now
    goes_on formed right advanced =
        advances told g n first walked jobs now way walked' on (subst (λ w. IsFormed w walked') (world_at walked'.given on.given) formed) (λ is. (right_first right is, advanced_first advanced is))
