use Rattle.std.proofs.Common.{◌≡◌, ◌≢◌, ◌↔◌, List, [], ◌∷◌, ◌++◌, sym, subst, refl}
use Rattle.object_values.specs.declared.calls.Call.{Call}
use Rattle.object_values.specs.declared.calls.Outcome.{Outcome}
use Rattle.meaning_texts.specs.Lists.{IsIn}
use Rattle.derive_walk.specs.Calls.{AreOnce, GivenOutcomes as Listed}
use Rattle.derive_walk.specs.Keeping.{places_in, records_in}
use Rattle.derive_walk.specs.Walks.{Walked, AreApart, OutcomeIsGiven}
use Rattle.derive_walk.proofs.GiveLemmas.{apart_after, formed_after, right_after}
use Rattle.derive_walk.proofs.walker.Walker.give.Goals as goal

given_so : (call : Call) (o : Outcome) (inside old : Walked) (given : Listed) (wanted : List Call) → inside ≡ old → given ≡ inside.given ++ (call, o) ∷ [] → ((q : Call) → IsIn q wanted ↔ (IsIn q inside.wanted × (q ≢ call))) → AreOnce wanted → OutcomeIsGiven call o old (record inside { given = given; wanted = wanted })
given_so call o inside old given wanted same added fewer once = subst (λ (z : Walked). OutcomeIsGiven call o z (record inside { given = given; wanted = wanted })) same (record { root = refl; done = refl; fresh = refl; renewed = refl; given = added; wanted = fewer; once = once; looked = refl; taken = refl; result = refl })

pub invariant_of-self-2 : goal.invariant_of-self-2
invariant_of-self-2 c = (
  subst (λ l. AreApart l c.take.new.wanted) (sym c.in_ok-take.ensures.given) (apart_after c.args.call.now c.args.outcome c.self.inside.given c.self.inside.walk.wanted c.take.new.wanted c.in_ok-take.ensures.fewer c.self.invariant.0),
  c.self.invariant.1,
)

pub returns-clause-ok : goal.returns-clause-ok
returns-clause-ok c = given_so c.args.call.now c.args.outcome _ _ _ _ c.self.view_is c.in_ok-take.ensures.given c.in_ok-take.ensures.fewer c.once.ensures

pub returns-clause-formed : goal.returns-clause-formed
returns-clause-formed c g s keeping formed =
    formed_after keeping.outcomes c.args.call.now c.args.outcome c.requires.fits _ _
    (given_so c.args.call.now c.args.outcome _ _ _ _ c.self.view_is c.in_ok-take.ensures.given c.in_ok-take.ensures.fewer c.once.ensures) (records_in keeping) (places_in keeping) g s formed c.requires.wanted

pub returns-clause-right : goal.returns-clause-right
returns-clause-right c g s keeping right =
    right_after keeping.outcomes c.args.call.now c.args.outcome c.requires.fits _ _
    (given_so c.args.call.now c.args.outcome _ _ _ _ c.self.view_is c.in_ok-take.ensures.given c.in_ok-take.ensures.fewer c.once.ensures) (records_in keeping) (places_in keeping) g s right c.requires.wanted
