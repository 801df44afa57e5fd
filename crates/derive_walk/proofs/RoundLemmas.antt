-- One round of a visit: the needs that were not visited so far are visited.
use Rattle.std.proofs.Common.{◌≡◌, ℕ, zero, suc, ◌<◌, false, List, [], ◌∷◌, ◌⊎◌, inl, inr, subst, length, get_or, arith}
use Rattle.object_values.specs.declared.nodes.Node.{Node}
use Rattle.meaning_texts.specs.Lists.{IsIn}
use Rattle.meaning_tasks.specs.Nodes.{Fits}
use Rattle.meaning_derive.specs.Chains.{IsNeed}
use Rattle.meaning_true.specs.Knowing.{IsChecked}
use Rattle.derive_walk.specs.declared.walk.Walk.{Walk}
use Rattle.derive_walk.specs.Worlds.{World, IsWorld}
use Rattle.derive_walk.specs.States.{IsFormedIn, HoldsIn, GoesOnFrom, Visited}
use Rattle.derive_walk.specs.Paths.{AreToVisit, LeadsTo}
use Rattle.derive_walk.specs.Tables.{results_of, node_in}
use Rattle.derive_walk.proofs.FormedLemmas.{need_is_fit}
use Rattle.derive_walk.proofs.FallLemmas.{need_of}
use Rattle.derive_walk.proofs.SourceSettles.{source_needs_none}
use Rattle.derive_walk.proofs.VisitLemmas.{IsNextNeed, SoFar, fits, go_on}

-- A round visits these nodes, needs by the results at its start.
pub record InRound (w : World) (old begun walk : Walk) (n : Node) (unvisited : List Node) : Type 0 where
  pub first : SoFar w old begun n
  pub so : SoFar w old walk n
  pub needed : (m : Node) → IsIn m unvisited → IsNeed w.graph (results_of begun.done) n m
  pub unchecked : (n.steps ≡ []) ⊎ (¬ IsChecked w.records n)

pub got_in : (nodes : List Node) (i : ℕ) (n : Node) → i < length nodes → n ≡ get_or nodes i n → IsIn n nodes
got_in [] i n h is = absurd (omega (arith, h))
got_in (m ∷ nodes) zero n h is = inl is
got_in (m ∷ nodes) (suc i) n h is = inr (got_in nodes i n (omega (arith, h)) is)

module _ (w : World) (old begun : Walk) (n : Node) where
  pub begin_round : SoFar w old begun n → (needs : List Node) → AreToVisit w begun n needs → (unvisited : List Node) → unvisited ≡ needs
      → InRound w old begun begun n unvisited
  begin_round so needs next unvisited same = record {
    first = so;
    so = so;
    needed = λ m i. (next.each m (subst (λ l. IsIn m l) same i)).need;
    unchecked = next.unchecked;
  }

  module _ (unvisited : List Node) (walk : Walk) (in_round : InRound w old begun walk n unvisited) (k : Node) (one : IsIn k unvisited) where
    pub round_fits : IsWorld w → Fits w.graph k
    round_fits is = need_is_fit w begun in_round.first.formed is n k (fits w old n begun in_round.first) (in_round.needed k one)

    -- what is right at the start makes it a need by all results
    pub round_need : LeadsTo w old n → IsNextNeed w n k
    round_need to =
        let need = in_round.needed k one in record {
          need = need_of w begun (in_round.first.right to).holds n k need.needs need.listed need.one;
          unchecked = elim in_round.unchecked [
            | inl source ↦ absurd (source_needs_none w n (results_of begun.done) k source need)
            | inr unchecked ↦ unchecked
          ];
        }

    pub visit_one : node_in k walk.path ≡ false → (new : Walk) → GoesOnFrom walk new → IsFormedIn w new → (LeadsTo w walk k → HoldsIn w new)
        → Visited w walk new k → InRound w old begun new n unvisited
    visit_one off new on formed holds after = record {
      first = in_round.first;
      so = go_on w old n walk in_round.so k round_need new on formed holds after off;
      needed = in_round.needed;
      unchecked = in_round.unchecked;
    }
