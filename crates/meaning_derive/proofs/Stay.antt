-- Chains and calls stay what they are under more outcomes.
use Rattle.std.proofs.Common.{List, [], ◌∷◌, ◌++◌}
use Rattle.object_values.specs.declared.nodes.Node.{Node}
use Rattle.meaning_texts.specs.Limits.{height_limit}
use Rattle.meaning_graph.specs.Graphs.{Graph}
use Rattle.meaning_tasks.specs.Needs.{Grows}
use Rattle.meaning_tasks.proofs.Lemmas.{need_stays}
use Rattle.meaning_derive.specs.Derive.{Sources, Outcomes, derived}
use Rattle.meaning_derive.specs.Chains.{IsNeed, LeadsOn, Chain}
use Rattle.meaning_derive.specs.Laws.{HasMore, AreKept}
use Rattle.meaning_derive.proofs.Steps.{derive_more}
use Rattle.meaning_derive.proofs.Present.{needs_at, needs_listed}
use Rattle.meaning_derive.proofs.Founded.{runs_stay}

module _ (g : Graph) (s : Sources) (outcomes more : Outcomes) (has : HasMore outcomes more) where
  grows : Grows (derived g s outcomes) (derived g s more)
  grows = derive_more g s outcomes more has height_limit

  one_stays : (n m : Node) → IsNeed g (derived g s outcomes) n m → IsNeed g (derived g s more) n m
  one_stays n m need = record {
    needs = needs_at g s more height_limit n;
    listed = needs_listed g s more height_limit n;
    one = need_stays g n (derived g s outcomes) (derived g s more) need.needs (needs_at g s more height_limit n) grows need.listed (needs_listed g s more height_limit n) m need.one;
  }

  leads_stay : (n : Node) (rest : List Node) → LeadsOn g (derived g s outcomes) n rest → LeadsOn g (derived g s more) n rest
  leads_stay n [] l = tt
  leads_stay n (m ∷ rest) l = (one_stays n m l.0, leads_stay m rest l.1)

  chain_stays : (n : Node) (chain : List Node) → Chain g (derived g s outcomes) n chain → Chain g (derived g s more) n chain
  chain_stays n [] c = c
  chain_stays n (m ∷ rest) c = (c.0, leads_stay m rest c.1)

  pub kept : (n : Node) → AreKept g s outcomes more n
  kept n = record {
    circular = λ chain c. record { front = c.front; last = c.last; is = c.is; leads = chain_stays n chain c.leads; different = c.different; repeated = c.repeated };
    deep = λ chain d. record { leads = chain_stays n chain d.leads; long = d.long; different = d.different };
    calls = λ call f. record {
      node = f.node;
      met = record { front = f.met.front; leads = chain_stays n (f.met.front ++ f.node ∷ []) f.met.leads; short = f.met.short };
      runs = runs_stay g (derived g s outcomes) (derived g s more) grows f.node call f.runs;
    };
  }
