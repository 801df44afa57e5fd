-- The nodes that are found fit, and the calls that are wanted are well formed.
use Rattle.std.proofs.Common.{◌≡◌, ◌<◌, ℕ, zero, suc, List, [], ◌∷◌, inl, inr, sym, subst, arith}
use Rattle.std.specs.Prelude.{Option, Some, None, IfSome}
use Rattle.object_values.specs.declared.nodes.Node.{Node}
use Rattle.object_values.specs.declared.calls.Call.{Call}
use Rattle.meaning_texts.specs.Limits.{height_limit}
use Rattle.meaning_texts.specs.Lists.{IsIn}
use Rattle.meaning_calls.specs.Jobs.{IsWellFormed}
use Rattle.meaning_tasks.specs.Nodes.{Fits}
use Rattle.meaning_derive.specs.Chains.{LeadsOn, Chain}
use Rattle.meaning_derive.specs.Premises.{IsMapOverFitting}
use Rattle.meaning_derive.specs.Derive.{derive}
use Rattle.meaning_derive.proofs.Lemmas.{needs_fit, map_at, calls_formed, elements_at, short_at, nothing_at_zero}
use Rattle.derive_walk.specs.declared.done.Done.{Done}
use Rattle.derive_walk.specs.declared.found.Found.{Found}
use Rattle.derive_walk.specs.declared.found.Found.TheVariants.{Answer, Circular, Deep}
use Rattle.derive_walk.specs.Founds.{IsFound, NodesFit}
use Rattle.derive_walk.specs.Walks.{Walked, IsFormedDone, IsFormed, IsDone, IsRight}
use Rattle.derive_walk.specs.Worlds.{World, IsWorld, seen_in}

module _ (w : World) (is : IsWorld w) where
  -- what is derived is a map of results
  pub seen_map : IsMapOverFitting w.graph (seen_in w)
  seen_map = map_at w.graph is.checked w.sources is.sources w.outcomes is.fit height_limit

  -- each need of a node that fits, fits
  leads_fit : (n : Node) → Fits w.graph n → (rest : List Node) → LeadsOn w.graph (seen_in w) n rest → (m : Node) → IsIn m rest → Fits w.graph m
  leads_fit n fits [] leads m i = absurd i
  leads_fit n fits (k ∷ rest) leads m i =
      let next = needs_fit w.graph is.spellable is.checked (seen_in w) seen_map n fits leads.0.needs leads.0.listed k leads.0.one in
      elim i [
        | inl e ↦ subst (Fits w.graph) (sym e) next
        | inr j ↦ leads_fit k next rest leads.1 m j
      ]

  pub chain_fits : (n : Node) → Fits w.graph n → (chain : List Node) → Chain w.graph (seen_in w) n chain → (m : Node) → IsIn m chain → Fits w.graph m
  chain_fits n fits [] leads m i = absurd i
  chain_fits n fits (k ∷ rest) leads m i =
      let first = subst (Fits w.graph) leads.0 fits in
      elim i [
        | inl e ↦ subst (Fits w.graph) (sym e) first
        | inr j ↦ leads_fit k first rest leads.1 m j
      ]

  pub found_fits : (n : Node) → Fits w.graph n → (found : Found) → IsFound w.graph w.sources w.outcomes n found → NodesFit w.graph found
  found_fits n fits (Answer view) h = λ elements e m i. elements_at w.graph is.checked w.sources is.sources w.outcomes is.fit height_limit n view elements fits h e m i
  found_fits n fits (Circular chain) h = chain_fits n fits chain h.leads
  found_fits n fits (Deep chain) h = chain_fits n fits chain h.leads

  pub wanted_formed : (walked : Walked) → IsRight w walked → (call : Call) → IsIn call walked.wanted → IsWellFormed call
  wanted_formed walked right call i = calls_formed w.graph is.spellable is.checked w.sources is.sources w.outcomes is.fit walked.root right.root call (right.wanted call i).from

  -- ---- a walk that is right

  done_formed : (n : Node) (d : Done) → IsDone w n d → IsFormedDone w.graph n d
  done_formed n d done = record {
    result = record {
      result = map_at w.graph is.checked w.sources is.sources w.outcomes is.fit d.height n d.view done.fits done.is;
      short = λ v valued. short_at w.graph is.checked w.sources is.sources w.outcomes is.fit d.height n d.view v done.fits done.is valued;
    };
    low = above_zero d.height done.is;
    high = done.high;
  }
    where
      above_zero : (h : ℕ) → derive w.graph w.sources w.outcomes h n ≡ Some d.view → 0 < h
      above_zero zero e = absurd (nothing_at_zero w.graph w.sources w.outcomes n d.view e)
      above_zero (suc h) e = omega arith

  result_fits : (n : Node) → Fits w.graph n → (result : Option Found) → IfSome result (IsFound w.graph w.sources w.outcomes n)
      → IfSome result (NodesFit w.graph)
  result_fits n fits None found = tt
  result_fits n fits (Some found) is_found = found_fits n fits found is_found

  pub right_is_formed : (walked : Walked) → IsRight w walked → IsFormed w walked
  right_is_formed walked right = record {
    told = right.told;
    looked = right.looked;
    fit = right.fit;
    root = right.root;
    done = record {
      each = λ n d e. done_formed n d (right.done.each n d e);
      different = right.done.different;
    };
    wanted = record {
      each = wanted_formed walked right;
      outside = λ call i. (right.wanted call i).outside;
      once = right.once;
    };
    found = result_fits walked.root right.root walked.result right.found;
  }
