-- What is known of records, and stays.
use Rattle.std.proofs.Common.{◌≡◌, ℕ, suc, ◌≤◌, ◌⊎◌, inl, inr, sym, ap, ◌∙◌, subst, arith}
use Rattle.std.specs.Prelude.{Some, None}
use Rattle.object_values.specs.declared.nodes.Node.{Node}
use Rattle.meaning_texts.specs.Limits.{height_limit}
use Rattle.meaning_texts.specs.Lists.{IsIn}
use Rattle.meaning_texts.proofs.Lemmas.{same_some}
use Rattle.meaning_graph.specs.Graphs.{Graph}
use Rattle.meaning_tasks.specs.Needs.{values_of, nodes_of, Needs}
use Rattle.meaning_tasks.proofs.Lemmas.{full_needs_stay, one_list_of_needs}
use Rattle.meaning_derive.specs.Derive.{Sources, text_of, Outcomes, derived}
use Rattle.meaning_derive.specs.Laws.{HasMore}
use Rattle.meaning_derive.proofs.Lemmas.{derive_more, same_height}
use Rattle.object_values.specs.declared.facts.Fact.{Fact}
use Rattle.meaning_true.specs.Facts.{needs_in}
use Rattle.meaning_true.specs.Knowing.{KeptRecord, KeptRecords, view_kept, IsTight, TellsTight, Knows, IsPresent, no_records}
use Rattle.meaning_true.proofs.Settling.{truth_stays, has_result}
use Rattle.meaning_true.proofs.Renewing.{dep_of, of_dep}
use Rattle.meaning_true.proofs.Staying.{seen_on, stays_on}

none_kept : (n : Node) (k : KeptRecord) → no_records n ≡ Some k → ⊥
none_kept n k e = cc

pub nothing_known : (g : Graph) (s : Sources) (outcomes : Outcomes) → Knows g s outcomes no_records
nothing_known g s outcomes = record {
  each = λ n k e. absurd (none_kept n k e);
  holds = λ n k e checked. absurd (none_kept n k e);
  closed = λ n k e checked d i. absurd (none_kept n k e);
  tight = λ n k e checked. absurd (none_kept n k e);
}

module _ (g : Graph) (s : Sources) (outcomes more : Outcomes) (has : HasMore outcomes more) where
  tight_stays : (k : KeptRecord) (place : ℕ) → k.height ≤ height_limit → IsTight g s outcomes k place → IsTight g s more k place
  tight_stays k place high t = record {
    dep = t.dep;
    one = t.one;
    height = t.height;
    has = same_height g s outcomes more has t.dep.node t.height (omega (arith, high, t.next)) t.has;
    next = t.next;
  }

  pub tells_stay : (k : KeptRecord) → k.height ≤ height_limit → TellsTight g s outcomes k → TellsTight g s more k
  tells_stay k high (inl one) = inl one
  tells_stay k high (inr t) = inr (t.0, t.1, tight_stays k t.0 high t.2)

module _ (g : Graph) (s : Sources) (outcomes more : Outcomes) (records : KeptRecords) (has : HasMore outcomes more) (knows : Knows g s outcomes records) where
  pub knows_on : Knows g s more records
  knows_on = record {
    each = λ n k e. let is = knows.each n k e in (is.0, truth_stays g outcomes more has k.fact is.1);
    holds = λ n k e checked. stays_on g s outcomes more has k.fact (view_kept k) k.height (knows.holds n k e checked);
    closed = knows.closed;
    tight = λ n k e checked. tells_stay g s outcomes more has k (knows.holds n k e checked).high (knows.tight n k e checked);
  }

-- ---- present results

module _ (g : Graph) (s : Sources) (outcomes more : Outcomes) (has : HasMore outcomes more) where
  pub present_on : (fact : Fact) → IsPresent g s outcomes fact → IsPresent g s more fact
  present_on fact is = record {
    needs = (full_needs_stay g (text_of s) fact.node (derived g s outcomes) (derived g s more) (nodes_of (needs_in fact.deps)) (derive_more g s outcomes more has height_limit) is.needs (λ m i. has_result (derived g s outcomes) fact.deps is.seen m i)).needs;
    seen = λ d i. seen_on (derived g s outcomes) (derived g s more) (derive_more g s outcomes more has height_limit) d.node d.value (is.seen d i);
  }

  -- what is present with more outcomes was so before, where another record of its node was
  pub present_before : (fact other : Fact) → other.node ≡ fact.node → IsPresent g s outcomes fact → IsPresent g s more other → IsPresent g s outcomes other
  present_before fact other node is now =
      let on = present_on fact is in
      let same : nodes_of (needs_in other.deps) ≡ nodes_of (needs_in fact.deps) =
      one_list_of_needs g fact.node (derived g s more) (nodes_of (needs_in other.deps)) (nodes_of (needs_in fact.deps))
      (subst (λ n. Needs g n (derived g s more) (nodes_of (needs_in other.deps))) node now.needs) on.needs in
      record {
        needs = subst (λ n. Needs g n (derived g s outcomes) (nodes_of (needs_in other.deps))) (sym node) (subst (λ l. Needs g fact.node (derived g s outcomes) l) (sym same) is.needs);
        seen = λ d i.
            let e = dep_of fact.deps d.node (subst (λ l. IsIn d.node l) same (of_dep other.deps d i)) in
            let there : values_of (derived g s more) d.node ≡ Some e.0.value = ap (values_of (derived g s more)) e.2 ∙ on.seen e.0 e.1 in
            let value : e.0.value ≡ d.value = same_some (sym there ∙ now.seen d i) in
            ap (values_of (derived g s outcomes)) e.2 ∙ is.seen e.0 e.1 ∙ ap Some value;
      }
