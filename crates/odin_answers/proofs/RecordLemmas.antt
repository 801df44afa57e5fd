-- The facts of records that are checked.
use Rattle.std.proofs.Common.{◌≡◌, ℕ, Bool, true, false, cond, List, [], ◌∷◌, inl, inr, refl, sym, ap, ◌∙◌}
use Rattle.std.specs.Prelude.{Option, Some, None, option_map, slice_get}
use Rattle.object_values.specs.Exact.{node_exact}
use Rattle.object_values.specs.declared.facts.Fact.{Fact}
use Rattle.object_values.specs.declared.nodes.Node.{Node}
use Rattle.object_values.specs.contracts.nodes.NodePartialEq.TheImpl.{ghosts as node_eq}
use Rattle.object_values.specs.declared.records.NodeRecord.{NodeRecord}
use Rattle.meaning_texts.specs.Lists.{IsIn}
use Rattle.meaning_texts.proofs.Lemmas.{same_some}
use Rattle.meaning_true.specs.Knowing.{KeptRecord, IsChecked}
use Rattle.meaning_true.specs.Numbered.{Contents, fact_by, kept_by}
use Rattle.odin_store.specs.declared.store.Store.{Store}
use Rattle.kept_derive.specs.Knowing.{store_records}
use Rattle.kept_derive.proofs.Lemmas.{SaysFacts, fact_in, fact_there}
use Rattle.odin_answers.specs.Answers.{HasFact}

-- the fact of a node is one of the facts
in_facts : (n : Node) (facts : List Fact) (f : Fact) → fact_in n facts ≡ Some f → IsIn f facts × (f.node ≡ n)
in_facts n [] f at = let no : ⊥ = cc in absurd no
in_facts n (x ∷ facts) f at = by (node_eq.eq n x.node) refl at (in_facts n facts f)
  where
    by : (t : Bool) → node_eq.eq n x.node ≡ t → cond t (Some x) (fact_in n facts) ≡ Some f
        → (fact_in n facts ≡ Some f → IsIn f facts × (f.node ≡ n)) → IsIn f (x ∷ facts) × (f.node ≡ n)
    by true same there rest =
        let is : x ≡ f = same_some there in
        (inl (sym is), ap (λ (y : Fact). y.node) (sym is) ∙ sym ((node_exact n x.node).0 same))
    by false same there rest = let more = rest there in (inr more.0, more.1)

-- what a record says that is kept
fact_told : (contents : Contents) (epoch : ℕ) (o : Option NodeRecord) (k : KeptRecord) → option_map (kept_by contents epoch) o ≡ Some k
    → option_map (fact_by contents) o ≡ Some k.fact
fact_told contents epoch None k is = let no : ⊥ = cc in absurd no
fact_told contents epoch (Some r) k is = ap (λ (x : KeptRecord). Some x.fact) (same_some is)

-- A node whose record is checked has a fact in the tables.
pub checked_fact : (store : Store) → SaysFacts store → (n : Node) → IsChecked (store_records store) n → HasFact n store.kept.tables.records
checked_fact store say n checked =
    let contents = store.kept.tables.contents in
    let there = in_facts n store.kept.tables.records checked.kept.fact
    (sym (fact_there contents store.kept.records.records store.kept.tables.records say n)
    ∙ fact_told (λ number. slice_get contents number) store.epoch _ checked.kept checked.is) in
    record { fact = checked.kept.fact; there = there.0; is = there.1 }
