-- What a store's records of nodes say, while calls are kept, after an opening, and after an edit.
use Rattle.std.proofs.Common.{◌≡◌, ◌≤◌, ℕ, zero, suc, Bool, true, false, cond, List, [], ◌∷◌, length, inl, inr, refl, sym, ap, subst, ◌∙◌}
use Rattle.std.specs.Prelude.{Option, Some, None, option_map, slice_get}
use Rattle.std.specs.List.{All}
use Rattle.object_values.specs.Exact.{node_exact}
use Rattle.object_values.specs.Texts.{Texts}
use Rattle.object_values.specs.declared.facts.Fact.{Fact}
use Rattle.object_values.specs.declared.nodes.Node.{Node}
use Rattle.object_values.specs.contracts.nodes.NodePartialEq.TheImpl.{ghosts as node_eq}
use Rattle.object_values.specs.declared.records.NodeRecord.{NodeRecord}
use Rattle.object_values.specs.declared.views.Part.{Part}
use Rattle.object_values.specs.declared.views.Value.{Value}
use Rattle.object_values.specs.declared.views.Value.TheVariants.{Simple, List as Listed, Compound}
use Rattle.meaning_texts.specs.Limits.{body_limit}
use Rattle.meaning_texts.specs.Lists.{IsIn}
use Rattle.meaning_texts.proofs.Lemmas.{in_all, in_left, in_map, same_some}
use Rattle.meaning_graph.specs.Graphs.{Graph}
use Rattle.meaning_derive.specs.Premises.{IsShort as IsShortSeen}
use Rattle.meaning_records.specs.Batches.{IsNotable, fact_values, value_list}
use Rattle.meaning_records.specs.Tables.{IsShort, Tables, kept_outcome}
use Rattle.meaning_true.specs.Facts.{RecordIsTrue}
use Rattle.meaning_true.specs.Knowing.{KeptRecord, KeptRecords, Knows}
use Rattle.meaning_true.specs.Numbered.{Contents, fact_by, is_at, kept_by, records_by}
use Rattle.validator.specs.Fitting.{FactFits}
use Rattle.kept_records.specs.Records.{record_of}
use Rattle.kept_notes.specs.Facts.{fact_of, facts_of, fresh_of}
use Rattle.kept_tables.specs.Holdings.{Holding, fresh_in}
use Rattle.odin_store.specs.declared.store.Store.{Store}
use Rattle.odin_store.specs.OnDisk.{HoldsOn, KeepsNodes, held_in}
use Rattle.odin_store.specs.Stamps.{AreStampedBy, AreUnchecked}
use Rattle.odin_store.proofs.Lemmas.{unstamped_at}
use Rattle.derive_walk.specs.Keeping.{AreReadable, IsReadable}
use Rattle.derive_walk.specs.Places.{KeptPlaces}
use Rattle.kept_derive.specs.Knowing.{KnowsStore, RecordsAreTrue, StaysKnown, known_in, store_places, store_records}

-- ---- lists of facts

-- the fact of a node
abbrev pub fact_in : Node → List Fact → Option Fact
fact_in n [] = None
fact_in n (f ∷ facts) = cond (node_eq.eq n f.node) (Some f) (fact_in n facts)

-- what the records say of a node, over contents
module _ (contents : List Value) where
  abbrev by_number : Contents
  by_number number = slice_get contents number

  said_in : (records : List NodeRecord) (n : Node) → option_map (fact_by by_number) (record_of n records) ≡ fact_in n (facts_of contents records)
  said_in [] n = refl
  said_in (r ∷ records) n = by (node_eq.eq n r.node) (said_in records n)
    where
      by : (t : Bool) → option_map (fact_by by_number) (record_of n records) ≡ fact_in n (facts_of contents records)
          → option_map (fact_by by_number) (cond t (Some r) (record_of n records)) ≡ cond t (Some (fact_of contents r)) (fact_in n (facts_of contents records))
      by true rest = refl
      by false rest = rest

  said_at : (records : List NodeRecord) (place : ℕ) → option_map (fact_by by_number) (slice_get records place) ≡ slice_get (facts_of contents records) place
  said_at [] place = refl
  said_at (r ∷ records) zero = refl
  said_at (r ∷ records) (suc place) = said_at records place

pub fact_there : (contents : List Value) (records : List NodeRecord) (facts : List Fact) → facts ≡ facts_of contents records → (n : Node)
    → option_map (fact_by (λ number. slice_get contents number)) (record_of n records) ≡ fact_in n facts
fact_there contents records facts say n = said_in contents records n ∙ ap (fact_in n) (sym say)

fact_at : (contents : List Value) (records : List NodeRecord) (facts : List Fact) → facts ≡ facts_of contents records → (place : ℕ)
    → option_map (fact_by (λ number. slice_get contents number)) (slice_get records place) ≡ slice_get facts place
fact_at contents records facts say place = said_at contents records place ∙ ap (λ l. slice_get l place) (sym say)

-- ---- records of nodes

pub record_in : (n : Node) (records : List NodeRecord) (r : NodeRecord) → record_of n records ≡ Some r → IsIn r records × (r.node ≡ n)
record_in n [] r e = let no : ⊥ = cc in absurd no
record_in n (x ∷ records) r e = by (node_eq.eq n x.node) refl e (record_in n records r)
  where
    by : (t : Bool) → node_eq.eq n x.node ≡ t → cond t (Some x) (record_of n records) ≡ Some r → (record_of n records ≡ Some r → IsIn r records × (r.node ≡ n))
        → IsIn r (x ∷ records) × (r.node ≡ n)
    by true same at rest =
        let is : x ≡ r = same_some at in
        (inl (sym is), ap (λ (y : NodeRecord). y.node) (sym is) ∙ sym ((node_exact n x.node).0 same))
    by false same at rest = let there = rest at in (inr there.0, there.1)

-- the record that a kept record is by
pub kept_of : (contents : Contents) (epoch : ℕ) (o : Option NodeRecord) (k : KeptRecord) → option_map (kept_by contents epoch) o ≡ Some k
    → (r : NodeRecord) × (o ≡ Some r) × (k ≡ kept_by contents epoch r)
kept_of contents epoch None k e = let no : ⊥ = cc in absurd no
kept_of contents epoch (Some r) k e = (r, refl, sym (same_some e))

-- what says the same is the same
pub same_kept : (contents others : Contents) (epoch : ℕ) (o : Option NodeRecord) → option_map (fact_by contents) o ≡ option_map (fact_by others) o
    → option_map (kept_by contents epoch) o ≡ option_map (kept_by others epoch) o
same_kept contents others epoch None e = refl
same_kept contents others epoch (Some r) e =
    let same = same_some e in
    λ i. Some (record {
      fact = same i;
      status = r.present.status;
      messages = r.present.messages;
      height = r.present.height;
      tight = r.present.tight;
      checked = is_at epoch r.checked;
    })

-- ---- stores

-- its records say its facts
abbrev pub SaysFacts : Store → Type 0
SaysFacts store = store.kept.tables.records ≡ facts_of store.kept.tables.contents store.kept.records.records

-- as its tables say it
pub says_facts : (store : Store) (kept : Holding) → kept ≡ store.kept → kept.tables.records ≡ facts_of kept.tables.contents kept.records.records
    → SaysFacts store
says_facts store kept is = subst (λ (k : Holding). k.tables.records ≡ facts_of k.tables.contents k.records.records) is

abbrev pub contents_in : Store → Contents
contents_in store number = slice_get store.kept.tables.contents number

module _ (old new : Store) (said : SaysFacts old) (says : SaysFacts new) (nodes : KeepsNodes old new)
    (facts : new.kept.tables.records ≡ old.kept.tables.records) where
  same_said : (n : Node) → option_map (fact_by (contents_in new)) (record_of n old.kept.records.records)
      ≡ option_map (fact_by (contents_in old)) (record_of n old.kept.records.records)
  same_said n =
      ap (λ l. option_map (fact_by (contents_in new)) (record_of n l)) (sym nodes)
      ∙ fact_there new.kept.tables.contents new.kept.records.records new.kept.tables.records says n
      ∙ ap (fact_in n) facts
      ∙ sym (fact_there old.kept.tables.contents old.kept.records.records old.kept.tables.records said n)

  -- at any epoch
  records_at : (epoch : ℕ) (n : Node) → option_map (kept_by (contents_in new) epoch) (record_of n new.kept.records.records)
      ≡ option_map (kept_by (contents_in old) epoch) (record_of n old.kept.records.records)
  records_at epoch n =
      ap (λ l. option_map (kept_by (contents_in new) epoch) (record_of n l)) nodes
      ∙ same_kept (contents_in new) (contents_in old) epoch (record_of n old.kept.records.records) (same_said n)

  -- What is kept of nodes stays while it is not noted anew.
  pub records_stay : new.epoch ≡ old.epoch → ◌≡◌ {A = KeptRecords} (store_records new) (store_records old)
  records_stay epoch = λ i. λ n. (ap (λ e. option_map (kept_by (contents_in new) e) (record_of n new.kept.records.records)) epoch ∙ records_at old.epoch n) i

  -- ---- the record at each place

  same_placed : (place : ℕ) → option_map (fact_by (contents_in new)) (slice_get old.kept.records.records place)
      ≡ option_map (fact_by (contents_in old)) (slice_get old.kept.records.records place)
  same_placed place =
      ap (λ l. option_map (fact_by (contents_in new)) (slice_get l place)) (sym nodes)
      ∙ fact_at new.kept.tables.contents new.kept.records.records new.kept.tables.records says place
      ∙ ap (λ l. slice_get l place) facts
      ∙ sym (fact_at old.kept.tables.contents old.kept.records.records old.kept.tables.records said place)

  placed_at : (epoch : ℕ) (place : ℕ) → option_map (kept_by (contents_in new) epoch) (slice_get new.kept.records.records place)
      ≡ option_map (kept_by (contents_in old) epoch) (slice_get old.kept.records.records place)
  placed_at epoch place =
      ap (λ l. option_map (kept_by (contents_in new) epoch) (slice_get l place)) nodes
      ∙ same_kept (contents_in new) (contents_in old) epoch (slice_get old.kept.records.records place) (same_placed place)

  -- It stays there.
  pub places_stay : new.epoch ≡ old.epoch → ◌≡◌ {A = KeptPlaces} (store_places new) (store_places old)
  places_stay epoch = λ i. λ place. (ap (λ e. option_map (kept_by (contents_in new) e) (slice_get new.kept.records.records place)) epoch
      ∙ placed_at old.epoch place) i

-- ---- records that may be kept

short_seen : (v : Value) → IsShort v → IsShortSeen v
short_seen (Simple text) short = short
short_seen (Listed nodes) short = tt
short_seen (Compound parts) short = in_all (λ (p : Part). length p.body ≤ body_limit) parts short

module _ (g : Graph) (store : Store) (say : SaysFacts store) (may : All IsNotable (fresh_in store.kept))
    (fit : All (FactFits g) store.kept.tables.records) where
  readable : (n : Node) (k : KeptRecord) (r : NodeRecord) → record_of n store.kept.records.records ≡ Some r → k ≡ kept_by (contents_in store) store.epoch r
      → IsReadable g n k
  readable n k r at is =
      let there = record_in n store.kept.records.records r at in
      let notable = in_all IsNotable (fresh_in store.kept) may (fresh_of store.kept.tables.contents r)
      (in_map (fresh_of store.kept.tables.contents) r store.kept.records.records there.0) in
      let fits = in_all (FactFits g) store.kept.tables.records fit (fact_of store.kept.tables.contents r)
      (subst (λ l. IsIn (fact_of store.kept.tables.contents r) l) (sym say) (in_map (fact_of store.kept.tables.contents) r store.kept.records.records
      there.0)) in
      subst (IsReadable g n) (sym is) (record {
        is = there.1;
        fits = fits;
        short = λ v e. short_seen v (in_all IsShort (fact_values (fact_of store.kept.tables.contents r)) notable.short v
            (own_value (fact_of store.kept.tables.contents r) v e));
        least = notable.least;
        most = notable.most;
        valued = notable.valued;
      })
    where
      own_value : (fact : Fact) (v : Value) → fact.value ≡ Some v → IsIn v (fact_values fact)
      own_value fact v e = in_left v (value_list fact.value) _ (subst (λ o. IsIn v (value_list o)) (sym e) (inl refl))

  -- What is kept of nodes may be kept, true or not.
  pub readable_of : AreReadable g (store_records store)
  readable_of n k e =
      let r = kept_of (contents_in store) store.epoch (record_of n store.kept.records.records) k e in
      readable n k r.0 r.1 r.2

-- ---- what is known where nothing is checked

module _ (store : Store)
    (unchecked : (n : Node) (r : NodeRecord) → record_of n store.kept.records.records ≡ Some r → is_at store.epoch r.checked ≡ false) where
  not_checked : (n : Node) (k : KeptRecord) → store_records store n ≡ Some k → k.checked ≡ true → ⊥
  not_checked n k e checked =
      let r = kept_of (contents_in store) store.epoch (record_of n store.kept.records.records) k e in
      let no = unchecked n r.0 r.1 in
      let is : k.checked ≡ is_at store.epoch r.0.checked = ap (λ (x : KeptRecord). x.checked) r.2 in
      cc

  known_by_truth : (g : Graph) → ((n : Node) (k : KeptRecord) → store_records store n ≡ Some k → (k.fact.node ≡ n) × RecordIsTrue g (known_in store) k.fact)
      → KnowsStore g store
  known_by_truth g each = record {
    each = each;
    holds = λ n k e checked. absurd (not_checked n k e checked);
    closed = λ n k e checked. absurd (not_checked n k e checked);
    tight = λ n k e checked. absurd (not_checked n k e checked);
  }

-- Once a store is opened all is known where what it holds of nodes is true.
pub known_at_first : (g : Graph) (store : Store) → SaysFacts store → AreUnchecked store.kept.records.records → RecordsAreTrue g (held_in store)
    → KnowsStore g store
known_at_first g store say unchecked truth = known_by_truth store none g each
  where
    none : (n : Node) (r : NodeRecord) → record_of n store.kept.records.records ≡ Some r → is_at store.epoch r.checked ≡ false
    none n r at = ap (is_at store.epoch) (in_all (λ (x : NodeRecord). x.checked
        ≡ None) store.kept.records.records unchecked r (record_in n store.kept.records.records r at).0)

    each : (n : Node) (k : KeptRecord) → store_records store n ≡ Some k → (k.fact.node ≡ n) × RecordIsTrue g (known_in store) k.fact
    each n k e =
        let r = kept_of (contents_in store) store.epoch (record_of n store.kept.records.records) k e in
        let there = record_in n store.kept.records.records r.0 r.1 in
        let fact = fact_of store.kept.tables.contents r.0 in
        let is = in_all (RecordIsTrue g (known_in store)) store.kept.tables.records truth fact
        (subst (λ l. IsIn fact l) (sym say) (in_map (fact_of store.kept.tables.contents) r.0 store.kept.records.records there.0)) in
        subst (λ (x : KeptRecord). (x.fact.node ≡ n) × RecordIsTrue g (known_in store) x.fact) (sym r.2) (there.1, is)

-- What is known of the records at an epoch is at the next one, at which none is checked.
pub known_after_edit : (old new : Store) → SaysFacts old → SaysFacts new → AreStampedBy old.epoch old.kept.records.records → KeepsNodes old new
    → new.kept.tables.calls ≡ old.kept.tables.calls → new.kept.tables.records ≡ old.kept.tables.records → new.epoch ≡ suc old.epoch → StaysKnown old new
known_after_edit old new said says stamped nodes calls facts epoch g known = known_by_truth new none g each
  where
    none : (n : Node) (r : NodeRecord) → record_of n new.kept.records.records ≡ Some r → is_at new.epoch r.checked ≡ false
    none n r at = ap (λ e. is_at e r.checked) epoch ∙ unstamped_at old.epoch n old.kept.records.records r stamped (ap (record_of n) (sym nodes) ∙ at)

    each : (n : Node) (k : KeptRecord) → store_records new n ≡ Some k → (k.fact.node ≡ n) × RecordIsTrue g (known_in new) k.fact
    each n k e =
        let r = kept_of (contents_in new) new.epoch (record_of n new.kept.records.records) k e in
        let before = ap (record_of n) (sym nodes) ∙ r.1 in
        let same : fact_by (contents_in new) r.0 ≡ fact_by (contents_in old) r.0 =
        same_some (ap (option_map (fact_by (contents_in new))) (sym before) ∙ same_said old new said says nodes facts n
        ∙ ap (option_map (fact_by (contents_in old))) before) in
        let is = known.each n (kept_by (contents_in old) old.epoch r.0) (ap (option_map (kept_by (contents_in old) old.epoch)) before) in
        subst (λ (x : Fact). (x.node ≡ n) × RecordIsTrue g (known_in new) x) (sym (ap (λ (x : KeptRecord). x.fact) r.2 ∙ same))
        (is.0, subst (λ l. RecordIsTrue g (kept_outcome l) (fact_by (contents_in old) r.0)) (sym calls) is.1)

-- And all that is known is where nothing changed.
pub known_same : (old new : Store) → HoldsOn old new → KeepsNodes old new → StaysKnown old new
known_same old new same nodes g known =
    subst (λ (z : Tables × List NodeRecord × ℕ × Texts). Knows g z.3 (kept_outcome z.0.calls)
    (records_by (λ number. slice_get z.0.contents number) z.2 (λ n. record_of n z.1)))
    (λ i. (sym same.tables i, sym nodes i, sym same.epoch i, sym same.sources i)) known
