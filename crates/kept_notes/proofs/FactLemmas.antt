-- What records say over contents, while contents come after the others and records are put and renewed.
use Rattle.std.proofs.Common.{◌∙◌, ◌≡◌, ◌≤◌, ◌<◌, ℕ, zero, suc, Bool, true, false, cond, List, [], ◌∷◌, ◌++◌, length, map, ap, refl, arith}
use Rattle.std.specs.Prelude.{Option, Some, None, slice_get}
use Rattle.std.specs.List.{All}
use Rattle.std.proofs.lemmas.List.Elements.{All-cons, All-head, All-tail, All-weaker}
use Rattle.object_values.specs.contracts.nodes.NodePartialEq.TheImpl.{ghosts as node_eq}
use Rattle.object_values.specs.declared.nodes.Node.{Node}
use Rattle.object_values.specs.declared.records.Dep.{Dep}
use Rattle.object_values.specs.declared.records.NodeRecord.{NodeRecord}
use Rattle.object_values.specs.declared.records.Renewed.{Renewed}
use Rattle.object_values.specs.declared.records.Seen.{Seen}
use Rattle.object_values.specs.declared.records.Seen.TheVariants.{Nothing, Kept, New}
use Rattle.object_values.specs.declared.facts.Fact.{Fact}
use Rattle.object_values.specs.declared.views.Value.{Value}
use Rattle.meaning_records.specs.Tables.{put_fact, put_facts}
use Rattle.kept_records.specs.Records.{put_record, put_records, record_of, renew_record, renewed}
use Rattle.meaning_true.specs.Numbered.{value_at, value_seen}
use Rattle.kept_notes.specs.Facts.{IsNumberIn, IsRecordIn, IsSeenIn, contents_by, dep_of, fact_of, facts_of}

-- ---- contents more

pub get_stays : (contents more : List Value) (number : ℕ) → number < length contents → slice_get (contents ++ more) number ≡ slice_get contents number
get_stays [] more number within = absurd (omega (arith, within))
get_stays (c ∷ contents) more zero within = refl
get_stays (c ∷ contents) more (suc number) within = get_stays contents more number (omega (arith, within))

module _ (contents more : List Value) where
  value_stays : (number : Option ℕ) → IsNumberIn (length contents) number → value_at (contents_by (contents ++ more)) number ≡ value_at (contents_by contents) number
  value_stays None within = refl
  value_stays (Some number) within = get_stays contents more number within

  seen_stays : (seen : Seen) → IsSeenIn (length contents) seen → value_seen (contents_by (contents ++ more)) seen ≡ value_seen (contents_by contents) seen
  seen_stays Nothing within = refl
  seen_stays (Kept number) within = get_stays contents more number within
  seen_stays New within = absurd within

  deps_stay : (deps : List Dep) → All (λ (d : Dep). IsSeenIn (length contents) d.seen) deps → map (dep_of (contents ++ more)) deps ≡ map (dep_of contents) deps
  deps_stay [] within = refl
  deps_stay (d ∷ deps) within =
      let here = seen_stays d.seen (All-head (λ (x : Dep). IsSeenIn (length contents) x.seen) d deps within) in
      let rest = deps_stay deps (All-tail (λ (x : Dep). IsSeenIn (length contents) x.seen) d deps within) in
      λ i. record { node = d.node; role = d.role; value = here i } ∷ rest i

  pub fact_stays : (r : NodeRecord) → IsRecordIn (length contents) r → fact_of (contents ++ more) r ≡ fact_of contents r
  fact_stays r within =
      let deps = deps_stay r.deps within.deps in
      let value = value_stays r.value within.value in
      λ i. record { node = r.node; deps = deps i; value = value i; own_status = r.own_status; own_messages = r.own_messages }

  pub facts_stay : (records : List NodeRecord) → All (IsRecordIn (length contents)) records → facts_of (contents ++ more) records ≡ facts_of contents records
  facts_stay [] within = refl
  facts_stay (r ∷ records) within =
      let here = fact_stays r (All-head (IsRecordIn (length contents)) r records within) in
      let rest = facts_stay records (All-tail (IsRecordIn (length contents)) r records within) in
      λ i. here i ∷ rest i

module _ (count most : ℕ) (le : count ≤ most) where
  number_later : (number : Option ℕ) → IsNumberIn count number → IsNumberIn most number
  number_later None within = tt
  number_later (Some number) within = omega (arith, le, within)

  seen_later : (seen : Seen) → IsSeenIn count seen → IsSeenIn most seen
  seen_later Nothing within = tt
  seen_later (Kept number) within = omega (arith, le, within)
  seen_later New within = absurd within

  pub record_later : (r : NodeRecord) → IsRecordIn count r → IsRecordIn most r
  record_later r within = record {
    deps = All-weaker (λ (d : Dep). IsSeenIn count d.seen) (λ (d : Dep). IsSeenIn most d.seen) (λ d. seen_later d.seen) r.deps within.deps;
    value = number_later r.value within.value;
  }

  pub records_later : (records : List NodeRecord) → All (IsRecordIn count) records → All (IsRecordIn most) records
  records_later records within = All-weaker (IsRecordIn count) (IsRecordIn most) record_later records within

-- ---- records that are put and renewed

module _ (contents : List Value) where
  pub facts_put : (noted : NodeRecord) (records : List NodeRecord)
      → facts_of contents (put_record noted records) ≡ put_fact (fact_of contents noted) (facts_of contents records)
  facts_put noted [] = refl
  facts_put noted (r ∷ records) = by (node_eq.eq noted.node r.node) (facts_put noted records)
    where
      by : (t : Bool) → facts_of contents (put_record noted records) ≡ put_fact (fact_of contents noted) (facts_of contents records)
          → facts_of contents (cond t (noted ∷ records) (r ∷ put_record noted records))
          ≡ cond t (fact_of contents noted ∷ facts_of contents records) (fact_of contents r ∷ put_fact (fact_of contents noted) (facts_of contents records))
      by true rest = refl
      by false rest = ap (λ (l : List Fact). fact_of contents r ∷ l) rest

  pub facts_put_all : (notes records : List NodeRecord)
      → facts_of contents (put_records notes records) ≡ put_facts (facts_of contents notes) (facts_of contents records)
  facts_put_all [] records = refl
  facts_put_all (noted ∷ notes) records =
      facts_put_all notes (put_record noted records) ∙ ap (λ (l : List Fact). put_facts (facts_of contents notes) l) (facts_put noted records)

  pub facts_renewed : (node : Node) (present : Renewed) (epoch : ℕ) (records : List NodeRecord)
      → facts_of contents (renew_record node present epoch records) ≡ facts_of contents records
  facts_renewed node present epoch [] = refl
  facts_renewed node present epoch (r ∷ records) = by (node_eq.eq node r.node) (facts_renewed node present epoch records)
    where
      by : (t : Bool) → facts_of contents (renew_record node present epoch records) ≡ facts_of contents records
          → facts_of contents (cond t (renewed present epoch r ∷ records) (r ∷ renew_record node present epoch records))
          ≡ fact_of contents r ∷ facts_of contents records
      by true rest = refl
      by false rest = ap (λ (l : List Fact). fact_of contents r ∷ l) rest

-- what is so of each record
module _ (P : NodeRecord → Type 0) where
  pub put_all : (noted : NodeRecord) (records : List NodeRecord) → P noted → All P records → All P (put_record noted records)
  put_all noted [] here all = All-cons P noted [] here all
  put_all noted (r ∷ records) here all = by (node_eq.eq noted.node r.node) (put_all noted records here (All-tail P r records all))
    where
      by : (t : Bool) → All P (put_record noted records) → All P (cond t (noted ∷ records) (r ∷ put_record noted records))
      by true rest = All-cons P noted records here (All-tail P r records all)
      by false rest = All-cons P r (put_record noted records) (All-head P r records all) rest

  pub put_all_all : (notes records : List NodeRecord) → All P notes → All P records → All P (put_records notes records)
  put_all_all [] records some all = all
  put_all_all (noted ∷ notes) records some all =
      put_all_all notes (put_record noted records) (All-tail P noted notes some) (put_all noted records (All-head P noted notes some) all)

  pub renewed_all : (node : Node) (present : Renewed) (epoch : ℕ) (records : List NodeRecord)
      → ((r : NodeRecord) → record_of node records ≡ Some r → P r → P (renewed present epoch r)) → All P records → All P (renew_record node present epoch records)
  renewed_all node present epoch [] renews all = all
  renewed_all node present epoch (r ∷ records) renews all = by (node_eq.eq node r.node) refl (renewed_all node present epoch records)
    where
      by : (t : Bool) → node_eq.eq node r.node ≡ t
          → (((x : NodeRecord) → record_of node records ≡ Some x → P x → P (renewed present epoch x)) → All P records → All P (renew_record node present epoch records))
          → All P (cond t (renewed present epoch r ∷ records) (r ∷ renew_record node present epoch records))
      by true e rest = All-cons P (renewed present epoch r) records
          (renews r (ap (λ t. cond t (Some r) (record_of node records)) e) (All-head P r records all)) (All-tail P r records all)
      by false e rest = All-cons P r (renew_record node present epoch records) (All-head P r records all)
          (rest (λ x at. renews x (ap (λ t. cond t (Some r) (record_of node records)) e ∙ at)) (All-tail P r records all))
