-- Records of nodes, while contents come after the others and records are noted.
use Rattle.std.proofs.Common.{◌≡◌, ◌∙◌, ℕ, Bool, true, false, cond, List, [], ◌∷◌, ◌++◌, length, map, sym, ap, subst, refl}
use Rattle.std.specs.Prelude.{IfSome, OnErr, OnOk, Option, Some, None, Result, Ok, Err, option_map, slice_get}
use Rattle.std.specs.List.{All}
use Rattle.std.proofs.lemmas.List.Elements.{All-append, All-cons, All-head, All-nil, All-tail}
use Rattle.object_values.specs.declared.facts.Fresh.{Fresh}
use Rattle.object_values.specs.contracts.nodes.NodePartialEq.TheImpl.{ghosts as node_eq}
use Rattle.object_values.specs.declared.nodes.Node.{Node}
use Rattle.object_values.specs.declared.records.NodeRecord.{NodeRecord}
use Rattle.object_values.specs.declared.records.Renewed.{Renewed}
use Rattle.object_values.specs.declared.views.Value.{Value}
use Rattle.meaning_records.specs.Batches.{IsNotable}
use Rattle.meaning_records.specs.Tables.{Calls, IsShort, Tables, with_content}
use Rattle.kept_records.specs.Laws.{nodes_of}
use Rattle.kept_records.specs.Records.{put_record, put_records, record_of, renew_record}
use Rattle.kept_notes.specs.Facts.{IsNotedIn, IsRecordIn, facts_of, fresh_of}
use Rattle.kept_notes.proofs.Lemmas.{all_named, all_notable, all_noted, all_noted_stay, facts_stay, put_all, put_all_all, renewed_all, renewed_noted}
use Rattle.kept_tables.specs.Holdings.{AreNotedIn, Holding, MayRenew}
use Rattle.kept_tables.proofs.CopyLemmas.{all_at}

-- ---- contents more

module _ (old new : List Value) (records : List NodeRecord) where
  pub records_as : new ≡ old → AreNotedIn old records → AreNotedIn new records
  records_as same noted = subst (λ (l : List Value). AreNotedIn l records) (sym same) noted

  module _ (more : List Value) (grown : new ≡ old ++ more) where
    pub records_more : All IsShort more → AreNotedIn old records → AreNotedIn new records
    records_more short noted = subst (λ (l : List Value). AreNotedIn l records) (sym grown) (record {
      short = All-append IsShort old more noted.short short;
      noted = all_noted_stay old more records noted.noted;
    })

    pub facts_more : AreNotedIn old records → facts_of new records ≡ facts_of old records
    facts_more noted = ap (λ (l : List Value). facts_of l records) grown ∙ facts_stay old more records (all_named old records noted.noted)

    pub tables_more : AreNotedIn old records → (calls : Calls)
        → ◌≡◌ {A = Tables} (record { contents = new; calls = calls; records = facts_of new records })
        (record { contents = old ++ more; calls = calls; records = facts_of old records })
    tables_more noted calls = let facts = facts_more noted in λ i. record { contents = grown i; calls = calls; records = facts i }

-- ---- where one content may have come after the others

module _ (old new : List Value) (records : List NodeRecord) (value : Value) {T E : Type 0} where
  pub added_or_same : (r : Result T E) → IsShort value → OnOk r (new ≡ old ++ value ∷ []) → OnErr r (new ≡ old) → AreNotedIn old records → AreNotedIn new records
  added_or_same (Ok x) short grown same noted = records_more old new records (value ∷ []) grown (All-cons IsShort value [] short (All-nil IsShort)) noted
  added_or_same (Err e) short grown same noted = records_as old new records same noted

  pub facts_added : (r : Result T E) → OnOk r (new ≡ old ++ value ∷ []) → AreNotedIn old records
      → (calls : Calls) (tables : Tables) → ◌≡◌ {A = Tables} (record { contents = old; calls = calls; records = facts_of old records }) tables
      → OnOk r (◌≡◌ {A = Tables} (record { contents = new; calls = calls; records = facts_of new records }) (with_content value tables))
  facts_added (Ok x) grown noted calls tables are =
      tables_more old new records (value ∷ []) grown noted calls ∙ ap (λ (t : Tables). with_content value t) are
  facts_added (Err e) grown noted calls tables are = tt

-- ---- records more

module _ (contents : List Value) where
  pub none_noted : (records : List NodeRecord) → AreNotedIn contents records → AreNotedIn contents []
  none_noted records noted = record { short = noted.short; noted = All-nil (IsNotedIn contents) }

  pub note_put : (noted : NodeRecord) (records : List NodeRecord) → IsNotedIn contents noted → AreNotedIn contents records → AreNotedIn contents (put_record noted records)
  note_put noted records here are = record { short = are.short; noted = put_all (IsNotedIn contents) noted records here are.noted }

  pub notes_put : (notes records : List NodeRecord) → All (IsNotedIn contents) notes → AreNotedIn contents records → AreNotedIn contents (put_records notes records)
  notes_put notes records some are = record { short = are.short; noted = put_all_all (IsNotedIn contents) notes records some are.noted }

pub renewed_in : (kept : Holding) (node : Node) (present : Renewed) (epoch : ℕ) → MayRenew kept node present
    → AreNotedIn kept.tables.contents kept.records.records → AreNotedIn kept.tables.contents (renew_record node present epoch kept.records.records)
renewed_in kept node present epoch may are = record {
  short = are.short;
  noted = renewed_all (IsNotedIn kept.tables.contents) node present epoch kept.records.records
      (λ r at is. renewed_noted kept.tables.contents present epoch r may.least may.most (may.valued r at) is) are.noted;
}

-- nothing is noted over nothing
pub nothing_noted : AreNotedIn [] []
nothing_noted = record { short = All-nil IsShort; noted = All-nil (IsNotedIn []) }

-- ---- the record of a node

-- what is true of each record is so of that of a node
record_all : (P : NodeRecord → Type 0) (node : Node) (records : List NodeRecord) → All P records → IfSome (record_of node records) P
record_all P node [] all = tt
record_all P node (r ∷ records) all = by (node_eq.eq node r.node) (record_all P node records (All-tail P r records all))
  where
    by : (t : Bool) → IfSome (record_of node records) P → IfSome (cond t (Some r) (record_of node records)) P
    by true rest = All-head P r records all
    by false rest = rest

some_by : {A B : Type 0} (f : A → B) (P : B → Type 0) (found : Option A) (o : Option B) → option_map f found ≡ o → IfSome o P → IfSome found (λ x. P (f x))
some_by f P None o same holds = tt
some_by f P (Some x) o same holds = subst (λ q. IfSome q P) (sym same) holds

pub found_named : {A : Type 0} (f : A → NodeRecord) (contents : List Value) (node : Node) (records : List NodeRecord) (found : Option A)
    → option_map f found ≡ record_of node records → AreNotedIn contents records → IfSome found (λ x. IsRecordIn (length contents) (f x))
found_named f contents node records found same noted =
    some_by f (IsRecordIn (length contents)) found (record_of node records) same
    (record_all (IsRecordIn (length contents)) node records (all_named contents records noted.noted))

pub placed_named : {A : Type 0} (f : A → NodeRecord) (contents : List Value) (place : ℕ) (records : List NodeRecord) (found : Option A)
    → option_map f found ≡ slice_get records place → AreNotedIn contents records → IfSome found (λ x. IsRecordIn (length contents) (f x))
placed_named f contents place records None same noted = tt
placed_named f contents place records (Some x) same noted =
    all_at (IsRecordIn (length contents)) records place (f x) (all_named contents records noted.noted) (sym same)

-- ---- records by other numbers

abbrev nodes_in : List Fresh → List Node
nodes_in = map (λ (f : Fresh). f.fact.node)

fresh_nodes : (contents : List Value) (records : List NodeRecord) → nodes_in (map (fresh_of contents) records) ≡ nodes_of records
fresh_nodes contents [] = refl
fresh_nodes contents (r ∷ records) = ap (λ (l : List Node). r.node ∷ l) (fresh_nodes contents records)

pub same_nodes : (old new : List Value) (records notes : List NodeRecord) → map (fresh_of new) notes ≡ map (fresh_of old) records → nodes_of notes ≡ nodes_of records
same_nodes old new records notes same = sym (fresh_nodes new notes) ∙ ap nodes_in same ∙ fresh_nodes old records

fresh_facts : (contents : List Value) (records : List NodeRecord) → map (λ (f : Fresh). f.fact) (map (fresh_of contents) records) ≡ facts_of contents records
fresh_facts contents [] = refl
fresh_facts contents (r ∷ records) = ap (λ l. (fresh_of contents r).fact ∷ l) (fresh_facts contents records)

pub same_facts : (old new : List Value) (records notes : List NodeRecord) → map (fresh_of new) notes ≡ map (fresh_of old) records → facts_of new notes ≡ facts_of old records
same_facts old new records notes same = sym (fresh_facts new notes) ∙ ap (map (λ (f : Fresh). f.fact)) same ∙ fresh_facts old records

pub copied_noted : (old new : List Value) (records notes : List NodeRecord) → map (fresh_of new) notes ≡ map (fresh_of old) records → All IsShort new
    → All (IsRecordIn (length new)) notes → AreNotedIn old records → AreNotedIn new notes
copied_noted old new records notes same short named are = record {
  short = short;
  noted = all_noted new notes named (subst (All IsNotable) (sym same) (all_notable old records are.noted));
}
