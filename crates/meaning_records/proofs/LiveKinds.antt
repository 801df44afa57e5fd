-- Of what kinds the last items of live batches are: no other order of them is live.
use Rattle.std.proofs.Common.{◌≡◌, inl, inr, ℕ, zero, suc, ◌+◌, List, [], ◌∷◌, ◌++◌, length, map, refl, sym, ap, ap₂, ◌∙◌}
use Rattle.std.specs.FinMap as names
use Rattle.std.specs.Ordering.{nat_cmp}
use Rattle.std.specs.Cmp.Lexicographic.{slice_cmp}
use Rattle.std.proofs.lemmas.List.{map-append}
use Rattle.object_values.specs.declared.nodes.Node.{Node as PlainNode}
use Rattle.object_values.specs.declared.facts.Fresh.{Fresh}
use Rattle.object_values.specs.declared.views.Value.{Value}
use Rattle.object_values.specs.declared.calls.Call.{Call}
use Rattle.object_values.specs.declared.calls.Outcome.{Outcome}
use Rattle.object_values.specs.Texts.{Text}
use Rattle.object_values.specs.declared.items.StoredRecord.{StoredRecord}
use Rattle.object_values.specs.declared.items.Item.{Item}
use Rattle.object_values.specs.declared.items.Item.TheVariants.{Graph, Content, Put, Dropped, Kept, Node}
use Rattle.meaning_records.specs.Batches.{contents_of, AreRecordsOf}
use Rattle.meaning_records.specs.Live.{contents_after, AreBatchesOf, IsSourceBatch, IsKeptBatch, IsRecordBatch, AreLive}
use Rattle.meaning_records.specs.LiveExamples.{ex_live_named, ex_live_sources, ex_live}

-- a number of an item, by its kind and the steps of its node
abbrev kind : Item → ℕ
kind (Graph text) = 1
kind (Content value) = 2
kind (Put name number) = 3
kind (Dropped name) = 4
kind (Kept stored given) = 5
kind (Node stored) = 6 + length stored.node.steps

abbrev pub last_kind : List Item → ℕ
last_kind [] = 0
last_kind (it ∷ []) = kind it
last_kind (it ∷ other ∷ items) = last_kind (other ∷ items)

last_of : (values : List Value) (it : Item) → last_kind (map Content values ++ it ∷ []) ≡ kind it
last_of [] it = refl
last_of (v ∷ []) it = refl
last_of (v ∷ w ∷ values) it = last_of (w ∷ values) it

-- ---- one batch

put_kind : (contents : List Value) (source : Text × Text) (items : List Item) → IsSourceBatch contents source items → last_kind items ≡ 3
put_kind contents source items (inl known) = ap last_kind known.2
put_kind contents source items (inr new) = ap last_kind new.1

call_kind : (contents : List Value) (kept : Call × Outcome) (items : List Item) → IsKeptBatch contents kept items → last_kind items ≡ 5
call_kind contents kept items batch = ap last_kind batch.items_are ∙ last_of (contents_of batch.added) (Kept batch.stored batch.given)

abbrev note_number : Fresh → ℕ
note_number fresh = 6 + length fresh.fact.node.steps

note_kind : (contents : List Value) (fresh : Fresh) (items : List Item) → IsRecordBatch contents fresh items → last_kind items ≡ note_number fresh
note_kind contents fresh items batch = ap last_kind batch.items_are ∙ by batch.stored batch.records
  where
    by : (stored : List StoredRecord) → AreRecordsOf (contents ++ batch.added) stored (fresh ∷ [])
        → last_kind (map Content batch.added ++ map Node stored) ≡ note_number fresh
    by [] are = absurd are
    by (s ∷ []) are = last_of batch.added (Node s) ∙ ap (λ (n : PlainNode). 6 + length n.steps) (sym are.0.says.node)
    by (s ∷ other ∷ stored) are = absurd are.1

-- ---- all of them

-- a batch tells the number of what it is of
abbrev IsNumbered : {T : Type 0} → (List Value → T → List Item → Type 0) → (T → ℕ) → Type 0
IsNumbered {T} IsBatch number = (contents : List Value) (thing : T) (items : List Item) → IsBatch contents thing items → last_kind items ≡ number thing

module _ {T : Type 0} (IsBatch : List Value → T → List Item → Type 0) (number : T → ℕ) (step : IsNumbered IsBatch number) where
  kinds_of : (contents : List Value) (things : List T) (batches : List (List Item)) (after : List Value) → AreBatchesOf IsBatch contents things batches after
      → map last_kind batches ≡ map number things
  kinds_of contents [] [] after are = refl
  kinds_of contents [] (items ∷ batches) after are = absurd are
  kinds_of contents (thing ∷ things) [] after are = absurd are
  kinds_of contents (thing ∷ things) (items ∷ batches) after are =
      ap₂ (λ (n : ℕ) ns. n ∷ ns) (step contents thing items are.0) (kinds_of (contents_after contents items) things batches after are.1)

kinds : List ℕ
kinds = 1 ∷ 3 ∷ 3 ∷ 5 ∷ 7 ∷ 8 ∷ []

live_kinds : (batches : List (List Item)) (contents : List Value) → AreLive ex_live batches contents → map last_kind batches ≡ kinds
unfolding kinds
live_kinds batches contents are =
    let entries : names.entries ex_live_sources ≡ ex_live_named = names.entries-from_sorted (slice_cmp nat_cmp) ex_live_named tt in
    let puts : map last_kind are.puts ≡ 3 ∷ 3 ∷ [] =
    kinds_of IsSourceBatch (λ _. 3) put_kind [] (names.entries ex_live_sources) are.puts are.put are.sourced ∙ ap (map (λ (s : Text × Text). 3)) entries in
    let keeps : map last_kind are.keeps ≡ 5 ∷ [] = kinds_of IsKeptBatch (λ _. 5) call_kind are.put ex_live.calls are.keeps are.kept are.called in
    let notes : map last_kind are.notes ≡ 7 ∷ 8 ∷ [] = kinds_of IsRecordBatch note_number note_kind are.kept ex_live.records are.notes contents are.noted in
    let front : map last_kind (are.puts ++ are.keeps) ≡ 3 ∷ 3 ∷ 5 ∷ [] =
    map-append last_kind are.puts are.keeps ∙ ap₂ (λ (a : List ℕ) b. a ++ b) puts keeps in
    let all : map last_kind (are.puts ++ are.keeps ++ are.notes) ≡ 3 ∷ 3 ∷ 5 ∷ 7 ∷ 8 ∷ [] =
    map-append last_kind (are.puts ++ are.keeps) are.notes ∙ ap₂ (λ (a : List ℕ) b. a ++ b) front notes in
    ap (map last_kind) are.batches_are ∙ ap (λ (l : List ℕ). 1 ∷ l) all

-- ---- what is at a place

abbrev number_at : ℕ → List ℕ → ℕ
number_at place [] = 0
number_at zero (n ∷ numbers) = n
number_at (suc place) (n ∷ numbers) = number_at place numbers

pub kind_at : (place : ℕ) (batches : List (List Item)) (contents : List Value) → AreLive ex_live batches contents
    → number_at place (map last_kind batches) ≡ number_at place (1 ∷ 3 ∷ 3 ∷ 5 ∷ 7 ∷ 8 ∷ [])
unfolding kinds
kind_at place batches contents are = ap (number_at place) (live_kinds batches contents are)
