-- What a copy of what is kept has: its contents are short, each node stands once, and its records say what was noted.
use Rattle.std.proofs.Common.{◌≡◌, ◌∙◌, ◌+◌, ◌<◌, ℕ, zero, suc, List, [], ◌∷◌, ◌++◌, length, map, take, append-nil, append_assoc, ap, sym, subst, refl, arith}
use Rattle.std.specs.Prelude.{Option, Some, None, slice_get}
use Rattle.std.specs.List.{All}
use Rattle.std.proofs.lemmas.List.{map-append, take_more}
use Rattle.std.proofs.lemmas.List.Elements.{All-head, All-nil, All-push, All-tail}
use Rattle.std.proofs.lemmas.Option.{get_or_from_slice_get, none-some, same_Some, slice_get_within}
use Rattle.object_values.specs.declared.facts.Fact.{Fact}
use Rattle.object_values.specs.declared.facts.Fresh.{Fresh}
use Rattle.object_values.specs.declared.items.Item.{Item}
use Rattle.object_values.specs.declared.items.Item.TheVariants.{Graph, Content, Put, Dropped, Kept, Node}
use Rattle.object_values.specs.declared.nodes.Node.{Node as NodeValue}
use Rattle.object_values.specs.declared.records.NodeRecord.{NodeRecord}
use Rattle.object_values.specs.declared.views.Value.{Value}
use Rattle.meaning_records.specs.Batches.{facts_of as facts_in}
use Rattle.meaning_records.specs.States.{State, nothing, ReadsAll, TakesAll}
use Rattle.meaning_records.specs.Tables.{IsShort, Loads, Tables, put_facts}
use Rattle.kept_records.specs.Records.{EachNodeOnce, node_at, put_records, record_of}
use Rattle.kept_records.proofs.Lemmas.{nowhere_none, put_last}
use Rattle.kept_notes.specs.Facts.{IsRecordIn, fact_of, facts_of, fresh_of}
use Rattle.kept_notes.proofs.Lemmas.{all_fresh_stay, facts_put_all, within_stays}
use Rattle.kept_contents.proofs.Lemmas.{mapped}
use Rattle.kept_tables.specs.Batching.{IsCopied}
use Rattle.kept_tables.specs.Live.{AreCopied, epochs_of}

-- ---- what is read has short contents

loads_short : (old : Tables) (it : Item) (new : Tables) → Loads old it new → All IsShort old.contents → All IsShort new.contents
loads_short old (Graph text) new l all = subst (λ (t : Tables). All IsShort t.contents) (sym l) all
loads_short old (Content value) new l all = subst (λ (t : Tables). All IsShort t.contents) (sym l.1) (All-push IsShort old.contents value all l.0)
loads_short old (Put name number) new l all = subst (λ (t : Tables). All IsShort t.contents) (sym l.2) all
loads_short old (Dropped name) new l all = subst (λ (t : Tables). All IsShort t.contents) (sym l.1) all
loads_short old (Kept stored given) new l all = subst (λ (t : Tables). All IsShort t.contents) (sym l.3) all
loads_short old (Node stored) new l all = subst (λ (t : Tables). All IsShort t.contents) (sym l.2) all

takes_short : (old : State) (items : List Item) (new : State) → TakesAll old items new → All IsShort old.tables.contents → All IsShort new.tables.contents
takes_short old [] new t all = subst (λ (s : State). All IsShort s.tables.contents) (sym t) all
takes_short old (it ∷ items) new t all = takes_short t.0 items new t.2 (loads_short old.tables it t.0.tables t.1.loads all)

all_short : (old : State) (payloads : List (List ℕ)) (new : State) → ReadsAll old payloads new → All IsShort old.tables.contents → All IsShort new.tables.contents
all_short old [] new r all = subst (λ (s : State). All IsShort s.tables.contents) (sym r) all
all_short old (payload ∷ payloads) new r all = all_short r.0 payloads new r.2 (takes_short old r.1.items r.0 r.1.taken all)

pub reads_short : (payloads : List (List ℕ)) (new : State) → ReadsAll nothing payloads new → All IsShort new.tables.contents
reads_short payloads new r = all_short nothing payloads new r (All-nil IsShort)

-- ---- noted one after another, records of which each is of another node stand as they are

at_before : (done rest : List NodeRecord) (i : ℕ) (node : NodeValue) → node_at done i ≡ Some node → (node_at (done ++ rest) i ≡ Some node) × (i < length done)
at_before [] rest i node at = absurd (none-some node at)
at_before (d ∷ done) rest zero node at = (at, omega arith)
at_before (d ∷ done) rest (suc i) node at = let b = at_before done rest i node at in let lt = b.1 in (b.0, omega (arith, lt))

at_end : (done rest : List NodeRecord) (r : NodeRecord) → node_at (done ++ r ∷ rest) (length done) ≡ Some r.node
at_end [] rest r = refl
at_end (d ∷ done) rest r = at_end done rest r

put_behind : (done rest : List NodeRecord) → EachNodeOnce (done ++ rest) → put_records rest done ≡ done ++ rest
put_behind done [] once = sym (append-nil done)
put_behind done (r ∷ rest) once =
    let none : record_of r.node done ≡ None = nowhere_none r.node done (λ i at.
    let b = at_before done (r ∷ rest) i r.node at in
    let same = once i (length done) r.node b.0 (at_end done rest r) in
    let lt = b.1 in
    omega (arith, same, lt)) in
    let joined = subst EachNodeOnce (sym (append_assoc done (r ∷ []) rest)) once in
    ap (put_records rest) (put_last r done none) ∙ put_behind (done ++ r ∷ []) rest joined ∙ append_assoc done (r ∷ []) rest

fresh_facts : (contents : List Value) (records : List NodeRecord) → facts_in (map (fresh_of contents) records) ≡ facts_of contents records
fresh_facts contents [] = refl
fresh_facts contents (r ∷ records) = ap (λ (l : List Fact). fact_of contents r ∷ l) (fresh_facts contents records)

pub stand_once : (contents : List Value) (records : List NodeRecord) → EachNodeOnce records
    → put_facts (facts_in (map (fresh_of contents) records)) [] ≡ facts_in (map (fresh_of contents) records)
stand_once contents records once =
    ap (λ (l : List Fact). put_facts l []) (fresh_facts contents records)
    ∙ sym (facts_put_all contents records [])
    ∙ ap (facts_of contents) (put_behind [] records once)
    ∙ sym (fresh_facts contents records)

-- ---- records by the numbers of a copy

pub copied_none : (contents : List Value) → AreCopied contents [] [] []
copied_none contents = record { say = refl; checked_at = refl; named = All-nil (IsRecordIn (length contents)) }

copied_push : (old more new : List Value) → new ≡ old ++ more → (fresh : List Fresh) (checked : List (Option ℕ)) (notes : List NodeRecord) (f : Fresh) (c : Option ℕ) (noted : NodeRecord)
    → AreCopied old fresh checked notes → IsCopied new f c noted → AreCopied new (fresh ++ f ∷ []) (checked ++ c ∷ []) (notes ++ noted ∷ [])
copied_push old more new grown fresh checked notes f c noted are is =
    let named = subst (λ (l : List Value). All (IsRecordIn (length l)) notes) (sym grown) (within_stays old more notes are.named) in
    let said : map (fresh_of new) notes ≡ fresh
    = ap (λ (l : List Value). map (fresh_of l) notes) grown ∙ all_fresh_stay old more notes are.named ∙ are.say in
    record {
      say = map-append (fresh_of new) notes (noted ∷ []) ∙ (λ i. said i ++ is.says i ∷ []);
      checked_at = map-append (λ (r : NodeRecord). r.checked) notes (noted ∷ []) ∙ (λ i. are.checked_at i ++ is.checked_at i ∷ []);
      named = All-push (IsRecordIn (length new)) notes noted named is.named;
    }

taken : {X : Type 0} (xs : List X) (i : ℕ) (x : X) → slice_get xs i ≡ Some x → take (i + 1) xs ≡ take i xs ++ x ∷ []
taken xs i x at = take_more xs i x (slice_get_within xs i x at) ∙ ap (λ y. take i xs ++ y ∷ []) (get_or_from_slice_get xs i x x at)

pub copied_next : (old more new : List Value) → new ≡ old ++ more → (contents : List Value) (records notes next : List NodeRecord) (i : ℕ) (r noted : NodeRecord) (f : Fresh)
    → slice_get records i ≡ Some r → f ≡ fresh_of contents r
    → AreCopied old (take i (map (fresh_of contents) records)) (take i (epochs_of records)) notes → IsCopied new f r.checked noted → next ≡ notes ++ noted ∷ []
    → AreCopied new (take (i + 1) (map (fresh_of contents) records)) (take (i + 1) (epochs_of records)) next
copied_next old more new grown contents records notes next i r noted f at is are one pushed =
    let fresh_at = taken (map (fresh_of contents) records) i f (mapped (fresh_of contents) records r i at ∙ ap Some (sym is)) in
    let checked_at = taken (epochs_of records) i r.checked (mapped (λ (x : NodeRecord). x.checked) records r i at) in
    let whole = copied_push old more new grown (take i (map (fresh_of contents) records)) (take i (epochs_of records)) notes f r.checked noted are one in
    subst (λ (l : List NodeRecord). AreCopied new (take (i + 1) (map (fresh_of contents) records)) (take (i + 1) (epochs_of records)) l) (sym pushed)
    (subst (λ (l : List (Option ℕ)). AreCopied new (take (i + 1) (map (fresh_of contents) records)) l (notes ++ noted ∷ [])) (sym checked_at)
    (subst (λ (l : List Fresh). AreCopied new l (take i (epochs_of records) ++ r.checked ∷ []) (notes ++ noted ∷ [])) (sym fresh_at) whole))

-- of what stands at a place
pub all_at : {X : Type 0} (P : X → Type 0) (xs : List X) (i : ℕ) (x : X) → All P xs → slice_get xs i ≡ Some x → P x
all_at P [] i x all at = absurd (none-some x at)
all_at P (y ∷ xs) zero x all at = subst P (same_Some y x at) (All-head P y xs all)
all_at P (y ∷ xs) (suc i) x all at = all_at P xs i x (All-tail P y xs all) at
