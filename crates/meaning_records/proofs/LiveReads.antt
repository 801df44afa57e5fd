-- Live batches read as what they are of.
use Rattle.std.proofs.Common.{◌≡◌, ◌≢◌, inl, inr, ℕ, Bool, true, false, cond, List, [], ◌∷◌, ◌++◌}
use Rattle.std.proofs.Common.{map, Option, Some, None, T, ◌&&◌, refl, sym, ap, ◌∙◌, subst, append-nil, append_assoc}
use Rattle.std.specs.Prelude.{All}
use Rattle.std.specs.List.{flat_map}
use Rattle.std.specs.FinMap as names
use Rattle.std.specs.FinMap.Entries.{below_all}
use Rattle.std.specs.Ordering.{nat_cmp, is_eq, is_lt, ordering_reverse}
use Rattle.std.specs.declared.cmp.Ordering.{Ordering}
use Rattle.std.specs.declared.cmp.Ordering.TheVariants.{Less, Equal, Greater}
use Rattle.std.specs.Cmp.Lexicographic.{slice_cmp, nat_list_cmp_total}
use Rattle.std.proofs.lemmas.Cmp.{tied_itself}
use Rattle.std.proofs.lemmas.List.{map-append}
use Rattle.std.proofs.lemmas.List.Elements.{All-nil, All-cons, All-head, All-tail}
use Rattle.object_values.specs.declared.facts.Fact.{Fact}
use Rattle.object_values.specs.declared.facts.Fresh.{Fresh}
use Rattle.object_values.specs.declared.views.Value.{Value}
use Rattle.object_values.specs.declared.calls.Call.{Call}
use Rattle.object_values.specs.declared.calls.Outcome.{Outcome}
use Rattle.object_values.specs.Texts.{Text, Texts, no_texts}
use Rattle.object_values.specs.declared.items.StoredRecord.{StoredRecord}
use Rattle.object_values.specs.declared.items.Item.{Item}
use Rattle.object_values.specs.declared.items.Item.TheVariants.{Graph, Content, Put, Dropped, Kept, Node}
use Rattle.meaning_records.specs.Records.{item}
use Rattle.meaning_records.specs.Tables.{Tables, Calls, put_fact, put_facts, Loads}
use Rattle.meaning_records.specs.Batches.{contents_of, graph_batch, facts_of, IsPutBatch, IsCallBatch, IsNotable, AreRecordsOf}
use Rattle.meaning_records.specs.States.{State, nothing, spell_batch, TakesAll, Reads, ReadsAll}
use Rattle.meaning_records.specs.Laws.{Noted, noted_in, none_noted, with_facts, ItemsReadAs}
use Rattle.meaning_records.specs.Live.{content_in, contents_after, AreBatchesOf, IsSourceBatch, IsKeptBatch, IsRecordBatch}
use Rattle.meaning_records.specs.Live.{Live, AreLive, MayBeSources, ComeAfter, MayLive, live_state}
use Rattle.meaning_records.proofs.Writing.{graph_reads, put_reads, call_reads}
use Rattle.meaning_records.proofs.NotesWriting.{notes_read}

-- ---- the contents after a batch

one_content : (old : Tables) (it : Item) (new : Tables) → Loads old it new → new.contents ≡ old.contents ++ content_in it
one_content old (Graph text) new loads = ap (λ (t : Tables). t.contents) loads ∙ sym (append-nil old.contents)
one_content old (Content value) new loads = ap (λ (t : Tables). t.contents) loads.1
one_content old (Put name number) new loads = ap (λ (t : Tables). t.contents) loads.2 ∙ sym (append-nil old.contents)
one_content old (Dropped name) new loads = ap (λ (t : Tables). t.contents) loads.1 ∙ sym (append-nil old.contents)
one_content old (Kept stored given) new loads = ap (λ (t : Tables). t.contents) loads.3 ∙ sym (append-nil old.contents)
one_content old (Node stored) new loads = ap (λ (t : Tables). t.contents) loads.2 ∙ sym (append-nil old.contents)

taken_contents : (old : State) (items : List Item) (new : State) → TakesAll old items new → new.tables.contents ≡ contents_after old.tables.contents items
taken_contents old [] new taken = ap (λ (s : State). s.tables.contents) taken ∙ sym (append-nil old.tables.contents)
taken_contents old (it ∷ items) new taken =
    taken_contents taken.0 items new taken.2
    ∙ ap (λ (l : List Value). l ++ flat_map content_in items) (one_content old.tables it taken.0.tables taken.1.loads)
    ∙ append_assoc old.tables.contents (content_in it) (flat_map content_in items)

-- ---- one batch

-- what is kept, with this noted
abbrev kept_with : List Value → Calls → Texts → Option Text → Noted → State
kept_with contents calls sources graph noted = record {
  tables = record { contents = contents; calls = calls; records = noted.records };
  sources = sources;
  graph = graph;
  noted = noted.all;
}

same_state : (new : State) (contents : List Value) (calls : Calls) (sources : Texts) (graph : Option Text) (noted : Noted)
    → new.tables.contents ≡ contents → new.tables.calls ≡ calls → new.sources ≡ sources → new.graph ≡ graph → noted_in new ≡ noted
    → new ≡ kept_with contents calls sources graph noted
same_state new contents calls sources graph noted a b d e n = λ i. kept_with (a i) (b i) (d i) (e i) (n i)

batch_read : (old : State) (items : List Item) (calls : Calls) (sources : Texts) (graph : Option Text) (noted : Noted) → items ≢ [] → All item.fits items
    → ItemsReadAs old items calls sources graph noted
    → Reads old (spell_batch items) (kept_with (contents_after old.tables.contents items) calls sources graph noted)
batch_read old items calls sources graph noted some fit reads =
    let same = same_state reads.new (contents_after old.tables.contents items) calls sources graph noted
    (taken_contents old items reads.new reads.taken) reads.calls_are reads.sources_are reads.graph_is reads.noted_is in
    record { items = items; some = some; fit = fit; spelled = refl; taken = subst (λ (s : State). TakesAll old items s) same reads.taken }

holds_one : (items : List Item) (it : Item) (rest : List Item) → items ++ it ∷ rest ≢ []
holds_one [] it rest e = let n : ⊥ = cc in n
holds_one (first ∷ items) it rest e = let n : ⊥ = cc in n

put_some : (contents : List Value) (name text : Text) (items : List Item) → IsPutBatch contents name text items → items ≢ []
put_some contents name text items (inl known) e = holds_one [] (Put name known.0) [] (sym known.2 ∙ e)
put_some contents name text items (inr new) e = holds_one (Content _ ∷ []) (Put name _) [] (sym new.1 ∙ e)

call_some : (contents : List Value) (call : Call) (outcome : Outcome) (items : List Item) → IsCallBatch contents call outcome items → items ≢ []
call_some contents call outcome items batch e =
    holds_one (map Content (contents_of batch.added)) (Kept batch.stored batch.given) [] (sym batch.items_are ∙ e)

note_some : (contents : List Value) (fresh : Fresh) (items : List Item) → IsRecordBatch contents fresh items → items ≢ []
note_some contents fresh items batch e = by batch.stored batch.records (sym batch.items_are ∙ e)
  where
    by : (stored : List StoredRecord) → AreRecordsOf (contents ++ batch.added) stored (fresh ∷ []) → map Content batch.added ++ map Node stored ≢ []
    by [] are is = are
    by (s ∷ stored) are is = holds_one (map Content batch.added) (Node s) (map Node stored) is

-- ---- sources in the order of their names

abbrev Pairs : Type 0
Pairs = List (Text × Text)

abbrev by_bytes : Text → Text → Ordering
by_bytes = slice_cmp nat_cmp

abbrev made : Pairs → Texts
made pairs = names.from_entries pairs

exact : names.IsAntisymmetric by_bytes
exact = names.slice_cmp-IsAntisymmetric names.nat_cmp-IsAntisymmetric

both_first : (a b : Bool) → T (a && b) → T a
both_first true b p = tt
both_first false b p = p

both_second : (a b : Bool) → T (a && b) → T b
both_second true b p = p
both_second false b p = absurd p

less : (order : Ordering) → T (is_lt order) → order ≡ Less
less Less p = refl
less Equal p = absurd p
less Greater p = absurd p

-- the name of a source comes after those before it
below_there : (name : Text) (done : Pairs) (source : Text × Text) (rest : Pairs) → T (below_all by_bytes name (done ++ source ∷ rest))
    → by_bytes name source.0 ≡ Less
below_there name [] source rest below = less (by_bytes name source.0) (both_first (is_lt (by_bytes name source.0)) (below_all by_bytes name rest) below)
below_there name (d ∷ done) source rest below =
    below_there name done source rest
    (both_second (is_lt (by_bytes name d.0)) (below_all by_bytes name (done ++ source ∷ rest)) below)

greater : (done : Pairs) (d source : Text × Text) (rest : Pairs) → T (names.is_sorted by_bytes (d ∷ (done ++ source ∷ rest))) → by_bytes source.0 d.0 ≡ Greater
greater done d source rest sorted =
    let below = both_first (below_all by_bytes d.0 (done ++ source ∷ rest)) (names.is_sorted by_bytes (done ++ source ∷ rest)) sorted in
    nat_list_cmp_total.antisymm source.0 d.0 ∙ ap ordering_reverse (below_there d.0 done source rest below)

sorted_rest : (done : Pairs) (d source : Text × Text) (rest : Pairs) → T (names.is_sorted by_bytes (d ∷ (done ++ source ∷ rest)))
    → T (names.is_sorted by_bytes (done ++ source ∷ rest))
sorted_rest done d source rest sorted = both_second (below_all by_bytes d.0 (done ++ source ∷ rest)) (names.is_sorted by_bytes (done ++ source ∷ rest)) sorted

not_before : (done : Pairs) (source : Text × Text) (rest : Pairs) → T (names.is_sorted by_bytes (done ++ source ∷ rest))
    → names.find by_bytes source.0 done ≡ None
not_before [] source rest sorted = refl
not_before (d ∷ done) source rest sorted =
    ap (λ (o : Ordering). cond (is_eq o) (Some d.1) (names.find by_bytes source.0 done)) (greater done d source rest sorted)
    ∙ not_before done source rest (sorted_rest done d source rest sorted)

found_there : (done : Pairs) (source : Text × Text) (rest : Pairs) → T (names.is_sorted by_bytes (done ++ source ∷ rest))
    → names.find by_bytes source.0 (done ++ source ∷ rest) ≡ Some source.1
found_there [] source rest sorted =
    ap (λ (o : Ordering). cond (is_eq o) (Some source.1) (names.find by_bytes source.0 rest)) (tied_itself nat_list_cmp_total source.0)
found_there (d ∷ done) source rest sorted =
    ap (λ (o : Ordering). cond (is_eq o) (Some d.1) (names.find by_bytes source.0 (done ++ source ∷ rest))) (greater done d source rest sorted)
    ∙ found_there done source rest (sorted_rest done d source rest sorted)

-- what is made of all entries
made_whole : (sources : Texts) → made (names.entries sources) ≡ sources
made_whole sources = names.same_map nat_list_cmp_total exact (made (names.entries sources)) sources
    (λ q. names.get-from_entries nat_list_cmp_total (names.entries sources) q ∙ sym (names.get-entries sources q))

-- ---- many batches

abbrev Fit : List (List Item) → Type 0
Fit batches = All (λ (items : List Item). All item.fits items) batches

fit_left : (xs ys : List (List Item)) → Fit (xs ++ ys) → Fit xs
fit_left [] ys fit = All-nil (λ (items : List Item). All item.fits items)
fit_left (x ∷ xs) ys fit =
    All-cons (λ (items : List Item). All item.fits items) x xs (All-head (λ (items : List Item). All item.fits items) x (xs ++ ys) fit)
    (fit_left xs ys (All-tail (λ (items : List Item). All item.fits items) x (xs ++ ys) fit))

fit_right : (xs ys : List (List Item)) → Fit (xs ++ ys) → Fit ys
fit_right [] ys fit = fit
fit_right (x ∷ xs) ys fit = fit_right xs ys (All-tail (λ (items : List Item). All item.fits items) x (xs ++ ys) fit)

fit_head : (items : List Item) (batches : List (List Item)) → Fit (items ∷ batches) → All item.fits items
fit_head items batches fit = All-head (λ (items : List Item). All item.fits items) items batches fit

fit_tail : (items : List Item) (batches : List (List Item)) → Fit (items ∷ batches) → Fit batches
fit_tail items batches fit = All-tail (λ (items : List Item). All item.fits items) items batches fit

-- payloads after others
both_read : (xs ys : List (List ℕ)) (old between new : State) → ReadsAll old xs between → ReadsAll between ys new → ReadsAll old (xs ++ ys) new
both_read [] ys old between new first second = subst (λ (s : State). ReadsAll s ys new) first second
both_read (x ∷ xs) ys old between new first second = (first.0, first.1, both_read xs ys first.0 between new first.2 second)

batches_read : (xs ys : List (List Item)) (old between new : State) → ReadsAll old (map spell_batch xs) between → ReadsAll between (map spell_batch ys) new
    → ReadsAll old (map spell_batch (xs ++ ys)) new
batches_read xs ys old between new first second =
    subst (λ (l : List (List ℕ)). ReadsAll old l new) (sym (map-append spell_batch xs ys))
    (both_read (map spell_batch xs) (map spell_batch ys) old between new first second)

-- what is noted once these facts are, one after another
abbrev noted_of : List Fact → Noted
noted_of facts = record { records = put_facts facts []; all = facts }

-- what a store has while it is written anew
abbrev state_of : Text → Texts → Calls → List Fact → List Value → State
state_of graph sources calls facts contents = kept_with contents calls sources (Some graph) (noted_of facts)

puts-append : (first second facts : List Fact) → put_facts (first ++ second) facts ≡ put_facts second (put_facts first facts)
puts-append [] second facts = refl
puts-append (fact ∷ first) second facts = puts-append first second (put_fact fact facts)

noted_more : (before more : List Fact) → noted_of (before ++ more) ≡ with_facts (noted_of before) more
noted_more before more = λ i. record { records = puts-append before more [] i; all = before ++ more }

-- records of nodes
records_read : (graph : Text) (sources : Texts) (calls : Calls) (before : List Fact) (records : List Fresh) → All IsNotable records → (contents : List Value)
    (batches : List (List Item)) (after : List Value) → Fit batches → AreBatchesOf IsRecordBatch contents records batches after
    → ReadsAll (state_of graph sources calls before contents) (map spell_batch batches) (state_of graph sources calls (before ++ facts_of records) after)
records_read graph sources calls before [] may contents [] after fit are = λ i. state_of graph sources calls (append-nil before i) (are i)
records_read graph sources calls before [] may contents (items ∷ batches) after fit are = absurd are
records_read graph sources calls before (fresh ∷ records) may contents [] after fit are = absurd are
records_read graph sources calls before (fresh ∷ records) may contents (items ∷ batches) after fit are =
    let old : State = state_of graph sources calls before contents in
    let more : List Fact = fresh.fact ∷ [] in
    let next : State = state_of graph sources calls (before ++ more) (contents_after contents items) in
    let one_may : All IsNotable (fresh ∷ []) = All-cons IsNotable fresh [] (All-head IsNotable fresh records may) (All-nil IsNotable) in
    let reads = notes_read old (fresh ∷ []) items refl one_may are.0 in
    let one = batch_read old items calls sources (Some graph) (with_facts (noted_of before) more)
    (note_some contents fresh items are.0) (fit_head items batches fit) reads in
    let rest = records_read graph sources calls (before ++ more) records (All-tail IsNotable fresh records may) (contents_after contents items) batches after
    (fit_tail items batches fit) are.1 in (
      next,
      subst (λ (n : Noted). Reads old (spell_batch items) (kept_with (contents_after contents items) calls sources (Some graph) n))
          (sym (noted_more before more)) one,
      subst (λ (l : List Fact). ReadsAll next (map spell_batch batches) (state_of graph sources calls l after))
          (append_assoc before more (facts_of records)) rest,
    )

-- calls
calls_read : (graph : Text) (sources : Texts) (before calls : Calls) → ComeAfter before calls → (contents : List Value) (batches : List (List Item))
    (after : List Value) → Fit batches → AreBatchesOf IsKeptBatch contents calls batches after
    → ReadsAll (state_of graph sources before [] contents) (map spell_batch batches) (state_of graph sources (before ++ calls) [] after)
calls_read graph sources before [] come contents [] after fit are = λ i. state_of graph sources (append-nil before i) [] (are i)
calls_read graph sources before [] come contents (items ∷ batches) after fit are = absurd are
calls_read graph sources before (kept ∷ calls) come contents [] after fit are = absurd are
calls_read graph sources before (kept ∷ calls) come contents (items ∷ batches) after fit are =
    let old : State = state_of graph sources before [] contents in
    let more : Calls = kept ∷ [] in
    let next : State = state_of graph sources (before ++ more) [] (contents_after contents items) in
    let reads = call_reads old kept.0 kept.1 items come.0.formed come.0.fits come.0.new are.0 in
    let one = batch_read old items (before ++ more) sources (Some graph) none_noted
    (call_some contents kept.0 kept.1 items are.0) (fit_head items batches fit) reads in
    let rest = calls_read graph sources (before ++ more) calls come.1 (contents_after contents items) batches after (fit_tail items batches fit) are.1 in (
      next,
      one,
      subst (λ (l : Calls). ReadsAll next (map spell_batch batches) (state_of graph sources l [] after)) (append_assoc before more calls) rest,
    )

module _ (graph : Text) (sources : Texts) (may : MayBeSources sources) where
  abbrev put_state : List Value → Pairs → State
  put_state contents done = state_of graph (made done) [] [] contents

  -- sources
  sources_read : (done rest : Pairs) → names.entries sources ≡ done ++ rest → (contents : List Value) (batches : List (List Item)) (after : List Value)
      → Fit batches → AreBatchesOf IsSourceBatch contents rest batches after
      → ReadsAll (put_state contents done) (map spell_batch batches) (put_state after (done ++ rest))
  sources_read done [] whole contents [] after fit are = λ i. put_state (are i) (append-nil done i)
  sources_read done [] whole contents (items ∷ batches) after fit are = absurd are
  sources_read done (source ∷ rest) whole contents [] after fit are = absurd are
  sources_read done (source ∷ rest) whole contents (items ∷ batches) after fit are =
      let sorted : T (names.is_sorted by_bytes (done ++ source ∷ rest)) =
      subst (λ (l : Pairs). T (names.is_sorted by_bytes l)) whole (names.entries_sorted sources) in
      let there = names.get-entries sources source.0 ∙ ap (λ (l : Pairs). names.find by_bytes source.0 l) whole ∙ found_there done source rest sorted in
      let is = may source.0 source.1 there in
      let old : State = put_state contents done in
      let next : State = put_state (contents_after contents items) (done ++ source ∷ []) in
      let reads = put_reads old source.0 source.1 items is.0 is.1 are.0 in
      let one = batch_read old items [] (names.insert (made done) source.0 source.1) (Some graph) none_noted
      (put_some contents source.0 source.1 items are.0) (fit_head items batches fit) reads in
      let more : made (done ++ source ∷ []) ≡ names.insert (made done) source.0 source.1 =
      names.from_entries_push nat_list_cmp_total exact done source.0 source.1 (not_before done source rest sorted) in
      let joined : (done ++ source ∷ []) ++ rest ≡ done ++ source ∷ rest = append_assoc done (source ∷ []) rest in
      let others = sources_read (done ++ source ∷ []) rest (whole ∙ sym joined) (contents_after contents items) batches after
      (fit_tail items batches fit) are.1 in (
        next,
        subst (λ (m : Texts). Reads old (spell_batch items) (state_of graph m [] [] (contents_after contents items))) (sym more) one,
        subst (λ (l : Pairs). ReadsAll next (map spell_batch batches) (put_state after l)) joined others,
      )

-- noted one after another, the facts stand as they are
all_stand : (live : Live) (may : MayLive live) (contents : List Value)
    → state_of live.graph live.sources live.calls (facts_of live.records) contents ≡ live_state live contents
all_stand live may contents =
    λ i. kept_with contents live.calls live.sources (Some live.graph) (record { records = may.once i; all = facts_of live.records })

pub live_read : (live : Live) (batches : List (List Item)) (contents : List Value) → MayLive live → Fit batches → AreLive live batches contents
    → ReadsAll nothing (map spell_batch batches) (live_state live contents)
live_read live batches contents may fit are =
    let first : List Item = graph_batch live.graph in
    let front : List (List Item) = are.puts ++ are.keeps in
    let rest : List (List Item) = front ++ are.notes in
    let fit_all : Fit (first ∷ rest) = subst Fit are.batches_are fit in
    let fit_rest : Fit rest = fit_tail first rest fit_all in
    let fit_front : Fit front = fit_left front are.notes fit_rest in
    let begun : State = state_of live.graph no_texts [] [] [] in
    let put : State = state_of live.graph live.sources [] [] are.put in
    let kept : State = state_of live.graph live.sources live.calls [] are.kept in
    let final : State = live_state live contents in
    let graph = batch_read nothing first [] no_texts (Some live.graph) none_noted (holds_one [] (Graph live.graph) []) (fit_head first rest fit_all)
    (graph_reads nothing live.graph) in
    let sources = sources_read live.graph live.sources may.sources [] (names.entries live.sources) refl [] are.puts are.put
    (fit_left are.puts are.keeps fit_front) are.sourced in
    let puts : ReadsAll begun (map spell_batch are.puts) put =
    subst (λ (m : Texts). ReadsAll begun (map spell_batch are.puts) (state_of live.graph m [] [] are.put)) (made_whole live.sources) sources in
    let calls : ReadsAll put (map spell_batch are.keeps) kept =
    calls_read live.graph live.sources [] live.calls may.calls are.put are.keeps are.kept (fit_right are.puts are.keeps fit_front) are.called in
    let notes : ReadsAll kept (map spell_batch are.notes) final =
    subst (λ (s : State). ReadsAll kept (map spell_batch are.notes) s) (all_stand live may contents)
    (records_read live.graph live.sources live.calls [] live.records may.records are.kept are.notes contents
    (fit_right front are.notes fit_rest) are.noted) in
    let all : ReadsAll begun (map spell_batch rest) final =
    batches_read front are.notes begun kept final (batches_read are.puts are.keeps begun put kept puts calls) notes in
    subst (λ (l : List (List Item)). ReadsAll nothing (map spell_batch l) final) (sym are.batches_are) (begun, graph, all)
