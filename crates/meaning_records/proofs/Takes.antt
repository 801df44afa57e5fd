-- Whether an item, a batch or a payload may come after what is kept, decided; and that each makes one thing of it at most.
use Rattle.std.proofs.Common.{◌≡◌, ◌≢◌, ◌⊎◌, inl, inr, ℕ, Bool, true, false, List, [], ◌∷◌, ◌++◌, Some, refl, sym, ap, subst, ◌∙◌, is_some}
use Rattle.std.specs.Prelude.{IsNone, IsSome}
use Rattle.std.specs.FinMap as map
use Rattle.object_values.specs.declared.facts.Fact.{Fact}
use Rattle.object_values.specs.declared.views.Value.{Value}
use Rattle.object_values.specs.declared.calls.Call.{Call}
use Rattle.object_values.specs.declared.calls.Outcome.{Outcome}
use Rattle.object_values.specs.Texts.{Text, Texts}
use Rattle.meaning_texts.specs.Classes.{IsName, is_name_byte}
use Rattle.meaning_texts.specs.Tests.{is_name}
use Rattle.meaning_texts.proofs.Lemmas.{word_decides}
use Rattle.meaning_calls.specs.Jobs.{IsWellFormed}
use Rattle.meaning_calls.specs.Outcomes.{OutcomeFits}
use Rattle.meaning_calls.specs.Tests.{is_well_formed, outcome_fits}
use Rattle.meaning_calls.proofs.Lemmas.{well_formed_decides, fits_decides}
use Rattle.object_values.specs.declared.items.StoredCall.{StoredCall}
use Rattle.object_values.specs.declared.items.StoredOutcome.{StoredOutcome}
use Rattle.object_values.specs.declared.items.StoredRecord.{StoredRecord}
use Rattle.object_values.specs.declared.items.Item.{Item}
use Rattle.object_values.specs.declared.items.Item.TheVariants.{Graph, Content, Put, Dropped, Kept, Node}
use Rattle.meaning_records.specs.Tables.{Tables, IsShort, kept_outcome, MayBeKept, with_content, with_call, with_fact, without_records, Loads}
use Rattle.meaning_records.specs.States.{State, ItemEditsSources, ItemNotes, TakesOne, TakesAll, Reads, ReadsAll}
use Rattle.meaning_records.proofs.Fronts.{decided, both_decided}
use Rattle.meaning_records.proofs.Loading.{TextOf, text_decided, short_decided, one_text, CallOf, call_decided, one_call, OutcomeOf, outcome_decided, one_outcome}
use Rattle.meaning_records.proofs.Facts.{NotedBy, noted_decided, one_fact}
use Rattle.meaning_records.proofs.Payloads.{BatchOf, batch_decided, one_batch}

-- ---- tests

test_decided : (test wanted : Bool) → Dec (test ≡ wanted)
test_decided true true = yes refl
test_decided true false = no (λ e. let n : ⊥ = cc in n)
test_decided false true = no (λ e. let n : ⊥ = cc in n)
test_decided false false = yes refl

name_decided : (name : List ℕ) → Dec (IsName name)
name_decided name = decided (is_name name) (word_decides is_name_byte name)

-- ---- kept calls

-- what an item may keep
abbrev KeptBy : Tables → StoredCall → StoredOutcome → Type 0
KeptBy tables stored given = (call : Call) × (outcome : Outcome) × MayBeKept tables stored given call outcome

-- what is to be tested of a call and its outcome
abbrev Fitting : Tables → Call → Outcome → Type 0
Fitting tables call outcome = IsWellFormed call × (OutcomeFits call outcome × IsNone (kept_outcome tables.calls call))

fitting_decided : (tables : Tables) (call : Call) (outcome : Outcome) → Dec (Fitting tables call outcome)
fitting_decided tables call outcome =
    both_decided (decided (is_well_formed call) (well_formed_decides call))
    (both_decided (decided (outcome_fits call outcome) (fits_decides call outcome)) (test_decided (is_some (kept_outcome tables.calls call)) false))

kept_by : (tables : Tables) (stored : StoredCall) (given : StoredOutcome) (c : CallOf tables.contents stored) (o : OutcomeOf tables.contents given) → Dec (Fitting tables c.0 o.0) → Dec (KeptBy tables stored given)
kept_by tables stored given c o (yes f) = yes (c.0, o.0, record { called = c.1; came = o.1; formed = f.0; fits = f.1.0; new = f.1.1 })
kept_by tables stored given c o (no none) = no (λ k.
    let calls : k.0 ≡ c.0 = one_call tables.contents stored k.0 c.0 k.2.called c.1 in
    let outcomes : k.1 ≡ o.0 = one_outcome tables.contents given k.1 o.0 k.2.came o.1 in
    let fit : Fitting tables k.0 k.1 = (k.2.formed, (k.2.fits, k.2.new)) in
    none (subst (λ (outcome : Outcome). Fitting tables c.0 outcome) outcomes (subst (λ (call : Call). Fitting tables call k.1) calls fit)))

outcome_kept : (tables : Tables) (stored : StoredCall) (given : StoredOutcome) (c : CallOf tables.contents stored) → Dec (OutcomeOf tables.contents given) → Dec (KeptBy tables stored given)
outcome_kept tables stored given c (yes o) = kept_by tables stored given c o (fitting_decided tables c.0 o.0)
outcome_kept tables stored given c (no none) = no (λ k. none (k.1, k.2.came))

call_kept : (tables : Tables) (stored : StoredCall) (given : StoredOutcome) → Dec (CallOf tables.contents stored) → Dec (KeptBy tables stored given)
call_kept tables stored given (yes c) = outcome_kept tables stored given c (outcome_decided tables.contents given)
call_kept tables stored given (no none) = no (λ k. none (k.0, k.2.called))

kept_decided : (tables : Tables) (stored : StoredCall) (given : StoredOutcome) → Dec (KeptBy tables stored given)
kept_decided tables stored given = call_kept tables stored given (call_decided tables.contents stored)

-- ---- items

abbrev TakenBy : State → Item → Type 0
TakenBy old it = (new : State) × TakesOne old it new

-- a source that is put
put_by : (old : State) (name : List ℕ) (number : ℕ) → Dec (IsName name × TextOf old.tables.contents number) → Dec (TakenBy old (Put name number))
put_by old name number (yes h) = yes (
  record { tables = old.tables; sources = map.insert old.sources name h.1.0; graph = old.graph; noted = old.noted },
  record { loads = (h.0, (h.1.0, h.1.1), refl); edits = (h.1.0, h.1.1, refl); graph = refl; ground = tt; noted = refl },
)
put_by old name number (no none) = no (λ t. none (t.1.loads.0, (t.1.edits.0, t.1.edits.1)))

drop_by : (old : State) (name : List ℕ) → Dec (IsName name × IsSome (map.get old.sources name)) → Dec (TakenBy old (Dropped name))
drop_by old name (yes h) = yes (
  record { tables = old.tables; sources = map.remove old.sources name; graph = old.graph; noted = old.noted },
  record { loads = (h.0, refl); edits = (h.1, refl); graph = refl; ground = tt; noted = refl },
)
drop_by old name (no none) = no (λ t. none (t.1.loads.0, t.1.edits.0))

content_by : (old : State) (value : Value) → Dec (IsShort value) → Dec (TakenBy old (Content value))
content_by old value (yes short) = yes (record { tables = with_content value old.tables; sources = old.sources; graph = old.graph; noted = old.noted }, record { loads = (short, refl); edits = refl; graph = refl; ground = tt; noted = refl })
content_by old value (no none) = no (λ t. none t.1.loads.0)

keep_by : (old : State) (stored : StoredCall) (given : StoredOutcome) → Dec (KeptBy old.tables stored given) → Dec (TakenBy old (Kept stored given))
keep_by old stored given (yes k) = yes (record { tables = with_call k.0 k.1 old.tables; sources = old.sources; graph = old.graph; noted = old.noted }, record { loads = (k.0, k.1, k.2, refl); edits = refl; graph = refl; ground = tt; noted = refl })
keep_by old stored given (no none) = no (λ t. none (t.1.loads.0, t.1.loads.1, t.1.loads.2))

note_by : (old : State) (stored : StoredRecord) → Dec (IsSome old.graph × NotedBy old.tables.contents stored) → Dec (TakenBy old (Node stored))
note_by old stored (yes h) = yes (
  record { tables = with_fact h.1.0 old.tables; sources = old.sources; graph = old.graph; noted = old.noted ++ h.1.0 ∷ [] },
  record { loads = (h.1.0, h.1.1, refl); edits = refl; graph = refl; ground = h.0; noted = (h.1.0, h.1.1.says, refl) },
)
note_by old stored (no none) = no (λ t. none (t.1.ground, (t.1.loads.0, t.1.loads.1)))

pub item_taken : (old : State) (it : Item) → Dec (TakenBy old it)
item_taken old (Graph text) = yes (record { tables = without_records old.tables; sources = old.sources; graph = Some text; noted = [] }, record { loads = refl; edits = refl; graph = refl; ground = tt; noted = refl })
item_taken old (Content value) = content_by old value (short_decided value)
item_taken old (Put name number) = put_by old name number (both_decided (name_decided name) (text_decided old.tables.contents number))
item_taken old (Dropped name) = drop_by old name (both_decided (name_decided name) (test_decided (is_some (map.get old.sources name)) true))
item_taken old (Kept stored given) = keep_by old stored given (kept_decided old.tables stored given)
item_taken old (Node stored) = note_by old stored (both_decided (test_decided (is_some old.graph) true) (noted_decided old.tables.contents stored))

-- the tables that an item makes
one_table : (old : Tables) (it : Item) (new other : Tables) → Loads old it new → Loads old it other → other ≡ new
one_table old (Graph text) new other is also = also ∙ sym is
one_table old (Content value) new other is also = also.1 ∙ sym is.1
one_table old (Put name number) new other is also = also.2 ∙ sym is.2
one_table old (Dropped name) new other is also = also.1 ∙ sym is.1
one_table old (Kept stored given) new other is also =
    let calls : also.0 ≡ is.0 = one_call old.contents stored also.0 is.0 also.2.called is.2.called in
    let outcomes : also.1 ≡ is.1 = one_outcome old.contents given also.1 is.1 also.2.came is.2.came in
    also.3 ∙ ap (λ (call : Call). with_call call also.1 old) calls ∙ ap (λ (outcome : Outcome). with_call is.0 outcome old) outcomes ∙ sym is.3
one_table old (Node stored) new other is also =
    also.2 ∙ ap (λ (fact : Fact). with_fact fact old) (one_fact old.contents stored also.0 is.0 also.1.says is.1.says) ∙ sym is.2

-- the sources that it makes
one_edit : (contents : List Value) (it : Item) (old new other : Texts) → ItemEditsSources contents it old new → ItemEditsSources contents it old other → other ≡ new
one_edit contents (Put name number) old new other is also =
    also.2 ∙ ap (λ (text : Text). map.insert old name text) (one_text contents number also.0 is.0 also.1 is.1) ∙ sym is.2
one_edit contents (Dropped name) old new other is also = also.1 ∙ sym is.1
one_edit contents _ old new other is also = also ∙ sym is

-- all that is noted then
one_note : (contents : List Value) (it : Item) (old new other : List Fact) → ItemNotes contents it old new → ItemNotes contents it old other → other ≡ new
one_note contents (Graph text) old new other is also = also ∙ sym is
one_note contents (Node stored) old new other is also =
    also.2 ∙ ap (λ (fact : Fact). old ++ fact ∷ []) (one_fact contents stored also.0 is.0 also.1 is.1) ∙ sym is.2
one_note contents _ old new other is also = also ∙ sym is

pub one_taken : (old : State) (it : Item) (new other : State) → TakesOne old it new → TakesOne old it other → other ≡ new
one_taken old it new other is also =
    let tables : other.tables ≡ new.tables = one_table old.tables it new.tables other.tables is.loads also.loads in
    let sources : other.sources ≡ new.sources = one_edit old.tables.contents it old.sources new.sources other.sources is.edits also.edits in
    let graphs : other.graph ≡ new.graph = also.graph ∙ sym is.graph in
    let notes : other.noted ≡ new.noted = one_note old.tables.contents it old.noted new.noted other.noted is.noted also.noted in
    λ i. record { tables = tables i; sources = sources i; graph = graphs i; noted = notes i }

-- ---- batches

pub one_all_taken : (items : List Item) (old new other : State) → TakesAll old items new → TakesAll old items other → other ≡ new
one_all_taken [] old new other is also = also ∙ sym is
one_all_taken (it ∷ items) old new other is also =
    let next : also.0 ≡ is.0 = one_taken old it is.0 also.0 is.1 also.1 in
    one_all_taken items is.0 new other is.2 (subst (λ (state : State). TakesAll state items other) next also.2)

abbrev AllTakenBy : State → List Item → Type 0
AllTakenBy old items = (new : State) × TakesAll old items new

others_taken : (old : State) (it : Item) (items : List Item) (first : TakenBy old it) → Dec (AllTakenBy first.0 items) → Dec (AllTakenBy old (it ∷ items))
others_taken old it items first (yes t) = yes (t.0, (first.0, first.1, t.1))
others_taken old it items first (no none) = no (λ t. none (t.0, subst (λ (state : State). TakesAll state items t.0) (one_taken old it first.0 t.1.0 first.1 t.1.1) t.1.2))

pub all_taken : (items : List Item) (old : State) → Dec (AllTakenBy old items)
all_taken [] old = yes (old, refl)
all_taken (it ∷ items) old = elim (item_taken old it) [
  | yes first ↦ others_taken old it items first (all_taken items first.0)
  | no none ↦ no (λ t. none (t.1.0, t.1.1))
]

-- ---- payloads

pub one_read : (old : State) (payload : List ℕ) (new other : State) → Reads old payload new → Reads old payload other → other ≡ new
one_read old payload new other is also =
    let items : also.items ≡ is.items = one_batch also.items is.items also.fit is.fit (sym also.spelled ∙ is.spelled) in
    one_all_taken is.items old new other is.taken (subst (λ (items : List Item). TakesAll old items other) items also.taken)

abbrev ReadBy : State → List ℕ → Type 0
ReadBy old payload = (new : State) × Reads old payload new

some_read : (old : State) (payload : List ℕ) (b : BatchOf payload) → b.items ≢ [] → Dec (AllTakenBy old b.items) → Dec (ReadBy old payload)
some_read old payload b some (yes t) = yes (t.0, record { items = b.items; some = some; fit = b.fit; spelled = b.spelled; taken = t.1 })
some_read old payload b some (no none) = no (λ r.
    let items : r.1.items ≡ b.items = one_batch r.1.items b.items r.1.fit b.fit (sym r.1.spelled ∙ b.spelled) in
    none (r.0, subst (λ (items : List Item). TakesAll old items r.0) items r.1.taken))

items_read : (old : State) (payload : List ℕ) (b : BatchOf payload) → (items : List Item) → b.items ≡ items → Dec (ReadBy old payload)
items_read old payload b [] is = no (λ r. r.1.some (one_batch r.1.items b.items r.1.fit b.fit (sym r.1.spelled ∙ b.spelled) ∙ is))
items_read old payload b (it ∷ items) is = some_read old payload b (λ none. let e : ◌≡◌ {A = List Item} (it ∷ items) [] = sym is ∙ none in let n : ⊥ = cc in n) (all_taken b.items old)

batch_read : (old : State) (payload : List ℕ) → Dec (BatchOf payload) → Dec (ReadBy old payload)
batch_read old payload (yes b) = items_read old payload b b.items refl
batch_read old payload (no none) = no (λ r. none (record { items = r.1.items; fit = r.1.fit; spelled = r.1.spelled }))

pub payload_read : (old : State) (payload : List ℕ) → Dec (ReadBy old payload)
payload_read old payload = batch_read old payload (batch_decided payload)

-- ---- payloads one after another

pub one_all_read : (payloads : List (List ℕ)) (old new other : State) → ReadsAll old payloads new → ReadsAll old payloads other → other ≡ new
one_all_read [] old new other is also = also ∙ sym is
one_all_read (payload ∷ payloads) old new other is also =
    let next : also.0 ≡ is.0 = one_read old payload is.0 also.0 is.1 also.1 in
    one_all_read payloads is.0 new other is.2 (subst (λ (state : State). ReadsAll state payloads other) next also.2)

-- the first payload that doesn't read, after those before it
pub record BreaksOff (old : State) (payloads : List (List ℕ)) : Type 0 where
  pub before : List (List ℕ)
  pub payload : List ℕ
  pub rest : List (List ℕ)
  pub split : payloads ≡ before ++ payload ∷ rest
  pub state : State
  pub read : ReadsAll old before state
  pub unread : (next : State) → ¬ Reads state payload next

abbrev pub AllReadBy : State → List (List ℕ) → Type 0
AllReadBy old payloads = (new : State) × ReadsAll old payloads new

read_behind : (old : State) (payload : List ℕ) (payloads : List (List ℕ)) (first : ReadBy old payload) → AllReadBy first.0 payloads ⊎ BreaksOff first.0 payloads
    → AllReadBy old (payload ∷ payloads) ⊎ BreaksOff old (payload ∷ payloads)
read_behind old payload payloads first (inl all) = inl (all.0, (first.0, first.1, all.1))
read_behind old payload payloads first (inr breaks) = inr (record {
  before = payload ∷ breaks.before;
  payload = breaks.payload;
  rest = breaks.rest;
  split = ap (λ (l : List (List ℕ)). payload ∷ l) breaks.split;
  state = breaks.state;
  read = (first.0, first.1, breaks.read);
  unread = breaks.unread;
})

pub all_read : (payloads : List (List ℕ)) (old : State) → AllReadBy old payloads ⊎ BreaksOff old payloads
all_read [] old = inl (old, refl)
all_read (payload ∷ payloads) old = elim (payload_read old payload) [
  | yes first ↦ read_behind old payload payloads first (all_read payloads first.0)
  | no none ↦ inr (record { before = []; payload = payload; rest = payloads; split = refl; state = old; read = refl; unread = λ next r. none (next, r) })
]

-- where all payloads read, each reads after those before it
pub read_through : (before : List (List ℕ)) (payload : List ℕ) (rest : List (List ℕ)) (old state new : State) → ReadsAll old before state → ReadsAll old (before ++ payload ∷ rest) new → ReadBy state payload
read_through [] payload rest old state new read whole = (whole.0, subst (λ (s : State). Reads s payload whole.0) (sym read) whole.1)
read_through (first ∷ before) payload rest old state new read whole =
    let next : whole.0 ≡ read.0 = one_read old first read.0 whole.0 read.1 whole.1 in
    read_through before payload rest read.0 state new read.2 (subst (λ (s : State). ReadsAll s (before ++ payload ∷ rest) new) next whole.2)

-- there is one place at which payloads break off
pub one_break : (before other : List (List ℕ)) (payload second : List ℕ) (rest more : List (List ℕ)) (old a b : State) → before ++ payload ∷ rest ≡ other ++ second ∷ more
    → ReadsAll old before a → ReadsAll old other b → ((next : State) → ¬ Reads a payload next) → ((next : State) → ¬ Reads b second next) → other ≡ before
one_break [] [] payload second rest more old a b same read also unread none = refl
one_break [] (first ∷ other) payload second rest more old a b same read also unread none =
    let heads : first ≡ payload = cc in
    absurd (unread also.0 (subst (λ (p : List ℕ). Reads a p also.0) heads (subst (λ (s : State). Reads s first also.0) (sym read) also.1)))
one_break (first ∷ before) [] payload second rest more old a b same read also unread none =
    let heads : first ≡ second = cc in
    absurd (none read.0 (subst (λ (p : List ℕ). Reads b p read.0) heads (subst (λ (s : State). Reads s first read.0) (sym also) read.1)))
one_break (first ∷ before) (head ∷ other) payload second rest more old a b same read also unread none =
    let heads : head ≡ first = cc in
    let tails : before ++ payload ∷ rest ≡ other ++ second ∷ more = cc in
    let moved : Reads old first also.0 = subst (λ (p : List ℕ). Reads old p also.0) heads also.1 in
    let next : also.0 ≡ read.0 = one_read old first read.0 also.0 read.1 moved in
    let others = one_break before other payload second rest more read.0 a b tails read.2 (subst (λ (s : State). ReadsAll s other b) next also.2) unread none in
    ap (λ (p : List ℕ). p ∷ other) heads ∙ ap (λ (l : List (List ℕ)). first ∷ l) others
