-- What the batches of a store make of its tables and its sources.
use Rattle.std.specs.Prelude.{⊤}
use Rattle.std.proofs.Common.{◌≡◌, ◌≢◌, inl, inr, ℕ, ◌≤◌, List, [], ◌∷◌, ◌++◌, length, map, Option, Some, None, IsSome, IsNone, All, slice_get, refl, sym, ap, subst, ◌∙◌, arith, append_assoc}
use Rattle.std.specs.FinMap as texts
use Rattle.std.proofs.lemmas.List.Elements.{All-nil, All-push, All-head, All-tail}
use Rattle.object_values.specs.declared.views.Value.{Value}
use Rattle.object_values.specs.declared.views.Value.TheVariants.{Simple}
use Rattle.object_values.specs.declared.calls.Call.{Call}
use Rattle.object_values.specs.declared.calls.Outcome.{Outcome}
use Rattle.object_values.specs.declared.facts.Fact.{Fact}
use Rattle.object_values.specs.Texts.{Text, Texts, no_texts}
use Rattle.meaning_texts.specs.Classes.{IsName}
use Rattle.object_values.specs.declared.items.StoredCall.{StoredCall}
use Rattle.object_values.specs.declared.items.StoredOutcome.{StoredOutcome}
use Rattle.object_values.specs.declared.items.Item.{Item}
use Rattle.object_values.specs.declared.items.Item.TheVariants.{Graph, Content, Put, Dropped, Kept, Node}
use Rattle.meaning_records.specs.Records.{item}
use Rattle.meaning_records.specs.Tables.{Tables, IsText, IsCallOf, IsOutcomeOf, MayBeKept, kept_outcome, with_content, with_call, Loads, LoadsAll}
use Rattle.meaning_records.specs.States.{State, TakesOne, TakesAll, Reads, spell_batch}
use Rattle.meaning_records.specs.Batches.{contents_of, drop_batch, IsPutBatch, IsCallBatch}
use Rattle.meaning_records.specs.Laws.{ReadsInOneWay}
use Rattle.validator.specs.Fitting.{FactFits}
use Rattle.kept_tables.specs.Holdings as kept
use Rattle.odin_store.specs.Held.{Change, puts, drops, keeps, apply}
use Rattle.odin_store.proofs.LoadLemmas.{one_taken}
use Rattle.odin_store.proofs.StoreLemmas.{Makes, held_with, state_with}

-- nothing more is noted
nothing_more : (noted : List Fact) → noted ++ [] ≡ noted
nothing_more [] = refl
nothing_more (fact ∷ noted) = ap (λ l. fact ∷ l) (nothing_more noted)

-- a batch that notes nothing
same_noted : (text : Text) (change : Change) (tables next : Tables) (sources edited : Texts) (payload : List ℕ)
    → ((graph : Option Text) (noted : List Fact) → Reads (state_with tables sources graph noted) payload (state_with next edited graph noted))
    → held_with text next edited ≡ apply change (held_with text tables sources)
    → Makes text change tables sources payload next edited []
same_noted text change tables next sources edited payload reads holds = record {
  reads = λ graph noted some. subst (λ l. Reads (state_with tables sources graph noted) payload (state_with next edited graph l)) (sym (nothing_more noted)) (reads graph noted);
  holds = holds;
  fit = λ g spelled. All-nil (FactFits g);
}

-- ---- a text

-- the text of a content that was just added
seam : (contents : List Value) (value : Value) → slice_get (contents ++ value ∷ []) (length contents) ≡ Some value
seam [] value = refl
seam (first ∷ contents) value = seam contents value

-- a put after tables that have the text
put_taken : (tables next : Tables) (sources : Texts) (graph : Option Text) (noted : List Fact) (name text : Text) (number : ℕ) → Loads tables (Put name number) next → IsText tables.contents number text
    → TakesOne (state_with tables sources graph noted) (Put name number) (state_with next (texts.insert sources name text) graph noted)
put_taken tables next sources graph noted name text number loads there = record { loads = loads; edits = (text, there, refl); graph = refl; ground = tt; noted = refl }

known_put : (of name text : Text) (tables next : Tables) (sources : Texts) (number : ℕ) → IsText tables.contents number text → All item.fits (Put name number ∷ []) → LoadsAll tables (Put name number ∷ []) next
    → Makes of (puts name text) tables sources (spell_batch (Put name number ∷ [])) next (texts.insert sources name text) []
known_put of name text tables next sources number there fit loads =
    let put : Loads tables (Put name number) next = subst (Loads tables (Put name number)) (sym loads.2) loads.1 in
    same_noted of (puts name text) tables next sources (texts.insert sources name text) (spell_batch (Put name number ∷ []))
    (λ graph noted. record {
      items = Put name number ∷ [];
      some = λ none. (let no : ⊥ = cc in no);
      fit = fit;
      spelled = refl;
      taken = (state_with next (texts.insert sources name text) graph noted, put_taken tables next sources graph noted name text number put there, refl);
    })
    (ap (λ (t : Tables). held_with of t (texts.insert sources name text)) put.2)

new_put : (of name text : Text) (tables next : Tables) (sources : Texts) → All item.fits (Content (Simple text) ∷ Put name (length tables.contents) ∷ [])
    → LoadsAll tables (Content (Simple text) ∷ Put name (length tables.contents) ∷ []) next
    → Makes of (puts name text) tables sources (spell_batch (Content (Simple text) ∷ Put name (length tables.contents) ∷ [])) next (texts.insert sources name text) []
new_put of name text tables next sources fit loads =
    let mid : Tables = loads.0 in
    let number = length tables.contents in
    let put : Loads mid (Put name number) next = subst (Loads mid (Put name number)) (sym loads.2.2) loads.2.1 in
    let there : IsText mid.contents number text = subst (λ (t : Tables). IsText t.contents number text) (sym loads.1.1) (seam tables.contents (Simple text)) in
    same_noted of (puts name text) tables next sources (texts.insert sources name text) (spell_batch (Content (Simple text) ∷ Put name number ∷ []))
    (λ graph noted. record {
      items = Content (Simple text) ∷ Put name number ∷ [];
      some = λ none. (let no : ⊥ = cc in no);
      fit = fit;
      spelled = refl;
      taken = (
        state_with mid sources graph noted,
        record { loads = loads.1; edits = refl; graph = refl; ground = tt; noted = refl },
        (state_with next (texts.insert sources name text) graph noted, put_taken mid next sources graph noted name text number put there, refl),
      );
    })
    (ap (λ (t : Tables). held_with of t (texts.insert sources name text)) (put.2 ∙ loads.1.1))

pub put_makes : (of name text : Text) (tables next : Tables) (sources : Texts) (items : List Item) → IsPutBatch tables.contents name text items → All item.fits items → LoadsAll tables items next
    → Makes of (puts name text) tables sources (spell_batch items) next (texts.insert sources name text) []
put_makes of name text tables next sources items (inl known) fit loads =
    subst (λ l. Makes of (puts name text) tables sources (spell_batch l) next (texts.insert sources name text) []) (sym known.2)
    (known_put of name text tables next sources known.0 known.1 (subst (All item.fits) known.2 fit) (subst (λ l. LoadsAll tables l next) known.2 loads))
put_makes of name text tables next sources items (inr new) fit loads =
    subst (λ l. Makes of (puts name text) tables sources (spell_batch l) next (texts.insert sources name text) []) (sym new.1)
    (new_put of name text tables next sources (subst (All item.fits) new.1 fit) (subst (λ l. LoadsAll tables l next) new.1 loads))

-- ---- a drop

pub drop_makes : (of name : Text) (tables : Tables) (sources : Texts) → IsName name → IsSome (texts.get sources name) → Makes of (drops name) tables sources (spell_batch (drop_batch name)) tables (texts.remove sources name) []
drop_makes of name tables sources named there =
    let short : length name ≤ 255 = named.short in
    let fits : item.fits (Dropped name) = omega arith in
    same_noted of (drops name) tables tables sources (texts.remove sources name) (spell_batch (drop_batch name))
    (λ graph noted. record {
      items = drop_batch name;
      some = λ none. (let no : ⊥ = cc in no);
      fit = All-push item.fits [] (Dropped name) (All-nil item.fits) fits;
      spelled = refl;
      taken = (state_with tables (texts.remove sources name) graph noted, record { loads = (named, refl); edits = (there, refl); graph = refl; ground = tt; noted = refl }, refl);
    })
    refl

-- ---- a call

-- the items of a call's batch change no source and no graph
abbrev IsPlain : Item → Type 0
IsPlain (Content value) = ⊤
IsPlain (Kept call outcome) = ⊤
IsPlain other = ⊥

abbrev ArePlain : List Item → Type 0
ArePlain [] = ⊤
ArePlain (it ∷ items) = IsPlain it × ArePlain items

plain_taken : (it : Item) (tables next : Tables) (sources : Texts) (graph : Option Text) (noted : List Fact) → IsPlain it → Loads tables it next
    → TakesOne (state_with tables sources graph noted) it (state_with next sources graph noted)
plain_taken (Graph text) tables next sources graph noted plain loads = absurd plain
plain_taken (Content value) tables next sources graph noted plain loads = record { loads = loads; edits = refl; graph = refl; ground = tt; noted = refl }
plain_taken (Put name number) tables next sources graph noted plain loads = absurd plain
plain_taken (Dropped name) tables next sources graph noted plain loads = absurd plain
plain_taken (Kept call outcome) tables next sources graph noted plain loads = record { loads = loads; edits = refl; graph = refl; ground = tt; noted = refl }
plain_taken (Node stored) tables next sources graph noted plain loads = absurd plain

all_plain_taken : (items : List Item) (tables next : Tables) (sources : Texts) (graph : Option Text) (noted : List Fact) → ArePlain items → LoadsAll tables items next
    → TakesAll (state_with tables sources graph noted) items (state_with next sources graph noted)
all_plain_taken [] tables next sources graph noted plain loads = ap (λ (t : Tables). state_with t sources graph noted) loads
all_plain_taken (it ∷ items) tables next sources graph noted plain loads = (
  state_with loads.0 sources graph noted,
  plain_taken it tables loads.0 sources graph noted plain.0 loads.1,
  all_plain_taken items loads.0 next sources graph noted plain.1 loads.2,
)

-- they note nothing
plain_same : (it : Item) (tables next : Tables) → IsPlain it → Loads tables it next → next.records ≡ tables.records
plain_same (Graph text) tables next plain loads = absurd plain
plain_same (Content value) tables next plain loads = ap (λ (t : Tables). t.records) loads.1
plain_same (Put name number) tables next plain loads = absurd plain
plain_same (Dropped name) tables next plain loads = absurd plain
plain_same (Kept call outcome) tables next plain loads = ap (λ (t : Tables). t.records) loads.3
plain_same (Node stored) tables next plain loads = absurd plain

plain_records : (items : List Item) (tables next : Tables) → ArePlain items → LoadsAll tables items next → next.records ≡ tables.records
plain_records [] tables next plain loads = ap (λ (t : Tables). t.records) loads
plain_records (it ∷ items) tables next plain loads = plain_records items loads.0 next plain.1 loads.2 ∙ plain_same it tables loads.0 plain.0 loads.1

call_plain : (values : List Value) (stored : StoredCall) (given : StoredOutcome) → ArePlain (map Content values ++ Kept stored given ∷ [])
call_plain [] stored given = (tt, tt)
call_plain (value ∷ values) stored given = (tt, call_plain values stored given)

call_some : (values : List Value) (stored : StoredCall) (given : StoredOutcome) → map Content values ++ Kept stored given ∷ [] ≢ []
call_some [] stored given none = let no : ⊥ = cc in no
call_some (value ∷ values) stored given none = let no : ⊥ = cc in no

-- the call is kept after the contents that it needs
call_loaded : ReadsInOneWay → (values : List Value) (tables next : Tables) (contents : List Value) (stored : StoredCall) (given : StoredOutcome) (call : Call) (outcome : Outcome)
    → contents ≡ tables.contents ++ values → IsCallOf contents stored call → IsOutcomeOf contents given outcome → kept.MayKeep tables call outcome
    → All item.fits (map Content values ++ Kept stored given ∷ []) → LoadsAll tables (map Content values ++ Kept stored given ∷ []) next
    → next.calls ≡ tables.calls ++ (call, outcome) ∷ []
call_loaded law [] tables next contents stored given call outcome is called came may fit loads =
    let here : contents ≡ tables.contents = is ∙ nothing_behind tables.contents in
    let may_be : MayBeKept tables stored given call outcome = record {
      called = subst (λ c. IsCallOf c stored call) here called;
      came = subst (λ c. IsOutcomeOf c given outcome) here came;
      formed = may.formed;
      fits = may.fits;
      new = may.new;
    } in
    let state : Tables → State = λ t. state_with t no_texts None [] in
    let one : state loads.0 ≡ state (with_call call outcome tables) =
    one_taken law (state tables) (Kept stored given) (state (with_call call outcome tables)) (state loads.0) (All-head item.fits (Kept stored given) [] fit)
    (record { loads = (call, outcome, may_be, refl); edits = refl; graph = refl; ground = tt; noted = refl })
    (record { loads = loads.1; edits = refl; graph = refl; ground = tt; noted = refl }) in
    ap (λ (t : Tables). t.calls) loads.2 ∙ ap (λ (s : State). s.tables.calls) one
  where
    nothing_behind : (xs : List Value) → xs ++ [] ≡ xs
    nothing_behind [] = refl
    nothing_behind (x ∷ xs) = ap (λ l. x ∷ l) (nothing_behind xs)
call_loaded law (value ∷ values) tables next contents stored given call outcome is called came may fit loads =
    let mid : Tables = loads.0 in
    let same : mid ≡ with_content value tables = loads.1.1 in
    let calls : mid.calls ≡ tables.calls = ap (λ (t : Tables). t.calls) same in
    let longer : contents ≡ mid.contents ++ values = is ∙ sym (append_assoc tables.contents (value ∷ []) values) ∙ ap (λ (t : Tables). t.contents ++ values) (sym same) in
    let still : kept.MayKeep mid call outcome = record { formed = may.formed; fits = may.fits; new = subst (λ c. IsNone (kept_outcome c call)) (sym calls) may.new } in
    call_loaded law values mid next contents stored given call outcome longer called came still (All-tail item.fits (Content value) (map Content values ++ Kept stored given ∷ []) fit) loads.2
    ∙ ap (λ c. c ++ (call, outcome) ∷ []) calls

pub call_makes : ReadsInOneWay → (of : Text) (call : Call) (outcome : Outcome) (tables next : Tables) (sources : Texts) (items : List Item) → kept.MayKeep tables call outcome → IsCallBatch tables.contents call outcome items
    → All item.fits items → LoadsAll tables items next → Makes of (keeps call outcome) tables sources (spell_batch items) next sources []
call_makes law of call outcome tables next sources items may batch fit loads =
    let values : List Value = contents_of batch.added in
    let all : List Item = map Content values ++ Kept batch.stored batch.given ∷ [] in
    let fit_all : All item.fits all = subst (All item.fits) batch.items_are fit in
    let loads_all : LoadsAll tables all next = subst (λ l. LoadsAll tables l next) batch.items_are loads in
    subst (λ l. Makes of (keeps call outcome) tables sources (spell_batch l) next sources []) (sym batch.items_are)
    (same_noted of (keeps call outcome) tables next sources sources (spell_batch all)
    (λ graph noted. record {
      items = all;
      some = call_some values batch.stored batch.given;
      fit = fit_all;
      spelled = refl;
      taken = all_plain_taken all tables next sources graph noted (call_plain values batch.stored batch.given) loads_all;
    })
    (let called = call_loaded law values tables next (tables.contents ++ values) batch.stored batch.given call outcome refl batch.called batch.came may fit_all loads_all in
    let same = plain_records all tables next (call_plain values batch.stored batch.given) loads_all in
    λ i. record { text = of; sources = sources; calls = called i; records = same i }))
