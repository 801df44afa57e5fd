-- What an item brings makes of what was read, which isn't held.
use Rattle.std.proofs.Common.{◌≡◌, ◌≢◌, inl, inr, ℕ, Bool, true, false, cond, List, [], ◌∷◌, ◌++◌, length, length-append, All, Option, Some, None, IsSome, refl, sym, ap, subst, ◌∙◌, arith}
use Rattle.std.specs.FinMap as map
use Rattle.std.specs.Str.{bytes_eq}
use Rattle.std.proofs.lemmas.List.Elements.{All-nil, All-push, All-head, All-tail}
use Rattle.std.proofs.lemmas.Slice.Eq.{bytes_eq-Decides}
use Rattle.object_values.specs.declared.facts.Fact.{Fact}
use Rattle.object_values.specs.Texts.{Text}
use Rattle.object_values.specs.declared.items.StoredRecord.{StoredRecord}
use Rattle.object_values.specs.declared.items.Item.{Item}
use Rattle.object_values.specs.declared.items.Item.TheVariants.{Graph as GraphItem, Content, Put, Dropped, Kept, Node}
use Rattle.meaning_graph.specs.Graphs.{Graph}
use Rattle.meaning_records.specs.Records.{item}
use Rattle.meaning_records.specs.FormLemmas.{one_item}
use Rattle.meaning_records.specs.PlaceLemmas.{one_stands}
use Rattle.meaning_records.specs.Tables.{Tables, Loads}
use Rattle.meaning_records.specs.States.{TakesOne}
use Rattle.validator.specs.Fitting.{FactFits}
use Rattle.kept_tables.specs.declared.loaded.Loaded.{Loaded}
use Rattle.kept_tables.specs.declared.loaded.Loaded.TheVariants as loaded
use Rattle.kept_tables.specs.Holdings.{Holding}
use Rattle.kept_tables.specs.Loading.{IsLoaded, LoadsItem, LoadsNothing}
use Rattle.odin_store.specs.declared.loading.Ground.{Ground}
use Rattle.odin_store.specs.declared.loading.Ground.TheVariants as ground_is
use Rattle.odin_store.specs.declared.loading.Loading.{Loading}
use Rattle.odin_store.specs.Held.{counts}
use Rattle.odin_store.specs.Offsets.{FirstUnfit}
use Rattle.odin_store.specs.Loading.{Past, IsPast, IsForSame, IsGround, IsUnfit, TellsGraph, NotesFact, NotesAt, TakesIn, Refuses, ReadsOn, TakesItem, TakesNoItem, after_graph, with_noted, state_of}

-- ---- one item

dropped_there : (contents : List _) (facts : List Fact) (it : Item) (given : Loaded) (name : List ℕ) → IsLoaded contents facts it given → given ≡ loaded.Dropped name → it ≡ Dropped name
dropped_there contents facts (GraphItem text) given name gives is = let no : ⊥ = cc in absurd no
dropped_there contents facts (Content value) given name gives is = let no : ⊥ = cc in absurd no
dropped_there contents facts (Put at number) given name gives is = let other : given ≡ loaded.Put at gives.0 = gives.2 in let no : ⊥ = cc in absurd no
dropped_there contents facts (Dropped at) given name gives is = cc
dropped_there contents facts (Kept call outcome) given name gives is = let no : ⊥ = cc in absurd no
dropped_there contents facts (Node stored) given name gives is = let other : given ≡ loaded.Noted gives.place = gives.is in let no : ⊥ = cc in absurd no

noted_there : (contents : List _) (facts : List Fact) (it : Item) (given : Loaded) (place : ℕ) → IsLoaded contents facts it given → given ≡ loaded.Noted place → (stored : StoredRecord) × (it ≡ Node stored)
noted_there contents facts (GraphItem text) given place gives is = let no : ⊥ = cc in absurd no
noted_there contents facts (Content value) given place gives is = let no : ⊥ = cc in absurd no
noted_there contents facts (Put at number) given place gives is = let other : given ≡ loaded.Put at gives.0 = gives.2 in let no : ⊥ = cc in absurd no
noted_there contents facts (Dropped at) given place gives is = let no : ⊥ = cc in absurd no
noted_there contents facts (Kept call outcome) given place gives is = let no : ⊥ = cc in absurd no
noted_there contents facts (Node stored) given place gives is = (stored, refl)

not_some : (o : Option Text) → o ≡ None → IsSome o → ⊥
not_some None none some = let no : ⊥ = cc in no
not_some (Some text) none some = let no : ⊥ = cc in no

-- what may not come is no item that does
pub given_refused : (payload : List ℕ) (at end : ℕ) (given : Loaded) (old : Loading) (tables : Tables) → LoadsItem payload at end given old.kept.tables tables → Refuses given old → TakesNoItem payload at old
given_refused payload at end (loaded.Dropped name) old tables loads none = λ past is it last new stands takes.
    let there = dropped_there old.kept.tables.contents tables.records loads.it (loaded.Dropped name) name loads.gives refl in
    let same = (one_stands item one_item payload at end last loads.it it loads.stands stands).0 in
    let dropped : TakesOne (state_of old past) (Dropped name) new = subst (λ i. TakesOne (state_of old past) i new) (sym same ∙ there) takes in
    not_some (map.get old.sources.texts name) none dropped.edits.0
given_refused payload at end (loaded.Noted place) old tables loads none = λ past is it last new stands takes.
    let there = noted_there old.kept.tables.contents tables.records loads.it (loaded.Noted place) place loads.gives refl in
    let same = (one_stands item one_item payload at end last loads.it it loads.stands stands).0 in
    let noted : TakesOne (state_of old past) (Node there.0) new = subst (λ i. TakesOne (state_of old past) i new) (sym same ∙ there.1) takes in
    let before : IsGround old.graph.now old.text.now past ground_is.Nothing = subst (IsGround old.graph.now old.text.now past) none is.ground in
    not_some past.last before noted.ground
given_refused payload at end (loaded.Graph text) old tables loads none = absurd none
given_refused payload at end loaded.Content old tables loads none = absurd none
given_refused payload at end (loaded.Put name text) old tables loads none = absurd none
given_refused payload at end loaded.CallKept old tables loads none = absurd none

-- the tables tell nothing of it
pub refused_same : (given : Loaded) (old : Loading) (kept : Holding) → Refuses given (record old { kept = kept }) → Refuses given old
refused_same (loaded.Dropped name) old kept none = none
refused_same (loaded.Noted place) old kept none = none
refused_same (loaded.Graph text) old kept none = none
refused_same loaded.Content old kept none = none
refused_same (loaded.Put name text) old kept none = none
refused_same loaded.CallKept old kept none = none

past_there : (old : Loading) (kept : Holding) (past : Past) → IsPast old past → IsPast (record old { kept = kept }) past
past_there old kept past is = record { many = is.many; ground = is.ground }

-- What an item brings was taken in, where the tables had taken the item in before.
abbrev TakesInto : Loaded → List Fact → Loading → Loading → Type 0
TakesInto (loaded.Noted place) facts old new = (new.sources.texts ≡ old.sources.texts) × NotesAt place facts old new
TakesInto (loaded.Dropped name) facts old new = TakesIn (loaded.Dropped name) old new
TakesInto (loaded.Graph text) facts old new = TakesIn (loaded.Graph text) old new
TakesInto loaded.Content facts old new = TakesIn loaded.Content old new
TakesInto (loaded.Put name text) facts old new = TakesIn (loaded.Put name text) old new
TakesInto loaded.CallKept facts old new = TakesIn loaded.CallKept old new

taken_same : (given : Loaded) (old new : Loading) (kept : Holding) → TakesIn given (record old { kept = kept }) new → TakesInto given kept.tables.records old new
taken_same (loaded.Dropped name) old new kept taken = taken
taken_same (loaded.Noted place) old new kept taken = (taken.0, λ fact there past is. taken.1 fact there past (past_there old kept past is))
taken_same (loaded.Graph text) old new kept taken = taken
taken_same loaded.Content old new kept taken = taken
taken_same (loaded.Put name text) old new kept taken = taken
taken_same loaded.CallKept old new kept taken = taken

-- what was read stays, for the same graph
pub past_same : (old new : Loading) (past : Past) → IsForSame old new → new.ground ≡ old.ground → IsPast old past → IsPast new past
past_same old new past same ground is = record {
  many = is.many;
  ground =
      subst (λ g. IsGround g new.text.now past new.ground) (sym same.graph)
      (subst (λ t. IsGround old.graph.now t past new.ground) (sym same.text) (subst (IsGround old.graph.now old.text.now past) (sym ground) is.ground));
}

-- what an item brings is what it makes of what was read
given_taken : (it : Item) (given : Loaded) (old new : Loading) (past : Past) → Loads old.kept.tables it new.kept.tables → IsLoaded old.kept.tables.contents new.kept.tables.records it given → IsForSame old new → TakesInto given new.kept.tables.records old new → IsPast old past → ReadsOn it old new past
given_taken (GraphItem text) given old new past loads gives same taken is =
    let now : TakesInto (loaded.Graph text) new.kept.tables.records old new = subst (λ l. TakesInto l new.kept.tables.records old new) gives taken in
    record { next = after_graph text; takes = record { loads = loads; edits = now.0; graph = refl; ground = tt; noted = refl }; is = now.1; gates = refl }
given_taken (Content value) given old new past loads gives same taken is =
    let now : TakesInto loaded.Content new.kept.tables.records old new = subst (λ l. TakesInto l new.kept.tables.records old new) gives taken in
    record { next = past; takes = record { loads = loads; edits = now.0; graph = refl; ground = tt; noted = refl }; is = past_same old new past same now.1 is; gates = refl }
given_taken (Put name number) given old new past loads gives same taken is =
    let now : TakesInto (loaded.Put name gives.0) new.kept.tables.records old new = subst (λ l. TakesInto l new.kept.tables.records old new) gives.2 taken in
    record { next = past; takes = record { loads = loads; edits = (gives.0, gives.1, now.0); graph = refl; ground = tt; noted = refl }; is = past_same old new past same now.1 is; gates = refl }
given_taken (Dropped name) given old new past loads gives same taken is =
    let now : TakesInto (loaded.Dropped name) new.kept.tables.records old new = subst (λ l. TakesInto l new.kept.tables.records old new) gives taken in
    record { next = past; takes = record { loads = loads; edits = (now.0, now.1); graph = refl; ground = tt; noted = refl }; is = past_same old new past same now.2 is; gates = refl }
given_taken (Kept call outcome) given old new past loads gives same taken is =
    let now : TakesInto loaded.CallKept new.kept.tables.records old new = subst (λ l. TakesInto l new.kept.tables.records old new) gives taken in
    record { next = past; takes = record { loads = loads; edits = now.0; graph = refl; ground = tt; noted = refl }; is = past_same old new past same now.1 is; gates = refl }
given_taken (Node stored) given old new past loads gives same taken is =
    let now : TakesInto (loaded.Noted gives.place) new.kept.tables.records old new = subst (λ l. TakesInto l new.kept.tables.records old new) gives.is taken in
    let noted = now.1 gives.fact gives.there past is in
    record {
      next = with_noted old.gate gives.fact past;
      takes = record { loads = loads; edits = now.0; graph = refl; ground = noted.0; noted = (gives.fact, gives.says, refl) };
      is = noted.1;
      gates = refl;
    }

pub item_taken : (payload : List ℕ) (at end : ℕ) (given : Loaded) (old new : Loading) (kept : Holding) → LoadsItem payload at end given old.kept.tables kept.tables → new.kept ≡ kept
    → IsForSame old new → TakesIn given (record old { kept = kept }) new → TakesItem payload at end old new
item_taken payload at end given old new kept loads is same taken =
    let tables : new.kept.tables ≡ kept.tables = ap (λ (k : Holding). k.tables) is in
    let here : LoadsItem payload at end given old.kept.tables new.kept.tables = subst (LoadsItem payload at end given old.kept.tables) (sym tables) loads in
    let into : TakesInto given new.kept.tables.records old new = subst (λ (t : Tables). TakesInto given t.records old new) (sym tables) (taken_same given old new kept taken) in
    record {
      it = here.it;
      stands = here.stands;
      takes = λ past was. given_taken here.it given old new past here.loads here.gives same into was;
    }

pub none_taken : (payload : List ℕ) (at : ℕ) (old : Loading) → LoadsNothing payload at old.kept.tables → TakesNoItem payload at old
none_taken payload at old nothing past is it end new stands takes = nothing it end new.tables stands takes.loads

-- ---- what is noted

unfit_stays : (g : Graph) (facts more : List Fact) (gates others : List ℕ) (at : ℕ) → FirstUnfit g facts gates at → FirstUnfit g (facts ++ more) (gates ++ others) at
unfit_stays g [] more gates others at first = absurd first
unfit_stays g (fact ∷ facts) more [] others at first = absurd first
unfit_stays g (fact ∷ facts) more (gate ∷ gates) others at (inl here) = inl here
unfit_stays g (fact ∷ facts) more (gate ∷ gates) others at (inr later) = inr (later.0, unfit_stays g facts more gates others at later.1)

unfit_now : (g : Graph) (facts : List Fact) (gates : List ℕ) (fact : Fact) (gate : ℕ) → length gates ≡ length facts → All (FactFits g) facts → ¬ FactFits g fact → FirstUnfit g (facts ++ fact ∷ []) (gates ++ gate ∷ []) gate
unfit_now g [] [] fact gate many all unfit = inl (unfit, refl)
unfit_now g [] (other ∷ gates) fact gate many all unfit = absurd (omega (arith, many))
unfit_now g (first ∷ facts) [] fact gate many all unfit = absurd (omega (arith, many))
unfit_now g (first ∷ facts) (other ∷ gates) fact gate many all unfit =
    inr (All-head (FactFits g) first facts all, unfit_now g facts gates fact gate (omega (arith, many)) (All-tail (FactFits g) first facts all) unfit)

one_many : (gates : List ℕ) (gate : ℕ) (facts : List Fact) (fact : Fact) → length gates ≡ length facts → length (gates ++ gate ∷ []) ≡ length (facts ++ fact ∷ [])
one_many gates gate facts fact many = omega (arith, many, length-append gates (gate ∷ []), length-append facts (fact ∷ []))

-- another graph
pub notes_other : (fact : Fact) (old new : Loading) → IsForSame old new → old.ground ≡ ground_is.Other → new.ground ≡ ground_is.Other → NotesFact fact old new
notes_other fact old new same was now past is =
    let other : IsGround old.graph.now old.text.now past ground_is.Other = subst (IsGround old.graph.now old.text.now past) was is.ground in (
      other.0,
      record {
        many = one_many past.gates old.gate past.noted fact is.many;
        ground =
            subst (IsGround new.graph.now new.text.now (with_noted old.gate fact past)) (sym now)
            (other.0, subst (λ t. counts t past.last ≡ false) (sym same.text) other.1);
      },
    )

counted_some : (text : Text) (last : Option Text) → counts text last ≡ true → IsSome last
counted_some text None counted = let no : ⊥ = cc in absurd no
counted_some text (Some last) counted = refl

-- this one
pub notes_this : (fact : Fact) (old new : Loading) (unfit next : Option ℕ) → IsForSame old new → old.ground ≡ ground_is.This unfit → new.ground ≡ ground_is.This next
    → ((past : Past) → length past.gates ≡ length past.noted → IsUnfit old.graph.now past unfit → IsUnfit old.graph.now (with_noted old.gate fact past) next) → NotesFact fact old new
notes_this fact old new unfit next same was now goes past is =
    let this : IsGround old.graph.now old.text.now past (ground_is.This unfit) = subst (IsGround old.graph.now old.text.now past) was is.ground in (
      counted_some old.text.now past.last this.0,
      record {
        many = one_many past.gates old.gate past.noted fact is.many;
        ground =
            subst (IsGround new.graph.now new.text.now (with_noted old.gate fact past)) (sym now) (
              subst (λ t. counts t past.last ≡ true) (sym same.text) this.0,
              subst (λ g. IsUnfit g (with_noted old.gate fact past) next) (sym same.graph) (goes past is.many this.1),
            );
      },
    )

pub unfit_before : (g : Graph) (fact : Fact) (gate at : ℕ) (past : Past) → IsUnfit g past (Some at) → IsUnfit g (with_noted gate fact past) (Some at)
unfit_before g fact gate at past first = unfit_stays g past.noted (fact ∷ []) past.gates (gate ∷ []) at first

pub fits_too : (g : Graph) (fact : Fact) (gate : ℕ) (past : Past) → FactFits g fact → IsUnfit g past None → IsUnfit g (with_noted gate fact past) None
fits_too g fact gate past fits all = All-push (FactFits g) past.noted fact all fits

pub unfit_here : (g : Graph) (fact : Fact) (gate : ℕ) (past : Past) → length past.gates ≡ length past.noted → ¬ FactFits g fact → IsUnfit g past None → IsUnfit g (with_noted gate fact past) (Some gate)
unfit_here g fact gate past many unfit all = unfit_now g past.noted past.gates fact gate many all unfit

-- ---- what the last graph tells

-- a graph that was just read
pub new_ground : (g : Graph) (text last : Text) (this : Bool) → (this ≡ true → last ≡ text) → (this ≡ false → last ≢ text)
    → IsGround g text (after_graph last) (cond this (ground_is.This None) ground_is.Other)
new_ground g text last true same other = ((bytes_eq-Decides last text).1 (same refl), All-nil (FactFits g))
new_ground g text last false same other = (refl, not_equal (bytes_eq last text) refl)
  where
    not_equal : (b : Bool) → bytes_eq last text ≡ b → bytes_eq last text ≡ false
    not_equal true equal = absurd (other refl ((bytes_eq-Decides last text).0 equal))
    not_equal false differ = differ

counted_is : (text : Text) (last : Option Text) → counts text last ≡ true → last ≡ Some text
counted_is text None counted = let no : ⊥ = cc in absurd no
counted_is text (Some last) counted = ap Some ((bytes_eq-Decides last text).0 counted)

not_counted : (text : Text) (last : Option Text) → counts text last ≡ false → last ≢ Some text
not_counted text None differ is = let no : ⊥ = cc in no
not_counted text (Some last) differ is =
    let same : last ≡ text = cc in
    let equal = (bytes_eq-Decides last text).1 same in
    let no : ⊥ = cc in no

-- whether it is this one
abbrev pub is_this : Ground → Bool
is_this ground_is.Nothing = false
is_this ground_is.Other = false
is_this (ground_is.This unfit) = true

pub tells_graph : (g : Graph) (text : Text) (past : Past) (ground : Ground) → IsGround g text past ground → TellsGraph text past.last (is_this ground)
tells_graph g text past ground_is.Nothing none = λ is. (let no : ⊥ = cc in no)
tells_graph g text past ground_is.Other other = not_counted text past.last other.1
tells_graph g text past (ground_is.This unfit) this = counted_is text past.last this.0
