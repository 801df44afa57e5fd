-- The loading of payloads: what was read so far, and that nothing else can be read.
use Rattle.std.proofs.Common.{◌≡◌, ◌≢◌, ℕ, ◌+◌, ◌-◌, ◌<◌, ◌≤◌, List, [], ◌∷◌, ◌++◌, length, take, flat_map, slice_range, length-append, refl, sym, ap, subst, ◌∙◌, arith}
use Rattle.std.proofs.lemmas.List.{take_all}
use Rattle.std.proofs.lemmas.List.Elements.{All-nil, All-push, All-head, All-tail}
use Rattle.object_values.specs.declared.items.Item.{Item}
use Rattle.object_values.specs.declared.items.Item.TheVariants.{Graph, Content, Put, Dropped, Kept, Node}
use Rattle.meaning_records.specs.Forms.{ParsesAt}
use Rattle.meaning_records.specs.Records.{item}
use Rattle.meaning_records.specs.FormLemmas.{one_item}
use Rattle.meaning_records.specs.PlaceLemmas.{FollowAt, none_follow, one_more_follows, one_stands, field_end, field_split}
use Rattle.meaning_records.specs.States.{State, TakesOne, TakesAll, Reads, ReadsAll, spell_batch}
use Rattle.meaning_records.specs.Laws.{ReadsInOneWay}
use Rattle.odin_store.specs.declared.loading.Loading.{Loading}
use Rattle.odin_store.specs.Loading.{Past, IsPast, TakesItem, TakesNone, TakesNoItem, LoadsOn, ReadsNot, LoadsNot, state_of}
use Rattle.odin_store.specs.Offsets.{gates_with, gates_with_all}

-- all of a list
whole_range : (xs : List ℕ) (end : ℕ) → end ≡ length xs → slice_range xs 0 end ≡ xs
whole_range xs end is = ap (λ n. take n xs) (let all : end - 0 ≡ length xs = omega arith in all) ∙ take_all (length xs) xs (omega arith)

-- ---- one item

pub item_some : (it : Item) → 0 < length (item.spell it)
item_some (Graph text) = omega arith
item_some (Content value) = omega arith
item_some (Put name number) = omega arith
item_some (Dropped name) = omega arith
item_some (Kept call outcome) = omega arith
item_some (Node stored) = omega arith

-- an item stands at a place of a payload, and makes this of what is kept
pub record TakesThere (payload : List ℕ) (at end : ℕ) (old new : State) : Type 0 where
  pub it : Item
  pub stands : ParsesAt item payload at end it
  pub takes : TakesOne old it new

-- ---- items so far, and items to come

pub takes_on : (items : List Item) (it : Item) (old mid new : State) → TakesAll old items mid → TakesOne mid it new → TakesAll old (items ++ it ∷ []) new
takes_on [] it old mid new before takes = (new, subst (λ s. TakesOne s it new) before takes, refl)
takes_on (first ∷ items) it old mid new before takes = (before.0, before.1, takes_on items it before.0 mid new before.2 takes)

alone : (old : State) (it : Item) (new : State) → item.fits it → TakesOne old it new → Reads old (spell_batch (it ∷ [])) new
alone old it new fits takes = record {
  items = it ∷ [];
  some = λ none. (let no : ⊥ = cc in no);
  fit = All-push item.fits [] it (All-nil item.fits) fits;
  spelled = refl;
  taken = (new, takes, refl);
}

pub one_taken : ReadsInOneWay → (old : State) (it : Item) (new other : State) → item.fits it → TakesOne old it new → TakesOne old it other → other ≡ new
one_taken law old it new other fits takes also = law old (spell_batch (it ∷ [])) new other (alone old it new fits takes) (alone old it other fits also)

-- the items up to a place make this of what was kept
pub record ReadsTo (payload : List ℕ) (at : ℕ) (old now : State) : Type 0 where
  pub items : List Item
  pub follow : FollowAt item payload 0 at items
  pub taken : TakesAll old items now

-- and those from there on make that of it
pub record ReadsFrom (payload : List ℕ) (at : ℕ) (now new : State) : Type 0 where
  pub items : List Item
  pub follow : FollowAt item payload at (length payload) items
  pub taken : TakesAll now items new

abbrev pub at_start : (payload : List ℕ) (old : State) → ReadsTo payload 0 old old
at_start payload old = record { items = []; follow = none_follow item payload 0 (omega arith); taken = refl }

pub from_start : (payload : List ℕ) (old new : State) → Reads old payload new → ReadsFrom payload 0 old new
from_start payload old new reads = record {
  items = reads.items;
  follow = record { fit = reads.fit; field = record { in_range = (omega arith, omega arith); bytes = whole_range payload (length payload) refl ∙ reads.spelled } };
  taken = reads.taken;
}

abbrev pub one_more : (payload : List ℕ) (at end : ℕ) (old now new : State) → ReadsTo payload at old now → TakesThere payload at end now new → ReadsTo payload end old new
one_more payload at end old now new before taken = record {
  items = before.items ++ taken.it ∷ [];
  follow = one_more_follows item payload 0 at end before.items taken.it before.follow taken.stands;
  taken = takes_on before.items taken.it old now new before.taken taken.takes;
}

-- the first of the items from a place on, and the others
record Front (payload : List ℕ) (at : ℕ) (now new : State) : Type 0 where
  it : Item
  end : ℕ
  next : State
  stands : ParsesAt item payload at end it
  takes : TakesOne now it next
  rest : ReadsFrom payload end next new

front_of : (payload : List ℕ) (at : ℕ) (now new : State) (items : List Item) → at < length payload → FollowAt item payload at (length payload) items → TakesAll now items new → Front payload at now new
front_of payload at now new [] inside follow taken = absurd (omega (arith, field_end payload at (length payload) [] follow.field))
front_of payload at now new (it ∷ items) inside follow taken =
    let fields = field_split payload at (length payload) (item.spell it) (flat_map item.spell items) follow.field in
    record {
      it = it;
      end = at + length (item.spell it);
      next = taken.0;
      stands = record { fits = All-head item.fits it items follow.fit; field = fields.first };
      takes = taken.1;
      rest = record { items = items; follow = record { fit = All-tail item.fits it items follow.fit; field = fields.second }; taken = taken.2 };
    }

pub on_from : ReadsInOneWay → (payload : List ℕ) (at end : ℕ) (now next new : State) → at < length payload → TakesThere payload at end now next → ReadsFrom payload at now new → ReadsFrom payload end next new
on_from law payload at end now next new inside taken reads =
    let front = front_of payload at now new reads.items inside reads.follow reads.taken in
    let same = one_stands item one_item payload at front.end end front.it taken.it front.stands taken.stands in
    let also : TakesOne now taken.it front.next = subst (λ i. TakesOne now i front.next) same.0 front.takes in
    let state : front.next ≡ next = one_taken law now taken.it next front.next taken.stands.fits taken.takes also in
    subst (λ s. ReadsFrom payload end s new) state (subst (λ e. ReadsFrom payload e front.next new) same.1 front.rest)

pub none_from : (payload : List ℕ) (at : ℕ) (now new : State) → at < length payload → TakesNone payload at now → ReadsFrom payload at now new → ⊥
none_from payload at now new inside none reads =
    let front = front_of payload at now new reads.items inside reads.follow reads.taken in
    none front.it front.end front.next front.stands front.takes

-- ---- a whole payload

none_spelled : (items : List Item) → items ≢ [] → 0 < length (spell_batch items)
none_spelled [] some = absurd (some refl)
none_spelled (it ∷ items) some = omega (arith, item_some it, length-append (item.spell it) (spell_batch items))

pub empty_unread : (old : State) (payload : List ℕ) → length payload ≡ 0 → ReadsNot old payload
empty_unread old payload empty new reads =
    let some = none_spelled reads.items reads.some in
    let none : length (spell_batch reads.items) ≡ 0 = sym (ap length reads.spelled) ∙ empty in
    omega arith

whole_spelled : (payload : List ℕ) (at : ℕ) (old new : State) → length payload ≤ at → at ≤ length payload → (reads : ReadsTo payload at old new) → payload ≡ spell_batch reads.items
whole_spelled payload at old new past inside reads =
    let end : at ≡ length payload = omega arith in
    sym (whole_range payload at end) ∙ reads.follow.field.bytes

pub all_read : (payload : List ℕ) (at : ℕ) (old new : State) → payload ≢ [] → length payload ≤ at → at ≤ length payload → ReadsTo payload at old new → Reads old payload new
all_read payload at old new some past inside reads =
    let whole : payload ≡ spell_batch reads.items = whole_spelled payload at old new past inside reads in
    record {
      items = reads.items;
      some = λ none. some (whole ∙ ap spell_batch none);
      fit = reads.follow.fit;
      spelled = whole;
      taken = reads.taken;
    }

-- ---- what was loaded

with_more : (gate : ℕ) (items : List Item) (it : Item) (gates : List ℕ) → gates_with_all gate (items ++ it ∷ []) gates ≡ gates_with gate it (gates_with_all gate items gates)
with_more gate [] it gates = refl
with_more gate (first ∷ items) it gates = with_more gate items it (gates_with gate first gates)

-- The items up to a place of the payload were loaded, and what the payload makes of what was the others make.
pub record ItemsLoaded (payload : List ℕ) (at : ℕ) (old now : Loading) (past : Past) : Type 0 where
  pub next : Past
  pub before : ReadsTo payload at (state_of old past) (state_of now next)
  pub is : IsPast now next
  pub gates : next.gates ≡ gates_with_all old.gate before.items past.gates
  pub behind : (new : State) → Reads (state_of old past) payload new → ReadsFrom payload at (state_of now next) new

pub none_loaded : (payload : List ℕ) (old : Loading) (past : Past) → IsPast old past → ItemsLoaded payload 0 old old past
none_loaded payload old past is = record { next = past; before = at_start payload (state_of old past); is = is; gates = refl; behind = from_start payload (state_of old past) }

pub one_loaded : ReadsInOneWay → (payload : List ℕ) (at end : ℕ) (old now new : Loading) (past : Past) → now.gate ≡ old.gate → at < length payload → TakesItem payload at end now new → ItemsLoaded payload at old now past → ItemsLoaded payload end old new past
one_loaded law payload at end old now new past gate inside taken loaded =
    let on = taken.takes loaded.next loaded.is in
    let there : TakesThere payload at end (state_of now loaded.next) (state_of new on.next) = record { it = taken.it; stands = taken.stands; takes = on.takes } in
    record {
      next = on.next;
      before = one_more payload at end (state_of old past) (state_of now loaded.next) (state_of new on.next) loaded.before there;
      is = on.is;
      gates = on.gates ∙ ap (λ n. gates_with n taken.it loaded.next.gates) gate ∙ ap (gates_with old.gate taken.it) loaded.gates ∙ sym (with_more old.gate loaded.before.items taken.it past.gates);
      behind = λ other reads. on_from law payload at end (state_of now loaded.next) (state_of new on.next) other inside there (loaded.behind other reads);
    }

pub item_ends : (payload : List ℕ) (at end : ℕ) (old new : Loading) → TakesItem payload at end old new → (at < end) × (end ≤ length payload)
item_ends payload at end old new taken =
    let some = item_some taken.it in
    let is = field_end payload at end (item.spell taken.it) taken.stands.field in
    (omega arith, taken.stands.field.in_range.1)

pub none_more : (payload : List ℕ) (at : ℕ) (old now : Loading) → at < length payload → TakesNoItem payload at now → ((past : Past) → IsPast old past → ItemsLoaded payload at old now past) → LoadsNot payload old
none_more payload at old now inside none loaded past is new reads =
    let here = loaded past is in
    none_from payload at (state_of now here.next) new inside (none here.next here.is) (here.behind new reads)

pub all_loaded : (payload : List ℕ) (at : ℕ) (old now : Loading) (past : Past) → payload ≢ [] → length payload ≤ at → at ≤ length payload → ItemsLoaded payload at old now past → LoadsOn payload old now past
all_loaded payload at old now past some passed inside loaded = record {
  next = loaded.next;
  reads = all_read payload at (state_of old past) (state_of now loaded.next) some passed inside loaded.before;
  is = loaded.is;
  gates = (loaded.before.items, loaded.before.follow.fit, whole_spelled payload at (state_of old past) (state_of now loaded.next) passed inside loaded.before, loaded.gates);
}

-- ---- payloads one after another

pub reads_on : (payloads : List (List ℕ)) (payload : List ℕ) (old mid new : State) → ReadsAll old payloads mid → Reads mid payload new → ReadsAll old (payloads ++ payload ∷ []) new
reads_on [] payload old mid new before reads = (new, subst (λ s. Reads s payload new) before reads, refl)
reads_on (first ∷ payloads) payload old mid new before reads = (before.0, before.1, reads_on payloads payload before.0 mid new before.2 reads)

-- records read in one way
pub read_once : ReadsInOneWay → (records : List (List ℕ)) (first one other : State) → ReadsAll first records one → ReadsAll first records other → other ≡ one
read_once law [] first one other reads also = also ∙ sym reads
read_once law (payload ∷ records) first one other reads also =
    let same : also.0 ≡ reads.0 = law first payload reads.0 also.0 reads.1 also.1 in
    read_once law records reads.0 one other reads.2 (subst (λ s. ReadsAll s records other) same also.2)
