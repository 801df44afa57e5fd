-- What calls of a store do, as changes one after another.
use Rattle.std.proofs.Common.{◌≡◌, ◌≢◌, inl, inr, ℕ, Option, Bool, true, false, List, [], ◌∷◌, ◌++◌, refl, sym, ap, subst, ◌∙◌, append_assoc, arith}
use Rattle.odin_outside.specs.Disk.{Telling}
use Rattle.object_values.specs.declared.views.Value.{Value}
use Rattle.odin_journal.specs.WorkLemmas.{no_work}
use Rattle.odin_journal.specs.Trails as trails
use Rattle.odin_journal.specs.TrailLemmas.{after-append, keeps_grows, stops_within, untouched_grows, grows_on, grows_stops, grows_left, stops_longer, trail_leaves}
use Rattle.odin_journal.specs.declared.fault.JournalFault.{JournalFault}
use Rattle.odin_journal.specs.declared.fault.JournalFault.TheVariants as fault
use Rattle.object_values.specs.declared.items.Item.{Item}
use Rattle.meaning_records.specs.Laws.{ReadsInOneWay}
use Rattle.meaning_records.specs.Stands.{gate_behind}
use Rattle.odin_journal.specs.declared.journal.Journal.{Journal}
use Rattle.meaning_records.specs.States.{State, nothing, Reads, ReadsAll, spell_batch}
use Rattle.odin_store.specs.declared.store.Store.{Store}
use Rattle.object_values.specs.declared.facts.Fact.{Fact}
use Rattle.object_values.specs.declared.facts.Fresh.{Fresh}
use Rattle.meaning_records.specs.Batches.{facts_of}
use Rattle.object_values.specs.Texts.{Text}
use Rattle.odin_store.specs.Held.{Change, notes, apply}
use Rattle.odin_store.specs.OnDisk.{held_in, state_in, IsOn, LeavesChange, AddsBatch, IsChangeFault, IsSame, BeginsOnce, IsOneOf}
use Rattle.odin_store.specs.Changes.{NotesBatch, EditsWhere}
use Rattle.odin_store.specs.Keeping.{store_keeping}
use Rattle.odin_store.specs.Going.{IsBatchOf, AreBatches, HasBatches, Performs, IsPartialBatch, HasPartialBatches, LeavesBegun, StopsPerforming}
use Rattle.odin_store.specs.Written.{WorksFor, with_records, record_keeping, LeavesFirst, RecordsRest}
use Rattle.odin_store.proofs.RecordTrails.{stops_record, first_leaves, rests_leave}
use Rattle.odin_store.specs.Edited.{HasEdited, HasFailed}
use Rattle.odin_store.proofs.WrittenLemmas.{gate-append, records-append, works_for_one, works_on}
use Rattle.meaning_records.specs.ImageLemmas.{one_end}
use Rattle.odin_journal.specs.Rest.{RestsOn}
use Rattle.odin_store.proofs.KeepingLemmas.{kept_on, stops_in, same_on, same_held, same_state, same_rests, left_durably}

-- ---- the batches

pub nothing_behind : {A : Type 0} (xs : List A) → xs ++ [] ≡ xs
nothing_behind [] = refl
nothing_behind (x ∷ xs) = ap (λ l. x ∷ l) (nothing_behind xs)

-- what the last of some payloads makes of what the others made
last_read : ReadsInOneWay → (payloads : List (List ℕ)) (payload : List ℕ) (first mid new : State) → ReadsAll first payloads mid → ReadsAll first (payloads ++ payload ∷ []) new → Reads mid payload new
last_read law [] payload first mid new before read = subst (λ s. Reads mid payload s) (sym read.2) (subst (λ s. Reads s payload read.0) (sym before) read.1)
last_read law (front ∷ payloads) payload first mid new before read =
    let same : read.0 ≡ before.0 = law first front before.0 read.0 before.1 read.1 in
    last_read law payloads payload before.0 mid new before.2 (subst (λ s. ReadsAll s (payloads ++ payload ∷ []) new) same read.2)

-- one batch after none
alone : (change : Change) (items : List Item) (old new : State) → IsBatchOf old.tables.contents change items → Reads old (spell_batch items) new → AreBatches old (change ∷ []) (spell_batch items ∷ []) new
alone change items old new batch reads = AreBatches.one_batch [] [] old change items new AreBatches.no_batches batch reads

-- batches after batches
pub batches_on : (old mid : State) (some : List Change) (payloads : List (List ℕ)) → AreBatches old some payloads mid → (more : List Change) (others : List (List ℕ)) (new : State) → AreBatches mid more others new
    → AreBatches old (some ++ more) (payloads ++ others) new
batches_on old mid some payloads first _ _ _ AreBatches.no_batches =
    subst (λ c. AreBatches old c (payloads ++ []) mid) (sym (nothing_behind some)) (subst (λ p. AreBatches old some p mid) (sym (nothing_behind payloads)) first)
batches_on old mid some payloads first _ _ _ (AreBatches.one_batch changes before between change items new are batch reads) =
    subst (λ c. AreBatches old c (payloads ++ (before ++ spell_batch items ∷ [])) new) (append_assoc some changes (change ∷ []))
    (subst (λ p. AreBatches old ((some ++ changes) ++ change ∷ []) p new) (append_assoc payloads before (spell_batch items ∷ []))
    (AreBatches.one_batch (some ++ changes) (payloads ++ before) between change items new (batches_on old mid some payloads first changes before between are) batch reads))

-- a store on a disk, told in other words
abbrev pub on_there : (disk other : Telling) (store : Store) (records more : List (List ℕ)) (graph : Option Text) → other ≡ disk → more ≡ records → IsOn disk store records graph → IsOn other store more graph
on_there disk other store records more graph there same on = record {
  noted = on.noted;
  rests = subst (λ d. RestsOn d more store.journal) (sym there) (subst (λ r. RestsOn disk r store.journal) (sym same) on.rests);
  read = subst (λ r. ReadsAll nothing r (state_in store graph on.noted)) (sym same) on.read;
  last = on.last;
  fit = on.fit;
}

-- a batch of what is noted is one of its facts
pub batch_noted : (fresh : List Fresh) (store next : Store) (old new : Telling) → AddsBatch (NotesBatch store fresh) store next old new → AddsBatch (IsBatchOf store.kept.tables.contents (notes (facts_of fresh))) store next old new
batch_noted fresh store next old new (items, batch, appends) = (items, (fresh, refl, batch), appends)

-- ---- changes

module _ {Disk : Type 0} (told : Disk → Telling) where
  pub goes_none : (store next : Store) (disk after : Disk) → IsSame store next disk after → Performs told [] store next disk after
  goes_none store next disk after same = record {
    holds = same_held store next same.store_is;
    grows = untouched_grows store_keeping told disk after store next same.disk_is
        (λ held rests. same_rests told store next disk disk held (record { disk_is = refl; store_is = same.store_is; nodes = same.nodes }) rests);
    batches = λ records graph on. record {
      payloads = [];
      on = on_there (told disk) (told after) next records (records ++ []) graph (ap told same.disk_is) (nothing_behind records) (same_on (told disk) store next records graph same.store_is on);
      are = subst (λ s. AreBatches (state_in store graph on.noted) [] [] s) (sym (same_state store next graph on.noted same.store_is)) AreBatches.no_batches;
      end = ap (λ (j : Journal). j.end) same.store_is.journal;
      bytes = ap (λ d. (told d).seen) same.disk_is;
      grows = untouched_grows record_keeping told disk after store next same.disk_is (λ kept rests. subst (λ (j : Journal). RestsOn (told disk) kept j) (sym same.store_is.journal) rests);
      works = subst (λ d. WorksFor [] (told disk) (told d)) (sym same.disk_is) (no_work (told disk).work);
    };
  }

  pub goes_one : ReadsInOneWay → (change : Change) (store next : Store) (disk after : Disk) → held_in next ≡ apply change (held_in store)
      → AddsBatch (IsBatchOf store.kept.tables.contents change) store next (told disk) (told after)
      → LeavesChange change store (told disk) (told after) → Performs told (change ∷ []) store next disk after
  goes_one law change store next disk after holds (items, batch, appends) leaves =
      -- the records on which the store rests are those that it rested on
      let one_rest : (records kept : List (List ℕ)) → RecordsRest (told disk) store records → RecordsRest (told disk) store kept → records ≡ kept =
      λ records kept rests others. (one_end (told disk).seen kept records store.journal.end store.journal.end others.rests.store rests.rests.store).0 in
      record {
        holds = holds;
        grows = keeps_grows store_keeping told change disk after store next (kept_on items change store next (told disk) (told after) holds appends leaves);
        batches = λ records graph on.
            let now : IsOn (told after) next (records ++ spell_batch items ∷ []) graph = appends.on records graph on in
            record {
              payloads = spell_batch items ∷ [];
              on = now;
              are = alone change items (state_in store graph on.noted) (state_in next graph now.noted) batch
                  (last_read law records (spell_batch items) nothing (state_in store graph on.noted) (state_in next graph now.noted) on.read now.read);
              end = appends.end;
              bytes = appends.bytes on.rests.rests.quiet;
              grows = keeps_grows record_keeping told (spell_batch items) disk after store next (record {
                rests = λ kept rests. subst (λ r. RecordsRest (told after) next (r ++ spell_batch items ∷ [])) (one_rest records kept on.rests rests) now.rests;
                crash = stops_record store (spell_batch items) (told disk) (told after) appends.leaves;
              });
              works = works_for_one (spell_batch items) (told disk) (told after) appends.works;
            };
      }

  pub goes_on : (some more : List Change) (store mid next : Store) (disk between after : Disk) → Performs told some store mid disk between → Performs told more mid next between after → Performs told (some ++ more) store next disk after
  goes_on some more store mid next disk between after first second = record {
    holds = second.holds ∙ ap (trails.after_changes store_keeping more) first.holds ∙ sym (after-append store_keeping some more (held_in store));
    grows = grows_on store_keeping told some more disk between after store mid next first.grows second.grows;
    batches = λ records graph on.
        let one : HasBatches told some store mid disk between records graph on.noted = first.batches records graph on in
        let two : HasBatches told more mid next between after (records ++ one.payloads) graph one.on.noted = second.batches (records ++ one.payloads) graph one.on in
        record {
          payloads = one.payloads ++ two.payloads;
          on = on_there (told after) (told after) next ((records ++ one.payloads) ++ two.payloads) (records ++ (one.payloads ++ two.payloads)) graph refl (sym (append_assoc records one.payloads two.payloads)) two.on;
          are = batches_on (state_in store graph on.noted) (state_in mid graph one.on.noted) some one.payloads one.are more two.payloads (state_in next graph two.on.noted) two.are;
          end = two.end ∙ ap (λ gate. gate_behind gate two.payloads) one.end ∙ sym (gate-append store.journal.end one.payloads two.payloads);
          bytes = two.bytes ∙ ap (λ gate. with_records gate two.payloads (told between).seen) one.end
              ∙ ap (with_records (gate_behind store.journal.end one.payloads) two.payloads) one.bytes ∙ sym (records-append store.journal.end one.payloads two.payloads (told disk).seen);
          grows = grows_on record_keeping told one.payloads two.payloads disk between after store mid next one.grows two.grows;
          works = works_on one.payloads two.payloads (told disk) (told between) (told after) one.works two.works;
        };
  }

  -- ---- where they stop

  -- what was begun, after none of these
  begun_first : (store : Store) (disk after : Disk) (begun : List (List ℕ)) → LeavesFirst store begun (told disk) (told after) → LeavesBegun told [] begun store disk after
  begun_first store disk after begun leaves first start before trail =
      subst (λ l. trails.LeavesPrefix record_keeping first (told start) l (before ++ begun) (told after)) (sym (nothing_behind before))
      (first_leaves first before begun store (told start) (told disk) (told after) leaves trail)

  -- a change that failed: its batch was begun, or none
  failed_begun : (change : Change) (store : Store) (disk after : Disk) (graph : Option Text) (noted : List Fact) → BeginsOnce (IsBatchOf store.kept.tables.contents change) store (told disk) (told after)
      → HasPartialBatches told (change ∷ []) store disk after graph noted
  failed_begun change store disk after graph noted begins = record {
    made = [];
    rest = change ∷ [];
    whole = refl;
    payloads = [];
    last = state_in store graph noted;
    are = AreBatches.no_batches;
    begun = begins.begun;
    next = by begins.begun begins.one;
    leaves = begun_first store disk after begins.begun begins.leaves;
    works = begins.works;
  }
    where
      by : (begun : List (List ℕ)) → IsOneOf (IsBatchOf store.kept.tables.contents change) begun → IsPartialBatch store.kept.tables.contents (change ∷ []) begun
      by begun (inl none) = subst (IsPartialBatch store.kept.tables.contents (change ∷ [])) (sym none) (IsPartialBatch.none_begun (change ∷ []))
      by begun (inr (items, batch, is)) = subst (IsPartialBatch store.kept.tables.contents (change ∷ [])) (sym is) (IsPartialBatch.one_begun change [] items batch)

  pub stops_failed : (change : Change) (store : Store) (disk after : Disk) → LeavesChange change store (told disk) (told after)
      → BeginsOnce (IsBatchOf store.kept.tables.contents change) store (told disk) (told after) → StopsPerforming told (change ∷ []) store disk after
  stops_failed change store disk after leaves begins = record {
    within = stops_within store_keeping told change disk after store (stops_in change store (told disk) (told after) leaves);
    begun = λ records graph on. failed_begun change store disk after graph on.noted begins;
  }

  -- what was begun after payloads after others
  begun_behind : (some more begun : List (List ℕ)) (store mid : Store) (disk between after : Disk) → trails.ExtendsTrail record_keeping told some disk store between mid → LeavesBegun told more begun mid between after
      → LeavesBegun told (some ++ more) begun store disk after
  begun_behind some more begun store mid disk between after grows leaves first start before trail =
      subst (λ l. trails.LeavesPrefix record_keeping first (told start) (before ++ (some ++ more)) l (told after))
      (append_assoc before some (more ++ begun) ∙ ap (λ l. before ++ l) (sym (append_assoc some more begun)))
      (subst (λ l. trails.LeavesPrefix record_keeping first (told start) l ((before ++ some) ++ (more ++ begun)) (told after)) (append_assoc before some more) (leaves first start (before ++ some) (grows first start before trail)))

  pub stops_behind : (some more : List Change) (store mid : Store) (disk between after : Disk) → Performs told some store mid disk between → StopsPerforming told more mid between after → StopsPerforming told (some ++ more) store disk after
  stops_behind some more store mid disk between after goes stops = record {
    within = grows_stops store_keeping told some more disk between after store mid goes.grows stops.within;
    begun = λ records graph on.
        let one : HasBatches told some store mid disk between records graph on.noted = goes.batches records graph on in
        let two : HasPartialBatches told more mid between after graph one.on.noted = stops.begun (records ++ one.payloads) graph one.on in
        record {
          made = some ++ two.made;
          rest = two.rest;
          whole = ap (λ l. some ++ l) two.whole ∙ sym (append_assoc some two.made two.rest);
          payloads = one.payloads ++ two.payloads;
          last = two.last;
          are = batches_on (state_in store graph on.noted) (state_in mid graph one.on.noted) some one.payloads one.are two.made two.payloads two.last two.are;
          begun = two.begun;
          next = two.next;
          leaves = begun_behind one.payloads two.payloads two.begun store mid disk between after one.grows two.leaves;
          works = subst (λ l. WorksFor l (told disk) (told after)) (sym (append_assoc one.payloads two.payloads two.begun))
              (works_on one.payloads (two.payloads ++ two.begun) (told disk) (told between) (told after) one.works two.works);
        };
  }

  -- nothing was begun after these
  none_after : (payloads : List (List ℕ)) (store next : Store) (disk after : Disk) → trails.ExtendsTrail record_keeping told payloads disk store after next → LeavesBegun told payloads [] store disk after
  none_after payloads store next disk after grows first start before trail =
      subst (λ l. trails.LeavesPrefix record_keeping first (told start) (before ++ payloads) (before ++ l) (told after)) (sym (nothing_behind payloads))
      (trail_leaves record_keeping first (told start) (told after) (before ++ payloads) next (λ kept rests image left. rests_leave (told after) next kept rests image left) (grows first start before trail))

  pub stops_left : (changes : List Change) (store next : Store) (disk after : Disk) → Performs told changes store next disk after → StopsPerforming told changes store disk after
  stops_left changes store next disk after goes = record {
    within = grows_left store_keeping told changes disk after store next (λ held rests. left_durably (told after) next held rests) goes.grows;
    begun = λ records graph on.
        let all : HasBatches told changes store next disk after records graph on.noted = goes.batches records graph on in
        record {
          made = changes;
          rest = [];
          whole = sym (nothing_behind changes);
          payloads = all.payloads;
          last = state_in next graph all.on.noted;
          are = all.are;
          begun = [];
          next = IsPartialBatch.none_begun [];
          leaves = none_after all.payloads store next disk after all.grows;
          works = subst (λ l. WorksFor l (told disk) (told after)) (sym (nothing_behind all.payloads)) all.works;
        };
  }

  -- what was begun of some changes was begun of more
  begun_of_more : (contents : List Value) (rest more : List Change) (begun : List (List ℕ)) → IsPartialBatch contents rest begun → IsPartialBatch contents (rest ++ more) begun
  begun_of_more contents rest more _ (IsPartialBatch.none_begun _) = IsPartialBatch.none_begun (rest ++ more)
  begun_of_more contents _ more _ (IsPartialBatch.one_begun change others items batch) = IsPartialBatch.one_begun change (others ++ more) items batch

  pub stops_more : (changes more : List Change) (store : Store) (disk after : Disk) → StopsPerforming told changes store disk after → StopsPerforming told (changes ++ more) store disk after
  stops_more changes more store disk after stops = record {
    within = stops_longer store_keeping told changes more disk after store stops.within;
    begun = λ records graph on.
        let has : HasPartialBatches told changes store disk after graph on.noted = stops.begun records graph on in
        record {
          made = has.made;
          rest = has.rest ++ more;
          whole = ap (λ l. l ++ more) has.whole ∙ append_assoc has.made has.rest more;
          payloads = has.payloads;
          last = has.last;
          are = has.are;
          begun = has.begun;
          next = begun_of_more has.last.tables.contents has.rest more has.begun has.next;
          leaves = has.leaves;
          works = has.works;
        };
  }

  -- ---- edits

  pub edited : ReadsInOneWay → (Changes : Type 0) (change : Change) (store next : Store) (disk after : Disk) (changed : Bool)
      → EditsWhere told Changes (IsBatchOf store.kept.tables.contents change) change store next disk after changed
      → LeavesChange change store (told disk) (told after) → HasEdited told Changes change store next disk after changed
  edited law Changes change store next disk after true where_ leaves =
      let edits = where_.edits refl in
      record { exact = where_.exact; goes = goes_one law change store next disk after edits.holds edits.adds leaves; same = where_.same; epoch = edits.epoch; nodes = edits.nodes }
  edited law Changes change store next disk after false where_ leaves =
      let same = where_.same refl in
      let epoch = same.store_is.epoch in
      record { exact = where_.exact; goes = goes_none store next disk after same; same = where_.same; epoch = omega arith; nodes = same.nodes }

  pub has_failed : (change : Change) (store next : Store) (disk after : Disk) (e : JournalFault) → IsChangeFault (IsBatchOf store.kept.tables.contents change) change store e
      → (e ≢ fault.Disk → IsSame store next disk after) → LeavesChange change store (told disk) (told after) → BeginsOnce (IsBatchOf store.kept.tables.contents change) store (told disk) (told after)
      → HasFailed told change store next disk after e
  has_failed change store next disk after fault.Disk due same leaves begins = (due, stops_failed change store disk after leaves begins)
  has_failed change store next disk after (fault.NotOurs at) never same leaves works = never
  has_failed change store next disk after (fault.Full at some) (due, over) same leaves works = (due, (same (λ is. (let no : ⊥ = cc in no)), over))
  has_failed change store next disk after fault.Memory told_ same leaves works = same (λ is. (let no : ⊥ = cc in no))
