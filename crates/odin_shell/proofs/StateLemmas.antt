-- States of a session, one after another, and what the store makes of them.
use Rattle.std.proofs.Common.{◌≡◌, ◌≢◌, ◌⊎◌, ℕ, ◌+◌, ◌*◌, ◌≤◌, List, [], ◌∷◌, ◌++◌, length, Some, None, inl, inr, ap, sym, refl, ◌∙◌, subst, append_assoc, arith}
use Rattle.std.proofs.Math.Nat.{le_refl}
use Rattle.odin_outside.specs.Causes.{Rose}
use Rattle.odin_outside.specs.Disk.{Telling, IsQuiet}
use Rattle.odin_outside.specs.Spawned.{Spawned}
use Rattle.odin_journal.specs.Trails.{after_changes, LeavesPrefix}
use Rattle.meaning_graph.specs.Graphs.{Text, Graph}
use Rattle.object_values.specs.declared.items.Item.{Item}
use Rattle.meaning_records.specs.Stands.{gate_behind}
use Rattle.odin_journal.specs.Moments.{Works}
use Rattle.odin_journal.specs.Rest.{IsReady}
use Rattle.odin_store.specs.declared.store.Store.{Store}
use Rattle.odin_store.specs.Held.{Held, Change}
use Rattle.odin_store.specs.OnDisk.{state_in, IsOver, IsSame}
use Rattle.odin_store.specs.Keeping.{store_keeping}
use Rattle.odin_store.specs.Going.{IsBatchOf, HasBatches, Performs, HasPartialBatches, StopsPerforming}
use Rattle.odin_store.specs.Written.{written_in, WorksFor, with_records, record_keeping}
use Rattle.odin_store.proofs.Lemmas.{on_there, nothing_behind, batches_on, goes_none, stops_left, stops_more, gate-append, records-append, works_after}
use Rattle.odin_engine.specs.Engaged.{Engaged, GraphStays}
use Rattle.kept_derive.specs.Knowing.{KnowsStore}
use Rattle.odin_answers.specs.Edits.{TreeTold, TreeStays}
use Rattle.odin_engine.specs.Opened.{settled_bytes, settled_calls}
use Rattle.odin_outside.specs.declared.disk.Disk.{Ghosts as DiskView}
use Rattle.odin_shell.specs.Filed.{OpensFile, records_at_opening, noted_at_opening, WorksOver, HasWritten, StopsWriting, HoldsAll, LacksLast, HasNoRoomForLast, IsSafe}
use Rattle.odin_shell.specs.Machine.{SessionState, Told, Applies, SessionInvariant, StoreFailed, StateAtExit, ToolsStay}

-- where none runs no more do than may
pub idle_few : (tools : Spawned) → tools.running ≡ [] → length tools.running ≤ 64
idle_few tools idle = let none : length tools.running ≡ 0 = ap length idle in omega arith

-- what stays in two calls stays in both
pub stay_on : {a b c : Spawned} → ToolsStay a b → ToolsStay b c → ToolsStay a c
stay_on first second = let l = first.later in let m = second.later in record { answers = second.answers ∙ first.answers; few = second.few; later = omega arith }

pub tree_on : {a b c : TreeTold} → TreeStays a b → TreeStays b c → TreeStays a c
tree_on first second = let l = first.later in let m = second.later in record { files = second.files ∙ first.files; later = omega arith }

-- what was not touched stays
pub same_tools : (before now : Spawned) → now ≡ before → length before.running ≤ 64 → ToolsStay before now
same_tools before now same few = subst (ToolsStay before) (sym same) (record { answers = refl; later = le_refl before.faults; few = few })

pub same_tree : (old new : TreeTold) → new ≡ old → TreeStays old new
same_tree old new same = let count : new.faults ≡ old.faults = ap (λ (t : TreeTold). t.faults) same in record { files = ap (λ (t : TreeTold). t.files) same; later = omega arith }

-- ---- what the file has

-- more work after that of the opening and of these batches
works_more : {D : Type 0} (told : D → Telling) (text : Text) (start : D) (over : OpensFile told text start) (payloads more : List (List ℕ)) (mid now : D) → WorksOver told text start over payloads mid → WorksFor more (told mid) (told now)
    → WorksOver told text start over (payloads ++ more) now
works_more told text start over payloads more mid now first second =
    let opening = over.goes.opens.opening in
    let bytes = 66 + settled_bytes over.goes.settles in
    let calls = 16 + settled_calls over.goes.settles + 2 * length over.goes.opens.records in
    subst (λ (l : List (List ℕ)). Works (bytes + written_in l) (calls + 4 * length l) (told start) (told now)) (append_assoc opening payloads more)
    (works_after bytes calls (opening ++ payloads) more (told start) (told mid) (told now) first second)

-- the batches of more changes after those that it has
pub written_on : {D : Type 0} (told : D → Telling) (text : Text) (changes more : List Change) (start : D) (store next : Store) (disk after_changes : D)
    → HasWritten told text changes start store disk → Performs told more store next disk after_changes → HasWritten told text (changes ++ more) start next after_changes
written_on told text changes more start store next disk after_changes w goes =
    let over = w.over in
    let base = records_at_opening over in
    let gate = over.store.journal.end in
    let image = (told over.opened).seen in
    let noted = noted_at_opening over in
    let others : HasBatches told more store next disk after_changes (base ++ w.payloads) (Some text) w.on.noted = goes.batches (base ++ w.payloads) (Some text) w.on in
    record {
      over = over;
      payloads = w.payloads ++ others.payloads;
      on = on_there (told after_changes) (told after_changes) next ((base ++ w.payloads) ++ others.payloads) (base ++ (w.payloads ++ others.payloads)) (Some text) refl (sym (append_assoc base w.payloads others.payloads)) others.on;
      are = batches_on (state_in over.store (Some text) noted) (state_in store (Some text) w.on.noted) changes w.payloads w.are more others.payloads (state_in next (Some text) others.on.noted) others.are;
      end = others.end ∙ ap (λ place. gate_behind place others.payloads) w.end ∙ sym (gate-append gate w.payloads others.payloads);
      bytes =
          others.bytes ∙ ap (λ place. with_records place others.payloads (told disk).seen) w.end
          ∙ ap (with_records (gate_behind gate w.payloads) others.payloads) w.bytes ∙ sym (records-append gate w.payloads others.payloads image);
      trail = others.grows base over.opened w.payloads w.trail;
      works = works_more told text start over w.payloads others.payloads disk after_changes w.works others.works;
    }

-- and where they stop
pub writing_stops : {D : Type 0} (told : D → Telling) (text : Text) (changes more : List Change) (start : D) (store : Store) (disk after_changes : D)
    → HasWritten told text changes start store disk → StopsPerforming told more store disk after_changes → StopsWriting told text (changes ++ more) start after_changes
writing_stops told text changes more start store disk after_changes w stops =
    let over = w.over in
    let base = records_at_opening over in
    let has : HasPartialBatches told more store disk after_changes (Some text) w.on.noted = stops.begun (base ++ w.payloads) (Some text) w.on in
    let list : w.payloads ++ (has.payloads ++ has.begun) ≡ (w.payloads ++ has.payloads) ++ has.begun = sym (append_assoc w.payloads has.payloads has.begun) in
    record {
      over = over;
      made = changes ++ has.made;
      rest = has.rest;
      whole = ap (λ l. changes ++ l) has.whole ∙ sym (append_assoc changes has.made has.rest);
      payloads = w.payloads ++ has.payloads;
      last = has.last;
      are = batches_on (state_in over.store (Some text) (noted_at_opening over)) (state_in store (Some text) w.on.noted) changes w.payloads w.are has.made has.payloads has.last has.are;
      begun = has.begun;
      next = has.next;
      leaves = subst (λ l. LeavesPrefix record_keeping base (told over.opened) (w.payloads ++ has.payloads) l (told after_changes)) list (has.leaves base over.opened w.payloads w.trail);
      works = subst (λ (l : List (List ℕ)). WorksOver told text start over l after_changes) list
          (works_more told text start over w.payloads (has.payloads ++ has.begun) disk after_changes w.works has.works);
    }

-- ---- the next state

-- the state after these changes, with what is told of tools and tree then
abbrev pub next_state : SessionState → List Change → Spawned → TreeTold → SessionState
next_state state changes tools tree = record { held = after_changes store_keeping changes state.held; changes = state.changes ++ changes; tools = tools; tree = tree }

pub makes_next : (state : SessionState) (changes : List Change) (tools : Spawned) (tree : TreeTold) → Applies changes state (next_state state changes tools tree)
makes_next state changes tools tree = record { held = refl; list = refl }

module _ {D : Type 0} (disk : DiskView D) (from : Held) (g : Graph) (text : Text) (limit : ℕ) (first : SessionState) (start : Told D) (code : Engaged) (state : SessionState) (told : Told D) (fits : SessionInvariant disk from g text limit first start code state told) where
  -- ---- the session goes on

  pub belongs_on : (changes : List Change) (code' : Engaged) (told' : Told D) → Performs disk.told changes code.store code'.store told.disk told'.disk → (KnowsStore g code.store → KnowsStore g code'.store) → GraphStays code code'
      → IsReady code'.store.journal (disk.size_of told'.disk) → disk.faults told'.disk ≡ disk.faults told.disk → ToolsStay told.tools told'.tools → TreeStays told.tree told'.tree → told'.tools.running ≡ [] → told'.over ≡ None
      → SessionInvariant disk from g text limit first start code' (next_state state changes told'.tools told'.tree) told'
  belongs_on changes code' told' goes knows stays ready faults stay tree idle within = record {
    graph = stays.graph ∙ fits.graph;
    jobs = stays.jobs ∙ fits.jobs;
    few = fits.few;
    held = goes.holds ∙ ap (after_changes store_keeping changes) fits.held;
    knows = λ trust. knows (fits.knows trust);
    tools = refl;
    tree = refl;
    stay = stay_on fits.stay stay;
    tree_stays = tree_on fits.tree_stays tree;
    idle = idle;
    ready = ready;
    faults = faults ∙ fits.faults;
    trail = λ quiet. goes.grows first.held start.disk state.changes (fits.trail quiet);
    written = λ quiet. written_on disk.told text state.changes changes start.disk code.store code'.store told.disk told'.disk (fits.written quiet) goes;
    within = within;
  }

  -- ---- and is left

  -- every image has all changes, or all but the last
  abbrev pub Lasts : List Change → Told D → Type 0
  Lasts changes told' =
      HoldsAll disk.told text first.held (state.changes ++ changes) start.disk told'.disk
      ⊎ (StoreFailed disk g text limit start told' × LacksLast disk.told first.held (state.changes ++ changes) start.disk told'.disk)

  -- what is left of the tools and the tree
  module _ (told' : Told D) (stay : ToolsStay told.tools told'.tools) (tree : TreeStays told.tree told'.tree) where
    tools_counted : state.tools.faults ≤ told'.tools.faults
    tools_counted = let here : told.tools.faults ≡ state.tools.faults = ap (λ (t : Spawned). t.faults) fits.tools in let later = stay.later in omega arith

    tree_counted : state.tree.faults ≤ told'.tree.faults
    tree_counted = let here : told.tree.faults ≡ state.tree.faults = ap (λ (t : TreeTold). t.faults) fits.tree in let later = tree.later in omega arith

    pub left_by : (changes : List Change) → IsSafe disk.told text first.held state.changes (state.changes ++ changes) start.disk told'.disk (disk.faults start.disk) (disk.faults told'.disk)
        → ((at size : ℕ) → told'.over ≡ Some (at, size) → HasNoRoomForLast disk.told text (state.changes ++ changes) start.disk told'.disk at size)
        → (IsQuiet (disk.told start.disk) → Lasts changes told') → StateAtExit disk g text limit first start state (next_state state changes told'.tools told'.tree) told'
    left_by changes safe full lasting = record {
      tools = refl;
      tree = refl;
      counted = tools_counted;
      tree_counted = tree_counted;
      stay = stay_on fits.stay stay;
      tree_stays = tree_on fits.tree_stays tree;
      safe = safe;
      lasting = lasting;
      full = full;
    }

  -- the changes that were made are in the file
  pub safe_made : (changes : List Change) (store : Store) (now : D) → Performs disk.told changes code.store store told.disk now → disk.faults now ≡ disk.faults told.disk
      → IsSafe disk.told text first.held state.changes (state.changes ++ changes) start.disk now (disk.faults start.disk) (disk.faults now)
  safe_made changes store now goes faults =
      let same = faults ∙ fits.faults in
      record {
        crash = λ quiet. (stops_left disk.told changes code.store store told.disk now goes).within first.held start.disk state.changes (fits.trail quiet);
        written = λ quiet. inl (record {
          store = store;
          some = changes;
          rest = [];
          whole = sym (nothing_behind (state.changes ++ changes));
          written = written_on disk.told text state.changes changes start.disk code.store store told.disk now (fits.written quiet) goes;
        });
        later = omega (arith, same);
      }

  -- every image has them
  pub holds_all : (changes : List Change) (store : Store) (now : D) → Performs disk.told changes code.store store told.disk now → IsQuiet (disk.told start.disk)
      → HoldsAll disk.told text first.held (state.changes ++ changes) start.disk now
  holds_all changes store now goes quiet =
      let all = state.changes ++ changes in
      let same : IsSame store store now now = record { disk_is = refl; store_is = record { journal = refl; tables = refl; sources = refl; graph = refl; epoch = refl }; nodes = refl } in
      record {
        store = store;
        written = written_on disk.told text state.changes changes start.disk code.store store told.disk now (fits.written quiet) goes;
        crash = subst (λ l. LeavesPrefix store_keeping first.held (disk.told start.disk) all l (disk.told now)) (nothing_behind all)
            ((stops_left disk.told [] store store now now (goes_none disk.told store store now now same)).within first.held start.disk all (goes.grows first.held start.disk state.changes (fits.trail quiet)));
      }

  -- the next change stopped after them: every image has all of them, and may have that
  pub lacks_last : (changes : List Change) (change : Change) (store : Store) (mid now : D) → Performs disk.told changes code.store store told.disk mid → StopsPerforming disk.told (change ∷ []) store mid now → IsQuiet (disk.told start.disk)
      → LacksLast disk.told first.held (state.changes ++ (changes ++ change ∷ [])) start.disk now
  lacks_last changes change store mid now goes stops quiet =
      let front = state.changes ++ changes in
      let list : state.changes ++ (changes ++ change ∷ []) ≡ front ++ change ∷ [] = sym (append_assoc state.changes changes (change ∷ [])) in
      record {
        front = front;
        change = change;
        whole = list;
        crash = subst (λ l. LeavesPrefix store_keeping first.held (disk.told start.disk) front l (disk.told now)) (sym list)
            (stops.within first.held start.disk front (goes.grows first.held start.disk state.changes (fits.trail quiet)));
      }

  -- so it is where the disk failed at it
  pub failed_last : (changes : List Change) (change : Change) (store : Store) (mid : D) (told' : Told D) → Performs disk.told changes code.store store told.disk mid → StopsPerforming disk.told (change ∷ []) store mid told'.disk
      → Rose (disk.faults told.disk) (disk.faults told'.disk) → IsQuiet (disk.told start.disk) → Lasts (changes ++ change ∷ []) told'
  failed_last changes change store mid told' goes stops rose quiet =
      inr (inl (subst (λ n. Rose n (disk.faults told'.disk)) fits.faults rose), lacks_last changes change store mid told'.disk goes stops quiet)

  -- and where its batch doesn't fit
  pub full_last : (changes : List Change) (change : Change) (store : Store) (told' : Told D) → Performs disk.told changes code.store store told.disk told'.disk → told'.over ≢ None
      → IsQuiet (disk.told start.disk) → Lasts (changes ++ change ∷ []) told'
  full_last changes change store told' goes over quiet =
      let now = told'.disk in
      let same : IsSame store store now now = record { disk_is = refl; store_is = record { journal = refl; tables = refl; sources = refl; graph = refl; epoch = refl }; nodes = refl } in
      let stops : StopsPerforming disk.told (change ∷ []) store now now = stops_more disk.told [] (change ∷ []) store now now (stops_left disk.told [] store store now now (goes_none disk.told store store now now same)) in
      inr (inr over, lacks_last changes change store now now goes stops quiet)

  -- the disk failed at one of the changes
  pub safe_failed : (changes : List Change) (now : D) → StopsPerforming disk.told changes code.store told.disk now → disk.faults told.disk ≤ disk.faults now → Rose (disk.faults told.disk) (disk.faults now)
      → IsSafe disk.told text first.held state.changes (state.changes ++ changes) start.disk now (disk.faults start.disk) (disk.faults now)
  safe_failed changes now stops later rose =
      let same = fits.faults in
      record {
        crash = λ quiet. stops.within first.held start.disk state.changes (fits.trail quiet);
        written = λ quiet. inr (subst (λ n. Rose n (disk.faults now)) same rose, writing_stops disk.told text state.changes changes start.disk code.store told.disk now (fits.written quiet) stops);
        later = omega (arith, same, later);
      }

  -- the last of the changes was due, and its batch doesn't fit after those of the others
  pub safe_full : (changes : List Change) (change : Change) (store : Store) (now : D) → Performs disk.told changes code.store store told.disk now → disk.faults now ≡ disk.faults told.disk
      → IsSafe disk.told text first.held state.changes (state.changes ++ (changes ++ change ∷ [])) start.disk now (disk.faults start.disk) (disk.faults now)
  safe_full changes change store now goes faults =
      let same = faults ∙ fits.faults in
      record {
        crash = λ quiet. (stops_more disk.told changes (change ∷ []) code.store told.disk now (stops_left disk.told changes code.store store told.disk now goes)).within first.held start.disk state.changes (fits.trail quiet);
        written = λ quiet. inl (record {
          store = store;
          some = changes;
          rest = change ∷ [];
          whole = sym (append_assoc state.changes changes (change ∷ []));
          written = written_on disk.told text state.changes changes start.disk code.store store told.disk now (fits.written quiet) goes;
        });
        later = omega (arith, same);
      }

  pub is_full : (changes : List Change) (change : Change) (store : Store) (now : D) (items : List Item) (at size : ℕ) → Performs disk.told changes code.store store told.disk now → IsBatchOf store.kept.tables.contents change items → IsOver items store.journal.end at size
      → HasNoRoomForLast disk.told text (state.changes ++ (changes ++ change ∷ [])) start.disk now at size
  is_full changes change store now items at size goes batch over = record {
    front = state.changes ++ changes;
    change = change;
    whole = sym (append_assoc state.changes changes (change ∷ []));
    over = λ quiet. record {
      store = store;
      written = written_on disk.told text state.changes changes start.disk code.store store told.disk now (fits.written quiet) goes;
      items = items;
      batch = batch;
      over = over;
    };
  }

-- between two commands all is left as it is
pub rests : {D : Type 0} (disk : DiskView D) (from : Held) (g : Graph) (text : Text) (limit : ℕ) (first : SessionState) (start : Told D) (code : Engaged) (state : SessionState) (told : Told D) → SessionInvariant disk from g text limit first start code state told → StateAtExit disk g text limit first start state state told
rests disk from g text limit first start code state told fits =
    let tools : told.tools.faults ≡ state.tools.faults = ap (λ (t : Spawned). t.faults) fits.tools in
    let tree : told.tree.faults ≡ state.tree.faults = ap (λ (t : TreeTold). t.faults) fits.tree in
    let same : IsSame code.store code.store told.disk told.disk = record { disk_is = refl; store_is = record { journal = refl; tables = refl; sources = refl; graph = refl; epoch = refl }; nodes = refl } in
    let goes : Performs disk.told [] code.store code.store told.disk told.disk = goes_none disk.told code.store code.store told.disk told.disk same in
    record {
      tools = fits.tools;
      tree = fits.tree;
      counted = omega arith;
      tree_counted = omega arith;
      stay = fits.stay;
      tree_stays = fits.tree_stays;
      safe = subst (λ l. IsSafe disk.told text first.held state.changes l start.disk told.disk (disk.faults start.disk) (disk.faults told.disk)) (nothing_behind state.changes)
          (safe_made disk from g text limit first start code state told fits [] code.store told.disk goes refl);
      lasting = λ quiet. inl (subst (λ l. HoldsAll disk.told text first.held l start.disk told.disk) (nothing_behind state.changes)
          (holds_all disk from g text limit first start code state told fits [] code.store told.disk goes quiet));
      full = λ at size some. (let no : ⊥ = cc (fits.within) in absurd no);
    }
