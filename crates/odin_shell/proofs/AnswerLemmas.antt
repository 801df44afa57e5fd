-- Commands that are answered, and those that get no reply.
use Rattle.std.proofs.Common.{◌≡◌, ◌≢◌, ℕ, ◌≤◌, List, [], ◌∷◌, ◌++◌, length, Some, None, Result, IfErr, IsErrAnd, inl, inr, ap, ap₂, sym, refl, ◌∙◌, subst, append-nil, arith}
use Rattle.std.proofs.lemmas.List.Elements.{All-nil}
use Rattle.std.proofs.lemmas.Result.{err_from_is_err_and}
use Rattle.odin_outside.specs.Spawned.{Spawned}
use Rattle.odin_journal.specs.Trails.{after_changes}
use Rattle.object_values.specs.Texts.{Text, Texts}
use Rattle.meaning_texts.proofs.Lemmas.{same_some}
use Rattle.meaning_graph.specs.Graphs.{Graph}
use Rattle.object_values.specs.declared.calls.Call.{Call}
use Rattle.object_values.specs.declared.calls.Outcome.{Outcome}
use Rattle.object_values.specs.declared.facts.Fact.{Fact}
use Rattle.odin_bytes.specs.declared.commands.Command.{Command}
use Rattle.object_values.specs.declared.replies.Reply.{Reply}
use Rattle.meaning_commands.specs.Replies.{reply_text}
use Rattle.meaning_derive.specs.Derive.{Outcomes}
use Rattle.meaning_records.specs.Tables.{Calls, kept_outcome}
use Rattle.meaning_true.specs.Facts.{RecordIsTrue}
use Rattle.odin_journal.specs.Faults.{CountAfterJournalFault}
use Rattle.odin_journal.specs.Rest.{IsReady}
use Rattle.odin_journal.specs.declared.fault.JournalFault.{JournalFault}
use Rattle.odin_journal.specs.declared.fault.JournalFault.TheVariants as fault
use Rattle.odin_store.specs.declared.store.Store.{Store}
use Rattle.odin_store.specs.Held.{Held, Change, puts, drops, keeps, notes, IsDue}
use Rattle.odin_store.specs.OnDisk.{held_in, IsSame}
use Rattle.odin_store.specs.Keeping.{store_keeping}
use Rattle.odin_store.specs.Going.{Performs}
use Rattle.odin_store.specs.Edited.{HasFailed}
use Rattle.odin_store.proofs.Lemmas.{goes_none, stops_behind}
use Rattle.odin_engine.specs.Engaged.{Engaged, GraphStays}
use Rattle.derive_walk.specs.Outcomes.{after}
use Rattle.kept_derive.specs.Knowing.{known_in, AreTrueBeside, RecordsAreTrue, KnowsStore}
use Rattle.kept_derive.specs.Runs.{At, at, keeps_of, changes_for}
use Rattle.kept_derive.specs.Stops.{IsOfResults, IsLastOf}
use Rattle.odin_answers.specs.Answers.{HaveFlown, MayHaveBegun, MayHaveBegunWith, IsReplyIf, IsRecordedFor}
use Rattle.odin_answers.specs.Replied.{IsKnownAfter, HasReplied, IsRightlyWanted, HaveComeBefore, HasStopped}
use Rattle.odin_answers.proofs.Lemmas.{keeps_behind, reply_begun, reply_of}
use Rattle.odin_answers.specs.Edits.{SaysReply, TreeTold, TreeStays, TreeIsAsked, Takes}
use Rattle.odin_answers.specs.Changes.{edit_changes}
use Rattle.odin_shell.specs.declared.stop.Stop.TheVariants as stop
use Rattle.odin_shell.specs.Endings.{stop_of}
use Rattle.odin_outside.specs.declared.disk.Disk.{Ghosts as DiskView}
use Rattle.odin_shell.specs.Filed.{HasNoRoomForLast, IsSafe}
use Rattle.odin_shell.specs.Machine.{SessionState, Told, Applies, EditsByCommand, EditsByFile, AsksForObject, StepIf, MayEdit, MayHaveAsked, CommandMayLeaveIf, SessionInvariant, StateAtExit, ToolsStay, told_with_stop}
use Rattle.odin_shell.specs.Served.{telling, Answers, HaltsCommand, AnswersAsk, HaltsAsk}
use Rattle.odin_shell.proofs.MadeLemmas.{calls_of_keeps, kept_calls}
use Rattle.odin_shell.proofs.StateLemmas.{next_state, makes_next, belongs_on, Lasts, left_by, safe_made, holds_all, safe_failed, failed_last, safe_full, full_last, is_full, rests, same_tools, same_tree}

-- what holds at the one error holds where the result is that error
pub at_stop : {T E : Type 0} (r : Result T E) (s : E) (Q : E → Type 0) → IsErrAnd r (λ e. e ≡ s) → Q s → IfErr r Q
at_stop r s Q is q =
    let p = err_from_is_err_and r is in
    subst (λ v. IfErr v Q) (sym p.1) (subst Q (sym p.2) q)

-- a reply where the one holds is one where the other does, by which it is met
reply_if : (met trust : Type 0) (g : Graph) (s : Texts) (kept : Calls) (most : ℕ) (query : Text) (said : Reply) (given : Calls) (before now : Spawned) → (trust → met)
    → IsReplyIf met g s kept most query said given before now → IsReplyIf trust g s kept most query said given before now
reply_if met trust g s kept most query said given before now meets (inl alone) = inl alone
reply_if met trust g s kept most query said given before now meets (inr is) = inr (λ t. is (meets t))

-- where memory was wanting for the reply itself the ask was begun
reply_wanted : (met : Type 0) (g : Graph) (s : Texts) (kept : Calls) (most : ℕ) (query : Text) (said : Reply) (given : Calls) (before now : Spawned)
    → IsReplyIf met g s kept most query said given before now → met → MayHaveBegunWith g s kept most query given before now
reply_wanted met g s kept most query said given before now is holds = record {
  rest = [];
  few = omega arith;
  begun = subst (λ (l : Calls). MayHaveBegun g s kept most query l before now) (sym (append-nil given))
      (reply_begun g s kept most query said given before now (reply_of g s kept most query said given before now is holds));
}

-- ---- what was to be kept at last

abbrev call_in : Change → Calls
call_in (keeps call outcome) = (call, outcome) ∷ []
call_in other = []

abbrev notes_in : Change → List Fact
notes_in (notes facts) = facts
notes_in other = []

-- With the change at the end these outcomes are kept, and this is noted after them.
pub record EndsWith (given : Calls) (last : Change) : Type 0 where
  pub all : Calls
  pub noted : List Fact
  pub list : changes_for all noted ≡ keeps_of given ++ last ∷ []
  pub begun : (g : Graph) (s : Texts) (kept : Calls) (most : ℕ) (query : Text) (known : Outcomes) (rest : Calls) (before now : Spawned) → IsLastOf g known rest last
      → HaveFlown g s kept most query (given ++ rest) before now → MayHaveBegunWith g s kept most query all before now
  pub truth : (g : Graph) (calls rest : Calls) → IsLastOf g (kept_outcome (calls ++ given)) rest last → AreTrueBeside g (kept_outcome (calls ++ all)) noted

-- a call that came and isn't kept
call_begun : (given : Calls) (call : Call) (outcome : Outcome) (g : Graph) (s : Texts) (kept : Calls) (most : ℕ) (query : Text) (known : Outcomes) (rest : Calls) (before now : Spawned) → IsLastOf g known rest (keeps call outcome)
    → HaveFlown g s kept most query (given ++ rest) before now → MayHaveBegunWith g s kept most query (given ++ (call, outcome) ∷ []) before now
call_begun given call outcome g s kept most query known [] before now last flown = let same : keeps call outcome ≡ notes last.0 = last.1 in let no : ⊥ = cc in absurd no
call_begun given call outcome g s kept most query known (came ∷ rest) before now last flown =
    let same : given ++ came ∷ rest ≡ given ++ (call, outcome) ∷ [] = ap (λ (l : Calls). given ++ came ∷ l) last.0 ∙ ap (λ (l : Calls). given ++ l) (sym (ap call_in last.1)) in
    record { rest = []; few = omega arith; begun = inr (subst (λ (l : Calls). HaveFlown g s kept most query l before now) (same ∙ sym (append-nil (given ++ (call, outcome) ∷ []))) flown) }

-- all that came is kept
notes_begun : (given : Calls) (facts : List Fact) (g : Graph) (s : Texts) (kept : Calls) (most : ℕ) (query : Text) (known : Outcomes) (rest : Calls) (before now : Spawned) → IsLastOf g known rest (notes facts)
    → HaveFlown g s kept most query (given ++ rest) before now → MayHaveBegunWith g s kept most query given before now
notes_begun given facts g s kept most query known [] before now last flown = record { rest = []; few = omega arith; begun = inr flown }
notes_begun given facts g s kept most query known (came ∷ rest) before now last flown = let same : notes facts ≡ keeps came.0 came.1 = last.1 in let no : ⊥ = cc in absurd no

notes_true : (facts : List Fact) (g : Graph) (known : Outcomes) (rest : Calls) → IsLastOf g known rest (notes facts) → AreTrueBeside g known facts
notes_true facts g known [] last = subst (AreTrueBeside g known) (sym (ap notes_in last.1)) last.2
notes_true facts g known (came ∷ rest) last = let same : notes facts ≡ keeps came.0 came.1 = last.1 in let no : ⊥ = cc in absurd no

ends_with : (given : Calls) (last : Change) (held : Held) → IsOfResults last → IsDue last held → EndsWith given last
ends_with given (keeps call outcome) held is due = record {
  all = given ++ (call, outcome) ∷ [];
  noted = [];
  list = keeps_behind given call outcome;
  begun = call_begun given call outcome;
  truth = λ g calls rest last. All-nil (RecordIsTrue g (kept_outcome (calls ++ (given ++ (call, outcome) ∷ []))));
}
ends_with given (notes []) held is due = absurd (due refl)
ends_with given (notes (fact ∷ facts)) held is due = record {
  all = given;
  noted = fact ∷ facts;
  list = refl;
  begun = notes_begun given (fact ∷ facts);
  truth = λ g calls rest last. notes_true (fact ∷ facts) g (kept_outcome (calls ++ given)) rest last;
}
ends_with given (puts name text) held is due = absurd is
ends_with given (drops name) held is due = absurd is

module _ {D : Type 0} (disk : DiskView D) where
  -- ---- no change

  pub same_answers : (code : Engaged) (c : Command) (kept reply : List ℕ) (told : Told D)
      → ((trust : Type 0) (g : Graph) (limit : ℕ) (state : SessionState) (body : List ℕ) → code.graph ≡ g → held_in code.store ≡ state.held → StepIf trust g limit state c body reply state) → Answers disk code c kept told reply code told
  same_answers code c kept reply told step from g text limit first start state body same fits = record {
    new = state;
    step = step (RecordsAreTrue g from) g limit state body fits.graph fits.held;
    fits = fits;
    left = rests disk from g text limit first start code state told fits;
  }

  -- what is left where memory was wanting and nothing was done
  pub same_halts : (code : Engaged) (c : Command) (kept : List ℕ) (told : Told D)
      → ((trust : Type 0) (g : Graph) (limit : ℕ) (state : SessionState) (body : List ℕ) → held_in code.store ≡ state.held → told.tools ≡ state.tools → told.tree ≡ state.tree → CommandMayLeaveIf trust g limit state c body state)
      → told.over ≡ None → HaltsCommand disk code c kept told fault.Memory told
  same_halts code c kept told may none from g text limit first start state body same fits = record {
    furthest = state;
    may = may (RecordsAreTrue g from) g limit state body fits.held fits.tools fits.tree;
    exit = subst (λ (t : Told D). StateAtExit disk g text limit first start state state t) (λ i. record told { over = none i }) (rests disk from g text limit first start code state told fits);
  }

  -- ---- edits

  module _ (from : Held) (g : Graph) (text : Text) (limit : ℕ) (first : SessionState) (start : Told D) (code : Engaged) (state : SessionState) (told : Told D) (fits : SessionInvariant disk from g text limit first start code state told) where
    sources_are : code.store.sources.texts ≡ state.held.sources
    sources_are = ap (λ (h : Held). h.sources) fits.held

    module _ (name : Text) (code' : Engaged) (told' : Told D) (goes : Performs disk.told (edit_changes name code.store.sources.texts code'.store.sources.texts) code.store code'.store told.disk told'.disk) where
      abbrev edited : List Change
      edited = edit_changes name code.store.sources.texts code'.store.sources.texts

      abbrev new : SessionState
      new = next_state state edited told'.tools told'.tree

      new_are : code'.store.sources.texts ≡ new.held.sources
      new_are = ap (λ (h : Held). h.sources) (goes.holds ∙ ap (after_changes store_keeping edited) fits.held)

      makes_edit : Applies (edit_changes name state.held.sources new.held.sources) state new
      makes_edit =
          subst (λ c. Applies c state new) (ap₂ (λ (a b : Texts). edit_changes name a b) sources_are new_are)
          (makes_next state edited told'.tools told'.tree)

      says_edit : (P : Texts → Reply → Texts → Type 0) (bytes : List ℕ) → SaysReply (λ said. P code.store.sources.texts said code'.store.sources.texts) bytes → SaysReply (λ said. P state.held.sources said new.held.sources) bytes
      says_edit P bytes says = record {
        said = says.said;
        bytes_are = says.bytes_are;
        holds = subst (λ (a : Texts). P a says.said new.held.sources) sources_are (subst (λ (b : Texts). P code.store.sources.texts says.said b) new_are says.holds);
      }

      pub edits : (P : Texts → Reply → Texts → Type 0) (bytes : List ℕ) → SaysReply (λ said. P code.store.sources.texts said code'.store.sources.texts) bytes → told'.tools ≡ told.tools → told'.tree ≡ told.tree
          → EditsByCommand name (P state.held.sources) state bytes new
      edits P bytes says tools tree = record { says = says_edit P bytes says; makes = makes_edit; tools = tools ∙ fits.tools; tree = tree ∙ fits.tree }

      pub edits_by_file : (bytes : List ℕ) → SaysReply (λ said. Takes code.store.sources.texts name told.tree said code'.store.sources.texts told'.tree) bytes → told'.tools ≡ told.tools → TreeIsAsked told.tree told'.tree
          → EditsByFile name state bytes new
      edits_by_file bytes says tools asked = record {
        says = subst (λ (t : TreeTold). SaysReply (λ said. Takes state.held.sources name t said new.held.sources told'.tree) bytes) fits.tree
            (says_edit (λ a said b. Takes a name told.tree said b told'.tree) bytes says);
        makes = makes_edit;
        asked = subst (λ t. TreeIsAsked t told'.tree) fits.tree asked;
        tools = tools ∙ fits.tools;
      }

      pub edit_belongs : (KnowsStore g code.store → KnowsStore g code'.store) → GraphStays code code' → IsReady code'.store.journal (disk.size_of told'.disk) → disk.faults told'.disk ≡ disk.faults told.disk → told'.tools ≡ told.tools
          → TreeStays told.tree told'.tree → told'.over ≡ None → SessionInvariant disk from g text limit first start code' new told'
      edit_belongs knows stays ready faults tools tree within =
          belongs_on disk from g text limit first start code state told fits edited code' told' goes knows stays ready faults (same_tools told.tools told'.tools tools fits.stay.few) tree (ap (λ (t : Spawned). t.running) tools ∙ fits.idle) within

      pub edit_leaves : disk.faults told'.disk ≡ disk.faults told.disk → told'.tools ≡ told.tools → TreeStays told.tree told'.tree → told'.over ≡ None → StateAtExit disk g text limit first start state new told'
      edit_leaves faults tools tree within =
          left_by disk from g text limit first start code state told fits told' (same_tools told.tools told'.tools tools fits.stay.few) tree edited
          (safe_made disk from g text limit first start code state told fits edited code'.store told'.disk goes faults) (λ at size some. (let no : ⊥ = cc in absurd no))
          (λ quiet. inl (holds_all disk from g text limit first start code state told fits edited code'.store told'.disk goes quiet))

    -- ---- edits that failed

    -- what an edit leaves that was not made, or that the disk failed
    pub edit_left : (change : Change) (Asked : Change → Type 0) (next : Store) (told' : Told D) (e : JournalFault) → (e ≢ fault.Memory → Asked change) → HasFailed disk.told change code.store next told.disk told'.disk e
        → disk.faults told.disk ≤ disk.faults told'.disk → CountAfterJournalFault (disk.faults told.disk) (disk.faults told'.disk) e → told'.tools ≡ told.tools → TreeStays told.tree told'.tree
        → (furthest : SessionState) × (MayEdit Asked state furthest × (furthest.tree ≡ told'.tree) × StateAtExit disk g text limit first start state furthest (told_with_stop (stop_of e) told'))
    edit_left change Asked next told' fault.Disk due failed later cause tools tree =
        let new = next_state state (change ∷ []) told'.tools told'.tree in
        let here : IsSame code.store code.store told.disk told.disk = record { disk_is = refl; store_is = record { journal = refl; tables = refl; sources = refl; graph = refl; epoch = refl }; nodes = refl } in
        let goes : Performs disk.told [] code.store code.store told.disk told.disk = goes_none disk.told code.store code.store told.disk told.disk here in (
          new,
          (
            record { changes = change ∷ []; due = inr (change, due (λ e. let no : ⊥ = cc in no), subst (λ (h : Held). IsDue change h) fits.held failed.0, refl); makes = makes_next state (change ∷ []) told'.tools told'.tree; tools = tools ∙ fits.tools },
            refl,
            left_by disk from g text limit first start code state told fits (told_with_stop stop.Disk told') (same_tools told.tools told'.tools tools fits.stay.few) tree (change ∷ [])
                (safe_failed disk from g text limit first start code state told fits (change ∷ []) told'.disk failed.1 later cause) (λ at size some. (let no : ⊥ = cc in absurd no))
                (failed_last disk from g text limit first start code state told fits [] change code.store told.disk (told_with_stop stop.Disk told') goes failed.1 cause),
          ),
        )
    edit_left change Asked next told' (fault.NotOurs at) due failed later cause tools tree = absurd failed
    edit_left change Asked next told' (fault.Full at size) due failed later cause tools tree =
        let new = next_state state (change ∷ []) told'.tools told'.tree in
        let here : IsSame code.store code.store told.disk told'.disk = record { disk_is = failed.1.0.disk_is; store_is = record { journal = refl; tables = refl; sources = refl; graph = refl; epoch = refl }; nodes = refl } in
        let goes : Performs disk.told [] code.store code.store told.disk told'.disk = goes_none disk.told code.store code.store told.disk told'.disk here in (
          new,
          (
            record { changes = change ∷ []; due = inr (change, due (λ e. let no : ⊥ = cc in no), subst (λ (h : Held). IsDue change h) fits.held failed.0, refl); makes = makes_next state (change ∷ []) told'.tools told'.tree; tools = tools ∙ fits.tools },
            refl,
            left_by disk from g text limit first start code state told fits (told_with_stop (stop.Full at size) told') (same_tools told.tools told'.tools tools fits.stay.few) tree (change ∷ [])
                (safe_full disk from g text limit first start code state told fits [] change code.store told'.disk goes cause)
                (λ a s some.
                let same_at : at ≡ a = ap (λ (p : ℕ × ℕ). p.0) (same_some some) in
                let same_size : size ≡ s = ap (λ (p : ℕ × ℕ). p.1) (same_some some) in
                subst (λ x. HasNoRoomForLast disk.told text (state.changes ++ change ∷ []) start.disk told'.disk x s) same_at
                (subst (λ x. HasNoRoomForLast disk.told text (state.changes ++ change ∷ []) start.disk told'.disk at x) same_size
                (is_full disk from g text limit first start code state told fits [] change code.store told'.disk failed.1.1.0 at size goes failed.1.1.1 failed.1.1.2)))
                (full_last disk from g text limit first start code state told fits [] change code.store (told_with_stop (stop.Full at size) told') goes (λ none. (let no : ⊥ = cc in no))),
          ),
        )
    edit_left change Asked next told' fault.Memory due failed later cause tools tree =
        let new = next_state state [] told'.tools told'.tree in
        let goes : Performs disk.told [] code.store next told.disk told'.disk = goes_none disk.told code.store next told.disk told'.disk failed in (
          new,
          (
            record { changes = []; due = inl refl; makes = makes_next state [] told'.tools told'.tree; tools = tools ∙ fits.tools },
            refl,
            left_by disk from g text limit first start code state told fits (told_with_stop stop.Memory told') (same_tools told.tools told'.tools tools fits.stay.few) tree []
                (safe_made disk from g text limit first start code state told fits [] next told'.disk goes cause) (λ at size some. (let no : ⊥ = cc in absurd no))
                (λ quiet. inl (holds_all disk from g text limit first start code state told fits [] next told'.disk goes quiet)),
          ),
        )

    -- ---- asks

    calls_are : code.store.kept.tables.calls ≡ state.held.calls
    calls_are = ap (λ (h : Held). h.calls) fits.held

    -- where what was held of nodes at the start is true, what the code keeps of them is known
    known_here : RecordsAreTrue g from → KnowsStore code.graph code.store
    known_here trust = subst (λ (on : Graph). KnowsStore on code.store) (sym fits.graph) (fits.knows trust)

    -- what is so of the code is so of the state
    of_state : (P : Graph → Texts → Calls → ℕ → Spawned → Type 0) → P code.graph code.store.sources.texts code.store.kept.tables.calls code.jobs told.tools → P g state.held.sources state.held.calls limit state.tools
    of_state P is =
        subst (λ (on : Graph). P on state.held.sources state.held.calls limit state.tools) fits.graph
        (subst (λ (most : ℕ). P code.graph state.held.sources state.held.calls most state.tools) fits.jobs
        (subst (λ (s : Texts). P code.graph s state.held.calls code.jobs state.tools) sources_are
        (subst (λ (k : Calls). P code.graph code.store.sources.texts k code.jobs state.tools) calls_are
        (subst (λ (t : Spawned). P code.graph code.store.sources.texts code.store.kept.tables.calls code.jobs t) fits.tools is))))

    -- these outcomes were kept, and this was noted after them
    module _ (query : Text) (given : Calls) (noted : List Fact) (next : Store) (told' : Told D) (goes : Performs disk.told (changes_for given noted) code.store next told.disk told'.disk) (tree : told'.tree ≡ told.tree) where
      abbrev made : List Change
      made = changes_for given noted

      abbrev asked : SessionState
      asked = next_state state made told'.tools told'.tree

      asked_are : held_in next ≡ asked.held
      asked_are = goes.holds ∙ ap (after_changes store_keeping made) fits.held

      -- what is noted is true beside what is held then
      truth_from : AreTrueBeside code.graph (known_in next) noted → AreTrueBeside g (kept_outcome asked.held.calls) noted
      truth_from truth =
          subst (λ (on : Graph). AreTrueBeside on (kept_outcome asked.held.calls) noted) fits.graph
          (subst (λ (h : Held). AreTrueBeside code.graph (kept_outcome h.calls) noted) asked_are truth)

      pub asks : (said : Reply) (bytes : List ℕ) → bytes ≡ reply_text said
          → IsReplyIf (KnowsStore code.graph code.store) code.graph code.store.sources.texts code.store.kept.tables.calls code.jobs query said given told.tools told'.tools
          → (KnowsStore code.graph code.store → IsKnownAfter disk.told code.graph code.jobs query (at code.store told.disk told.tools) (at next told'.disk told'.tools) given noted said)
          → AsksForObject (RecordsAreTrue g from) g limit query state bytes asked
      asks said bytes bytes_are is right = record {
        given = given;
        noted = noted;
        says = record {
          said = said;
          bytes_are = bytes_are;
          holds = record {
            is = of_state (λ on s k most t. IsReplyIf (RecordsAreTrue g from) on s k most query said given t told'.tools)
                (reply_if (KnowsStore code.graph code.store) (RecordsAreTrue g from) code.graph code.store.sources.texts code.store.kept.tables.calls code.jobs query said given told.tools told'.tools known_here is);
            recorded = λ trust.
                of_state (λ on s k most t. IsRecordedFor on s (after (kept_outcome k) given) query said asked.held.records)
                (subst (λ (h : Held). IsRecordedFor code.graph code.store.sources.texts (after (known_in code.store) given) query said h.records) asked_are (right (known_here trust)).recorded);
          };
        };
        makes = makes_next state made told'.tools told'.tree;
        truth = λ trust. truth_from (right (known_here trust)).truth;
        tree = tree ∙ fits.tree;
      }

      pub asked_leaves : disk.faults told'.disk ≡ disk.faults told.disk → ToolsStay told.tools told'.tools → ((at size : ℕ) → told'.over ≡ Some (at, size) → ⊥) → StateAtExit disk g text limit first start state asked told'
      asked_leaves faults stay within =
          left_by disk from g text limit first start code state told fits told' stay (same_tree told.tree told'.tree tree) made
          (safe_made disk from g text limit first start code state told fits made next told'.disk goes faults) (λ at size some. absurd (within at size some))
          (λ quiet. inl (holds_all disk from g text limit first start code state told fits made next told'.disk goes quiet))

      -- an ask that was begun so, without a reply
      pub may_have_asked : (KnowsStore code.graph code.store → IsRightlyWanted disk.told code.graph code.jobs query (at code.store told.disk told.tools) (at next told'.disk told'.tools) given noted)
          → MayHaveAsked (RecordsAreTrue g from) g limit query state asked
      may_have_asked right = record {
        given = given;
        noted = noted;
        begun = λ trust. of_state (λ on s k most t. MayHaveBegunWith on s k most query given t told'.tools) (right (known_here trust)).begun;
        makes = makes_next state made told'.tools told'.tree;
        truth = λ trust. truth_from (right (known_here trust)).truth;
        tree = tree ∙ fits.tree;
      }

    -- what comes after an ask
    pub asked_belongs : (given : Calls) (noted : List Fact) (code' : Engaged) (told' : Told D) → Performs disk.told (changes_for given noted) code.store code'.store told.disk told'.disk → (KnowsStore code.graph code.store → KnowsStore code.graph code'.store)
        → GraphStays code code' → IsReady code'.store.journal (disk.size_of told'.disk) → disk.faults told'.disk ≡ disk.faults told.disk → ToolsStay told.tools told'.tools → told'.tree ≡ told.tree → told'.tools.running ≡ [] → told'.over ≡ None
        → SessionInvariant disk from g text limit first start code' (next_state state (changes_for given noted) told'.tools told'.tree) told'
    asked_belongs given noted code' told' goes knows stays ready faults stay tree idle within =
        belongs_on disk from g text limit first start code state told fits (changes_for given noted) code' told' goes (subst (λ (on : Graph). KnowsStore on code.store → KnowsStore on code'.store) fits.graph knows) stays ready faults stay
        (same_tree told.tree told'.tree tree) idle within

    -- an ask of which something was to be kept at last, and wasn't
    may_have_come : (query : Text) (given : Calls) (last : Change) (mid next : Store) (between : D) (told' : Told D) → (ends : EndsWith given last) → Performs disk.told (keeps_of given) code.store mid told.disk between
        → (KnowsStore code.graph code.store → HaveComeBefore disk.told code.graph code.jobs query (at code.store told.disk told.tools) (at next told'.disk told'.tools) (known_in mid) given last) → told'.tree ≡ told.tree
        → MayHaveAsked (RecordsAreTrue g from) g limit query state (next_state state (changes_for ends.all ends.noted) told'.tools told'.tree)
    may_have_come query given last mid next between told' ends goes right tree =
        let kept : mid.kept.tables.calls ≡ code.store.kept.tables.calls ++ given = ap (λ (h : Held). h.calls) goes.holds ∙ calls_of_keeps given (held_in code.store) in
        record {
          given = ends.all;
          noted = ends.noted;
          begun = λ trust.
              let come = right (known_here trust) in
              of_state (λ on s k most t. MayHaveBegunWith on s k most query ends.all t told'.tools)
              (ends.begun code.graph code.store.sources.texts code.store.kept.tables.calls code.jobs query (known_in mid) come.rest told.tools told'.tools come.ends come.came);
          makes = makes_next state (changes_for ends.all ends.noted) told'.tools told'.tree;
          truth = λ trust.
              let come = right (known_here trust) in
              subst (λ (k : Calls). AreTrueBeside g (kept_outcome k) ends.noted) (sym (kept_calls ends.all ends.noted state.held))
              (of_state (λ on s k most t. AreTrueBeside on (kept_outcome (k ++ ends.all)) ends.noted)
              (ends.truth code.graph code.store.kept.tables.calls come.rest (subst (λ (k : Calls). IsLastOf code.graph (kept_outcome k) come.rest last) kept come.ends)));
          tree = tree ∙ fits.tree;
        }

    -- what an ask leaves that gets no reply
    pub ask_left : (query : Text) (next : Store) (told' : Told D) (e : JournalFault)
        → HasStopped disk.told code.graph code.jobs query (at code.store told.disk told.tools) (at next told'.disk told'.tools) e
        → disk.faults told.disk ≤ disk.faults told'.disk → CountAfterJournalFault (disk.faults told.disk) (disk.faults told'.disk) e → ToolsStay told.tools told'.tools → told'.tree ≡ told.tree
        → (furthest : SessionState) × MayHaveAsked (RecordsAreTrue g from) g limit query state furthest × StateAtExit disk g text limit first start state furthest (told_with_stop (stop_of e) told')
    ask_left query next told' fault.Disk failed later cause stay tree =
        let last : Change = failed.last in
        let ends : EndsWith failed.given last = ends_with failed.given last (held_in failed.mid.store) failed.is failed.due in
        let made : List Change = changes_for ends.all ends.noted in (
          next_state state made told'.tools told'.tree,
          may_have_come query failed.given last failed.mid.store next failed.mid.disk told' ends failed.goes failed.right tree,
          left_by disk from g text limit first start code state told fits (told_with_stop stop.Disk told') stay (same_tree told.tree told'.tree tree) made
              (subst (λ l. IsSafe disk.told text first.held state.changes (state.changes ++ l) start.disk told'.disk (disk.faults start.disk) (disk.faults told'.disk)) (sym ends.list)
              (safe_failed disk from g text limit first start code state told fits (keeps_of failed.given ++ last ∷ []) told'.disk
              (stops_behind disk.told (keeps_of failed.given) (last ∷ []) code.store failed.mid.store told.disk failed.mid.disk told'.disk failed.goes failed.stops) later cause))
              (λ at size some. (let no : ⊥ = cc in absurd no))
              (λ quiet. subst (λ l. Lasts disk from g text limit first start code state told fits l (told_with_stop stop.Disk told')) (sym ends.list)
              (failed_last disk from g text limit first start code state told fits (keeps_of failed.given) last failed.mid.store failed.mid.disk (told_with_stop stop.Disk told') failed.goes failed.stops cause quiet)),
        )
    ask_left query next told' (fault.NotOurs place) failed later cause stay tree = absurd failed
    ask_left query next told' (fault.Full end size) failed later cause stay tree =
        let last : Change = failed.last in
        let ends : EndsWith failed.given last = ends_with failed.given last (held_in next) failed.is failed.due in
        let made : List Change = changes_for ends.all ends.noted in (
          next_state state made told'.tools told'.tree,
          may_have_come query failed.given last next next told'.disk told' ends failed.goes failed.right tree,
          left_by disk from g text limit first start code state told fits (told_with_stop (stop.Full end size) told') stay (same_tree told.tree told'.tree tree) made
              (subst (λ l. IsSafe disk.told text first.held state.changes (state.changes ++ l) start.disk told'.disk (disk.faults start.disk) (disk.faults told'.disk)) (sym ends.list)
              (safe_full disk from g text limit first start code state told fits (keeps_of failed.given) last next told'.disk failed.goes cause))
              (λ a s some.
              let same_at : end ≡ a = ap (λ (p : ℕ × ℕ). p.0) (same_some some) in
              let same_size : size ≡ s = ap (λ (p : ℕ × ℕ). p.1) (same_some some) in
              subst (λ l. HasNoRoomForLast disk.told text (state.changes ++ l) start.disk told'.disk a s) (sym ends.list)
              (subst (λ x. HasNoRoomForLast disk.told text (state.changes ++ (keeps_of failed.given ++ last ∷ [])) start.disk told'.disk x s) same_at
              (subst (λ x. HasNoRoomForLast disk.told text (state.changes ++ (keeps_of failed.given ++ last ∷ [])) start.disk told'.disk end x) same_size
              (is_full disk from g text limit first start code state told fits (keeps_of failed.given) last next told'.disk failed.items end size failed.goes failed.batch failed.over))))
              (λ quiet. subst (λ l. Lasts disk from g text limit first start code state told fits l (told_with_stop (stop.Full end size) told')) (sym ends.list)
              (full_last disk from g text limit first start code state told fits (keeps_of failed.given) last next (told_with_stop (stop.Full end size) told') failed.goes (λ none. (let no : ⊥ = cc in no)) quiet)),
        )
    ask_left query next told' fault.Memory wanted later cause stay tree = (
      next_state state (changes_for wanted.given wanted.noted) told'.tools told'.tree,
      may_have_asked query wanted.given wanted.noted next told' wanted.goes tree wanted.right,
      asked_leaves query wanted.given wanted.noted next (told_with_stop stop.Memory told') wanted.goes tree cause stay (λ at size some. (let no : ⊥ = cc in no)),
    )

  -- ---- by what an ask did

  module _ (code code' : Engaged) (query : Text) (tools tools' : Spawned) (now now' : D) where
    abbrev first_at : At D
    first_at = at code.store now tools

    abbrev last_at : At D
    last_at = at code'.store now' tools'

    -- what stays of the tools
    asked_stay : (limit : ℕ) → code.jobs ≡ limit → limit ≤ 64 → tools'.answer ≡ tools.answer → tools.faults ≤ tools'.faults → length tools'.running ≤ code.jobs → ToolsStay tools tools'
    asked_stay limit jobs most answer later few = record { answers = answer; later = later; few = omega (arith, few, jobs, most) }

    module _ (said : Reply) (bytes : List ℕ) (replied : HasReplied disk.told code.graph code.jobs query first_at last_at said) (answer : tools'.answer ≡ tools.answer) (later : tools.faults ≤ tools'.faults) (few : length tools'.running ≤ code.jobs)
        (faults : disk.faults now' ≡ disk.faults now) where
      pub ask_answers : bytes ≡ reply_text said → GraphStays code code' → IsReady code'.store.journal (disk.size_of now') → tools'.running ≡ [] → AnswersAsk disk code query tools now bytes code' tools' now'
      ask_answers bytes_are stays ready idle kept sink tree from g text limit first start state body same fits =
          let told : Told D = telling sink tools tree now in
          let told' : Told D = telling sink tools' tree now' in
          let stay = asked_stay limit fits.jobs fits.few answer later few in
          record {
            new = next_state state (changes_for replied.given replied.noted) tools' tree;
            step = asks from g text limit first start code state told fits query replied.given replied.noted code'.store told' replied.goes refl said bytes bytes_are replied.is replied.right;
            fits = asked_belongs from g text limit first start code state told fits replied.given replied.noted code' told' replied.goes (λ knows. (replied.right knows).knows) stays ready faults stay refl idle refl;
            left = asked_leaves from g text limit first start code state told fits query replied.given replied.noted code'.store told' replied.goes refl faults stay (λ at size some. (let no : ⊥ = cc in no));
          }

      -- memory was wanting for the bytes of the reply
      pub unsaid : HaltsAsk disk code query tools now fault.Memory tools' now'
      unsaid kept sink tree from g text limit first start state body same fits =
          let told : Told D = telling sink tools tree now in
          let told' : Told D = telling sink tools' tree now' in
          let stay = asked_stay limit fits.jobs fits.few answer later few in
          record {
            furthest = next_state state (changes_for replied.given replied.noted) tools' tree;
            may = may_have_asked from g text limit first start code state told fits query replied.given replied.noted code'.store told' replied.goes refl
                (λ knows. record {
                  begun = reply_wanted (KnowsStore code.graph code.store) code.graph code.store.sources.texts code.store.kept.tables.calls code.jobs query said replied.given tools tools' replied.is knows;
                  truth = (replied.right knows).truth;
                });
            exit = asked_leaves from g text limit first start code state told fits query replied.given replied.noted code'.store told' replied.goes refl faults stay (λ at size some. (let no : ⊥ = cc in no));
          }

    -- an ask that gets no reply
    pub ask_halts : (e : JournalFault) → HasStopped disk.told code.graph code.jobs query first_at last_at e → tools'.answer ≡ tools.answer → tools.faults ≤ tools'.faults → length tools'.running ≤ code.jobs → disk.faults now ≤ disk.faults now'
        → CountAfterJournalFault (disk.faults now) (disk.faults now') e → HaltsAsk disk code query tools now e tools' now'
    ask_halts e has answer rose few later cause kept sink tree from g text limit first start state body same fits =
        let told : Told D = telling sink tools tree now in
        let told' : Told D = telling sink tools' tree now' in
        let left = ask_left from g text limit first start code state told fits query code'.store told' e has later cause (asked_stay limit fits.jobs fits.few answer rose few) refl in
        record { furthest = left.0; may = left.1; exit = left.2 }
