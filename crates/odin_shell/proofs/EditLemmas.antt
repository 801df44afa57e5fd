-- Edits that are answered, and those that fail, by what the store did.
use Rattle.std.proofs.Common.{◌≡◌, ◌≢◌, ℕ, ◌≤◌, List, None, inl, inr, ap, sym, refl, ◌∙◌, subst}
use Rattle.std.specs.FinMap.{insert}
use Rattle.std.proofs.lemmas.Bool.{le-leb}
use Rattle.object_values.specs.Texts.{Text, Texts}
use Rattle.meaning_texts.specs.Limits.{body_limit}
use Rattle.meaning_commands.specs.Items.{SameBody}
use Rattle.odin_bytes.specs.declared.commands.Command.TheVariants.{Put, Take, Remove}
use Rattle.object_values.specs.declared.replies.Reply.{Reply}
use Rattle.odin_journal.specs.Faults.{CountAfterJournalFault}
use Rattle.odin_journal.specs.Rest.{IsReady}
use Rattle.odin_journal.specs.declared.fault.JournalFault.{JournalFault}
use Rattle.odin_journal.specs.declared.fault.JournalFault.TheVariants as fault
use Rattle.odin_store.specs.Held.{Change, puts, drops}
use Rattle.odin_store.specs.Edited.{HasFailed}
use Rattle.odin_engine.specs.Engaged.{Engaged, GraphStays}
use Rattle.odin_answers.specs.Edits.{SaysReply, TreeTold, TreeIsAsked, Puts, Takes, Removes}
use Rattle.odin_answers.specs.Changes.{edit_changes, EditsSource, IsPutText, MayBeTaken, HasFailedToPut}
use Rattle.odin_outside.specs.declared.disk.Disk.{Ghosts as DiskView}
use Rattle.odin_shell.specs.Language.{commands}
use Rattle.odin_shell.specs.Endings.{stop_of}
use Rattle.odin_shell.specs.Machine.{Told, IsPutChange, IsTakeChange, told_with_stop}
use Rattle.odin_shell.specs.Served.{Answers, HaltsCommand, HasHalted}
use Rattle.odin_shell.proofs.StateLemmas.{next_state, same_tree}
use Rattle.odin_shell.proofs.AnswerLemmas.{edits, edits_by_file, edit_belongs, edit_leaves, edit_left}

-- bytes that are passed over
put_any : (old : Texts) (name : Text) (count : ℕ) (body kept : Text) (said : Reply) (new : Texts) → SameBody commands (Put name count) body kept → Puts old name count kept said new → Puts old name count body said new
put_any old name count body kept said new same (inl is) =
    inl (record { fits = is.fits; is = is.is; put = subst (λ (b : Text). new ≡ insert old name b) (sym (same (le-leb count body_limit is.fits))) is.put })
put_any old name count body kept said new same (inr is) = inr is

module _ {D : Type 0} (disk : DiskView D) (code code' : Engaged) (told told' : Told D) where
  -- a call of the store that was made
  pub record IsMadeOf (name : Text) : Type 0 where
    pub edited : EditsSource disk.told name code.store code'.store told.disk told'.disk
    pub stays : GraphStays code code'
    pub ready : IsReady code'.store.journal (disk.size_of told'.disk)
    pub faults : disk.faults told'.disk ≡ disk.faults told.disk
    pub tools : told'.tools ≡ told.tools
    pub within : told'.over ≡ None

  abbrev changes : Text → List Change
  changes name = edit_changes name code.store.sources.texts code'.store.sources.texts

  pub put_answers : (name : Text) (count : ℕ) (kept bytes : List ℕ) → SaysReply (λ said. Puts code.store.sources.texts name count kept said code'.store.sources.texts) bytes → IsMadeOf name → told'.tree ≡ told.tree
      → Answers disk code (Put name count) kept told bytes code' told'
  put_answers name count kept bytes says made tree from g text limit first start state body same fits = record {
    new = next_state state (changes name) told'.tools told'.tree;
    step = edits disk from g text limit first start code state told fits name code' told' made.edited.goes (λ old. Puts old name count body) bytes
        (record {
          said = says.said;
          bytes_are = says.bytes_are;
          holds = put_any code.store.sources.texts name count body kept says.said code'.store.sources.texts same says.holds;
        }) made.tools tree;
    fits = edit_belongs disk from g text limit first start code state told fits name code' told' made.edited.goes (made.edited.knows g) made.stays made.ready made.faults made.tools (same_tree told.tree told'.tree tree) made.within;
    left = edit_leaves disk from g text limit first start code state told fits name code' told' made.edited.goes made.faults made.tools (same_tree told.tree told'.tree tree) made.within;
  }

  pub remove_answers : (name : Text) (kept bytes : List ℕ) → SaysReply (λ said. Removes code.store.sources.texts name said code'.store.sources.texts) bytes → IsMadeOf name → told'.tree ≡ told.tree
      → Answers disk code (Remove name) kept told bytes code' told'
  remove_answers name kept bytes says made tree from g text limit first start state body same fits = record {
    new = next_state state (changes name) told'.tools told'.tree;
    step = edits disk from g text limit first start code state told fits name code' told' made.edited.goes (λ old. Removes old name) bytes says made.tools tree;
    fits = edit_belongs disk from g text limit first start code state told fits name code' told' made.edited.goes (made.edited.knows g) made.stays made.ready made.faults made.tools (same_tree told.tree told'.tree tree) made.within;
    left = edit_leaves disk from g text limit first start code state told fits name code' told' made.edited.goes made.faults made.tools (same_tree told.tree told'.tree tree) made.within;
  }

  pub take_answers : (name : Text) (kept bytes : List ℕ) → SaysReply (λ said. Takes code.store.sources.texts name told.tree said code'.store.sources.texts told'.tree) bytes → IsMadeOf name → TreeIsAsked told.tree told'.tree
      → Answers disk code (Take name) kept told bytes code' told'
  take_answers name kept bytes says made asked from g text limit first start state body same fits = record {
    new = next_state state (changes name) told'.tools told'.tree;
    step = edits_by_file disk from g text limit first start code state told fits name code' told' made.edited.goes bytes says made.tools asked;
    fits = edit_belongs disk from g text limit first start code state told fits name code' told' made.edited.goes (made.edited.knows g) made.stays made.ready made.faults made.tools asked.stays made.within;
    left = edit_leaves disk from g text limit first start code state told fits name code' told' made.edited.goes made.faults made.tools asked.stays made.within;
  }

  -- ---- edits that fail

  -- what the disk and the tools tell then
  pub record HasCeased (e : JournalFault) : Type 0 where
    pub later : disk.faults told.disk ≤ disk.faults told'.disk
    pub cause : CountAfterJournalFault (disk.faults told.disk) (disk.faults told'.disk) e
    pub tools : told'.tools ≡ told.tools

  -- a `put` that fails as the store says
  pub put_halts : (name : Text) (count : ℕ) (kept : List ℕ) (e : JournalFault) → HasFailedToPut disk.told (IsPutText count kept) name code.store code'.store told.disk told'.disk e → HasCeased e → told'.tree ≡ told.tree
      → HaltsCommand disk code (Put name count) kept told e told'
  put_halts name count kept e failed ceased tree from g text limit first start state body same fits = by failed
    where
      by_change : (change : Change) → HasFailed disk.told change code.store code'.store told.disk told'.disk e → (e ≢ fault.Memory → IsPutChange name count body change) → HasHalted disk from g text limit first start state (Put name count) body (told_with_stop (stop_of e) told')
      by_change change fails due =
          let left = edit_left disk from g text limit first start code state told fits change (IsPutChange name count body) code'.store told' e due fails ceased.later ceased.cause ceased.tools (same_tree told.tree told'.tree tree) in
          record { furthest = left.0; may = (left.1.0, left.1.1 ∙ tree ∙ fits.tree); exit = left.1.2 }

      by : HasFailedToPut disk.told (IsPutText count kept) name code.store code'.store told.disk told'.disk e → HasHalted disk from g text limit first start state (Put name count) body (told_with_stop (stop_of e) told')
      by (inl wanting) =
          by_change (drops name) (subst (HasFailed disk.told (drops name) code.store code'.store told.disk told'.disk) (sym wanting.is) wanting.same) (λ differs. absurd (differs wanting.is))
      by (inr fails) =
          by_change (puts name fails.text) fails.failed
          (λ differs. (fails.is.0, ap (puts name) (fails.is.1 ∙ sym (same (le-leb count body_limit fails.is.0)))))

  pub remove_halts : (name : Text) (kept : List ℕ) (e : JournalFault) → HasFailed disk.told (drops name) code.store code'.store told.disk told'.disk e → HasCeased e → told'.tree ≡ told.tree → HaltsCommand disk code (Remove name) kept told e told'
  remove_halts name kept e failed ceased tree from g text limit first start state body same fits =
      let left = edit_left disk from g text limit first start code state told fits (drops name) (λ change. change ≡ drops name) code'.store told' e (λ differs. refl) failed ceased.later ceased.cause ceased.tools (same_tree told.tree told'.tree tree) in
      record { furthest = left.0; may = (left.1.0, left.1.1 ∙ tree ∙ fits.tree); exit = left.1.2 }

  module _ (name : Text) (kept : List ℕ) (e : JournalFault) (ceased : HasCeased e) (asked : TreeIsAsked told.tree told'.tree) where
    -- a change that is due, or want of memory
    take_left : (change : Change) → HasFailed disk.told change code.store code'.store told.disk told'.disk e → (e ≢ fault.Memory → IsTakeChange name told.tree change) → HaltsCommand disk code (Take name) kept told e told'
    take_left change failed is_due from g text limit first start state body same fits =
        let due : e ≢ fault.Memory → IsTakeChange name state.tree change = λ differs. subst (λ (t : TreeTold). IsTakeChange name t change) fits.tree (is_due differs) in
        let left = edit_left disk from g text limit first start code state told fits change (IsTakeChange name state.tree) code'.store told' e due failed ceased.later ceased.cause ceased.tools asked.stays in
        record {
          furthest = left.0;
          may = (left.1.0, subst (λ (t : TreeTold). TreeIsAsked t (left.0).tree) fits.tree (subst (λ (t : TreeTold). TreeIsAsked told.tree t) (sym left.1.1) asked));
          exit = left.1.2;
        }

    pub take_halts : HasFailedToPut disk.told (MayBeTaken told.tree.files name) name code.store code'.store told.disk told'.disk e → HaltsCommand disk code (Take name) kept told e told'
    take_halts (inl wanting) =
        take_left (drops name) (subst (HasFailed disk.told (drops name) code.store code'.store told.disk told'.disk) (sym wanting.is) wanting.same) (λ differs. absurd (differs wanting.is))
    take_halts (inr fails) = take_left (puts name fails.text) fails.failed (λ differs. (fails.text, fails.is.0, fails.is.1, refl))
