-- What every end of a session and of a store says: which counts of faults rose, what the input says of the status, and what stays of tree
-- and tools.
use Rattle.std.proofs.Common.{◌≡◌, ◌≢◌, ℕ, ◌≤◌, List, [], Option, Some, None, IfSome, ap, sym, refl, ◌∙◌, subst, inl, inr}
use Rattle.std.specs.Prelude.{⊤}
use Rattle.odin_outside.specs.Causes.{IsCounted}
use Rattle.odin_outside.specs.Spawned.{Spawned}
use Rattle.meaning_graph.specs.Graphs.{Text, Graph}
use Rattle.meaning_commands.specs.Objects.{SinkTold}
use Rattle.meaning_commands.proofs.Lemmas.{not_inside, at_word, is_inside, is_long}
use Rattle.odin_journal.specs.Faults.{CountAfterJournalFault}
use Rattle.odin_journal.specs.declared.fault.JournalFault.{JournalFault}
use Rattle.odin_journal.specs.declared.fault.JournalFault.TheVariants as fault
use Rattle.odin_store.specs.Held.{Held}
use Rattle.odin_shell.specs.declared.ending.Ending.{Ending}
use Rattle.odin_shell.specs.declared.ending.Ending.TheVariants.{Whole, CutShort, BadGraph, Disk, Memory, Output, Input, NotOurs, Full, Usage, TooLong, Loaded, Room}
use Rattle.odin_shell.specs.Endings.{ending_status, EndingLeavesTools}
use Rattle.odin_shell.specs.Opened.{not_ours_line, full_line}
use Rattle.odin_outside.specs.declared.disk.Disk.{Ghosts as DiskView}
use Rattle.odin_shell.specs.Language.{commands}
use Rattle.odin_shell.specs.Held.{Keeps}
use Rattle.odin_answers.specs.Edits.{TreeTold, TreeStays, tree_of}
use Rattle.odin_shell.specs.Machine.{at_first, Told, ToolsStay, machine}
use Rattle.odin_shell.specs.Objects.{Outside, Views}
use Rattle.odin_shell.specs.Run as run
use Rattle.odin_shell.specs.Run.{LastLine, whole, cut_off, SessionLeaves, InputCount, DiskCount, OutputCount, AllowedBy, Closes, ClosesFor, SaysLastLine}
use Rattle.meaning_commands.proofs.Lemmas.{one_command}
use Rattle.odin_shell.proofs.StateLemmas.{idle_few, same_tools, same_tree}

-- ---- a last line

-- what holds of the ending that is due and of a failed output holds of the ending
pub at_end : (line : Text) (due : Ending) (before now : SinkTold) (ending : Ending) (P : Ending → Type 0) → LastLine line due before now ending → P due → P Output → P ending
at_end line due before now ending P (whole is) p q = p
at_end line due before now ending P (cut_off part) p q = q

pub line_output : (line : Text) (due : Ending) (before now : SinkTold) (ending : Ending) → (now.faults ≡ before.faults → OutputCount due before.faults now.faults) → LastLine line due before now ending
    → OutputCount ending before.faults now.faults
line_output line due before now ending other (whole is) = other (ap (λ (s : SinkTold). s.faults) is)
line_output line due before now ending other (cut_off part) = part.counted

-- the same of a line that may want memory before it
pub at_says : (line : Text) (due : Ending) (before now : SinkTold) (ending : Ending) (P : Ending → Type 0) → SaysLastLine line due before now ending → P due → P Output → P Memory → P ending
at_says line due before now ending P (inl last) p q m = at_end line due before now ending P last p q
at_says line due before now ending P (inr none) p q m = subst P (sym none.1) m

pub says_output : (line : Text) (due : Ending) (before now : SinkTold) (ending : Ending) → (now.faults ≡ before.faults → OutputCount due before.faults now.faults) → SaysLastLine line due before now ending
    → OutputCount ending before.faults now.faults
says_output line due before now ending other (inl last) = line_output line due before now ending other last
says_output line due before now ending other (inr none) = subst (λ e. OutputCount e before.faults now.faults) (sym none.1) (ap (λ (s : SinkTold). s.faults) none.0)

pub anything : (o : Option (List ℕ)) → IfSome o (λ text. ⊤)
anything None = tt
anything (Some text) = tt

-- the endings of a run after which tools may run: those that leave them, and a failed output, which may come in the place of one
abbrev pub MayRunOn : Ending → Type 0
MayRunOn Output = ⊤
MayRunOn due = EndingLeavesTools due

runs_on : (due : Ending) → EndingLeavesTools due → MayRunOn due
runs_on Output leaves = tt
runs_on due leaves = leaves

-- at these statuses alone
pub status_runs : (ending : Ending) (status : ℕ) → status ≡ ending_status ending → status ≢ 3 → status ≢ 4 → status ≢ 5 → status ≢ 8 → ¬ MayRunOn ending
status_runs Disk status is three four five eight = λ runs. three is
status_runs Memory status is three four five eight = λ runs. four is
status_runs Output status is three four five eight = λ runs. five is
status_runs (Full at size) status is three four five eight = λ runs. eight is
status_runs other status is three four five eight = λ runs. runs

-- what holds of the ending of a session, and of what may come in its place where the file is full, holds after what is written then
at_close : (due : Ending) (before now : SinkTold) (ending : Ending) (P : Ending → Type 0) → Closes due before now ending → P due → ((at size : ℕ) → P (Full at size) → P Memory × P Output) → P ending
at_close (Full at size) before now ending P (inl line) p more = at_end (full_line at size) (Full at size) before now ending P line p (more at size p).1
at_close (Full at size) before now ending P (inr none) p more = subst P (sym none.1) (more at size p).0
at_close Whole before now ending P closes p more = subst P (sym closes.1) p
at_close CutShort before now ending P closes p more = subst P (sym closes.1) p
at_close BadGraph before now ending P closes p more = subst P (sym closes.1) p
at_close Disk before now ending P closes p more = subst P (sym closes.1) p
at_close Memory before now ending P closes p more = subst P (sym closes.1) p
at_close Output before now ending P closes p more = subst P (sym closes.1) p
at_close Input before now ending P closes p more = subst P (sym closes.1) p
at_close (NotOurs at) before now ending P closes p more = subst P (sym closes.1) p
at_close Usage before now ending P closes p more = subst P (sym closes.1) p
at_close TooLong before now ending P closes p more = subst P (sym closes.1) p
at_close Loaded before now ending P closes p more = subst P (sym closes.1) p
at_close Room before now ending P closes p more = subst P (sym closes.1) p

-- the count of the output's faults after it
close_output : (due : Ending) (first before now : SinkTold) (ending : Ending) → OutputCount due first.faults before.faults → Closes due before now ending → OutputCount ending first.faults now.faults
close_output (Full at size) first before now ending same (inl (whole is)) = ap (λ (s : SinkTold). s.faults) is ∙ same
close_output (Full at size) first before now ending same (inl (cut_off part)) = subst (λ n. IsCounted n now.faults) same part.counted
close_output (Full at size) first before now ending same (inr none) = subst (λ e. OutputCount e first.faults now.faults) (sym none.1) (ap (λ (s : SinkTold). s.faults) none.0 ∙ same)
close_output Whole first before now ending counted closes = subst (λ e. OutputCount e first.faults now.faults) (sym closes.1) (subst (λ (s : SinkTold). OutputCount Whole first.faults s.faults) (sym closes.0) counted)
close_output CutShort first before now ending counted closes = subst (λ e. OutputCount e first.faults now.faults) (sym closes.1) (subst (λ (s : SinkTold). OutputCount CutShort first.faults s.faults) (sym closes.0) counted)
close_output BadGraph first before now ending counted closes = subst (λ e. OutputCount e first.faults now.faults) (sym closes.1) (subst (λ (s : SinkTold). OutputCount BadGraph first.faults s.faults) (sym closes.0) counted)
close_output Disk first before now ending counted closes = subst (λ e. OutputCount e first.faults now.faults) (sym closes.1) (subst (λ (s : SinkTold). OutputCount Disk first.faults s.faults) (sym closes.0) counted)
close_output Memory first before now ending counted closes = subst (λ e. OutputCount e first.faults now.faults) (sym closes.1) (subst (λ (s : SinkTold). OutputCount Memory first.faults s.faults) (sym closes.0) counted)
close_output Output first before now ending counted closes = subst (λ e. OutputCount e first.faults now.faults) (sym closes.1) (subst (λ (s : SinkTold). OutputCount Output first.faults s.faults) (sym closes.0) counted)
close_output Input first before now ending counted closes = subst (λ e. OutputCount e first.faults now.faults) (sym closes.1) (subst (λ (s : SinkTold). OutputCount Input first.faults s.faults) (sym closes.0) counted)
close_output (NotOurs at) first before now ending counted closes = subst (λ e. OutputCount e first.faults now.faults) (sym closes.1) (subst (λ (s : SinkTold). OutputCount (NotOurs at) first.faults s.faults) (sym closes.0) counted)
close_output Usage first before now ending counted closes = subst (λ e. OutputCount e first.faults now.faults) (sym closes.1) (subst (λ (s : SinkTold). OutputCount Usage first.faults s.faults) (sym closes.0) counted)
close_output TooLong first before now ending counted closes = subst (λ e. OutputCount e first.faults now.faults) (sym closes.1) (subst (λ (s : SinkTold). OutputCount TooLong first.faults s.faults) (sym closes.0) counted)
close_output Loaded first before now ending counted closes = subst (λ e. OutputCount e first.faults now.faults) (sym closes.1) (subst (λ (s : SinkTold). OutputCount Loaded first.faults s.faults) (sym closes.0) counted)
close_output Room first before now ending counted closes = subst (λ e. OutputCount e first.faults now.faults) (sym closes.1) (subst (λ (s : SinkTold). OutputCount Room first.faults s.faults) (sym closes.0) counted)

-- the last lines of a store
pub closes_full : (at size : ℕ) (due : Ending) (line : Text) (before now : SinkTold) (ending : Ending) → due ≡ Full at size → line ≡ full_line at size → LastLine line (Full at size) before now ending → Closes due before now ending
closes_full at size due line before now ending is line_is last = subst (λ d. Closes d before now ending) (sym is) (inl (subst (λ l. LastLine l (Full at size) before now ending) line_is last))

pub closes_not_ours : (at : ℕ) (e : JournalFault) (line : Text) (before now : SinkTold) (ending : Ending) → e ≡ fault.NotOurs at → line ≡ not_ours_line at → LastLine line (NotOurs at) before now ending → ClosesFor e before now ending
closes_not_ours at e line before now ending is line_is last =
    subst (λ d. ClosesFor d before now ending) (sym is) (inl (subst (λ l. LastLine l (NotOurs at) before now ending) line_is last))

-- ---- a session

module _ {D : Type 0} (disk : DiskView D) (g : Graph) (text : Text) (limit : ℕ) (held : Held) (start now : Told D) (input left : Option (List ℕ)) where
  session_output : (ending : Ending) → SessionLeaves disk g text limit held ending input left start now → OutputCount ending start.sink.faults now.sink.faults
  session_output Whole (inl l) = ap (λ (s : SinkTold). s.faults) l.ends.replied.wrote
  session_output Whole (inr l) = ap (λ (s : SinkTold). s.faults) l.ends.replied.wrote
  session_output CutShort l = ap (λ (s : SinkTold). s.faults) l.ends.replied.wrote
  session_output BadGraph l = absurd l
  session_output Disk l = ap (λ (s : SinkTold). s.faults) l.ends.wrote
  session_output Memory l = ap (λ (s : SinkTold). s.faults) l.ends.wrote
  session_output Output l = l.ends.wrote.counted
  session_output Input l = ap (λ (s : SinkTold). s.faults) l.ends.up_to.replied.wrote
  session_output (NotOurs at) l = absurd l
  session_output (Full at size) l = ap (λ (s : SinkTold). s.faults) l.ends.wrote
  session_output Usage l = absurd l
  session_output TooLong l = ap (λ (s : SinkTold). s.faults) l.ends.up_to.replied.wrote
  session_output Loaded l = absurd l
  session_output Room l = absurd l

  session_stay : (ending : Ending) → SessionLeaves disk g text limit held ending input left start now → ToolsStay start.tools now.tools
  session_stay Whole (inl l) = l.ends.replied.exit.stay
  session_stay Whole (inr l) = l.ends.replied.exit.stay
  session_stay CutShort l = l.ends.replied.exit.stay
  session_stay BadGraph l = absurd l
  session_stay Disk l = l.ends.exit.stay
  session_stay Memory l = l.ends.exit.stay
  session_stay Output l = l.ends.exit.stay
  session_stay Input l = l.ends.up_to.replied.exit.stay
  session_stay (NotOurs at) l = absurd l
  session_stay (Full at size) l = l.ends.exit.stay
  session_stay Usage l = absurd l
  session_stay TooLong l = l.ends.up_to.replied.exit.stay
  session_stay Loaded l = absurd l
  session_stay Room l = absurd l

  session_tree : (ending : Ending) → SessionLeaves disk g text limit held ending input left start now → TreeStays start.tree now.tree
  session_tree Whole (inl l) = l.ends.replied.exit.tree_stays
  session_tree Whole (inr l) = l.ends.replied.exit.tree_stays
  session_tree CutShort l = l.ends.replied.exit.tree_stays
  session_tree BadGraph l = absurd l
  session_tree Disk l = l.ends.exit.tree_stays
  session_tree Memory l = l.ends.exit.tree_stays
  session_tree Output l = l.ends.exit.tree_stays
  session_tree Input l = l.ends.up_to.replied.exit.tree_stays
  session_tree (NotOurs at) l = absurd l
  session_tree (Full at size) l = l.ends.exit.tree_stays
  session_tree Usage l = absurd l
  session_tree TooLong l = l.ends.up_to.replied.exit.tree_stays
  session_tree Loaded l = absurd l
  session_tree Room l = absurd l

  session_exact : (ending : Ending) → SessionLeaves disk g text limit held ending input left start now → IfSome input (AllowedBy ending)
  session_exact Whole (inl l) = not_inside commands Keeps (machine disk held g text limit) one_command (at_first held start.tools start.tree) start now input left l
  session_exact Whole (inr l) = at_word commands Keeps (machine disk held g text limit) one_command (at_first held start.tools start.tree) start now input left l
  session_exact CutShort l = is_inside commands Keeps (machine disk held g text limit) (at_first held start.tools start.tree) start now input left l
  session_exact BadGraph l = absurd l
  session_exact Disk l = anything input
  session_exact Memory l = anything input
  session_exact Output l = anything input
  session_exact Input l = anything input
  session_exact (NotOurs at) l = absurd l
  session_exact (Full at size) l = anything input
  session_exact Usage l = absurd l
  session_exact TooLong l = is_long commands Keeps (machine disk held g text limit) one_command (at_first held start.tools start.tree) start now input left l
  session_exact Loaded l = absurd l
  session_exact Room l = absurd l

-- ---- a store, and the session over it

-- the ending for which a store that is not opened ends the run
abbrev due_for : JournalFault → Ending
due_for fault.Disk = Disk
due_for (fault.NotOurs at) = NotOurs at
due_for (fault.Full at size) = Full at size
due_for fault.Memory = Memory

at_fault : (e : JournalFault) (before now : SinkTold) (ending : Ending) (P : Ending → Type 0) → ClosesFor e before now ending → P (due_for e) → (e ≢ fault.Disk → P Memory × P Output) → P ending
at_fault fault.Disk before now ending P closes p more = subst P (sym closes.1) p
at_fault (fault.NotOurs at) before now ending P (inl line) p more = at_end (not_ours_line at) (NotOurs at) before now ending P line p (more (λ e. cc)).1
at_fault (fault.NotOurs at) before now ending P (inr none) p more = subst P (sym none.1) (more (λ e. cc)).0
at_fault (fault.Full at size) before now ending P (inl line) p more = at_end (full_line at size) (Full at size) before now ending P line p (more (λ e. cc)).1
at_fault (fault.Full at size) before now ending P (inr none) p more = subst P (sym none.1) (more (λ e. cc)).0
at_fault fault.Memory before now ending P closes p more = subst P (sym closes.1) p

fault_output : (e : JournalFault) (before now : SinkTold) (ending : Ending) → ClosesFor e before now ending → OutputCount ending before.faults now.faults
fault_output fault.Disk before now ending closes = subst (λ e. OutputCount e before.faults now.faults) (sym closes.1) (ap (λ (s : SinkTold). s.faults) closes.0)
fault_output (fault.NotOurs at) before now ending (inl line) = line_output (not_ours_line at) (NotOurs at) before now ending (λ e. e) line
fault_output (fault.NotOurs at) before now ending (inr none) = subst (λ e. OutputCount e before.faults now.faults) (sym none.1) (ap (λ (s : SinkTold). s.faults) none.0)
fault_output (fault.Full at size) before now ending (inl line) = line_output (full_line at size) (Full at size) before now ending (λ e. e) line
fault_output (fault.Full at size) before now ending (inr none) = subst (λ e. OutputCount e before.faults now.faults) (sym none.1) (ap (λ (s : SinkTold). s.faults) none.0)
fault_output fault.Memory before now ending closes = subst (λ e. OutputCount e before.faults now.faults) (sym closes.1) (ap (λ (s : SinkTold). s.faults) closes.0)

-- what a fault says of the disk's count
fault_counts : (e : JournalFault) (before now : ℕ) → before ≤ now → CountAfterJournalFault before now e → DiskCount (due_for e) before now
fault_counts fault.Disk before now later cause = record { later = later; rose = cause }
fault_counts (fault.NotOurs at) before now later cause = cause
fault_counts (fault.Full at size) before now later cause = cause
fault_counts fault.Memory before now later cause = cause

uncounted : (e : JournalFault) (before now : ℕ) → CountAfterJournalFault before now e → e ≢ fault.Disk → now ≡ before
uncounted fault.Disk before now cause other = absurd (other refl)
uncounted (fault.NotOurs at) before now cause other = cause
uncounted (fault.Full at size) before now cause other = cause
uncounted fault.Memory before now cause other = cause

-- at no fault the input's count rises
input_due : (e : JournalFault) (before now : ℕ) → now ≡ before → InputCount (due_for e) before now
input_due fault.Disk before now same = same
input_due (fault.NotOurs at) before now same = same
input_due (fault.Full at size) before now same = same
input_due fault.Memory before now same = same

exact_due : (e : JournalFault) (input : Option (List ℕ)) → IfSome input (AllowedBy (due_for e))
exact_due fault.Disk input = anything input
exact_due (fault.NotOurs at) input = anything input
exact_due (fault.Full at size) input = anything input
exact_due fault.Memory input = anything input

module _ {I O T S D : Type 0} (m : Views I O T S D) (text : Text) (g : Graph) (limit : ℕ) (before after : Outside I O T S D) where
  abbrev old_tools : Spawned
  old_tools = m.tools.told before.tools

  abbrev new_tools : Spawned
  new_tools = m.tools.told after.tools

  pub store_exact : (ending : Ending) → run.StoreEnds m text g limit before after ending → IfSome (m.source.left before.input) (AllowedBy ending)
  store_exact ending (run.unopened e is closes same) =
      at_fault e _ _ ending (λ due. IfSome (m.source.left before.input) (AllowedBy due)) closes (exact_due e (m.source.left before.input)) (λ other. (anything (m.source.left before.input), anything (m.source.left before.input)))
  store_exact ending (run.served due written ends closes) =
      at_close due written _ ending (λ e. IfSome (m.source.left before.input) (AllowedBy e)) closes (session_exact m.disk g text limit ends.held _ _ _ _ due ends.leaves) (λ at size p. (anything (m.source.left before.input), anything (m.source.left before.input)))

  pub store_output : (ending : Ending) → run.StoreEnds m text g limit before after ending → OutputCount ending (m.sink.faults before.output) (m.sink.faults after.output)
  store_output ending (run.unopened e is closes same) = fault_output e _ _ ending closes
  store_output ending (run.served due written ends closes) = close_output due (run.sink m before) written (run.sink m after) ending
      (session_output m.disk g text limit ends.held (run.told m before) (record (run.told m after) { sink = written }) (m.source.left before.input) (m.source.left after.input) due ends.leaves) closes

  abbrev input_count : Ending → Type 0
  input_count ending = InputCount ending (m.source.faults before.input) (m.source.faults after.input)

  pub store_input : (ending : Ending) → run.StoreEnds m text g limit before after ending → input_count ending
  store_input ending (run.unopened e is closes same) =
      let still : m.source.faults after.input ≡ m.source.faults before.input = ap (λ (o : Outside I O T S D). m.source.faults o.input) same in
      at_fault e _ _ ending input_count closes (input_due e _ _ still) (λ other. (still, still))
  store_input ending (run.served due written ends closes) = at_close due written _ ending input_count closes ends.read (λ at size p. (p, p))

  abbrev disk_count : Ending → Type 0
  disk_count ending = DiskCount ending (m.disk.faults before.disk) (m.disk.faults after.disk)

  pub store_disk : (ending : Ending) → run.StoreEnds m text g limit before after ending → disk_count ending
  store_disk ending (run.unopened e is closes same) =
      at_fault e _ _ ending disk_count closes (fault_counts e _ _ is.later is.cause) (λ other. (uncounted e _ _ is.cause other, uncounted e _ _ is.cause other))
  store_disk ending (run.served due written ends closes) = at_close due written _ ending disk_count closes ends.counted (λ at size p. (p, p))

  -- ---- tree and tools

  abbrev old_tree : TreeTold
  old_tree = tree_of m.tree before.tree

  abbrev new_tree : TreeTold
  new_tree = tree_of m.tree after.tree

  pub store_tree : (ending : Ending) → run.StoreEnds m text g limit before after ending → TreeStays old_tree new_tree
  store_tree ending (run.unopened e is closes same) = same_tree old_tree new_tree (ap (λ (o : Outside I O T S D). tree_of m.tree o.tree) same)
  store_tree ending (run.served due written ends closes) = session_tree m.disk g text limit ends.held _ _ _ _ due ends.leaves

  pub store_tools : (ending : Ending) → old_tools.running ≡ [] → run.StoreEnds m text g limit before after ending → ToolsStay old_tools new_tools
  store_tools ending idle (run.unopened e is closes same) = same_tools old_tools new_tools (ap (λ (o : Outside I O T S D). m.tools.told o.tools) same) (idle_few old_tools idle)
  store_tools ending idle (run.served due written ends closes) = session_stay m.disk g text limit ends.held _ _ _ _ due ends.leaves

  pub store_idle : (ending : Ending) → old_tools.running ≡ [] → run.StoreEnds m text g limit before after ending → ¬ MayRunOn ending → new_tools.running ≡ []
  store_idle ending idle (run.unopened e is closes same) other = ap (λ (o : Outside I O T S D). (m.tools.told o.tools).running) same ∙ idle
  store_idle ending idle (run.served due written ends closes) other = ends.idle (λ leaves. other (at_close due written _ ending MayRunOn closes (runs_on due leaves) (λ at size p. (tt, tt))))
