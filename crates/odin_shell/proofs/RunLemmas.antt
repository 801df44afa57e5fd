-- What every way to end says: which counts of faults rose, what the input says of the status, and what stays of tree and tools.
use Rattle.std.proofs.Common.{◌≡◌, ℕ, ◌≤◌, List, [], IfSome, ap, sym, refl, ◌∙◌, subst, inl, inr}
use Rattle.std.specs.Prelude.{⊤}
use Rattle.std.proofs.Math.Nat.{le_refl}
use Rattle.odin_outside.specs.Causes.{once_more}
use Rattle.odin_outside.specs.Spawned.{Spawned}
use Rattle.meaning_graph.specs.Graphs.{Text}
use Rattle.odin_shell.specs.declared.ending.Ending.{Ending}
use Rattle.odin_shell.specs.declared.ending.Ending.TheVariants.{Whole, CutShort, BadGraph, Disk, Memory, Output, Input, NotOurs, Full, Usage, TooLong, Loaded, Room}
use Rattle.odin_shell.specs.declared.graph.Opened.{Opened}
use Rattle.odin_shell.specs.Endings.{ending_status}
use Rattle.odin_words.specs.Asked.{AsksFor, Serve}
use Rattle.odin_shell.specs.Opened.{OpensGraphFile}
use Rattle.odin_answers.specs.Edits.{TreeTold, TreeStays, tree_of}
use Rattle.odin_shell.specs.Machine.{ToolsStay}
use Rattle.odin_shell.specs.Objects.{Outside, Views}
use Rattle.odin_shell.specs.Run as run
use Rattle.odin_shell.specs.Run.{InputCount, DiskCount, OutputCount, AllowedBy}
use Rattle.odin_shell.proofs.LoadLemmas.{at_load, load_output}
use Rattle.odin_shell.proofs.StateLemmas.{idle_few, tree_on}
use Rattle.odin_shell.proofs.StoreLemmas.{at_end, line_output, anything, store_exact, store_output, store_input, store_disk, store_tree, store_tools, MayRunOn, store_idle}

module _ {I O T S D : Type 0} (m : Views I O T S D) (words : List Text) (before after : Outside I O T S D) where
  -- what the tree tells
  abbrev tree : Outside I O T S D → TreeTold
  tree o = tree_of m.tree o.tree

  -- the tree was asked for the file of the words
  pub asks : (name : Text) (jobs : ℕ) (opened : TreeTold) → AsksFor words (Serve name) jobs → opened.reads ≡ once_more (m.tree.reads before.tree) → opened.files ≡ m.tree.files before.tree → m.tree.faults before.tree ≤ opened.faults
      → run.AsksOnce m words before after opened
  asks name jobs opened named once kept later = record { name = name; jobs = jobs; named = named; asked = record { stays = record { files = kept; later = later }; once = once } }

  -- and gave it
  abbrev pub gives : (name : Text) (jobs : ℕ) (opened : TreeTold) (o : Opened) → AsksFor words (Serve name) jobs → (opens : OpensGraphFile (m.tree.files before.tree) name o) → opened.reads ≡ once_more (m.tree.reads before.tree) → opened.files ≡ m.tree.files before.tree
      → m.tree.faults before.tree ≤ opened.faults → opened.faults ≡ m.tree.faults before.tree → run.TreeGives m words before after opened opens.given
  gives name jobs opened o named opens once kept later unfailed = record { asks = record { name = name; jobs = jobs; named = named; asked = record { stays = record { files = kept; later = later }; once = once } }; is = opens.is; unfailed = unfailed }

  reads_of : (opened : TreeTold) (ending : Ending) → InputCount ending (m.source.faults before.input) (m.source.faults after.input) → opened.faults ≡ m.tree.faults before.tree → run.ReadCounts m words before after opened ending
  reads_of opened Whole input tree = (input, tree)
  reads_of opened CutShort input tree = (input, tree)
  reads_of opened BadGraph input tree = (input, tree)
  reads_of opened Disk input tree = (input, tree)
  reads_of opened Memory input tree = (input, tree)
  reads_of opened Output input tree = (input, tree)
  reads_of opened Input input tree = inl (input, tree)
  reads_of opened (NotOurs at) input tree = (input, tree)
  reads_of opened (Full at size) input tree = (input, tree)
  reads_of opened Usage input tree = (input, tree)
  reads_of opened TooLong input tree = (input, tree)
  reads_of opened Loaded input tree = (input, tree)
  reads_of opened Room input tree = (input, tree)

  -- before the store is opened
  abbrev exact_by : Ending → Type 0
  exact_by ending = IfSome (m.source.left before.input) (AllowedBy ending)

  exact : (opened : TreeTold) (ending : Ending) → run.EndsAs m words before after opened ending → exact_by ending
  exact opened ending (run.words_refused not line is same) = at_end _ _ _ _ ending exact_by line (anything (m.source.left before.input)) (anything (m.source.left before.input))
  exact opened ending (run.words_unread due is same) = subst exact_by (sym due) (anything (m.source.left before.input))
  exact opened ending (run.load_ended units jobs asks ends is same) =
      let free : IfSome (m.source.left before.input) (λ text. ⊤) = anything (m.source.left before.input) in
      at_load units _ _ ending exact_by (record { loaded = free; room = free; full = λ at size. free; memory = free; output = free }) ends
  exact opened ending (run.tree_failed due asks rose is same) = subst exact_by (sym due) (anything (m.source.left before.input))
  exact opened ending (run.graph_unread due asks stays is same) = subst exact_by (sym due) (anything (m.source.left before.input))
  exact opened ending (run.graph_refused given line gives refused last is same) = at_end _ _ _ _ ending exact_by last (anything (m.source.left before.input)) (anything (m.source.left before.input))
  exact opened ending (run.graph_read text g mid given same is ends) =
      subst (λ i. IfSome i (AllowedBy ending)) (ap (λ (o : Outside I O T S D). m.source.left o.input) same) (store_exact m text g given.gives.asks.jobs mid after ending ends)

  abbrev output_by : Ending → Type 0
  output_by ending = OutputCount ending (m.sink.faults before.output) (m.sink.faults after.output)

  output : (opened : TreeTold) (ending : Ending) → run.EndsAs m words before after opened ending → output_by ending
  output opened ending (run.words_refused not line is same) = line_output _ _ _ _ ending (λ e. e) line
  output opened ending (run.words_unread due is same) = subst output_by (sym due) (ap (λ (o : Outside I O T S D). m.sink.faults o.output) same)
  output opened ending (run.load_ended units jobs asks ends is same) = load_output units _ _ ending ends
  output opened ending (run.tree_failed due asks rose is same) = subst output_by (sym due) (ap (λ (o : Outside I O T S D). m.sink.faults o.output) same)
  output opened ending (run.graph_unread due asks stays is same) = subst output_by (sym due) (ap (λ (o : Outside I O T S D). m.sink.faults o.output) same)
  output opened ending (run.graph_refused given line gives refused last is same) = line_output _ _ _ _ ending (λ e. e) last
  output opened ending (run.graph_read text g mid given same is ends) =
      subst (λ n. OutputCount ending n (m.sink.faults after.output)) (ap (λ (o : Outside I O T S D). m.sink.faults o.output) same) (store_output m text g given.gives.asks.jobs mid after ending ends)

  abbrev disk_by : Ending → Type 0
  disk_by ending = DiskCount ending (m.disk.faults before.disk) (m.disk.faults after.disk)

  disk_same : after ≡ record before { output = after.output; tree = after.tree } → m.disk.faults after.disk ≡ m.disk.faults before.disk
  disk_same same = ap (λ (o : Outside I O T S D). m.disk.faults o.disk) same

  disk : (opened : TreeTold) (ending : Ending) → run.EndsAs m words before after opened ending → disk_by ending
  disk opened ending (run.words_refused not line is same) = at_end _ _ _ _ ending disk_by line (ap (λ (o : Outside I O T S D). m.disk.faults o.disk) same) (ap (λ (o : Outside I O T S D). m.disk.faults o.disk) same)
  disk opened ending (run.words_unread due is same) = subst disk_by (sym due) (ap (λ (o : Outside I O T S D). m.disk.faults o.disk) same)
  disk opened ending (run.load_ended units jobs asks ends is same) =
      let still : m.disk.faults after.disk ≡ m.disk.faults before.disk = ap (λ (o : Outside I O T S D). m.disk.faults o.disk) same in
      at_load units _ _ ending disk_by (record { loaded = still; room = still; full = λ at size. still; memory = still; output = still }) ends
  disk opened ending (run.tree_failed due asks rose is same) = subst disk_by (sym due) (ap (λ (o : Outside I O T S D). m.disk.faults o.disk) same)
  disk opened ending (run.graph_unread due asks stays is same) = subst disk_by (sym due) (ap (λ (o : Outside I O T S D). m.disk.faults o.disk) same)
  disk opened ending (run.graph_refused given line gives refused last is same) = at_end _ _ _ _ ending disk_by last (disk_same same) (disk_same same)
  disk opened ending (run.graph_read text g mid given same is ends) =
      subst (λ n. DiskCount ending n (m.disk.faults after.disk)) (ap (λ (o : Outside I O T S D). m.disk.faults o.disk) same) (store_disk m text g given.gives.asks.jobs mid after ending ends)

  abbrev stayed : TreeTold → Type 0
  stayed opened = (m.source.faults after.input ≡ m.source.faults before.input) × (opened.faults ≡ m.tree.faults before.tree)

  reads : (opened : TreeTold) (ending : Ending) → run.EndsAs m words before after opened ending → run.ReadCounts m words before after opened ending
  reads opened ending (run.words_refused not line is same) =
      let both : stayed opened = (ap (λ (o : Outside I O T S D). m.source.faults o.input) same, ap (λ (t : TreeTold). t.faults) is) in
      at_end _ _ _ _ ending (run.ReadCounts m words before after opened) line both both
  reads opened ending (run.words_unread due is same) = subst (run.ReadCounts m words before after opened) (sym due) (ap (λ (o : Outside I O T S D). m.source.faults o.input) same, ap (λ (t : TreeTold). t.faults) is)
  reads opened ending (run.load_ended units jobs asks ends is same) =
      let both : stayed opened = (ap (λ (o : Outside I O T S D). m.source.faults o.input) same, ap (λ (t : TreeTold). t.faults) is) in
      at_load units _ _ ending (run.ReadCounts m words before after opened) (record { loaded = both; room = both; full = λ at size. both; memory = both; output = both }) ends
  reads opened ending (run.tree_failed due asks rose is same) = subst (run.ReadCounts m words before after opened) (sym due) (inr (ap (λ (o : Outside I O T S D). m.source.faults o.input) same, rose))
  reads opened ending (run.graph_unread due asks stays is same) = subst (run.ReadCounts m words before after opened) (sym due) (ap (λ (o : Outside I O T S D). m.source.faults o.input) same, stays)
  reads opened ending (run.graph_refused given line gives refused last is same) =
      let both : stayed opened = (ap (λ (o : Outside I O T S D). m.source.faults o.input) same, gives.unfailed) in
      at_end _ _ _ _ ending (run.ReadCounts m words before after opened) last both both
  reads opened ending (run.graph_read text g mid given same is ends) =
      reads_of opened ending (subst (λ n. InputCount ending n (m.source.faults after.input)) (ap (λ (o : Outside I O T S D). m.source.faults o.input) same) (store_input m text g given.gives.asks.jobs mid after ending ends)) given.gives.unfailed

  pub run_ends : (ending : Ending) (status : ℕ) → status ≡ ending_status ending → run.Ended m words before after ending → run.RunEnds m words before after status
  run_ends ending status is ended = record {
    ending = ending;
    status_is = is;
    ended = ended;
    exact = exact ended.opened ending ended.how;
    output = output ended.opened ending ended.how;
    reads = reads ended.opened ending ended.how;
    disk = disk ended.opened ending ended.how;
  }

  -- ---- what stays of the tree

  tree_as : (opened : TreeTold) → opened ≡ tree after → TreeStays (tree before) opened → TreeStays (tree before) (tree after)
  tree_as opened is stays = subst (TreeStays (tree before)) is stays

  tree_how : (opened : TreeTold) (ending : Ending) → run.EndsAs m words before after opened ending → TreeStays (tree before) (tree after)
  tree_how opened ending (run.words_refused not line is same) =
      subst (λ (o : Outside I O T S D). TreeStays (tree before) (tree o)) (sym same) (record { files = refl; later = le_refl (m.tree.faults before.tree) })
  tree_how opened ending (run.words_unread due is same) = subst (λ (o : Outside I O T S D). TreeStays (tree before) (tree o)) (sym same) (record { files = refl; later = le_refl (m.tree.faults before.tree) })
  tree_how opened ending (run.load_ended units jobs asks ends is same) =
      subst (λ (o : Outside I O T S D). TreeStays (tree before) (tree o)) (sym same) (record { files = refl; later = le_refl (m.tree.faults before.tree) })
  tree_how opened ending (run.tree_failed due asks rose is same) = tree_as opened is asks.asked.stays
  tree_how opened ending (run.graph_unread due asks stays is same) = tree_as opened is asks.asked.stays
  tree_how opened ending (run.graph_refused given line gives refused last is same) = tree_as opened is gives.asks.asked.stays
  tree_how opened ending (run.graph_read text g mid given same is ends) =
      tree_on (subst (TreeStays (tree before)) is given.gives.asks.asked.stays) (store_tree m text g given.gives.asks.jobs mid after ending ends)

  pub tree_stays : (ending : Ending) → run.Ended m words before after ending → TreeStays (tree before) (tree after)
  tree_stays ending ended = tree_how ended.opened ending ended.how

  -- ---- and of the tools

  tools_as : m.tools.told after.tools ≡ m.tools.told before.tools → (m.tools.told before.tools).running ≡ [] → ToolsStay (m.tools.told before.tools) (m.tools.told after.tools)
  tools_as same idle = subst (ToolsStay (m.tools.told before.tools)) (sym same) (record { answers = refl; later = le_refl (m.tools.told before.tools).faults; few = idle_few (m.tools.told before.tools) idle })

  mid_tools : (mid : Outside I O T S D) → mid ≡ record before { tree = mid.tree } → m.tools.told mid.tools ≡ m.tools.told before.tools
  mid_tools mid same = ap (λ (o : Outside I O T S D). m.tools.told o.tools) same

  tools_how : (opened : TreeTold) (ending : Ending) → (m.tools.told before.tools).running ≡ [] → run.EndsAs m words before after opened ending → ToolsStay (m.tools.told before.tools) (m.tools.told after.tools)
  tools_how opened ending idle (run.words_refused not line is same) = tools_as (ap (λ (o : Outside I O T S D). m.tools.told o.tools) same) idle
  tools_how opened ending idle (run.words_unread due is same) = tools_as (ap (λ (o : Outside I O T S D). m.tools.told o.tools) same) idle
  tools_how opened ending idle (run.load_ended units jobs asks ends is same) = tools_as (ap (λ (o : Outside I O T S D). m.tools.told o.tools) same) idle
  tools_how opened ending idle (run.tree_failed due asks rose is same) = tools_as (ap (λ (o : Outside I O T S D). m.tools.told o.tools) same) idle
  tools_how opened ending idle (run.graph_unread due asks stays is same) = tools_as (ap (λ (o : Outside I O T S D). m.tools.told o.tools) same) idle
  tools_how opened ending idle (run.graph_refused given line gives refused last is same) = tools_as (ap (λ (o : Outside I O T S D). m.tools.told o.tools) same) idle
  tools_how opened ending idle (run.graph_read text g mid given same is ends) =
      subst (λ t. ToolsStay t (m.tools.told after.tools)) (mid_tools mid same) (store_tools m text g given.gives.asks.jobs mid after ending (ap (λ (t : Spawned). t.running) (mid_tools mid same) ∙ idle) ends)

  pub tools_stay : (ending : Ending) → (m.tools.told before.tools).running ≡ [] → run.Ended m words before after ending → ToolsStay (m.tools.told before.tools) (m.tools.told after.tools)
  tools_stay ending idle ended = tools_how ended.opened ending idle ended.how

  still_idle : m.tools.told after.tools ≡ m.tools.told before.tools → (m.tools.told before.tools).running ≡ [] → (m.tools.told after.tools).running ≡ []
  still_idle same idle = ap (λ (t : Spawned). t.running) same ∙ idle

  idle_how : (opened : TreeTold) (ending : Ending) → (m.tools.told before.tools).running ≡ [] → ¬ MayRunOn ending → run.EndsAs m words before after opened ending → (m.tools.told after.tools).running ≡ []
  idle_how opened ending idle other (run.words_refused not line is same) = still_idle (ap (λ (o : Outside I O T S D). m.tools.told o.tools) same) idle
  idle_how opened ending idle other (run.words_unread due is same) = still_idle (ap (λ (o : Outside I O T S D). m.tools.told o.tools) same) idle
  idle_how opened ending idle other (run.load_ended units jobs asks ends is same) = still_idle (ap (λ (o : Outside I O T S D). m.tools.told o.tools) same) idle
  idle_how opened ending idle other (run.tree_failed due asks rose is same) = still_idle (ap (λ (o : Outside I O T S D). m.tools.told o.tools) same) idle
  idle_how opened ending idle other (run.graph_unread due asks stays is same) = still_idle (ap (λ (o : Outside I O T S D). m.tools.told o.tools) same) idle
  idle_how opened ending idle other (run.graph_refused given line gives refused last is same) = still_idle (ap (λ (o : Outside I O T S D). m.tools.told o.tools) same) idle
  idle_how opened ending idle other (run.graph_read text g mid given same is ends) = store_idle m text g given.gives.asks.jobs mid after ending (ap (λ (t : Spawned). t.running) (mid_tools mid same) ∙ idle) ends other

  pub tools_idle : (ending : Ending) → (m.tools.told before.tools).running ≡ [] → ¬ MayRunOn ending → run.Ended m words before after ending → (m.tools.told after.tools).running ≡ []
  tools_idle ending idle other ended = idle_how ended.opened ending idle other ended.how
