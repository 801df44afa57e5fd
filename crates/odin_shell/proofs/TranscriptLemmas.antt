-- Where no fault of the tools or of the tree is counted, items have one transcript at most, but for the chains that refusals show and the
-- number of kept calls.
use Rattle.std.proofs.Common.{◌≡◌, ℕ, ◌<◌, ◌+◌, ◌≤◌, min, List, [], ◌∷◌, ◌++◌, ◌⊎◌, ap, sym, ◌∙◌, subst, arith, inl, inr}
use Rattle.std.specs.Prelude.{⊤, Option, Some, None}
use Rattle.std.specs.FinMap.{get}
use Rattle.object_values.specs.Texts.{Texts}
use Rattle.odin_outside.specs.Causes.{last_count, once_more, IsCounted}
use Rattle.odin_outside.specs.Files.{Files, IsGiven}
use Rattle.odin_outside.specs.Spawned.{Table}
use Rattle.meaning_texts.specs.Lines.{without_cr}
use Rattle.meaning_graph.specs.Graphs.{Text, Graph}
use Rattle.meaning_records.specs.Tables.{Calls, kept_outcome}
use Rattle.meaning_derive.proofs.Lemmas.{one_plan}
use Rattle.meaning_commands.specs.Items.{Item, IsItem}
use Rattle.meaning_commands.specs.Machines.{Transcript, AnswersItem}
use Rattle.odin_answers.specs.Answers.{IsReply, HasAnswer}
use Rattle.odin_answers.specs.Laws.{IsTrueFor, KeepSame}
use Rattle.odin_answers.proofs.Lemmas.{reply_of, refusal_counted, same_answers}
use Rattle.odin_bytes.specs.declared.commands.Command.{Command}
use Rattle.odin_bytes.specs.declared.commands.Command.TheVariants.{Put, Take, Remove, Ask, Plan, Sources, Kept, Quit, Nothing, Bad, BadName}
use Rattle.object_values.specs.declared.replies.Reply.{Reply}
use Rattle.object_values.specs.declared.replies.Reply.TheVariants as reply
use Rattle.meaning_commands.specs.Replies.{reply_text}
use Rattle.meaning_commands.proofs.Lemmas.{one_command}
use Rattle.odin_store.specs.Held.{Held}
use Rattle.odin_shell.specs.Language.{commands}
use Rattle.odin_answers.specs.Edits.{SaysReply, TreeTold, TreeStays, Inserts, Puts, TakesFile, Takes, IsTaken, TreeIsAsked, RemovesText, Removes, source_lines}
use Rattle.odin_shell.specs.Machine.{SessionState, Step, EditsByCommand, EditsByFile, AsksForObject}
use Rattle.odin_shell.specs.Laws.{NoFault, CountsNone, BothCountKept, AreAlike, AreSideBySide, AreSame, IsToldByTable}
use Rattle.odin_shell.proofs.CountLemmas.{counted, counts}
use Rattle.odin_shell.proofs.MadeLemmas.{kept_calls, kept_sources, edits_keep, step_true}
use Rattle.odin_shell.proofs.StateLemmas.{same_tree}

-- ---- counts

-- a count that is at the end what it was is so on the way
alike : (first mid last more rest : ℕ) → min (first + more) last_count ≤ mid → min (mid + rest) last_count ≤ last → last ≡ first → first < last_count → mid ≡ first
alike first mid last more rest begins goes same below = omega (arith, begins, goes, same, below)

between : (first mid last more rest : ℕ) → min (first + more) last_count ≤ mid → min (mid + rest) last_count ≤ last → NoFault first last → NoFault first mid × NoFault mid last
between first mid last more rest begins goes none =
    let same : mid ≡ first = alike first mid last more rest begins goes none.same none.below in
    (record { same = same; below = none.below }, record { same = none.same ∙ sym same; below = subst (λ k. k < last_count) (sym same) none.below })

pub not_counted : (before now : ℕ) → NoFault before now → IsCounted before now → ⊥
not_counted before now none counted = let rose = counted.rose in let same = none.same in let below = none.below in absurd (omega (arith, same, below, rose))

-- ---- one edit

-- what comes of an edit is one
record IsOne (said said' : Reply) (new new' : Texts) : Type 0 where
  says : said' ≡ said
  texts : new' ≡ new

one_insert : (old : Texts) (name text : Text) (size : ℕ) (accepted said said' : Reply) (new new' : Texts) → Inserts old name text size accepted said new → Inserts old name text size accepted said' new' → IsOne said said' new new'
one_insert old name text size accepted said said' new new' (inl a) (inl b) = record { says = b.is ∙ sym a.is; texts = b.put ∙ sym a.put }
one_insert old name text size accepted said said' new new' (inl a) (inr b) = let fits = a.fits in let longer = b.longer in absurd (omega (arith, fits, longer))
one_insert old name text size accepted said said' new new' (inr a) (inl b) = let fits = b.fits in let longer = a.longer in absurd (omega (arith, fits, longer))
one_insert old name text size accepted said said' new new' (inr a) (inr b) = record { says = b.is ∙ sym a.is; texts = b.same ∙ sym a.same }

one_file : (old : Texts) (name : Text) (file : Option Text) (said said' : Reply) (new new' : Texts) → TakesFile old name file said new → TakesFile old name file said' new' → IsOne said said' new new'
one_file old name None said said' new new' a b = record { says = b.0 ∙ sym a.0; texts = b.1 ∙ sym a.1 }
one_file old name (Some text) said said' new new' a b = one_insert old name text _ _ said said' new new' a b

one_remove : (found : Option Text) (old : Texts) (name : Text) (said said' : Reply) (new new' : Texts) → RemovesText found old name said new → RemovesText found old name said' new' → IsOne said said' new new'
one_remove None old name said said' new new' a b = record { says = b.0 ∙ sym a.0; texts = b.1 ∙ sym a.1 }
one_remove (Some text) old name said said' new new' a b = record { says = b.0 ∙ sym a.0; texts = b.1 ∙ sym a.1 }

-- the tree gave the file where no fault of it is counted
taken : (old : Texts) (name : Text) (before : TreeTold) (said : Reply) (new : Texts) (now : TreeTold) → NoFault before.faults now.faults → Takes old name before said new now → IsTaken old name before said new now
taken old name before said new now none (inl is) = is
taken old name before said new now none (inr unread) = absurd (not_counted before.faults now.faults none unread.failed)

-- what is told of a tree after one answer
abbrev asked_once : TreeTold → TreeTold
asked_once before = record { files = before.files; faults = before.faults; reads = once_more before.reads }

tree_is : (before now : TreeTold) → TreeIsAsked before now → now.faults ≡ before.faults → now ≡ asked_once before
tree_is before now asked unfailed = λ i. record { files = asked.stays.files i; faults = unfailed i; reads = asked.once i }

-- what stays of the tree over one command
same_state : (old new : SessionState) → new ≡ old → TreeStays old.tree new.tree
same_state old new same = same_tree old.tree new.tree (ap (λ (s : SessionState). s.tree) same)

step_tree : (g : Graph) (limit : ℕ) (old : SessionState) (c : Command) (body bytes : List ℕ) (new : SessionState) → Step g limit old c body bytes new → TreeStays old.tree new.tree
step_tree g limit old (Put name count) body bytes new step = same_tree old.tree new.tree step.tree
step_tree g limit old (Take name) body bytes new step = step.asked.stays
step_tree g limit old (Remove name) body bytes new step = same_tree old.tree new.tree step.tree
step_tree g limit old (Ask text) body bytes new step = same_tree old.tree new.tree step.tree
step_tree g limit old (Plan text) body bytes new step = same_state old new step.same
step_tree g limit old Sources body bytes new step = same_state old new step.1
step_tree g limit old Kept body bytes new step = same_state old new step.1
step_tree g limit old Quit body bytes new step = same_state old new step.1
step_tree g limit old Nothing body bytes new step = same_state old new step.1
step_tree g limit old Bad body bytes new step = same_state old new step.1
step_tree g limit old (BadName count) body bytes new step = same_state old new step.1

-- ---- one step

-- an answer, since a refusal is counted
answered : (g : Graph) (limit : ℕ) (old new : SessionState) (text : Text) (said : Reply) (given : Calls) → CountsNone old new → IsReply g old.held.sources old.held.calls limit text said given old.tools new.tools
    → HasAnswer g old.held.sources old.held.calls limit text said given old.tools new.tools
answered g limit old new text said given none (inl is) = is
answered g limit old new text said given none (inr refused) =
    absurd (not_counted old.tools.faults new.tools.faults none.tools (refusal_counted g old.held.sources old.held.calls limit text said given old.tools new.tools refused))

-- what an ask leaves of the sources
asked_sources : (g : Graph) (limit : ℕ) (text : Text) (old new : SessionState) (bytes : List ℕ) → AsksForObject ⊤ g limit text old bytes new → new.held.sources ≡ old.held.sources
asked_sources g limit text old new bytes asks = ap (λ (h : Held). h.sources) asks.makes.held ∙ kept_sources asks.given asks.noted old.held

-- what is the same after one command
record IsSame (g : Graph) (table : Table) (item : Item) (bytes bytes' : List ℕ) (old new old' new' : SessionState) : Type 0 where
  alike : AreAlike g table item bytes bytes' old new old' new'
  sources : new'.held.sources ≡ new.held.sources
  tree : old'.tree ≡ old.tree → new'.tree ≡ new.tree

same_bytes : (P Q : Reply → Type 0) (bytes bytes' : List ℕ) (a : SaysReply P bytes) (b : SaysReply Q bytes') → b.said ≡ a.said → bytes' ≡ bytes
same_bytes P Q bytes bytes' a b same = b.bytes_are ∙ ap reply_text same ∙ sym a.bytes_are

-- the same calls are kept where neither changes them
calls_stay : (calls more calls' more' : Calls) → more ≡ calls → more' ≡ calls' → KeepSame calls calls' → KeepSame more more'
calls_stay calls more calls' more' stays stays' same call = ap (λ l. kept_outcome l call) stays' ∙ same call ∙ sym (ap (λ l. kept_outcome l call) stays)

-- those after an ask
asked_calls : (g : Graph) (limit : ℕ) (text : Text) (old new : SessionState) (bytes : List ℕ) → (a : AsksForObject ⊤ g limit text old bytes new) → new.held.calls ≡ old.held.calls ++ a.given
asked_calls g limit text old new bytes a = ap (λ (h : Held). h.calls) a.makes.held ∙ kept_calls a.given a.noted old.held

module _ (g : Graph) (limit most : ℕ) (table : Table) (files : Files) (item : Item) (old new old' new' : SessionState) (same : old'.held.sources ≡ old.held.sources) where
  unchanged : (bytes bytes' : List ℕ) → (bytes' ≡ bytes) ⊎ BothCountKept bytes bytes' old old' → new ≡ old → new' ≡ old' → IsSame g table item bytes bytes' old new old' new'
  unchanged bytes bytes' reply stays stays' = record {
    alike = inl (record {
      reply = reply;
      kept = calls_stay old.held.calls new.held.calls old'.held.calls new'.held.calls (ap (λ (s : SessionState). s.held.calls) stays) (ap (λ (s : SessionState). s.held.calls) stays');
    });
    sources = ap (λ (s : SessionState). s.held.sources) stays' ∙ same ∙ sym (ap (λ (s : SessionState). s.held.sources) stays);
    tree = λ (e : old'.tree ≡ old.tree). ap (λ (s : SessionState). s.tree) stays' ∙ e ∙ sym (ap (λ (s : SessionState). s.tree) stays);
  }

  edited : (name : Text) (P Q : Reply → Texts → Type 0) (bytes bytes' : List ℕ) (a : EditsByCommand name P old bytes new) (b : EditsByCommand name Q old' bytes' new') → IsOne a.says.said b.says.said new.held.sources new'.held.sources
      → IsSame g table item bytes bytes' old new old' new'
  edited name P Q bytes bytes' a b one = record {
    alike = inl (record {
      reply = inl (same_bytes (λ said. P said new.held.sources) (λ said. Q said new'.held.sources) bytes bytes' a.says b.says one.says);
      kept = calls_stay old.held.calls new.held.calls old'.held.calls new'.held.calls (edits_keep name old new a.makes) (edits_keep name old' new' b.makes);
    });
    sources = one.texts;
    tree = λ (e : old'.tree ≡ old.tree). b.tree ∙ e ∙ sym a.tree;
  }

  file_same : (name : Text) (bytes bytes' : List ℕ) → old.tree.files ≡ Some files → old'.tree.files ≡ Some files → CountsNone old new → CountsNone old' new' → EditsByFile name old bytes new → EditsByFile name old' bytes' new'
      → IsSame g table item bytes bytes' old new old' new'
  file_same name bytes bytes' told told' none none' a b =
      let t = taken old.held.sources name old.tree a.says.said new.held.sources new.tree none.tree a.says.holds in
      let t' = taken old'.held.sources name old'.tree b.says.said new'.held.sources new'.tree none'.tree b.says.holds in
      let given = subst (λ (f : Option Files). IsGiven f name t.file) told t.given in
      let given' = subst (λ (f : Option Files). IsGiven f name t'.file) told' t'.given in
      let takes' = subst (λ (f : Option Text). TakesFile old.held.sources name f b.says.said new'.held.sources) (given' ∙ sym given) (subst (λ (x : Texts). TakesFile x name t'.file b.says.said new'.held.sources) same t'.takes) in
      let one = one_file old.held.sources name t.file a.says.said b.says.said new.held.sources new'.held.sources t.takes takes' in
      record {
        alike = inl (record {
          reply = inl (same_bytes (λ said. Takes old.held.sources name old.tree said new.held.sources new.tree) (λ said. Takes old'.held.sources name old'.tree said new'.held.sources new'.tree) bytes bytes' a.says b.says one.says);
          kept = calls_stay old.held.calls new.held.calls old'.held.calls new'.held.calls (edits_keep name old new a.makes) (edits_keep name old' new' b.makes);
        });
        sources = one.texts;
        tree = λ (e : old'.tree ≡ old.tree). tree_is old'.tree new'.tree b.asked t'.unfailed ∙ ap asked_once e ∙ sym (tree_is old.tree new.tree a.asked t.unfailed);
      }

  asked : (text : Text) (bytes bytes' : List ℕ) → IsItem commands item (Ask text) → IsTrueFor table old.tools old.held.calls → IsTrueFor table old'.tools old'.held.calls → CountsNone old new → CountsNone old' new'
      → AsksForObject ⊤ g limit text old bytes new → AsksForObject ⊤ g most text old' bytes' new' → IsSame g table item bytes bytes' old new old' new'
  asked text bytes bytes' asks right right' none none' a b =
      let one = answered g limit old new text a.says.said a.given none (reply_of g old.held.sources old.held.calls limit text a.says.said a.given old.tools new.tools a.says.holds.is tt) in
      let other = subst (λ (t : Texts). HasAnswer g t old'.held.calls most text b.says.said b.given old'.tools new'.tools) same
      (answered g most old' new' text b.says.said b.given none' (reply_of g old'.held.sources old'.held.calls most text b.says.said b.given old'.tools new'.tools b.says.holds.is tt)) in
      record {
        alike = elim (same_answers g table old.held.sources old.held.calls old'.held.calls limit most text a.says.said b.says.said a.given b.given old.tools new.tools old'.tools new'.tools right right' one other) [
          | inl answers ↦ inl (record {
            reply = inl (b.says.bytes_are ∙ ap reply_text answers.same ∙ sym a.says.bytes_are);
            kept = λ keep. (let run = answers.run keep in calls_stay (old.held.calls ++ a.given) new.held.calls (old'.held.calls ++ b.given) new'.held.calls (asked_calls g limit text old new bytes a) (asked_calls g most text old' new' bytes' b) run.keep);
          })
          | inr chains ↦ inr (record { text = text; asks = asks; reply = a.says.said; other = b.says.said; bytes_are = a.says.bytes_are; others_are = b.says.bytes_are; chains = chains })
        ];
        sources = asked_sources g most text old' new' bytes' b ∙ same ∙ sym (asked_sources g limit text old new bytes a);
        tree = λ (e : old'.tree ≡ old.tree). b.tree ∙ e ∙ sym a.tree;
      }

  module _ (told : IsToldByTable table files old) (told' : IsToldByTable table files old') (none : CountsNone old new) (none' : CountsNone old' new') where
    one_step : (c : Command) (body bytes bytes' : List ℕ) → IsItem commands item c → Step g limit old c body bytes new → Step g most old' c body bytes' new' → IsSame g table item bytes bytes' old new old' new'
    one_step (Put name count) body bytes bytes' i a b =
        edited name (Puts old.held.sources name count body) (Puts old'.held.sources name count body) bytes bytes' a b
        (one_insert old.held.sources name body count _ a.says.said b.says.said new.held.sources new'.held.sources a.says.holds (subst (λ (t : Texts). Puts t name count body b.says.said new'.held.sources) same b.says.holds))
    one_step (Take name) body bytes bytes' i a b = file_same name bytes bytes' told.files_are told'.files_are none none' a b
    one_step (Remove name) body bytes bytes' i a b =
        edited name (Removes old.held.sources name) (Removes old'.held.sources name) bytes bytes' a b
        (one_remove (get old.held.sources name) old.held.sources name a.says.said b.says.said new.held.sources new'.held.sources a.says.holds (subst (λ (t : Texts). Removes t name b.says.said new'.held.sources) same b.says.holds))
    one_step (Ask text) body bytes bytes' i a b = asked text bytes bytes' i told.right told'.right none none' a b
    one_step (Plan text) body bytes bytes' i a b =
        unchanged bytes bytes' (inl (same_bytes _ _ bytes bytes' a.says b.says (one_plan g text a.says.said b.says.said a.says.holds b.says.holds))) a.same b.same
    one_step Sources body bytes bytes' i a b = unchanged bytes bytes' (inl (b.0 ∙ ap (λ (t : Texts). reply_text (reply.Sources (source_lines t))) same ∙ sym a.0)) a.1 b.1
    one_step Kept body bytes bytes' i a b = unchanged bytes bytes' (inr (record { bytes_are = a.0; others_are = b.0 })) a.1 b.1
    one_step Quit body bytes bytes' i a b = unchanged bytes bytes' (inl (b.0 ∙ sym a.0)) a.1 b.1
    one_step Nothing body bytes bytes' i a b = unchanged bytes bytes' (inl (b.0 ∙ sym a.0)) a.1 b.1
    one_step Bad body bytes bytes' i a b = unchanged bytes bytes' (inl (b.0 ∙ sym a.0)) a.1 b.1
    one_step (BadName count) body bytes bytes' i a b = unchanged bytes bytes' (inl (b.0 ∙ sym a.0)) a.1 b.1

    -- an item is one command
    one_item : (bytes bytes' : List ℕ) → AnswersItem commands (Step g limit) old item bytes new → AnswersItem commands (Step g most) old' item bytes' new' → IsSame g table item bytes bytes' old new old' new'
    one_item bytes bytes' a b =
        let command : b.command ≡ a.command = one_command a.command b.command (without_cr item.line) a.item_is.spelled b.item_is.spelled in
        one_step a.command item.body bytes bytes' a.item_is a.step (subst (λ (c : Command). Step g most old' c item.body bytes' new') command b.step)

-- ---- a transcript

-- no fault is counted on the way
parts : (g : Graph) (limit : ℕ) (first last : SessionState) (item : Item) (items : List Item) (bytes : List ℕ) (replies : List (List ℕ)) (mid : SessionState)
    → (a : AnswersItem commands (Step g limit) first item bytes mid) → Transcript commands (Step g limit) mid items replies last → CountsNone first last → CountsNone first mid × CountsNone mid last
parts g limit first last item items bytes replies mid a run none =
    let step = counted g limit first a.command item.body bytes mid a.step in
    let rest = counts g limit mid last items replies run in
    let tools = between first.tools.faults mid.tools.faults last.tools.faults _ _ step.starts rest.starts none.tools in
    let tree = between first.tree.faults mid.tree.faults last.tree.faults _ _ step.reads rest.reads none.tree in
    (record { tools = tools.0; tree = tree.0 }, record { tools = tools.1; tree = tree.1 })

module _ (g : Graph) (table : Table) (files : Files) where
  told_on : (limit : ℕ) (first mid : SessionState) (item : Item) (bytes : List ℕ) → AnswersItem commands (Step g limit) first item bytes mid → IsToldByTable table files first → IsToldByTable table files mid
  told_on limit first mid item bytes a told =
      let stays = step_tree g limit first a.command item.body bytes mid a.step in
      record { right = step_true g limit table first mid told.right a.command item.body bytes a.step; files_are = stays.files ∙ told.files_are }

  -- nothing is left to answer
  ended : (limit most : ℕ) (first last first' last' : SessionState) → first'.held.sources ≡ first.held.sources → last ≡ first → last' ≡ first' → AreSame g limit most table [] [] [] first last first' last'
  ended limit most first last first' last' same run run' =
      subst (λ (z : SessionState). AreSame g limit most table [] [] [] first z first' last') (sym run)
      (subst (λ (z : SessionState). AreSame g limit most table [] [] [] first first first' z) (sym run')
      (record { replies = AreSideBySide.at_end first first'; sources = same; tree = λ (e : first'.tree ≡ first.tree). e }))

  once : (limit most : ℕ) (items : List Item) (one other : List (List ℕ)) (first last first' last' : SessionState) → first'.held.sources ≡ first.held.sources → IsToldByTable table files first → IsToldByTable table files first'
      → Transcript commands (Step g limit) first items one last → Transcript commands (Step g most) first' items other last'
      → CountsNone first last → CountsNone first' last' → AreSame g limit most table items one other first last first' last'
  once limit most [] [] [] first last first' last' same told told' run run' none none' = ended limit most first last first' last' same run run'
  once limit most [] (bytes ∷ one) other first last first' last' same told told' run run' none none' = absurd run
  once limit most [] [] (bytes ∷ other) first last first' last' same told told' run run' none none' = absurd run'
  once limit most (item ∷ items) [] other first last first' last' same told told' run run' none none' = absurd run
  once limit most (item ∷ items) (bytes ∷ one) [] first last first' last' same told told' run run' none none' = absurd run'
  once limit most (item ∷ items) (bytes ∷ one) (bytes' ∷ other) first last first' last' same told told' run run' none none' =
      let here = parts g limit first last item items bytes one run.0 run.1 run.2 none in
      let here' = parts g most first' last' item items bytes' other run'.0 run'.1 run'.2 none' in
      let step = one_item g limit most table files item first run.0 first' run'.0 same told told' here.0 here'.0 bytes bytes' run.1 run'.1 in
      let rest = once limit most items one other run.0 last run'.0 last' step.sources (told_on limit first run.0 item bytes run.1 told) (told_on most first' run'.0 item bytes' run'.1 told') run.2 run'.2 here.1 here'.1 in
      record {
        replies = AreSideBySide.one_more item items bytes bytes' one other first run.0 first' run'.0 last last' run.1 run'.1 step.alike step.sources rest.replies;
        sources = rest.sources;
        tree = λ (e : first'.tree ≡ first.tree). rest.tree (step.tree e);
      }

pub one_transcript : (g : Graph) (limit most : ℕ) (table : Table) (files : Files) (items : List Item) (one other : List (List ℕ)) (first last first' last' : SessionState) → first'.held.sources ≡ first.held.sources
    → IsToldByTable table files first → IsToldByTable table files first'
    → Transcript commands (Step g limit) first items one last → CountsNone first last
    → Transcript commands (Step g most) first' items other last' → CountsNone first' last' → AreSame g limit most table items one other first last first' last'
one_transcript g limit most table files items one other first last first' last' same told told' run none run' none' =
    once g table files limit most items one other first last first' last' same told told' run run' none none'
