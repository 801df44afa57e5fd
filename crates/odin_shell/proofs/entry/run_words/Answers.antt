use Rattle.std.proofs.Common.{◌≡◌, ◌∙◌, ℕ, ◌≤◌, List, Option, Some, None, Err, ap, sym, refl, subst, arith}
use Rattle.meaning_graph.specs.Graphs.{Text}
use Rattle.dg_reader.specs.Files.{IsRead}
use Rattle.odin_words.specs.declared.Work.{Work}
use Rattle.odin_words.specs.Asked.{AskedWork, Serve, Load, work_of, IsJobs, AsksFor}
use Rattle.odin_engine.specs.Engaged.{IsLimit}
use Rattle.odin_shell.specs.Run.{words_refused, words_unread, load_ended, tree_failed, graph_unread, graph_refused, graph_read}
use Rattle.odin_shell.proofs.LoadLemmas.{units_within}
use Rattle.odin_shell.proofs.RunLemmas.{asks, gives}
use Rattle.odin_shell.proofs.entry.run_words.Goals as goal

-- the words ask for the file by the bytes of its name
named : (words : List Text) (work : Work) (said name : Text) (jobs : ℕ) → work_of work ≡ Serve said → name ≡ said → AsksFor words (work_of work) jobs → AsksFor words (Serve name) jobs
named words work said name jobs is name_is asked = subst (λ (w : AskedWork). AsksFor words w jobs) (is ∙ ap Serve (sym name_is)) asked

-- they ask for so many units
counted : (words : List Text) (work : Work) (units jobs : ℕ) → work_of work ≡ Load units → AsksFor words (work_of work) jobs → AsksFor words (Load units) jobs
counted words work units jobs is asked = subst (λ (w : AskedWork). AsksFor words w jobs) is asked

-- at least one job, and 64 at most
jobs_within : (value : Option (List ℕ)) (jobs : ℕ) → IsJobs value jobs → IsLimit jobs
jobs_within None jobs is = record { some = omega (arith, is); few = omega (arith, is) }
jobs_within (Some word) jobs is = record { some = is.some; few = is.few }

within : (words : List Text) (work : Work) (units jobs : ℕ) → work_of work ≡ Load units → AsksFor words (work_of work) jobs → (1 ≤ units) × (units ≤ 2000)
within words work units jobs is asked = units_within _ _ units (counted words work units jobs is asked).has.work_is

pub returns-in-Ok-None : goal.returns-in-Ok-None
returns-in-Ok-None g c = record { opened = _; how = words_refused (rw c.in-Ok-None.field-0-is at c.in-Ok-None.ensures.none) c.end_with.ensures refl refl }

pub returns-in-Err : goal.returns-in-Err
returns-in-Err g c = record { opened = _; how = words_unread refl refl refl }

pub run_load-requires-clause-some : goal.run_load-requires-clause-some
run_load-requires-clause-some g c = (within _ _ _ _ (ap work_of c.in-Load.is) (rw c.in-Ok-Some.field-0-is at c.in-Ok-Some.ensures.asked)).0

pub run_load-requires-clause-few : goal.run_load-requires-clause-few
run_load-requires-clause-few g c = (within _ _ _ _ (ap work_of c.in-Load.is) (rw c.in-Ok-Some.field-0-is at c.in-Ok-Some.ensures.asked)).1

pub returns-in-Load : goal.returns-in-Load
returns-in-Load g c =
    let asked = rw c.in-Ok-Some.field-0-is at c.in-Ok-Some.ensures.asked in
    record { opened = _; how = load_ended c.in-Load.units _ (counted _ _ _ _ (ap work_of c.in-Load.is) asked) c.run_load.ensures refl refl }

pub serve_store-requires-clause-read : goal.serve_store-requires-clause-read
serve_store-requires-clause-read g c = let opens = rw c.in-Ok-Ready.field-0-is at c.in-Ok-Ready.ensures.ok in subst (λ t. IsRead t c.in-Ok-Ready.graph) (sym c.as_slice.ensures) opens.opened.read

pub serve_store-requires-clause-jobs : goal.serve_store-requires-clause-jobs
serve_store-requires-clause-jobs g c = let asked = rw c.in-Ok-Some.field-0-is at c.in-Ok-Some.ensures.asked in jobs_within _ _ asked.has.jobs_is

pub returns-in-Ok-Ready : goal.returns-in-Ok-Ready
returns-in-Ok-Ready g c =
    let asked = rw c.in-Ok-Some.field-0-is at c.in-Ok-Some.ensures.asked in
    let opens = rw c.in-Ok-Ready.field-0-is at c.in-Ok-Ready.ensures.ok in
    record {
      opened = _;
      how = graph_read _ _ _ (record { given = opens.given; gives = gives _ _ _ _ _ _ _ _ (named _ _ _ _ _ (ap work_of c.in-Serve.is) c.as_bytes.ensures.value asked) opens c.in-Ok-Ready.ensures.once c.in-Ok-Ready.ensures.kept c.in-Ok-Ready.ensures.cause.later c.in-Ok-Ready.ensures.cause.ok; reads = opens.opened }) refl refl (rw c.as_slice.ensures at c.serve_store.ensures);
    }

pub returns-in-Ok-Refused : goal.returns-in-Ok-Refused
returns-in-Ok-Refused g c =
    let asked = rw c.in-Ok-Some.field-0-is at c.in-Ok-Some.ensures.asked in
    let opens = rw c.in-Ok-Refused.field-0-is at c.in-Ok-Refused.ensures.ok in
    record {
      opened = _;
      how = graph_refused opens.given _ (gives _ _ _ _ _ _ _ _ (named _ _ _ _ _ (ap work_of c.in-Serve.is) c.as_bytes.ensures.value asked) opens c.in-Ok-Refused.ensures.once c.in-Ok-Refused.ensures.kept c.in-Ok-Refused.ensures.cause.later c.in-Ok-Refused.ensures.cause.ok) opens.opened (rw c.as_slice-in-Ok-Refused.ensures at c.end_with-in-Ok-Refused.ensures) refl refl;
    }

pub returns-in-Err-Tree : goal.returns-in-Err-Tree
returns-in-Err-Tree g c =
    let asked = rw c.in-Ok-Some.field-0-is at c.in-Ok-Some.ensures.asked in
    let cause = c.in-Err-Tree.ensures.cause in
    let is = c.in-Err-Tree.field-0-is in
    record {
      opened = _;
      how = tree_failed refl (asks _ _ _ _ _ _ _ (named _ _ _ _ _ (ap work_of c.in-Serve.is) c.as_bytes.ensures.value asked) c.in-Err-Tree.ensures.once c.in-Err-Tree.ensures.kept cause.later)
          (record { later = cause.later; rose = cause.failed (λ e. cc) }) refl refl;
    }

pub returns-in-Err-Memory : goal.returns-in-Err-Memory
returns-in-Err-Memory g c =
    let asked = rw c.in-Ok-Some.field-0-is at c.in-Ok-Some.ensures.asked in
    let cause = c.in-Err-Memory.ensures.cause in
    record {
      opened = _;
      how = graph_unread refl (asks _ _ _ _ _ _ _ (named _ _ _ _ _ (ap work_of c.in-Serve.is) c.as_bytes.ensures.value asked) c.in-Err-Memory.ensures.once c.in-Err-Memory.ensures.kept cause.later)
          (cause.wanted (ap Err c.in-Err-Memory.field-0-is)) refl refl;
    }
