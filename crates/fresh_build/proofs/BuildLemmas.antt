-- What builds reply, and what they keep.
use Rattle.std.proofs.Common.{◌≡◌, ℕ, sym, subst, inl, inr, Result, Ok, Err, IfOk, IfErr}
use Rattle.object_values.specs.Texts.{Texts}
use Rattle.object_values.specs.declared.replies.Reply.{Reply}
use Rattle.odin_outside.specs.Causes.{IsCounted}
use Rattle.odin_outside.specs.Disk.{Telling}
use Rattle.odin_outside.specs.Spawned.{Table, Spawned}
use Rattle.meaning_graph.specs.Graphs.{Text, Graph}
use Rattle.meaning_derive.specs.Answers.{Answer}
use Rattle.meaning_derive.specs.Given.{table_outcomes}
use Rattle.meaning_records.specs.Tables.{Calls}
use Rattle.odin_journal.specs.declared.fault.JournalFault.{JournalFault}
use Rattle.kept_derive.specs.Knowing.{KnowsStore}
use Rattle.kept_derive.specs.Runs.{At}
use Rattle.kept_derive.proofs.Lemmas.{calls_after_all}
use Rattle.odin_answers.specs.Answers.{IsReply}
use Rattle.odin_answers.specs.Laws.{AnswersAreFresh, IsTrueFor, KeptStaysTrueByAsk, RefusalIsCounted}
use Rattle.odin_answers.specs.Replied.{HasReplied, HasStopped}
use Rattle.odin_answers.proofs.Lemmas.{reply_of}
use Rattle.fresh_build.specs.Built.{HasBuilt, HasNotBuilt}
use Rattle.fresh_build.specs.Laws.{IsFresh}
use Rattle.fresh_build.specs.Sets.{SetsSources}

module _ {Disk : Type 0} (told : Disk → Telling) (g : Graph) (table : Table) (wanted : Texts) (limit : ℕ) (text : Text) (reply : Reply) (old new : At Disk)
    (right : IsTrueFor table old.tools old.store.kept.tables.calls) (known : KnowsStore g old.store)
    (built : HasBuilt told g limit wanted text old new reply) where
  -- it is true, and known, as the text is asked for
  still : IsTrueFor table built.mid.tools built.mid.store.kept.tables.calls
  still = subst (λ (t : Spawned). IsTrueFor table t built.mid.store.kept.tables.calls) (sym built.tools)
      (subst (λ (c : Calls). IsTrueFor table old.tools c) (sym built.sets.calls) right)

  still_known : KnowsStore g built.mid.store
  still_known = built.sets.makes.knows g known

  is_reply : IsReply g built.mid.store.sources.texts built.mid.store.kept.tables.calls limit text reply built.replied.given built.mid.tools new.tools
  is_reply =
      reply_of g built.mid.store.sources.texts built.mid.store.kept.tables.calls limit text reply built.replied.given built.mid.tools new.tools
      built.replied.is still_known

  pub built_fresh : AnswersAreFresh → RefusalIsCounted → IsFresh g wanted table text reply old.tools new.tools
  built_fresh fresh counted = elim is_reply [
    | inl answer ↦ inl (subst (λ (s : Texts). Answer g s (table_outcomes table) text reply) built.sets.set
        (fresh g table built.mid.store.sources.texts built.mid.store.kept.tables.calls limit text reply built.replied.given built.mid.tools new.tools still answer))
    | inr refused ↦ inr (record {
      is = refused.is;
      counted = subst (λ (t : Spawned). IsCounted t.faults new.tools.faults) built.tools
          (counted g built.mid.store.sources.texts built.mid.store.kept.tables.calls limit text reply built.replied.given built.mid.tools new.tools refused);
    })
  ]

  pub built_true : KeptStaysTrueByAsk → IsTrueFor table new.tools new.store.kept.tables.calls × KnowsStore g new.store
  built_true law =
      let mid = built.mid in
      let given = built.replied.given in
      let holds = calls_after_all told given built.replied.noted mid.store new.store mid.disk new.disk built.replied.goes in (
        subst (λ (c : Calls). IsTrueFor table new.tools c) (sym holds)
            (law.replied g table mid.store.sources.texts mid.store.kept.tables.calls limit text reply given mid.tools new.tools still is_reply),
        (built.replied.right still_known).knows,
      )

-- ---- the answers of a build

module _ {Disk : Type 0} (told : Disk → Telling) (g g' : Graph) (limit limit' : ℕ) (wanted : Texts) (text : Text) (old mid new : At Disk)
    (graph : g' ≡ g) (jobs : limit' ≡ limit) (sets : SetsSources told wanted old.store mid.store old.disk mid.disk) (tools : mid.tools ≡ old.tools) where
  pub has_built : (result : Result Reply JournalFault) → IfOk result (HasReplied told g' limit' text mid new)
      → IfOk result (HasBuilt told g limit wanted text old new)
  has_built (Ok reply) is = record {
    mid = mid;
    sets = sets;
    tools = tools;
    replied = subst (λ (h : Graph). HasReplied told h limit text mid new reply) graph (subst (λ (n : ℕ). HasReplied told g' n text mid new reply) jobs is);
  }
  has_built (Err e) is = tt

  pub has_not_replied : (result : Result Reply JournalFault) → IfErr result (HasStopped told g' limit' text mid new)
      → IfErr result (HasNotBuilt told g limit wanted text old new)
  has_not_replied (Ok reply) is = tt
  has_not_replied (Err e) is = inr (record {
    mid = mid;
    sets = sets;
    tools = tools;
    stopped = subst (λ (h : Graph). HasStopped told h limit text mid new e) graph (subst (λ (n : ℕ). HasStopped told g' n text mid new e) jobs is);
  })
