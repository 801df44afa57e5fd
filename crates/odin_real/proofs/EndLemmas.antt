-- The end of a child program, and what is read after it.
use Rattle.std.proofs.Common.{◌≡◌, ◌∙◌, ℕ, true, false, List, refl, sym, ap, subst, inl, inr}
use Rattle.std.specs.Prelude.{◌⊎◌, ⊤, Option, Some, None, Result, Ok, Err, IfOk, IfSome, OnErr}
use Rattle.std.specs.List.{All}
use Rattle.std.specs.declared.process.status.ExitStatus.{ExitStatus}
use Rattle.object_values.specs.declared.jobs.FileBody.{FileBody}
use Rattle.object_values.specs.declared.jobs.Raw.{Raw}
use Rattle.odin_real.specs.declared.fault.SystemFault.{SystemFault}
use Rattle.odin_real.specs.declared.fault.SystemFault.TheVariants.{Failed, Memory}
use Rattle.odin_real.specs.Ends.{AreOutputs, EndsAs, HasLeft, IsEndOf, IsEndingOf, IsLost, IsUnread, Reads, is_lost_end, no_outcome, not_waited, ended_by_others, not_settled, without_outcome, not_read, unsettled, outcomeless, unreadable, settled_after}
use Rattle.odin_real.specs.Folders.{Standing, AreLeft, IsFileName, IsToldOf}
use Rattle.odin_real.specs.Logs.{CountsFailure, CountsWhere, Exit, Log, LogsEnd, LogsWhere, end_event, fault_event, log_with, settle_event}
use Rattle.odin_real.specs.Told.{ChildView}
use Rattle.odin_real.proofs.FaultLemmas.{failed_differs, memory_not_failed, ok_differs, ok_not_failed, on_failed}

-- ---- what is read

pub reads_unsettled : {T : Type 0} (folder : List ℕ) (outs : List (List ℕ)) (holds : Option Standing) (old new : Log) (given : Result T SystemFault) (result : Result (List FileBody) SystemFault) (fault : SystemFault) → given ≡ Err fault → result ≡ Err fault
    → LogsWhere ⊤ (settle_event folder) Memory old new given → Reads folder outs holds old new result
reads_unsettled folder outs holds old new given result Memory was is logs = subst (Reads folder outs holds old new) (sym is) (record { ok = tt; given = tt; wanted = λ _. inl (logs.wanted was); failed = λ _ same. absurd (memory_not_failed (Err Memory) refl same) })
reads_unsettled folder outs holds old new given result Failed was is logs = subst (Reads folder outs holds old new) (sym is) (record { ok = tt; given = tt; wanted = λ same. absurd (failed_differs (Err Failed) refl same); failed = λ _ _. unsettled (on_failed given was (logs.failed tt)) })

pub reads_unasked : {T : Type 0} (folder : List ℕ) (outs : List (List ℕ)) (holds : Option Standing) (old mid new : Log) (given : Result T SystemFault) (result : Result (List FileBody) SystemFault) (fault : SystemFault) → given ≡ Err fault → result ≡ Err fault
    → mid ≡ log_with old (settle_event folder) → CountsFailure Memory mid new given → Reads folder outs holds old new result
reads_unasked folder outs holds old mid new given result Memory was is first counts = subst (Reads folder outs holds old new) (sym is) (record { ok = tt; given = tt; wanted = λ _. inr (counts.wanted was ∙ first); failed = λ _ same. absurd (memory_not_failed (Err Memory) refl same) })
reads_unasked folder outs holds old mid new given result Failed was is first counts = subst (Reads folder outs holds old new) (sym is) (record { ok = tt; given = tt; wanted = λ same. absurd (failed_differs (Err Failed) refl same); failed = λ _ _. unreadable (on_failed given was counts.failed ∙ ap (λ log. log_with log fault_event) first) })

pub reads_none : (folder : List ℕ) (outs : List (List ℕ)) (holds : Option Standing) (old new : Log) → IsToldOf holds no_outcome true → new ≡ log_with old (settle_event folder) → Reads folder outs holds old new (Err Failed)
reads_none folder outs holds old new none first = record { ok = tt; given = tt; wanted = λ same. absurd (failed_differs (Err Failed) refl same); failed = λ _ _. outcomeless none first }

pub reads_left : (folder : List ℕ) (outs : List (List ℕ)) (holds : Option Standing) (old mid new : Log) (result : Result (List FileBody) SystemFault)
    → mid ≡ log_with old (settle_event folder) → IsToldOf holds no_outcome false → IfOk result (AreLeft holds outs) → CountsWhere (All IsFileName outs) Memory mid new result → Reads folder outs holds old new result
reads_left folder outs holds old mid new (Ok files) first outcome left counts = record { ok = counts.ok ∙ first; given = record { outcome = outcome; left = left }; wanted = λ same. absurd (ok_differs (Ok files) files refl same); failed = λ _ same. absurd (ok_not_failed (Ok files) files refl same) }
reads_left folder outs holds old mid new (Err Memory) first outcome left counts = record { ok = tt; given = tt; wanted = λ same. inr (counts.wanted same ∙ first); failed = λ _ same. absurd (memory_not_failed (Err Memory) refl same) }
reads_left folder outs holds old mid new (Err Failed) first outcome left counts = record { ok = tt; given = tt; wanted = λ same. absurd (failed_differs (Err Failed) refl same); failed = λ names is. unreadable (on_failed (failed_read) (failed_is) (counts.failed names) ∙ ap (λ log. log_with log fault_event) first) }
  where
    failed_read : Result (List FileBody) SystemFault
    failed_read = Err Failed

    failed_is : failed_read ≡ Err Failed
    failed_is = refl

-- ---- how it ends

abbrev status_or : ExitStatus → Result ExitStatus SystemFault → ExitStatus
status_or other (Ok status) = status
status_or other (Err fault) = other

again_of : (told : Option ExitStatus) (given : Result ExitStatus SystemFault) (status : ExitStatus) → given ≡ Ok status → IfSome told (λ told. given ≡ Ok told) → IfSome told (λ told. status ≡ told)
again_of None given status was again = tt
again_of (Some told) given status was again = ap (status_or told) (sym was ∙ again)

-- the end that a wait told of a tool
abbrev pub exit_of : ExitStatus → List ℕ → Option Standing → Exit
exit_of status folder holds = record { status = status; folder = folder; holds = holds }

ending_of : (tool : ChildView) (holds : Option Standing) (given : Result ExitStatus SystemFault) (status : ExitStatus) → given ≡ Ok status → IfSome tool.status (λ told. given ≡ Ok told) → IsEndingOf tool (exit_of status tool.folder holds)
ending_of tool holds given status was again = record { at = refl; again = again_of tool.status given status was again }

end_logged : (folder : List ℕ) (holds : Option Standing) (old new : Log) (given : Result ExitStatus SystemFault) (status : ExitStatus) → given ≡ Ok status → LogsEnd folder holds old new given → new ≡ log_with old (end_event (exit_of status folder holds))
end_logged folder holds old new given status was logs = subst (λ (r : Result ExitStatus SystemFault). IfOk r (λ status. new ≡ log_with old (end_event (exit_of status folder holds)))) was logs.ok

pub ends_unwaited : (tool : ChildView) (holds : Option Standing) (old new : Log) (given : Result ExitStatus SystemFault) (result : Result Raw SystemFault) (fault : SystemFault) → given ≡ Err fault → result ≡ Err fault
    → LogsEnd tool.folder holds old new given → EndsAs tool old new result
ends_unwaited tool holds old new given result fault was is logs =
    let failed : given ≡ Err Failed = subst (λ (r : Result ExitStatus SystemFault). OnErr r (given ≡ Err Failed)) was logs.failed in
    let one : new ≡ log_with old fault_event = subst (λ (r : Result ExitStatus SystemFault). OnErr r (new ≡ log_with old fault_event)) was logs.counted in
    let same : result ≡ Err Failed = is ∙ ap again (sym was ∙ failed) in
    subst (EndsAs tool old new) (sym same) (record { ok = tt; wanted = λ memory. absurd (failed_differs (Err Failed) refl memory); failed = λ _ _. not_waited one })
  where
    again : Result ExitStatus SystemFault → Result Raw SystemFault
    again (Ok status) = Err Failed
    again (Err fault) = Err fault

pub ends_by_others : (tool : ChildView) (holds : Option Standing) (old new : Log) (given : Result ExitStatus SystemFault) (status : ExitStatus) → given ≡ Ok status → IfSome tool.status (λ told. given ≡ Ok told)
    → is_lost_end status ≡ true → LogsEnd tool.folder holds old new given → EndsAs tool old new (Err Failed)
ends_by_others tool holds old new given status was again lost logs = record {
  ok = tt;
  wanted = λ memory. absurd (failed_differs (Err Failed) refl memory);
  failed = λ _ _. ended_by_others (exit_of status tool.folder holds) (ending_of tool holds given status was again) lost (end_logged tool.folder holds old new given status was logs);
}

pub ends_unread : (tool : ChildView) (holds : Option Standing) (old mid new : Log) (given : Result ExitStatus SystemFault) (status : ExitStatus) (read : Result (List FileBody) SystemFault) (result : Result Raw SystemFault) (fault : SystemFault)
    → given ≡ Ok status → IfSome tool.status (λ told. given ≡ Ok told) → LogsEnd tool.folder holds old mid given → read ≡ Err fault → result ≡ Err fault → Reads tool.folder tool.running.job.outs holds mid new read → EndsAs tool old new result
ends_unread tool holds old mid new given status read result Memory was again logs unread is reads =
    let first = end_logged tool.folder holds old mid given status was logs in
    subst (EndsAs tool old new) (sym is) (record {
      ok = tt;
      wanted = λ _. record { exit = exit_of status tool.folder holds; ending = ending_of tool holds given status was again; told = after (reads.wanted unread) };
      failed = λ _ same. absurd (memory_not_failed (Err Memory) refl same);
    })
  where
    after : (new ≡ mid) ⊎ (new ≡ log_with mid (settle_event tool.folder)) → (new ≡ log_with old (end_event (exit_of status tool.folder holds))) ⊎ (new ≡ settled_after old (exit_of status tool.folder holds) tool.folder)
    after (inl same) = inl (same ∙ end_logged tool.folder holds old mid given status was logs)
    after (inr settled) = inr (settled ∙ ap (λ log. log_with log (settle_event tool.folder)) (end_logged tool.folder holds old mid given status was logs))
ends_unread tool holds old mid new given status read result Failed was again logs unread is reads =
    subst (EndsAs tool old new) (sym is) (record { ok = tt; wanted = λ memory. absurd (failed_differs (Err Failed) refl memory); failed = λ names _. why (reads.failed names unread) })
  where
    why : IsUnread tool.folder holds mid new → IsLost tool old new
    why (unsettled is) = not_settled (exit_of status tool.folder holds) (ending_of tool holds given status was again) (is ∙ ap (λ log. log_with log fault_event) (end_logged tool.folder holds old mid given status was logs))
    why (outcomeless none is) = without_outcome (exit_of status tool.folder holds) (ending_of tool holds given status was again) none (is ∙ ap (λ log. log_with log (settle_event tool.folder)) (end_logged tool.folder holds old mid given status was logs))
    why (unreadable is) = not_read (exit_of status tool.folder holds) (ending_of tool holds given status was again) (is ∙ ap (λ log. log_with (log_with log (settle_event tool.folder)) fault_event) (end_logged tool.folder holds old mid given status was logs))

pub ends_well : (tool : ChildView) (holds : Option Standing) (old mid new : Log) (given : Result ExitStatus SystemFault) (status : ExitStatus) (read : Result (List FileBody) SystemFault) (raw : Raw)
    → given ≡ Ok status → IfSome tool.status (λ told. given ≡ Ok told) → is_lost_end status ≡ false → LogsEnd tool.folder holds old mid given → read ≡ Ok raw.files → Reads tool.folder tool.running.job.outs holds mid new read → IsEndOf status raw.end → EndsAs tool old new (Ok raw)
ends_well tool holds old mid new given status read raw was again whole logs is reads end =
    let outputs : AreOutputs tool.running.job.outs holds raw.files = subst (λ (r : Result (List FileBody) SystemFault). IfOk r (AreOutputs tool.running.job.outs holds)) is reads.given in
    let settled : new ≡ log_with mid (settle_event tool.folder) = subst (λ (r : Result (List FileBody) SystemFault). IfOk r (λ files. new ≡ log_with mid (settle_event tool.folder))) is reads.ok in record {
      ok = record {
        exit = exit_of status tool.folder holds;
        told = settled ∙ ap (λ log. log_with log (settle_event tool.folder)) (end_logged tool.folder holds old mid given status was logs);
        leaves = record { ending = ending_of tool holds given status was again; end = end; whole = whole; outcome = outputs.outcome; files = outputs.left };
      };
      wanted = λ memory. absurd (ok_differs (Ok raw) raw refl memory);
      failed = λ _ same. absurd (ok_not_failed (Ok raw) raw refl same);
    }
