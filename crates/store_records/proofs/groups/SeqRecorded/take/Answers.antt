use Rattle.std.proofs.Common.{◌≡◌, ℕ, ◌+◌, List, [], ◌∷◌, ◌++◌, length, ap, ◌∙◌, arith}
use Rattle.std.proofs.lemmas.List.{length_push}
use Rattle.meaning_records.specs.PlaceLemmas.{one_more_follows, list_stands, member_nowhere}
use Rattle.store_records.proofs.groups.SeqRecorded.take.Goals as goal

counted_more : {T : Type 0} (before after : List T) (x : T) (count : ℕ) → after ≡ before ++ x ∷ [] → length before ≡ count → length after ≡ count + 1
counted_more before after x count is counted = ap length is ∙ length_push before x ∙ ap (λ n. n + 1) counted

pub returns-in_default-2-clause-none : goal.returns-in_default-2-clause-none
returns-in_default-2-clause-none g c =
    member_nowhere g.T.Recorded.form g.met.T.Recorded.one _ _ _ _ _ _
    (record { fits = c.in-Some.ensures.fits; field = c.in-Some.ensures.some }) c.loop.invariant.follow (omega arith)
    (rw c.in_default-2.is at c.in_ok-member.ensures.none)

pub loop-preserved : goal.loop-preserved
loop-preserved g c =
    let there = rw c.in-Some-2.is at c.in_ok-member.ensures.some in
    record {
      follow = rw c.in_ok-push.ensures.ok (one_more_follows g.T.Recorded.form _ _ _ _ _ _ c.loop.invariant.follow there);
      counted = counted_more _ _ _ _ c.in_ok-push.ensures.ok c.loop.invariant.counted;
    }

pub returns-clause-some : goal.returns-clause-some
returns-clause-some g c =
    list_stands g.T.Recorded.form _ _ _ _ _ _ (record { fits = c.in-Some.ensures.fits; field = c.in-Some.ensures.some }) c.loop.invariant.follow (omega arith)
