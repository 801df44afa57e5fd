use Rattle.std.proofs.Common.{◌≡◌, ◌∙◌, ℕ, ap, subst}
use Rattle.std.proofs.lemmas.Result.{IfOk-weaker}
use Rattle.meaning_records.specs.Live.{IsKeptBatch, IsLiveText}
use Rattle.meaning_records.specs.Tables.{Calls}
use Rattle.kept_tables.specs.Batching.{counted_text, CountsLiveBatches}
use Rattle.kept_tables.specs.Holdings.{Holding, kept_calls_of}
use Rattle.kept_tables.specs.Live.{live_in}
use Rattle.kept_tables.proofs.SizeLemmas.{all_counted}
use Rattle.kept_tables.proofs.kept.Kept.live_text.Goals as goal

pub returns : goal.returns
returns c =
    let live = live_in c.args.graph.now c.args.sources.now.texts c.args.self.now in
    let third = c.add_calls.new.self in
    let last = c.count_records.new.live in
    let same : kept_calls_of c.as_slice.result.now ≡ live.calls = ap kept_calls_of c.as_slice.ensures.value ∙ ap (λ (h : Holding). h.tables.calls) c.self.view_is in
    let keeps = subst (λ (l : Calls). CountsLiveBatches IsKeptBatch l c.add_sources.new.self third) same c.in_ok-add_calls.ensures in
    IfOk-weaker c.total.result (λ (size : ℕ). size ≡ counted_text last) (IsLiveText live)
    (λ size is. all_counted live c.in_ok-live.live c.add_sources.new.self third last size c.in_ok-live.ensures.added c.in_ok-live.ensures.items
    c.in_ok-add_sources.ensures keeps c.in_ok-count_records.ensures is)
    c.total.ensures
