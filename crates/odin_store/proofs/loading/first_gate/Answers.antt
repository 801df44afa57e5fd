use Rattle.std.proofs.Common.{◌≡◌, ◌<◌, length, get_or, ap, sym, arith}
use Rattle.odin_store.proofs.RecordLemmas.{size_more}
use Rattle.odin_store.proofs.loading.first_gate.Goals as goal

pub loop-record-preserved : goal.loop-record-preserved
loop-record-preserved c =
    let records = c.args.records.now in
    let index = c.loop-record.record-index in
    let record_ = c.record-item.result in
    let inside : index < length records = omega arith in
    let more = size_more records index record_ inside in
    let long : length (get_or records index record_) ≡ length record_ = ap length (sym c.record-item.is) in
    omega (arith, c.loop-record.invariant, more, long, c.len.ensures, c.saturating_sub.ensures, c.saturating_sub-gate.ensures)
