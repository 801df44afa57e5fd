use Rattle.std.proofs.Common.{◌≤◌, ◌+◌, length, refl, arith}
use Rattle.odin_bytes.specs.FieldLemmas.{body_at, no_body_at, length-slice_range}
use Rattle.meaning_records.specs.PlaceLemmas.{bytes_nowhere}
use Rattle.store_records.proofs.places.take_body.Goals as goal

pub returns-then-len-start-clause-none : goal.returns-then-len-start-clause-none
returns-then-len-start-clause-none c =
    let read = c.in_ok-length.ensures in
    bytes_nowhere _ _ (no_body_at _ _ _ _ read.end read.fits read.some (omega (arith, read.some.in_range)))

pub returns-clause-some : goal.returns-clause-some
returns-clause-some c =
    let read = c.in_ok-length.ensures in
    let start = c.in_ok-length.start in
    let end = start + c.in_ok-length.length in
    let within : end ≤ length c.args.from.now = omega (arith, read.some.in_range) in
    record {
      inside = (omega arith, within);
      stands = record { fits = omega (arith, read.fits, length-slice_range c.args.from.now start end within); field = body_at _ _ _ _ _ read.some refl within };
    }
