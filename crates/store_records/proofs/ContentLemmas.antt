-- Contents: a value that fills the body of a field of bytes.
use Rattle.std.proofs.Common.{◌≡◌, ℕ, List, slice_range, subst}
use Rattle.object_values.specs.declared.views.Value.{Value}
use Rattle.meaning_records.specs.Forms.{ParsesAt, StandsNowhere, bytes}
use Rattle.meaning_records.specs.Records.{value, content}
use Rattle.meaning_records.specs.FormLemmas.{one_bytes, one_value}
use Rattle.meaning_records.specs.PlaceLemmas.{one_stands}
use Rattle.store_records.specs.Bodies.{HasBody}

pub content_stands : (from : List ℕ) (at start end : ℕ) (v : Value) → HasBody from at start end → ParsesAt value from start end v → ParsesAt content from at end v
content_stands from at start end v body there =
    let whole : ParsesAt bytes from at end (value.spell v) = subst (λ l. ParsesAt bytes from at end l) there.field.bytes body.stands in
    record { fits = (there.fits, whole.fits); field = whole.field }

-- what a content is of fills the body
content_there : (from : List ℕ) (at start end last : ℕ) (v : Value) → HasBody from at start end → ParsesAt content from at last v → ParsesAt value from start end v
content_there from at start end last v body there =
    let whole : ParsesAt bytes from at last (value.spell v) = record { fits = there.fits.1; field = there.field } in
    let same = one_stands bytes one_bytes from at end last (slice_range from start end) (value.spell v) body.stands whole in
    record { fits = there.fits.0; field = record { in_range = body.inside; bytes = same.0 } }

pub content_nowhere : (from : List ℕ) (at start end : ℕ) → HasBody from at start end → StandsNowhere value from start → StandsNowhere content from at
content_nowhere from at start end body none v last there = none v end (content_there from at start end last v body there)

-- the value in the body ends elsewhere
pub other_end : (from : List ℕ) (at start end behind : ℕ) (v : Value) → HasBody from at start end → ParsesAt value from start behind v → (behind ≡ end → ⊥) → StandsNowhere content from at
other_end from at start end behind v body there other w last whole =
    other (one_stands value one_value from start behind end v w there (content_there from at start end last w body whole)).1
