-- Keys that are borrowed.
use Rattle.kept_contents.specs.declared.held.HeldCall.{HeldCall}
use Rattle.kept_contents.specs.declared.keys.CallKey.{CallKey}
use Rattle.kept_contents.specs.declared.keys.SoughtKey.{SoughtKey}

-- the key that a sought one finds
abbrev pub as_key : SoughtKey → CallKey
as_key q = record { head = q.head; hash = q.hash; parts = q.parts.now }

-- the key of a call that is held
abbrev pub key_of : HeldCall → CallKey
key_of held = record { head = held.head; hash = held.hash; parts = held.call.parts }
