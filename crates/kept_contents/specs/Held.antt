-- Calls that are held.
use Rattle.std.specs.Prelude.{List}
use Rattle.content_store.specs.Bodies.{Bodies}
use Rattle.kept_contents.specs.declared.head.CallHead.{CallHead}
use Rattle.kept_contents.specs.declared.held.HeldCall.{HeldCall}
use Rattle.kept_contents.specs.Borrowed.{key_of}
use Rattle.kept_contents.specs.Keys.{IsKeyOf}

abbrev pub IsHeld : List CallHead → Bodies → HeldCall → Type 0
IsHeld heads texts held = IsKeyOf heads texts (key_of held) held.call
