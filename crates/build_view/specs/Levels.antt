-- The words of levels, by which a page also gives them their colours.
use Rattle.std.specs.Prelude.{ℕ, List, codes}
use Rattle.object_values.specs.declared.messages.Status.{Status}
use Rattle.object_values.specs.declared.messages.Status.TheVariants.{Ok, Warning, Error, Abort}

abbrev pub level_word : Status → List ℕ
level_word Ok = codes "ok"
level_word Warning = codes "warning"
level_word Error = codes "error"
level_word Abort = codes "abort"
