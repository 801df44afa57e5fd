-- The exit status by the replies.
use Rattle.std.specs.Prelude.{ℕ, Bool, true, false, List, Option, Some, None, if◌then◌else◌}
use Rattle.std.specs.List.{list_any}
use Rattle.object_values.specs.declared.messages.Status.{Status}
use Rattle.object_values.specs.declared.messages.Status.TheVariants.{Ok, Warning, Error, Abort}
use Rattle.object_values.specs.declared.replies.Reply.{Reply}
use Rattle.object_values.specs.declared.replies.Reply.TheVariants.{Shown}
use Rattle.object_values.specs.declared.replies.ShownBody.{ShownBody}

-- errors, or an abort
abbrev pub is_faulty : Status → Bool
is_faulty Ok = false
is_faulty Warning = false
is_faulty Error = true
is_faulty Abort = true

-- what is shown of an object without them
abbrev pub good_body : Reply → Option ShownBody
good_body (Shown status body messages) = if is_faulty status then None else Some body
good_body other = None

-- an object with errors
abbrev pub has_errors : Reply → Bool
has_errors (Shown status body messages) = is_faulty status
has_errors other = false

-- no object
abbrev pub is_refusal : Reply → Bool
is_refusal (Shown status body messages) = false
is_refusal other = true

-- 2 where one is refused, else 1 where one has errors, else 0
abbrev pub build_status : List Reply → ℕ
build_status replies = if list_any is_refusal replies then 2 else if list_any has_errors replies then 1 else 0
