-- The reply by which a session ends for whoever asked, and the exit status that tells it.
use Rattle.std.specs.Prelude.{ℕ, Bool, true, false, List, [], ◌∷◌, Option, Some, None, if◌then◌else◌}
use Rattle.object_values.specs.declared.messages.Status.{Status}
use Rattle.object_values.specs.declared.messages.Status.TheVariants.{Ok, Warning, Error, Abort}
use Rattle.object_values.specs.declared.replies.Reply.{Reply}
use Rattle.object_values.specs.declared.replies.Reply.TheVariants as reply

-- The reply answers an ask. A refusal of `plan` has the same text as one of `ask`, so it counts too.
abbrev pub answers_ask : Reply → Bool
answers_ask (reply.Shown status body messages) = true
answers_ask (reply.RefusedExpression place) = true
answers_ask (reply.RefusedParam name) = true
answers_ask (reply.RefusedType name) = true
answers_ask (reply.RefusedPath step) = true
answers_ask (reply.RefusedCircular lines) = true
answers_ask (reply.RefusedDeep lines) = true
answers_ask reply.RefusedToolStart = true
answers_ask other = false

-- the reply, where it does
abbrev pub reply_to_ask : Reply → Option Reply
reply_to_ask reply = if answers_ask reply then Some reply else None

-- the later of two
abbrev pub later : Option Reply → Option Reply → Option Reply
later first None = first
later first (Some reply) = Some reply

-- the last of the replies that answers an ask
abbrev pub last_answer : List Reply → Option Reply
last_answer [] = None
last_answer (reply ∷ rest) = later (reply_to_ask reply) (last_answer rest)

-- how an object is
abbrev pub object_exit_status : Status → ℕ
object_exit_status Ok = 0
object_exit_status Warning = 1
object_exit_status Error = 2
object_exit_status Abort = 2

-- the exit status: how the object is, or 2 where there is none
abbrev pub exit_status : Option Reply → ℕ
exit_status (Some (reply.Shown status body messages)) = object_exit_status status
exit_status other = 2
