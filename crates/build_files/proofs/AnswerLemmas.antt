-- The last answer of one more reply.
use Rattle.std.proofs.Common.{◌≡◌, ◌≤◌, ◌∙◌, ap, sym, subst, refl, Bool, true, false, cond, List, [], ◌∷◌, ◌++◌, Option, Some, None, arith}
use Rattle.std.specs.Prelude.{All}
use Rattle.std.proofs.lemmas.List.Elements.{All-head, All-tail}
use Rattle.meaning_texts.proofs.Lemmas.{same_some}
use Rattle.meaning_commands.specs.Formed.{IsFormed}
use Rattle.object_values.specs.declared.messages.Status.{Status}
use Rattle.object_values.specs.declared.messages.Status.TheVariants.{Ok, Warning, Error, Abort}
use Rattle.object_values.specs.declared.replies.Reply.{Reply}
use Rattle.object_values.specs.declared.replies.Reply.TheVariants as reply
use Rattle.build_files.specs.Answers.{answers_ask, reply_to_ask, later, last_answer, object_exit_status, exit_status}

later_some : (o : Option Reply) → later None o ≡ o
later_some None = refl
later_some (Some reply) = refl

later_later : (a b c : Option Reply) → later a (later b c) ≡ later (later a b) c
later_later a b None = refl
later_later a b (Some reply) = refl

pub last_more : (replies : List Reply) (reply : Reply) → last_answer (replies ++ reply ∷ []) ≡ later (last_answer replies) (reply_to_ask reply)
last_more [] reply = sym (later_some (reply_to_ask reply))
last_more (first ∷ rest) reply = ap (later (reply_to_ask first)) (last_more rest reply) ∙ later_later (reply_to_ask first) (last_answer rest) (reply_to_ask reply)

-- It is one of the replies, so it is as well formed as they are.
answer_is : (reply other : Reply) → reply_to_ask reply ≡ Some other → reply ≡ other
answer_is reply other is = by (answers_ask reply) is
  where
    by : (b : Bool) → cond b (Some reply) None ≡ Some other → reply ≡ other
    by true is = same_some is
    by false is = cc

pub last_formed : (replies : List Reply) → All IsFormed replies → (reply : Reply) → last_answer replies ≡ Some reply → IsFormed reply
last_formed [] formed reply is = cc
last_formed (first ∷ rest) formed reply is =
    by (last_answer rest) (λ there. last_formed rest (All-tail IsFormed first rest formed) reply there) is
  where
    by : (o : Option Reply) → (o ≡ Some reply → IsFormed reply) → later (reply_to_ask first) o ≡ Some reply → IsFormed reply
    by (Some other) rest_formed is = rest_formed is
    by None rest_formed is = subst IsFormed (answer_is first reply is) (All-head IsFormed first rest formed)

-- ---- the exit status

small : (status : Status) → object_exit_status status ≤ 2
small Ok = omega arith
small Warning = omega arith
small Error = omega arith
small Abort = omega arith

pub small_status : (answer : Option Reply) → exit_status answer ≤ 2
small_status None = omega arith
small_status (Some (reply.Shown status body messages)) = small status
small_status (Some (reply.Put text number)) = omega arith
small_status (Some (reply.Took text number)) = omega arith
small_status (Some (reply.NoFile text)) = omega arith
small_status (Some (reply.Dropped text)) = omega arith
small_status (Some (reply.NoSource text)) = omega arith
small_status (Some (reply.Sources text)) = omega arith
small_status (Some (reply.Kept number)) = omega arith
small_status (Some (reply.Plan text)) = omega arith
small_status (Some reply.Bye) = omega arith
small_status (Some reply.RefusedCommand) = omega arith
small_status (Some reply.RefusedName) = omega arith
small_status (Some reply.RefusedSize) = omega arith
small_status (Some reply.RefusedRead) = omega arith
small_status (Some (reply.RefusedExpression number)) = omega arith
small_status (Some (reply.RefusedParam text)) = omega arith
small_status (Some (reply.RefusedType text)) = omega arith
small_status (Some (reply.RefusedPath number)) = omega arith
small_status (Some (reply.RefusedCircular text)) = omega arith
small_status (Some (reply.RefusedDeep text)) = omega arith
small_status (Some reply.RefusedToolStart) = omega arith
