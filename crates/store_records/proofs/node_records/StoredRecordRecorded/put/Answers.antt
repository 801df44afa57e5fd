use Rattle.std.proofs.Common.{◌≡◌, ◌++◌}
use Rattle.meaning_records.specs.Forms.{number, list_of, option_of}
use Rattle.meaning_records.specs.Records.{status, node, message, dep}
use Rattle.store_records.proofs.PutLemmas.{first_put, on_ok}
use Rattle.store_records.proofs.node_records.StoredRecordRecorded.put.Goals as goal

pub returns-clause-ok : goal.returns-clause-ok
returns-clause-ok c =
    let r = c.args.self.now in
    let out = c.args.out.now in
    let all = c.put-9.new.out in
    let height = number.spell r.height in
    let messages = (list_of message).spell r.messages in
    let present = status.spell r.status in
    let own_messages = (list_of message).spell r.own_messages in
    let own = status.spell r.own_status in
    let value = (option_of number).spell r.value in
    let reached = number.spell r.reached in
    let deps = (list_of dep).spell r.deps in
    let first = node.spell r.node in
    on_ok {P = all ≡ c.put-8.new.out ++ height}
    {Q = all ≡ out ++ (first ++ (deps ++ (reached ++ (value ++ (own ++ (own_messages ++ (present ++ (messages ++ height))))))))} c.put-9.result c.put-9.ensures.ok (λ last.
    let from_8 = first_put c.put-7.new.out c.put-8.new.out all messages height c.in_ok-put-8.ensures.ok last in
    let from_7 = first_put c.put-6.new.out c.put-7.new.out all present (messages ++ height) c.in_ok-put-7.ensures.ok from_8 in
    let from_6 = first_put c.put-5.new.out c.put-6.new.out all own_messages (present ++ (messages ++ height)) c.in_ok-put-6.ensures.ok from_7 in
    let from_5 = first_put c.put-4.new.out c.put-5.new.out all own (own_messages ++ (present ++ (messages ++ height))) c.in_ok-put-5.ensures.ok from_6 in
    let from_4 = first_put c.put-3.new.out c.put-4.new.out all value (own ++ (own_messages ++ (present ++ (messages ++ height)))) c.in_ok-put-4.ensures.ok from_5 in
    let from_3 = first_put c.put-2.new.out c.put-3.new.out all reached (value ++ (own ++ (own_messages ++ (present ++ (messages ++ height))))) c.in_ok-put-3.ensures.ok from_4 in
    let from_2 = first_put c.put.new.out c.put-2.new.out all deps (reached ++ (value ++ (own ++ (own_messages ++ (present ++ (messages ++ height)))))) c.in_ok-put-2.ensures.ok from_3 in
    first_put out c.put.new.out all first (deps ++ (reached ++ (value ++ (own ++ (own_messages ++ (present ++ (messages ++ height))))))) c.in_ok-put.ensures.ok from_2)
