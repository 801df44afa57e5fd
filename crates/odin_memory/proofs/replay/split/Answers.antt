use Rattle.std.proofs.Common.{◌≡◌, ◌∙◌, take, drop, length, min, arith}
use Rattle.std.proofs.lemmas.List.{take_min, drop_min}
use Rattle.odin_memory.specs.Entries.{count_of}
use Rattle.odin_memory.proofs.replay.split.Goals as goal

pub returns-clause-here : goal.returns-clause-here
returns-clause-here c =
    let front : c.split_at.result.0.now ≡ take (min (count_of c.args.entry) (length c.args.bytes.now)) c.args.bytes.now = grind arith in
    front ∙ take_min (count_of c.args.entry) c.args.bytes.now

pub returns-clause-rest : goal.returns-clause-rest
returns-clause-rest c =
    let back : c.split_at.result.1.now ≡ drop (min (count_of c.args.entry) (length c.args.bytes.now)) c.args.bytes.now = grind arith in
    back ∙ drop_min (count_of c.args.entry) c.args.bytes.now
