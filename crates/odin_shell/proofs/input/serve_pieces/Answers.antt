use Rattle.std.proofs.Common.{◌≡◌, ◌≤◌, ◌+◌, refl, ◌∙◌, arith, rules}
use Rattle.std.proofs.lemmas.List.{length-take-le}
use Rattle.meaning_commands.specs.Endings.{input_limit, piece_limit}
use Rattle.odin_shell.proofs.ServeLemmas.{onward_as}
use Rattle.odin_shell.proofs.InputLemmas.{served_as, none_read, piece_read, may_serve, ends_unread, ends_whole, ends_inside, ends_last, ends_piece, ends_at_limit}
use Rattle.odin_shell.proofs.input.serve_pieces.Goals as goal

pub loop-count-init : goal.loop-count-init
loop-count-init g c = record {
  at = none_read _ _ _ _ _ c.requires.may c.new-session.ensures.engine c.new-session.ensures.held;
  within = omega arith;
  counted = refl;
}

pub take_piece-requires : goal.take_piece-requires
take_piece-requires g c = may_serve _ _ _ _ _ c.loop-count.count _ _ _ c.requires.may (search rules) c.loop-count.invariant.at

pub finish-requires : goal.finish-requires
finish-requires g c = may_serve _ _ _ _ _ c.loop-count.count 1 _ _ c.requires.may (search rules) c.loop-count.invariant.at

pub loop-count-preserved : goal.loop-count-preserved
loop-count-preserved g c = record {
  at = piece_read _ _ _ _ _ _ c.loop-count.count c.in-Ok.size _ _ _ _ _ c.loop-count.invariant.at c.in-Ok.ensures.bytes (length-take-le c.in-Ok.size _ c.in-Ok.ensures.bound) c.in-Ok-take_piece.ensures.ok
      (onward_as _ _ c.in-Ok.size _ _ _ _ (length-take-le c.in-Ok.size _ c.in-Ok.ensures.bound) c.in-Ok-take_piece.ensures.onward);
  within = search rules;
  counted = c.in-Ok.ensures.cause.ok ∙ c.loop-count.invariant.counted;
}

pub returns-in_default : goal.returns-in_default
returns-in_default g c =
    let rose = c.in_default.ensures.cause.failed in
    let later = c.in_default.ensures.cause.later in
    let same = c.loop-count.invariant.counted in
    ends_unread _ _ _ _ _ _ c.loop-count.count 0 _ _ _ c.loop-count.invariant.at c.loop-count-test.true c.in_default.ensures.err (record { later = omega arith; rose = omega arith }) refl

pub returns : goal.returns
returns g c =
    let is : c.loop-count.count ≡ input_limit = omega arith in
    ends_at_limit _ _ _ _ _ _ _ (rw is at c.loop-count.invariant.at) c.loop-count.invariant.counted

pub returns-in-Ok-Whole : goal.returns-in-Ok-Whole
returns-in-Ok-Whole g c =
    ends_whole _ _ _ _ _ _ c.loop-count.count c.in-Ok.size _ _ _ c.loop-count.invariant.at c.loop-count-test.true _ c.in-Ok.ensures.bytes c.if-size-eq0.true (c.in-Ok.ensures.end c.if-size-eq0.true) (c.in-Ok.ensures.cause.ok ∙ c.loop-count.invariant.counted)
    (rw c.in-Ok-Whole.field-0-is at c.in-Ok-Whole.ensures.ok) c.in-Ok-Whole.ensures.unfailed

pub returns-in-Ok-CutShort : goal.returns-in-Ok-CutShort
returns-in-Ok-CutShort g c =
    ends_inside _ _ _ _ _ _ c.loop-count.count c.in-Ok.size _ _ _ c.loop-count.invariant.at c.loop-count-test.true _ c.in-Ok.ensures.bytes c.if-size-eq0.true (c.in-Ok.ensures.end c.if-size-eq0.true) (c.in-Ok.ensures.cause.ok ∙ c.loop-count.invariant.counted)
    (rw c.in-Ok-CutShort.field-0-is at c.in-Ok-CutShort.ensures.ok) c.in-Ok-CutShort.ensures.unfailed

pub returns-in-Err : goal.returns-in-Err
returns-in-Err g c =
    served_as _ _ _ _ _ _ _ _ c.ending.ensures
    (ends_last _ _ _ _ _ _ c.loop-count.count c.in-Ok.size _ _ _ c.loop-count.invariant.at c.loop-count-test.true _ c.in-Ok.ensures.bytes c.if-size-eq0.true (c.in-Ok.ensures.end c.if-size-eq0.true) (c.in-Ok.ensures.cause.ok ∙ c.loop-count.invariant.counted)
    c.in-Err.stop c.in-Err.ensures.err c.in-Err.ensures.counted refl)

pub returns-in-Err-take_piece : goal.returns-in-Err-take_piece
returns-in-Err-take_piece g c =
    let within : c.loop-count.count + c.in-Ok.size ≤ input_limit = search rules in
    let few : c.in-Ok.size ≤ piece_limit = search rules in
    served_as _ _ _ _ _ _ _ _ c.ending-in-Err-take_piece.ensures
    (ends_piece _ _ _ _ _ _ c.loop-count.count c.in-Ok.size _ _ _ c.loop-count.invariant.at c.in-Err-take_piece.stop _ c.in-Ok.ensures.bytes (length-take-le c.in-Ok.size _ c.in-Ok.ensures.bound) within few (c.in-Ok.ensures.cause.ok ∙ c.loop-count.invariant.counted)
    c.in-Err-take_piece.ensures.err c.in-Err-take_piece.ensures.counted refl)
