use Rattle.std.proofs.Common.{length, ap, sym, ◌∙◌, arith}
use Rattle.memchr.specs.Find.{is_byte}
use Rattle.memchr.proofs.lemmas.CallerLemmas.{length-places}
use Rattle.dg_reader.proofs.PlaceLemmas.{count_lines}
use Rattle.dg_reader.proofs.places.line_behind.Goals as goal

pub returns-clause-value : goal.returns-clause-value
returns-clause-value c =
    let counted = c.count.ensures ∙ ap length c.memchr_iter.ensures.value ∙ length-places (is_byte 10) c.args.front.now ∙ sym (count_lines c.args.front.now) in
    omega arith
