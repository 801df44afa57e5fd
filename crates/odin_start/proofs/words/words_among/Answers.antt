use Rattle.std.proofs.Common.{◌∙◌, refl, sym, ap, Ok}
use Rattle.odin_start.specs.Words.{words_among}
use Rattle.odin_start.proofs.WordLemmas.{none_moved, one_moved, all_moved}
use Rattle.odin_start.proofs.words.words_among.Goals.{in-Ok+in-None, in-Err+else-eq}
use Rattle.odin_start.proofs.words.words_among.Goals as goal

pub loop-word-init : goal.loop-word-init
loop-word-init c = none_moved _ _ _ _ _ c.new-words.ensures.items refl refl

pub loop-word-preserved : goal.loop-word-preserved
loop-word-preserved c = one_moved _ _ _ _ _ _ _ _ _ c.in_ok-push-in-Ok.ensures.items c.in-Some.ensures.steps.0 c.in-Some.ensures.steps.1 c.loop-word.invariant

pub returns-clause-ok : goal.returns-clause-ok
returns-clause-ok c = elim c.match-args.branch [
  | in-Ok+in-None w ↦
      ap (λ words. words.items) w.words-is
      ∙ all_moved _ _ _ _ _ w.in-None.ensures.steps.0 w.loop-word.invariant
      ∙ ap (λ args. words_among args) (ap (λ given. Ok given) w.into_iter-word-iterator.ensures.into_iter_gives ∙ sym w.in-Ok.is)
  | in-Err+else-eq w ↦ ap (λ words. words.items) w.words-is ∙ c.new-words.ensures.items ∙ sym (ap words_among w.in-Err.is)
]
