use Rattle.std.specs.Vec.Iter.{into_iter_items, into_iter_len}
use Rattle.odin_start.proofs.WordLemmas.{AreMoved}
use Rattle.odin_start.proofs.words.words_among.Given as goal

abbrev pub invariant-loop-word : goal.invariant-loop-word
invariant-loop-word l = AreMoved l.words.items (into_iter_items l.word-iterator) (into_iter_items l.initial.word-iterator) (into_iter_len l.word-iterator) (into_iter_len l.initial.word-iterator)
