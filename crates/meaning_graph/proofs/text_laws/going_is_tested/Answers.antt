use Rattle.meaning_graph.proofs.Fronts.{front_from_going, going_from_front}
use Rattle.meaning_graph.proofs.text_laws.going_is_tested.Goals as goal

pub returns : goal.returns
returns c = λ tokens low. (front_from_going tokens low, going_from_front tokens)
