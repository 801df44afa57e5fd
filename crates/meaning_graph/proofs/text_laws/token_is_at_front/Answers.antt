use Rattle.meaning_graph.specs.Lexing.{taken}
use Rattle.meaning_graph.proofs.Lexed.{begins_from}
use Rattle.meaning_graph.proofs.Tokens.{begins_told}
use Rattle.meaning_graph.proofs.text_laws.token_is_at_front.Goals as goal

pub returns : goal.returns
returns c = λ text t rest. (begins_from text (taken t rest), begins_told text t rest)
