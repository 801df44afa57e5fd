use Rattle.std.proofs.Common.{false, subst}
use Rattle.meaning_graph.specs.TextLaws.{IsBehindGap}
use Rattle.meaning_graph.proofs.Stops.{one_gap}
use Rattle.meaning_graph.proofs.Readings.{past_is_past, past_read}
use Rattle.meaning_graph.proofs.text_laws.gap_is_passed.Goals as goal

pub returns : goal.returns
returns c = λ text rest. (λ e. subst (IsBehindGap text) e (record { gap = past_read text; past = past_is_past false text }), λ b. one_gap text rest b.gap b.past)
