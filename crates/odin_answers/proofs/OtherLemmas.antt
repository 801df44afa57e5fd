-- Sources that an object doesn't need.
use Rattle.std.proofs.Common.{◌≡◌, ℕ, [], sym, ◌∙◌, subst}
use Rattle.std.specs.Prelude.{Some}
use Rattle.object_values.specs.declared.nodes.Node.{Node}
use Rattle.object_values.specs.declared.views.View.{View}
use Rattle.odin_outside.specs.Spawned.{Spawned}
use Rattle.meaning_texts.specs.Limits.{height_limit}
use Rattle.meaning_graph.specs.Graphs.{Text, Graph}
use Rattle.meaning_derive.specs.Derive.{Sources, Outcomes, derived, text_of}
use Rattle.meaning_derive.specs.Chains.{IsMet}
use Rattle.meaning_derive.specs.Laws.{HasMore}
use Rattle.meaning_derive.proofs.Lemmas.{sources_enough, derive_more}
use Rattle.meaning_records.specs.Tables.{Calls, kept_outcome}
use Rattle.object_values.specs.declared.replies.Reply.{Reply}
use Rattle.meaning_derive.specs.Answers.{Asks, Answer}
use Rattle.meaning_derive.specs.Replies.{shown}
use Rattle.meaning_derive.proofs.Lemmas.{founded_shown}
use Rattle.derive_walk.specs.Outcomes.{after}
use Rattle.odin_answers.specs.Answers.{Agrees, HasAnswer, IsReply}
use Rattle.odin_answers.specs.Laws.{IsAnsweredAtOnce}
use Rattle.odin_answers.proofs.OnceLemmas.{at_once}

itself : (outcomes : Outcomes) → HasMore outcomes outcomes
itself outcomes call o e = e

-- An answer for which nothing was run goes by what was kept.
by_kept : (g : Graph) (s : Sources) (kept : Calls) (limit : ℕ) (text : Text) (reply : Reply) (given : Calls) (before now : Spawned) → IsAnsweredAtOnce g s kept limit text reply given before now → Answer g s (kept_outcome kept) text reply
by_kept g s kept limit text reply given before now at = at.answer.answer (kept_outcome kept) (subst (λ (l : Calls). HasMore (after (kept_outcome kept) l) (kept_outcome kept)) (sym at.none) (itself (kept_outcome kept)))

pub others_dont_matter : (g : Graph) (s other : Sources) (kept later : Calls) (limit most : ℕ) (text : Text) (n : Node) (view : View) (reply answer : Reply) (given more : Calls) (before now before' now' : Spawned)
    → HasAnswer g s kept limit text reply given before now → Asks g text n → derived g s (after (kept_outcome kept) given) n ≡ Some view → Agrees kept given (kept_outcome later)
    → ((m : Node) → IsMet g (derived g s (after (kept_outcome kept) given)) n m → m.steps ≡ [] → text_of s m.source ≡ text_of other m.source)
    → IsReply g other later most text answer more before' now' → (answer ≡ reply) × IsAnsweredAtOnce g other later most text answer more before' now'
others_dont_matter g s other kept later limit most text n view reply answer given more before now before' now' first asks is agrees same second = (two ∙ sym one, once)
  where
    here : derived g other (after (kept_outcome kept) given) n ≡ Some view
    here = sources_enough g s other (after (kept_outcome kept) given) n same view is

    there : derived g other (kept_outcome later) n ≡ Some view
    there = derive_more g other (after (kept_outcome kept) given) (kept_outcome later) agrees height_limit n view here

    once : IsAnsweredAtOnce g other later most text answer more before' now'
    once = at_once g other later most text (shown g view) answer more before' now' (Answer.object text n view asks there) second

    one : reply ≡ shown g view
    one = founded_shown g s (after (kept_outcome kept) given) text reply n view asks is (first.answer (after (kept_outcome kept) given) (itself (after (kept_outcome kept) given)))

    two : answer ≡ shown g view
    two = founded_shown g other (kept_outcome later) text answer n view asks there (by_kept g other later most text answer more before' now' once)
