-- Heights and calls stay as more outcomes come.
use Rattle.std.proofs.Common.{◌≡◌, ℕ, zero, suc, ◌≤◌, inl, inr, sym, ap, ◌∙◌, subst, refl, is_some, arith}
use Rattle.std.specs.Prelude.{Option, Some, None, IsSome, option_map}
use Rattle.object_values.specs.declared.nodes.Node.{Node}
use Rattle.object_values.specs.declared.views.View.{View}
use Rattle.object_values.specs.declared.calls.Call.{Call}
use Rattle.object_values.specs.declared.calls.Outcome.{Outcome}
use Rattle.meaning_texts.specs.Limits.{height_limit}
use Rattle.meaning_graph.specs.Graphs.{Graph}
use Rattle.meaning_texts.specs.Lists.{IsIn}
use Rattle.meaning_texts.proofs.Lemmas.{some_or_none, some_is_none, value_of_some, same_some}
use Rattle.meaning_tasks.specs.Needs.{Results}
use Rattle.meaning_tasks.specs.Laws.{AgreeAt}
use Rattle.meaning_tasks.proofs.Lemmas.{one_list_of_needs, carry, one_call}
use Rattle.meaning_derive.specs.Derive.{Sources, text_of, Outcomes, outcome_for, derive, HasHeight}
use Rattle.meaning_derive.specs.Calls.{IsFrontier}
use Rattle.meaning_derive.specs.Laws.{HasMore, IsSettled}
use Rattle.meaning_derive.proofs.Steps.{derive_more, grows_to}
use Rattle.meaning_derive.proofs.Heights.{as_settled, from_settled}
use Rattle.meaning_derive.proofs.Stay.{kept}

module _ (g : Graph) (s : Sources) (outcomes more : Outcomes) (has : HasMore outcomes more) where
  abbrev few : ℕ → Results
  few h = derive g s outcomes h

  abbrev many : ℕ → Results
  many h = derive g s more h

  same_outcome : (c : Option Call) (o q : Option Outcome) → outcome_for outcomes c ≡ Some o → outcome_for more c ≡ Some q → q ≡ o
  same_outcome None o q e f = same_some (sym f ∙ e)
  same_outcome (Some c) o q e f = by_outcome (outcomes c) refl e
    where
      by_outcome : (r : Option Outcome) → outcomes c ≡ r → option_map (λ o. Some o) r ≡ Some o → q ≡ o
      by_outcome None d e = cc
      by_outcome (Some r) d e = same_some (sym f ∙ ap (option_map (λ o. Some o)) (has c r d) ∙ e)

  module _ (p : ℕ) (lp : p ≤ height_limit) (n : Node) (v : View) (e : few (suc p) n ≡ Some v) (k : ℕ) (lk : k ≤ height_limit) (w : View) (f : many (suc k) n ≡ Some w) where
    below : IsSettled g s outcomes p n v
    below = as_settled g s outcomes p n v e

    above : IsSettled g s more k n w
    above = as_settled g s more k n w f

    -- the needs over few are those over many
    low_agree : AgreeAt (few p) (many height_limit) below.needs
    low_agree m i = let u = value_of_some (few p m) (below.known m i) in u.1 ∙ sym (grows_to g s more p height_limit lp m u.0 (derive_more g s outcomes more has p m u.0 u.1))

    high_agree : AgreeAt (many k) (many height_limit) above.needs
    high_agree m i = let u = value_of_some (many k m) (above.known m i) in u.1 ∙ sym (grows_to g s more k height_limit lk m u.0 u.1)

    same_needs : above.needs ≡ below.needs
    same_needs = one_list_of_needs g n (many height_limit) above.needs below.needs (carry g (text_of s) n (many k) (many height_limit) above.needs above.listed high_agree).needs (carry g (text_of s) n (few p) (many height_limit) below.needs below.listed low_agree).needs

    had : (m : Node) → IsIn m above.needs → (u : View) × (few p m ≡ Some u)
    had m i = value_of_some (few p m) (below.known m (subst (λ l. IsIn m l) same_needs i))

    same_call : below.call ≡ above.call
    same_call = one_call g n (many height_limit) below.call above.call
        ((carry g (text_of s) n (few p) (many height_limit) below.needs below.listed low_agree).call below.call below.called)
        ((carry g (text_of s) n (many k) (many height_limit) above.needs above.listed high_agree).call above.call above.called)

    given : outcome_for outcomes above.call ≡ Some above.outcome
    given =
        let low : outcome_for outcomes above.call ≡ Some below.outcome = subst (λ c. outcome_for outcomes c ≡ Some below.outcome) same_call below.given in
        low ∙ ap Some (sym (same_outcome above.call below.outcome above.outcome low above.given))

    lowered : ((m : Node) → IsIn m above.needs → (u : View) → many k m ≡ Some u → few k m ≡ Some u) → few (suc k) n ≡ Some w
    lowered lower =
        let agree : AgreeAt (many k) (few k) above.needs = λ m i. let u = value_of_some (many k m) (above.known m i) in u.1 ∙ sym (lower m i u.0 u.1) in
        let c = carry g (text_of s) n (many k) (few k) above.needs above.listed agree in
        from_settled g s outcomes k n w (record {
          needs = above.needs;
          listed = c.needs;
          known = λ m i. subst IsSome (agree m i) (above.known m i);
          call = above.call;
          called = c.call above.call above.called;
          outcome = above.outcome;
          given = given;
          settles = c.settles above.outcome w above.settles;
        })

  pub height_stays : (k h : ℕ) → h ≤ height_limit → k ≤ height_limit → (n : Node) (v w : View) → few h n ≡ Some v → many k n ≡ Some w → few k n ≡ Some w
  unfolding derive
  height_stays zero h lh lk n v w e f = cc
  height_stays (suc k) zero lh lk n v w e f = cc
  height_stays (suc k) (suc p) lh lk n v w e f =
      lowered p (omega (arith, lh)) n v e k (omega (arith, lk)) w f (λ m i u q.
      let d = had p (omega (arith, lh)) n v e k (omega (arith, lk)) w f m i in
      height_stays k p (omega (arith, lh)) (omega (arith, lk)) m d.0 u d.1 q)

  pub same_height : (n : Node) (h : ℕ) → h ≤ height_limit → HasHeight g s outcomes n h → HasHeight g s more n h
  same_height n h le p =
      let v = value_of_some (few h n) p.there in
      record {
        there = ap is_some (derive_more g s outcomes more has h n v.0 v.1);
        least = λ k low. elim (some_or_none (many k n)) [
          | inl w ↦ some_is_none (few k n) w.0 (height_stays k h le (omega (arith, le, low)) n v.0 w.0 v.1 w.1) (p.least k low)
          | inr q ↦ q
        ];
      }

  pub frontier_stays : (n : Node) (call : Call) → IsFrontier g s outcomes n call → more call ≡ None → IsFrontier g s more n call
  frontier_stays n call f none = record { from = (kept g s outcomes more has n).calls call f.from; outside = none }
