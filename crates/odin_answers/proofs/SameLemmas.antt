-- A text has one answer, but for the choice of the chain; and where the same calls are kept, the same are run for it.
use Rattle.std.proofs.Common.{◌≡◌, ◌⊎◌, ℕ, Bool, true, false, cond, [], ◌∷◌, ◌++◌, append-nil, ap, refl, sym, ◌∙◌, subst, inl, inr, is_some}
use Rattle.std.specs.Prelude.{Option, Some, None, IsSome}
use Rattle.object_values.specs.declared.nodes.Node.{Node}
use Rattle.object_values.specs.declared.calls.Call.{Call}
use Rattle.object_values.specs.declared.calls.Outcome.{Outcome}
use Rattle.object_values.specs.contracts.calls.CallPartialEq.TheImpl.{ghosts as call_eq}
use Rattle.object_values.specs.Exact.{call_exact}
use Rattle.odin_outside.specs.Spawned.{Table, Spawned}
use Rattle.meaning_texts.specs.Lists.{IsIn}
use Rattle.meaning_graph.specs.Graphs.{Text, Graph}
use Rattle.meaning_derive.specs.Derive.{Sources, derived, IsFounded}
use Rattle.meaning_derive.specs.Calls.{IsCallFrom}
use Rattle.meaning_derive.specs.Given.{table_outcomes}
use Rattle.meaning_derive.specs.Laws.{HasMore}
use Rattle.meaning_records.specs.Tables.{Calls, kept_outcome}
use Rattle.object_values.specs.declared.replies.Reply.{Reply}
use Rattle.meaning_derive.specs.Answers.{Asks, Answer, Refused}
use Rattle.meaning_derive.specs.AnswerLaws.{ShowsChain, circular_chain, deep_chain, BothShowChains}
use Rattle.meaning_derive.proofs.Lemmas.{not_refused, one_node, one_answer}
use Rattle.plain_derive.specs.Given.{calls_of}
use Rattle.plain_derive.proofs.Lemmas.{given_are_true, given_is_in}
use Rattle.odin_answers.specs.Answers.{Agrees, IsLeftAlone, IsDerived, HasAnswer}
use Rattle.odin_answers.specs.Laws.{IsTrueFor, KeepSame, RunSame, AreSameAnswers}
use Rattle.odin_answers.proofs.CountLemmas.{derived_flown}
use Rattle.odin_answers.proofs.OnceLemmas.{its_own, come_by, kept_or_given, reply_true, fresh}

-- ---- what is kept of a call after more calls

pub kept_first : (kept given : Calls) (call : Call) (o : Outcome) → kept_outcome kept call ≡ Some o → kept_outcome (kept ++ given) call ≡ Some o
kept_first [] given call o e = absurd (let no : ⊥ = cc in no)
kept_first (x ∷ kept) given call o e = by_test (call_eq.eq call x.0) e (kept_first kept given call o)
  where
    by_test : (b : Bool) → cond b (Some x.1) (kept_outcome kept call) ≡ Some o → (kept_outcome kept call ≡ Some o → kept_outcome (kept ++ given) call ≡ Some o) → cond b (Some x.1) (kept_outcome (kept ++ given) call) ≡ Some o
    by_test true e more = e
    by_test false e more = more e

given_there : (given : Calls) (call : Call) → IsIn call (calls_of given) → IsSome (kept_outcome given call)
given_there [] call i = absurd i
given_there (x ∷ given) call i = by_test (call_eq.eq call x.0) refl (given_there given call)
  where
    by_test : (b : Bool) → call_eq.eq call x.0 ≡ b → (IsIn call (calls_of given) → IsSome (kept_outcome given call)) → IsSome (cond b (Some x.1) (kept_outcome given call))
    by_test true same more = refl
    by_test false other more = elim i [
      | inl e ↦ let yes : call_eq.eq call x.0 ≡ true = (call_exact call x.0).1 e in absurd (let no : ⊥ = cc in no)
      | inr j ↦ more j
    ]

-- a call that was given an outcome is kept after the others
given_behind : (kept given : Calls) (call : Call) → IsIn call (calls_of given) → IsSome (kept_outcome (kept ++ given) call)
given_behind [] given call i = given_there given call i
given_behind (x ∷ kept) given call i = by_test (call_eq.eq call x.0) (given_behind kept given call i)
  where
    by_test : (b : Bool) → IsSome (kept_outcome (kept ++ given) call) → IsSome (cond b (Some x.1) (kept_outcome (kept ++ given) call))
    by_test true there = refl
    by_test false there = there

call_in : (given : Calls) (call : Call) (o : Outcome) → IsIn (call, o) given → IsIn call (calls_of given)
call_in [] call o i = absurd i
call_in (x ∷ given) call o (inl e) = inl (ap (λ (p : Call × Outcome). p.0) e)
call_in (x ∷ given) call o (inr j) = inr (call_in given call o j)

-- a call that is kept after others was one of them, or was given an outcome
pub kept_by_either : (kept given : Calls) (call : Call) → IsSome (kept_outcome (kept ++ given) call) → IsSome (kept_outcome kept call) ⊎ IsIn call (calls_of given)
kept_by_either kept given call there = by_outcome (kept_outcome (kept ++ given) call) refl there
  where
    by_outcome : (x : Option Outcome) → kept_outcome (kept ++ given) call ≡ x → IsSome x → IsSome (kept_outcome kept call) ⊎ IsIn call (calls_of given)
    by_outcome (Some o) e there = elim (kept_or_given kept given call o e) [
      | inl was ↦ inl (ap is_some was)
      | inr is ↦ inr (call_in given call o (given_is_in given call o is))
    ]
    by_outcome None e there = absurd (let no : ⊥ = cc in no)

some_is_none : (x : Option Outcome) → IsSome x → x ≡ None → ⊥
some_is_none (Some o) there none = cc
some_is_none None there none = let no : ⊥ = cc in no

-- ---- the same calls are run

module _ (g : Graph) (table : Table) (s : Sources) (limit most : ℕ) (text : Text) (n : Node) (founded : IsFounded g s (table_outcomes table) n) where
  -- each call of the one derivation that is not kept is given an outcome in the other
  given_also : (kept kept' given given' : Calls) (before now before' now' : Spawned) → IsTrueFor table before kept → IsTrueFor table before' kept'
      → (d : IsDerived g s kept limit text given before now) → d.node ≡ n → (e : IsDerived g s kept' most text given' before' now') → e.node ≡ n
      → KeepSame kept kept' → (call : Call) → IsIn call (calls_of given) → IsIn call (calls_of given')
  given_also kept kept' given given' before now before' now' right right' d d_node e e_node same call i =
      let d_is = derived_flown g s kept limit text given before now d in
      let e_is = derived_flown g s kept' most text given' before' now' e in
      let own = its_own g s kept limit text given before now d in
      let other = its_own g s kept' most text given' before' now' e in
      let agrees : Agrees kept given (table_outcomes table) = given_are_true table (kept_outcome kept) given right.gives (come_by table before given right.told d_is.came) in
      let agrees' : Agrees kept' given' (table_outcomes table) = given_are_true table (kept_outcome kept') given' right'.gives (come_by table before' given' right'.told e_is.came) in
      elim (other.all (table_outcomes table) agrees' (subst (IsFounded g s (table_outcomes table)) (sym e_node) founded) call
      (subst (λ m. IsCallFrom g (derived g s (table_outcomes table)) m call) (d_node ∙ sym e_node) (own.only (table_outcomes table) agrees call i))) [
        | inl there ↦ absurd (some_is_none (kept_outcome kept call) (subst IsSome (same call) there) (own.new call i))
        | inr j ↦ j
      ]

-- what is kept after the one is kept after the other
also_there : (kept kept' given given' : Calls) → KeepSame kept kept' → ((call : Call) → IsIn call (calls_of given) → IsIn call (calls_of given')) → (call : Call) (o : Outcome) → kept_outcome (kept ++ given) call ≡ Some o
    → IsSome (kept_outcome (kept' ++ given') call)
also_there kept kept' given given' same also call o e = elim (kept_or_given kept given call o e) [
  | inl there ↦ ap is_some (kept_first kept' given' call o (same call ∙ there))
  | inr there ↦ given_behind kept' given' call (also call (call_in given call o (given_is_in given call o there)))
]

-- what is kept after the same calls is the same, where both are what the table gives
module _ (table : Table) (kept kept' given given' : Calls) (right : HasMore (kept_outcome (kept ++ given)) (table_outcomes table)) (right' : HasMore (kept_outcome (kept' ++ given')) (table_outcomes table)) where
  keep_same : KeepSame kept kept' → ((call : Call) → IsIn call (calls_of given) → IsIn call (calls_of given')) → ((call : Call) → IsIn call (calls_of given') → IsIn call (calls_of given)) → KeepSame (kept ++ given) (kept' ++ given')
  keep_same same also back call = by_both (kept_outcome (kept ++ given) call) (kept_outcome (kept' ++ given') call) refl refl
    where
      by_both : (x y : Option Outcome) → kept_outcome (kept ++ given) call ≡ x → kept_outcome (kept' ++ given') call ≡ y → y ≡ x
      by_both None None e f = refl
      by_both (Some o) (Some p) e f = sym (right' call p f) ∙ right call o e
      by_both (Some o) None e f = absurd (some_is_none (kept_outcome (kept' ++ given') call) (also_there kept kept' given given' same also call o e) f)
      by_both None (Some p) e f = absurd (some_is_none (kept_outcome (kept ++ given) call) (also_there kept' kept given' given (λ c. sym (same c)) back call p f) e)

-- nothing is run for either
none_run : (kept kept' given given' : Calls) → given ≡ [] → given' ≡ [] → KeepSame kept kept' → RunSame kept kept' given given'
none_run kept kept' given given' none none' same =
    subst (λ l. RunSame kept kept' l given') (sym none)
    (subst (λ l. RunSame kept kept' [] l) (sym none') (record {
      calls = λ call. ((λ i. absurd i), (λ i. absurd i));
      keep = λ call. ap (λ l. kept_outcome l call) (append-nil kept') ∙ same call ∙ sym (ap (λ l. kept_outcome l call) (append-nil kept));
    }))

-- ---- one answer

module _ (g : Graph) (table : Table) (s : Sources) (kept kept' : Calls) (limit most : ℕ) (text : Text) (reply other : Reply) (given given' : Calls) (before now before' now' : Spawned) (right : IsTrueFor table before kept) (right' : IsTrueFor table before' kept') where
  run_same : (n : Node) → IsFounded g s (table_outcomes table) n → Asks g text n → (d : IsDerived g s kept limit text given before now) → (e : IsDerived g s kept' most text given' before' now')
      → HasMore (kept_outcome (kept ++ given)) (table_outcomes table) → HasMore (kept_outcome (kept' ++ given')) (table_outcomes table) → KeepSame kept kept' → RunSame kept kept' given given'
  run_same n founded asks d e gives gives' same =
      let d_node : d.node ≡ n = one_node g text n d.node asks d.asks in
      let e_node : e.node ≡ n = one_node g text n e.node asks e.asks in
      let also = given_also g table s limit most text n founded kept kept' given given' before now before' now' right right' d d_node e e_node same in
      let back = given_also g table s most limit text n founded kept' kept given' given before' now' before now right' right e e_node d d_node (λ c. sym (same c)) in
      record { calls = λ call. (also call, back call); keep = keep_same table kept kept' given given' gives gives' same also back }

  module _ (a : HasAnswer g s kept limit text reply given before now) (b : HasAnswer g s kept' most text other given' before' now') where
    gives : HasMore (kept_outcome (kept ++ given)) (table_outcomes table)
    gives = let kept_true = reply_true g table s kept limit text before now right reply given (inl a) in kept_true.gives

    gives' : HasMore (kept_outcome (kept' ++ given')) (table_outcomes table)
    gives' = let kept_true = reply_true g table s kept' most text before' now' right' other given' (inl b) in kept_true.gives

    -- a text of a node with a result
    founded_run : (n : Node) → IsFounded g s (table_outcomes table) n → Asks g text n → IsLeftAlone g text reply given before now ⊎ IsDerived g s kept limit text given before now
        → IsLeftAlone g text other given' before' now' ⊎ IsDerived g s kept' most text given' before' now' → KeepSame kept kept' → RunSame kept kept' given given'
    founded_run n founded asks (inl alone) did' same = absurd (not_refused g text reply n asks alone.refused)
    founded_run n founded asks (inr d) (inl alone) same = absurd (not_refused g text other n asks alone.refused)
    founded_run n founded asks (inr d) (inr e) same = run_same n founded asks d e gives gives' same

    -- a refused text
    refused_run : (said : Reply) → Refused g text said → IsLeftAlone g text reply given before now ⊎ IsDerived g s kept limit text given before now
        → IsLeftAlone g text other given' before' now' ⊎ IsDerived g s kept' most text given' before' now' → KeepSame kept kept' → RunSame kept kept' given given'
    refused_run said refused (inl alone) (inl alone') same = none_run kept kept' given given' alone.none alone'.none same
    refused_run said refused (inr d) did' same = absurd (not_refused g text said d.node d.asks refused)
    refused_run said refused (inl alone) (inr e) same = absurd (not_refused g text said e.node e.asks refused)

    with_run : (KeepSame kept kept' → RunSame kept kept' given given') → (other ≡ reply) ⊎ BothShowChains g s (table_outcomes table) text reply other
        → AreSameAnswers kept kept' given given' reply other ⊎ BothShowChains g s (table_outcomes table) text reply other
    with_run run (inl is) = inl (record { same = is; run = run })
    with_run run (inr chains) = inr chains

    both_chained : (n : Node) → Asks g text n → ShowsChain g s (table_outcomes table) n reply → (other ≡ reply) ⊎ BothShowChains g s (table_outcomes table) text reply other → BothShowChains g s (table_outcomes table) text reply other
    both_chained n asks shows (inl is) = record { node = n; asked = asks; one = shows; another = subst (ShowsChain g s (table_outcomes table) n) (sym is) shows }
    both_chained n asks shows (inr chains) = chains

    by_answer : (said : Reply) → said ≡ reply → Answer g s (table_outcomes table) text said → (other ≡ reply) ⊎ BothShowChains g s (table_outcomes table) text reply other
        → AreSameAnswers kept kept' given given' reply other ⊎ BothShowChains g s (table_outcomes table) text reply other
    by_answer said same (Answer.refused _ _ refused) either = with_run (refused_run said refused a.did b.did) either
    by_answer said same (Answer.object _ n view asks is) either = with_run (founded_run n (ap is_some is) asks a.did b.did) either
    by_answer said same (Answer.circular _ n chain asks is) either = inr (both_chained n asks (subst (ShowsChain g s (table_outcomes table) n) same (circular_chain chain is)) either)
    by_answer said same (Answer.deep _ n chain asks is) either = inr (both_chained n asks (subst (ShowsChain g s (table_outcomes table) n) same (deep_chain chain is)) either)

    pub same_answers : AreSameAnswers kept kept' given given' reply other ⊎ BothShowChains g s (table_outcomes table) text reply other
    same_answers =
        let one = fresh g table s kept limit text before now right reply given a in
        by_answer reply refl one (one_answer g s (table_outcomes table) text reply other one (fresh g table s kept' most text before' now' right' other given' b))
