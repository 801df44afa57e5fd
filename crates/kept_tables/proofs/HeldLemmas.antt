-- Kept calls as they are held: what is found of a call by its key.
use Rattle.std.proofs.Common.{◌≡◌, Bool, true, false, cond, List, [], ◌∷◌, ◌++◌, inl, inr, ap, sym, ◌∙◌, subst, refl, true≢false}
use Rattle.std.specs.Prelude.{Option, Some, None, IsNone, All, is_some, option_map}
use Rattle.std.specs.Bool.{Decides}
use Rattle.std.specs.Map.{lookup}
use Rattle.std.proofs.lemmas.List.{map-append}
use Rattle.std.proofs.lemmas.List.Elements.{All-head, All-map, All-push, All-tail, All-weaker}
use Rattle.std.proofs.lemmas.Option.{none-some}
use Rattle.object_values.specs.Exact.{call_exact}
use Rattle.object_values.specs.declared.calls.Call.{Call}
use Rattle.object_values.specs.declared.calls.Outcome.{Outcome}
use Rattle.object_values.specs.contracts.calls.CallPartialEq.TheImpl.{ghosts as call_eq}
use Rattle.meaning_records.specs.Tables.{kept_outcome}
use Rattle.kept_contents.specs.declared.head.CallHead.{CallHead}
use Rattle.kept_contents.specs.declared.keys.CallKey.{CallKey}
use Rattle.kept_contents.specs.contracts.keys.CallKeyPartialEq.TheImpl.{ghosts as key_eq}
use Rattle.content_store.specs.Bodies.{Bodies}
use Rattle.kept_contents.specs.declared.held.HeldCall.{HeldCall}
use Rattle.kept_contents.specs.Borrowed.{key_of}
use Rattle.kept_contents.specs.Heads.{AreMore}
use Rattle.kept_contents.specs.Held.{IsHeld}
use Rattle.kept_contents.specs.Inputs.{AreHeldParts}
use Rattle.kept_contents.specs.Keys.{IsKeyOf, IsUnheld, key_exact, marks_of}
use Rattle.kept_contents.specs.Stocks.{IsGrownFrom}
use Rattle.kept_contents.proofs.Lemmas.{heads_not, key_grown, marks_grown, one_call_of, one_key}
use Rattle.content_store.specs.Marks.{Finds, IsIndex, KeepsNumbers}
use Rattle.content_store.proofs.Lemmas.{index_kept}
use Rattle.kept_tables.specs.declared.call_table.Entry.{Entry}
use Rattle.kept_tables.specs.declared.call_table.CallTable.{CallTable}
use Rattle.kept_tables.specs.Calls.{IsCallIndex, key_at}
use Rattle.kept_tables.specs.Holdings.{IsKept, IsKeptIn, kept_call_of, kept_calls_of}
use Rattle.kept_tables.proofs.TableLemmas.{Entries, all_at, entry_of}

is_none : {V : Type 0} (o : Option V) → IsNone o → o ≡ None
is_none None h = refl
is_none (Some v) h = absurd (true≢false h)

abbrev pub outcome_in : Option Entry → Option Outcome
outcome_in = option_map (λ (e : Entry). e.outcome)

pub some_found : {A B : Type 0} (f : A → B) (o : Option A) (p : Option B) → option_map f o ≡ p → is_some o ≡ is_some p
some_found f None p e = ap is_some e
some_found f (Some x) p e = ap is_some e

pub some_outcome : (found : Option Entry) → is_some found ≡ is_some (outcome_in found)
some_outcome None = refl
some_outcome (Some e) = refl

pub same_pair : (a b : Call) (x y : Outcome) → a ≡ b → x ≡ y → ◌≡◌ {A = Option (Call × Outcome)} (Some (a, x)) (Some (b, y))
same_pair a b x y call outcome = ap (λ (d : Call). Some (d, x)) call ∙ ap (λ (o : Outcome). Some (b, o)) outcome

same_tests : {P Q : Type 0} (a b : Bool) → Decides a P → Decides b Q → (P → Q) → (Q → P) → a ≡ b
same_tests true true p q to from = refl
same_tests true false p q to from = sym (q.1 (to (p.0 refl)))
same_tests false true p q to from = p.1 (from (q.0 refl))
same_tests false false p q to from = refl

-- ---- heads and texts more

abbrev pub AreHeldCalls : List CallHead → Bodies → CallTable → Type 0
AreHeldCalls heads texts calls = All (IsKeptIn heads texts) calls.entries.items × IsCallIndex texts calls

pub kept_grown : (old new : List CallHead) (before after : Bodies) (calls : CallTable) → AreMore old new → IsGrownFrom before after → AreHeldCalls old before calls → AreHeldCalls new after calls
kept_grown old new before after calls more grown kept =
    let entries = calls.entries.items in (
      All-weaker (IsKeptIn old before) (IsKeptIn new after) (λ e k. (key_grown old new before after e.0 (kept_call_of e).0 more grown k.0, k.1)) entries kept.0,
      record {
        once = kept.1.once;
        found = λ i key at.
            let e = entry_of entries i key at in
            let is = (all_at (IsKeptIn old before) entries i e.0 kept.0 e.1).0 in
            let held = subst (AreHeldParts before) (sym is.parts ∙ ap (λ (k : CallKey). k.parts) e.2) is.held in
            subst (λ marks. Finds calls.marks marks i) (sym (marks_grown before after key grown held)) (kept.1.found i key at);
      },
    )

-- the heads as they are
pub kept_texts : (heads : List CallHead) (before after : Bodies) (calls : CallTable) → IsGrownFrom before after → AreHeldCalls heads before calls → AreHeldCalls heads after calls
kept_texts heads before after calls grown kept = kept_grown heads heads before after calls (heads_not heads) grown kept

-- what finds the same
pub kept_alike : (heads : List CallHead) (texts : Bodies) (before after : CallTable) → after.entries.items ≡ before.entries.items → KeepsNumbers before.marks after.marks → AreHeldCalls heads texts before → AreHeldCalls heads texts after
kept_alike heads texts before after same kept are = (
  subst (All (IsKeptIn heads texts)) (sym same) are.0,
  subst (λ (entries : Entries). IsIndex (key_at entries) (marks_of texts) after.marks) (sym same) (index_kept (key_at before.entries.items) (marks_of texts) before.marks after.marks are.1 kept),
)

pub held_grown : (heads : List CallHead) (before after : Bodies) (held : HeldCall) → IsGrownFrom before after → IsHeld heads before held → IsHeld heads after held
held_grown heads before after held grown is = key_grown heads heads before after (key_of held) held.call (heads_not heads) grown is

pub all_kept : (heads : List CallHead) (texts : Bodies) (entries : Entries) → All (IsKeptIn heads texts) entries → All IsKept (kept_calls_of entries)
all_kept heads texts entries kept = All-map IsKept kept_call_of entries (All-weaker (IsKeptIn heads texts) (λ e. IsKept (kept_call_of e)) (λ e k. k.1) entries kept)

module _ (heads : List CallHead) (texts : Bodies) where
  -- calls that are held are the same where their keys are
  key_tells : (x y : CallKey) (a b : Call) → IsKeyOf heads texts x a → IsKeyOf heads texts y b → key_eq.eq x y ≡ call_eq.eq a b
  key_tells x y a b p q = same_tests (key_eq.eq x y) (call_eq.eq a b) (key_exact x y) (call_exact a b) (λ same. one_call_of heads texts y a b (subst (λ (k : CallKey). IsKeyOf heads texts k a) same p) q) (λ same. one_key heads texts x y b (subst (λ (d : Call). IsKeyOf heads texts x d) same p) q)

  -- ---- what is found

  pub looked : (entries : Entries) (key : CallKey) (call : Call) → All (IsKeptIn heads texts) entries → IsKeyOf heads texts key call → outcome_in (lookup (key_eq.eq key) entries) ≡ kept_outcome (kept_calls_of entries) call
  looked [] key call kept is = refl
  looked (e ∷ es) key call kept is = by_test (key_eq.eq key e.0) (key_tells key e.0 call (kept_call_of e).0 is (All-head (IsKeptIn heads texts) e es kept).0) (looked es key call (All-tail (IsKeptIn heads texts) e es kept) is)
    where
      by_test : (t : Bool) → t ≡ call_eq.eq call (kept_call_of e).0 → outcome_in (lookup (key_eq.eq key) es) ≡ kept_outcome (kept_calls_of es) call → outcome_in (cond t (Some e.1) (lookup (key_eq.eq key) es)) ≡ cond (call_eq.eq call (kept_call_of e).0) (Some e.1.outcome) (kept_outcome (kept_calls_of es) call)
      by_test true same rest = ap (λ b. cond b (Some e.1.outcome) (kept_outcome (kept_calls_of es) call)) same
      by_test false apart rest = rest ∙ ap (λ b. cond b (Some e.1.outcome) (kept_outcome (kept_calls_of es) call)) apart

  -- of a call whose head, or a text of whose inputs, isn't held
  pub not_held : (entries : Entries) (call : Call) → All (IsKeptIn heads texts) entries → IsUnheld heads texts call → kept_outcome (kept_calls_of entries) call ≡ None
  not_held [] call kept none = refl
  not_held (e ∷ es) call kept none = by_test (call_eq.eq call (kept_call_of e).0) refl (not_held es call (All-tail (IsKeptIn heads texts) e es kept) none)
    where
      by_test : (b : Bool) → call_eq.eq call (kept_call_of e).0 ≡ b → kept_outcome (kept_calls_of es) call ≡ None → cond b (Some e.1.outcome) (kept_outcome (kept_calls_of es) call) ≡ None
      by_test true same rest =
          let is = subst (λ (d : Call). IsKeyOf heads texts e.0 d) (sym ((call_exact call (kept_call_of e).0).0 same)) (All-head (IsKeptIn heads texts) e es kept).0 in
          elim none [
            | inl head ↦ absurd (none-some e.0.head (sym head ∙ is.head))
            | inr text ↦ absurd (text is.held)
          ]
      by_test false apart rest = rest

  -- ---- a call more

  none_there : (found : Option Entry) → outcome_in found ≡ None → found ≡ None
  none_there None none = refl
  none_there (Some e) none = absurd (none-some e.outcome (sym none))

  pub not_kept_yet : (entries : Entries) (key : CallKey) (call : Call) → All (IsKeptIn heads texts) entries → IsKeyOf heads texts key call → IsNone (kept_outcome (kept_calls_of entries) call) → lookup (key_eq.eq key) entries ≡ None
  not_kept_yet entries key call kept is new = none_there (lookup (key_eq.eq key) entries) (looked entries key call kept is ∙ is_none _ new)

  pub kept_push : (entries : Entries) (key : CallKey) (entry : Entry) → All (IsKeptIn heads texts) entries → IsKeyOf heads texts key (kept_call_of (key, entry)).0 → IsKept (kept_call_of (key, entry)) → All (IsKeptIn heads texts) (entries ++ (key, entry) ∷ [])
  kept_push entries key entry kept is fits = All-push (IsKeptIn heads texts) entries (key, entry) kept (is, fits)

pub calls_push : (entries : Entries) (key : CallKey) (entry : Entry) → kept_calls_of (entries ++ (key, entry) ∷ []) ≡ kept_calls_of entries ++ kept_call_of (key, entry) ∷ []
calls_push entries key entry = map-append kept_call_of entries ((key, entry) ∷ [])
