use Rattle.std.proofs.Common.{◌≡◌, inl, inr, ℕ, List, [], ◌∷◌, length, Some, All, refl, ap, subst, arith, codes}
use Rattle.std.proofs.lemmas.List.Elements.{All-nil, All-cons, All-head}
use Rattle.object_values.specs.Texts.{Text}
use Rattle.meaning_texts.specs.Lists.{IsIn}
use Rattle.meaning_records.specs.Tables.{IsNoText}
use Rattle.meaning_records.specs.Batches.{EachTextOnce, needed_texts}
use Rattle.meaning_records.specs.ItemExamples.{stored_call, call, ex_made_outcome, made_outcome}
use Rattle.meaning_records.specs.BatchExamples.{contents, known, fresh, unneeded}
use Rattle.meaning_records.proofs.NewTexts.{fresh_is_none, one_added, two_added}
use Rattle.meaning_records.proofs.examples.batches_of_calls.Goals as goal

abbrev Needs : Text → Text → Type 0
Needs body text = IsIn text (needed_texts (call (Some body)) made_outcome)

no_empty_text : (text : Text) → ◌≡◌ {A = ℕ} 3 (length text) → ◌≡◌ {A = Text} [] text → ⊥
no_empty_text text size none = let also : 0 ≡ length text = ap length none in omega (arith, size, also)

not_needed : ¬ Needs known unneeded
not_needed (inl same) = no_empty_text known refl same
not_needed (inr (inl same)) = no_empty_text known refl same
not_needed (inr (inr (inl same))) = no_empty_text known refl same
not_needed (inr (inr (inr none))) = none

pub returns : goal.returns
returns c = record {
  of_known = record {
    added = [];
    once = tt;
    needed = All-nil (Needs known);
    new = All-nil (IsNoText contents);
    stored = stored_call (codes "cc") (Some 0);
    given = ex_made_outcome;
    called = record { tool = refl; version = refl; words = refl; params = refl; parts = (record { slot = refl; label = refl; body = refl }, tt); outs = refl };
    came = record { status = refl; lines = refl; outputs = (record { name = refl; body = refl }, (record { name = refl; body = refl }, tt)) };
    items_are = refl;
  };
  of_fresh = record {
    added = fresh ∷ [];
    once = (λ none. none, tt);
    needed = All-cons (Needs fresh) fresh [] (inl refl) (All-nil (Needs fresh));
    new = All-cons (IsNoText contents) fresh [] fresh_is_none (All-nil (IsNoText contents));
    stored = stored_call (codes "cc") (Some 2);
    given = ex_made_outcome;
    called = record { tool = refl; version = refl; words = refl; params = refl; parts = (record { slot = refl; label = refl; body = refl }, tt); outs = refl };
    came = record { status = refl; lines = refl; outputs = (record { name = refl; body = refl }, (record { name = refl; body = refl }, tt)) };
    items_are = refl;
  };
  known_again = λ b.
      let added : b.added ≡ known ∷ [] = one_added known (stored_call (codes "cc") (Some 0)) b.stored ex_made_outcome b.given b.added b.items_are in
      All-head (IsNoText contents) known [] (subst (λ (l : List Text). All (IsNoText contents) l) added b.new) 0 refl;
  not_needed = λ b.
      let added : b.added ≡ unneeded ∷ [] = one_added unneeded (stored_call (codes "cc") (Some 0)) b.stored ex_made_outcome b.given b.added b.items_are in
      not_needed (All-head (Needs known) unneeded [] (subst (λ (l : List Text). All (Needs known) l) added b.needed));
  twice = λ b.
      let added : b.added ≡ fresh ∷ fresh ∷ [] = two_added fresh fresh (stored_call (codes "cc") (Some 2)) b.stored ex_made_outcome b.given b.added b.items_are in
      (subst EachTextOnce added b.once).0 (inl refl);
}
