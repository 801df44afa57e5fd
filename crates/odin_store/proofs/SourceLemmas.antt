-- The sources of a store are names with texts that are not too long, whatever its file had.
use Rattle.std.proofs.Common.{◌≡◌, ◌≢◌, ℕ, ◌≤◌, Bool, true, false, List, [], ◌∷◌, length, Some, None, All, ap, sym, refl, ◌∙◌, subst}
use Rattle.std.specs.FinMap.{get, insert, remove, get-empty}
use Rattle.std.specs.Str.{bytes_eq}
use Rattle.std.proofs.lemmas.Slice.Eq.{bytes_eq-Decides}
use Rattle.std.proofs.lemmas.Option.{slice_get_within, get_or_from_slice_get}
use Rattle.std.proofs.lemmas.List.Elements.{All-nil, All-push, All-get_or}
use Rattle.object_values.specs.declared.views.Value.{Value}
use Rattle.object_values.specs.declared.views.Value.TheVariants.{Simple}
use Rattle.object_values.specs.Texts.{Text, Texts, no_texts}
use Rattle.object_values.specs.Gets.{put_here, put_other, remove_here, remove_other}
use Rattle.meaning_texts.specs.Classes.{IsName}
use Rattle.meaning_texts.specs.Limits.{body_limit}
use Rattle.meaning_derive.specs.Given.{IsSource, AreSources}
use Rattle.object_values.specs.declared.items.Item.{Item}
use Rattle.object_values.specs.declared.items.Item.TheVariants.{Graph, Content, Put, Dropped, Kept, Node}
use Rattle.meaning_records.specs.Tables.{Tables, IsShort, IsText}
use Rattle.meaning_records.specs.States.{State, nothing, TakesOne, TakesAll, ReadsAll}

-- ---- edits

pub put_stays : (old : Texts) (name text : Text) → AreSources old → IsName name → length text ≤ body_limit → AreSources (insert old name text)
put_stays old name text are named short q t is = by (bytes_eq q name) refl
  where
    by : (b : Bool) → bytes_eq q name ≡ b → IsSource q t
    by true e =
        let same : q ≡ name = (bytes_eq-Decides q name).0 e in
        let found : Some t ≡ Some text = sym is ∙ ap (get (insert old name text)) same ∙ put_here old name text in
        let text_is : t ≡ text = cc in
        record { named = subst (λ n. IsName n) (sym same) named; short = subst (λ x. length x ≤ body_limit) (sym text_is) short }
    by false e =
        let other : q ≢ name = λ same. let yes = (bytes_eq-Decides q name).1 same in cc in
        are q t (sym (put_other old name text q other) ∙ is)

pub drop_stays : (old : Texts) (name : Text) → AreSources old → AreSources (remove old name)
drop_stays old name are q t is = by (bytes_eq q name) refl
  where
    by : (b : Bool) → bytes_eq q name ≡ b → IsSource q t
    by true e =
        let same : q ≡ name = (bytes_eq-Decides q name).0 e in
        let found : Some t ≡ None = sym is ∙ ap (get (remove old name)) same ∙ remove_here old name in
        cc
    by false e =
        let other : q ≢ name = λ same. let yes = (bytes_eq-Decides q name).1 same in cc in
        are q t (sym (remove_other old name q other) ∙ is)

none_are : AreSources no_texts
none_are name text is = let none : Some text ≡ None = sym is ∙ get-empty _ name in cc

-- ---- what is read

-- the contents aren't too long, and the sources are
record AreKept (state : State) : Type 0 where
  contents : All IsShort state.tables.contents
  sources : AreSources state.sources

text_short : (contents : List Value) (number : ℕ) (text : Text) → All IsShort contents → IsText contents number text → length text ≤ body_limit
text_short contents number text short there =
    subst IsShort (get_or_from_slice_get contents number (Simple text) (Simple text) there)
    (All-get_or IsShort contents number (Simple text) (slice_get_within contents number (Simple text) there) short)

-- an item that changes neither
both_stay : (old new : State) → AreKept old → new.tables.contents ≡ old.tables.contents → new.sources ≡ old.sources → AreKept new
both_stay old new kept contents sources = record {
  contents = subst (All IsShort) (sym contents) kept.contents;
  sources = subst AreSources (sym sources) kept.sources;
}

one_kept : (old : State) (it : Item) (new : State) → AreKept old → TakesOne old it new → AreKept new
one_kept old (Graph text) new kept takes = both_stay old new kept (ap (λ (t : Tables). t.contents) takes.loads) takes.edits
one_kept old (Content value) new kept takes = record {
  contents = subst (λ (t : Tables). All IsShort t.contents) (sym takes.loads.1) (All-push IsShort old.tables.contents value kept.contents takes.loads.0);
  sources = subst AreSources (sym takes.edits) kept.sources;
}
one_kept old (Put name number) new kept takes = record {
  contents = subst (λ (t : Tables). All IsShort t.contents) (sym takes.loads.2) kept.contents;
  sources =
      subst AreSources (sym takes.edits.2)
      (put_stays old.sources name takes.edits.0 kept.sources takes.loads.0 (text_short old.tables.contents number takes.edits.0 kept.contents takes.edits.1));
}
one_kept old (Dropped name) new kept takes = record {
  contents = subst (λ (t : Tables). All IsShort t.contents) (sym takes.loads.1) kept.contents;
  sources = subst AreSources (sym takes.edits.1) (drop_stays old.sources name kept.sources);
}
one_kept old (Kept stored given) new kept takes = both_stay old new kept (ap (λ (t : Tables). t.contents) takes.loads.3) takes.edits
one_kept old (Node stored) new kept takes = both_stay old new kept (ap (λ (t : Tables). t.contents) takes.loads.2) takes.edits

items_kept : (old : State) (items : List Item) (new : State) → AreKept old → TakesAll old items new → AreKept new
items_kept old [] new kept taken = subst AreKept (sym taken) kept
items_kept old (it ∷ items) new kept taken = items_kept taken.0 items new (one_kept old it taken.0 kept taken.1) taken.2

payloads_kept : (old : State) (payloads : List (List ℕ)) (new : State) → AreKept old → ReadsAll old payloads new → AreKept new
payloads_kept old [] new kept read = subst AreKept (sym read) kept
payloads_kept old (payload ∷ payloads) new kept read = payloads_kept read.0 payloads new (items_kept old read.1.items read.0 kept read.1.taken) read.2

pub sources_read : (payloads : List (List ℕ)) (new : State) → ReadsAll nothing payloads new → AreSources new.sources
sources_read payloads new read = (payloads_kept nothing payloads new (record { contents = All-nil IsShort; sources = none_are }) read).sources
