-- The worked store that is written anew: that it may be, that its items have spellings, and of what kinds its batches are.
use Rattle.std.proofs.Common.{◌≡◌, ◌≤◌, cond, List, [], ◌∷◌, ◌++◌, length, Option, Some, None, refl, sym, ap, subst, ◌∙◌, arith, codes}
use Rattle.std.specs.Prelude.{All}
use Rattle.std.specs.FinMap as names
use Rattle.std.specs.Ordering.{nat_cmp, is_eq}
use Rattle.std.specs.declared.cmp.Ordering.{Ordering}
use Rattle.std.specs.declared.cmp.Ordering.TheVariants.{Less, Equal, Greater}
use Rattle.std.specs.Cmp.Lexicographic.{slice_cmp}
use Rattle.std.proofs.lemmas.Option.{none-some, same_Some}
use Rattle.std.proofs.lemmas.List.Elements.{All-nil, All-cons}
use Rattle.object_values.specs.declared.nodes.Step.TheVariants.{Maker}
use Rattle.object_values.specs.declared.records.Role.TheVariants.{Reached}
use Rattle.object_values.specs.declared.facts.FactDep.{FactDep}
use Rattle.object_values.specs.declared.views.Value.TheVariants.{Simple}
use Rattle.object_values.specs.Texts.{Text}
use Rattle.meaning_texts.specs.Classes.{IsName, is_name_byte}
use Rattle.meaning_texts.specs.Limits.{body_limit}
use Rattle.meaning_texts.proofs.Lemmas.{word_decides}
use Rattle.meaning_calls.specs.Tests.{is_well_formed, outcome_fits}
use Rattle.meaning_calls.proofs.Lemmas.{well_formed_decides, fits_decides}
use Rattle.object_values.specs.declared.items.StoredPart.{StoredPart}
use Rattle.object_values.specs.declared.items.Item.{Item}
use Rattle.object_values.specs.declared.items.Item.TheVariants.{Graph, Content, Put}
use Rattle.meaning_records.specs.Forms.{bytes}
use Rattle.meaning_records.specs.Records.{pair, step, node, stored_part, line, output, message, dep, item}
use Rattle.meaning_records.specs.Tables.{IsShort}
use Rattle.meaning_records.specs.Batches.{IsNotable}
use Rattle.meaning_records.specs.Live.{MayBeSources, ComesAfter, MayLive}
use Rattle.meaning_records.specs.ItemExamples.{call, made_outcome, p_of, q_of}
use Rattle.meaning_records.specs.NoteExamples.{first_node, second_node, source_node, own_note, present_note, stored_dep}
use Rattle.meaning_records.specs.BatchExamples.{known, kept_by}
use Rattle.meaning_records.specs.NoteBatchExamples.{fresh_text}
use Rattle.meaning_records.specs.LiveExamples.{ex_live_graph, ex_live_named, ex_live_sources, ex_live, ex_first_fresh, ex_second_fresh}
use Rattle.meaning_records.specs.LiveExamples.{ex_value_stored, ex_first_note, ex_second_note}
use Rattle.meaning_records.specs.LiveExamples.{ex_live_batches, ex_put_batches, ex_graph_batch, ex_keep_batch, ex_first_batch, ex_second_batch}

-- lists of one, and of two
one : {A : Type 0} (P : A → Type 0) (a : A) → P a → All P (a ∷ [])
one P a is = All-cons P a [] is (All-nil P)

both : {A : Type 0} (P : A → Type 0) (a b : A) → P a → P b → All P (a ∷ b ∷ [])
both P a b is also = All-cons P a (b ∷ []) is (one P b also)

-- ---- it may be written

abbrev by_bytes : Text → Text → Ordering
by_bytes = slice_cmp nat_cmp

exact : names.IsAntisymmetric by_bytes
exact = names.slice_cmp-IsAntisymmetric names.nat_cmp-IsAntisymmetric

abbrev MayBeSource : Text → Text → Type 0
MayBeSource name text = IsName name × (length text ≤ body_limit)

-- what is found of a name is of the first entry, or of the others
entry : (key value : Text) → MayBeSource key value → (rest : Option Text) (name text : Text) → (rest ≡ Some text → MayBeSource name text)
    → cond (is_eq (by_bytes name key)) (Some value) rest ≡ Some text → MayBeSource name text
entry key value is rest name text other there = by (by_bytes name key) refl there
  where
    by : (order : Ordering) → by_bytes name key ≡ order → cond (is_eq order) (Some value) rest ≡ Some text → MayBeSource name text
    by Less e found = other found
    by Equal e found =
        subst (λ (t : Text). MayBeSource name t) (same_Some value text found) (subst (λ (n : Text). MayBeSource n value) (sym (exact name key e)) is)
    by Greater e found = other found

known_short : length known ≤ body_limit
known_short = omega arith

found_may : (name text : Text) → names.find by_bytes name ex_live_named ≡ Some text → MayBeSource name text
found_may name text =
    entry (codes "a.c") known ((word_decides is_name_byte (codes "a.c")).0 refl, known_short) (names.find by_bytes name ((codes "b.c", known) ∷ [])) name text
    (entry (codes "b.c") known ((word_decides is_name_byte (codes "b.c")).0 refl, known_short) None name text
    (λ none. absurd (none-some text none)))

sources_may : MayBeSources ex_live_sources
sources_may name text there =
    let entries : names.entries ex_live_sources ≡ ex_live_named = names.entries-from_sorted by_bytes ex_live_named tt in
    let found : names.find by_bytes name ex_live_named ≡ Some text =
    ap (λ (l : List (Text × Text)). names.find by_bytes name l) (sym entries) ∙ sym (names.get-entries ex_live_sources name) ∙ there in
    found_may name text found

call_may : ComesAfter [] (call (Some known), made_outcome)
unfolding is_well_formed outcome_fits
call_may = record { formed = (well_formed_decides (call (Some known))).0 refl; fits = (fits_decides (call (Some known)) made_outcome).0 refl; new = refl }

abbrev IsReached : FactDep → Type 0
IsReached d = d.role ≡ Reached

first_may : IsNotable ex_first_fresh
first_may = record {
  short = both IsShort fresh_text (Simple known) (omega arith) (omega arith);
  last = (λ is. All-nil IsReached, tt);
  least = omega arith;
  most = omega arith;
  valued = (λ none. let n : ⊥ = cc in absurd n, λ abort. let n : ⊥ = cc in absurd n);
}

second_may : IsNotable ex_second_fresh
second_may = record {
  short = both IsShort (Simple known) fresh_text (omega arith) (omega arith);
  last = (λ needed. let n : ⊥ = cc in absurd n, (λ is. All-nil IsReached, tt));
  least = omega arith;
  most = omega arith;
  valued = (λ none. let n : ⊥ = cc in absurd n, λ abort. let n : ⊥ = cc in absurd n);
}

pub ex_may_live : MayLive ex_live
ex_may_live = record {
  sources = sources_may;
  calls = (call_may, tt);
  records = both IsNotable ex_first_fresh ex_second_fresh first_may second_may;
  once = refl;
}

-- ---- its items have spellings

abbrev Fit : List Item → Type 0
Fit items = All item.fits items

source_fits : (name : Text) → length name ≤ 100 → node.fits (source_node name)
source_fits name few = (omega (arith, few), ((omega arith, All-nil pair.fits), (omega arith, All-nil step.fits)))

first_node_fits : node.fits first_node
first_node_fits = (omega arith, ((omega arith, All-nil pair.fits), (omega arith, one step.fits (Maker 7) (omega arith))))

second_node_fits : node.fits second_node
second_node_fits = (omega arith, ((omega arith, All-nil pair.fits), (omega arith, both step.fits (Maker 7) (Maker 8) (omega arith) (omega arith))))

first_fits : item.fits ex_first_note
first_fits = (
  first_node_fits,
  (
    (omega arith, one dep.fits (stored_dep (codes "a.c") (Some 0)) (source_fits (codes "a.c") (omega arith), omega arith)),
    (
      omega arith,
      (
        omega arith,
        (
          tt,
          (
            (omega arith, one message.fits own_note (omega arith, (tt, omega arith))),
            (tt, ((omega arith, one message.fits present_note (omega arith, (tt, omega arith))), omega arith)),
          ),
        ),
      ),
    ),
  ),
)

second_fits : item.fits ex_second_note
second_fits = (
  second_node_fits,
  (
    (omega arith, both dep.fits ex_value_stored (stored_dep (codes "x.h") None) (first_node_fits, omega arith) (source_fits (codes "x.h") (omega arith), tt)),
    (
      omega arith,
      (
        omega arith,
        (
          tt,
          (
            (omega arith, one message.fits own_note (omega arith, (tt, omega arith))),
            (tt, ((omega arith, one message.fits present_note (omega arith, (tt, omega arith))), omega arith)),
          ),
        ),
      ),
    ),
  ),
)

abbrev part_of : StoredPart
part_of = record { slot = 0; label = codes "a.c"; content = Some 0 }

kept_fits : item.fits (kept_by 0)
kept_fits = (
  (
    omega arith,
    (
      omega arith,
      (
        (omega arith, one bytes.fits (codes "cc") (omega arith)),
        (
          (omega arith, All-nil pair.fits),
          (
            (omega arith, one stored_part.fits part_of (omega arith, (omega arith, omega arith))),
            (omega arith, both bytes.fits (codes "p") (codes "q") (omega arith) (omega arith)),
          ),
        ),
      ),
    ),
  ),
  (tt, ((omega arith, All-nil line.fits), (omega arith, both output.fits (p_of 0) (q_of 0) (omega arith, omega arith) (omega arith, omega arith)))),
)

pub ex_live_fit : All Fit ex_live_batches
ex_live_fit =
    All-cons Fit ex_graph_batch (ex_put_batches ++ ex_keep_batch ∷ ex_first_batch ∷ ex_second_batch ∷ [])
    (one item.fits (Graph ex_live_graph) (omega arith)) rest
  where
    rest : All Fit (ex_put_batches ++ ex_keep_batch ∷ ex_first_batch ∷ ex_second_batch ∷ [])
    rest =
        All-cons Fit (Content (Simple known) ∷ Put (codes "a.c") 0 ∷ []) ((Put (codes "b.c") 0 ∷ []) ∷ ex_keep_batch ∷ ex_first_batch ∷ ex_second_batch ∷ [])
        (both item.fits (Content (Simple known)) (Put (codes "a.c") 0) (omega arith, omega arith) (omega arith, omega arith))
        (All-cons Fit (Put (codes "b.c") 0 ∷ []) (ex_keep_batch ∷ ex_first_batch ∷ ex_second_batch ∷ [])
        (one item.fits (Put (codes "b.c") 0) (omega arith, omega arith))
        (All-cons Fit ex_keep_batch (ex_first_batch ∷ ex_second_batch ∷ []) (one item.fits (kept_by 0) kept_fits)
        (both Fit ex_first_batch ex_second_batch (both item.fits (Content fresh_text) ex_first_note (omega arith, omega arith) first_fits)
        (one item.fits ex_second_note second_fits))))
