-- The records of worked stores, and what they make of nothing.
use Rattle.std.proofs.Common.{rules, ◌≡◌, Bool, true, false, is_some, refl, sym, ap, subst, ◌∙◌, codes, arith, All, [], ◌∷◌, List, ℕ}
use Rattle.std.specs.FinMap as map
use Rattle.std.specs.Ordering.{nat_cmp}
use Rattle.std.specs.Cmp.Lexicographic.{slice_cmp}
use Rattle.std.proofs.lemmas.List.Elements.{All-nil, All-cons}
use Rattle.object_values.specs.declared.views.Value.TheVariants.{Simple}
use Rattle.object_values.specs.Texts.{no_texts}
use Rattle.meaning_texts.specs.Classes.{is_name_byte}
use Rattle.meaning_texts.proofs.Lemmas.{word_decides}
use Rattle.meaning_records.specs.Images.{IsStore, IsRecord}
use Rattle.object_values.specs.declared.items.Item.{Item}
use Rattle.object_values.specs.declared.items.Item.TheVariants.{Graph, Content, Put, Dropped}
use Rattle.meaning_records.specs.Records.{item}
use Rattle.meaning_records.specs.States.{State, nothing, spell_batch, TakesAll, Reads}
use Rattle.meaning_records.specs.Batches.{graph_batch}
use Rattle.meaning_records.specs.ImageExamples.{with_graph, with_source, with_drop, graph_kept, source_kept}
use Rattle.meaning_records.proofs.Payloads.{one_batch}

-- ---- payloads

abbrev pub graph_payload : List ℕ
graph_payload = spell_batch (graph_batch (codes "type c simple;"))

abbrev pub source_items : List Item
source_items = Content (Simple []) ∷ Put (codes "a.c") 0 ∷ []

abbrev pub drop_items : List Item
drop_items = Dropped (codes "a.c") ∷ []

-- ---- records

pub graph_record : IsRecord with_graph 64 graph_payload
graph_record = record { opened = record { within = search rules; one = refl }; short = search rules; body = record { in_range = search rules; bytes = refl }; next = search rules }

pub graph_store : IsStore with_graph (graph_payload ∷ []) 88
graph_store = record {
  written = record { within = search rules; some = search rules; marked = λ e. cc };
  front = record { name = refl; zeros = refl; more_zeros = refl; starts_behind = search rules; starts_within = search rules };
  whole = (graph_record, refl);
  closed = record { within = search rules; other = λ e. cc };
}

first_of_source : IsRecord with_source 64 graph_payload
first_of_source = record { opened = record { within = search rules; one = refl }; short = search rules; body = record { in_range = search rules; bytes = refl }; next = search rules }

second_of_source : IsRecord with_source 88 (spell_batch source_items)
second_of_source = record { opened = record { within = search rules; one = refl }; short = search rules; body = record { in_range = search rules; bytes = refl }; next = search rules }

pub source_store : IsStore with_source (graph_payload ∷ spell_batch source_items ∷ []) 115
source_store = record {
  written = record { within = search rules; some = search rules; marked = λ e. cc };
  front = record { name = refl; zeros = refl; more_zeros = refl; starts_behind = search rules; starts_within = search rules };
  whole = (first_of_source, (second_of_source, refl));
  closed = record { within = search rules; other = λ e. cc };
}

first_of_drop : IsRecord with_drop 64 graph_payload
first_of_drop = record { opened = record { within = search rules; one = refl }; short = search rules; body = record { in_range = search rules; bytes = refl }; next = search rules }

second_of_drop : IsRecord with_drop 88 (spell_batch drop_items)
second_of_drop = record { opened = record { within = search rules; one = refl }; short = search rules; body = record { in_range = search rules; bytes = refl }; next = search rules }

pub drop_store : IsStore with_drop (graph_payload ∷ spell_batch drop_items ∷ []) 101
drop_store = record {
  written = record { within = search rules; some = search rules; marked = λ e. cc };
  front = record { name = refl; zeros = refl; more_zeros = refl; starts_behind = search rules; starts_within = search rules };
  whole = (first_of_drop, (second_of_drop, refl));
  closed = record { within = search rules; other = λ e. cc };
}

-- ---- what they make of nothing

pub graph_reads : Reads nothing graph_payload graph_kept
graph_reads = record {
  items = graph_batch (codes "type c simple;");
  some = λ e. cc;
  fit = All-cons item.fits (Graph (codes "type c simple;")) [] (omega arith) (All-nil item.fits);
  spelled = refl;
  taken = (graph_kept, record { loads = refl; edits = refl; graph = refl; ground = tt; noted = refl }, refl);
}

-- the content stands, and the source isn't put yet
abbrev content_kept : State
content_kept = record { tables = source_kept.tables; sources = no_texts; graph = graph_kept.graph; noted = [] }

pub source_reads : Reads graph_kept (spell_batch source_items) source_kept
source_reads = record {
  items = source_items;
  some = λ e. cc;
  fit = All-cons item.fits (Content (Simple [])) (Put (codes "a.c") 0 ∷ []) (omega arith, omega arith) (All-cons item.fits (Put (codes "a.c") 0) [] (omega arith, omega arith) (All-nil item.fits));
  spelled = refl;
  taken = (
    content_kept,
    record { loads = (omega arith, refl); edits = refl; graph = refl; ground = tt; noted = refl },
    (source_kept, record { loads = ((word_decides is_name_byte (codes "a.c")).0 refl, ([], refl), refl); edits = ([], refl, refl); graph = refl; ground = tt; noted = refl }, refl),
  );
}

drop_fits : All item.fits drop_items
drop_fits = All-cons item.fits (Dropped (codes "a.c")) [] (omega arith) (All-nil item.fits)

-- what isn't there can't be dropped
no_drop_taken : (next : State) → ¬ TakesAll graph_kept drop_items next
no_drop_taken next taken =
    let none : ◌≡◌ {A = Bool} false true = sym (ap is_some (map.get-empty (slice_cmp nat_cmp) (codes "a.c"))) ∙ taken.1.edits.0 in
    let no : ⊥ = cc in no

pub drop_unread : (next : State) → ¬ Reads graph_kept (spell_batch drop_items) next
drop_unread next r = no_drop_taken next (subst (λ (items : List Item). TakesAll graph_kept items next) (one_batch r.items drop_items r.fit drop_fits (sym r.spelled)) r.taken)
