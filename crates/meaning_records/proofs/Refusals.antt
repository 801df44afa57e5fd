-- Bytes of no record, and payloads of no batch.
use Rattle.std.proofs.Common.{◌≡◌, ◌≢◌, ℕ, suc, ◌-◌, ◌<◌, ◌^◌, List, [], ◌∷◌, ◌++◌, length, drop, All, refl, sym, ap, ◌∙◌, arith, length-append, append-nil, append_assoc}
use Rattle.std.specs.Int.{w32, from_be_bytes}
use Rattle.std.proofs.lemmas.List.Elements.{All-head, All-tail}
use Rattle.std.proofs.lemmas.Nat.{from_be_bytes-to_be_bytes_4}
use Rattle.object_values.specs.declared.messages.Status.{Status}
use Rattle.object_values.specs.declared.messages.Status.TheVariants.{Ok}
use Rattle.object_values.specs.declared.views.Value.{Value}
use Rattle.object_values.specs.declared.views.Value.TheVariants.{Simple, List as Listed, Compound}
use Rattle.odin_bytes.specs.Fields.{u32_field, bytes_field}
use Rattle.odin_bytes.specs.FieldLemmas.{field_front, u32_front, body_front}
use Rattle.object_values.specs.declared.items.Item.{Item}
use Rattle.meaning_records.specs.Forms.{Form, StandsNowhere, number, bytes}
use Rattle.meaning_records.specs.FormLemmas.{one_item, one_value}
use Rattle.meaning_records.specs.Records.{status, line, value, content, item}
use Rattle.meaning_records.specs.States.{spell_batch}
use Rattle.meaning_records.specs.ByteExamples.{four, text, ReadsNever}
use Rattle.meaning_records.proofs.Fronts.{Begins, BeginsWithNone}
use Rattle.meaning_records.proofs.Payloads.{BatchOf, item_some, no_batch}
use Rattle.meaning_records.proofs.RecordFronts.{no_content, no_drop}

-- ---- numbers that aren't named

pub nowhere : {T : Type 0} (form : Form T) (list : List ℕ) → BeginsWithNone form list → StandsNowhere form list 0
nowhere form list none thing end there = none thing (drop (end - 0) (drop 0 list)) there.fits (field_front list 0 end (form.spell thing) there.field)

no_level : (list : List ℕ) (level : Status) (rest : List ℕ) → 4 ∷ list ≡ status.spell level ++ rest → ⊥
no_level list Ok rest is = let n : ⊥ = cc in n
no_level list _ rest is = let n : ⊥ = cc in n

pub no_status : BeginsWithNone status (4 ∷ [])
no_status level rest fits is = no_level [] level rest is

pub no_line : BeginsWithNone line (4 ∷ text 1 (119 ∷ []))
no_line l rest fits is = no_level (text 1 (119 ∷ [])) l.level (bytes.spell l.text ++ rest) (is ∙ append_assoc (status.spell l.level) (bytes.spell l.text) rest)

pub no_number : BeginsWithNone number (0 ∷ 0 ∷ 0 ∷ 256 ∷ [])
no_number n rest small is =
    let told : 256 ≡ n = ap (from_be_bytes w32) is ∙ from_be_bytes-to_be_bytes_4 n small in
    let spelled : ◌≡◌ {A = List ℕ} (0 ∷ 0 ∷ 0 ∷ 256 ∷ []) (0 ∷ 0 ∷ 1 ∷ 0 ∷ rest) = is ∙ ap (λ m. u32_field m ++ rest) (sym told) in
    let no : ⊥ = cc in no

-- ---- payloads

pub unbatched : (payload : List ℕ) → ¬ BatchOf payload → ReadsNever payload
unbatched payload none old new r = none (record { items = r.items; fit = r.fit; spelled = r.spelled })

pub none_read : ReadsNever []
none_read old new r = by r.items r.some r.spelled
  where
    empty : (it : Item) (rest : List ℕ) → ◌≡◌ {A = List ℕ} [] (item.spell it ++ rest) → ⊥
    empty (Item.Graph body) rest spelled = let n : ⊥ = cc in n
    empty _ rest spelled = let n : ⊥ = cc in n

    by : (items : List Item) → items ≢ [] → [] ≡ spell_batch items → ⊥
    by [] some spelled = some refl
    by (it ∷ items) some spelled = empty it (spell_batch items) spelled

-- no item is at the front
pub no_front : (first : ℕ) (payload : List ℕ) → BeginsWithNone item (first ∷ payload) → ¬ BatchOf (first ∷ payload)
no_front first payload none = no_batch first payload (λ b. none b.thing b.rest b.fits b.is)

-- an item, and no batch after it
pub no_batch_behind : (it : Item) (rest : List ℕ) → item.fits it → ¬ BatchOf rest → ¬ BatchOf (item.spell it ++ rest)
no_batch_behind it rest fits none b = by b.items b.fit b.spelled
  where
    by : (items : List Item) → All item.fits items → item.spell it ++ rest ≡ spell_batch items → ⊥
    by [] fit spelled =
        let size : length (item.spell it ++ rest) ≡ 0 = ap length spelled in
        omega (arith, size, length-append (item.spell it) rest, item_some it)
    by (other ∷ items) fit spelled =
        let same = one_item it other rest (spell_batch items) fits (All-head item.fits other items fit) spelled in
        none (record { items = items; fit = All-tail item.fits other items fit; spelled = same.1 })

-- ---- the contents of payloads

-- a content whose bytes begin with a value, and go on after it
no_longer_content : (v : Value) (first : ℕ) (more rest : List ℕ) → value.fits v → length (value.spell v ++ first ∷ more) < 2 ^ 32 → BeginsWithNone content (bytes_field (value.spell v ++ first ∷ more) ++ rest)
no_longer_content v first more rest fits short other behind fit is =
    let body = body_front (value.spell v ++ first ∷ more) (value.spell other) rest behind short fit.1 is in
    let told = one_value v other (first ∷ more) [] fits fit.0 (body.0 ∙ sym (append-nil (value.spell other))) in
    let goes_on : first ∷ more ≡ [] = told.1 in
    let n : ⊥ = cc in n

-- a content whose bytes are no value
no_other_content : (body rest : List ℕ) → ((v : Value) → body ≡ value.spell v → ⊥) → length body < 2 ^ 32 → BeginsWithNone content (bytes_field body ++ rest)
no_other_content body rest none short other behind fit is = none other (body_front body (value.spell other) rest behind short fit.1 is).0

cut_value : (v : Value) → 1 ∷ 0 ∷ 0 ∷ 0 ∷ [] ≡ value.spell v → ⊥
cut_value (Simple body) is = let size : 4 ≡ suc (suc (suc (suc (suc (length body))))) = ap length is in omega (arith, size)
cut_value (Listed nodes) is = let n : ⊥ = cc in n
cut_value (Compound parts) is = let n : ⊥ = cc in n

unnamed_value : (v : Value) → 4 ∷ four 0 ≡ value.spell v → ⊥
unnamed_value (Simple body) is = let n : ⊥ = cc in n
unnamed_value _ is = let n : ⊥ = cc in n

content_never : (list : List ℕ) → BeginsWithNone content list → ReadsNever (2 ∷ list)
content_never list none = unbatched (2 ∷ list) (no_front 2 list (no_content list (λ b. none b.thing b.rest b.fits b.is)))

pub longer_never : ReadsNever (2 ∷ four 6 ++ 1 ∷ four 0 ++ 9 ∷ [])
longer_never = content_never (four 6 ++ 1 ∷ four 0 ++ 9 ∷ []) (no_longer_content (Simple []) 9 [] [] (omega arith) (omega arith))

pub shorter_never : ReadsNever (2 ∷ four 4 ++ 1 ∷ four 0)
shorter_never = content_never (four 4 ++ 1 ∷ four 0) (no_other_content (1 ∷ 0 ∷ 0 ∷ 0 ∷ []) (0 ∷ []) cut_value (omega arith))

pub unnamed_never : ReadsNever (2 ∷ four 5 ++ 4 ∷ four 0)
unnamed_never = content_never (four 5 ++ 4 ∷ four 0) (no_other_content (4 ∷ four 0) [] unnamed_value (omega arith))

-- ---- a name that is cut

cut_name : ¬ Begins bytes (text 3 (97 ∷ 46 ∷ []))
cut_name b =
    let told = u32_front 3 (length b.thing) (97 ∷ 46 ∷ []) (b.thing ++ b.rest) (omega arith) b.fits (b.is ∙ append_assoc (u32_field (length b.thing)) b.thing b.rest) in
    let size : 2 ≡ length (b.thing ++ b.rest) = ap length told.1 in
    omega (arith, size, told.0, length-append b.thing b.rest)

pub cut_never : ReadsNever (4 ∷ text 3 (97 ∷ 46 ∷ []))
cut_never = unbatched (4 ∷ text 3 (97 ∷ 46 ∷ [])) (no_front 4 (text 3 (97 ∷ 46 ∷ [])) (no_drop (text 3 (97 ∷ 46 ∷ [])) cut_name))
