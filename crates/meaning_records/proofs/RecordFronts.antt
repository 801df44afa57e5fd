-- Whether a list begins with a record, decided for each record; and the items that a payload is.
use Rattle.std.proofs.Common.{◌≡◌, ℕ, zero, suc, ◌<◌, ◌^◌, List, [], ◌∷◌, ◌++◌, length, Option, refl, sym, ap, subst, ◌∙◌, append-nil}
use Rattle.object_values.specs.declared.messages.Message.{Message}
use Rattle.object_values.specs.declared.messages.Status.{Status}
use Rattle.object_values.specs.declared.messages.Status.TheVariants.{Ok, Warning, Error, Abort}
use Rattle.object_values.specs.declared.nodes.ParamValue.{ParamValue}
use Rattle.object_values.specs.declared.nodes.Step.{Step}
use Rattle.object_values.specs.declared.nodes.Step.TheVariants.{Maker, Pick}
use Rattle.object_values.specs.declared.nodes.Node.{Node}
use Rattle.object_values.specs.declared.views.Part.{Part}
use Rattle.object_values.specs.declared.views.Value.{Value}
use Rattle.object_values.specs.declared.views.Value.TheVariants.{Simple, List as Listed, Compound}
use Rattle.object_values.specs.declared.calls.OwnLine.{OwnLine}
use Rattle.object_values.specs.declared.items.StoredPart.{StoredPart}
use Rattle.object_values.specs.declared.items.StoredCall.{StoredCall}
use Rattle.object_values.specs.declared.items.StoredOutput.{StoredOutput}
use Rattle.object_values.specs.declared.items.StoredOutcome.{StoredOutcome}
use Rattle.object_values.specs.declared.items.StoredDep.{StoredDep}
use Rattle.object_values.specs.declared.items.StoredRecord.{StoredRecord}
use Rattle.object_values.specs.declared.items.Item.TheVariants.{Graph, Content, Put, Dropped, Kept, Node as Noted}
use Rattle.meaning_records.specs.Forms.{bytes, number, both, list_of, option_of}
use Rattle.meaning_records.specs.FormLemmas.{one_bytes, one_number, one_list, one_option, one_pair, one_step, one_node, one_part, one_value, one_stored_part, one_call, one_status, one_line, one_output, one_message, one_dep}
use Rattle.meaning_records.specs.Records.{status, pair, step, node, part, value, stored_part, call, line, output, outcome, message, dep, node_record, content, item}
use Rattle.meaning_records.proofs.Fronts.{Begins, IsDecided, BeginsWithNone, begins_not, tagged, number_decided, bytes_decided, both_forms_decided, parts_decided, list_decided, option_decided}

-- ---- statuses

pub status_decided : IsDecided status
status_decided [] = begins_not status [] none
  where
    none : BeginsWithNone status []
    none thing rest fits is = let n : ⊥ = cc in n
status_decided (zero ∷ list) = yes (record { thing = Ok; rest = list; fits = tt; is = refl })
status_decided (suc zero ∷ list) = yes (record { thing = Warning; rest = list; fits = tt; is = refl })
status_decided (suc (suc zero) ∷ list) = yes (record { thing = Error; rest = list; fits = tt; is = refl })
status_decided (suc (suc (suc zero)) ∷ list) = yes (record { thing = Abort; rest = list; fits = tt; is = refl })
status_decided (suc (suc (suc (suc n))) ∷ list) = begins_not status (suc (suc (suc (suc n))) ∷ list) none
  where
    none : BeginsWithNone status (suc (suc (suc (suc n))) ∷ list)
    none Ok rest fits is = let e : ⊥ = cc in e
    none _ rest fits is = let e : ⊥ = cc in e

-- ---- nodes and values

pub pair_decided : IsDecided pair
pair_decided =
    parts_decided (λ (p : ParamValue). (p.param, p.value)) (both bytes bytes) (λ (t : List ℕ × List ℕ). record { param = t.0; value = t.1 }) (λ t. refl)
    (both_forms_decided bytes bytes one_bytes bytes_decided bytes_decided)

no_step : BeginsWithNone step []
no_step (Maker maker) rest fits is = let n : ⊥ = cc in n
no_step _ rest fits is = let n : ⊥ = cc in n

no_step_zero : (list : List ℕ) → BeginsWithNone step (0 ∷ list)
no_step_zero list (Maker maker) rest fits is = let n : ⊥ = cc in n
no_step_zero list _ rest fits is = let n : ⊥ = cc in n

pub no_step_from : (k : ℕ) (list : List ℕ) → BeginsWithNone step (suc (suc (suc k)) ∷ list)
no_step_from k list (Maker maker) rest fits is = let n : ⊥ = cc in n
no_step_from k list _ rest fits is = let n : ⊥ = cc in n

no_maker : (list : List ℕ) → ¬ Begins number list → BeginsWithNone step (1 ∷ list)
no_maker list none (Maker maker) rest fits is = none (record { thing = maker; rest = rest; fits = fits; is = cc })
no_maker list none _ rest fits is = let n : ⊥ = cc in n

no_pick : (list : List ℕ) → ¬ Begins bytes list → BeginsWithNone step (2 ∷ list)
no_pick list none (Pick key) rest fits is = none (record { thing = key; rest = rest; fits = fits; is = cc })
no_pick list none _ rest fits is = let n : ⊥ = cc in n

pub step_decided : IsDecided step
step_decided [] = begins_not step [] no_step
step_decided (zero ∷ list) = begins_not step (0 ∷ list) (no_step_zero list)
step_decided (suc zero ∷ list) = tagged step number (λ (n : ℕ). Maker n) 1 list (λ a. refl) (λ a fits. fits) (no_maker list) (number_decided list)
step_decided (suc (suc zero) ∷ list) = tagged step bytes (λ (key : List ℕ). Pick key) 2 list (λ a. refl) (λ a fits. fits) (no_pick list) (bytes_decided list)
step_decided (suc (suc (suc k)) ∷ list) = begins_not step (suc (suc (suc k)) ∷ list) (no_step_from k list)

pub node_decided : IsDecided node
node_decided =
    parts_decided (λ (n : Node). (n.source, (n.params, n.steps))) (both bytes (both (list_of pair) (list_of step)))
    (λ (t : List ℕ × (List ParamValue × List Step)). record { source = t.0; params = t.1.0; steps = t.1.1 }) (λ t. refl)
    (both_forms_decided bytes (both (list_of pair) (list_of step)) one_bytes bytes_decided
    (both_forms_decided (list_of pair) (list_of step) (one_list pair one_pair) (list_decided pair one_pair pair_decided) (list_decided step one_step step_decided)))

pub part_decided : IsDecided part
part_decided =
    parts_decided (λ (p : Part). (p.name, p.body)) (both bytes bytes) (λ (t : List ℕ × List ℕ). record { name = t.0; body = t.1 }) (λ t. refl)
    (both_forms_decided bytes bytes one_bytes bytes_decided bytes_decided)

no_value : BeginsWithNone value []
no_value (Simple text) rest fits is = let n : ⊥ = cc in n
no_value _ rest fits is = let n : ⊥ = cc in n

no_value_zero : (list : List ℕ) → BeginsWithNone value (0 ∷ list)
no_value_zero list (Simple text) rest fits is = let n : ⊥ = cc in n
no_value_zero list _ rest fits is = let n : ⊥ = cc in n

pub no_value_from : (k : ℕ) (list : List ℕ) → BeginsWithNone value (suc (suc (suc (suc k))) ∷ list)
no_value_from k list (Simple text) rest fits is = let n : ⊥ = cc in n
no_value_from k list _ rest fits is = let n : ⊥ = cc in n

no_simple : (list : List ℕ) → ¬ Begins bytes list → BeginsWithNone value (1 ∷ list)
no_simple list none (Simple text) rest fits is = none (record { thing = text; rest = rest; fits = fits; is = cc })
no_simple list none _ rest fits is = let n : ⊥ = cc in n

no_listed : (list : List ℕ) → ¬ Begins (list_of node) list → BeginsWithNone value (2 ∷ list)
no_listed list none (Listed nodes) rest fits is = none (record { thing = nodes; rest = rest; fits = fits; is = cc })
no_listed list none _ rest fits is = let n : ⊥ = cc in n

no_compound : (list : List ℕ) → ¬ Begins (list_of part) list → BeginsWithNone value (3 ∷ list)
no_compound list none (Compound parts) rest fits is = none (record { thing = parts; rest = rest; fits = fits; is = cc })
no_compound list none _ rest fits is = let n : ⊥ = cc in n

pub value_decided : IsDecided value
value_decided [] = begins_not value [] no_value
value_decided (zero ∷ list) = begins_not value (0 ∷ list) (no_value_zero list)
value_decided (suc zero ∷ list) = tagged value bytes (λ (text : List ℕ). Simple text) 1 list (λ a. refl) (λ a fits. fits) (no_simple list) (bytes_decided list)
value_decided (suc (suc zero) ∷ list) = tagged value (list_of node) (λ (nodes : List Node). Listed nodes) 2 list (λ a. refl) (λ a fits. fits) (no_listed list) (list_decided node one_node node_decided list)
value_decided (suc (suc (suc zero)) ∷ list) = tagged value (list_of part) (λ (parts : List Part). Compound parts) 3 list (λ a. refl) (λ a fits. fits) (no_compound list) (list_decided part one_part part_decided list)
value_decided (suc (suc (suc (suc k))) ∷ list) = begins_not value (suc (suc (suc (suc k))) ∷ list) (no_value_from k list)

-- ---- calls and outcomes

pub stored_part_decided : IsDecided stored_part
stored_part_decided =
    parts_decided (λ (p : StoredPart). (p.slot, (p.label, p.content))) (both number (both bytes (option_of number)))
    (λ (t : ℕ × (List ℕ × Option ℕ)). record { slot = t.0; label = t.1.0; content = t.1.1 }) (λ t. refl)
    (both_forms_decided number (both bytes (option_of number)) one_number number_decided (both_forms_decided bytes (option_of number) one_bytes bytes_decided (option_decided number number_decided)))

-- what stands after a call's version
tail_of_call_decided : IsDecided (both (list_of bytes) (both (list_of pair) (both (list_of stored_part) (list_of bytes))))
tail_of_call_decided =
    both_forms_decided (list_of bytes) (both (list_of pair) (both (list_of stored_part) (list_of bytes))) (one_list bytes one_bytes) (list_decided bytes one_bytes bytes_decided)
    (both_forms_decided (list_of pair) (both (list_of stored_part) (list_of bytes)) (one_list pair one_pair) (list_decided pair one_pair pair_decided)
    (both_forms_decided (list_of stored_part) (list_of bytes) (one_list stored_part one_stored_part) (list_decided stored_part one_stored_part stored_part_decided) (list_decided bytes one_bytes bytes_decided)))

pub call_decided : IsDecided call
call_decided =
    parts_decided (λ (c : StoredCall). (c.tool, (c.version, (c.words, (c.params, (c.parts, c.outs))))))
    (both bytes (both bytes (both (list_of bytes) (both (list_of pair) (both (list_of stored_part) (list_of bytes))))))
    (λ (t : List ℕ × (List ℕ × (List (List ℕ) × (List ParamValue × (List StoredPart × List (List ℕ)))))). record { tool = t.0; version = t.1.0; words = t.1.1.0; params = t.1.1.1.0; parts = t.1.1.1.1.0; outs = t.1.1.1.1.1 }) (λ t. refl)
    (both_forms_decided bytes (both bytes (both (list_of bytes) (both (list_of pair) (both (list_of stored_part) (list_of bytes))))) one_bytes bytes_decided
    (both_forms_decided bytes (both (list_of bytes) (both (list_of pair) (both (list_of stored_part) (list_of bytes)))) one_bytes bytes_decided tail_of_call_decided))

pub line_decided : IsDecided line
line_decided =
    parts_decided (λ (l : OwnLine). (l.level, l.text)) (both status bytes) (λ (t : Status × List ℕ). record { level = t.0; text = t.1 }) (λ t. refl)
    (both_forms_decided status bytes one_status status_decided bytes_decided)

pub output_decided : IsDecided output
output_decided =
    parts_decided (λ (o : StoredOutput). (o.name, o.content)) (both bytes number) (λ (t : List ℕ × ℕ). record { name = t.0; content = t.1 }) (λ t. refl)
    (both_forms_decided bytes number one_bytes bytes_decided number_decided)

pub outcome_decided : IsDecided outcome
outcome_decided =
    parts_decided (λ (o : StoredOutcome). (o.status, (o.lines, o.outputs))) (both status (both (list_of line) (list_of output)))
    (λ (t : Status × (List OwnLine × List StoredOutput)). record { status = t.0; lines = t.1.0; outputs = t.1.1 }) (λ t. refl)
    (both_forms_decided status (both (list_of line) (list_of output)) one_status status_decided
    (both_forms_decided (list_of line) (list_of output) (one_list line one_line) (list_decided line one_line line_decided) (list_decided output one_output output_decided)))

-- ---- records of nodes

message_decided : IsDecided message
message_decided =
    parts_decided (λ (m : Message). (m.label, (m.level, m.text))) (both bytes (both status bytes))
    (λ (t : List ℕ × (Status × List ℕ)). record { label = t.0; level = t.1.0; text = t.1.1 }) (λ t. refl)
    (both_forms_decided bytes (both status bytes) one_bytes bytes_decided (both_forms_decided status bytes one_status status_decided bytes_decided))

dep_decided : IsDecided dep
dep_decided =
    parts_decided (λ (d : StoredDep). (d.node, d.content)) (both node (option_of number))
    (λ (t : Node × Option ℕ). record { node = t.0; content = t.1 }) (λ t. refl)
    (both_forms_decided node (option_of number) one_node node_decided (option_decided number number_decided))

messages_decided : IsDecided (list_of message)
messages_decided = list_decided message one_message message_decided

-- the present part of a record
present_decided : IsDecided (both status (both (list_of message) number))
present_decided =
    both_forms_decided status (both (list_of message) number) one_status status_decided
    (both_forms_decided (list_of message) number (one_list message one_message) messages_decided number_decided)

-- what stands after a record's deps
tail_of_record_decided : IsDecided (both number (both (option_of number) (both status (both (list_of message) (both status (both (list_of message) number))))))
tail_of_record_decided =
    both_forms_decided number (both (option_of number) (both status (both (list_of message) (both status (both (list_of message) number))))) one_number number_decided
    (both_forms_decided (option_of number) (both status (both (list_of message) (both status (both (list_of message) number)))) (one_option number one_number)
    (option_decided number number_decided)
    (both_forms_decided status (both (list_of message) (both status (both (list_of message) number))) one_status status_decided
    (both_forms_decided (list_of message) (both status (both (list_of message) number)) (one_list message one_message) messages_decided present_decided)))

node_record_decided : IsDecided node_record
node_record_decided =
    parts_decided (λ (r : StoredRecord). (r.node, (r.deps, (r.reached, (r.value, (r.own_status, (r.own_messages, (r.status, (r.messages, r.height)))))))))
    (both node (both (list_of dep) (both number (both (option_of number)
    (both status (both (list_of message) (both status (both (list_of message) number))))))))
    (λ (t : Node × (List StoredDep × (ℕ × (Option ℕ × (Status × (List Message × (Status × (List Message × ℕ)))))))). record {
      node = t.0;
      deps = t.1.0;
      reached = t.1.1.0;
      value = t.1.1.1.0;
      own_status = t.1.1.1.1.0;
      own_messages = t.1.1.1.1.1.0;
      status = t.1.1.1.1.1.1.0;
      messages = t.1.1.1.1.1.1.1.0;
      height = t.1.1.1.1.1.1.1.1;
    }) (λ t. refl)
    (both_forms_decided node (both (list_of dep) (both number (both (option_of number) (both status (both (list_of message) (both status (both (list_of message) number)))))))
    one_node node_decided
    (both_forms_decided (list_of dep) (both number (both (option_of number) (both status (both (list_of message) (both status (both (list_of message) number))))))
    (one_list dep one_dep) (list_decided dep one_dep dep_decided) tail_of_record_decided))

-- ---- items

-- all of the bytes are the value
content_ends : (list : List ℕ) (front : Begins bytes list) (inner : Begins value front.thing) → (rest : List ℕ) → inner.rest ≡ rest → Dec (Begins content list)
content_ends list front inner [] ends =
    let whole : front.thing ≡ value.spell inner.thing = inner.is ∙ ap (λ r. value.spell inner.thing ++ r) ends ∙ append-nil (value.spell inner.thing) in
    yes (record {
      thing = inner.thing;
      rest = front.rest;
      fits = (inner.fits, subst (λ (body : List ℕ). length body < 2 ^ 32) whole front.fits);
      is = front.is ∙ ap (λ (body : List ℕ). bytes.spell body ++ front.rest) whole;
    })
content_ends list front inner (more ∷ rest) ends = no (λ b.
    let body = one_bytes front.thing (value.spell b.thing) front.rest b.rest front.fits b.fits.1 (sym front.is ∙ b.is) in
    let told = one_value inner.thing b.thing inner.rest [] inner.fits b.fits.0 (sym inner.is ∙ body.0 ∙ sym (append-nil (value.spell b.thing))) in
    let none : ◌≡◌ {A = List ℕ} (more ∷ rest) [] = sym ends ∙ told.1 in
    let n : ⊥ = cc in n)

content_value : (list : List ℕ) (front : Begins bytes list) → Dec (Begins value front.thing) → Dec (Begins content list)
content_value list front (yes inner) = content_ends list front inner inner.rest refl
content_value list front (no none) = no (λ b.
    let body = one_bytes front.thing (value.spell b.thing) front.rest b.rest front.fits b.fits.1 (sym front.is ∙ b.is) in
    none (record { thing = b.thing; rest = []; fits = b.fits.0; is = body.0 ∙ sym (append-nil (value.spell b.thing)) }))

content_by : (list : List ℕ) → Dec (Begins bytes list) → Dec (Begins content list)
content_by list (yes front) = content_value list front (value_decided front.thing)
content_by list (no none) = no (λ b. none (record { thing = value.spell b.thing; rest = b.rest; fits = b.fits.1; is = b.is }))

pub content_decided : IsDecided content
content_decided list = content_by list (bytes_decided list)

no_item : BeginsWithNone item []
no_item (Graph text) rest fits is = let n : ⊥ = cc in n
no_item _ rest fits is = let n : ⊥ = cc in n

pub no_item_zero : (list : List ℕ) → BeginsWithNone item (0 ∷ list)
no_item_zero list (Graph text) rest fits is = let n : ⊥ = cc in n
no_item_zero list _ rest fits is = let n : ⊥ = cc in n

pub no_item_from : (k : ℕ) (list : List ℕ) → BeginsWithNone item (suc (suc (suc (suc (suc (suc (suc k)))))) ∷ list)
no_item_from k list (Graph text) rest fits is = let n : ⊥ = cc in n
no_item_from k list _ rest fits is = let n : ⊥ = cc in n

no_graph : (list : List ℕ) → ¬ Begins bytes list → BeginsWithNone item (1 ∷ list)
no_graph list none (Graph text) rest fits is = none (record { thing = text; rest = rest; fits = fits; is = cc })
no_graph list none _ rest fits is = let n : ⊥ = cc in n

pub no_content : (list : List ℕ) → ¬ Begins content list → BeginsWithNone item (2 ∷ list)
no_content list none (Content v) rest fits is = none (record { thing = v; rest = rest; fits = fits; is = cc })
no_content list none _ rest fits is = let n : ⊥ = cc in n

no_put : (list : List ℕ) → ¬ Begins (both bytes number) list → BeginsWithNone item (3 ∷ list)
no_put list none (Put name m) rest fits is = none (record { thing = (name, m); rest = rest; fits = fits; is = cc })
no_put list none _ rest fits is = let n : ⊥ = cc in n

pub no_drop : (list : List ℕ) → ¬ Begins bytes list → BeginsWithNone item (4 ∷ list)
no_drop list none (Dropped name) rest fits is = none (record { thing = name; rest = rest; fits = fits; is = cc })
no_drop list none _ rest fits is = let n : ⊥ = cc in n

no_kept : (list : List ℕ) → ¬ Begins (both call outcome) list → BeginsWithNone item (5 ∷ list)
no_kept list none (Kept c o) rest fits is = none (record { thing = (c, o); rest = rest; fits = fits; is = cc })
no_kept list none _ rest fits is = let n : ⊥ = cc in n

no_noted : (list : List ℕ) → ¬ Begins node_record list → BeginsWithNone item (6 ∷ list)
no_noted list none (Noted r) rest fits is = none (record { thing = r; rest = rest; fits = fits; is = cc })
no_noted list none _ rest fits is = let n : ⊥ = cc in n

pub item_decided : IsDecided item
item_decided [] = begins_not item [] no_item
item_decided (zero ∷ list) = begins_not item (0 ∷ list) (no_item_zero list)
item_decided (suc zero ∷ list) = tagged item bytes (λ (text : List ℕ). Graph text) 1 list (λ a. refl) (λ a fits. fits) (no_graph list) (bytes_decided list)
item_decided (suc (suc zero) ∷ list) = tagged item content (λ (v : Value). Content v) 2 list (λ a. refl) (λ a fits. fits) (no_content list) (content_decided list)
item_decided (suc (suc (suc zero)) ∷ list) =
    tagged item (both bytes number) (λ (p : List ℕ × ℕ). Put p.0 p.1) 3 list (λ a. refl) (λ a fits. fits) (no_put list) (both_forms_decided bytes number one_bytes bytes_decided number_decided list)
item_decided (suc (suc (suc (suc zero))) ∷ list) = tagged item bytes (λ (name : List ℕ). Dropped name) 4 list (λ a. refl) (λ a fits. fits) (no_drop list) (bytes_decided list)
item_decided (suc (suc (suc (suc (suc zero)))) ∷ list) =
    tagged item (both call outcome) (λ (p : StoredCall × StoredOutcome). Kept p.0 p.1) 5 list (λ a. refl) (λ a fits. fits) (no_kept list) (both_forms_decided call outcome one_call call_decided outcome_decided list)
item_decided (suc (suc (suc (suc (suc (suc zero))))) ∷ list) = tagged item node_record (λ (r : StoredRecord). Noted r) 6 list (λ a. refl) (λ a fits. fits) (no_noted list) (node_record_decided list)
item_decided (suc (suc (suc (suc (suc (suc (suc k)))))) ∷ list) = begins_not item (suc (suc (suc (suc (suc (suc (suc k)))))) ∷ list) (no_item_from k list)
