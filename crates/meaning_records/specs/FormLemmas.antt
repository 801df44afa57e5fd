-- Each form is of one thing: what it spells tells the thing, and where it ends.
use Rattle.std.proofs.Common.{◌≡◌, ℕ, zero, suc, List, [], ◌∷◌, ◌++◌, length, flat_map, Option, Some, None, refl, sym, ap, ap₂, ◌∙◌, append_assoc, All}
use Rattle.std.proofs.lemmas.List.Elements.{All-head, All-tail}
use Rattle.object_values.specs.declared.messages.Message.{Message}
use Rattle.object_values.specs.declared.messages.Status.{Status}
use Rattle.object_values.specs.declared.messages.Status.TheVariants.{Ok, Warning, Error, Abort}
use Rattle.object_values.specs.declared.nodes.ParamValue.{ParamValue}
use Rattle.object_values.specs.declared.nodes.Step.{Step}
use Rattle.object_values.specs.declared.nodes.Step.TheVariants.{Maker, Pick}
use Rattle.object_values.specs.declared.nodes.Node.{Node}
use Rattle.object_values.specs.declared.views.Part.{Part}
use Rattle.object_values.specs.declared.views.Value.{Value}
use Rattle.object_values.specs.declared.views.Value.TheVariants.{Simple, List as Listed, Compound}
use Rattle.object_values.specs.declared.calls.OwnLine.{OwnLine}
use Rattle.odin_bytes.specs.Fields.{u32_field}
use Rattle.odin_bytes.specs.FieldLemmas.{u32_front, body_front}
use Rattle.object_values.specs.declared.items.StoredPart.{StoredPart}
use Rattle.object_values.specs.declared.items.StoredCall.{StoredCall}
use Rattle.object_values.specs.declared.items.StoredOutput.{StoredOutput}
use Rattle.object_values.specs.declared.items.StoredOutcome.{StoredOutcome}
use Rattle.object_values.specs.declared.items.StoredDep.{StoredDep}
use Rattle.object_values.specs.declared.items.StoredRecord.{StoredRecord}
use Rattle.object_values.specs.declared.items.Item.TheVariants.{Graph, Content, Put, Dropped, Kept, Node as Noted}
use Rattle.meaning_records.specs.Forms.{Form, IsOfOneThing, bytes, number, both, by_parts, list_of, option_of}
use Rattle.meaning_records.specs.Records.{status_number, status, pair, step, node, part, value, stored_part, call, line, output, outcome, message, dep, node_record, content, item}

-- ---- forms of things that have no parts

pub one_bytes : IsOfOneThing bytes
one_bytes a b s t short_a short_b e = body_front a b s t short_a short_b e

pub one_number : IsOfOneThing number
one_number a b s t small_a small_b e = u32_front a b s t small_a small_b e

-- ---- forms made of others

pub one_both : {A B : Type 0} (first : Form A) (second : Form B) → IsOfOneThing first → IsOfOneThing second → IsOfOneThing (both first second)
one_both {A} {B} first second one_first one_second a b s t fit_a fit_b e =
    let front = one_first a.0 b.0 (second.spell a.1 ++ s) (second.spell b.1 ++ t) fit_a.0 fit_b.0 (sym (append_assoc (first.spell a.0) (second.spell a.1) s) ∙ e ∙ append_assoc (first.spell b.0) (second.spell b.1) t) in
    let back = one_second a.1 b.1 s t fit_a.1 fit_b.1 front.1 in
    let same : ◌≡◌ {A = A × B} (a.0, a.1) (b.0, b.1) = ap₂ {C = A × B} (λ (x : A) (y : B). (x, y)) front.0 back.0 in
    (same, back.1)

-- where the parts tell the thing
pub one_by_parts : {T P : Type 0} (parts : T → P) (form : Form P) → ((a b : T) → parts a ≡ parts b → a ≡ b) → IsOfOneThing form → IsOfOneThing (by_parts parts form)
one_by_parts parts form told one a b s t fit_a fit_b e = let same = one (parts a) (parts b) s t fit_a fit_b e in (told a b same.0, same.1)

-- as many members
same_members : {T : Type 0} (form : Form T) → IsOfOneThing form → (xs ys : List T) (s t : List ℕ) → length xs ≡ length ys → All form.fits xs → All form.fits ys → flat_map form.spell xs ++ s ≡ flat_map form.spell ys ++ t → (xs ≡ ys) × (s ≡ t)
same_members form one [] [] s t long fit_xs fit_ys e = (refl, e)
same_members form one [] (y ∷ ys) s t long fit_xs fit_ys e = let no : ⊥ = cc in absurd no
same_members form one (x ∷ xs) [] s t long fit_xs fit_ys e = let no : ⊥ = cc in absurd no
same_members {T} form one (x ∷ xs) (y ∷ ys) s t long fit_xs fit_ys e =
    let front = one x y (flat_map form.spell xs ++ s) (flat_map form.spell ys ++ t) (All-head form.fits x xs fit_xs) (All-head form.fits y ys fit_ys)
    (sym (append_assoc (form.spell x) (flat_map form.spell xs) s) ∙ e ∙ append_assoc (form.spell y) (flat_map form.spell ys) t) in
    let as_long : length xs ≡ length ys = cc in
    let rest = same_members form one xs ys s t as_long (All-tail form.fits x xs fit_xs) (All-tail form.fits y ys fit_ys) front.1 in
    (ap₂ (λ (z : T) zs. z ∷ zs) front.0 rest.0, rest.1)

pub one_list : {T : Type 0} (form : Form T) → IsOfOneThing form → IsOfOneThing (list_of form)
one_list form one xs ys s t fit_xs fit_ys e =
    let count = u32_front (length xs) (length ys) (flat_map form.spell xs ++ s) (flat_map form.spell ys ++ t) fit_xs.0 fit_ys.0
    (sym (append_assoc (u32_field (length xs)) (flat_map form.spell xs) s) ∙ e ∙ append_assoc (u32_field (length ys)) (flat_map form.spell ys) t) in
    same_members form one xs ys s t count.0 fit_xs.1 fit_ys.1 count.1

pub one_option : {T : Type 0} (form : Form T) → IsOfOneThing form → IsOfOneThing (option_of form)
one_option form one None None s t fit_a fit_b e = (refl, cc)
one_option form one None (Some b) s t fit_a fit_b e = let no : ⊥ = cc in absurd no
one_option form one (Some a) None s t fit_a fit_b e = let no : ⊥ = cc in absurd no
one_option {T} form one (Some a) (Some b) s t fit_a fit_b e =
    let rest : form.spell a ++ s ≡ form.spell b ++ t = cc in
    let same = one a b s t fit_a fit_b rest in
    (ap (λ (x : T). Some x) same.0, same.1)

-- ---- statuses

status_of : ℕ → Status
status_of zero = Ok
status_of (suc zero) = Warning
status_of (suc (suc zero)) = Error
status_of (suc (suc (suc n))) = Abort

status_back : (s : Status) → status_of (status_number s) ≡ s
unfolding status_of
status_back Ok = refl
status_back Warning = refl
status_back Error = refl
status_back Abort = refl

pub one_status : IsOfOneThing status
one_status a b s t fit_a fit_b e =
    let same : status_number a ≡ status_number b = cc in
    (sym (status_back a) ∙ ap status_of same ∙ status_back b, cc)

-- ---- nodes and values

join_pair : List ℕ × List ℕ → ParamValue
join_pair t = record { param = t.0; value = t.1 }

pub one_pair : IsOfOneThing pair
unfolding join_pair
one_pair = one_by_parts (λ (p : ParamValue). (p.param, p.value)) (both bytes bytes) (λ a b e. ap join_pair e) (one_both bytes bytes one_bytes one_bytes)

pub one_step : IsOfOneThing step
one_step (Maker a) (Maker b) s t fit_a fit_b e =
    let rest : number.spell a ++ s ≡ number.spell b ++ t = cc in
    let same = one_number a b s t fit_a fit_b rest in
    (ap (λ (n : ℕ). Maker n) same.0, same.1)
one_step (Pick a) (Pick b) s t fit_a fit_b e =
    let rest : bytes.spell a ++ s ≡ bytes.spell b ++ t = cc in
    let same = one_bytes a b s t fit_a fit_b rest in
    (ap (λ (key : List ℕ). Pick key) same.0, same.1)
one_step _ _ s t fit_a fit_b e = let no : ⊥ = cc in absurd no

join_node : List ℕ × (List ParamValue × List Step) → Node
join_node t = record { source = t.0; params = t.1.0; steps = t.1.1 }

pub one_node : IsOfOneThing node
unfolding join_node
one_node =
    one_by_parts (λ (n : Node). (n.source, (n.params, n.steps))) (both bytes (both (list_of pair) (list_of step))) (λ a b e. ap join_node e)
    (one_both bytes (both (list_of pair) (list_of step)) one_bytes (one_both (list_of pair) (list_of step) (one_list pair one_pair) (one_list step one_step)))

join_part : List ℕ × List ℕ → Part
join_part t = record { name = t.0; body = t.1 }

pub one_part : IsOfOneThing part
unfolding join_part
one_part = one_by_parts (λ (p : Part). (p.name, p.body)) (both bytes bytes) (λ a b e. ap join_part e) (one_both bytes bytes one_bytes one_bytes)

pub one_value : IsOfOneThing value
one_value (Simple a) (Simple b) s t fit_a fit_b e =
    let rest : bytes.spell a ++ s ≡ bytes.spell b ++ t = cc in
    let same = one_bytes a b s t fit_a fit_b rest in
    (ap (λ (text : List ℕ). Simple text) same.0, same.1)
one_value (Listed a) (Listed b) s t fit_a fit_b e =
    let rest : (list_of node).spell a ++ s ≡ (list_of node).spell b ++ t = cc in
    let same = one_list node one_node a b s t fit_a fit_b rest in
    (ap (λ (nodes : List Node). Listed nodes) same.0, same.1)
one_value (Compound a) (Compound b) s t fit_a fit_b e =
    let rest : (list_of part).spell a ++ s ≡ (list_of part).spell b ++ t = cc in
    let same = one_list part one_part a b s t fit_a fit_b rest in
    (ap (λ (parts : List Part). Compound parts) same.0, same.1)
one_value _ _ s t fit_a fit_b e = let no : ⊥ = cc in absurd no

-- ---- calls and outcomes

join_stored_part : ℕ × (List ℕ × Option ℕ) → StoredPart
join_stored_part t = record { slot = t.0; label = t.1.0; content = t.1.1 }

pub one_stored_part : IsOfOneThing stored_part
unfolding join_stored_part
one_stored_part =
    one_by_parts (λ (p : StoredPart). (p.slot, (p.label, p.content))) (both number (both bytes (option_of number))) (λ a b e. ap join_stored_part e)
    (one_both number (both bytes (option_of number)) one_number (one_both bytes (option_of number) one_bytes (one_option number one_number)))

-- what stands after a call's version
one_tail_of_call : IsOfOneThing (both (list_of bytes) (both (list_of pair) (both (list_of stored_part) (list_of bytes))))
one_tail_of_call =
    one_both (list_of bytes) (both (list_of pair) (both (list_of stored_part) (list_of bytes))) (one_list bytes one_bytes)
    (one_both (list_of pair) (both (list_of stored_part) (list_of bytes)) (one_list pair one_pair)
    (one_both (list_of stored_part) (list_of bytes) (one_list stored_part one_stored_part) (one_list bytes one_bytes)))

join_call : List ℕ × (List ℕ × (List (List ℕ) × (List ParamValue × (List StoredPart × List (List ℕ))))) → StoredCall
join_call t = record { tool = t.0; version = t.1.0; words = t.1.1.0; params = t.1.1.1.0; parts = t.1.1.1.1.0; outs = t.1.1.1.1.1 }

pub one_call : IsOfOneThing call
unfolding join_call
one_call =
    one_by_parts (λ (c : StoredCall). (c.tool, (c.version, (c.words, (c.params, (c.parts, c.outs))))))
    (both bytes (both bytes (both (list_of bytes) (both (list_of pair) (both (list_of stored_part) (list_of bytes)))))) (λ a b e. ap join_call e)
    (one_both bytes (both bytes (both (list_of bytes) (both (list_of pair) (both (list_of stored_part) (list_of bytes))))) one_bytes
    (one_both bytes (both (list_of bytes) (both (list_of pair) (both (list_of stored_part) (list_of bytes)))) one_bytes one_tail_of_call))

join_line : Status × List ℕ → OwnLine
join_line t = record { level = t.0; text = t.1 }

pub one_line : IsOfOneThing line
unfolding join_line
one_line = one_by_parts (λ (l : OwnLine). (l.level, l.text)) (both status bytes) (λ a b e. ap join_line e) (one_both status bytes one_status one_bytes)

join_output : List ℕ × ℕ → StoredOutput
join_output t = record { name = t.0; content = t.1 }

pub one_output : IsOfOneThing output
unfolding join_output
one_output = one_by_parts (λ (o : StoredOutput). (o.name, o.content)) (both bytes number) (λ a b e. ap join_output e) (one_both bytes number one_bytes one_number)

join_outcome : Status × (List OwnLine × List StoredOutput) → StoredOutcome
join_outcome t = record { status = t.0; lines = t.1.0; outputs = t.1.1 }

pub one_outcome : IsOfOneThing outcome
unfolding join_outcome
one_outcome =
    one_by_parts (λ (o : StoredOutcome). (o.status, (o.lines, o.outputs))) (both status (both (list_of line) (list_of output))) (λ a b e. ap join_outcome e)
    (one_both status (both (list_of line) (list_of output)) one_status (one_both (list_of line) (list_of output) (one_list line one_line) (one_list output one_output)))

-- ---- records of nodes

join_message : List ℕ × (Status × List ℕ) → Message
join_message t = record { label = t.0; level = t.1.0; text = t.1.1 }

pub one_message : IsOfOneThing message
unfolding join_message
one_message =
    one_by_parts (λ (m : Message). (m.label, (m.level, m.text))) (both bytes (both status bytes)) (λ a b e. ap join_message e)
    (one_both bytes (both status bytes) one_bytes (one_both status bytes one_status one_bytes))

join_dep : Node × Option ℕ → StoredDep
join_dep t = record { node = t.0; content = t.1 }

pub one_dep : IsOfOneThing dep
unfolding join_dep
one_dep =
    one_by_parts (λ (d : StoredDep). (d.node, d.content)) (both node (option_of number)) (λ a b e. ap join_dep e)
    (one_both node (option_of number) one_node (one_option number one_number))

-- the present part of a record
one_present : IsOfOneThing (both status (both (list_of message) number))
one_present =
    one_both status (both (list_of message) number) one_status
    (one_both (list_of message) number (one_list message one_message) one_number)

-- what stands after a record's deps
one_tail_of_record : IsOfOneThing (both number (both (option_of number) (both status (both (list_of message) (both status (both (list_of message) number))))))
one_tail_of_record =
    one_both number (both (option_of number) (both status (both (list_of message) (both status (both (list_of message) number))))) one_number
    (one_both (option_of number) (both status (both (list_of message) (both status (both (list_of message) number)))) (one_option number one_number)
    (one_both status (both (list_of message) (both status (both (list_of message) number))) one_status
    (one_both (list_of message) (both status (both (list_of message) number)) (one_list message one_message) one_present)))

join_record : Node × (List StoredDep × (ℕ × (Option ℕ × (Status × (List Message × (Status × (List Message × ℕ))))))) → StoredRecord
join_record t = record {
  node = t.0;
  deps = t.1.0;
  reached = t.1.1.0;
  value = t.1.1.1.0;
  own_status = t.1.1.1.1.0;
  own_messages = t.1.1.1.1.1.0;
  status = t.1.1.1.1.1.1.0;
  messages = t.1.1.1.1.1.1.1.0;
  height = t.1.1.1.1.1.1.1.1;
}

pub one_node_record : IsOfOneThing node_record
unfolding join_record
one_node_record =
    one_by_parts (λ (r : StoredRecord). (r.node, (r.deps, (r.reached, (r.value, (r.own_status, (r.own_messages, (r.status, (r.messages, r.height)))))))))
    (both node (both (list_of dep) (both number (both (option_of number)
    (both status (both (list_of message) (both status (both (list_of message) number)))))))) (λ a b e. ap join_record e)
    (one_both node (both (list_of dep) (both number (both (option_of number) (both status (both (list_of message) (both status (both (list_of message) number))))))) one_node
    (one_both (list_of dep) (both number (both (option_of number) (both status (both (list_of message) (both status (both (list_of message) number)))))) (one_list dep one_dep) one_tail_of_record))

-- ---- items

pub one_content : IsOfOneThing content
one_content a b s t fit_a fit_b e =
    let same = body_front (value.spell a) (value.spell b) s t fit_a.1 fit_b.1 e in
    ((one_value a b [] [] fit_a.0 fit_b.0 (ap (λ l. l ++ []) same.0)).0, same.1)

pub one_item : IsOfOneThing item
one_item (Graph a) (Graph b) s t fit_a fit_b e =
    let rest : bytes.spell a ++ s ≡ bytes.spell b ++ t = cc in
    let same = one_bytes a b s t fit_a fit_b rest in
    (ap (λ (text : List ℕ). Graph text) same.0, same.1)
one_item (Content a) (Content b) s t fit_a fit_b e =
    let rest : content.spell a ++ s ≡ content.spell b ++ t = cc in
    let same = one_content a b s t fit_a fit_b rest in
    (ap (λ (v : Value). Content v) same.0, same.1)
one_item (Put a m) (Put b n) s t fit_a fit_b e =
    let rest : (both bytes number).spell (a, m) ++ s ≡ (both bytes number).spell (b, n) ++ t = cc in
    let same = one_both bytes number one_bytes one_number (a, m) (b, n) s t fit_a fit_b rest in
    (ap (λ (p : List ℕ × ℕ). Put p.0 p.1) same.0, same.1)
one_item (Dropped a) (Dropped b) s t fit_a fit_b e =
    let rest : bytes.spell a ++ s ≡ bytes.spell b ++ t = cc in
    let same = one_bytes a b s t fit_a fit_b rest in
    (ap (λ (name : List ℕ). Dropped name) same.0, same.1)
one_item (Kept a c) (Kept b d) s t fit_a fit_b e =
    let rest : (both call outcome).spell (a, c) ++ s ≡ (both call outcome).spell (b, d) ++ t = cc in
    let same = one_both call outcome one_call one_outcome (a, c) (b, d) s t fit_a fit_b rest in
    (ap (λ (p : StoredCall × StoredOutcome). Kept p.0 p.1) same.0, same.1)
one_item (Noted a) (Noted b) s t fit_a fit_b e =
    let rest : node_record.spell a ++ s ≡ node_record.spell b ++ t = cc in
    let same = one_node_record a b s t fit_a fit_b rest in
    (ap (λ (r : StoredRecord). Noted r) same.0, same.1)
one_item _ _ s t fit_a fit_b e = let no : ⊥ = cc in absurd no
