-- The records of a store file: a line for each row of the table of records in docs/engineer/store-format.md.
use Rattle.std.specs.Prelude.{⊤, ℕ, List, [], ◌∷◌}
use Rattle.object_values.specs.declared.messages.Message.{Message}
use Rattle.object_values.specs.declared.messages.Status.{Status}
use Rattle.object_values.specs.declared.messages.Status.TheVariants.{Ok, Warning, Error, Abort}
use Rattle.object_values.specs.declared.nodes.ParamValue.{ParamValue}
use Rattle.object_values.specs.declared.nodes.Step.{Step}
use Rattle.object_values.specs.declared.nodes.Step.TheVariants.{Maker, Pick}
use Rattle.object_values.specs.declared.nodes.Node.{Node as PlainNode}
use Rattle.object_values.specs.declared.views.Part.{Part}
use Rattle.object_values.specs.declared.views.Value.{Value}
use Rattle.object_values.specs.declared.views.Value.TheVariants.{Simple, List as Listed, Compound}
use Rattle.object_values.specs.declared.calls.OwnLine.{OwnLine}
use Rattle.object_values.specs.declared.items.StoredPart.{StoredPart}
use Rattle.object_values.specs.declared.items.StoredCall.{StoredCall}
use Rattle.object_values.specs.declared.items.StoredOutput.{StoredOutput}
use Rattle.object_values.specs.declared.items.StoredOutcome.{StoredOutcome}
use Rattle.object_values.specs.declared.items.StoredDep.{StoredDep}
use Rattle.object_values.specs.declared.items.StoredRecord.{StoredRecord}
use Rattle.object_values.specs.declared.items.Item.{Item}
use Rattle.object_values.specs.declared.items.Item.TheVariants.{Graph, Content, Put, Dropped, Kept, Node}
use Rattle.meaning_records.specs.Forms.{Form, bytes, number, both, by_parts, list_of, option_of}

-- ---- statuses, and the levels of messages

abbrev pub status_number : Status → ℕ
status_number Ok = 0
status_number Warning = 1
status_number Error = 2
status_number Abort = 3

abbrev pub status : Form Status
status = record { spell = λ s. status_number s ∷ []; fits = λ s. ⊤ }

-- ---- nodes and values

abbrev pub pair : Form ParamValue
pair = by_parts (λ p. (p.param, p.value)) (both bytes bytes)

abbrev pub spell_step : Step → List ℕ
spell_step (Maker maker) = 1 ∷ number.spell maker
spell_step (Pick key) = 2 ∷ bytes.spell key

abbrev pub fits_step : Step → Type 0
fits_step (Maker maker) = number.fits maker
fits_step (Pick key) = bytes.fits key

abbrev pub step : Form Step
step = record { spell = spell_step; fits = fits_step }

abbrev pub node : Form PlainNode
node = by_parts (λ n. (n.source, (n.params, n.steps))) (both bytes (both (list_of pair) (list_of step)))

abbrev pub part : Form Part
part = by_parts (λ p. (p.name, p.body)) (both bytes bytes)

abbrev pub spell_value : Value → List ℕ
spell_value (Simple text) = 1 ∷ bytes.spell text
spell_value (Listed nodes) = 2 ∷ (list_of node).spell nodes
spell_value (Compound parts) = 3 ∷ (list_of part).spell parts

abbrev pub fits_value : Value → Type 0
fits_value (Simple text) = bytes.fits text
fits_value (Listed nodes) = (list_of node).fits nodes
fits_value (Compound parts) = (list_of part).fits parts

abbrev pub value : Form Value
value = record { spell = spell_value; fits = fits_value }

-- ---- calls and outcomes

abbrev pub stored_part : Form StoredPart
stored_part = by_parts (λ p. (p.slot, (p.label, p.content))) (both number (both bytes (option_of number)))

abbrev pub call : Form StoredCall
call =
    by_parts (λ c. (c.tool, (c.version, (c.words, (c.params, (c.parts, c.outs))))))
    (both bytes (both bytes (both (list_of bytes) (both (list_of pair) (both (list_of stored_part) (list_of bytes))))))

abbrev pub line : Form OwnLine
line = by_parts (λ l. (l.level, l.text)) (both status bytes)

abbrev pub output : Form StoredOutput
output = by_parts (λ o. (o.name, o.content)) (both bytes number)

abbrev pub outcome : Form StoredOutcome
outcome = by_parts (λ o. (o.status, (o.lines, o.outputs))) (both status (both (list_of line) (list_of output)))

-- ---- records of nodes

abbrev pub message : Form Message
message = by_parts (λ m. (m.label, (m.level, m.text))) (both bytes (both status bytes))

abbrev pub dep : Form StoredDep
dep = by_parts (λ d. (d.node, d.content)) (both node (option_of number))

abbrev pub node_record : Form StoredRecord
node_record =
    by_parts (λ r. (r.node, (r.deps, (r.reached, (r.value, (r.own_status, (r.own_messages, (r.status, (r.messages, r.height)))))))))
    (both node (both (list_of dep) (both number (both (option_of number)
    (both status (both (list_of message) (both status (both (list_of message) number))))))))

-- ---- items

-- a content is the record of a value, as bytes with their length
abbrev pub content : Form Value
content = record { spell = λ v. bytes.spell (value.spell v); fits = λ v. value.fits v × bytes.fits (value.spell v) }

abbrev pub spell_item : Item → List ℕ
spell_item (Graph text) = 1 ∷ bytes.spell text
spell_item (Content v) = 2 ∷ content.spell v
spell_item (Put name n) = 3 ∷ (both bytes number).spell (name, n)
spell_item (Dropped name) = 4 ∷ bytes.spell name
spell_item (Kept c o) = 5 ∷ (both call outcome).spell (c, o)
spell_item (Node r) = 6 ∷ node_record.spell r

abbrev pub fits_item : Item → Type 0
fits_item (Graph text) = bytes.fits text
fits_item (Content v) = content.fits v
fits_item (Put name n) = (both bytes number).fits (name, n)
fits_item (Dropped name) = bytes.fits name
fits_item (Kept c o) = (both call outcome).fits (c, o)
fits_item (Node r) = node_record.fits r

abbrev pub item : Form Item
item = record { spell = spell_item; fits = fits_item }
