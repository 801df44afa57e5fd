-- That `==` of the plain types answers whether two values are equal.
use Rattle.std.specs.Prelude.{◌≡◌, Bool, true, false, ◌&&◌}
use Rattle.std.specs.Bool.{Decides}
use Rattle.std.proofs.Common.{rules, refl}
use Rattle.std.proofs.lemmas.Bool.Decides.{Decides-eqb}
use Rattle.std.specs.Cmp.Lexicographic.{bytes_decides, pointwise_decides}
use Rattle.sequences.specs.Exact.{option_exact}
use Rattle.object_values.specs.declared.messages.Status.{Status}
use Rattle.object_values.specs.contracts.messages.StatusPartialEq.TheImpl.{ghosts as status_eq}
use Rattle.object_values.specs.declared.messages.Message.{Message}
use Rattle.object_values.specs.contracts.messages.MessagePartialEq.TheImpl.{ghosts as message_eq}
use Rattle.object_values.specs.declared.nodes.ParamValue.{ParamValue}
use Rattle.object_values.specs.contracts.nodes.ParamValuePartialEq.TheImpl.{ghosts as param_value_eq}
use Rattle.object_values.specs.declared.nodes.Step.{Step}
use Rattle.object_values.specs.declared.nodes.Step.TheVariants as step
use Rattle.object_values.specs.contracts.nodes.StepPartialEq.TheImpl.{ghosts as step_eq}
use Rattle.object_values.specs.declared.nodes.Node.{Node}
use Rattle.object_values.specs.contracts.nodes.NodePartialEq.TheImpl.{ghosts as node_eq}
use Rattle.object_values.specs.declared.calls.CallPart.{CallPart}
use Rattle.object_values.specs.contracts.calls.CallPartPartialEq.TheImpl.{ghosts as call_part_eq}
use Rattle.object_values.specs.declared.calls.Call.{Call}
use Rattle.object_values.specs.contracts.calls.CallPartialEq.TheImpl.{ghosts as call_eq}
use Rattle.object_values.specs.declared.jobs.FileBody.{FileBody}
use Rattle.object_values.specs.contracts.jobs.FileBodyPartialEq.TheImpl.{ghosts as file_body_eq}
use Rattle.object_values.specs.declared.jobs.Job.{Job}
use Rattle.object_values.specs.contracts.jobs.JobPartialEq.TheImpl.{ghosts as job_eq}

-- two tests decide two facts
both : {P Q : Type 0} (a b : Bool) → Decides a P → Decides b Q → Decides (a && b) (P × Q)
both true b p q = (λ e. (p.0 refl, q.0 e), λ h. q.1 h.1)
both false b p q = (λ e. cc, λ h. p.1 h.0)

all_of : {P Q : Type 0} {a b : Bool} → Decides a P → Decides b Q → Decides (a && b) (P × Q)
all_of {a = a} {b = b} p q = both a b p q

-- a test decides what follows from its fact and gives it back
by_parts : {P Q : Type 0} (a : Bool) → Decides a P → (P → Q) → (Q → P) → Decides a Q
by_parts a d to from = (λ e. to (d.0 e), λ q. d.1 (from q))

pub status_exact : (x y : Status) → Decides (status_eq.eq x y) (x ≡ y)
status_exact x y = search rules

pub message_exact : (x y : Message) → Decides (message_eq.eq x y) (x ≡ y)
message_exact x y = search (rules, bytes_decides x.label y.label, status_exact x.level y.level, bytes_decides x.text y.text)

pub param_value_exact : (x y : ParamValue) → Decides (param_value_eq.eq x y) (x ≡ y)
param_value_exact x y = search (rules, bytes_decides x.param y.param, bytes_decides x.value y.value)

pub step_exact : (x y : Step) → Decides (step_eq.eq x y) (x ≡ y)
step_exact (step.Maker a) (step.Maker b) = search (rules, Decides-eqb a b)
step_exact (step.Maker a) (step.Pick b) = search rules
step_exact (step.Pick a) (step.Maker b) = search rules
step_exact (step.Pick a) (step.Pick b) = search (rules, bytes_decides a b)

pub node_exact : (x y : Node) → Decides (node_eq.eq x y) (x ≡ y)
node_exact x y = search (rules, bytes_decides x.source y.source, pointwise_decides param_value_exact x.params y.params, pointwise_decides step_exact x.steps y.steps)

pub call_part_exact : (x y : CallPart) → Decides (call_part_eq.eq x y) (x ≡ y)
call_part_exact x y = search (rules, Decides-eqb x.slot y.slot, bytes_decides x.label y.label, option_exact bytes_decides x.body y.body)

pub call_exact : (x y : Call) → Decides (call_eq.eq x y) (x ≡ y)
call_exact x y = search (rules, bytes_decides x.tool y.tool, bytes_decides x.version y.version, pointwise_decides bytes_decides x.words y.words, pointwise_decides param_value_exact x.params y.params, pointwise_decides call_part_exact x.parts y.parts, pointwise_decides bytes_decides x.outs y.outs)

pub file_body_exact : (x y : FileBody) → Decides (file_body_eq.eq x y) (x ≡ y)
file_body_exact x y = search (rules, bytes_decides x.name y.name, bytes_decides x.body y.body)

pub job_exact : (x y : Job) → Decides (job_eq.eq x y) (x ≡ y)
job_exact x y = search (rules, pointwise_decides bytes_decides x.words y.words, pointwise_decides file_body_exact x.files y.files, pointwise_decides bytes_decides x.outs y.outs)
