-- A derived view has a value exactly where its status isn't `Abort`.
use Rattle.std.proofs.Common.{◌≡◌, ◌↔◌, ℕ, zero, suc, Bool, true, false, List, [], ◌∷◌, inl, inr, sym, ap, ◌∙◌, subst, refl, ◌&&◌, cond, is_some, slice_get}
use Rattle.std.specs.Prelude.{Option, Some, None, option_map}
use Rattle.object_values.specs.declared.messages.Status.{Status}
use Rattle.object_values.specs.declared.messages.Status.TheVariants.{Ok, Warning, Error, Abort}
use Rattle.object_values.specs.declared.messages.Message.{Message}
use Rattle.object_values.specs.declared.nodes.Step.{Step}
use Rattle.object_values.specs.declared.nodes.Step.TheVariants.{Maker, Pick}
use Rattle.object_values.specs.declared.nodes.Node.{Node}
use Rattle.object_values.specs.declared.views.Value.{Value}
use Rattle.object_values.specs.declared.views.Value.TheVariants.{Simple, List as Listed, Compound}
use Rattle.object_values.specs.declared.views.View.{View}
use Rattle.object_values.specs.declared.expressions.Lines.{Lines}
use Rattle.object_values.specs.declared.expressions.Lines.TheVariants.{These, TooMany}
use Rattle.object_values.specs.declared.graph.Make.{Make}
use Rattle.object_values.specs.declared.graph.Make.TheVariants.{Tool, Read, Each, Pack}
use Rattle.object_values.specs.declared.graph.MakerDecl.{MakerDecl}
use Rattle.object_values.specs.declared.calls.Outcome.{Outcome}
use Rattle.meaning_texts.specs.References.{references}
use Rattle.meaning_graph.specs.Graphs.{Text, Graph, makers, kind_named}
use Rattle.meaning_texts.specs.Lists.{IsIn}
use Rattle.meaning_texts.proofs.Lemmas.{in_all_pass}
use Rattle.meaning_tasks.specs.Nodes.{last_step}
use Rattle.meaning_tasks.specs.Labels.{label_of}
use Rattle.meaning_tasks.specs.Values.{Picked, element, body, pick, worst}
use Rattle.meaning_tasks.specs.Tasks.{Own, fine_unless, lines_own, read_own, each_own, element_name, Task, given, picked, mapped, packed, tooled, unfit, PackPart, make_task, maker_task, step_task, task_of}
use Rattle.meaning_tasks.specs.Needs.{Results, Known, values_of, has_value, element_in, picked_element, counted_needs}
use Rattle.meaning_tasks.specs.Calls.{all_valued}
use Rattle.meaning_tasks.specs.Settle.{SourceLookup, given_own, element_own, pick_own, picked_own, mapped_own, packed_own, at_status, outcome_own, own_of, status_in, worst_of, settled}
use Rattle.meaning_tasks.proofs.Lemmas.{picked_counted_are}
use Rattle.meaning_derive.specs.Derive.{Sources, text_of, Outcomes, names_for, derive}
use Rattle.meaning_derive.proofs.Steps.{step_so}

abbrev pub runs_on : Status → Bool
runs_on Ok = true
runs_on Warning = true
runs_on Error = true
runs_on Abort = false

-- a value stands exactly where the status isn't `Abort`
abbrev pub IsSoundOwn : Own → Type 0
IsSoundOwn own = is_some own.value ≡ runs_on own.status

abbrev pub IsSoundView : View → Type 0
IsSoundView view = is_some view.value ≡ runs_on view.status

worst_runs_on : (a b : Status) → runs_on (worst a b) ≡ (runs_on a && runs_on b)
worst_runs_on Ok Ok = refl
worst_runs_on Ok Warning = refl
worst_runs_on Ok Error = refl
worst_runs_on Ok Abort = refl
worst_runs_on Warning Ok = refl
worst_runs_on Warning Warning = refl
worst_runs_on Warning Error = refl
worst_runs_on Warning Abort = refl
worst_runs_on Error Ok = refl
worst_runs_on Error Warning = refl
worst_runs_on Error Error = refl
worst_runs_on Error Abort = refl
worst_runs_on Abort Ok = refl
worst_runs_on Abort Warning = refl
worst_runs_on Abort Error = refl
worst_runs_on Abort Abort = refl

-- ---- what a node itself gives

unless_sound : (v : Value) (messages : List Message) → IsSoundOwn (fine_unless v messages)
unless_sound v [] = refl
unless_sound v (m ∷ messages) = refl

lines_sound : (g : Graph) (n : Node) (of : Text) (lines : Lines) → IsSoundOwn (lines_own g n of lines)
lines_sound g n of (These lines) = unless_sound _ _
lines_sound g n of TooMany = refl

read_sound : (g : Graph) (n : Node) (of : Text) (v : Value) → IsSoundOwn (read_own g n of v)
read_sound g n of (Simple text) = lines_sound g n of (references text)
read_sound g n of (Listed elements) = refl
read_sound g n of (Compound parts) = refl

each_sound : (g : Graph) (n : Node) (of : Text) (v : Value) → IsSoundOwn (each_own g n of v)
each_sound g n of (Simple text) = refl
each_sound g n of (Listed elements) = unless_sound _ _
each_sound g n of (Compound parts) = refl

-- what follows from the value of a base alone is sound
abbrev pub IsSoundTask : Task → Type 0
IsSoundTask (given name) = Unit {0}
IsSoundTask (picked base key) = Unit {0}
IsSoundTask (mapped base f) = (v : Value) → IsSoundOwn (f v)
IsSoundTask (packed parts) = Unit {0}
IsSoundTask (tooled t) = Unit {0}
IsSoundTask unfit = Unit {0}

make_sound : (g : Graph) (n : Node) (m : MakerDecl) (make : Make) → IsSoundTask (make_task g n m make)
make_sound g n m (Tool tool) = tt
make_sound g n m Read = read_sound g n (element_name (kind_named g m.to))
make_sound g n m Each = each_sound g n (element_name (kind_named g m.to))
make_sound g n m Pack = tt

maker_sound : (g : Graph) (n : Node) (o : Option MakerDecl) → IsSoundTask (maker_task g n o)
maker_sound g n None = tt
maker_sound g n (Some m) = make_sound g n m m.make

step_sound : (g : Graph) (n : Node) (o : Option Step) → IsSoundTask (step_task g n o)
step_sound g n None = tt
step_sound g n (Some (Pick key)) = tt
step_sound g n (Some (Maker k)) = maker_sound g n (slice_get (makers g) k)

pub task_sound : (g : Graph) (n : Node) → IsSoundTask (task_of g n)
unfolding task_of
task_sound g n = step_sound g n (last_step n.steps)

given_sound : (label name : Text) (o : Option Text) → IsSoundOwn (given_own label name o)
given_sound label name None = refl
given_sound label name (Some text) = refl

element_sound : (o : Option (Option Value)) → has_value o ≡ true → IsSoundOwn (element_own o)
element_sound None h = refl
element_sound (Some None) h = cc
element_sound (Some (Some v)) h = refl

pick_sound : (label key : Text) (known : Known) (o : Option Picked) → ((e : Node) → IsIn e (element_in o) → has_value (known e) ≡ true) → IsSoundOwn (pick_own label known key o)
pick_sound label key known None h = refl
pick_sound label key known (Some (element e)) h = element_sound (known e) (h e (inl refl))
pick_sound label key known (Some (body text)) h = refl

picked_sound : (label key : Text) (known : Known) (o : Option (Option Value)) → ((e : Node) → IsIn e (picked_element key o) → has_value (known e) ≡ true) → IsSoundOwn (picked_own label known key o)
picked_sound label key known None h = refl
picked_sound label key known (Some None) h = refl
picked_sound label key known (Some (Some v)) h = pick_sound label key known (pick v key) h

mapped_sound : (f : Value → Own) → ((v : Value) → IsSoundOwn (f v)) → (o : Option (Option Value)) → IsSoundOwn (mapped_own f o)
mapped_sound f s None = refl
mapped_sound f s (Some None) = refl
mapped_sound f s (Some (Some v)) = s v

packed_sound : (known : Known) (parts : List PackPart) → IsSoundOwn (packed_own known parts)
packed_sound known parts = unless_sound _ _

status_sound : (status : Status) (v : Value) (messages : List Message) → IsSoundOwn (at_status status v messages)
status_sound Ok v messages = refl
status_sound Warning v messages = refl
status_sound Error v messages = refl
status_sound Abort v messages = refl

outcome_sound : (label : Text) (made : Bool) (missing : List Message) (o : Option Outcome) → IsSoundOwn (outcome_own label made missing o)
outcome_sound label made missing None = refl
outcome_sound label made missing (Some o) = status_sound o.status _ _

pub own_sound : (label : Text) (texts : SourceLookup) (t : Task) (known : Known) (o : Option Outcome) (names : List Text) → IsSoundTask t → all_valued known (counted_needs t known names) ≡ true → IsSoundOwn (own_of label texts t known o)
own_sound label texts (given name) known o names s h = given_sound label name (texts name)
own_sound label texts (picked base key) known o names s h = picked_sound label key known (known base) (λ e i. in_all_pass (λ n. has_value (known n)) (base ∷ picked_element key (known base)) (subst (λ l. all_valued known l ≡ true) (picked_counted_are base key known names) h) e (inr i))
own_sound label texts (mapped base f) known o names s h = mapped_sound f s (known base)
own_sound label texts (packed parts) known o names s h = packed_sound known parts
own_sound label texts (tooled t) known o names s h = outcome_sound label t.makes_compound _ o
own_sound label texts unfit known o names s h = refl

-- ---- views

module _ (seen : Results) (sound : (n : Node) (view : View) → seen n ≡ Some view → IsSoundView view) where
  valued_of : (v : Option Value) → has_value (Some v) ≡ is_some v
  valued_of None = refl
  valued_of (Some v) = refl

  valued_runs_on : (n : Node) → has_value (values_of seen n) ≡ runs_on (status_in (seen n))
  valued_runs_on n = by_result (seen n) (sound n)
    where
      by_result : (o : Option View) → ((view : View) → o ≡ Some view → IsSoundView view) → has_value (option_map (λ v. v.value) o) ≡ runs_on (status_in o)
      by_result None s = refl
      by_result (Some view) s = valued_of view.value ∙ s view refl

  and_swap : (a b c : Bool) → (a && (b && c)) ≡ ((a && b) && c)
  and_swap true b c = refl
  and_swap false b c = refl

  all_run_on : (own : Status) (nodes : List Node) → runs_on (worst_of seen own nodes) ≡ (all_valued (values_of seen) nodes && runs_on own)
  all_run_on own [] = refl
  all_run_on own (n ∷ nodes) =
      worst_runs_on (status_in (seen n)) (worst_of seen own nodes)
      ∙ (λ i. sym (valued_runs_on n) i && all_run_on own nodes i)
      ∙ and_swap (has_value (values_of seen n)) (all_valued (values_of seen) nodes) (runs_on own)

  pub settled_sound : (own : Own) (counted : List Node) → (all_valued (values_of seen) counted ≡ true → IsSoundOwn own) → IsSoundView (settled seen own counted)
  settled_sound own counted s = by_valued (all_valued (values_of seen) counted) s ∙ sym (all_run_on own.status counted)
    where
      by_valued : (b : Bool) → (b ≡ true → IsSoundOwn own) → is_some (cond b own.value None) ≡ (b && runs_on own.status)
      by_valued true s = s refl
      by_valued false s = refl

pub derived_sound : (g : Graph) (s : Sources) (outcomes : Outcomes) (h : ℕ) (n : Node) (view : View) → derive g s outcomes h n ≡ Some view → IsSoundView view
unfolding derive
derived_sound g s outcomes zero n view e = cc
derived_sound g s outcomes (suc h) n view e =
    let seen : Results = derive g s outcomes h in
    let names : List Text = names_for g s n seen in
    let p = step_so g s n outcomes seen names view e in
    subst IsSoundView (sym p.is) (settled_sound seen (derived_sound g s outcomes h) (own_of (label_of g n) (text_of s) (task_of g n) (values_of seen) p.outcome) (counted_needs (task_of g n) (values_of seen) names)
    (own_sound (label_of g n) (text_of s) (task_of g n) (values_of seen) p.outcome names (task_sound g n)))

-- in the words of the law
pub valued_exactly : (view : View) → IsSoundView view → (view.value ≡ None) ↔ (view.status ≡ Abort)
valued_exactly view s = (λ e. abort_so view.status (sym s ∙ ap is_some e), λ e. none_so view.value (s ∙ ap runs_on e))
  where
    abort_so : (status : Status) → runs_on status ≡ false → status ≡ Abort
    abort_so Ok h = cc
    abort_so Warning h = cc
    abort_so Error h = cc
    abort_so Abort h = refl

    none_so : (o : Option Value) → is_some o ≡ false → o ≡ None
    none_so None h = refl
    none_so (Some v) h = cc
