-- The test of fitting nodes decides.
use Rattle.std.proofs.Common.{◌≡◌, true, refl, ◌&&◌, is_some}
use Rattle.std.specs.List.{list_all}
use Rattle.object_values.specs.declared.nodes.ParamValue.{ParamValue}
use Rattle.object_values.specs.declared.nodes.Step.{Step}
use Rattle.object_values.specs.declared.nodes.Step.TheVariants.{Maker, Pick}
use Rattle.object_values.specs.declared.nodes.Node.{Node}
use Rattle.meaning_texts.specs.Classes.{IsName, IsKey, is_name_byte, is_key_byte}
use Rattle.meaning_texts.specs.Tests.{is_name, is_key, is_param_of_class}
use Rattle.meaning_texts.specs.Expressions.{IsParamOfClass}
use Rattle.meaning_texts.proofs.Lemmas.{word_decides, param_decides, in_all, all_in, in_all_pass, all_pass_in}
use Rattle.meaning_graph.specs.Graphs.{Text, Graph}
use Rattle.std.proofs.lemmas.Bool.{and_parts, and_from}
use Rattle.meaning_tasks.specs.Nodes.{Fits, fits, reached_type, HasKeyOfClass, has_key_of_class}

pub name_so : (text : Text) → is_name text ≡ true → IsName text
name_so text = (word_decides is_name_byte text).0

pub key_so : (text : Text) → is_key text ≡ true → IsKey text
key_so text = (word_decides is_key_byte text).0

pub param_so : (p : ParamValue) → is_param_of_class p ≡ true → IsParamOfClass p
param_so p = (param_decides p).0

step_so : (s : Step) → has_key_of_class s ≡ true → HasKeyOfClass s
step_so (Maker k) h = tt
step_so (Pick key) h = key_so key h

so_step : (s : Step) → HasKeyOfClass s → has_key_of_class s ≡ true
so_step (Maker k) h = refl
so_step (Pick key) h = (word_decides is_key_byte key).1 h

pub fits_so : (g : Graph) (n : Node) → fits g n ≡ true → Fits g n
fits_so g n h =
    let a = and_parts (is_name n.source && list_all is_param_of_class n.params && list_all has_key_of_class n.steps) (is_some (reached_type g n)) h in
    let b = and_parts (is_name n.source && list_all is_param_of_class n.params) (list_all has_key_of_class n.steps) a.0 in
    let c = and_parts (is_name n.source) (list_all is_param_of_class n.params) b.0 in
    record {
      source = name_so n.source c.0;
      params = all_in IsParamOfClass n.params (λ p i. param_so p (in_all_pass is_param_of_class n.params c.1 p i));
      keys = all_in HasKeyOfClass n.steps (λ s i. step_so s (in_all_pass has_key_of_class n.steps b.1 s i));
      typed = a.1;
    }

pub so_fits : (g : Graph) (n : Node) → Fits g n → fits g n ≡ true
so_fits g n f =
    let params = all_pass_in is_param_of_class n.params (λ p i. (param_decides p).1 (in_all IsParamOfClass n.params f.params p i)) in
    let keys = all_pass_in has_key_of_class n.steps (λ s i. so_step s (in_all HasKeyOfClass n.steps f.keys s i)) in
    and_from (is_name n.source && list_all is_param_of_class n.params && list_all has_key_of_class n.steps) (is_some (reached_type g n))
    (and_from (is_name n.source && list_all is_param_of_class n.params) (list_all has_key_of_class n.steps)
    (and_from (is_name n.source) (list_all is_param_of_class n.params) ((word_decides is_name_byte n.source).1 f.source) params) keys) f.typed
