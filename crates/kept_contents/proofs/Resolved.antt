-- What the numbers of a record stand for.
use Rattle.std.proofs.Common.{◌≡◌, ◌<◌, ◌+◌, ℕ, zero, suc, List, [], ◌∷◌, ◌++◌, length, take, get_or, ap, sym, ◌∙◌, subst, refl, arith}
use Rattle.std.specs.Prelude.{Option, Some, None}
use Rattle.std.proofs.lemmas.List.{take_more}
use Rattle.std.proofs.lemmas.Option.{same_Some}
use Rattle.object_values.specs.declared.views.Part.{Part}
use Rattle.object_values.specs.declared.views.Value.{Value}
use Rattle.object_values.specs.declared.views.Value.TheVariants.{Simple}
use Rattle.object_values.specs.declared.calls.CallPart.{CallPart}
use Rattle.object_values.specs.declared.calls.Call.{Call}
use Rattle.object_values.specs.declared.calls.Outcome.{Outcome}
use Rattle.object_values.specs.declared.items.StoredPart.{StoredPart}
use Rattle.object_values.specs.declared.items.StoredCall.{StoredCall}
use Rattle.object_values.specs.declared.items.StoredOutput.{StoredOutput}
use Rattle.object_values.specs.declared.items.StoredOutcome.{StoredOutcome}
use Rattle.meaning_records.specs.Tables.{IsText, IsBody, IsPartOf, ArePartsOf, IsCallOf, IsOutputOf, AreOutputsOf, IsOutcomeOf}
use Rattle.kept_contents.proofs.Items.{kept}
use Rattle.kept_contents.proofs.Numbers.{same_text}

-- ---- one thing for each number

pub one_text : (contents : List Value) (number : ℕ) (a b : List ℕ) → IsText contents number a → IsText contents number b → a ≡ b
one_text contents number a b p q = same_text a b (same_Some (Simple a) (Simple b) (sym p ∙ q))

one_body : (contents : List Value) (content : Option ℕ) (a b : Option (List ℕ)) → IsBody contents content a → IsBody contents content b → a ≡ b
one_body contents None a b p q = p ∙ sym q
one_body contents (Some n) None b p q = absurd p
one_body contents (Some n) (Some a) None p q = absurd q
one_body contents (Some n) (Some a) (Some b) p q = ap Some (one_text contents n a b p q)

one_part : (contents : List Value) (stored : StoredPart) (a b : CallPart) → IsPartOf contents stored a → IsPartOf contents stored b → a ≡ b
one_part contents stored a b p q =
    let slot : a.slot ≡ b.slot = p.slot ∙ sym q.slot in
    let label : a.label ≡ b.label = p.label ∙ sym q.label in
    let body : a.body ≡ b.body = one_body contents stored.content a.body b.body p.body q.body in
    λ i. record { slot = slot i; label = label i; body = body i }

one_parts : (contents : List Value) (stored : List StoredPart) (a b : List CallPart) → ArePartsOf contents stored a → ArePartsOf contents stored b → a ≡ b
one_parts contents [] [] [] p q = refl
one_parts contents [] [] (y ∷ b) p q = absurd q
one_parts contents [] (x ∷ a) b p q = absurd p
one_parts contents (s ∷ stored) [] b p q = absurd p
one_parts contents (s ∷ stored) (x ∷ a) [] p q = absurd q
one_parts contents (s ∷ stored) (x ∷ a) (y ∷ b) p q =
    let one = one_part contents s x y p.0 q.0 in
    let rest = one_parts contents stored a b p.1 q.1 in
    λ i. one i ∷ rest i

pub one_call : (contents : List Value) (stored : StoredCall) (a b : Call) → IsCallOf contents stored a → IsCallOf contents stored b → a ≡ b
one_call contents stored a b p q =
    let tool : a.tool ≡ b.tool = p.tool ∙ sym q.tool in
    let version : a.version ≡ b.version = p.version ∙ sym q.version in
    let words : a.words ≡ b.words = p.words ∙ sym q.words in
    let params : a.params ≡ b.params = p.params ∙ sym q.params in
    let parts : a.parts ≡ b.parts = one_parts contents stored.parts a.parts b.parts p.parts q.parts in
    let outs : a.outs ≡ b.outs = p.outs ∙ sym q.outs in
    λ i. record { tool = tool i; version = version i; words = words i; params = params i; parts = parts i; outs = outs i }

one_output : (contents : List Value) (stored : StoredOutput) (a b : Part) → IsOutputOf contents stored a → IsOutputOf contents stored b → a ≡ b
one_output contents stored a b p q =
    let name : a.name ≡ b.name = p.name ∙ sym q.name in
    let body : a.body ≡ b.body = one_text contents stored.content a.body b.body p.body q.body in
    λ i. record { name = name i; body = body i }

one_outputs : (contents : List Value) (stored : List StoredOutput) (a b : List Part) → AreOutputsOf contents stored a → AreOutputsOf contents stored b → a ≡ b
one_outputs contents [] [] [] p q = refl
one_outputs contents [] [] (y ∷ b) p q = absurd q
one_outputs contents [] (x ∷ a) b p q = absurd p
one_outputs contents (s ∷ stored) [] b p q = absurd p
one_outputs contents (s ∷ stored) (x ∷ a) [] p q = absurd q
one_outputs contents (s ∷ stored) (x ∷ a) (y ∷ b) p q =
    let one = one_output contents s x y p.0 q.0 in
    let rest = one_outputs contents stored a b p.1 q.1 in
    λ i. one i ∷ rest i

pub one_outcome : (contents : List Value) (stored : StoredOutcome) (a b : Outcome) → IsOutcomeOf contents stored a → IsOutcomeOf contents stored b → a ≡ b
one_outcome contents stored a b p q =
    let status : a.status ≡ b.status = p.status ∙ sym q.status in
    let lines : a.lines ≡ b.lines = p.lines ∙ sym q.lines in
    let outputs : a.outputs ≡ b.outputs = one_outputs contents stored.outputs a.outputs b.outputs p.outputs q.outputs in
    λ i. record { status = status i; lines = lines i; outputs = outputs i }

-- ---- lists, one thing after another

pub parts_push : (contents : List Value) (stored : List StoredPart) (parts : List CallPart) (s : StoredPart) (p : CallPart) → ArePartsOf contents stored parts → IsPartOf contents s p → ArePartsOf contents (stored ++ s ∷ []) (parts ++ p ∷ [])
parts_push contents [] [] s p are is = (is, tt)
parts_push contents [] (q ∷ parts) s p are is = absurd are
parts_push contents (r ∷ stored) [] s p are is = absurd are
parts_push contents (r ∷ stored) (q ∷ parts) s p are is = (are.0, parts_push contents stored parts s p are.1 is)

pub parts_more : (contents : List Value) (stored : List StoredPart) (parts : List CallPart) (i : ℕ) (d : StoredPart) (p : CallPart) → i < length stored → ArePartsOf contents (take i stored) parts → IsPartOf contents (get_or stored i d) p → ArePartsOf contents (take (i + 1) stored) (parts ++ p ∷ [])
parts_more contents stored parts i d p h are is = subst (λ l. ArePartsOf contents l (parts ++ p ∷ [])) (sym (take_more stored i d h)) (parts_push contents (take i stored) parts (get_or stored i d) p are is)

pub no_parts : (contents : List Value) (stored : List StoredPart) (i : ℕ) (d : StoredPart) → i < length stored → ((p : CallPart) → IsPartOf contents (get_or stored i d) p → ⊥) → (parts : List CallPart) → ArePartsOf contents stored parts → ⊥
no_parts contents [] i d h none parts are = absurd (omega (arith, h))
no_parts contents (s ∷ stored) i d h none [] are = are
no_parts contents (s ∷ stored) zero d h none (p ∷ parts) are = none p are.0
no_parts contents (s ∷ stored) (suc i) d h none (p ∷ parts) are = no_parts contents stored i d (omega (arith, h)) none parts are.1

pub outputs_push : (contents : List Value) (stored : List StoredOutput) (outputs : List Part) (s : StoredOutput) (o : Part) → AreOutputsOf contents stored outputs → IsOutputOf contents s o → AreOutputsOf contents (stored ++ s ∷ []) (outputs ++ o ∷ [])
outputs_push contents [] [] s o are is = (is, tt)
outputs_push contents [] (q ∷ outputs) s o are is = absurd are
outputs_push contents (r ∷ stored) [] s o are is = absurd are
outputs_push contents (r ∷ stored) (q ∷ outputs) s o are is = (are.0, outputs_push contents stored outputs s o are.1 is)

pub outputs_more : (contents : List Value) (stored : List StoredOutput) (outputs : List Part) (i : ℕ) (d : StoredOutput) (o : Part) → i < length stored → AreOutputsOf contents (take i stored) outputs → IsOutputOf contents (get_or stored i d) o → AreOutputsOf contents (take (i + 1) stored) (outputs ++ o ∷ [])
outputs_more contents stored outputs i d o h are is = subst (λ l. AreOutputsOf contents l (outputs ++ o ∷ [])) (sym (take_more stored i d h)) (outputs_push contents (take i stored) outputs (get_or stored i d) o are is)

pub no_outputs : (contents : List Value) (stored : List StoredOutput) (i : ℕ) (d : StoredOutput) → i < length stored → ((o : Part) → IsOutputOf contents (get_or stored i d) o → ⊥) → (outputs : List Part) → AreOutputsOf contents stored outputs → ⊥
no_outputs contents [] i d h none outputs are = absurd (omega (arith, h))
no_outputs contents (s ∷ stored) i d h none [] are = are
no_outputs contents (s ∷ stored) zero d h none (o ∷ outputs) are = none o are.0
no_outputs contents (s ∷ stored) (suc i) d h none (o ∷ outputs) are = no_outputs contents stored i d (omega (arith, h)) none outputs are.1

-- ---- contents more

pub body_kept : (contents later : List Value) (content : Option ℕ) (body : Option (List ℕ)) → IsBody contents content body → IsBody (contents ++ later) content body
body_kept contents later None body is = is
body_kept contents later (Some n) None is = is
body_kept contents later (Some n) (Some text) is = kept contents later (Simple text) n is

pub part_kept : (contents later : List Value) (stored : StoredPart) (part : CallPart) → IsPartOf contents stored part → IsPartOf (contents ++ later) stored part
part_kept contents later stored part is = record { slot = is.slot; label = is.label; body = body_kept contents later stored.content part.body is.body }

pub parts_kept : (contents later : List Value) (stored : List StoredPart) (parts : List CallPart) → ArePartsOf contents stored parts → ArePartsOf (contents ++ later) stored parts
parts_kept contents later [] [] are = tt
parts_kept contents later [] (p ∷ parts) are = are
parts_kept contents later (s ∷ stored) [] are = are
parts_kept contents later (s ∷ stored) (p ∷ parts) are = (part_kept contents later s p are.0, parts_kept contents later stored parts are.1)

pub outputs_kept : (contents later : List Value) (stored : List StoredOutput) (outputs : List Part) → AreOutputsOf contents stored outputs → AreOutputsOf (contents ++ later) stored outputs
outputs_kept contents later [] [] are = tt
outputs_kept contents later [] (o ∷ outputs) are = are
outputs_kept contents later (s ∷ stored) [] are = are
outputs_kept contents later (s ∷ stored) (o ∷ outputs) are = (record { name = are.0.name; body = kept contents later (Simple o.body) s.content are.0.body }, outputs_kept contents later stored outputs are.1)
