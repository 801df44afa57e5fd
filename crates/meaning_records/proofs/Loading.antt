-- Whether an item may come after what is kept, decided; and that it makes one thing of it at most.
use Rattle.std.proofs.Common.{◌≡◌, ℕ, ◌≤◌, List, [], ◌∷◌, length, Option, Some, None, refl, sym, ap, ap₂, subst, ◌∙◌}
use Rattle.std.specs.Prelude.{nat_le}
use Rattle.std.specs.Bool.{Decides}
use Rattle.std.specs.List.{list_all}
use Rattle.std.specs.Prelude.{slice_get}
use Rattle.std.proofs.lemmas.Bool.{leb-true, le-leb}
use Rattle.std.proofs.lemmas.Bool.Decides.{Decides-by_and}
use Rattle.object_values.specs.declared.views.Part.{Part}
use Rattle.object_values.specs.declared.views.Value.{Value}
use Rattle.object_values.specs.declared.views.Value.TheVariants.{Simple, List as Listed, Compound}
use Rattle.object_values.specs.declared.calls.CallPart.{CallPart}
use Rattle.object_values.specs.declared.calls.Call.{Call}
use Rattle.object_values.specs.declared.calls.Outcome.{Outcome}
use Rattle.meaning_texts.specs.Limits.{body_limit}
use Rattle.object_values.specs.declared.items.StoredPart.{StoredPart}
use Rattle.object_values.specs.declared.items.StoredCall.{StoredCall}
use Rattle.object_values.specs.declared.items.StoredOutput.{StoredOutput}
use Rattle.object_values.specs.declared.items.StoredOutcome.{StoredOutcome}
use Rattle.meaning_records.specs.Tables.{IsShort, IsText, IsBody, IsPartOf, ArePartsOf, IsCallOf, IsOutputOf, AreOutputsOf, IsOutcomeOf}
use Rattle.meaning_records.proofs.Fronts.{decided}

-- ---- texts by their numbers

pub one_text : (contents : List Value) (number : ℕ) (a b : List ℕ) → IsText contents number a → IsText contents number b → a ≡ b
one_text contents number a b is also = let same : ◌≡◌ {A = Option Value} (Some (Simple a)) (Some (Simple b)) = sym is ∙ also in cc

abbrev pub TextOf : List Value → ℕ → Type 0
TextOf contents number = (text : List ℕ) × IsText contents number text

pub text_decided : (contents : List Value) (number : ℕ) → Dec (TextOf contents number)
text_decided contents number = by (slice_get contents number) refl
  where
    by : (found : Option Value) → slice_get contents number ≡ found → Dec (TextOf contents number)
    by None is = no (λ t. let e = t.1 in let n : ⊥ = cc in n)
    by (Some (Simple text)) is = yes (text, is)
    by (Some (Listed nodes)) is = no (λ t. let e = t.1 in let n : ⊥ = cc in n)
    by (Some (Compound parts)) is = no (λ t. let e = t.1 in let n : ⊥ = cc in n)

-- ---- values

part_short : (part : Part) → Decides (nat_le (length part.body) body_limit) (length part.body ≤ body_limit)
part_short part = (leb-true (length part.body) body_limit, le-leb (length part.body) body_limit)

pub short_decided : (value : Value) → Dec (IsShort value)
short_decided (Simple text) = decided (nat_le (length text) body_limit) (leb-true (length text) body_limit, le-leb (length text) body_limit)
short_decided (Listed nodes) = yes tt
short_decided (Compound parts) =
    decided (list_all (λ (p : Part). nat_le (length p.body) body_limit) parts)
    (Decides-by_and (λ (p : Part). nat_le (length p.body) body_limit) (λ (p : Part). length p.body ≤ body_limit) (list_all (λ (p : Part). nat_le (length p.body) body_limit)) part_short refl (λ x ys. refl) parts)

-- ---- inputs

one_body : (contents : List Value) (content : Option ℕ) (a b : Option (List ℕ)) → IsBody contents content a → IsBody contents content b → a ≡ b
one_body contents None a b is also = is ∙ sym also
one_body contents (Some number) None b is also = absurd is
one_body contents (Some number) (Some a) None is also = absurd also
one_body contents (Some number) (Some a) (Some b) is also = ap (λ (t : List ℕ). Some t) (one_text contents number a b is also)

join_part : ℕ × (List ℕ × Option (List ℕ)) → CallPart
join_part t = record { slot = t.0; label = t.1.0; body = t.1.1 }

one_part : (contents : List Value) (stored : StoredPart) (a b : CallPart) → IsPartOf contents stored a → IsPartOf contents stored b → a ≡ b
unfolding join_part
one_part contents stored a b is also =
    let bodies = one_body contents stored.content a.body b.body is.body also.body in
    let slots : a.slot ≡ b.slot = is.slot ∙ sym also.slot in
    let labels : a.label ≡ b.label = is.label ∙ sym also.label in
    λ i. record { slot = slots i; label = labels i; body = bodies i }

part_by : (contents : List Value) (stored : StoredPart) → (content : Option ℕ) → stored.content ≡ content → Dec ((part : CallPart) × IsPartOf contents stored part)
part_by contents stored None is = yes (record { slot = stored.slot; label = stored.label; body = None }, record { slot = refl; label = refl; body = subst (λ c. IsBody contents c None) (sym is) refl })
part_by contents stored (Some number) is = by (text_decided contents number)
  where
    given : (part : CallPart) → IsBody contents (Some number) part.body → TextOf contents number
    given part there = of part.body there
      where
        of : (body : Option (List ℕ)) → IsBody contents (Some number) body → TextOf contents number
        of None there = absurd there
        of (Some text) there = (text, there)

    by : Dec (TextOf contents number) → Dec ((part : CallPart) × IsPartOf contents stored part)
    by (yes t) = yes (record { slot = stored.slot; label = stored.label; body = Some t.0 }, record { slot = refl; label = refl; body = subst (λ c. IsBody contents c (Some t.0)) (sym is) t.1 })
    by (no none) = no (λ p. none (given p.0 (subst (λ c. IsBody contents c p.0.body) is p.1.body)))

one_parts : (contents : List Value) (stored : List StoredPart) (a b : List CallPart) → ArePartsOf contents stored a → ArePartsOf contents stored b → a ≡ b
one_parts contents [] [] [] is also = refl
one_parts contents [] [] (y ∷ b) is also = absurd also
one_parts contents [] (x ∷ a) b is also = absurd is
one_parts contents (s ∷ stored) [] b is also = absurd is
one_parts contents (s ∷ stored) (x ∷ a) [] is also = absurd also
one_parts contents (s ∷ stored) (x ∷ a) (y ∷ b) is also =
    ap₂ (λ (p : CallPart) ps. p ∷ ps) (one_part contents s x y is.0 also.0) (one_parts contents stored a b is.1 also.1)

abbrev PartsOf : List Value → List StoredPart → Type 0
PartsOf contents stored = (parts : List CallPart) × ArePartsOf contents stored parts

parts_by : (contents : List Value) (s : StoredPart) (stored : List StoredPart) → Dec ((part : CallPart) × IsPartOf contents s part) → Dec (PartsOf contents stored) → Dec (PartsOf contents (s ∷ stored))
parts_by contents s stored (yes p) (yes ps) = yes (p.0 ∷ ps.0, (p.1, ps.1))
parts_by contents s stored (yes p) (no none) = no (λ t. by t.0 t.1)
  where
    by : (parts : List CallPart) → ArePartsOf contents (s ∷ stored) parts → ⊥
    by [] is = is
    by (x ∷ parts) is = none (parts, is.1)
parts_by contents s stored (no none) _ = no (λ t. by t.0 t.1)
  where
    by : (parts : List CallPart) → ArePartsOf contents (s ∷ stored) parts → ⊥
    by [] is = is
    by (x ∷ parts) is = none (x, is.0)

parts_decided : (contents : List Value) (stored : List StoredPart) → Dec (PartsOf contents stored)
parts_decided contents [] = yes ([], tt)
parts_decided contents (s ∷ stored) = parts_by contents s stored (part_by contents s s.content refl) (parts_decided contents stored)

-- ---- calls

pub one_call : (contents : List Value) (stored : StoredCall) (a b : Call) → IsCallOf contents stored a → IsCallOf contents stored b → a ≡ b
one_call contents stored a b is also =
    let tools : a.tool ≡ b.tool = is.tool ∙ sym also.tool in
    let versions : a.version ≡ b.version = is.version ∙ sym also.version in
    let words : a.words ≡ b.words = is.words ∙ sym also.words in
    let params : a.params ≡ b.params = is.params ∙ sym also.params in
    let parts : a.parts ≡ b.parts = one_parts contents stored.parts a.parts b.parts is.parts also.parts in
    let outs : a.outs ≡ b.outs = is.outs ∙ sym also.outs in
    λ i. record { tool = tools i; version = versions i; words = words i; params = params i; parts = parts i; outs = outs i }

abbrev pub CallOf : List Value → StoredCall → Type 0
CallOf contents stored = (call : Call) × IsCallOf contents stored call

call_by : (contents : List Value) (stored : StoredCall) → Dec (PartsOf contents stored.parts) → Dec (CallOf contents stored)
call_by contents stored (yes ps) =
    yes (
      record { tool = stored.tool; version = stored.version; words = stored.words; params = stored.params; parts = ps.0; outs = stored.outs },
      record { tool = refl; version = refl; words = refl; params = refl; parts = ps.1; outs = refl },
    )
call_by contents stored (no none) = no (λ c. none (c.0.parts, c.1.parts))

-- ---- outcomes

one_output : (contents : List Value) (stored : StoredOutput) (a b : Part) → IsOutputOf contents stored a → IsOutputOf contents stored b → a ≡ b
one_output contents stored a b is also =
    let names : a.name ≡ b.name = is.name ∙ sym also.name in
    let bodies : a.body ≡ b.body = one_text contents stored.content a.body b.body is.body also.body in
    λ i. record { name = names i; body = bodies i }

one_outputs : (contents : List Value) (stored : List StoredOutput) (a b : List Part) → AreOutputsOf contents stored a → AreOutputsOf contents stored b → a ≡ b
one_outputs contents [] [] [] is also = refl
one_outputs contents [] [] (y ∷ b) is also = absurd also
one_outputs contents [] (x ∷ a) b is also = absurd is
one_outputs contents (s ∷ stored) [] b is also = absurd is
one_outputs contents (s ∷ stored) (x ∷ a) [] is also = absurd also
one_outputs contents (s ∷ stored) (x ∷ a) (y ∷ b) is also =
    ap₂ (λ (o : Part) os. o ∷ os) (one_output contents s x y is.0 also.0) (one_outputs contents stored a b is.1 also.1)

pub one_outcome : (contents : List Value) (stored : StoredOutcome) (a b : Outcome) → IsOutcomeOf contents stored a → IsOutcomeOf contents stored b → a ≡ b
one_outcome contents stored a b is also =
    let statuses : a.status ≡ b.status = is.status ∙ sym also.status in
    let lines : a.lines ≡ b.lines = is.lines ∙ sym also.lines in
    let outputs : a.outputs ≡ b.outputs = one_outputs contents stored.outputs a.outputs b.outputs is.outputs also.outputs in
    λ i. record { status = statuses i; lines = lines i; outputs = outputs i }

abbrev OutputsOf : List Value → List StoredOutput → Type 0
OutputsOf contents stored = (outputs : List Part) × AreOutputsOf contents stored outputs

outputs_by : (contents : List Value) (s : StoredOutput) (stored : List StoredOutput) → Dec (TextOf contents s.content) → Dec (OutputsOf contents stored) → Dec (OutputsOf contents (s ∷ stored))
outputs_by contents s stored (yes t) (yes os) = yes (record { name = s.name; body = t.0 } ∷ os.0, (record { name = refl; body = t.1 }, os.1))
outputs_by contents s stored (yes t) (no none) = no (λ t. by t.0 t.1)
  where
    by : (outputs : List Part) → AreOutputsOf contents (s ∷ stored) outputs → ⊥
    by [] is = is
    by (x ∷ outputs) is = none (outputs, is.1)
outputs_by contents s stored (no none) _ = no (λ t. by t.0 t.1)
  where
    by : (outputs : List Part) → AreOutputsOf contents (s ∷ stored) outputs → ⊥
    by [] is = is
    by (x ∷ outputs) is = none (x.body, is.0.body)

outputs_decided : (contents : List Value) (stored : List StoredOutput) → Dec (OutputsOf contents stored)
outputs_decided contents [] = yes ([], tt)
outputs_decided contents (s ∷ stored) = outputs_by contents s stored (text_decided contents s.content) (outputs_decided contents stored)

abbrev pub OutcomeOf : List Value → StoredOutcome → Type 0
OutcomeOf contents stored = (outcome : Outcome) × IsOutcomeOf contents stored outcome

outcome_by : (contents : List Value) (stored : StoredOutcome) → Dec (OutputsOf contents stored.outputs) → Dec (OutcomeOf contents stored)
outcome_by contents stored (yes os) = yes (record { status = stored.status; lines = stored.lines; outputs = os.0 }, record { status = refl; lines = refl; outputs = os.1 })
outcome_by contents stored (no none) = no (λ o. none (o.0.outputs, o.1.outputs))

pub call_decided : (contents : List Value) (stored : StoredCall) → Dec (CallOf contents stored)
call_decided contents stored = call_by contents stored (parts_decided contents stored.parts)

pub outcome_decided : (contents : List Value) (stored : StoredOutcome) → Dec (OutcomeOf contents stored)
outcome_decided contents stored = outcome_by contents stored (outputs_decided contents stored.outputs)
