-- Whether a record of a node may be noted, decided; and that it says one thing at most.
use Rattle.std.proofs.Common.{◌≡◌, ℕ, ◌≤◌, List, [], ◌∷◌, length, Option, Some, None, refl, sym, ap₂, ◌∙◌}
use Rattle.std.specs.Prelude.{◌↔◌, IsNone, nat_le, slice_get}
use Rattle.std.proofs.lemmas.Bool.{leb-true, le-leb}
use Rattle.object_values.specs.declared.messages.Status.{Status}
use Rattle.object_values.specs.declared.messages.Status.TheVariants.{Ok, Warning, Error, Abort}
use Rattle.object_values.specs.declared.records.Role.{Role}
use Rattle.object_values.specs.declared.facts.FactDep.{FactDep}
use Rattle.object_values.specs.declared.facts.Fact.{Fact}
use Rattle.object_values.specs.declared.views.Value.{Value}
use Rattle.object_values.specs.declared.items.StoredDep.{StoredDep}
use Rattle.object_values.specs.declared.items.StoredRecord.{StoredRecord}
use Rattle.meaning_texts.specs.Limits.{height_limit}
use Rattle.meaning_records.specs.Tables.{IsValueOf, role_before, IsDepOf, AreDepsOf, IsFactOf, MayBeNoted}
use Rattle.meaning_records.proofs.Fronts.{decided, both_decided}

-- ---- values by their numbers

one_value : (contents : List Value) (number : Option ℕ) (a b : Option Value) → IsValueOf contents number a → IsValueOf contents number b → a ≡ b
one_value contents None a b is also = is ∙ sym also
one_value contents (Some number) None b is also = absurd is
one_value contents (Some number) (Some a) None is also = absurd also
one_value contents (Some number) (Some a) (Some b) is also = sym is ∙ also

abbrev ValueOf : List Value → Option ℕ → Type 0
ValueOf contents number = (value : Option Value) × IsValueOf contents number value

value_decided : (contents : List Value) (number : Option ℕ) → Dec (ValueOf contents number)
value_decided contents None = yes (None, refl)
value_decided contents (Some number) = by (slice_get contents number) refl
  where
    nothing_there : (value : Option Value) → slice_get contents number ≡ None → IsValueOf contents (Some number) value → ⊥
    nothing_there None is there = there
    nothing_there (Some value) is there = let e : ◌≡◌ {A = Option Value} None (Some value) = sym is ∙ there in let n : ⊥ = cc in n

    by : (found : Option Value) → slice_get contents number ≡ found → Dec (ValueOf contents (Some number))
    by None is = no (λ v. nothing_there v.0 is v.1)
    by (Some value) is = yes (Some value, is)

-- ---- deps

one_dep : (contents : List Value) (role : Role) (stored : StoredDep) (a b : FactDep) → IsDepOf contents role stored a → IsDepOf contents role stored b → a ≡ b
one_dep contents role stored a b is also =
    let nodes : a.node ≡ b.node = is.node ∙ sym also.node in
    let roles : a.role ≡ b.role = is.role ∙ sym also.role in
    let values : a.value ≡ b.value = one_value contents stored.content a.value b.value is.value also.value in
    λ i. record { node = nodes i; role = roles i; value = values i }

one_deps : (contents : List Value) (reached : ℕ) (stored : List StoredDep) (a b : List FactDep) → AreDepsOf contents reached stored a
    → AreDepsOf contents reached stored b → a ≡ b
one_deps contents reached [] [] [] is also = refl
one_deps contents reached [] [] (y ∷ b) is also = absurd also
one_deps contents reached [] (x ∷ a) b is also = absurd is
one_deps contents reached (s ∷ stored) [] b is also = absurd is
one_deps contents reached (s ∷ stored) (x ∷ a) [] is also = absurd also
one_deps contents reached (s ∷ stored) (x ∷ a) (y ∷ b) is also =
    ap₂ (λ (d : FactDep) ds. d ∷ ds) (one_dep contents (role_before (length stored) reached) s x y is.0 also.0)
    (one_deps contents reached stored a b is.1 also.1)

abbrev DepsOf : List Value → ℕ → List StoredDep → Type 0
DepsOf contents reached stored = (deps : List FactDep) × AreDepsOf contents reached stored deps

deps_by : (contents : List Value) (reached : ℕ) (s : StoredDep) (stored : List StoredDep) → Dec (ValueOf contents s.content) → Dec (DepsOf contents reached stored)
    → Dec (DepsOf contents reached (s ∷ stored))
deps_by contents reached s stored (yes v) (yes ds) =
    yes (record { node = s.node; role = role_before (length stored) reached; value = v.0 } ∷ ds.0, (record { node = refl; role = refl; value = v.1 }, ds.1))
deps_by contents reached s stored (yes v) (no none) = no (λ t. by t.0 t.1)
  where
    by : (deps : List FactDep) → AreDepsOf contents reached (s ∷ stored) deps → ⊥
    by [] is = is
    by (x ∷ deps) is = none (deps, is.1)
deps_by contents reached s stored (no none) _ = no (λ t. by t.0 t.1)
  where
    by : (deps : List FactDep) → AreDepsOf contents reached (s ∷ stored) deps → ⊥
    by [] is = is
    by (x ∷ deps) is = none (x.value, is.0.value)

deps_decided : (contents : List Value) (reached : ℕ) (stored : List StoredDep) → Dec (DepsOf contents reached stored)
deps_decided contents reached [] = yes ([], tt)
deps_decided contents reached (s ∷ stored) = deps_by contents reached s stored (value_decided contents s.content) (deps_decided contents reached stored)

-- ---- facts

pub one_fact : (contents : List Value) (stored : StoredRecord) (a b : Fact) → IsFactOf contents stored a → IsFactOf contents stored b → a ≡ b
one_fact contents stored a b is also =
    let nodes : a.node ≡ b.node = is.node ∙ sym also.node in
    let deps : a.deps ≡ b.deps = one_deps contents stored.reached stored.deps a.deps b.deps is.deps also.deps in
    let values : a.value ≡ b.value = one_value contents stored.value a.value b.value is.value also.value in
    let statuses : a.own_status ≡ b.own_status = is.own_status ∙ sym also.own_status in
    let messages : a.own_messages ≡ b.own_messages = is.own_messages ∙ sym also.own_messages in
    λ i. record { node = nodes i; deps = deps i; value = values i; own_status = statuses i; own_messages = messages i }

abbrev FactOf : List Value → StoredRecord → Type 0
FactOf contents stored = (fact : Fact) × IsFactOf contents stored fact

fact_by : (contents : List Value) (stored : StoredRecord) → Dec (DepsOf contents stored.reached stored.deps × ValueOf contents stored.value)
    → Dec (FactOf contents stored)
fact_by contents stored (yes h) = yes (
  record { node = stored.node; deps = h.0.0; value = h.1.0; own_status = stored.own_status; own_messages = stored.own_messages },
  record { node = refl; deps = h.0.1; value = h.1.1; own_status = refl; own_messages = refl },
)
fact_by contents stored (no none) = no (λ f. none ((f.0.deps, f.1.deps), (f.0.value, f.1.value)))

fact_decided : (contents : List Value) (stored : StoredRecord) → Dec (FactOf contents stored)
fact_decided contents stored = fact_by contents stored (both_decided (deps_decided contents stored.reached stored.deps) (value_decided contents stored.value))

-- ---- records that may be noted

within_decided : (m n : ℕ) → Dec (m ≤ n)
within_decided m n = decided (nat_le m n) (leb-true m n, le-leb m n)

abort_decided : (status : Status) → Dec (status ≡ Abort)
abort_decided Ok = no (λ e. let n : ⊥ = cc in n)
abort_decided Warning = no (λ e. let n : ⊥ = cc in n)
abort_decided Error = no (λ e. let n : ⊥ = cc in n)
abort_decided Abort = yes refl

none_decided : (value : Option ℕ) → Dec (IsNone value)
none_decided None = yes refl
none_decided (Some number) = no (λ e. let n : ⊥ = cc in n)

both_or_none : {P Q : Type 0} → Dec P → Dec Q → Dec (P ↔ Q)
both_or_none (yes p) (yes q) = yes (λ p. q, λ q. p)
both_or_none (yes p) (no none) = no (λ same. none (same.0 p))
both_or_none (no none) (yes q) = no (λ same. none (same.1 q))
both_or_none (no no_p) (no no_q) = yes (λ p. absurd (no_p p), λ q. absurd (no_q q))

abbrev pub NotedBy : List Value → StoredRecord → Type 0
NotedBy contents stored = (fact : Fact) × MayBeNoted contents stored fact

-- what is to be tested of a record besides
abbrev Kept : StoredRecord → Type 0
Kept stored =
    (stored.reached ≤ length stored.deps) × ((1 ≤ stored.height) × ((stored.height ≤ height_limit) × (IsNone stored.value ↔ (stored.status ≡ Abort))))

noted_by : (contents : List Value) (stored : StoredRecord) → Dec (FactOf contents stored × Kept stored) → Dec (NotedBy contents stored)
noted_by contents stored (yes h) = yes (h.0.0, record { says = h.0.1; reached = h.1.0; least = h.1.1.0; most = h.1.1.1.0; valued = h.1.1.1.1 })
noted_by contents stored (no none) = no (λ n. none ((n.0, n.1.says), (n.1.reached, (n.1.least, (n.1.most, n.1.valued)))))

pub noted_decided : (contents : List Value) (stored : StoredRecord) → Dec (NotedBy contents stored)
noted_decided contents stored =
    noted_by contents stored (both_decided (fact_decided contents stored)
    (both_decided (within_decided stored.reached (length stored.deps))
    (both_decided (within_decided 1 stored.height) (both_decided (within_decided stored.height height_limit)
    (both_or_none (none_decided stored.value) (abort_decided stored.status))))))
