-- The outcome of a call fits it.
use Rattle.std.proofs.Common.{◌≡◌, ◌≢◌, ℕ, zero, suc, ◌≤◌, List, [], ◌∷◌, ◌++◌, length, map, Option, Some, None, refl, ap, inl, inr}
use Rattle.std.specs.Prelude.{nat_lt}
use Rattle.std.specs.List.{All}
use Rattle.std.proofs.lemmas.Bool.{cases_Bool, ltb-false}
use Rattle.std.proofs.lemmas.List.Elements.{All-nil, All-cons}
use Rattle.object_values.specs.declared.messages.Status.{Status}
use Rattle.object_values.specs.declared.messages.Status.TheVariants.{Error, Abort}
use Rattle.object_values.specs.declared.views.Part.{Part}
use Rattle.object_values.specs.declared.calls.Call.{Call}
use Rattle.object_values.specs.declared.calls.OwnLine.{OwnLine}
use Rattle.object_values.specs.declared.jobs.End.{End}
use Rattle.object_values.specs.declared.jobs.End.TheVariants.{Exit, Signal}
use Rattle.object_values.specs.declared.jobs.Raw.{Raw}
use Rattle.meaning_texts.specs.Limits.{body_limit}
use Rattle.meaning_calls.specs.Jobs.{out_file}
use Rattle.meaning_calls.specs.Outcomes.{file_in, output_fault, output_faults, output_of, ended_well, ended_badly, status_at_zero, exit_outcome, end_outcome, warnings_of, message_lines, outcome_of, OutcomeFits}

abbrev IsShort : Part → Type 0
IsShort p = length p.body ≤ body_limit

-- an output with no fault is short
short_output : (raw : Raw) (name : List ℕ) (found : Option (List ℕ)) → file_in (out_file name) raw.files ≡ found → output_fault name found ≡ [] → IsShort (output_of raw name)
short_output raw name None f e = let n : ⊥ = cc in absurd n
short_output raw name (Some body) f e = rw f (elim (cases_Bool (nat_lt body_limit (length body))) [
  | inl t ↦ let h = rw t at e in let n : ⊥ = cc in absurd n
  | inr t ↦ ltb-false body_limit (length body) t
])

both_empty : (xs ys : List (List ℕ)) → xs ++ ys ≡ [] → (xs ≡ []) × (ys ≡ [])
both_empty [] ys e = (refl, e)
both_empty (x ∷ xs) ys e = let n : ⊥ = cc in absurd n

short_outputs : (raw : Raw) (outs : List (List ℕ)) → output_faults raw outs ≡ [] → All IsShort (map (output_of raw) outs)
short_outputs raw [] e = All-nil IsShort
short_outputs raw (name ∷ outs) e =
    let h = both_empty (output_fault name (file_in (out_file name) raw.files)) (output_faults raw outs) e in
    All-cons IsShort (output_of raw name) (map (output_of raw) outs) (short_output raw name (file_in (out_file name) raw.files) refl h.0) (short_outputs raw outs h.1)

names_of_outputs : (raw : Raw) (outs : List (List ℕ)) → map (λ (p : Part). p.name) (map (output_of raw) outs) ≡ outs
names_of_outputs raw [] = refl
names_of_outputs raw (name ∷ outs) = ap (λ t. name ∷ t) (names_of_outputs raw outs)

fits_well : (call : Call) (raw : Raw) (status : Status) (lines : List OwnLine) (faults : List (List ℕ)) → status ≢ Abort → output_faults raw call.outs ≡ faults → OutcomeFits call (ended_well call raw status lines faults)
fits_well call raw status lines [] off e = record { outputs = inr (off, names_of_outputs raw call.outs); short = short_outputs raw call.outs e }
fits_well call raw status lines (fault ∷ more) off e = record { outputs = inl (refl, refl); short = All-nil IsShort }

fits_badly : (call : Call) (lines : List (List ℕ)) (how : List ℕ) → OutcomeFits call (ended_badly lines how)
fits_badly call lines how = record { outputs = inl (refl, refl); short = All-nil IsShort }

not_abort_at_zero : (lines : List (List ℕ)) → status_at_zero lines ≢ Abort
not_abort_at_zero [] e = cc
not_abort_at_zero (line ∷ more) e = cc

not_abort_error : Error ≢ Abort
not_abort_error e = cc

fits_exit : (call : Call) (raw : Raw) (lines : List (List ℕ)) (status : ℕ) → OutcomeFits call (exit_outcome call raw lines status)
fits_exit call raw lines zero = fits_well call raw _ _ _ (not_abort_at_zero lines) refl
fits_exit call raw lines (suc zero) = fits_well call raw _ _ _ not_abort_error refl
fits_exit call raw lines (suc (suc n)) = fits_badly call lines _

fits_end : (call : Call) (raw : Raw) (lines : List (List ℕ)) (end : End) → OutcomeFits call (end_outcome call raw lines end)
fits_end call raw lines (Exit status) = fits_exit call raw lines status
fits_end call raw lines Signal = fits_badly call lines _

pub fits : (call : Call) (raw : Raw) → OutcomeFits call (outcome_of call raw)
unfolding outcome_of
fits call raw = fits_end call raw (message_lines (warnings_of raw)) raw.end
