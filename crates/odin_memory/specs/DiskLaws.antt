-- That a file in memory follows the model of a disk.
use Rattle.std.specs.Prelude.{◌≡◌, ◌⊎◌, ◌<◌, ℕ, ◌+◌, ◌≤◌, min, List, [], ◌∷◌, ◌++◌, length, take, drop}
use Rattle.std.proofs.Common.{inl, inr, arith, sym, ap, ◌∙◌, subst}
use Rattle.std.proofs.lemmas.Bool.{cases_lt}
use Rattle.std.proofs.lemmas.List.{take_min, drop_all}
use Rattle.odin_outside.specs.Disk.{IsCrashImage, Torn, Cut}
use Rattle.odin_outside.specs.Steps.{torn_image, cut_image, written_torn, taken_cut, synced_image}
use Rattle.odin_memory.specs.Calls.{Call, Wrote, WasCut, Synced, Looked, image_after, pending_after, LeftSince, written}

-- what stands after a write, wherever it begins
rest_same : (image : List ℕ) (at n : ℕ) → (length image < at) ⊎ (at ≤ length image) → drop (at + n) image ≡ drop (min at (length image) + n) image
rest_same image at n (inl past) = drop_all (at + n) image (omega arith) ∙ sym (drop_all (min at (length image) + n) image (omega arith))
rest_same image at n (inr inside) = let same : at + n ≡ min at (length image) + n = omega arith in ap (λ i. drop i image) same

-- what a write makes of an image, wherever it begins
pub written-torn : (image : List ℕ) (at : ℕ) (bytes : List ℕ) → Torn (min at (length image)) (length bytes) image (written image at bytes)
written-torn image at bytes =
    written_torn image (min at (length image)) bytes (written image at bytes) (omega arith)
    (ap (λ front. front ++ bytes ++ drop (at + length bytes) image) (sym (take_min at image))
    ∙ ap (λ back. take (min at (length image)) image ++ bytes ++ back) (rest_same image at (length bytes) (cases_lt (length image) at)))

pub cut-cut : (image : List ℕ) (size : ℕ) → Cut (min size (length image)) image (take size image)
cut-cut image size = let step : List ℕ → Type 0 = λ new. Cut (min size (length image)) image new in subst step (take_min size image) (taken_cut (min size (length image)) image)

pub image_is_left : (first : List ℕ) (calls : List Call) → IsCrashImage (pending_after first calls) (image_after first calls)
image_is_left first [] = synced_image first
image_is_left first (Wrote at bytes ∷ before) = torn_image _ _ _ _ _ (image_is_left first before) (written-torn (image_after first before) at bytes)
image_is_left first (WasCut size ∷ before) = cut_image _ _ _ _ (image_is_left first before) (cut-cut (image_after first before) size)
image_is_left first (Synced ∷ before) = synced_image (image_after first before)
image_is_left first (Looked ∷ before) = image_is_left first before

pub left_now : (first : List ℕ) (calls : List Call) (t : ℕ) (image : List ℕ) → t ≤ length calls → IsCrashImage (pending_after first calls) image → LeftSince first t calls image
left_now first [] t image le left = (le, left)
left_now first (call ∷ before) t image le left = inl (le, left)

since_bound : (first : List ℕ) (calls : List Call) (t : ℕ) (image : List ℕ) → LeftSince first t calls image → t ≤ length calls
since_bound first [] t image left = left.0
since_bound first (call ∷ before) t image (inl here) = here.0
since_bound first (call ∷ before) t image (inr older) = let le = since_bound first before t image older in omega arith

pub left_only : (first : List ℕ) (calls : List Call) (image : List ℕ) → LeftSince first (length calls) calls image → IsCrashImage (pending_after first calls) image
left_only first [] image left = left.1
left_only first (call ∷ before) image (inl here) = here.1
left_only first (call ∷ before) image (inr older) = let le = since_bound first before (length (call ∷ before)) image older in absurd (omega arith)
