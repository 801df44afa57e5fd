-- Choices by which the newest of the kept calls is undone.
use Rattle.std.proofs.Common.{◌≡◌, ℕ, suc, ◌+◌, ◌-◌, ◌/◌, ◌%◌, ◌^◌, ◌<◌, ◌≤◌, refl, List, [], ◌∷◌, length, take, drop, ap, sym, ◌∙◌, subst, arith, inl, inr}
use Rattle.std.proofs.Math.Nat.{pow-suc, mul-mod_left, mul-div_cancel}
use Rattle.std.proofs.lemmas.List.{take-append-drop, drop_all, drop_more, length-drop, take_all}
use Rattle.std.proofs.lemmas.List.Elements.{All-head, All-tail}
use Rattle.std.proofs.lemmas.Bool.{cases_lt}
use Rattle.std.specs.List.{All}
use Rattle.std.specs.Prelude.{IsFalse, Vec}
use Rattle.std.specs.declared.alloc.Global.{Global}
use Rattle.odin_memory.specs.declared.choice.Choice.{Choice}
use Rattle.odin_memory.specs.declared.disk.Entry.{Entry}
use Rattle.odin_memory.specs.declared.disk.Entry.TheVariants as entry
use Rattle.odin_memory.specs.Calls.{Call, Wrote, WasCut, Looked, torn_count, changed, image_after, image_before, FitsIn, UndoesNewest}
use Rattle.odin_memory.specs.Choices.{IsWhole, TearsAs, past_digit}
use Rattle.odin_memory.specs.Entries.{call_from_entry, calls_after, calls_from_entries, bytes_left, EndsSynced, IsPending, DoesWhole, DoesNone, IsUnfinished, LeavesOut, LeavesOutLast, choice_past, Undoes, UndoesLast}
use Rattle.odin_memory.proofs.Replaying.{after_both, last_call, Turn, turn_call, turn_whole}

-- by the choice of whole calls each is done, and so are those after it
pub whole_tells : (choice : Choice) (kept : Entry) → IsWhole choice → DoesWhole choice kept
whole_tells choice (entry.Write at n) whole = record { digit = ap (λ r. r % 8) whole.rest; chance = whole.chance }
whole_tells choice (entry.Cut size) whole = record { digit = ap (λ r. r % 8) whole.rest; chance = whole.chance }
whole_tells choice entry.Sync whole = tt
whole_tells choice entry.Look whole = tt

pub whole_past : (choice : Choice) (kept : Entry) → IsWhole choice → IsWhole (choice_past kept choice)
whole_past choice (entry.Write at n) whole = record { rest = ap (λ r. r / 8) whole.rest; chance = whole.chance }
whole_past choice (entry.Cut size) whole = record { rest = ap (λ r. r / 8) whole.rest; chance = whole.chance }
whole_past choice entry.Sync whole = whole
whole_past choice entry.Look whole = whole

-- one of the calls before the last, and the last
pub undoes_more : (kept : Entry) (more : List Entry) (choice : Choice) → UndoesLast (kept ∷ more) choice → 0 < length more → DoesWhole choice kept × UndoesLast more (choice_past kept choice)
undoes_more kept [] choice undoes some = absurd (omega (arith, some))
undoes_more kept (next ∷ more) choice undoes some = undoes

pub undoes_end : (kept : Entry) (more : List Entry) (choice : Choice) → UndoesLast (kept ∷ more) choice → length more ≡ 0 → DoesNone choice kept
undoes_end kept [] choice undoes none = undoes
undoes_end kept (next ∷ more) choice undoes none = absurd (omega (arith, none))

-- how many writes and cuts are before the last call
abbrev tears : Entry → ℕ
tears (entry.Write at n) = 1
tears (entry.Cut size) = 1
tears entry.Sync = 0
tears entry.Look = 0

abbrev lead : List Entry → ℕ
lead [] = 0
lead (kept ∷ []) = 0
lead (kept ∷ next ∷ more) = lead (next ∷ more) + tears kept

power_tells : (choice : Choice) (n : ℕ) → choice.rest ≡ 8 ^ suc n → IsFalse choice.chance → TearsAs 0 choice
power_tells choice n is chance = record { digit = ap (λ r. r % 8) (is ∙ pow-suc 8 n) ∙ mul-mod_left (8 ^ n) 8; chance = chance }

power_past : (rest n : ℕ) → rest ≡ 8 ^ suc n → rest / 8 ≡ 8 ^ n
power_past rest n is = ap (λ r. r / 8) (is ∙ pow-suc 8 n) ∙ mul-div_cancel (8 ^ n) (omega arith)

-- the number by which the newest call is undone, and that each choice with this number, as it is left there, undoes the last
record Leads (back : List Entry) (done : List Call) (number : ℕ) : Type 0 where
  number_is : number ≡ 8 ^ (lead back + torn_count done)
  undoes : (choice : Choice) → choice.rest ≡ 8 ^ lead back → IsFalse choice.chance → UndoesLast back choice

one_tells : (choice : Choice) → choice.rest ≡ 8 ^ 0 → IsFalse choice.chance → TearsAs 1 choice
one_tells choice is chance = record { digit = ap (λ r. r % 8) is; chance = chance }

leads : (kept : Entry) (more : List Entry) (bytes : List ℕ) (done : List Call) (number : ℕ) → All IsPending (kept ∷ more) → UndoesNewest number (calls_after (kept ∷ more) bytes done) → Leads (kept ∷ more) done number
leads (entry.Write at n) [] bytes done number pending undoes =
    let count : torn_count done ≡ 0 + torn_count done = omega arith in
    record { number_is = undoes ∙ ap (λ k. 8 ^ k) count; undoes = one_tells }
leads (entry.Cut size) [] bytes done number pending undoes =
    let count : torn_count done ≡ 0 + torn_count done = omega arith in
    record { number_is = undoes ∙ ap (λ k. 8 ^ k) count; undoes = one_tells }
leads entry.Sync [] bytes done number pending undoes = absurd undoes
leads entry.Look [] bytes done number pending undoes = absurd undoes
leads (entry.Write at n) (next ∷ more) bytes done number pending undoes =
    let tail : Leads (next ∷ more) (Wrote at (take n bytes) ∷ done) number = leads next more (drop n bytes) (Wrote at (take n bytes) ∷ done) number (All-tail IsPending _ (next ∷ more) pending) undoes in
    let count : lead (next ∷ more) + (torn_count done + 1) ≡ lead (next ∷ more) + 1 + torn_count done = omega arith in
    let one : lead (next ∷ more) + 1 ≡ suc (lead (next ∷ more)) = omega arith in
    record {
      number_is = tail.number_is ∙ ap (λ k. 8 ^ k) count;
      undoes = λ choice is chance. (power_tells choice (lead (next ∷ more)) (is ∙ ap (λ k. 8 ^ k) one) chance, tail.undoes (past_digit choice) (power_past choice.rest (lead (next ∷ more)) (is ∙ ap (λ k. 8 ^ k) one)) chance);
    }
leads (entry.Cut size) (next ∷ more) bytes done number pending undoes =
    let tail : Leads (next ∷ more) (WasCut size ∷ done) number = leads next more (drop 0 bytes) (WasCut size ∷ done) number (All-tail IsPending _ (next ∷ more) pending) undoes in
    let count : lead (next ∷ more) + (torn_count done + 1) ≡ lead (next ∷ more) + 1 + torn_count done = omega arith in
    let one : lead (next ∷ more) + 1 ≡ suc (lead (next ∷ more)) = omega arith in
    record {
      number_is = tail.number_is ∙ ap (λ k. 8 ^ k) count;
      undoes = λ choice is chance. (power_tells choice (lead (next ∷ more)) (is ∙ ap (λ k. 8 ^ k) one) chance, tail.undoes (past_digit choice) (power_past choice.rest (lead (next ∷ more)) (is ∙ ap (λ k. 8 ^ k) one)) chance);
    }
leads entry.Sync (next ∷ more) bytes done number pending undoes = absurd (All-head IsPending entry.Sync (next ∷ more) pending)
leads entry.Look (next ∷ more) bytes done number pending undoes =
    let tail : Leads (next ∷ more) (Looked ∷ done) number = leads next more (drop 0 bytes) (Looked ∷ done) number (All-tail IsPending _ (next ∷ more) pending) undoes in
    let none : lead (next ∷ more) ≡ lead (next ∷ more) + 0 = omega arith in
    record {
      number_is = tail.number_is ∙ ap (λ k. 8 ^ (k + torn_count done)) none;
      undoes = λ choice is chance. (tt, tail.undoes choice (is ∙ sym (ap (λ k. 8 ^ k) none)) chance);
    }

-- calls up to a sync have none that is pending
record Settled (calls : List Call) : Type 0 where
  none : torn_count calls ≡ 0
  keeps : (number : ℕ) → UndoesNewest number calls → ⊥

settled : (front : List Entry) (written : List ℕ) → EndsSynced front → Settled (calls_from_entries front written)
settled front written (inl none) =
    let empty : calls_from_entries front written ≡ [] = ap (λ (es : List Entry). calls_from_entries es written) none in
    subst Settled (sym empty) (record { none = refl; keeps = λ number undoes. undoes })
settled front written (inr ends) = subst Settled (sym (last_call front ends.0 written ends.1)) (record { none = refl; keeps = λ number undoes. undoes })

undoes_back : (back : List Entry) (bytes : List ℕ) (done : List Call) (choice : Choice) → Settled done → All IsPending back → Undoes choice (calls_after back bytes done) → UndoesLast back choice
undoes_back [] bytes done choice before pending undoes = before.keeps choice.rest undoes.rest
undoes_back (kept ∷ more) bytes done choice before pending undoes =
    let all : Leads (kept ∷ more) done choice.rest = leads kept more bytes done choice.rest pending undoes.rest in
    let count : lead (kept ∷ more) + torn_count done ≡ lead (kept ∷ more) = omega (arith, before.none) in
    all.undoes choice (all.number_is ∙ ap (λ k. 8 ^ k) count) undoes.chance

-- the choice undoes the last of the calls that are pending
undoes_pending : (entries : List Entry) (written : List ℕ) (place : ℕ) (choice : Choice) → EndsSynced (take place entries) → All IsPending (drop place entries) → Undoes choice (calls_from_entries entries written) → UndoesLast (drop place entries) choice
undoes_pending entries written place choice synced pending undoes =
    let parts : calls_from_entries entries written ≡ calls_after (drop place entries) (bytes_left (take place entries) written) (calls_from_entries (take place entries) written) =
    ap (λ (es : List Entry). calls_from_entries es written) (sym (take-append-drop place entries)) ∙ after_both (take place entries) (drop place entries) written [] in
    undoes_back (drop place entries) (bytes_left (take place entries) written) (calls_from_entries (take place entries) written) choice (settled (take place entries) written synced) pending (subst (λ (calls : List Call). Undoes choice calls) parts undoes)

-- a loop over the calls: those before the last are done, and at its end the last is not
pub record UndoesSoFar (first : List ℕ) (entries : List Entry) (written : List ℕ) (pending place : ℕ) (choice : Choice) (image : List ℕ) : Type 0 where
  pub ahead : pending ≤ place → place < length entries → UndoesLast (drop place entries) choice
  pub done : place < length entries → image ≡ image_after first (calls_from_entries (take place entries) written)
  pub undone : place ≡ length entries → image ≡ image_before first (calls_from_entries (take place entries) written)

-- a choice undoes one of the calls
pub some_pending : (entries : List Entry) (pending : ℕ) (choice : Choice) → UndoesLast (drop pending entries) choice → pending < length entries
some_pending entries pending choice undoes = elim (cases_lt pending (length entries)) [
  | inl inside ↦ inside
  | inr past ↦ absurd (subst (λ (es : List Entry). UndoesLast es choice) (drop_all pending entries past) undoes)
]

-- up to those that are pending
pub undoes_early : (first : List ℕ) (entries : List Entry) (written : List ℕ) (pending place : ℕ) (original choice : Choice) (image : List ℕ) → UndoesLast (drop pending entries) original → choice ≡ original → place ≤ pending → image ≡ image_after first (calls_from_entries (take place entries) written) → UndoesSoFar first entries written pending place choice image
undoes_early first entries written pending place original choice image undoes same early whole =
    let some : pending < length entries = some_pending entries pending original undoes in
    record {
      ahead = λ here inside. (let at : pending ≡ place = omega arith in subst (λ (n : ℕ). UndoesLast (drop n entries) choice) at (subst (λ (c : Choice). UndoesLast (drop pending entries) c) (sym same) undoes));
      done = λ inside. whole;
      undone = λ end. absurd (omega arith);
    }

-- one of them
pub undoes_late : (first : List ℕ) (entries : List Entry) (written bytes : List ℕ) (pending place : ℕ) (kept : Entry) (here : List ℕ) (choice next : Choice) (image new : List ℕ) → Turn first entries written bytes place kept here → pending ≤ place → UndoesSoFar first entries written pending place choice image → (DoesWhole choice kept → FitsIn (call_from_entry kept here) image → new ≡ changed (call_from_entry kept here) image) → (DoesNone choice kept → new ≡ image) → (DoesWhole choice kept → next ≡ choice_past kept choice) → UndoesSoFar first entries written pending (place + 1) next new
undoes_late first entries written bytes pending place kept here choice next image new turn late before whole none past =
    let rest : List Entry = drop (place + 1) entries in
    let split : drop place entries ≡ kept ∷ rest = drop_more entries place kept turn.inside ∙ ap (λ (e : Entry). e ∷ rest) (sym turn.is) in
    let ahead : UndoesLast (kept ∷ rest) choice = subst (λ (es : List Entry). UndoesLast es choice) split (before.ahead late turn.inside) in
    let size : length rest ≡ length entries - (place + 1) = length-drop (place + 1) entries in
    let more : place + 1 < length entries → DoesWhole choice kept × UndoesLast rest (choice_past kept choice) = λ inside. undoes_more kept rest choice ahead (omega (arith, inside)) in
    record {
      ahead = λ _ inside. subst (λ (c : Choice). UndoesLast rest c) (sym (past (more inside).0)) (more inside).1;
      done = λ inside. turn_whole first entries written bytes place kept here image new turn (before.done turn.inside) (whole (more inside).0);
      undone = λ end.
          (let last : DoesNone choice kept = undoes_end kept rest choice ahead (omega (arith, end)) in
          none last ∙ before.done turn.inside ∙ sym (ap (λ (calls : List Call). image_before first calls) (turn_call first entries written bytes place kept here turn)));
    }

pub undoes_all : (first : List ℕ) (entries : List Entry) (written : List ℕ) (pending place : ℕ) (choice : Choice) (image : List ℕ) → place ≡ length entries → UndoesSoFar first entries written pending place choice image → image ≡ image_before first (calls_from_entries entries written)
undoes_all first entries written pending place choice image end so_far =
    so_far.undone end ∙ ap (λ (es : List Entry). image_before first (calls_from_entries es written)) (take_all place entries (omega (arith, end)))

-- the calls but for a sync at their end, where the newest call is undone
undoes_unfinished : (choice : Choice) (entries before : List Entry) (written : List ℕ) → IsUnfinished entries before → Undoes choice (calls_from_entries entries written) → Undoes choice (calls_from_entries before written) × (calls_from_entries before written ≡ calls_from_entries entries written)
undoes_unfinished choice entries before written (inl same) undoes =
    let is : calls_from_entries before written ≡ calls_from_entries entries written = ap (λ (es : List Entry). calls_from_entries es written) same in
    (subst (λ (calls : List Call). Undoes choice calls) (sym is) undoes, is)
undoes_unfinished choice entries before written (inr synced) undoes =
    absurd (subst (λ (calls : List Call). Undoes choice calls) (last_call entries before written synced) undoes).rest

pub last_out : (first : List ℕ) (entries before : List Entry) (written : List ℕ) (pending : ℕ) (choice : Choice) (image : Vec ℕ Global) → IsUnfinished entries before → EndsSynced (take pending before) → All IsPending (drop pending before) → LeavesOutLast pending choice first before written image → LeavesOut choice first entries written image
last_out first entries before written pending choice image unfinished synced unsynced last = λ undoes.
    let shorter : Undoes choice (calls_from_entries before written) × (calls_from_entries before written ≡ calls_from_entries entries written) = undoes_unfinished choice entries before written unfinished undoes in
    last (undoes_pending before written pending choice synced unsynced shorter.0) ∙ ap (λ (calls : List Call). image_before first calls) shorter.1
