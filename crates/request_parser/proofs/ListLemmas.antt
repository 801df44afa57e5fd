-- Spaces between items, and the items that were read so far.
use Rattle.std.proofs.Common.{◌≡◌, ℕ, ◌≤◌, Bool, true, false, List, [], ◌∷◌, ◌++◌, length, Some, refl, ap, subst, arith, append_assoc, length-append}
use Rattle.std.specs.Prelude.{nat_eq}
use Rattle.std.specs.List.{list_all}
use Rattle.std.proofs.lemmas.Bool.{both_ways, and_parts, eqb-true}
use Rattle.object_values.specs.declared.nodes.ParamValue.{ParamValue}
use Rattle.object_values.specs.declared.expressions.ExprStep.{ExprStep}
use Rattle.meaning_texts.specs.Expressions.{Items, space, AreKeptAs}
use Rattle.request_parser.specs.declared.bytes.Class.TheVariants as class
use Rattle.request_parser.specs.declared.items.Item.{Item}
use Rattle.request_parser.specs.declared.items.Item.TheVariants.{Param, Step}
use Rattle.request_parser.specs.declared.items.Found.{Found}
use Rattle.request_parser.specs.Runs.{has, next, IsPast, TakesRun}
use Rattle.request_parser.specs.Reads.{HaltsAt, AreItems, ReadsItem, ReadsItems}
use Rattle.request_parser.specs.Found.{PutsItem}
use Rattle.request_parser.proofs.ReadLemmas.{halts_behind, behind_space}

-- ---- spaces

abbrev are_spaces : List ℕ → Type 0
are_spaces run = list_all (has class.Space) run ≡ true

pub spaces_items : (run rest : List ℕ) (ps : List ParamValue) (ss : List ExprStep) → are_spaces run → Items rest ps ss → Items (run ++ rest) ps ss
spaces_items [] rest ps ss all i = i
spaces_items (b ∷ run) rest ps ss all i =
    let h = and_parts (nat_eq b 32) (list_all (has class.Space) run) all in
    let is : b ≡ 32 = eqb-true b 32 h.0 in
    rw is (space (run ++ rest) ps ss (spaces_items run rest ps ss h.1 i))

behind_spaces : (run rest : List ℕ) → are_spaces run → AreItems (run ++ rest) → AreItems rest
behind_spaces [] rest all a = a
behind_spaces (b ∷ run) rest all a =
    let h = and_parts (nat_eq b 32) (list_all (has class.Space) run) all in
    let is : b ≡ 32 = eqb-true b 32 h.0 in
    behind_spaces run rest h.1 (behind_space (b ∷ (run ++ rest)) a.0 a.1 (run ++ rest) a.2 (ap (λ x. x ∷ (run ++ rest)) is))

pub spaces_halt : (run text rest place : List ℕ) → TakesRun (has class.Space) run text rest → HaltsAt AreItems rest place → HaltsAt AreItems text place
spaces_halt run text rest place t h = rw t.is (halts_behind AreItems AreItems run rest place (λ u a. (a.0, a.1, spaces_items run u a.0 a.1 t.each a.2)) (λ u n a. behind_spaces run u t.each a) h)

-- no space comes next
pub no_space : (rest : List ℕ) → IsPast (has class.Space) rest → next rest ≡ Some 32 → ⊥
no_space [] p e = cc
no_space (b ∷ rest) p e = let is : b ≡ 32 = cc in let n : nat_eq 32 32 ≡ false = subst (λ x. nat_eq x 32 ≡ false) is p in both_ways (nat_eq 32 32) n refl

-- ---- the items so far

pub none_kept : AreKeptAs [] []
none_kept = record { sorted = λ k d low high. absurd (omega arith); values = λ name. refl }

pub none_read : (run text rest : List ℕ) → TakesRun (has class.Space) run text rest → ReadsItems text rest [] []
none_read run text rest t = record {
  written = [];
  are_kept = none_kept;
  reads = λ ps ss i. rw t.is (spaces_items run rest ps ss t.each i);
  halts = λ place h. spaces_halt run text rest place t h;
}

pub spaces_read : (text rest run behind : List ℕ) (kept : List ParamValue) (steps : List ExprStep) → ReadsItems text rest kept steps → TakesRun (has class.Space) run rest behind → ReadsItems text behind kept steps
spaces_read text rest run behind kept steps a t = record {
  written = a.written;
  are_kept = a.are_kept;
  reads = λ ps ss i. a.reads ps ss (rw t.is (spaces_items run behind ps ss t.each i));
  halts = λ place h. a.halts place (spaces_halt run rest behind place t h);
}

pub item_read : (item : Item) (text rest behind : List ℕ) (old new : Found) → ReadsItems text rest old.params.items old.steps → ReadsItem item rest behind → PutsItem item old new → ReadsItems text behind new.params.items new.steps
item_read (Param p) text rest behind old new a r put =
    let written : List ParamValue = a.written in
    record {
      written = written ++ p ∷ [];
      are_kept = put.0 written a.are_kept;
      reads = λ ps ss i. rw (put.1, append_assoc written (p ∷ []) ps) (a.reads (p ∷ ps) ss (r.reads ps ss i));
      halts = λ place h. a.halts place (r.halts place h);
    }
item_read (Step s) text rest behind old new a r put =
    let steps : List ExprStep = old.steps in
    record {
      written = a.written;
      are_kept = rw put.0 a.are_kept;
      reads = λ ps ss i. rw (put.1, append_assoc steps (s ∷ []) ss) (a.reads ps (s ∷ ss) (r.reads ps ss i));
      halts = λ place h. a.halts place (r.halts place h);
    }

pub run_shorter : (test : ℕ → Bool) (run text rest : List ℕ) → TakesRun test run text rest → length rest ≤ length text
run_shorter test run text rest t = rw t.is (omega (arith, length-append run rest))
