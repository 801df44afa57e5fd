-- Files that are written, one after another.
use Rattle.std.proofs.Common.{◌≡◌, ℕ, List, [], ◌∷◌, ◌++◌, Option, Result, Ok, Err, IfErr, OnErr, OnOk, refl, sym, subst, ◌∙◌, append_assoc, inl, inr}
use Rattle.std.specs.Prelude.{IsErrAnd}
use Rattle.std.proofs.lemmas.List.{append-nil}
use Rattle.odin_outside.specs.Files.{Files}
use Rattle.project_build.specs.Writes.{Write, HasWritten, MayHaveWritten, HaveWritten, none_written, one_written, HasWrittenSome}

-- ---- results

-- a fault that is handed on
pub handed : {T E : Type 0} (P : E → Type 0) (r : Result T E) (e : E) → IsErrAnd r (λ given. given ≡ e) → P e → IfErr r P
handed P (Ok x) e never there = tt
handed P (Err given) e is there = subst P (sym is) there

-- whatever it is
pub after_err : {T E : Type 0} (P : Type 0) (r : Result T E) → P → OnErr r P
after_err P (Ok x) there = tt
after_err P (Err given) there = there

pub more_at_ok : {T E : Type 0} (A B : Type 0) (r : Result T E) → (A → B) → OnOk r A → OnOk r B
more_at_ok A B (Ok x) more there = more there
more_at_ok A B (Err given) more there = tt

pub more_at_err : {T E : Type 0} (A B : Type 0) (r : Result T E) → (A → B) → OnErr r A → OnErr r B
more_at_err A B (Ok x) more there = tt
more_at_err A B (Err given) more there = more there

-- ---- some first ones

-- none of them
pub wrote_none : (writes : List Write) (files : Option Files) → HasWrittenSome writes files files
wrote_none writes files = record { made = []; rest = writes; whole = refl; written = none_written }

-- all of them
pub wrote_all : (writes : List Write) (old new : Option Files) → HaveWritten old writes new → HasWrittenSome writes old new
wrote_all writes old new written = record { made = writes; rest = []; whole = sym (append-nil writes); written = written }

-- those before one that failed, and maybe that one
pub wrote_some : (writes made rest : List Write) (path body : List ℕ) (old mid new : Option Files) → writes ≡ made ++ (path, body) ∷ rest
    → HaveWritten old made mid → MayHaveWritten path body mid new → HasWrittenSome writes old new
wrote_some writes made rest path body old mid new whole written may = elim may [
  | inl same ↦ record {
    made = made;
    rest = (path, body) ∷ rest;
    whole = whole;
    written = subst (λ (files : Option Files). HaveWritten old made files) (sym same) written;
  }
  | inr one ↦ record {
    made = made ++ (path, body) ∷ [];
    rest = rest;
    whole = whole ∙ sym (append_assoc made ((path, body) ∷ []) rest);
    written = one_written made path body mid new written one;
  }
]

-- one alone
pub wrote_one : (path body : List ℕ) (old new : Option Files) → HasWritten path body old new → HaveWritten old ((path, body) ∷ []) new
wrote_one path body old new one = one_written [] path body old new none_written one
