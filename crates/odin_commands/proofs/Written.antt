-- What is written piece by piece.
use Rattle.std.proofs.Common.{◌≡◌, ℕ, ◌≤◌, List, [], ◌∷◌, ◌++◌, length, take, drop, sym, ap, ◌∙◌, subst, arith}
use Rattle.std.specs.Prelude.{Result, Ok, Err, IsErr}
use Rattle.std.proofs.Math.Seq.{take-append_seam}
use Rattle.std.proofs.lemmas.List.{append_assoc, length-append, take-append-le, take-append-drop}
use Rattle.odin_commands.specs.Writing.{AppendsText}

-- what stood before a front stands in front
pub front_stays : (old first mid new : List ℕ) → mid ≡ old ++ first → take (length mid) new ≡ mid → take (length old) new ≡ old
front_stays old first mid new is stays =
    let whole : new ≡ mid ++ drop (length mid) new = sym (take-append-drop (length mid) new) ∙ ap (λ t. t ++ drop (length mid) new) stays in
    let short : length old ≤ length mid = omega (arith, ap length is, length-append old first) in
    ap (take (length old)) whole ∙ take-append-le (length old) mid (drop (length mid) new) short ∙ ap (take (length old)) is ∙ take-append_seam old first

-- a text after a first one
pub adds_behind : {E : Type 0} (r : Result Unit E) (old mid new first rest : List ℕ) → mid ≡ old ++ first → AppendsText r mid new rest → AppendsText r old new (first ++ rest)
adds_behind (Ok done) old mid new first rest is adds = adds ∙ ap (λ t. t ++ rest) is ∙ append_assoc old first rest
adds_behind (Err fault) old mid new first rest is stays = front_stays old first mid new is stays

-- what was there stands in front, at want of memory
pub fails : {E : Type 0} (r : Result Unit E) (old new text : List ℕ) → IsErr r → take (length old) new ≡ old → AppendsText r old new text
fails (Ok done) old new text failed stays = cc
fails (Err fault) old new text failed stays = stays

-- the same text, bracketed otherwise
pub adds_same : {E : Type 0} (r : Result Unit E) (old new text other : List ℕ) → text ≡ other → AppendsText r old new text → AppendsText r old new other
adds_same r old new text other is adds = subst (AppendsText r old new) is adds

pub spread : (word name space number : List ℕ) → word ++ (((name ++ space) ++ number) ++ 10 ∷ []) ≡ (((word ++ name) ++ space) ++ number) ++ 10 ∷ []
spread word name space number =
    sym (append_assoc word ((name ++ space) ++ number) (10 ∷ []))
    ∙ ap (λ t. t ++ 10 ∷ []) (sym (append_assoc word (name ++ space) number) ∙ ap (λ t. t ++ number) (sym (append_assoc word name space)))

-- what stands before a piece and after it
pub message_pieces : (level label text : List ℕ) → (level ++ 32 ∷ []) ++ ((label ++ 32 ∷ []) ++ (text ++ 10 ∷ [])) ≡ ((((level ++ 32 ∷ []) ++ label) ++ 32 ∷ []) ++ text) ++ 10 ∷ []
message_pieces level label text =
    let front = level ++ 32 ∷ [] in
    sym (append_assoc front (label ++ 32 ∷ []) (text ++ 10 ∷ []))
    ∙ ap (λ t. t ++ (text ++ 10 ∷ [])) (sym (append_assoc front label (32 ∷ [])))
    ∙ sym (append_assoc ((front ++ label) ++ 32 ∷ []) text (10 ∷ []))
