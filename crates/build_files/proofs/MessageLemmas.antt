-- What a line of a message tells of it.
use Rattle.std.proofs.Common.{◌≡◌, ◌≢◌, ℕ, zero, suc, ◌-◌, ◌/◌, ◌%◌, ◌⊎◌, Bool, true, false, cond, ◌==◌, inl, inr, List, [], ◌∷◌, ◌++◌, drop, ap, sym, refl, ◌∙◌, arith}
use Rattle.std.specs.Prelude.{codes, if◌then◌else◌}
use Rattle.std.proofs.lemmas.List.{append_assoc}
use Rattle.std.proofs.lemmas.Bool.Decides.{nat_tests}
use Rattle.object_values.specs.declared.messages.Message.{Message}
use Rattle.object_values.specs.declared.messages.Status.{Status}
use Rattle.object_values.specs.declared.messages.Status.TheVariants.{Ok, Warning, Error, Abort}
use Rattle.meaning_texts.specs.Escapes.{hexadecimal}
use Rattle.meaning_texts.specs.Lists.{HasNo}
use Rattle.odin_bytes.specs.Spellings.{AreBytes}
use Rattle.meaning_commands.specs.Formed.{IsFormedMessage}
use Rattle.meaning_commands.specs.Replies.{status_word}
use Rattle.shown_texts.specs.Shown.{spelling, shown_byte, stay_count, shown_after, shown}
use Rattle.build_files.specs.MessageLines.{begins_with_here, without_here, message_line}
use Rattle.build_files.specs.LineLaws.{SameButHere}
use Rattle.shown_texts.proofs.ShownLemmas.{same_shown}

-- ---- texts

bytes_behind : (text : List ℕ) → AreBytes text → AreBytes (drop 2 text)
bytes_behind [] bytes i = bytes i
bytes_behind (a ∷ []) bytes i = bytes (suc i)
bytes_behind (a ∷ (b ∷ rest)) bytes i = bytes (suc (suc i))

by_choice : {A : Type 0} (P : A → Type 0) (b : Bool) (x y : A) → (b ≡ true → P x) → P y → P (cond b x y)
by_choice P true x y there other = there refl
by_choice P false x y there other = other

here_is : (text : List ℕ) → begins_with_here text ≡ true → text ≡ codes "./" ++ drop 2 text
here_is [] is = cc
here_is (a ∷ []) is = absurd (grind (arith, nat_tests))
here_is (a ∷ (b ∷ rest)) is =
    let first : a ≡ 46 = grind (arith, nat_tests) in
    let second : b ≡ 47 = grind (arith, nat_tests) in
    rw (first, second) refl

abbrev IsHereOr : List ℕ → List ℕ → Type 0
IsHereOr text left = (text ≡ left) ⊎ (text ≡ codes "./" ++ left)

without_is : (text : List ℕ) → IsHereOr text (without_here text)
without_is text =
    by_choice (IsHereOr text) (begins_with_here text) (drop 2 text) text (λ is. inr (here_is text is)) (inl refl)

bytes_without : (text : List ℕ) → AreBytes text → AreBytes (without_here text)
bytes_without text bytes = by_choice AreBytes (begins_with_here text) (drop 2 text) text (λ _. bytes_behind text bytes) bytes

joined : (a b x y : List ℕ) → IsHereOr a x → IsHereOr b y → x ≡ y → SameButHere a b
joined a b x y (inl at) (inl also) is = inl (at ∙ is ∙ sym also)
joined a b x y (inl at) (inr also) is = inr (inr (also ∙ ap (λ (l : List ℕ). codes "./" ++ l) (sym is ∙ sym at)))
joined a b x y (inr at) (inl also) is = inr (inl (at ∙ ap (λ (l : List ℕ). codes "./" ++ l) (is ∙ sym also)))
joined a b x y (inr at) (inr also) is = inl (at ∙ ap (λ (l : List ℕ). codes "./" ++ l) is ∙ sym also)

pub tells_text : (a b : List ℕ) → AreBytes a → AreBytes b → shown (without_here a) ≡ shown (without_here b) → SameButHere a b
tells_text a b are also same =
    joined a b (without_here a) (without_here b) (without_is a) (without_is b)
    (same_shown (without_here a) (without_here b) (bytes_without a are) (bytes_without b also) same)

-- ---- labels

no_space_in_digit : (n : ℕ) → hexadecimal n ≢ 32
no_space_in_digit n = grind (arith, nat_tests)

no_space_in_spelling : (b : ℕ) (rest : List ℕ) → HasNo 32 rest → HasNo 32 (spelling b ++ rest)
unfolding spelling
no_space_in_spelling b rest none =
    by_choice (λ (l : List ℕ). HasNo 32 (l ++ rest)) (b == 92) (92 ∷ 92 ∷ []) _ (λ _. (omega arith, (omega arith, none)))
    (by_choice (λ (l : List ℕ). HasNo 32 (l ++ rest)) (b == 9) (92 ∷ 116 ∷ []) _ (λ _. (omega arith, (omega arith, none)))
    (omega arith, (omega arith, (no_space_in_digit (b / 16), (no_space_in_digit (b % 16), none)))))

pub no_space_shown : (left : ℕ) (text : List ℕ) → HasNo 32 text → HasNo 32 (shown_after left text)
no_space_shown left [] none = tt
no_space_shown left (b ∷ rest) none = on (stay_count left (b ∷ rest)) (λ n. no_space_shown n rest none.1)
  where
    on : (n : ℕ) → ((m : ℕ) → HasNo 32 (shown_after m rest)) → HasNo 32 (shown_byte n b ++ shown_after (n - 1) rest)
    on zero behind = no_space_in_spelling b (shown_after (0 - 1) rest) (behind (0 - 1))
    on (suc m) behind = (none.0, behind (suc m - 1))

one_head : (a b : ℕ) (more others : List ℕ) → a ∷ more ≡ b ∷ others → a ≡ b
one_head a b more others is = cc

one_tail : (a b : ℕ) (more others : List ℕ) → a ∷ more ≡ b ∷ others → more ≡ others
one_tail a b more others is = cc

-- what stands before the first space, and what stands after it
cut : (a b x y : List ℕ) → HasNo 32 a → HasNo 32 b → a ++ 32 ∷ x ≡ b ++ 32 ∷ y → (a ≡ b) × (x ≡ y)
cut [] [] x y one other is = (refl, one_tail 32 32 x y is)
cut [] (b ∷ others) x y one other is = absurd (other.0 (sym (one_head 32 b x _ is)))
cut (a ∷ more) [] x y one other is = absurd (one.0 (one_head a 32 _ y is))
cut (a ∷ more) (b ∷ others) x y one other is =
    let rest = cut more others x y one.1 other.1 (one_tail a b _ _ is) in
    (ap (λ (n : ℕ). n ∷ more) (one_head a b _ _ is) ∙ ap (λ (l : List ℕ). b ∷ l) rest.0, rest.1)

-- the status by the first byte of its word
status_by : List ℕ → Status
status_by [] = Ok
status_by (b ∷ rest) = if b == 111 then Ok else if b == 119 then Warning else if b == 101 then Error else Abort

by_word : (status : Status) → status_by (status_word status) ≡ status
unfolding status_by
by_word Ok = refl
by_word Warning = refl
by_word Error = refl
by_word Abort = refl

one_status : (a b : Status) → status_word a ≡ status_word b → a ≡ b
one_status a b is = sym (by_word a) ∙ ap status_by is ∙ by_word b

no_space_in_status : (status : Status) → HasNo 32 (status_word status)
no_space_in_status Ok = (omega arith, (omega arith, tt))
no_space_in_status Warning = (omega arith, (omega arith, (omega arith, (omega arith, (omega arith, (omega arith, (omega arith, tt)))))))
no_space_in_status Error = (omega arith, (omega arith, (omega arith, (omega arith, (omega arith, tt)))))
no_space_in_status Abort = (omega arith, (omega arith, (omega arith, (omega arith, (omega arith, tt)))))

words : (m : Message) → message_line true m ≡ status_word m.level ++ 32 ∷ (shown m.label ++ 32 ∷ shown m.text)
words m = simp append_assoc

message : List ℕ → Status → List ℕ → Message
message label level text = record { label = label; level = level; text = text }

one_message : (m n : Message) → m.label ≡ n.label → m.level ≡ n.level → m.text ≡ n.text → m ≡ n
unfolding message
one_message m n label level text =
    ap (λ (l : List ℕ). message l m.level m.text) label ∙ ap (λ (s : Status). message n.label s m.text) level ∙ ap (λ (t : List ℕ). message n.label n.level t) text

pub tells_message : (m n : Message) → IsFormedMessage m → IsFormedMessage n → AreBytes m.label → AreBytes n.label
    → message_line true m ≡ message_line true n → m ≡ n
tells_message m n one other are also same =
    let first = cut (status_word m.level) (status_word n.level) _ _ (no_space_in_status m.level) (no_space_in_status n.level) (sym (words m) ∙ same ∙ words n) in
    let second = cut (shown m.label) (shown n.label) _ _ (no_space_shown 0 m.label one.spaceless) (no_space_shown 0 n.label other.spaceless) first.1 in
    one_message m n (same_shown m.label n.label are also second.0) (one_status m.level n.level first.0) (same_shown m.text n.text one.bytes other.bytes second.1)
