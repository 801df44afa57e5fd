-- Objects: what is read of their statuses, bodies and messages, and that their texts tell them.
use Rattle.std.proofs.Common.{◌≡◌, ◌≢◌, ℕ, ◌/◌, ◌%◌, ◌≤◌, Bool, true, false, not, List, [], ◌∷◌, ◌++◌, length, get_or, sym, ap, ◌∙◌, subst, refl, arith, append_assoc, decimal, codes, if◌then◌else◌}
use Rattle.std.specs.Prelude.{◌==◌, nat_le}
use Rattle.std.proofs.lemmas.Bool.{and_parts, leb-true}
use Rattle.std.proofs.lemmas.Bool.Decides.{nat_tests}
use Rattle.std.proofs.lemmas.Fmt.{decimal_digit}
use Rattle.object_values.specs.declared.messages.Status.{Status}
use Rattle.object_values.specs.declared.messages.Status.TheVariants.{Ok, Warning, Error, Abort}
use Rattle.object_values.specs.declared.messages.Message.{Message}
use Rattle.object_values.specs.declared.views.Part.{Part}
use Rattle.meaning_texts.specs.Escapes.{hexadecimal, is_printable, escaped_byte, escaped}
use Rattle.meaning_texts.specs.Lists.{HasNo}
use Rattle.meaning_texts.specs.Lines.{HasNoLf, with_lf}
use Rattle.meaning_texts.proofs.Lemmas.{HasNo-append, HasNo-pass, HasNo-split, never_both, id_decides, same_cut}
use Rattle.odin_bytes.specs.Spellings.{AreBytes, SpellsNothing}
use Rattle.meaning_texts.specs.Classes.{IsId}
use Rattle.meaning_texts.specs.Tests.{is_id}
use Rattle.odin_bytes.specs.Laws.{EscapesReadBack}
use Rattle.object_values.specs.declared.replies.ShownBody.{ShownBody}
use Rattle.object_values.specs.declared.replies.ShownBody.TheVariants.{Nothing, Simple, List as Listed, Compound}
use Rattle.meaning_commands.specs.Replies.{word_and_number, status_word, part_text, body_text, message_text, messages_text}
use Rattle.meaning_commands.specs.Formed.{IsSmall, AreFormed, IsFormedPart, IsFormedMessage, IsFormedBody, IsShownAt, IsFormedObject, IsTold}
use Rattle.odin_commands.specs.Reading.{counted_items}
use Rattle.odin_commands.proofs.TextLemmas.{HasNo-front, HasNo-back, id_has_no, first_is, no_line, same_line, lines_told, counted_is, sized, bodies_told}
use Rattle.odin_commands.proofs.ItemLemmas.{counted_told}

-- ---- statuses

status_by : List ℕ → Status
status_by [] = Ok
status_by (b ∷ rest) = if b == 111 then Ok else if b == 119 then Warning else if b == 101 then Error else Abort

by_word : (status : Status) → status_by (status_word status) ≡ status
unfolding status_by
by_word Ok = refl
by_word Warning = refl
by_word Error = refl
by_word Abort = refl

pub one_status : (a b : Status) → status_word a ≡ status_word b → a ≡ b
one_status a b is = sym (by_word a) ∙ ap status_by is ∙ by_word b

pub no_space_in_status : (status : Status) → HasNo 32 (status_word status)
no_space_in_status Ok = HasNo-pass (λ b. not (b == 32)) 32 refl (status_word Ok) refl
no_space_in_status Warning = HasNo-pass (λ b. not (b == 32)) 32 refl (status_word Warning) refl
no_space_in_status Error = HasNo-pass (λ b. not (b == 32)) 32 refl (status_word Error) refl
no_space_in_status Abort = HasNo-pass (λ b. not (b == 32)) 32 refl (status_word Abort) refl

pub no_lf_in_status : (status : Status) → HasNoLf (status_word status)
no_lf_in_status Ok = HasNo-pass (λ b. not (b == 10)) 10 refl (status_word Ok) refl
no_lf_in_status Warning = HasNo-pass (λ b. not (b == 10)) 10 refl (status_word Warning) refl
no_lf_in_status Error = HasNo-pass (λ b. not (b == 10)) 10 refl (status_word Error) refl
no_lf_in_status Abort = HasNo-pass (λ b. not (b == 10)) 10 refl (status_word Abort) refl

-- ---- messages

high_digit : (digit : ℕ) → 48 ≤ hexadecimal digit
high_digit digit = grind (arith, nat_tests)

no_lf_by : (b : ℕ) (backslash printable : Bool) → is_printable b ≡ printable
    → HasNo 10 (if backslash then 92 ∷ 92 ∷ [] else if printable then b ∷ [] else 92 ∷ 120 ∷ hexadecimal (b / 16) ∷ hexadecimal (b % 16) ∷ [])
no_lf_by b true printable is = ((λ (e : 92 ≡ 10). omega arith), ((λ (e : 92 ≡ 10). omega arith), tt))
no_lf_by b false true is = let parts = and_parts (nat_le 32 b) (nat_le b 126) is in let low : 32 ≤ b = leb-true 32 b parts.0 in ((λ (e : b ≡ 10). omega arith), tt)
no_lf_by b false false is =
    let high = high_digit (b / 16) in
    let low = high_digit (b % 16) in
    ((λ (e : 92 ≡ 10). omega arith), ((λ (e : 120 ≡ 10). omega arith), ((λ (e : hexadecimal (b / 16) ≡ 10). omega arith), ((λ (e : hexadecimal (b % 16) ≡ 10). omega arith), tt))))

no_lf_in_escaped : (text : List ℕ) → HasNoLf (escaped text)
no_lf_in_escaped [] = tt
no_lf_in_escaped (b ∷ text) = HasNo-append 10 (escaped_byte b) (escaped text) (no_lf_by b (b == 92) (is_printable b) refl) (no_lf_in_escaped text)

-- its line, cut at the spaces
abbrev pub line_of : Message → List ℕ
line_of m = status_word m.level ++ 32 ∷ (m.label ++ 32 ∷ escaped m.text)

pub message_is : (m : Message) → message_text m ≡ with_lf (line_of m)
message_is m =
    let front = status_word m.level ++ codes " " in
    ap with_lf (append_assoc (front ++ m.label) (codes " ") (escaped m.text) ∙ append_assoc front m.label (32 ∷ escaped m.text) ∙ append_assoc (status_word m.level) (codes " ") (m.label ++ 32 ∷ escaped m.text))

pub no_lf_in_line : (m : Message) → IsFormedMessage m → HasNoLf (line_of m)
no_lf_in_line m good =
    HasNo-append 10 (status_word m.level) _ (no_lf_in_status m.level) ((λ (e : 32 ≡ 10). omega arith), HasNo-append 10 m.label _ good.one_line ((λ (e : 32 ≡ 10). omega arith), no_lf_in_escaped m.text))

-- two messages of one line are one
pub one_message : EscapesReadBack → (a b : Message) → IsFormedMessage a → IsFormedMessage b → line_of a ≡ line_of b → a ≡ b
one_message read_back a b good also is =
    let words = same_cut 32 (status_word a.level) (status_word b.level) _ _ (no_space_in_status a.level) (no_space_in_status b.level) is in
    let labels = same_cut 32 a.label b.label _ _ good.spaceless also.spaceless words.1 in
    let levels = one_status a.level b.level words.0 in
    let texts = read_back a.text b.text good.bytes also.bytes labels.1 in
    (λ i. record { label = labels.0 i; level = levels i; text = texts i })

pub messages_told : EscapesReadBack → IsTold message_text IsFormedMessage
messages_told read_back a b behind rest good also is =
    let both = same_line (line_of a) (line_of b) behind rest (no_lf_in_line a good) (no_lf_in_line b also) (sym (ap (λ l. l ++ behind) (message_is a)) ∙ is ∙ ap (λ l. l ++ rest) (message_is b)) in
    (one_message read_back a b good also both.0, both.1)

pub message_lists_told : EscapesReadBack → IsTold messages_text (AreFormed IsFormedMessage)
message_lists_told read_back xs ys behind rest good also is = counted_told message_text IsFormedMessage (messages_told read_back) xs ys behind rest good also (let same : counted_items message_text xs ++ behind ≡ counted_items message_text ys ++ rest = cc in same)

-- a line, cut at its first space
pub message_cut : (line word rest : List ℕ) → line ≡ word ++ 32 ∷ rest → HasNo 32 word → HasNoLf line → (m : Message) → IsFormedMessage m → with_lf line ≡ message_text m
    → (word ≡ status_word m.level) × (rest ≡ m.label ++ 32 ∷ escaped m.text)
message_cut line word rest is spaceless one_line m good reads =
    let lines = same_cut 10 line (line_of m) [] [] one_line (no_lf_in_line m good) (reads ∙ message_is m) in
    same_cut 32 word (status_word m.level) rest (m.label ++ 32 ∷ escaped m.text) spaceless (no_space_in_status m.level) (sym is ∙ lines.0)

-- no message where no status stands
pub no_level : (line word rest : List ℕ) → line ≡ word ++ 32 ∷ rest → HasNo 32 word → HasNoLf line → ((status : Status) → word ≢ status_word status) → (m : Message) → IsFormedMessage m → with_lf line ≢ message_text m
no_level line word rest is spaceless one_line none m good reads = let both = message_cut line word rest is spaceless one_line m good reads in none m.level both.0

pub no_label : (line word rest : List ℕ) → line ≡ word ++ 32 ∷ rest → HasNo 32 word → HasNoLf line → HasNo 32 rest → (m : Message) → IsFormedMessage m → with_lf line ≢ message_text m
no_label line word rest is spaceless one_line none m good reads =
    let both = message_cut line word rest is spaceless one_line m good reads in
    HasNo-split 32 m.label (escaped m.text) (subst (HasNo 32) both.1 none)

pub no_spelling : (line word rest label spelling : List ℕ) → line ≡ word ++ 32 ∷ rest → HasNo 32 word → HasNoLf line → rest ≡ label ++ 32 ∷ spelling → HasNo 32 label → SpellsNothing spelling
    → (m : Message) → IsFormedMessage m → with_lf line ≢ message_text m
no_spelling line word rest label spelling is spaceless one_line rest_is label_spaceless none m good reads =
    let both = message_cut line word rest is spaceless one_line m good reads in
    let labels = same_cut 32 label m.label spelling (escaped m.text) label_spaceless good.spaceless (sym rest_is ∙ both.1) in
    none m.text good.bytes labels.1

pub message_read : (line word rest label spelling : List ℕ) (m : Message) → line ≡ word ++ 32 ∷ rest → word ≡ status_word m.level → HasNoLf line → rest ≡ label ++ 32 ∷ spelling → HasNo 32 label → m.label ≡ label → spelling ≡ escaped m.text
    → AreBytes m.text → (with_lf line ≡ message_text m) × IsFormedMessage m
message_read line word rest label spelling m is word_is one_line rest_is spaceless label_is text_is bytes =
    let rest_too : rest ≡ m.label ++ 32 ∷ escaped m.text = rest_is ∙ ap (λ l. l ++ 32 ∷ spelling) (sym label_is) ∙ ap (λ l. m.label ++ 32 ∷ l) text_is in
    let whole : line ≡ line_of m = is ∙ ap (λ l. l ++ 32 ∷ rest) word_is ∙ ap (λ l. status_word m.level ++ 32 ∷ l) rest_too in
    let behind_word = HasNo-back 10 (status_word m.level) (32 ∷ (m.label ++ 32 ∷ escaped m.text)) (subst HasNoLf whole one_line) in (
      ap with_lf whole ∙ sym (message_is m),
      record {
        spaceless = subst (HasNo 32) (sym label_is) spaceless;
        one_line = HasNo-front 10 m.label (32 ∷ escaped m.text) behind_word.1;
        bytes = bytes;
      },
    )

-- the line of the first message
pub no_message_line : (text : List ℕ) → HasNoLf text → (m : Message) (behind : List ℕ) → IsFormedMessage m → text ≢ message_text m ++ behind
no_message_line text none m behind good is = no_line text (line_of m) behind none (is ∙ ap (λ l. l ++ behind) (message_is m))

pub no_message : (text line rest : List ℕ) → text ≡ line ++ 10 ∷ rest → HasNoLf line → ((m : Message) → IsFormedMessage m → with_lf line ≢ message_text m) → (m : Message) (behind : List ℕ) → IsFormedMessage m → text ≢ message_text m ++ behind
no_message text line rest is one_line none m behind good reads =
    let same = first_is text line rest (line_of m) behind is one_line (no_lf_in_line m good) (reads ∙ ap (λ l. l ++ behind) (message_is m)) in
    none m good (ap with_lf same.0 ∙ sym (message_is m))

-- ---- parts

pub part_is : (p : Part) (behind : List ℕ) → part_text p ++ behind ≡ p.name ++ 32 ∷ (sized p.body ++ behind)
part_is p behind =
    append_assoc (with_lf (word_and_number p.name (length p.body))) (with_lf p.body) behind ∙ counted_is p.name (length p.body) (with_lf p.body ++ behind)
    ∙ ap (λ l. p.name ++ 32 ∷ l) (sym (append_assoc (with_lf (decimal (length p.body))) (with_lf p.body) behind))

-- a part, cut at its first space
part_cut : (text name rest : List ℕ) → text ≡ name ++ 32 ∷ rest → HasNo 32 name → (p : Part) (behind : List ℕ) → IsFormedPart p → text ≡ part_text p ++ behind → (name ≡ p.name) × (rest ≡ sized p.body ++ behind)
part_cut text name rest is spaceless p behind good reads =
    same_cut 32 name p.name rest (sized p.body ++ behind) spaceless (id_has_no 32 refl p.name good.named) (sym is ∙ reads ∙ part_is p behind)

pub no_part_space : (text : List ℕ) → HasNo 32 text → (p : Part) (behind : List ℕ) → IsFormedPart p → text ≢ part_text p ++ behind
no_part_space text none p behind good reads = HasNo-split 32 p.name (sized p.body ++ behind) (subst (HasNo 32) (reads ∙ part_is p behind) none)

pub no_part_name : (text name rest : List ℕ) → text ≡ name ++ 32 ∷ rest → HasNo 32 name → is_id name ≡ false → (p : Part) (behind : List ℕ) → IsFormedPart p → text ≢ part_text p ++ behind
no_part_name text name rest is spaceless wrong p behind good reads =
    let both = part_cut text name rest is spaceless p behind good reads in
    never_both (is_id name) (ap is_id both.0 ∙ (id_decides p.name).1 good.named) wrong

pub no_part_body : (text name rest : List ℕ) → text ≡ name ++ 32 ∷ rest → HasNo 32 name → ((body behind : List ℕ) → IsSmall (length body) → rest ≢ sized body ++ behind)
    → (p : Part) (behind : List ℕ) → IsFormedPart p → text ≢ part_text p ++ behind
no_part_body text name rest is spaceless none p behind good reads = let both = part_cut text name rest is spaceless p behind good reads in none p.body behind good.short both.1

pub part_read : (text name rest behind : List ℕ) (p : Part) → text ≡ name ++ 32 ∷ rest → p.name ≡ name → IsId name → rest ≡ sized p.body ++ behind → IsSmall (length p.body) → (text ≡ part_text p ++ behind) × IsFormedPart p
part_read text name rest behind p is name_is id rest_is small = (
  is ∙ ap (λ l. l ++ 32 ∷ rest) (sym name_is) ∙ ap (λ l. p.name ++ 32 ∷ l) rest_is ∙ sym (part_is p behind),
  record { named = subst IsId (sym name_is) id; short = small },
)

pub parts_told : IsTold part_text IsFormedPart
parts_told a b behind rest good also is =
    let names = same_cut 32 a.name b.name _ _ (id_has_no 32 refl a.name good.named) (id_has_no 32 refl b.name also.named) (sym (part_is a behind) ∙ is ∙ part_is b rest) in
    let bodies = bodies_told a.body b.body behind rest good.short also.short names.1 in
    ((λ i. record { name = names.0 i; body = bodies.0 i }), bodies.1)

-- ---- bodies

first : List ℕ → ℕ
first text = get_or text 0 0

pub nothing_text : codes "none 0\n" ≡ body_text Nothing
nothing_text = ap (λ digits. with_lf (codes "none " ++ digits)) (sym (decimal_digit 0 (omega arith)))

pub nothing_only : (body : ShownBody) (text behind : List ℕ) → codes "none 0\n" ++ text ≡ body_text body ++ behind → (body ≡ Nothing) × (text ≡ behind)
unfolding first
nothing_only Nothing text behind is = (refl, (cc (decimal_digit 0 (omega arith))))
nothing_only (Simple t) text behind is = let wrong : ◌≡◌ {A = ℕ} 110 115 = ap first is in absurd (omega arith)
nothing_only (Listed lines) text behind is = let wrong : ◌≡◌ {A = ℕ} 110 108 = ap first is in absurd (omega arith)
nothing_only (Compound parts) text behind is = let wrong : ◌≡◌ {A = ℕ} 110 99 = ap first is in absurd (omega arith)

pub simple_only : (body : ShownBody) (text behind : List ℕ) → codes "simple " ++ text ≡ body_text body ++ behind → (t : List ℕ) × (body ≡ Simple t) × (text ≡ sized t ++ behind)
unfolding first
simple_only Nothing text behind is = let wrong : ◌≡◌ {A = ℕ} 115 110 = ap first is in absurd (omega arith)
simple_only (Simple t) text behind is = (t, refl, cc)
simple_only (Listed lines) text behind is = let wrong : ◌≡◌ {A = ℕ} 115 108 = ap first is in absurd (omega arith)
simple_only (Compound parts) text behind is = let wrong : ◌≡◌ {A = ℕ} 115 99 = ap first is in absurd (omega arith)

pub list_only : (body : ShownBody) (text behind : List ℕ) → codes "list " ++ text ≡ body_text body ++ behind → (lines : List (List ℕ)) × (body ≡ Listed lines) × (text ≡ counted_items with_lf lines ++ behind)
unfolding first
list_only Nothing text behind is = let wrong : ◌≡◌ {A = ℕ} 108 110 = ap first is in absurd (omega arith)
list_only (Simple t) text behind is = let wrong : ◌≡◌ {A = ℕ} 108 115 = ap first is in absurd (omega arith)
list_only (Listed lines) text behind is = (lines, refl, cc)
list_only (Compound parts) text behind is = let wrong : ◌≡◌ {A = ℕ} 108 99 = ap first is in absurd (omega arith)

pub compound_only : (body : ShownBody) (text behind : List ℕ) → codes "compound " ++ text ≡ body_text body ++ behind → (parts : List Part) × (body ≡ Compound parts) × (text ≡ counted_items part_text parts ++ behind)
unfolding first
compound_only Nothing text behind is = let wrong : ◌≡◌ {A = ℕ} 99 110 = ap first is in absurd (omega arith)
compound_only (Simple t) text behind is = let wrong : ◌≡◌ {A = ℕ} 99 115 = ap first is in absurd (omega arith)
compound_only (Listed lines) text behind is = let wrong : ◌≡◌ {A = ℕ} 99 108 = ap first is in absurd (omega arith)
compound_only (Compound parts) text behind is = (parts, refl, cc)

-- after each word, no body where what it says isn't there
pub no_simple : (text : List ℕ) → ((t behind : List ℕ) → IsSmall (length t) → text ≢ sized t ++ behind) → (body : ShownBody) (behind : List ℕ) → IsFormedBody body → codes "simple " ++ text ≢ body_text body ++ behind
no_simple text none body behind good is = let only = simple_only body text behind is in none only.0 behind (subst IsFormedBody only.1 good) only.2

pub no_list : (text : List ℕ) → ((lines : List (List ℕ)) (behind : List ℕ) → AreFormed HasNoLf lines → text ≢ counted_items with_lf lines ++ behind)
    → (body : ShownBody) (behind : List ℕ) → IsFormedBody body → codes "list " ++ text ≢ body_text body ++ behind
no_list text none body behind good is = let only = list_only body text behind is in none only.0 behind (subst IsFormedBody only.1 good) only.2

pub no_compound : (text : List ℕ) → ((parts : List Part) (behind : List ℕ) → AreFormed IsFormedPart parts → text ≢ counted_items part_text parts ++ behind)
    → (body : ShownBody) (behind : List ℕ) → IsFormedBody body → codes "compound " ++ text ≢ body_text body ++ behind
no_compound text none body behind good is = let only = compound_only body text behind is in none only.0 behind (subst IsFormedBody only.1 good) only.2

-- none of the words begins the text
pub record HasNoKind (text : List ℕ) : Type 0 where
  pub nothing : (rest : List ℕ) → text ≢ codes "none 0\n" ++ rest
  pub simple : (rest : List ℕ) → text ≢ codes "simple " ++ rest
  pub list : (rest : List ℕ) → text ≢ codes "list " ++ rest
  pub compound : (rest : List ℕ) → text ≢ codes "compound " ++ rest

pub no_body : (text : List ℕ) → HasNoKind text → (body : ShownBody) (behind : List ℕ) → IsFormedBody body → text ≢ body_text body ++ behind
no_body text none Nothing behind good is = none.nothing behind (is ∙ ap (λ l. l ++ behind) (sym nothing_text))
no_body text none (Simple t) behind good is = none.simple (sized t ++ behind) is
no_body text none (Listed lines) behind good is = none.list (counted_items with_lf lines ++ behind) is
no_body text none (Compound parts) behind good is = none.compound (counted_items part_text parts ++ behind) is

pub bodies_of_objects_told : IsTold body_text IsFormedBody
bodies_of_objects_told Nothing b behind rest good also is =
    let only = nothing_only b behind rest (ap (λ l. l ++ behind) nothing_text ∙ is) in (sym only.0, only.1)
bodies_of_objects_told (Simple t) b behind rest good also is =
    let only = simple_only b (sized t ++ behind) rest is in
    let both = bodies_told t only.0 behind rest good (subst IsFormedBody only.1 also) only.2 in
    (ap Simple both.0 ∙ sym only.1, both.1)
bodies_of_objects_told (Listed lines) b behind rest good also is =
    let only = list_only b (counted_items with_lf lines ++ behind) rest is in
    let both = counted_told with_lf HasNoLf lines_told lines only.0 behind rest good (subst IsFormedBody only.1 also) only.2 in
    (ap Listed both.0 ∙ sym only.1, both.1)
bodies_of_objects_told (Compound parts) b behind rest good also is =
    let only = compound_only b (counted_items part_text parts ++ behind) rest is in
    let both = counted_told part_text IsFormedPart parts_told parts only.0 behind rest good (subst IsFormedBody only.1 also) only.2 in
    (ap Compound both.0 ∙ sym only.1, both.1)

-- ---- objects

pub record Object : Type 0 where
  pub status : Status
  pub body : ShownBody
  pub messages : List Message

-- after the word
abbrev pub object_said : Object → List ℕ
object_said o = (status_word o.status ++ codes " ") ++ (body_text o.body ++ messages_text o.messages)

abbrev pub IsObject : Object → Type 0
IsObject o = IsFormedObject o.status o.body o.messages

pub object_is : (o : Object) (behind : List ℕ) → object_said o ++ behind ≡ status_word o.status ++ 32 ∷ (body_text o.body ++ (messages_text o.messages ++ behind))
object_is o behind =
    append_assoc (status_word o.status ++ codes " ") (body_text o.body ++ messages_text o.messages) behind
    ∙ append_assoc (status_word o.status) (codes " ") ((body_text o.body ++ messages_text o.messages) ++ behind)
    ∙ ap (λ l. status_word o.status ++ 32 ∷ l) (append_assoc (body_text o.body) (messages_text o.messages) behind)

pub objects_told : EscapesReadBack → IsTold object_said IsObject
objects_told read_back a b behind rest good also is =
    let words = same_cut 32 (status_word a.status) (status_word b.status) _ _ (no_space_in_status a.status) (no_space_in_status b.status) (sym (object_is a behind) ∙ is ∙ object_is b rest) in
    let bodies = bodies_of_objects_told a.body b.body (messages_text a.messages ++ behind) (messages_text b.messages ++ rest) good.body_formed also.body_formed words.1 in
    let lists = message_lists_told read_back a.messages b.messages behind rest good.messages_formed also.messages_formed bodies.1 in
    let statuses = one_status a.status b.status words.0 in
    ((λ i. record { status = statuses i; body = bodies.0 i; messages = lists.0 i }), lists.1)

-- an object, cut at its first space
object_cut : (text word rest : List ℕ) → text ≡ word ++ 32 ∷ rest → HasNo 32 word → (o : Object) (behind : List ℕ) → text ≡ object_said o ++ behind
    → (word ≡ status_word o.status) × (rest ≡ body_text o.body ++ (messages_text o.messages ++ behind))
object_cut text word rest is spaceless o behind reads =
    same_cut 32 word (status_word o.status) rest (body_text o.body ++ (messages_text o.messages ++ behind)) spaceless (no_space_in_status o.status) (sym is ∙ reads ∙ object_is o behind)

pub no_object_space : (text : List ℕ) → HasNo 32 text → (o : Object) (behind : List ℕ) → IsObject o → text ≢ object_said o ++ behind
no_object_space text none o behind good reads = HasNo-split 32 (status_word o.status) _ (subst (HasNo 32) (reads ∙ object_is o behind) none)

pub no_object_status : (text word rest : List ℕ) → text ≡ word ++ 32 ∷ rest → HasNo 32 word → ((status : Status) → word ≢ status_word status) → (o : Object) (behind : List ℕ) → IsObject o → text ≢ object_said o ++ behind
no_object_status text word rest is spaceless none o behind good reads = let both = object_cut text word rest is spaceless o behind reads in none o.status both.0

pub no_object_body : (text word rest : List ℕ) → text ≡ word ++ 32 ∷ rest → HasNo 32 word → ((body : ShownBody) (behind : List ℕ) → IsFormedBody body → rest ≢ body_text body ++ behind)
    → (o : Object) (behind : List ℕ) → IsObject o → text ≢ object_said o ++ behind
no_object_body text word rest is spaceless none o behind good reads =
    let both = object_cut text word rest is spaceless o behind reads in none o.body (messages_text o.messages ++ behind) good.body_formed both.1

-- The status and the body that are read are those of every object that stands there.
pub record IsRead (text : List ℕ) (status : Status) (body : ShownBody) (rest : List ℕ) : Type 0 where
  pub is : text ≡ status_word status ++ 32 ∷ (body_text body ++ rest)
  pub good : IsFormedBody body

pub record IsSame (o : Object) (status : Status) (body : ShownBody) (rest behind : List ℕ) : Type 0 where
  pub status_is : status ≡ o.status
  pub body_is : body ≡ o.body
  pub rest_is : rest ≡ messages_text o.messages ++ behind

same_object : (text : List ℕ) (status : Status) (body : ShownBody) (rest : List ℕ) → IsRead text status body rest → (o : Object) (behind : List ℕ) → IsObject o → text ≡ object_said o ++ behind → IsSame o status body rest behind
same_object text status body rest read o behind good reads =
    let both = object_cut text (status_word status) (body_text body ++ rest) read.is (no_space_in_status status) o behind reads in
    let bodies = bodies_of_objects_told body o.body rest (messages_text o.messages ++ behind) read.good good.body_formed both.1 in
    record { status_is = one_status status o.status both.0; body_is = bodies.0; rest_is = bodies.1 }

pub no_object_shown : (text : List ℕ) (status : Status) (body : ShownBody) (rest : List ℕ) → IsRead text status body rest → ¬ IsShownAt status body → (o : Object) (behind : List ℕ) → IsObject o → text ≢ object_said o ++ behind
no_object_shown text status body rest read wrong o behind good reads =
    let same = same_object text status body rest read o behind good reads in
    wrong (subst (λ (s : Status). IsShownAt s body) (sym same.status_is) (subst (λ (b : ShownBody). IsShownAt o.status b) (sym same.body_is) good.shown))

pub no_object_messages : (text : List ℕ) (status : Status) (body : ShownBody) (rest : List ℕ) → IsRead text status body rest → ((messages : List Message) (behind : List ℕ) → AreFormed IsFormedMessage messages → rest ≢ messages_text messages ++ behind)
    → (o : Object) (behind : List ℕ) → IsObject o → text ≢ object_said o ++ behind
no_object_messages text status body rest read none o behind good reads =
    let same = same_object text status body rest read o behind good reads in none o.messages behind good.messages_formed same.rest_is

pub object_read : (text : List ℕ) (status : Status) (body : ShownBody) (rest : List ℕ) (messages : List Message) (behind : List ℕ) → IsRead text status body rest → rest ≡ messages_text messages ++ behind
    → text ≡ object_said (record { status = status; body = body; messages = messages }) ++ behind
object_read text status body rest messages behind read is =
    let o : Object = record { status = status; body = body; messages = messages } in
    read.is ∙ ap (λ l. status_word status ++ 32 ∷ (body_text body ++ l)) is ∙ sym (object_is o behind)
