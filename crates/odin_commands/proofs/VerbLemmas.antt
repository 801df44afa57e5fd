-- The words that replies begin with tell which reply it is, and what is said after them tells the rest.
use Rattle.std.proofs.Common.{◌≡◌, ◌≢◌, ℕ, List, [], ◌∷◌, ◌++◌, sym, ap, ◌∙◌, subst, refl, append_assoc, decimal, codes, ◌<◌, slice_index_or, lit<, length, arith}
use Rattle.std.specs.Prelude.{⊤, Option, Some, None, flat_map}
use Rattle.meaning_texts.specs.Classes.{IsName, IsId}
use Rattle.meaning_texts.specs.Lines.{HasNoLf, with_lf}
use Rattle.meaning_texts.proofs.Lemmas.{same_some, same_cut}
use Rattle.odin_bytes.specs.Laws.{EscapesReadBack}
use Rattle.odin_bytes.proofs.Lemmas.{has_no}
use Rattle.object_values.specs.declared.replies.Reply.{Reply}
use Rattle.object_values.specs.declared.replies.Reply.TheVariants as reply
use Rattle.meaning_commands.specs.Reading.{behind}
use Rattle.meaning_commands.specs.Replies.{word_and_number, status_word, body_text, messages_text, reply_text}
use Rattle.meaning_commands.specs.Formed.{IsSmall, IsMeasured, AreFormed, IsFormed, IsTold}
use Rattle.odin_commands.specs.declared.verbs.Alone.TheVariants.{Bye, RefusedCommand, RefusedName, RefusedSize, RefusedRead, RefusedToolStart}
use Rattle.odin_commands.specs.declared.verbs.Numbered.TheVariants.{Kept, RefusedExpression, RefusedPath}
use Rattle.odin_commands.specs.declared.verbs.Named.TheVariants.{NoFile, Dropped, NoSource}
use Rattle.odin_commands.specs.declared.verbs.Identified.TheVariants.{RefusedParam, RefusedType}
use Rattle.odin_commands.specs.declared.verbs.Measured.TheVariants.{Put, Took}
use Rattle.odin_commands.specs.declared.verbs.Listed.TheVariants.{Sources, Plan, RefusedCircular, RefusedDeep}
use Rattle.odin_commands.specs.declared.verbs.Verb.{Verb}
use Rattle.odin_commands.specs.declared.verbs.Verb.TheVariants as verb
use Rattle.odin_commands.specs.Verbs.{word_of, alone_reply, numbered_reply, named, identified, measured, listed}
use Rattle.odin_commands.specs.Reading.{counted_items}
use Rattle.odin_commands.proofs.TextLemmas.{id_has_no, same_line, lines_told, numbers_told, counted_is}
use Rattle.odin_commands.proofs.ItemLemmas.{counted_told}
use Rattle.odin_commands.proofs.ObjectLemmas.{Object, object_said, IsObject, objects_told}

-- ---- the words

abbrev pub verbs : List Verb
verbs =
    verb.Object ∷ verb.Measured Put ∷ verb.Measured Took ∷ verb.Named NoFile ∷ verb.Named Dropped ∷ verb.Named NoSource
    ∷ verb.Listed Sources ∷ verb.Listed Plan ∷ verb.Listed RefusedCircular ∷ verb.Listed RefusedDeep
    ∷ verb.Numbered Kept ∷ verb.Numbered RefusedExpression ∷ verb.Numbered RefusedPath ∷ verb.Identified RefusedParam ∷ verb.Identified RefusedType
    ∷ verb.Alone Bye ∷ verb.Alone RefusedCommand ∷ verb.Alone RefusedName ∷ verb.Alone RefusedSize ∷ verb.Alone RefusedRead ∷ verb.Alone RefusedToolStart ∷ []

cut_by : Verb → Option (List ℕ) → Option (Verb × List ℕ) → Option (Verb × List ℕ)
cut_by v (Some rest) others = Some (v, rest)
cut_by v None others = others

first_verb : List Verb → List ℕ → Option (Verb × List ℕ)
first_verb [] text = None
first_verb (v ∷ vs) text = cut_by v (behind (word_of v) text) (first_verb vs text)

it_is : (v : Verb) (rest : List ℕ) → first_verb verbs (word_of v ++ rest) ≡ Some (v, rest)
unfolding cut_by first_verb
it_is (verb.Alone Bye) rest = refl
it_is (verb.Alone RefusedCommand) rest = refl
it_is (verb.Alone RefusedName) rest = refl
it_is (verb.Alone RefusedSize) rest = refl
it_is (verb.Alone RefusedRead) rest = refl
it_is (verb.Alone RefusedToolStart) rest = refl
it_is (verb.Numbered Kept) rest = refl
it_is (verb.Numbered RefusedExpression) rest = refl
it_is (verb.Numbered RefusedPath) rest = refl
it_is (verb.Named NoFile) rest = refl
it_is (verb.Named Dropped) rest = refl
it_is (verb.Named NoSource) rest = refl
it_is (verb.Identified RefusedParam) rest = refl
it_is (verb.Identified RefusedType) rest = refl
it_is (verb.Measured Put) rest = refl
it_is (verb.Measured Took) rest = refl
it_is (verb.Listed Sources) rest = refl
it_is (verb.Listed Plan) rest = refl
it_is (verb.Listed RefusedCircular) rest = refl
it_is (verb.Listed RefusedDeep) rest = refl
it_is verb.Object rest = refl

words_apart : (v w : Verb) (s t : List ℕ) → word_of v ++ s ≡ word_of w ++ t → (v ≡ w) × (s ≡ t)
words_apart v w s t is =
    let both : (v, s) ≡ (w, t) = same_some (sym (it_is v s) ∙ ap (first_verb verbs) is ∙ it_is w t) in
    (ap (λ (p : Verb × List ℕ). p.0) both, ap (λ (p : Verb × List ℕ). p.1) both)

-- a text that begins with none of these words begins with none
abbrev pub NoneOf : List Verb → List ℕ → ℕ → Type 0
NoneOf list text count = (k : ℕ) → k < count → (rest : List ℕ) → text ≢ word_of (slice_index_or list k (verb.Alone Bye)) ++ rest

pub none_of_all : (text : List ℕ) → NoneOf verbs text 21 → (v : Verb) (rest : List ℕ) → text ≢ word_of v ++ rest
none_of_all text none verb.Object = none 0 (lit< tt)
none_of_all text none (verb.Measured Put) = none 1 (lit< tt)
none_of_all text none (verb.Measured Took) = none 2 (lit< tt)
none_of_all text none (verb.Named NoFile) = none 3 (lit< tt)
none_of_all text none (verb.Named Dropped) = none 4 (lit< tt)
none_of_all text none (verb.Named NoSource) = none 5 (lit< tt)
none_of_all text none (verb.Listed Sources) = none 6 (lit< tt)
none_of_all text none (verb.Listed Plan) = none 7 (lit< tt)
none_of_all text none (verb.Listed RefusedCircular) = none 8 (lit< tt)
none_of_all text none (verb.Listed RefusedDeep) = none 9 (lit< tt)
none_of_all text none (verb.Numbered Kept) = none 10 (lit< tt)
none_of_all text none (verb.Numbered RefusedExpression) = none 11 (lit< tt)
none_of_all text none (verb.Numbered RefusedPath) = none 12 (lit< tt)
none_of_all text none (verb.Identified RefusedParam) = none 13 (lit< tt)
none_of_all text none (verb.Identified RefusedType) = none 14 (lit< tt)
none_of_all text none (verb.Alone Bye) = none 15 (lit< tt)
none_of_all text none (verb.Alone RefusedCommand) = none 16 (lit< tt)
none_of_all text none (verb.Alone RefusedName) = none 17 (lit< tt)
none_of_all text none (verb.Alone RefusedSize) = none 18 (lit< tt)
none_of_all text none (verb.Alone RefusedRead) = none 19 (lit< tt)
none_of_all text none (verb.Alone RefusedToolStart) = none 20 (lit< tt)

-- ---- what is said after them

abbrev pub Said : Verb → Type 0
Said (verb.Alone v) = Unit {0}
Said (verb.Numbered v) = ℕ
Said (verb.Named v) = List ℕ
Said (verb.Identified v) = List ℕ
Said (verb.Measured v) = List ℕ × ℕ
Said (verb.Listed v) = List (List ℕ)
Said verb.Object = Object

abbrev pub reply_of : (v : Verb) → Said v → Reply
reply_of (verb.Alone v) said = alone_reply v
reply_of (verb.Numbered v) number = numbered_reply v number
reply_of (verb.Named v) name = named v name
reply_of (verb.Identified v) name = identified v name
reply_of (verb.Measured v) said = measured v said.0 said.1
reply_of (verb.Listed v) lines = listed v lines
reply_of verb.Object o = reply.Shown o.status o.body o.messages

abbrev pub IsSaid : (v : Verb) → Said v → Type 0
IsSaid (verb.Alone v) said = ⊤
IsSaid (verb.Numbered v) number = IsSmall number
IsSaid (verb.Named v) name = IsName name
IsSaid (verb.Identified v) name = IsId name
IsSaid (verb.Measured v) said = IsMeasured said.0 said.1
IsSaid (verb.Listed v) lines = AreFormed HasNoLf lines
IsSaid verb.Object o = IsObject o

abbrev pub said_text : (v : Verb) → Said v → List ℕ
said_text (verb.Alone v) said = with_lf []
said_text (verb.Numbered v) number = with_lf (decimal number)
said_text (verb.Named v) name = with_lf name
said_text (verb.Identified v) name = with_lf name
said_text (verb.Measured v) said = with_lf (word_and_number said.0 said.1)
said_text (verb.Listed v) lines = counted_items with_lf lines
said_text verb.Object o = object_said o

text_is : (v : Verb) (said : Said v) → reply_text (reply_of v said) ≡ word_of v ++ said_text v said
text_is (verb.Alone Bye) said = refl
text_is (verb.Alone RefusedCommand) said = refl
text_is (verb.Alone RefusedName) said = refl
text_is (verb.Alone RefusedSize) said = refl
text_is (verb.Alone RefusedRead) said = refl
text_is (verb.Alone RefusedToolStart) said = refl
text_is (verb.Numbered Kept) said = refl
text_is (verb.Numbered RefusedExpression) said = refl
text_is (verb.Numbered RefusedPath) said = refl
text_is (verb.Named NoFile) said = refl
text_is (verb.Named Dropped) said = refl
text_is (verb.Named NoSource) said = refl
text_is (verb.Identified RefusedParam) said = refl
text_is (verb.Identified RefusedType) said = refl
text_is (verb.Measured Put) said = refl
text_is (verb.Measured Took) said = refl
text_is (verb.Listed Sources) said = refl
text_is (verb.Listed Plan) said = refl
text_is (verb.Listed RefusedCircular) said = refl
text_is (verb.Listed RefusedDeep) said = refl
text_is verb.Object said = refl

formed_said : (v : Verb) (said : Said v) → IsSaid v said → IsFormed (reply_of v said)
formed_said (verb.Alone Bye) said good = good
formed_said (verb.Alone RefusedCommand) said good = good
formed_said (verb.Alone RefusedName) said good = good
formed_said (verb.Alone RefusedSize) said good = good
formed_said (verb.Alone RefusedRead) said good = good
formed_said (verb.Alone RefusedToolStart) said good = good
formed_said (verb.Numbered Kept) said good = good
formed_said (verb.Numbered RefusedExpression) said good = good
formed_said (verb.Numbered RefusedPath) said good = good
formed_said (verb.Named NoFile) said good = good
formed_said (verb.Named Dropped) said good = good
formed_said (verb.Named NoSource) said good = good
formed_said (verb.Identified RefusedParam) said good = good
formed_said (verb.Identified RefusedType) said good = good
formed_said (verb.Measured Put) said good = good
formed_said (verb.Measured Took) said good = good
formed_said (verb.Listed Sources) said good = good
formed_said (verb.Listed Plan) said good = good
formed_said (verb.Listed RefusedCircular) said good = good
formed_said (verb.Listed RefusedDeep) said good = good
formed_said verb.Object said good = good

-- A reply, by its words and by what it says after them.
record IsOf (r : Reply) (v : Verb) (said : Said v) : Type 0 where
  is : reply_of v said ≡ r
  good : IsFormed r → IsSaid v said

abbrev Parts : Reply → Type 0
Parts r = (v : Verb) × ((said : Said v) × IsOf r v said)

parts : (r : Reply) → Parts r
parts (reply.Put name count) = (verb.Measured Put, ((name, count), record { is = refl; good = λ h. h }))
parts (reply.Took name count) = (verb.Measured Took, ((name, count), record { is = refl; good = λ h. h }))
parts (reply.NoFile name) = (verb.Named NoFile, (name, record { is = refl; good = λ h. h }))
parts (reply.Dropped name) = (verb.Named Dropped, (name, record { is = refl; good = λ h. h }))
parts (reply.NoSource name) = (verb.Named NoSource, (name, record { is = refl; good = λ h. h }))
parts (reply.Sources lines) = (verb.Listed Sources, (lines, record { is = refl; good = λ h. h }))
parts (reply.Kept number) = (verb.Numbered Kept, (number, record { is = refl; good = λ h. h }))
parts (reply.Plan lines) = (verb.Listed Plan, (lines, record { is = refl; good = λ h. h }))
parts reply.Bye = (verb.Alone Bye, (tt, record { is = refl; good = λ h. h }))
parts reply.RefusedCommand = (verb.Alone RefusedCommand, (tt, record { is = refl; good = λ h. h }))
parts reply.RefusedName = (verb.Alone RefusedName, (tt, record { is = refl; good = λ h. h }))
parts reply.RefusedSize = (verb.Alone RefusedSize, (tt, record { is = refl; good = λ h. h }))
parts reply.RefusedRead = (verb.Alone RefusedRead, (tt, record { is = refl; good = λ h. h }))
parts (reply.RefusedExpression number) = (verb.Numbered RefusedExpression, (number, record { is = refl; good = λ h. h }))
parts (reply.RefusedParam name) = (verb.Identified RefusedParam, (name, record { is = refl; good = λ h. h }))
parts (reply.RefusedType name) = (verb.Identified RefusedType, (name, record { is = refl; good = λ h. h }))
parts (reply.RefusedPath number) = (verb.Numbered RefusedPath, (number, record { is = refl; good = λ h. h }))
parts (reply.RefusedCircular lines) = (verb.Listed RefusedCircular, (lines, record { is = refl; good = λ h. h }))
parts (reply.RefusedDeep lines) = (verb.Listed RefusedDeep, (lines, record { is = refl; good = λ h. h }))
parts reply.RefusedToolStart = (verb.Alone RefusedToolStart, (tt, record { is = refl; good = λ h. h }))
parts (reply.Shown status body messages) = (verb.Object, (record { status = status; body = body; messages = messages }, record { is = refl; good = λ h. h }))

-- ---- reading

whole_text : (v : Verb) (said : Said v) (behind : List ℕ) → reply_text (reply_of v said) ++ behind ≡ word_of v ++ (said_text v said ++ behind)
whole_text v said behind = ap (λ l. l ++ behind) (text_is v said) ∙ append_assoc (word_of v) (said_text v said) behind

-- what is read after the words
pub is_read : (v : Verb) (said : Said v) (text behind : List ℕ) → text ≡ said_text v said ++ behind → IsSaid v said
    → (word_of v ++ text ≡ reply_text (reply_of v said) ++ behind) × IsFormed (reply_of v said)
is_read v said text behind is good = (ap (λ l. word_of v ++ l) is ∙ sym (whole_text v said behind), formed_said v said good)

pub read_as : (v : Verb) (said : Said v) (r : Reply) (text behind : List ℕ) → r ≡ reply_of v said → text ≡ said_text v said ++ behind → IsSaid v said
    → (word_of v ++ text ≡ reply_text r ++ behind) × IsFormed r
read_as v said r text behind it is good = subst (λ (r : Reply). (word_of v ++ text ≡ reply_text r ++ behind) × IsFormed r) (sym it) (is_read v said text behind is good)

-- After these words stands the rest of no reply.
pub none_said : (v : Verb) (text : List ℕ) → ((said : Said v) (behind : List ℕ) → IsSaid v said → text ≢ said_text v said ++ behind)
    → (r : Reply) (behind : List ℕ) → IsFormed r → word_of v ++ text ≢ reply_text r ++ behind
none_said v text none r behind formed is = by_parts (parts r)
  where
    by_parts : Parts r → ⊥
    by_parts (w, (said, of)) =
        let apart = words_apart v w text (said_text w said ++ behind) (is ∙ ap (λ q. reply_text q ++ behind) (sym of.is) ∙ whole_text w said behind) in
        (subst (λ (w : Verb). (said : Said w) → IsSaid w said → text ≡ said_text w said ++ behind → ⊥) apart.0 (λ said good is. none said behind good is)) said (of.good formed) apart.1

-- a reply begins with the words of a verb
pub some_words : (text : List ℕ) → ((v : Verb) (behind : List ℕ) → text ≢ word_of v ++ behind) → (r : Reply) (behind : List ℕ) → IsFormed r → text ≢ reply_text r ++ behind
some_words text none r behind formed is = by_parts (parts r)
  where
    by_parts : Parts r → ⊥
    by_parts (w, (said, of)) = none w (said_text w said ++ behind) (is ∙ ap (λ q. reply_text q ++ behind) (sym of.is) ∙ whole_text w said behind)

-- ---- the law

pub measures_told : IsTold (λ (said : List ℕ × ℕ). with_lf (word_and_number said.0 said.1)) (λ said. IsMeasured said.0 said.1)
measures_told a b behind rest good also is =
    let names = same_cut 32 a.0 b.0 _ _ (has_no 32 refl a.0 good.named) (has_no 32 refl b.0 also.named) (sym (counted_is a.0 a.1 behind) ∙ is ∙ counted_is b.0 b.1 rest) in
    let counts = numbers_told a.1 b.1 behind rest good.small also.small names.1 in
    ((λ i. (names.0 i, counts.0 i)), counts.1)

told : EscapesReadBack → (v : Verb) → IsTold (said_text v) (IsSaid v)
told read_back (verb.Alone v) a b behind rest good also is = (refl, cc)
told read_back (verb.Numbered v) a b behind rest good also is = numbers_told a b behind rest good also is
told read_back (verb.Named v) a b behind rest good also is = same_line a b behind rest (has_no 10 refl a good) (has_no 10 refl b also) is
told read_back (verb.Identified v) a b behind rest good also is = same_line a b behind rest (id_has_no 10 refl a good) (id_has_no 10 refl b also) is
told read_back (verb.Measured v) a b behind rest good also is = measures_told a b behind rest good also is
told read_back (verb.Listed v) a b behind rest good also is = counted_told with_lf HasNoLf lines_told a b behind rest good also is
told read_back verb.Object a b behind rest good also is = objects_told read_back a b behind rest good also is

pub replies_told : EscapesReadBack → IsTold reply_text IsFormed
replies_told read_back a b behind rest good also is = by_parts (parts a) (parts b)
  where
    by_parts : Parts a → Parts b → (a ≡ b) × (behind ≡ rest)
    by_parts (v, (said, of)) (w, (other, by)) =
        let apart = words_apart v w (said_text v said ++ behind) (said_text w other ++ rest)
        (sym (whole_text v said behind) ∙ ap (λ q. reply_text q ++ behind) of.is ∙ is ∙ ap (λ q. reply_text q ++ rest) (sym by.is) ∙ whole_text w other rest) in
        let both = (subst (λ (w : Verb). (other : Said w) → IsSaid w other → said_text v said ++ behind ≡ said_text w other ++ rest → (reply_of v said ≡ reply_of w other) × (behind ≡ rest)) apart.0
        (λ other good_other is. let same = told read_back v said other behind rest (of.good good) good_other is in (ap (reply_of v) same.0, same.1))) other (by.good also) apart.1 in
        (sym of.is ∙ both.0 ∙ by.is, both.1)

-- ---- each text has a byte

some_behind : (front : List ℕ) (b : ℕ) (rest : List ℕ) → 0 < length (front ++ b ∷ rest)
some_behind [] b rest = omega arith
some_behind (x ∷ front) b rest = omega arith

some_front : (front rest : List ℕ) → 0 < length front → 0 < length (front ++ rest)
some_front [] rest some = absurd (omega (arith, some))
some_front (x ∷ front) rest some = omega arith

some_back : (front rest : List ℕ) → 0 < length rest → 0 < length (front ++ rest)
some_back [] rest some = some
some_back (x ∷ front) rest some = omega arith

some_said : (v : Verb) (said : Said v) → 0 < length (said_text v said)
some_said (verb.Alone v) said = some_behind [] 10 []
some_said (verb.Numbered v) number = some_behind (decimal number) 10 []
some_said (verb.Named v) name = some_behind name 10 []
some_said (verb.Identified v) name = some_behind name 10 []
some_said (verb.Measured v) said = some_behind (word_and_number said.0 said.1) 10 []
some_said (verb.Listed v) lines = some_front (with_lf (decimal (length lines))) (flat_map with_lf lines) (some_behind (decimal (length lines)) 10 [])
some_said verb.Object o = some_front (status_word o.status ++ codes " ") (body_text o.body ++ messages_text o.messages) (some_behind (status_word o.status) 32 [])

pub some_text : (r : Reply) → 0 < length (reply_text r)
some_text r = by_parts (parts r)
  where
    by_parts : Parts r → 0 < length (reply_text r)
    by_parts (v, (said, of)) =
        subst (λ (text : List ℕ). 0 < length text) (sym (text_is v said) ∙ ap reply_text of.is) (some_back (word_of v) (said_text v said) (some_said v said))
