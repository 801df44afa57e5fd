-- Messages each messages_once: what stays the same where a message stands there already, and where there are as many as may be.
use Rattle.std.proofs.Common.{◌≡◌, ◌≤◌, Bool, true, false, not, List, [], ◌∷◌, ◌++◌, length, take, ap, sym, ◌∙◌, refl, rules}
use Rattle.std.specs.Prelude.{filter, Decides, ◌==◌, if◌then◌else◌}
use Rattle.std.specs.List.{list_any, IsDistinct, AllByRecursion}
use Rattle.std.proofs.lemmas.List.{take_all, take-append-le, append-nil, append_assoc}
use Rattle.std.proofs.lemmas.Bool.Decides.{same_from_decides}
use Rattle.std.proofs.lemmas.List.Elements.{filter-append}
use Rattle.std.specs.Cmp.Lexicographic.{bytes_decides}
use Rattle.object_values.specs.declared.messages.Status.{Status}
use Rattle.object_values.specs.declared.messages.Status.TheVariants.{Ok, Warning, Error, Abort}
use Rattle.object_values.specs.declared.messages.Message.{Message}
use Rattle.object_values.specs.contracts.messages.MessagePartialEq.TheImpl.{ghosts as message_eq}
use Rattle.object_values.specs.Exact.{message_exact}
use Rattle.indexmap.specs.IndexSet.{insert_key}
use Rattle.odin_nodes.specs.Inheriting.{AreFew}
use Rattle.meaning_tasks.specs.Values.{rank, is_message, messages_once, inherit}

-- ---- filters

swap_at : (p q : Message → Bool) (x : Message) (xs : List Message) (a b : Bool) → p x ≡ a → q x ≡ b → filter p (filter q xs) ≡ filter q (filter p xs) → filter p (filter q (x ∷ xs)) ≡ filter q (filter p (x ∷ xs))
swap_at p q x xs true true ea eb rest = grind rules
swap_at p q x xs true false ea eb rest = grind rules
swap_at p q x xs false true ea eb rest = grind rules
swap_at p q x xs false false ea eb rest = grind rules

-- two filters in either order
filter-swap : (p q : Message → Bool) (xs : List Message) → filter p (filter q xs) ≡ filter q (filter p xs)
filter-swap p q [] = refl
filter-swap p q (x ∷ xs) = swap_at p q x xs (p x) (q x) refl refl (filter-swap p q xs)

twice_at : (p : Message → Bool) (x : Message) (xs : List Message) (a : Bool) → p x ≡ a → filter p (filter p xs) ≡ filter p xs → filter p (filter p (x ∷ xs)) ≡ filter p (x ∷ xs)
twice_at p x xs true ea rest = grind rules
twice_at p x xs false ea rest = grind rules

filter-twice : (p : Message → Bool) (xs : List Message) → filter p (filter p xs) ≡ filter p xs
filter-twice p [] = refl
filter-twice p (x ∷ xs) = twice_at p x xs (p x) refl (filter-twice p xs)

-- ---- the test on two messages

rank_exact : (a b : Status) → Decides (rank a == rank b) (a ≡ b)
rank_exact Ok Ok = search rules
rank_exact Ok Warning = search rules
rank_exact Ok Error = search rules
rank_exact Ok Abort = search rules
rank_exact Warning Ok = search rules
rank_exact Warning Warning = search rules
rank_exact Warning Error = search rules
rank_exact Warning Abort = search rules
rank_exact Error Ok = search rules
rank_exact Error Warning = search rules
rank_exact Error Error = search rules
rank_exact Error Abort = search rules
rank_exact Abort Ok = search rules
rank_exact Abort Warning = search rules
rank_exact Abort Error = search rules
rank_exact Abort Abort = search rules

is_message_exact : (x y : Message) → Decides (is_message x y) (x ≡ y)
is_message_exact x y = search (rules, bytes_decides x.label y.label, rank_exact x.level y.level, bytes_decides x.text y.text)

pub same_test : (x y : Message) → message_eq.eq x y ≡ is_message x y
same_test x y = same_from_decides (message_eq.eq x y) (is_message x y) (message_exact x y) (is_message_exact x y)

-- ---- messages each messages_once

-- those unlike m
abbrev unlike : Message → List Message → List Message
unlike m messages = filter (λ other. not (is_message m other)) messages

-- a filter by another message on both sides of an equation
swapped : (m k : Message) (xs ys : List Message) → unlike m xs ≡ unlike m ys → unlike m (unlike k xs) ≡ unlike m (unlike k ys)
swapped m k xs ys e =
    filter-swap (λ other. not (is_message m other)) (λ other. not (is_message k other)) xs
    ∙ (ap (unlike k) e ∙ filter-swap (λ other. not (is_message k other)) (λ other. not (is_message m other)) ys)

head_at : (m k : Message) (xs ys : List Message) (b : Bool) → is_message m k ≡ b → unlike m xs ≡ unlike m ys → unlike m (k ∷ xs) ≡ unlike m (k ∷ ys)
head_at m k xs ys true eb e = grind rules
head_at m k xs ys false eb e = grind rules

-- among those unlike m, m itself counts nowhere
without_itself : (m : Message) (before rest : List Message) → unlike m (messages_once (before ++ m ∷ rest)) ≡ unlike m (messages_once (before ++ rest))
without_itself m [] rest = alone m (messages_once rest) (is_message m m) refl
  where
    alone : (m : Message) (zs : List Message) (b : Bool) → is_message m m ≡ b → unlike m (m ∷ unlike m zs) ≡ unlike m zs
    alone m zs true e = grind (rules, filter-twice (λ other. not (is_message m other)) zs)
    alone m zs false e = absurd (grind (rules, (is_message_exact m m).1 refl))
without_itself m (k ∷ before) rest =
    head_at m k (unlike k (messages_once (before ++ m ∷ rest))) (unlike k (messages_once (before ++ rest))) (is_message m k) refl
    (swapped m k (messages_once (before ++ m ∷ rest)) (messages_once (before ++ rest)) (without_itself m before rest))

stands_behind : (k : Message) (before rest : List Message) (m : Message) (b : Bool) → message_eq.eq m k ≡ b → (list_any (message_eq.eq m) before ≡ true → messages_once (before ++ m ∷ rest) ≡ messages_once (before ++ rest)) → list_any (message_eq.eq m) (k ∷ before) ≡ true → messages_once ((k ∷ before) ++ m ∷ rest) ≡ messages_once ((k ∷ before) ++ rest)
stands_behind k before rest m true e behind there = grind (rules, without_itself m before rest, (message_exact m k).0 e)
stands_behind k before rest m false e behind there = grind (rules, behind (grind rules))

-- one that stands there already adds nothing
pub there_already : (before rest : List Message) (m : Message) → list_any (message_eq.eq m) before ≡ true → messages_once (before ++ m ∷ rest) ≡ messages_once (before ++ rest)
there_already [] rest m there = absurd (grind rules)
there_already (k ∷ before) rest m there = stands_behind k before rest m (message_eq.eq m k) refl (there_already before rest m) there

-- ---- different messages

apart_at : (k : Message) (x : Message) (xs rest : List Message) → message_eq.eq k x ≡ false → unlike k xs ≡ xs → unlike k (x ∷ xs) ≡ x ∷ xs
apart_at k x xs rest e same = grind (rules, same_test k x)

-- none of them is like k
all_unlike : (k : Message) (xs : List Message) → AllByRecursion (λ y. message_eq.eq k y ≡ false) xs → unlike k xs ≡ xs
all_unlike k [] apart = refl
all_unlike k (x ∷ xs) apart = apart_at k x xs [] apart.0 (all_unlike k xs apart.1)

-- what comes after different messages
abbrev pub behind : List Message → List Message → List Message
behind [] more = messages_once more
behind (k ∷ messages) more = unlike k (behind messages more)

pub once_behind : (messages more : List Message) → IsDistinct message_eq.eq messages → messages_once (messages ++ more) ≡ messages ++ behind messages more
unfolding IsDistinct
once_behind [] more distinct = refl
once_behind (k ∷ messages) more distinct =
    ap (λ xs. k ∷ unlike k xs) (once_behind messages more distinct.1)
    ∙ ap (λ xs. k ∷ xs) (filter-append (λ other. not (is_message k other)) messages (behind messages more)
    ∙ ap (λ xs. xs ++ unlike k (behind messages more)) (all_unlike k messages distinct.0))

behind_none : (messages : List Message) → behind messages [] ≡ []
behind_none [] = refl
behind_none (k ∷ messages) = ap (unlike k) (behind_none messages)

-- ---- up to the limit

-- after no message all are inherited
pub inherit_all : (needs own : List Message) → inherit [] (needs ++ own) ≡ inherit needs own
unfolding inherit
inherit_all needs own = refl

pub inherits_none : (messages : List Message) → AreFew messages → inherit messages [] ≡ messages
unfolding inherit
inherits_none messages few =
    ap (take 1000) (once_behind messages [] few.distinct ∙ ap (λ xs. messages ++ xs) (behind_none messages) ∙ append-nil messages)
    ∙ take_all 1000 messages few.short

-- as many as may be take no more
pub inherits_full : (messages more : List Message) → AreFew messages → 1000 ≤ length messages → inherit messages more ≡ messages
unfolding inherit
inherits_full messages more few full =
    ap (take 1000) (once_behind messages more few.distinct) ∙ take-append-le 1000 messages (behind messages more) full ∙ take_all 1000 messages few.short

pub inherits_new : (messages more : List Message) (m : Message) → inherit (messages ++ m ∷ []) more ≡ inherit messages (m ∷ more)
unfolding inherit
inherits_new messages more m = ap (λ xs. take 1000 (messages_once xs)) (append_assoc messages (m ∷ []) more)

pub inherits_same : (messages more : List Message) (m : Message) → list_any (message_eq.eq m) messages ≡ true → inherit messages more ≡ inherit messages (m ∷ more)
unfolding inherit
inherits_same messages more m there = ap (take 1000) (sym (there_already messages more m there))

-- one that is put in, where it isn't there
pub inherits_put : (messages more : List Message) (m : Message) → inherit (insert_key message_eq.eq messages m) more ≡ inherit messages (m ∷ more)
inherits_put messages more m = by (list_any (message_eq.eq m) messages) refl
  where
    by : (b : Bool) → list_any (message_eq.eq m) messages ≡ b → inherit (if b then messages else messages ++ m ∷ []) more ≡ inherit messages (m ∷ more)
    by true there = inherits_same messages more m there
    by false e = inherits_new messages more m
