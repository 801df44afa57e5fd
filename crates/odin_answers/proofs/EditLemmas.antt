-- What edits of the sources say.
use Rattle.std.proofs.Common.{true, false, ◌≡◌, ℕ, ◌<◌, ◌≤◌, List, length, ap, refl, sym, ◌∙◌, subst, inl, inr}
use Rattle.std.specs.Prelude.{Option, Some, None, IsSome, is_none}
use Rattle.std.specs.Option.{option_map}
use Rattle.std.specs.FinMap.{get, insert, remove}
use Rattle.object_values.specs.Texts.{Text, Texts}
use Rattle.odin_outside.specs.Causes.{IsCounted}
use Rattle.odin_outside.specs.Files.{IsGiven}
use Rattle.meaning_texts.specs.Limits.{body_limit}
use Rattle.object_values.specs.declared.replies.Reply.{Reply}
use Rattle.object_values.specs.declared.replies.Reply.TheVariants as reply
use Rattle.meaning_commands.specs.Replies.{reply_text}
use Rattle.odin_answers.specs.Edits.{SaysReply, Puts, TreeTold, TakesFile, Takes, Removes, RemovesText}

-- this reply is said
says : (P : Reply → Type 0) (said : Reply) (bytes : List ℕ) → P said → bytes ≡ reply_text said → SaysReply P bytes
says P said bytes holds is = record { said = said; bytes_are = is; holds = holds }

says_as : (P Q : Reply → Type 0) (bytes : List ℕ) → ((said : Reply) → P said → Q said) → SaysReply P bytes → SaysReply Q bytes
says_as P Q bytes f a = record { said = a.said; bytes_are = a.bytes_are; holds = f a.said a.holds }

-- ---- put

pub put_too_long : (old : Texts) (name : Text) (count : ℕ) (text : Text) (bytes : List ℕ) → body_limit < count → bytes ≡ reply_text reply.RefusedSize → SaysReply (λ said. Puts old name count text said old) bytes
put_too_long old name count text bytes longer is = says (λ said. Puts old name count text said old) reply.RefusedSize bytes (inr (record { longer = longer; is = refl; same = refl })) is

pub put_done : (old new : Texts) (name : Text) (count : ℕ) (text : Text) (bytes : List ℕ) → count ≤ body_limit → bytes ≡ reply_text (reply.Put name count) → new ≡ insert old name text
    → SaysReply (λ said. Puts old name count text said new) bytes
put_done old new name count text bytes fits is put = says (λ said. Puts old name count text said new) (reply.Put name count) bytes (inl (record { fits = fits; is = refl; put = put })) is

-- ---- take

pub no_file : (old new : Texts) (name : Text) (file : Option Text) (bytes : List ℕ) → new ≡ old → file ≡ None → bytes ≡ reply_text (reply.NoFile name) → SaysReply (λ said. TakesFile old name file said new) bytes
no_file old new name file bytes kept none is =
    subst (λ (f : Option Text). SaysReply (λ said. TakesFile old name f said new) bytes) (sym none) (says (λ said. TakesFile old name None said new) (reply.NoFile name) bytes (refl, kept) is)

pub file_too_long : (old new : Texts) (name : Text) (file : Option Text) (text : Text) (bytes : List ℕ) → new ≡ old → file ≡ Some text → body_limit < length text → bytes ≡ reply_text reply.RefusedSize
    → SaysReply (λ said. TakesFile old name file said new) bytes
file_too_long old new name file text bytes kept there longer is =
    subst (λ (f : Option Text). SaysReply (λ said. TakesFile old name f said new) bytes) (sym there)
    (says (λ said. TakesFile old name (Some text) said new) reply.RefusedSize bytes (inr (record { longer = longer; is = refl; same = kept })) is)

pub file_done : (old new : Texts) (name : Text) (file : Option Text) (text : Text) (bytes : List ℕ) → file ≡ Some text → length text ≤ body_limit → bytes ≡ reply_text (reply.Took name (length text)) → new ≡ insert old name text
    → SaysReply (λ said. TakesFile old name file said new) bytes
file_done old new name file text bytes there fits is put =
    subst (λ (f : Option Text). SaysReply (λ said. TakesFile old name f said new) bytes) (sym there)
    (says (λ said. TakesFile old name (Some text) said new) (reply.Took name (length text)) bytes (inl (record { fits = fits; is = refl; put = put })) is)

pub file_taken : (old new : Texts) (name : Text) (before now : TreeTold) (file : Option Text) (bytes : List ℕ) → IsGiven before.files name file → now.faults ≡ before.faults
    → SaysReply (λ said. TakesFile old name file said new) bytes → SaysReply (λ said. Takes old name before said new now) bytes
file_taken old new name before now file bytes given unfailed =
    says_as (λ said. TakesFile old name file said new) (λ said. Takes old name before said new now) bytes (λ said takes. inl (record { file = file; given = given; takes = takes; unfailed = unfailed }))

pub file_unread : (old : Texts) (name : Text) (before now : TreeTold) (bytes : List ℕ) → IsCounted before.faults now.faults → bytes ≡ reply_text reply.RefusedRead
    → SaysReply (λ said. Takes old name before said old now) bytes
file_unread old name before now bytes failed is = says (λ said. Takes old name before said old now) reply.RefusedRead bytes (inr (record { failed = failed; is = refl; same = refl })) is

-- ---- drop

none_there : {A B : Type 0} (f : A → B) (o : Option A) (found : Option B) → option_map f o ≡ found → is_none o ≡ true → found ≡ None
none_there f None found e none = sym e
none_there f (Some x) found e none = cc

some_there : {A B : Type 0} (f : A → B) (o : Option A) (found : Option B) → option_map f o ≡ found → is_none o ≡ false → (x : B) × (found ≡ Some x)
some_there f None found e none = cc
some_there f (Some x) found e none = (f x, sym e)

pub no_source : {A : Type 0} (f : A → Text) (o : Option A) (old new : Texts) (name asked : Text) (bytes : List ℕ) → new ≡ old → option_map f o ≡ get old asked → asked ≡ name → is_none o ≡ true
    → bytes ≡ reply_text (reply.NoSource name) → SaysReply (λ said. Removes old name said new) bytes
no_source f o old new name asked bytes kept there slice none is =
    let absent : get old name ≡ None = ap (get old) (sym slice) ∙ none_there f o (get old asked) there none in
    says (λ said. Removes old name said new) (reply.NoSource name) bytes (subst (λ (found : Option Text). RemovesText found old name (reply.NoSource name) new) (sym absent) (refl, kept)) is

pub dropped : {A : Type 0} (f : A → Text) (o : Option A) (old new : Texts) (name asked : Text) (bytes : List ℕ) → option_map f o ≡ get old asked → asked ≡ name → is_none o ≡ false
    → bytes ≡ reply_text (reply.Dropped name) → new ≡ remove old name → SaysReply (λ said. Removes old name said new) bytes
dropped f o old new name asked bytes there slice some is removed =
    let found = some_there f o (get old asked) there some in
    let present : get old name ≡ Some found.0 = ap (get old) (sym slice) ∙ found.1 in
    says (λ said. Removes old name said new) (reply.Dropped name) bytes (subst (λ (t : Option Text). RemovesText t old name (reply.Dropped name) new) (sym present) (refl, removed)) is

-- a source that is there
pub is_source : {A : Type 0} (f : A → Text) (o : Option A) (old : Texts) (name asked : Text) → option_map f o ≡ get old asked → asked ≡ name → is_none o ≡ false → IsSome (get old name)
is_source f o old name asked there slice some =
    let found = some_there f o (get old asked) there some in
    let present : get old name ≡ Some found.0 = ap (get old) (sym slice) ∙ found.1 in
    subst (λ (t : Option Text). IsSome t) (sym present) refl
