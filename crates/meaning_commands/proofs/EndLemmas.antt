-- From how far the reading has come to what the run leaves, for any machine.
use Rattle.std.proofs.Common.{◌≡◌, ◌⊎◌, ℕ, ◌+◌, ◌-◌, ◌<◌, ◌≤◌, List, [], ◌∷◌, ◌++◌, take, length, Option, Some, None, IfSome, ap, sym, refl, ◌∙◌, subst, arith, inl, inr}
use Rattle.std.proofs.lemmas.List.{length-append}
use Rattle.odin_outside.specs.Told.{prepended}
use Rattle.meaning_commands.specs.Items as items
use Rattle.meaning_commands.specs.Items.{Language, Item, all_bytes, last_item}
use Rattle.meaning_commands.specs.Machines as machines
use Rattle.meaning_commands.specs.Machines.{Machine, Halt}
use Rattle.meaning_commands.specs.Endings as endings
use Rattle.meaning_commands.specs.Endings.{IsSpent, IsLastWithLf, IsLastLine, StandsLast, HasRead, input_limit, piece_limit}
use Rattle.meaning_commands.specs.Streams as streams
use Rattle.meaning_commands.proofs.ItemLemmas.{nil_right, take-front, whole_not_inside, ends_only, said_not_inside, said_more}
use Rattle.meaning_commands.proofs.ToldLemmas.{took_none, prepended_none, prepended-prepended}
use Rattle.meaning_commands.proofs.StreamLemmas as stream

-- the last read gave nothing
pub read_end : (input left left' : Option (List ℕ)) (text buffer : List ℕ) (n : ℕ) → input ≡ prepended text left → left ≡ prepended (take n buffer) left' → n ≡ 0
    → input ≡ prepended text left'
read_end input left left' text buffer n was is none = was ∙ ap (prepended text) (is ∙ ap (λ k. prepended (take k buffer) left') none ∙ sym (prepended_none left'))

-- what is said of all that was read is said of the input that was read to its end
pub input_is : (P : List ℕ → Type 0) (input left : Option (List ℕ)) (text : List ℕ) → input ≡ prepended text left → IsSpent left → P text → IfSome input P
input_is P input None text is end h = subst (λ l. IfSome l P) (sym is) tt
input_is P input (Some rest) text is end h = subst (λ l. IfSome l P) (sym is) (subst P (sym (ap (λ r. text ++ r) end ∙ nil_right text)) h)

-- what is said of all that was read, and of whatever may stand after it, is said of the input
pub input_more : (P : List ℕ → Type 0) (input left : Option (List ℕ)) (text : List ℕ) → input ≡ prepended text left → ((more : List ℕ) → P (text ++ more)) → IfSome input P
input_more P input None text is h = subst (λ l. IfSome l P) (sym is) tt
input_more P input (Some rest) text is h = subst (λ l. IfSome l P) (sym is) (h rest)

module _ {Command Held Code State Told : Type 0} (lang : Language Command) (Keeps : Held → List ℕ → Type 0) (m : Machine Command Code State Told) where
  pub Reading-none : (first : State) (start told : Told) (code : Code) (held : Held) (left : Option (List ℕ)) → m.sink told ≡ m.sink start → m.Invariant first start code first told → Keeps held []
      → streams.Reading lang Keeps m first start left left 0 told code held
  Reading-none first start told code held left same fits keeps = record { text = []; bytes = prepended_none left; size = refl; so_far = stream.SoFar-none lang Keeps m first start told code held same fits keeps }

  pub Reading-more : (first : State) (start told told' : Told) (input left left' : Option (List ℕ)) (count n : ℕ) (code code' : Code) (held held' : Held) (piece : List ℕ)
      → streams.Reading lang Keeps m first start input left count told code held → left ≡ prepended piece left' → length piece ≡ n
      → streams.GoesOn lang Keeps m piece told code held told' code' held' → streams.Reading lang Keeps m first start input left' (count + n) told' code' held'
  Reading-more first start told told' input left left' count n code code' held held' piece r is size goes =
      let before = r.size in
      record {
        text = r.text ++ piece;
        bytes = r.bytes ∙ ap (prepended r.text) is ∙ prepended-prepended r.text piece left';
        size = length-append r.text piece ∙ omega arith;
        so_far = goes first start r.text r.so_far;
      }

  -- the input was read to its end
  pub HasRead-finish : (EndsSo : State → Told → Told → List ℕ → Option (List ℕ) → Type 0) (first : State) (start told after : Told) (input left left' : Option (List ℕ)) (count n : ℕ) (code : Code) (held : Held) (buffer : List ℕ)
      → streams.Reading lang Keeps m first start input left count told code held → count < input_limit → left ≡ prepended (take n buffer) left' → n ≡ 0 → IsSpent left'
      → streams.FinishesBy lang Keeps m EndsSo told code held after → HasRead (EndsSo first start after) input left'
  HasRead-finish EndsSo first start told after input left left' count n code held buffer r small is none spent finishes =
      let size = r.size in
      record { read = r.text; bytes = read_end input left left' r.text buffer n r.bytes is none; within = omega arith; ends = finishes first start r.text left' (omega arith) spent r.so_far }

  -- it stopped on a piece
  pub HasRead-piece : (halt : Halt) (first : State) (start told after : Told) (input left left' : Option (List ℕ)) (count n : ℕ) (code : Code) (held : Held) (piece : List ℕ)
      → streams.Reading lang Keeps m first start input left count told code held → left ≡ prepended piece left' → length piece ≡ n → count + n ≤ input_limit → n ≤ piece_limit → streams.StopsOn lang Keeps m halt piece told code held after
      → HasRead (endings.EndsStopped lang m halt first start after) input left'
  HasRead-piece halt first start told after input left left' count n code held piece r is few within one stops =
      let size = r.size in
      let all : length (r.text ++ (piece ++ [])) ≤ input_limit = subst (λ t. length (r.text ++ t) ≤ input_limit) (sym (nil_right piece)) (omega (arith, length-append r.text piece)) in
      let once : length (piece ++ []) ≤ piece_limit = subst (λ t. length t ≤ piece_limit) (sym (nil_right piece)) (omega arith) in
      record {
        read = r.text ++ piece;
        bytes = r.bytes ∙ ap (prepended r.text) is ∙ prepended-prepended r.text piece left';
        within = omega (arith, length-append r.text piece);
        ends = subst (λ t. endings.EndsStopped lang m halt first start after (r.text ++ t) left') (nil_right piece) (stops first start r.text [] left' all once r.so_far);
      }

  -- it stopped before the first command
  pub HasRead-none : (first : State) (start now : Told) (left : Option (List ℕ)) → m.sink now ≡ m.sink start → m.AtExit first start first first now
      → HasRead (endings.EndsBeforeReply lang m first start now) left left
  HasRead-none first start now left same exit = record {
    read = [];
    bytes = prepended_none left;
    within = omega arith;
    ends = record { served = []; rest = []; cuts = refl; on = tt; replies = []; state = first; run = refl; furthest = first; may = inl refl; wrote = same ∙ took_none (m.sink start); exit = exit };
  }

  -- what is promised between two commands is promised at an exit, and what the session holds is less than an item
  module _ (rests : (first : State) (start : Told) (code : Code) (state : State) (told : Told) → m.Invariant first start code state told → m.AtExit first start state state told)
      (less : (held : Held) (part : List ℕ) → Keeps held part → items.IsPart lang part) where
    up_to : (first : State) (start now : Told) (text : List ℕ) (code : Code) (held : Held) → streams.SoFar lang Keeps m first start text now code held → endings.IsUpTo lang m first start now text
    up_to first start now text code held s =
        record { served = s.served; part = s.part; cuts = s.cuts; on = s.on; less = less held s.part s.keeps; replied = stream.replied lang Keeps m rests first start now text code held s }

    -- the next read failed, and left the input as it was
    pub HasRead-unread : (first : State) (start now : Told) (input left left' : Option (List ℕ)) (count : ℕ) (code : Code) (held : Held)
        → streams.Reading lang Keeps m first start input left count now code held → count < input_limit → left' ≡ left → HasRead (endings.EndsUnread lang m first start now) input left'
    HasRead-unread first start now input left left' count code held r small same =
        let size = r.size in
        record { read = r.text; bytes = r.bytes ∙ ap (prepended r.text) (sym same); within = omega arith; ends = record { up_to = up_to first start now r.text code held r.so_far; short = omega arith } }

    -- as many bytes were read as may be
    pub HasRead-limit : (first : State) (start now : Told) (input left : Option (List ℕ)) (code : Code) (held : Held)
        → streams.Reading lang Keeps m first start input left input_limit now code held → HasRead (endings.EndsAtLimit lang m first start now) input left
    HasRead-limit first start now input left code held r =
        let size = r.size in
        record { read = r.text; bytes = r.bytes; within = omega arith; ends = record { up_to = up_to first start now r.text code held r.so_far; all = r.size } }

  -- where a line is one command, an input that was answered whole, or up to a word that ends the run, doesn't end inside a command
  module _ (one : items.OneSpelled lang) where
    abbrev EndsWell : List ℕ → Type 0
    EndsWell text = (¬ items.EndsInside lang text) × ((length text < input_limit) ⊎ items.SaysEnd lang (take input_limit text))

    last_answer : (old : State) (served : List Item) (item : Item) (replies : List (List ℕ)) (new : State) → machines.Transcript lang m.Step old (served ++ item ∷ []) replies new
        → (command : Command) × items.IsItem lang item command
    last_answer old [] item [] new run = absurd run
    last_answer old [] item (r ∷ replies) new run = let a = run.1 in (a.command, a.item_is)
    last_answer old (x ∷ served) item [] new run = absurd run
    last_answer old (x ∷ served) item (r ∷ replies) new run = last_answer run.0 served item replies new run.2

    pub not_inside : (first : State) (start now : Told) (input left : Option (List ℕ)) → HasRead (endings.EndsWhole lang m first start now) input left
        → IfSome input EndsWell
    not_inside first start now input left read =
        let f = read.ends in
        let run = f.replied.run in
        let a = last_answer first f.served (last_item f.last) f.replied.replies f.replied.state run in
        input_is EndsWell input left read.read read.bytes f.spent (whole_not_inside lang one f.served f.last a.0 read.read f.on a.1 f.cuts, inl f.short)

    -- the word with its LF
    followed : (read : List ℕ) (served : List Item) (item : Item) → length read ≤ input_limit → items.AllGoOn lang served → items.EndsAt lang item → IsLastWithLf read (all_bytes served) item
        → (more : List ℕ) → EndsWell (read ++ more)
    followed read served item within on ends stands more =
        let said : items.SaysEnd lang read = record { items = served; on = on; item = item; ends = ends; rest = stands.rest; cuts = stands.bytes } in
        let front : take input_limit (read ++ more) ≡ read ++ take (input_limit - length read) more = take-front input_limit read more within in (
          said_not_inside lang one (read ++ more) (said_more lang one read more said),
          inr (subst (items.SaysEnd lang) (sym front) (said_more lang one read (take (input_limit - length read) more) said)),
        )

    -- the word as the last line
    last_word : (read : List ℕ) (left : Option (List ℕ)) (served : List Item) (item : Item) → items.AllGoOn lang served → items.EndsAt lang item → IsLastLine read left (all_bytes served) item → EndsWell read
    last_word read left served item on ends stands =
        let same : item ≡ last_item item.line = λ i. record { line = item.line; body = stands.alone i } in
        let item_is : items.IsItem lang (last_item item.line) ends.command = subst (λ (x : Item). items.IsItem lang x ends.command) same ends.item_is in
        (whole_not_inside lang one served item.line ends.command read on item_is stands.bytes, inl stands.short)

    word_ends : (read : List ℕ) (input left : Option (List ℕ)) (served : List Item) (item : Item) → input ≡ prepended read left → length read ≤ input_limit → items.AllGoOn lang served → items.EndsAt lang item
        → StandsLast read left (all_bytes served) item → IfSome input EndsWell
    word_ends read input left served item is within on ends (inl stands) = input_more EndsWell input left read is (followed read served item within on ends stands)
    word_ends read input left served item is within on ends (inr stands) = input_is EndsWell input left read is stands.spent (last_word read left served item on ends stands)

    pub at_word : (first : State) (start now : Told) (input left : Option (List ℕ)) → HasRead (endings.EndsAtWord lang m first start now) input left
        → IfSome input EndsWell
    at_word first start now input left read = let f = read.ends in word_ends read.read input left f.served f.item read.bytes read.within f.on f.ends f.stands

    -- what was read up to the limit says nowhere that the run ends
    limit_says : (first : State) (start now : Told) (read : List ℕ) → length read ≡ input_limit → endings.IsUpTo lang m first start now read → (more : List ℕ)
        → (input_limit ≤ length (read ++ more)) × (¬ items.SaysEnd lang (take input_limit (read ++ more)))
    limit_says first start now read all u more = (
      omega (arith, length-append read more),
      λ said.
          let none : input_limit - length read ≡ 0 = omega arith in
          let front : take input_limit (read ++ more) ≡ read = take-front input_limit read more (omega arith) ∙ ap (λ n. read ++ take n more) none ∙ nil_right read in
          ends_only lang one said.items u.served said.item said.rest u.part said.on said.ends u.on u.less (sym said.cuts ∙ front ∙ u.cuts),
    )

    pub is_long : (first : State) (start now : Told) (input left : Option (List ℕ)) → HasRead (endings.EndsAtLimit lang m first start now) input left
        → IfSome input (λ text. (input_limit ≤ length text) × (¬ items.SaysEnd lang (take input_limit text)))
    is_long first start now input left read =
        input_more (λ text. (input_limit ≤ length text) × (¬ items.SaysEnd lang (take input_limit text))) input left read.read read.bytes
        (limit_says first start now read.read read.ends.all read.ends.up_to)

  pub is_inside : (first : State) (start now : Told) (input left : Option (List ℕ)) → HasRead (endings.EndsCutShort lang m first start now) input left
      → IfSome input (λ text. (length text < input_limit) × items.EndsInside lang text)
  is_inside first start now input left read =
      let f = read.ends in
      input_is (λ t. (length t < input_limit) × items.EndsInside lang t) input left read.read read.bytes f.spent (f.short, record { items = f.served; on = f.on; part = f.part; cuts = f.cuts; short = f.inside })
