-- The session of any machine: how it goes on, where it stops, and how its input ends.
use Rattle.std.proofs.Common.{◌≡◌, ℕ, ◌<◌, ◌≤◌, arith, false, List, [], ◌∷◌, ◌++◌, length, Option, ap, sym, refl, ◌∙◌, subst, inl, inr}
use Rattle.std.proofs.lemmas.List.{append_assoc, length-append}
use Rattle.std.specs.List.{concat}
use Rattle.meaning_commands.specs.Objects.{took, TookPart}
use Rattle.meaning_commands.specs.Items as items
use Rattle.meaning_commands.specs.Items.{Language, Item, all_bytes, last_item}
use Rattle.meaning_commands.specs.Machines as machines
use Rattle.meaning_commands.specs.Machines.{Machine, Halt, before_reply, within_reply, behind_reply}
use Rattle.meaning_commands.specs.Endings as endings
use Rattle.meaning_commands.specs.Endings.{ItemStandsAfter, StandsLast, input_limit, piece_limit}
use Rattle.meaning_commands.specs.Streams as streams
use Rattle.meaning_commands.proofs.ItemLemmas.{nil_right, all_bytes-more, concat-more, AllGoOn-more}
use Rattle.meaning_commands.proofs.ToldLemmas.{took-took, took_none}

module _ {Command Held Code State Told : Type 0} (lang : Language Command) (Keeps : Held → List ℕ → Type 0) (m : Machine Command Code State Told) where
  abbrev SoFar : State → Told → List ℕ → Told → Code → Held → Type 0
  SoFar = streams.SoFar lang Keeps m

  abbrev Transcript : State → List Item → List (List ℕ) → State → Type 0
  Transcript = machines.Transcript lang m.Step

  Transcript-more : (old : State) (served : List Item) (replies : List (List ℕ)) (mid : State) (item : Item) (reply : List ℕ) (new : State)
      → Transcript old served replies mid → machines.AnswersItem lang m.Step mid item reply new → Transcript old (served ++ item ∷ []) (replies ++ reply ∷ []) new
  Transcript-more old [] [] mid item reply new run answer = (new, subst (λ s. machines.AnswersItem lang m.Step s item reply new) run answer, refl)
  Transcript-more old [] (r ∷ replies) mid item reply new run answer = absurd run
  Transcript-more old (x ∷ served) [] mid item reply new run answer = absurd run
  Transcript-more old (x ∷ served) (r ∷ replies) mid item reply new run answer =
      (run.0, run.1, Transcript-more run.0 served replies mid item reply new run.2 answer)

  -- before the first byte
  pub SoFar-none : (first : State) (start told : Told) (code : Code) (held : Held) → m.sink told ≡ m.sink start → m.Invariant first start code first told → Keeps held []
      → SoFar first start [] told code held
  SoFar-none first start told code held same fits keeps =
      record { served = []; part = []; cuts = refl; on = tt; replies = []; state = first; run = refl; wrote = same ∙ took_none (m.sink start); fits = fits; keeps = keeps }

  -- bytes that belong to the part after the whole items
  pub GoesOn-part : (bytes : List ℕ) (told : Told) (code : Code) (held held' : Held)
      → streams.Extends lang Keeps bytes held held'
      → streams.GoesOn lang Keeps m bytes told code held told code held'
  GoesOn-part bytes told code held held' more first start text s = record {
    served = s.served;
    part = s.part ++ bytes;
    cuts = ap (λ t. t ++ bytes) s.cuts ∙ append_assoc (all_bytes s.served) s.part bytes;
    on = s.on;
    replies = s.replies;
    state = s.state;
    run = s.run;
    wrote = s.wrote;
    fits = s.fits;
    keeps = more s.part s.keeps;
  }

  -- no bytes
  pub GoesOn-none : (told : Told) (code : Code) (held : Held) → streams.GoesOn lang Keeps m [] told code held told code held
  GoesOn-none told code held first start text s = subst (λ t. SoFar first start t told code held) (sym (nil_right text)) s

  -- some bytes and then others
  pub GoesOn-append : (a b : List ℕ) (told told' told'' : Told) (code code' code'' : Code) (held held' held'' : Held)
      → streams.GoesOn lang Keeps m a told code held told' code' held' → streams.GoesOn lang Keeps m b told' code' held' told'' code'' held''
      → streams.GoesOn lang Keeps m (a ++ b) told code held told'' code'' held''
  GoesOn-append a b told told' told'' code code' code'' held held' held'' f g first start text s =
      subst (λ t. SoFar first start t told'' code'' held'') (append_assoc text a b) (g first start (text ++ a) (f first start text s))

  -- a reply after those before it
  wrote_more : (start told told' : Told) (replies : List (List ℕ)) (reply : List ℕ) → m.sink told ≡ took (m.sink start) (concat replies) → m.sink told' ≡ took (m.sink told) reply
      → m.sink told' ≡ took (m.sink start) (concat (replies ++ reply ∷ []))
  wrote_more start told told' replies reply before now =
      now ∙ ap (λ t. took t reply) before ∙ took-took (m.sink start) (concat replies) reply ∙ ap (took (m.sink start)) (sym (concat-more replies reply))

  -- bytes that make an item whole, which is answered
  pub GoesOn-item : (bytes : List ℕ) (told told' : Told) (code code' : Code) (held held' : Held) (command : Command) (kept : List ℕ)
      → streams.CompletesItem lang Keeps bytes held command kept → lang.ends_run command ≡ false → ((part : List ℕ) → Keeps held part → Keeps held' [])
      → machines.Serves lang m code code' command kept told told'
      → streams.GoesOn lang Keeps m bytes told code held told' code' held'
  GoesOn-item bytes told told' code code' held held' command kept whole on clear served first start text s =
      let w = whole s.part s.keeps in
      let v = served first start s.state w.item.body w.body_is s.fits in
      let answer : machines.AnswersItem lang m.Step s.state w.item v.reply v.new = record { command = command; item_is = w.item_is; step = v.step } in
      record {
        served = s.served ++ w.item ∷ [];
        part = [];
        cuts = ap (λ t. t ++ bytes) s.cuts ∙ append_assoc (all_bytes s.served) s.part bytes ∙ ap (λ r. all_bytes s.served ++ r) w.bytes_are ∙ sym (all_bytes-more s.served w.item) ∙ sym (nil_right (all_bytes (s.served ++ w.item ∷ [])));
        on = AllGoOn-more lang s.served w.item s.on (record { command = command; item_is = w.item_is; on = on });
        replies = s.replies ++ v.reply ∷ [];
        state = v.new;
        run = Transcript-more first s.served s.replies s.state w.item v.reply v.new s.run answer;
        wrote = wrote_more start told told' s.replies v.reply s.wrote v.wrote;
        fits = v.fits;
        keeps = clear s.part s.keeps;
      }

  broken : (first : State) (start told told' : Told) (read : List ℕ) (left : Option (List ℕ)) (code : Code) (held : Held) (s : SoFar first start read told code held) → (text rest : List ℕ)
      → text ≡ all_bytes s.served ++ rest → (item : Item) (command : Command) → ItemStandsAfter text left (all_bytes s.served) item
      → items.IsItem lang item command → machines.StopsBefore lang m first start s.state command item.body told told'
      → endings.EndsBeforeReply lang m first start told' text left
  broken first start told told' read left code held s text rest cuts item command stands item_is b = record {
    served = s.served;
    rest = rest;
    cuts = cuts;
    on = s.on;
    replies = s.replies;
    state = s.state;
    run = s.run;
    furthest = b.furthest;
    may = inr (item, stands, record { command = command; item_is = item_is; may = b.may });
    wrote = b.wrote ∙ s.wrote;
    exit = b.exit;
  }

  cut_off : (first : State) (start told told' : Told) (read : List ℕ) (left : Option (List ℕ)) (code : Code) (held : Held) (s : SoFar first start read told code held) → (text : List ℕ)
      → (item : Item) (command : Command) → ItemStandsAfter text left (all_bytes s.served) item
      → items.IsItem lang item command → machines.StopsWithinReply lang m first start s.state command item.body told told'
      → endings.EndsWithinReply lang m first start told' text left
  cut_off first start told told' read left code held s text item command stands item_is cut = record {
    served = s.served;
    on = s.on;
    item = item;
    stands = stands;
    replies = s.replies;
    state = s.state;
    run = s.run;
    reply = cut.reply;
    new = cut.new;
    answer = record { command = command; item_is = item_is; step = cut.step };
    wrote = subst (λ before. TookPart cut.reply before (m.sink told')) s.wrote cut.wrote;
    exit = cut.exit;
  }

  at_word : (first : State) (start told told' : Told) (read : List ℕ) (left : Option (List ℕ)) (code : Code) (held : Held) (s : SoFar first start read told code held) → (text : List ℕ)
      → (item : Item) (command : Command) → StandsLast text left (all_bytes s.served) item
      → items.IsItem lang item command → machines.StopsBehind lang m first start s.state command item.body told told'
      → endings.EndsAtWord lang m first start told' text left
  at_word first start told told' read left code held s text item command stands item_is b =
      let answer : machines.AnswersItem lang m.Step s.state item b.reply b.new = record { command = command; item_is = item_is; step = b.step } in
      record {
        served = s.served;
        on = s.on;
        item = item;
        ends = record { command = command; item_is = item_is; ends = b.ends };
        stands = stands;
        replied = record {
          replies = s.replies ++ b.reply ∷ [];
          state = b.new;
          run = Transcript-more first s.served s.replies s.state item b.reply b.new s.run answer;
          wrote = wrote_more start told told' s.replies b.reply s.wrote b.wrote;
          exit = b.exit;
        };
      }

  stands_at : (read : List ℕ) (left : Option (List ℕ)) (before : List ℕ) (item : Item) → StandsLast read left before item → ItemStandsAfter read left before item
  stands_at read left before item (inl followed) = inl (followed.rest, followed.bytes)
  stands_at read left before item (inr last) = inr (last.bytes, last.alone, last.spent)

  stopped : (halt : Halt) (first : State) (start told told' : Told) (read : List ℕ) (left : Option (List ℕ)) (code : Code) (held : Held) (s : SoFar first start read told code held) → (text rest : List ℕ)
      → text ≡ all_bytes s.served ++ rest → (item : Item) (command : Command) → StandsLast text left (all_bytes s.served) item
      → items.IsItem lang item command → machines.StoppedBy lang m halt first start s.state command item.body told told'
      → endings.EndsStopped lang m halt first start told' text left
  stopped before_reply first start told told' read left code held s text rest cuts item command stands item_is b =
      broken first start told told' read left code held s text rest cuts item command (stands_at text left (all_bytes s.served) item stands) item_is b
  stopped within_reply first start told told' read left code held s text rest cuts item command stands item_is b =
      cut_off first start told told' read left code held s text item command (stands_at text left (all_bytes s.served) item stands) item_is b
  stopped behind_reply first start told told' read left code held s text rest cuts item command stands item_is b =
      at_word first start told told' read left code held s text item command stands item_is b

  -- bytes that make an item whole, whose serving stops
  pub StopsOn-item : (halt : Halt) (bytes : List ℕ) (told told' : Told) (code : Code) (held : Held) (command : Command) (kept : List ℕ) → 0 < length bytes
      → streams.CompletesItem lang Keeps bytes held command kept → machines.StopsServing lang m halt code command kept told told'
      → streams.StopsOn lang Keeps m halt bytes told code held told'
  StopsOn-item halt bytes told told' code held command kept some whole stops first start text more left within piece s =
      let w = whole s.part s.keeps in
      let cuts : text ++ (bytes ++ more) ≡ all_bytes s.served ++ (s.part ++ (bytes ++ more)) = ap (λ t. t ++ (bytes ++ more)) s.cuts ∙ append_assoc (all_bytes s.served) s.part (bytes ++ more) in
      let few : length more < piece_limit = omega (arith, length-append bytes more) in
      stopped halt first start told told' text left code held s (text ++ (bytes ++ more)) (s.part ++ (bytes ++ more)) cuts w.item command
      (inl (record {
        rest = more;
        bytes = cuts ∙ ap (λ r. all_bytes s.served ++ r) (sym (append_assoc s.part bytes more) ∙ ap (λ r. r ++ more) w.bytes_are);
        few = few;
      }))
      w.item_is (stops first start s.state w.item.body w.body_is s.fits)

  -- it stops before the end of the bytes
  pub StopsOn-more : (halt : Halt) (a b : List ℕ) (told told' : Told) (code : Code) (held : Held) → streams.StopsOn lang Keeps m halt a told code held told'
      → streams.StopsOn lang Keeps m halt (a ++ b) told code held told'
  StopsOn-more halt a b told told' code held f first start text more left within piece s =
      subst (λ t. endings.EndsStopped lang m halt first start told' (text ++ t) left) (sym (append_assoc a b more))
      (f first start text (b ++ more) left (subst (λ t. length (text ++ t) ≤ input_limit) (append_assoc a b more) within) (subst (λ t. length t ≤ piece_limit) (append_assoc a b more) piece) s)

  -- it goes on through some bytes and stops on the next
  pub StopsOn-after : (halt : Halt) (a b : List ℕ) (told told' told'' : Told) (code code' : Code) (held held' : Held)
      → streams.GoesOn lang Keeps m a told code held told' code' held' → streams.StopsOn lang Keeps m halt b told' code' held' told''
      → streams.StopsOn lang Keeps m halt (a ++ b) told code held told''
  StopsOn-after halt a b told told' told'' code code' held held' f g first start text more left within piece s =
      let same : (text ++ a) ++ (b ++ more) ≡ text ++ ((a ++ b) ++ more) = append_assoc text a (b ++ more) ∙ ap (λ r. text ++ r) (sym (append_assoc a b more)) in
      let few : length (b ++ more) ≤ piece_limit = omega (arith, ap length (append_assoc a b more), length-append a (b ++ more)) in
      subst (λ t. endings.EndsStopped lang m halt first start told'' t left) same
      (g first start (text ++ a) more left (subst (λ t. length t ≤ input_limit) (sym same) within) few (f first start text s))

  -- the end of the input after a last line
  pub StopsAtEnd-line : (halt : Halt) (told told' : Told) (code : Code) (held : Held) (command : Command) (kept : List ℕ)
      → ((part : List ℕ) → Keeps held part → items.IsItem lang (last_item part) command) → kept ≡ [] → machines.StopsServing lang m halt code command kept told told'
      → streams.StopsAtEnd lang Keeps m halt told code held told'
  StopsAtEnd-line halt told told' code held command kept whole empty stops first start text left short spent s =
      stopped halt first start told told' text left code held s text s.part s.cuts (last_item s.part) command
      (inr (record { bytes = s.cuts; alone = refl; short = short; spent = spent }))
      (whole s.part s.keeps) (stops first start s.state [] (λ keeps. sym empty) s.fits)

  -- what is promised between two commands is promised at an exit
  module _ (rests : (first : State) (start : Told) (code : Code) (state : State) (told : Told) → m.Invariant first start code state told → m.AtExit first start state state told) where
    pub replied : (first : State) (start told : Told) (text : List ℕ) (code : Code) (held : Held) (s : SoFar first start text told code held) → endings.RepliesTo lang m first start told s.served
    replied first start told text code held s = record { replies = s.replies; state = s.state; run = s.run; wrote = s.wrote; exit = rests first start code s.state told s.fits }

    -- it stops within a part of an item
    unbroken : (first : State) (start told : Told) (code : Code) (text more : List ℕ) (left : Option (List ℕ)) (held : Held) → SoFar first start text told code held
        → endings.EndsBeforeReply lang m first start told (text ++ more) left
    unbroken first start told code text more left held s = record {
      served = s.served;
      rest = s.part ++ more;
      cuts = ap (λ t. t ++ more) s.cuts ∙ append_assoc (all_bytes s.served) s.part more;
      on = s.on;
      replies = s.replies;
      state = s.state;
      run = s.run;
      furthest = s.state;
      may = inl refl;
      wrote = s.wrote;
      exit = rests first start code s.state told s.fits;
    }

    pub StopsOn-part : (bytes : List ℕ) (told : Told) (code : Code) (held : Held) → streams.StopsOn lang Keeps m before_reply bytes told code held told
    StopsOn-part bytes told code held first start text more left within piece s = unbroken first start told code text (bytes ++ more) left held s

    pub StopsAtEnd-part : (told : Told) (code : Code) (held : Held) → streams.StopsAtEnd lang Keeps m before_reply told code held told
    StopsAtEnd-part told code held first start text left short spent s =
        subst (λ t. endings.EndsBeforeReply lang m first start told t left) (nil_right text) (unbroken first start told code text [] left held s)

    -- the input ends inside a command
    pub Finishes-cut_short : (told : Told) (code : Code) (held : Held) → ((part : List ℕ) → Keeps held part → items.IsCutShort lang part)
        → streams.FinishesCutShort lang Keeps m told code held told
    Finishes-cut_short told code held inside first start text left short spent s =
        record { served = s.served; part = s.part; cuts = s.cuts; on = s.on; inside = inside s.part s.keeps; replied = replied first start told text code held s; short = short; spent = spent }

    -- the input ends after a last line, which is answered
    pub Finishes-line : (told told' : Told) (code code' : Code) (held : Held) (command : Command) (kept : List ℕ)
        → ((part : List ℕ) → Keeps held part → items.IsItem lang (last_item part) command) → kept ≡ [] → machines.Serves lang m code code' command kept told told'
        → streams.FinishesWhole lang Keeps m told code held told'
    Finishes-line told told' code code' held command kept whole empty served first start text left short spent s =
        let v = served first start s.state [] (λ keeps. sym empty) s.fits in
        let answer : machines.AnswersItem lang m.Step s.state (last_item s.part) v.reply v.new = record { command = command; item_is = whole s.part s.keeps; step = v.step } in
        record {
          served = s.served;
          last = s.part;
          cuts = s.cuts;
          on = s.on;
          replied = record {
            replies = s.replies ++ v.reply ∷ [];
            state = v.new;
            run = Transcript-more first s.served s.replies s.state (last_item s.part) v.reply v.new s.run answer;
            wrote = wrote_more start told told' s.replies v.reply s.wrote v.wrote;
            exit = rests first start code' v.new told' v.fits;
          };
          short = short;
          spent = spent;
        }
