-- A machine that serves commands, and its transcript.
use Rattle.std.specs.Prelude.{◌≡◌, ℕ, true, List, [], ◌∷◌}
use Rattle.meaning_commands.specs.Objects.{SinkTold, took, TookPart}
use Rattle.meaning_commands.specs.Items.{Language, Item, IsItem, SameBody}

-- Code is what the program holds, State the machine's state, and Told all that the objects of the outside tell, or these objects themselves.
pub record Machine (Command Code State Told : Type 0) : Type 1 where
  -- what is told of the sink
  pub sink : Told → SinkTold
  -- what a command with its bytes may do: state, command, bytes, reply, next state
  pub Step : State → Command → List ℕ → List ℕ → State → Type 0
  -- what a command that gives no reply may leave behind: state, command, bytes, the furthest state
  pub MayLeave : State → Command → List ℕ → State → Type 0
  -- between two commands: the first state, what was told at the start, the code, the state and what is told now belong together
  pub Invariant : State → Told → Code → State → Told → Type 0
  -- at an exit: the first state, what was told at the start, the state after the last acknowledged command, the furthest state that
  -- may be left, and what is told now
  pub AtExit : State → Told → State → State → Told → Type 0

-- where the run may stop at a command: before its reply, within it, or after the reply to one that ends the run
pub data Halt : Type 0 where
  before_reply : Halt
  within_reply : Halt
  behind_reply : Halt

module _ {Command State : Type 0} (lang : Language Command) (Step : State → Command → List ℕ → List ℕ → State → Type 0) where
  -- the reply to an item, and the next state
  pub record AnswersItem (old : State) (item : Item) (reply : List ℕ) (new : State) : Type 0 where
    pub command : Command
    pub item_is : IsItem lang item command
    pub step : Step old command item.body reply new

  -- one reply to each item, in order
  abbrev pub Transcript : State → List Item → List (List ℕ) → State → Type 0
  Transcript old [] [] new = new ≡ old
  Transcript old (item ∷ items) (reply ∷ replies) new = (mid : State) × AnswersItem old item reply mid × Transcript mid items replies new
  Transcript old [] (reply ∷ replies) new = ⊥
  Transcript old (item ∷ items) [] new = ⊥

module _ {Command Code State Told : Type 0} (lang : Language Command) (m : Machine Command Code State Told) where
  -- what an item without its reply may leave
  pub record ItemMayLeave (old : State) (item : Item) (furthest : State) : Type 0 where
    pub command : Command
    pub item_is : IsItem lang item command
    pub may : m.MayLeave old command item.body furthest

  -- A command was served whole: its reply was taken, and no fault of the sink was counted.
  pub record ServesWhole (first : State) (start : Told) (state : State) (command : Command) (body : List ℕ) (before : Told) (code : Code) (after : Told) : Type 0 where
    pub reply : List ℕ
    pub new : State
    pub step : m.Step state command body reply new
    pub wrote : m.sink after ≡ took (m.sink before) reply
    pub fits : m.Invariant first start code new after

  -- Its serving stopped before its reply, and may have left its effect. The sink is as it was.
  pub record StopsBefore (first : State) (start : Told) (state : State) (command : Command) (body : List ℕ) (before after : Told) : Type 0 where
    pub furthest : State
    pub may : m.MayLeave state command body furthest
    pub wrote : m.sink after ≡ m.sink before
    pub exit : m.AtExit first start state furthest after

  -- Its reply was cut off, by a fault of the sink that was counted.
  pub record StopsWithinReply (first : State) (start : Told) (state : State) (command : Command) (body : List ℕ) (before after : Told) : Type 0 where
    pub reply : List ℕ
    pub new : State
    pub step : m.Step state command body reply new
    pub wrote : TookPart reply (m.sink before) (m.sink after)
    pub exit : m.AtExit first start state new after

  -- It ends the run, and was served whole.
  pub record StopsBehind (first : State) (start : Told) (state : State) (command : Command) (body : List ℕ) (before after : Told) : Type 0 where
    pub ends : lang.ends_run command ≡ true
    pub reply : List ℕ
    pub new : State
    pub step : m.Step state command body reply new
    pub wrote : m.sink after ≡ took (m.sink before) reply
    pub exit : m.AtExit first start new new after

  abbrev pub StoppedBy : Halt → State → Told → State → Command → List ℕ → Told → Told → Type 0
  StoppedBy before_reply = StopsBefore
  StoppedBy within_reply = StopsWithinReply
  StoppedBy behind_reply = StopsBehind

  -- A command is served with the bytes that were kept of its own, from every history that fits.
  abbrev pub Serves : Code → Code → Command → List ℕ → Told → Told → Type 0
  Serves code code' command kept before after =
      (first : State) (start : Told) (state : State) (body : List ℕ) → SameBody lang command body kept → m.Invariant first start code state before
      → ServesWhole first start state command body before code' after

  abbrev pub StopsServing : Halt → Code → Command → List ℕ → Told → Told → Type 0
  StopsServing halt code command kept before after =
      (first : State) (start : Told) (state : State) (body : List ℕ) → SameBody lang command body kept → m.Invariant first start code state before
      → StoppedBy halt first start state command body before after
