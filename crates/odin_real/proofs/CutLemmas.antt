-- The child program at a place is given up.
use Rattle.std.proofs.Common.{◌≡◌, ◌∙◌, ◌<◌, ℕ, zero, suc, List, [], ◌∷◌, ◌++◌, map, length, slice_index_or, refl, sym, ap, ap₂, subst, arith}
use Rattle.std.specs.Prelude.{◌⊎◌, ⊤, remove, Result, Ok, Err, IfOk}
use Rattle.std.specs.List.{All, HoldsAt}
use Rattle.std.proofs.lemmas.List.{map-append}
use Rattle.object_values.specs.declared.jobs.Raw.{Raw}
use Rattle.odin_outside.specs.declared.events.Running.{Running}
use Rattle.odin_outside.specs.Causes.{IsCounted}
use Rattle.odin_outside.specs.Spawned.{Ends, Loses}
use Rattle.odin_real.specs.declared.fault.SystemFault.{SystemFault}
use Rattle.odin_real.specs.declared.fault.SystemFault.TheVariants.{Failed, Memory}
use Rattle.odin_real.specs.Ends.{EndsAs, HasEnded, HasLeft, IsEndingOf, IsLost, not_waited, ended_by_others, not_settled, without_outcome, not_read, settled_after}
use Rattle.odin_real.specs.Finishes.{FolderIsCleared, IsGivenUp, IsPutOff, ResultIsGiven, ResultIsLost}
use Rattle.odin_real.specs.Folders.{FoldersTold, AreLeft, IsFileName, IsGone, SameBut}
use Rattle.odin_real.specs.Logs.{Exit, Log, end_event, fault_event, log_with}
use Rattle.odin_real.specs.Told.{ChildView, IsAsked, AreAsked, NoneEnded, children_view}
use Rattle.odin_real.proofs.AskedLemmas.{known_on, asked_twice, all_twice, none_left, runs_same, runs_of}

-- The tool at a place, as it was at first, when P held of it and when Q held of it, and the others.
pub record Cut {X : Type 0} (f : X → ChildView) (P Q : X → Type 0) (olds : List ChildView) (news : List X) (k : ℕ) : Type 0 where
  pub before : List ChildView
  pub tool : ChildView
  pub after : List ChildView
  pub place : length before ≡ k
  pub item : X
  pub now : X
  pub ran : olds ≡ before ++ tool ∷ after
  pub asked : IsAsked tool (f item)
  pub again : IsAsked (f item) (f now)
  pub holds : P item
  pub holds' : Q now
  pub stay : AreAsked (before ++ after) (map f (remove news k))

pub cut : {X : Type 0} (f : X → ChildView) (P Q : X → Type 0) (olds : List ChildView) (xs news : List X) (k : ℕ) → k < length xs → AreAsked olds (map f xs) → AreAsked (map f xs) (map f news) → HoldsAt P xs k → HoldsAt Q news k → Cut f P Q olds news k
cut f P Q olds [] news k inside first second holds holds' = absurd (omega (arith, inside))
cut f P Q [] (x ∷ xs) news k inside first second holds holds' = absurd first
cut f P Q (old ∷ olds) (x ∷ xs) [] k inside first second holds holds' = absurd second
cut f P Q (old ∷ olds) (x ∷ xs) (new ∷ news) zero inside first second holds holds' = record {
  before = [];
  tool = old;
  after = olds;
  place = refl;
  item = x;
  now = new;
  ran = refl;
  asked = first.0;
  again = second.0;
  holds = holds x;
  holds' = holds' new;
  stay = all_twice olds (map f xs) (map f news) first.1 second.1;
}
cut f P Q (old ∷ olds) (x ∷ xs) (new ∷ news) (suc k) inside first second holds holds' =
    let rest = cut f P Q olds xs news k (omega (arith, inside)) first.1 second.1 (λ d. holds d) (λ d. holds' d) in record {
      before = old ∷ rest.before;
      tool = rest.tool;
      after = rest.after;
      place = ap suc rest.place;
      item = rest.item;
      now = rest.now;
      ran = ap (λ tools. old ∷ tools) rest.ran;
      asked = rest.asked;
      again = rest.again;
      holds = rest.holds;
      holds' = rest.holds';
      stay = (asked_twice old (f x) (f new) first.0 second.0, rest.stay);
    }

pub cleared_first : (tool now : ChildView) (held held' : FoldersTold) → IsAsked tool now → FolderIsCleared now held held' → FolderIsCleared tool held held'
cleared_first tool now held held' asked cleared = record {
  gone = subst (λ path. IsGone (held' path)) asked.folder cleared.gone;
  others = λ other differs. cleared.others other (λ same. differs (same ∙ asked.folder));
}

ending_first : (tool now : ChildView) (exit : Exit) → IsAsked tool now → IsEndingOf now exit → IsEndingOf tool exit
ending_first tool now exit asked ending = record {
  at = ending.at ∙ asked.folder;
  again = known_on (λ status. exit.status ≡ status) tool.status now.status asked.status ending.again;
}

left_first : (tool now : ChildView) (old new : Log) (raw : Raw) → IsAsked tool now → HasLeft now old new raw → HasLeft tool old new raw
left_first tool now old new raw asked left = record {
  exit = left.exit;
  told = left.told ∙ ap (settled_after old left.exit) asked.folder;
  leaves = record {
    ending = ending_first tool now left.exit asked left.leaves.ending;
    end = left.leaves.end;
    whole = left.leaves.whole;
    outcome = left.leaves.outcome;
    files = subst (λ (running : Running). AreLeft left.exit.holds running.job.outs raw.files) asked.running left.leaves.files;
  };
}

ended_first : (tool now : ChildView) (old new : Log) → IsAsked tool now → HasEnded now old new → HasEnded tool old new
ended_first tool now old new asked ended = record {
  exit = ended.exit;
  ending = ending_first tool now ended.exit asked ended.ending;
  told = subst (λ path. (new ≡ log_with old (end_event ended.exit)) ⊎ (new ≡ settled_after old ended.exit path)) asked.folder ended.told;
}

lost_first : (tool now : ChildView) (old new : Log) → IsAsked tool now → IsLost now old new → IsLost tool old new
lost_first tool now old new asked (not_waited is) = not_waited is
lost_first tool now old new asked (ended_by_others exit ending lost is) = ended_by_others exit (ending_first tool now exit asked ending) lost is
lost_first tool now old new asked (not_settled exit ending is) = not_settled exit (ending_first tool now exit asked ending) is
lost_first tool now old new asked (without_outcome exit ending none is) = without_outcome exit (ending_first tool now exit asked ending) none (is ∙ ap (settled_after old exit) asked.folder)
lost_first tool now old new asked (not_read exit ending is) = not_read exit (ending_first tool now exit asked ending) (is ∙ ap (λ path. log_with (settled_after old exit path) fault_event) asked.folder)

-- none before it has told an end, also once it is taken out
oldest_left : {X : Type 0} (f : X → ChildView) (xs news : List X) (k : ℕ) (before : List ChildView) → length before ≡ k → NoneEnded k (map f xs) → remove news k ≡ remove xs k → NoneEnded (length before) (map f (remove news k))
oldest_left f xs news k before place oldest others = subst (λ n. NoneEnded n (map f (remove news k))) (sym place) (subst (λ items. NoneEnded k (map f items)) (sym others) (none_left f xs k oldest))

-- what is known of the tool that is given up
abbrev pub IsOut : {X : Type 0} → (X → ChildView) → ℕ → X → Type 0
IsOut f slot x = (f x).running.slot ≡ slot

pub given_up : {X : Type 0} (f : X → ChildView) (olds : List ChildView) (xs news : List X) (k slot : ℕ) (held held' : FoldersTold) → k < length xs → AreAsked olds (map f xs) → AreAsked (map f xs) (map f news)
    → HoldsAt (λ x. FolderIsCleared (f x) held held') xs k → HoldsAt (IsOut f slot) news k → NoneEnded k (map f xs) → remove news k ≡ remove xs k → IsGivenUp olds (map f (remove news k)) slot held held'
given_up f olds xs news k slot held held' inside first second cleared out oldest others =
    let at = cut f (λ x. FolderIsCleared (f x) held held') (IsOut f slot) olds xs news k inside first second cleared out in record {
      before = at.before;
      tool = at.tool;
      after = at.after;
      ran = at.ran;
      at = ap (λ (running : Running). running.slot) (sym (at.again.running ∙ at.asked.running)) ∙ at.holds';
      cleared = cleared_first at.tool (f at.item) held held' at.asked at.holds;
      stay = at.stay;
      oldest = oldest_left f xs news k at.before at.place oldest others;
    }

pub given : {X : Type 0} (f : X → ChildView) (olds : List ChildView) (xs news : List X) (k slot : ℕ) (raw : Raw) (result : Result Raw SystemFault) (held held' : FoldersTold) (log log' : Log) → k < length xs → AreAsked olds (map f xs) → AreAsked (map f xs) (map f news)
    → result ≡ Ok raw → HoldsAt (λ x. EndsAs (f x) log log' result) xs k → HoldsAt (λ x. FolderIsCleared (f x) held held') xs k → HoldsAt (IsOut f slot) news k → NoneEnded k (map f xs) → remove news k ≡ remove xs k → ResultIsGiven olds (map f (remove news k)) slot raw held held' log log'
given f olds xs news k slot raw result held held' log log' inside first second is ends cleared out oldest others =
    let at = cut f (λ x. HasLeft (f x) log log' raw × FolderIsCleared (f x) held held') (IsOut f slot) olds xs news k inside first second (λ d. (subst (λ (r : Result Raw SystemFault). IfOk r (HasLeft (f (slice_index_or xs k d)) log log')) is (ends d).ok, cleared d)) out in record {
      up = record {
        before = at.before;
        tool = at.tool;
        after = at.after;
        ran = at.ran;
        at = ap (λ (running : Running). running.slot) (sym (at.again.running ∙ at.asked.running)) ∙ at.holds';
        cleared = cleared_first at.tool (f at.item) held held' at.asked at.holds.1;
        stay = at.stay;
        oldest = oldest_left f xs news k at.before at.place oldest others;
      };
      left = left_first at.tool (f at.item) log log' raw at.asked at.holds.0;
    }

-- why the end of a tool is lost
abbrev LostWhy : ChildView → Log → Log → Type 0
LostWhy tool log log' = All IsFileName tool.running.job.outs → IsLost tool log log'

pub lost : {X : Type 0} (f : X → ChildView) (olds : List ChildView) (xs news : List X) (k slot : ℕ) (result : Result Raw SystemFault) (held held' : FoldersTold) (log log' : Log) → k < length xs → AreAsked olds (map f xs) → AreAsked (map f xs) (map f news)
    → result ≡ Err Failed → HoldsAt (λ x. EndsAs (f x) log log' result) xs k → HoldsAt (λ x. FolderIsCleared (f x) held held') xs k → HoldsAt (IsOut f slot) news k → NoneEnded k (map f xs) → remove news k ≡ remove xs k → ResultIsLost olds (map f (remove news k)) slot held held' log log'
lost f olds xs news k slot result held held' log log' inside first second is ends cleared out oldest others =
    let at = cut f (λ x. LostWhy (f x) log log' × FolderIsCleared (f x) held held') (IsOut f slot) olds xs news k inside first second (λ d. (λ names. (ends d).failed names is, cleared d)) out in record {
      up = record {
        before = at.before;
        tool = at.tool;
        after = at.after;
        ran = at.ran;
        at = ap (λ (running : Running). running.slot) (sym (at.again.running ∙ at.asked.running)) ∙ at.holds';
        cleared = cleared_first at.tool (f at.item) held held' at.asked at.holds.1;
        stay = at.stay;
        oldest = oldest_left f xs news k at.before at.place oldest others;
      };
      why = λ names. lost_first at.tool (f at.item) log log' at.asked (at.holds.0 (subst (λ (running : Running). All IsFileName running.job.outs) (sym at.asked.running) names));
    }

pub put_off : {X : Type 0} (f : X → ChildView) (olds : List ChildView) (xs news : List X) (k : ℕ) (result : Result Raw SystemFault) (held held' : FoldersTold) (log log' : Log) → k < length xs → AreAsked olds (map f xs) → AreAsked (map f xs) (map f news)
    → result ≡ Err Memory → HoldsAt (λ x. EndsAs (f x) log log' result) xs k → HoldsAt (λ x. SameBut (f x).folder held held') xs k → IsPutOff olds (map f news) held held' log log'
put_off f olds xs news k result held held' log log' inside first second is ends same =
    let at = cut f (λ x. HasEnded (f x) log log' × SameBut (f x).folder held held') (λ x. ⊤) olds xs news k inside first second (λ d. ((ends d).wanted is, same d)) (λ d. tt) in record {
      before = at.before;
      tool = at.tool;
      after = at.after;
      runs = at.ran;
      stay = all_twice olds (map f xs) (map f news) first second;
      others = λ other differs. at.holds.1 other (λ is. differs (is ∙ at.asked.folder));
      ended = ended_first at.tool (f at.item) log log' at.asked at.holds.0;
    }

same_running : (tool : Running) (slot : ℕ) → tool.slot ≡ slot → tool ≡ record { slot = slot; job = tool.job }
same_running tool slot same = ap (λ n. record { slot = n; job = tool.job }) same

ran_as : {X : Type 0} (f : X → ChildView) (olds : List X) (before : List ChildView) (tool : ChildView) (after : List ChildView) (slot : ℕ) → map f olds ≡ before ++ tool ∷ after → tool.running.slot ≡ slot
    → map (λ x. (f x).running) olds ≡ map (λ seen. seen.running) before ++ (record { slot = slot; job = tool.running.job }) ∷ map (λ seen. seen.running) after
ran_as f olds before tool after slot ran same =
    sym (runs_of f olds) ∙ ap (map (λ seen. seen.running)) ran ∙ map-append (λ seen. seen.running) before (tool ∷ after)
    ∙ ap (λ running. map (λ seen. seen.running) before ++ running ∷ map (λ seen. seen.running) after) (same_running tool.running slot same)

runs_after : {X : Type 0} (f : X → ChildView) (before after : List ChildView) (news : List X) → AreAsked (before ++ after) (map f news) → map (λ x. (f x).running) news ≡ map (λ seen. seen.running) before ++ map (λ seen. seen.running) after
runs_after f before after news stay = sym (runs_of f news) ∙ runs_same (before ++ after) (map f news) stay ∙ map-append (λ seen. seen.running) before after

pub ends : {X : Type 0} (f : X → ChildView) (olds news : List X) (slot starts starts' faults faults' : ℕ) (raw : Raw) (held held' : FoldersTold) → IsGivenUp (map f olds) (map f news) slot held held' → starts' ≡ starts → faults' ≡ faults
    → Ends (children_view (map (λ x. (f x).running) olds) starts faults) slot raw (children_view (map (λ x. (f x).running) news) starts' faults')
ends f olds news slot starts starts' faults faults' raw held held' up same_starts same_faults = record {
  job = up.tool.running.job;
  stops = record {
    before = map (λ seen. seen.running) up.before;
    after = map (λ seen. seen.running) up.after;
    ran = ran_as f olds up.before up.tool up.after slot up.ran up.at;
    is = ap (λ running. children_view running starts' faults') (runs_after f up.before up.after news up.stay) ∙ ap₂ (λ s n. children_view (map (λ seen. seen.running) up.before ++ map (λ seen. seen.running) up.after) s n) same_starts same_faults;
  };
  leaves = tt;
}

pub loses : {X : Type 0} (f : X → ChildView) (olds news : List X) (slot starts starts' faults faults' : ℕ) (held held' : FoldersTold) → IsGivenUp (map f olds) (map f news) slot held held' → starts' ≡ starts → IsCounted faults faults'
    → Loses (children_view (map (λ x. (f x).running) olds) starts faults) slot (children_view (map (λ x. (f x).running) news) starts' faults')
loses f olds news slot starts starts' faults faults' held held' up same_starts counted = record {
  job = up.tool.running.job;
  counted = counted;
  stops = record {
    before = map (λ seen. seen.running) up.before;
    after = map (λ seen. seen.running) up.after;
    ran = ran_as f olds up.before up.tool up.after slot up.ran up.at;
    is = ap (λ running. children_view running starts' faults') (runs_after f up.before up.after news up.stay) ∙ ap (λ s. children_view (map (λ seen. seen.running) up.before ++ map (λ seen. seen.running) up.after) s faults') same_starts;
  };
}
