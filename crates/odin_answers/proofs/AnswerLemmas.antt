-- Replies to texts, from what an ask of the engine did.
use Rattle.std.proofs.Common.{◌≡◌, ℕ, List, [], ◌∷◌, ◌++◌, refl, ap, sym, subst, ◌∙◌, arith, inl, inr, is_some}
use Rattle.std.proofs.lemmas.List.Elements.{All-nil}
use Rattle.object_values.specs.declared.facts.Fact.{Fact}
use Rattle.object_values.specs.declared.nodes.Node.{Node}
use Rattle.object_values.specs.declared.calls.Call.{Call}
use Rattle.object_values.specs.declared.calls.Outcome.{Outcome}
use Rattle.object_values.specs.declared.views.View.{View}
use Rattle.odin_outside.specs.Disk.{Telling}
use Rattle.odin_outside.specs.Spawned.{Spawned}
use Rattle.meaning_graph.specs.Graphs.{Text, Graph}
use Rattle.meaning_derive.specs.Derive.{Sources, Outcomes}
use Rattle.meaning_derive.specs.Replies.{shown, refused_circular, refused_deep}
use Rattle.meaning_derive.proofs.Lemmas.{no_chain, not_refused, one_node}
use Rattle.meaning_records.specs.Tables.{Tables, Calls, kept_outcome}
use Rattle.object_values.specs.declared.replies.Reply.{Reply}
use Rattle.object_values.specs.declared.replies.Reply.TheVariants.{RefusedExpression, RefusedParam, RefusedType, RefusedPath, RefusedToolStart}
use Rattle.meaning_derive.specs.Answers.{Refused, Asks, Answer}
use Rattle.meaning_true.specs.Knowing.{IsChecked}
use Rattle.odin_journal.specs.declared.journal.Journal.{Journal}
use Rattle.odin_journal.specs.declared.fault.JournalFault.{JournalFault}
use Rattle.odin_journal.specs.declared.fault.JournalFault.TheVariants as store
use Rattle.odin_store.specs.declared.store.Store.{Store}
use Rattle.odin_store.specs.Held.{Change, keeps, IsDue, Held}
use Rattle.odin_store.specs.OnDisk.{IsSame, IsOver}
use Rattle.odin_store.specs.Going.{IsBatchOf, Performs}
use Rattle.odin_store.proofs.Lemmas.{goes_none, goes_on, nothing_behind, same_held}
use Rattle.derive_walk.specs.declared.found.Found.{Found}
use Rattle.derive_walk.specs.declared.found.Found.TheVariants as found
use Rattle.derive_walk.specs.Founds.{IsFound}
use Rattle.derive_walk.specs.Outcomes.{after}
use Rattle.derive_walk.proofs.Lemmas.{found_stays}
use Rattle.plain_derive.specs.Flights.{Course, AreRun}
use Rattle.plain_derive.proofs.Lemmas.{given_are_all}
use Rattle.kept_derive.specs.Knowing.{store_records, KnowsStore, IsRecorded}
use Rattle.kept_derive.specs.Runs.{At, keeps_of, course_of, IsRightlyFound}
use Rattle.kept_derive.specs.Stops.{DeriveIsDrained as IsDrainedFor, IsUnkept, IsLastOf, DeriveIsOutOfMemory}
use Rattle.kept_derive.proofs.Lemmas.{SaysFacts}
use Rattle.odin_engine.specs.declared.fault.AskFault.{AskFault}
use Rattle.odin_engine.specs.declared.fault.AskFault.TheVariants as fault
use Rattle.odin_engine.specs.Asked.{IsNodeOf}
use Rattle.odin_engine.specs.Asking.{IsFoundFor, IsAskFault}
use Rattle.odin_answers.specs.Answers.{AreAll, HaveFlown, IsReply, IsReplyIf, IsRecordedFor, MayHaveBegun, found_reply}
use Rattle.odin_answers.specs.Faults as faults
use Rattle.odin_answers.specs.Replied.{HasReplied, HasWanted, HasFailedToKeep, HasNoRoomToKeep, HasStopped}
use Rattle.odin_answers.proofs.RecordLemmas.{checked_fact}

-- the changes of one more call that is kept
pub keeps_behind : (given : Calls) (call : Call) (outcome : Outcome) → keeps_of (given ++ (call, outcome) ∷ []) ≡ keeps_of given ++ keeps call outcome ∷ []
keeps_behind [] call outcome = refl
keeps_behind (x ∷ given) call outcome = ap (λ l. keeps x.0 x.1 ∷ l) (keeps_behind given call outcome)

-- ---- what was run

-- where the node has a result all its calls are known
all_known : (g : Graph) (s : Sources) (kept : Calls) (n : Node) (given : Calls) (f : Found) → IsFound g s (after (kept_outcome kept) given) n f → AreAll g s kept n given
all_known g s kept n given (found.Answer view) is outcomes agrees founded call from = given_are_all g s (kept_outcome kept) n given (ap is_some is) outcomes agrees call from
all_known g s kept n given (found.Circular chain) is outcomes agrees founded call from =
    absurd (no_chain g s outcomes n founded chain (inl (found_stays g s (after (kept_outcome kept) given) outcomes agrees n (found.Circular chain) is)))
all_known g s kept n given (found.Deep chain) is outcomes agrees founded call from =
    absurd (no_chain g s outcomes n founded chain (inr (found_stays g s (after (kept_outcome kept) given) outcomes agrees n (found.Deep chain) is)))

answers : (g : Graph) (s : Sources) (outcomes : Outcomes) (text : Text) (n : Node) (f : Found) → Asks g text n → IsFound g s outcomes n f → Answer g s outcomes text (found_reply g f)
answers g s outcomes text n (found.Answer view) asks is = Answer.object text n view asks is
answers g s outcomes text n (found.Circular chain) asks is = Answer.circular text n chain asks is
answers g s outcomes text n (found.Deep chain) asks is = Answer.deep text n chain asks is

-- tools that ran to their end
run_begun : (g : Graph) (s : Sources) (kept : Calls) (limit : ℕ) (text : Text) (n : Node) (course : Course) (given : Calls) (before now : Spawned) → Asks g text n → AreRun g s (kept_outcome kept) n limit course given before now
    → HaveFlown g s kept limit text given before now
run_begun g s kept limit text n course given before now asks run = record {
  node = n;
  asks = asks;
  flown = record { course = course; running = []; few = omega arith; flown = run.flown };
}

-- A reply is one of an ask that was begun.
pub reply_begun : (g : Graph) (s : Sources) (kept : Calls) (limit : ℕ) (text : Text) (reply : Reply) (given : Calls) (before now : Spawned) → IsReply g s kept limit text reply given before now → MayHaveBegun g s kept limit text given before now
reply_begun g s kept limit text reply given before now (inl answer) = elim answer.did [
  | inl alone ↦ inl (record { none = alone.none; told = alone.told })
  | inr derived ↦ inr (run_begun g s kept limit text derived.node (course_of derived.found) given before now derived.asks derived.run)
]
reply_begun g s kept limit text reply given before now (inr refused) = inr (run_begun g s kept limit text refused.drained.node _ given before now refused.drained.asks refused.drained.run)

-- Where this holds, it is the reply.
pub reply_of : {trust : Type 0} (g : Graph) (s : Sources) (kept : Calls) (limit : ℕ) (text : Text) (reply : Reply) (given : Calls) (before now : Spawned)
    → IsReplyIf trust g s kept limit text reply given before now → trust → IsReply g s kept limit text reply given before now
reply_of g s kept limit text reply given before now (inl alone) holds =
    inl (record { answer = λ outcomes agrees. Answer.refused text reply alone.refused; did = inl alone })
reply_of g s kept limit text reply given before now (inr is) holds = is holds

-- ---- the store

module _ {Disk : Type 0} (told : Disk → Telling) where
  same_at : (old new : At Disk) → new ≡ old → IsSame old.store new.store old.disk new.disk
  same_at old new e =
      subst (λ (z : At Disk). IsSame old.store z.store old.disk z.disk) (sym e)
      (record { disk_is = refl; store_is = record { journal = refl; tables = refl; sources = refl; graph = refl; epoch = refl }; nodes = refl })

  pub goes_same : (changes : List Change) (store mid next : Store) (disk between after : Disk) → Performs told changes store mid disk between
      → IsSame mid next between after → Performs told changes store next disk after
  goes_same changes store mid next disk between after goes same =
      subst (λ c. Performs told c store next disk after) (nothing_behind changes)
      (goes_on told changes [] store mid next disk between after goes (goes_none told mid next between after same))

  module _ (g : Graph) (limit : ℕ) (text : Text) (old new : At Disk) where
    abbrev sources : Sources
    sources = old.store.sources.texts

    abbrev kept : Calls
    kept = old.store.kept.tables.calls

    abbrev RecordedFor : Calls → Reply → Type 0
    RecordedFor given reply = IsRecordedFor g sources (after (kept_outcome kept) given) text reply new.store.kept.tables.records

    -- ---- nothing was done

    untouched : new ≡ old → HasWanted told g limit text old new
    untouched e = record {
      given = [];
      noted = [];
      goes = goes_none told old.store new.store old.disk new.disk (same_at old new e);
      right = λ known. record {
        begun = record { rest = []; few = omega arith; begun = inl (record { none = refl; told = ap (λ (z : At Disk). z.tools) e }) };
        truth = All-nil _;
      };
    }

    refused_reply : (reply : Reply) → Refused g text reply → new ≡ old → HasReplied told g limit text old new reply
    refused_reply reply refused e = record {
      given = [];
      noted = [];
      is = inl (record { refused = refused; none = refl; told = ap (λ (z : At Disk). z.tools) e });
      goes = goes_none told old.store new.store old.disk new.disk (same_at old new e);
      epoch = ap (λ (z : At Disk). z.store.epoch) e;
      right = λ known. record {
        truth = All-nil _;
        knows = subst (λ (z : At Disk). KnowsStore g z.store) (sym e) known;
        recorded = λ n view asks is shows stepped. absurd (not_refused g text reply n asks refused);
      };
    }

    -- ---- what was found

    found_answer : (n : Node) (given : Calls) (noted : List Fact) (f : Found) (reply : Reply) → Asks g text n
        → IsRightlyFound g n limit old new given noted f → reply ≡ found_reply g f → IsReply g sources kept limit text reply given old.tools new.tools
    found_answer n given noted f reply asks right is = inl (record {
      answer = λ outcomes agrees.
          subst (Answer g sources outcomes text) (sym is)
          (answers g sources outcomes text n f asks (found_stays g sources (after (kept_outcome kept) given) outcomes agrees n f right.is));
      did = inr (record {
        node = n;
        asks = asks;
        found = f;
        run = right.run;
        is = right.is;
        all = all_known g sources kept n given f right.is;
      });
    })

    replied : (f : Found) (reply : Reply) → (for : IsFoundFor told g limit text old new f) → reply ≡ found_reply g f
        → (IsRecorded f for.node new.store → RecordedFor for.has.given reply) → HasReplied told g limit text old new reply
    replied f reply for is recorded = record {
      given = for.has.given;
      noted = for.has.noted;
      is = inr (λ known. found_answer for.node for.has.given for.has.noted f reply for.is.asks (for.has.right known) is);
      goes = for.has.goes;
      epoch = for.has.epoch;
      right = λ known. let right = for.has.right known in record { truth = right.truth; knows = right.knows; recorded = recorded right.recorded };
    }

    -- The node of a view that was found has a record then.
    pub shown_reply : (view : View) (reply : Reply) → IsFoundFor told g limit text old new (found.Answer view) → reply ≡ shown g view
        → SaysFacts new.store → HasReplied told g limit text old new reply
    shown_reply view reply for is say =
        replied (found.Answer view) reply for is
        (λ recorded n other asks derives shows stepped.
        let same : n ≡ for.node = one_node g text for.node n for.is.asks asks in
        checked_fact new.store say n
        (subst (IsChecked (store_records new.store)) (sym same) (recorded (λ none. stepped (ap (λ (m : Node). m.steps) same ∙ none)))))

    circular_reply : (chain : List Node) (reply : Reply) → IsFoundFor told g limit text old new (found.Circular chain) → reply ≡ refused_circular g chain
        → HasReplied told g limit text old new reply
    circular_reply chain reply for is =
        replied (found.Circular chain) reply for is
        (λ recorded n view asks derives shows stepped. let no : refused_circular g chain ≡ shown g view = sym is ∙ shows in absurd cc)

    deep_reply : (chain : List Node) (reply : Reply) → IsFoundFor told g limit text old new (found.Deep chain) → reply ≡ refused_deep g chain
        → HasReplied told g limit text old new reply
    deep_reply chain reply for is =
        replied (found.Deep chain) reply for is
        (λ recorded n view asks derives shows stepped. let no : refused_deep g chain ≡ shown g view = sym is ∙ shows in absurd cc)

    -- of which the reply was not written
    pub unreplied : (f : Found) → IsFoundFor told g limit text old new f → HasWanted told g limit text old new
    unreplied f for =
        let given = for.has.given in
        record {
          given = given;
          noted = for.has.noted;
          goes = for.has.goes;
          right = λ known.
              let right = for.has.right known in
              record {
                begun = record {
                  rest = [];
                  few = omega arith;
                  begun = inr (subst (λ (l : Calls). HaveFlown g sources kept limit text l old.tools new.tools) (sym (nothing_behind given))
                      (run_begun g sources kept limit text for.node (course_of f) given old.tools new.tools for.is.asks right.run));
                };
                truth = right.truth;
              };
        }

    -- ---- faults

    start_refused : (reply : Reply) (n : Node) → IsNodeOf g text n → IsDrainedFor told g n limit old new → reply ≡ RefusedToolStart
        → HasReplied told g limit text old new reply
    start_refused reply n of drained is = record {
      given = drained.given;
      noted = [];
      is = inr (λ known. inr (record { is = is; drained = record { node = n; asks = of.asks; run = (drained.right known).run } }));
      goes = drained.goes;
      epoch = drained.epoch;
      right = λ known. record {
        truth = All-nil _;
        knows = (drained.right known).knows;
        recorded = λ m view asks derives shows stepped. let no : RefusedToolStart ≡ shown g view = sym is ∙ shows in absurd cc;
      };
    }

    wanted : (n : Node) → IsNodeOf g text n → DeriveIsOutOfMemory told g n limit old new → HasWanted told g limit text old new
    wanted n of wanting = record {
      given = wanting.given;
      noted = [];
      goes = wanting.goes;
      right = λ known.
          let right = wanting.right known in
          record {
            begun = record { rest = right.rest; few = right.few; begun = inr (record { node = n; asks = of.asks; flown = right.flown }) };
            truth = All-nil _;
          };
    }

    failed : (n : Node) → IsNodeOf g text n → IsUnkept told g n limit store.Disk old new → HasFailedToKeep told g limit text old new
    failed n of u = record {
      given = u.given;
      last = u.last;
      is = u.is;
      mid = u.mid;
      due = u.failed.0;
      goes = u.goes;
      stops = u.failed.1;
      right = λ known.
          let right = u.right known in
          record { rest = right.rest; ends = right.ends; came = record { node = n; asks = of.asks; flown = right.flown } };
    }

    full : (at size : ℕ) (n : Node) → IsNodeOf g text n → IsUnkept told g n limit (store.Full at size) old new → HasNoRoomToKeep told g limit text old new at size
    full at size n of u =
        let same = u.failed.1.0 in
        record {
          given = u.given;
          last = u.last;
          is = u.is;
          due = subst (λ (h : Held). IsDue u.last h) (sym (same_held u.mid.store new.store same.store_is)) u.failed.0;
          goes = goes_same (keeps_of u.given) old.store u.mid.store new.store old.disk u.mid.disk new.disk u.goes same;
          items = u.failed.1.1.0;
          batch = subst (λ (t : Tables). IsBatchOf t.contents u.last u.failed.1.1.0) (sym same.store_is.tables) u.failed.1.1.1;
          over = subst (λ (j : Journal). IsOver u.failed.1.1.0 j.end at size) (sym same.store_is.journal) u.failed.1.1.2;
          right = λ known.
              let right = u.right known in
              record {
                rest = right.rest;
                ends = subst (λ (t : Tables). IsLastOf g (kept_outcome t.calls) right.rest u.last) (sym same.store_is.tables) right.ends;
                came = record { node = n; asks = of.asks; flown = right.flown };
              };
        }

    -- ---- by the fault

    pub refused : (f : AskFault) (reply : Reply) → IsAskFault told g limit text old new f → faults.IsReplyToFault g f reply → HasReplied told g limit text old new reply
    refused (fault.Expression place) reply is says = subst (HasReplied told g limit text old new) (sym says) (refused_reply (RefusedExpression place) is.0 is.1)
    refused (fault.UnknownType name) reply is says = subst (HasReplied told g limit text old new) (sym says) (refused_reply (RefusedType name) is.0 is.1)
    refused (fault.UnknownParam name) reply is says = subst (HasReplied told g limit text old new) (sym says) (refused_reply (RefusedParam name) is.0 is.1)
    refused (fault.Path step) reply is says = subst (HasReplied told g limit text old new) (sym says) (refused_reply (RefusedPath step) is.0 is.1)
    refused (fault.Circular chain) reply is says = circular_reply chain reply is says
    refused (fault.Deep chain) reply is says = deep_reply chain reply is says
    refused fault.Spawn reply is says = start_refused reply is.node is.is is.stopped says
    refused fault.Disk reply is says = absurd says
    refused (fault.Full at size) reply is says = absurd says
    refused fault.Memory reply is says = absurd says

    pub stopped : (f : AskFault) (why : JournalFault) → IsAskFault told g limit text old new f → faults.StopsWithoutReply f why → HasStopped told g limit text old new why
    stopped (fault.Expression place) why is says = subst (HasStopped told g limit text old new) (sym says) (untouched is.1)
    stopped (fault.UnknownType name) why is says = subst (HasStopped told g limit text old new) (sym says) (untouched is.1)
    stopped (fault.UnknownParam name) why is says = subst (HasStopped told g limit text old new) (sym says) (untouched is.1)
    stopped (fault.Path step) why is says = subst (HasStopped told g limit text old new) (sym says) (untouched is.1)
    stopped (fault.Circular chain) why is says = subst (HasStopped told g limit text old new) (sym says) (unreplied (found.Circular chain) is)
    stopped (fault.Deep chain) why is says = subst (HasStopped told g limit text old new) (sym says) (unreplied (found.Deep chain) is)
    stopped fault.Spawn why is says = absurd says
    stopped fault.Disk why is says = subst (HasStopped told g limit text old new) (sym says) (failed is.node is.is is.stopped)
    stopped (fault.Full at size) why is says = subst (HasStopped told g limit text old new) (sym says) (full at size is.node is.is is.stopped)
    stopped fault.Memory why is says = subst (HasStopped told g limit text old new) (sym says) (elim is [
      | inl same ↦ untouched same
      | inr ended ↦ wanted ended.node ended.is ended.stopped
    ])
