-- Status 0 says that the files of each target are those of what is derived from just the wanted sources.
use Rattle.std.proofs.Common.{◌≡◌, ℕ, Bool, true, false, ◌||◌, List, [], ◌∷◌, ◌++◌, Option, Some, None, sym, ap, subst, ◌∙◌, refl, inl, inr}
use Rattle.std.specs.Prelude.{if◌then◌else◌}
use Rattle.std.specs.List.{list_any}
use Rattle.object_values.specs.Texts.{Texts}
use Rattle.object_values.specs.declared.messages.Status.{Status}
use Rattle.object_values.specs.declared.messages.Message.{Message}
use Rattle.object_values.specs.declared.replies.Reply.{Reply}
use Rattle.object_values.specs.declared.replies.Reply.TheVariants as reply
use Rattle.object_values.specs.declared.replies.ShownBody.{ShownBody}
use Rattle.odin_outside.specs.Disk.{Telling}
use Rattle.odin_outside.specs.Files.{Files}
use Rattle.odin_outside.specs.Spawned.{Table, Spawned}
use Rattle.meaning_graph.specs.Graphs.{Graph}
use Rattle.meaning_derive.specs.Answers.{Answer}
use Rattle.meaning_derive.specs.Given.{table_outcomes}
use Rattle.meaning_records.specs.Tables.{Calls}
use Rattle.kept_derive.specs.Knowing.{KnowsStore}
use Rattle.kept_derive.proofs.Lemmas.{calls_after_all, sources_after_all}
use Rattle.odin_answers.specs.Answers.{IsReply}
use Rattle.odin_answers.specs.Laws.{AnswersAreFresh, IsTrueFor, KeptStaysTrueByAsk}
use Rattle.odin_answers.proofs.Lemmas.{reply_of}
use Rattle.project_file.specs.declared.project.Target.{Target}
use Rattle.project_build.specs.Built.{Standing, standing, AreBuilt, none_built, one_built, IsBuilt, writes_in}
use Rattle.project_build.specs.Laws.{AreFresh, none_fresh, one_fresh, IsFreshTarget}
use Rattle.project_build.specs.Projects.{IsBuiltFrom}
use Rattle.project_build.specs.Statuses.{build_status, has_errors, is_faulty, is_refusal}
use Rattle.project_build.specs.Writes.{HaveWritten, writes_of}

-- ---- statuses

-- none of the replies does, and not the last one
record AreNone (test : Reply → Bool) (replies : List Reply) (last : Reply) : Type 0 where
  pub before : list_any test replies ≡ false
  pub here : test last ≡ false

both : (a b : Bool) → (a || b) ≡ false → (a ≡ false) × (b ≡ false)
both false false h = (refl, refl)
both false true h = absurd cc
both true b h = absurd cc

none_of : (test : Reply → Bool) (replies : List Reply) (last : Reply) → list_any test (replies ++ last ∷ []) ≡ false → AreNone test replies last
none_of test [] last h = record { before = refl; here = (both (test last) false h).0 }
none_of test (first ∷ replies) last h =
    let split = both (test first) (list_any test (replies ++ last ∷ [])) h in
    let rest = none_of test replies last split.1 in
    record { before = ap (λ (b : Bool). b || list_any test replies) split.0 ∙ rest.before; here = rest.here }

fine_status : (refused faulty : Bool) → ◌≡◌ {A = ℕ} (if refused then 2 else if faulty then 1 else 0) 0 → (refused ≡ false) × (faulty ≡ false)
fine_status true faulty h = absurd cc
fine_status false true h = absurd cc
fine_status false false h = (refl, refl)

-- ---- one target

module _ {Disk : Type 0} (told : Disk → Telling) (g : Graph) (table : Table) (wanted : Texts) (limit : ℕ)
    (kept_law : KeptStaysTrueByAsk) (fresh_law : AnswersAreFresh) where
  -- What is kept is true and known, and the sources are those that are wanted.
  record IsRight (s : Standing Disk) : Type 0 where
    pub holds : IsTrueFor table s.on.tools s.on.store.kept.tables.calls
    pub knows : KnowsStore g s.on.store
    pub sources : s.on.store.sources.texts ≡ wanted

  -- where that is so, it is the reply
  is_reply : (target : Target) (reply : Reply) (mid new : Standing Disk) → IsRight mid → (built : IsBuilt told g limit target reply mid new)
      → IsReply g mid.on.store.sources.texts mid.on.store.kept.tables.calls limit target.ask reply built.replied.given mid.on.tools new.on.tools
  is_reply target reply mid new right built =
      reply_of g mid.on.store.sources.texts mid.on.store.kept.tables.calls limit target.ask reply built.replied.given mid.on.tools new.on.tools
      built.replied.is right.knows

  stays_right : (target : Target) (reply : Reply) (mid new : Standing Disk) → IsRight mid → IsBuilt told g limit target reply mid new → IsRight new
  stays_right target reply mid new right built =
      let replied = built.replied in
      let calls = calls_after_all told replied.given replied.noted mid.on.store new.on.store mid.on.disk new.on.disk replied.goes in
      record {
        holds = subst (λ (c : Calls). IsTrueFor table new.on.tools c) (sym calls)
            (kept_law.replied g table mid.on.store.sources.texts mid.on.store.kept.tables.calls limit target.ask reply replied.given mid.on.tools new.on.tools
            right.holds (is_reply target reply mid new right built));
        knows = (replied.right right.knows).knows;
        sources = sources_after_all told replied.given replied.noted mid.on.store new.on.store mid.on.disk new.on.disk replied.goes ∙ right.sources;
      }

  -- the files of an object without errors
  choose : (b : Bool) (file : List ℕ) (body : ShownBody) (old new : Option Files) → b ≡ false
      → HaveWritten old (writes_in file (if b then None else Some body)) new → HaveWritten old (writes_of file body) new
  choose false file body old new h written = written
  choose true file body old new h written = absurd cc

  -- what is shown is no refused start
  not_started : {A : Type 0} (status : Status) (body : ShownBody) (messages : List Message) → reply.Shown status body messages ≡ reply.RefusedToolStart → A
  not_started status body messages h = absurd cc

  shown_fresh : (target : Target) (status : Status) (body : ShownBody) (messages : List Message) (mid new : Standing Disk) → IsRight mid
      → IsBuilt told g limit target (reply.Shown status body messages) mid new → is_faulty status ≡ false → IsFreshTarget g wanted table target mid.files new.files
  shown_fresh target status body messages mid new right built fine = record {
    status = status;
    body = body;
    messages = messages;
    fine = fine;
    answer = elim (is_reply target (reply.Shown status body messages) mid new right built) [
      | inl answer ↦ subst (λ (s : Texts). Answer g s (table_outcomes table) target.ask (reply.Shown status body messages)) right.sources
          (fresh_law g table mid.on.store.sources.texts mid.on.store.kept.tables.calls limit target.ask (reply.Shown status body messages) built.replied.given
          mid.on.tools new.on.tools right.holds answer)
      | inr refused ↦ not_started status body messages refused.is
    ];
    written = choose (is_faulty status) target.file body mid.files new.files fine built.written;
  }

  fresh_target : (target : Target) (given : Reply) (mid new : Standing Disk) → IsRight mid
      → IsBuilt told g limit target given mid new → is_refusal given ≡ false → has_errors given ≡ false → IsFreshTarget g wanted table target mid.files new.files
  fresh_target target (reply.Shown status body messages) mid new right built shown fine = shown_fresh target status body messages mid new right built fine
  fresh_target target (reply.Put name count) mid new right built shown fine = absurd cc
  fresh_target target (reply.Took name count) mid new right built shown fine = absurd cc
  fresh_target target (reply.NoFile name) mid new right built shown fine = absurd cc
  fresh_target target (reply.Dropped name) mid new right built shown fine = absurd cc
  fresh_target target (reply.NoSource name) mid new right built shown fine = absurd cc
  fresh_target target (reply.Sources lines) mid new right built shown fine = absurd cc
  fresh_target target (reply.Kept count) mid new right built shown fine = absurd cc
  fresh_target target (reply.Plan lines) mid new right built shown fine = absurd cc
  fresh_target target reply.Bye mid new right built shown fine = absurd cc
  fresh_target target reply.RefusedCommand mid new right built shown fine = absurd cc
  fresh_target target reply.RefusedName mid new right built shown fine = absurd cc
  fresh_target target reply.RefusedSize mid new right built shown fine = absurd cc
  fresh_target target reply.RefusedRead mid new right built shown fine = absurd cc
  fresh_target target (reply.RefusedExpression place) mid new right built shown fine = absurd cc
  fresh_target target (reply.RefusedParam name) mid new right built shown fine = absurd cc
  fresh_target target (reply.RefusedType name) mid new right built shown fine = absurd cc
  fresh_target target (reply.RefusedPath step) mid new right built shown fine = absurd cc
  fresh_target target (reply.RefusedCircular lines) mid new right built shown fine = absurd cc
  fresh_target target (reply.RefusedDeep lines) mid new right built shown fine = absurd cc
  fresh_target target reply.RefusedToolStart mid new right built shown fine = absurd cc

  -- ---- all targets

  record HaveBecomeFresh (old : Standing Disk) (targets : List Target) (new : Standing Disk) : Type 0 where
    pub fresh : AreFresh g wanted table old.files targets new.files
    pub right : IsRight new

  freshened : (old : Standing Disk) → IsRight old → (targets : List Target) (replies : List Reply) (new : Standing Disk)
      → AreBuilt told g limit old targets replies new → list_any is_refusal replies ≡ false → list_any has_errors replies ≡ false
      → HaveBecomeFresh old targets new
  freshened old right targets replies new none_built shown fine = record { fresh = none_fresh; right = right }
  freshened old right targets replies new (one_built before earlier target given mid _ built more) shown fine =
      let no_refusal = none_of is_refusal earlier given shown in
      let no_error = none_of has_errors earlier given fine in
      let done = freshened old right before earlier mid built no_refusal.before no_error.before in
      record {
        fresh = one_fresh before target mid.files new.files done.fresh (fresh_target target given mid new done.right more no_refusal.here no_error.here);
        right = stays_right target given mid new done.right more;
      }

  pub zero_fresh : (targets : List Target) (replies : List Reply) (old new : Standing Disk) → IsTrueFor table old.on.tools old.on.store.kept.tables.calls
      → KnowsStore g old.on.store → IsBuiltFrom told g limit wanted targets old new replies → build_status replies ≡ 0
      → AreFresh g wanted table old.files targets new.files
  zero_fresh targets replies old new holds known built zero =
      let fine = fine_status (list_any is_refusal replies) (list_any has_errors replies) zero in
      let right : IsRight (standing built.mid old.files) = record {
        holds = subst (λ (t : Spawned). IsTrueFor table t built.mid.store.kept.tables.calls) (sym built.tools)
            (subst (λ (c : Calls). IsTrueFor table old.on.tools c) (sym built.sets.calls) holds);
        knows = built.sets.makes.knows g known;
        sources = built.sets.set;
      } in
      (freshened (standing built.mid old.files) right targets replies new built.built fine.0 fine.1).fresh
