use Rattle.std.proofs.Common.{◌≡◌, ◌++◌, ◌∷◌, ◌+◌, [], length, length-append, ap, sym, subst, arith, rules}
use Rattle.odin_bytes.specs.Fields.{bytes_field}
use Rattle.odin_outside.specs.Disk.{Written}
use Rattle.odin_journal.specs.Rest.{AtRest}
use Rattle.odin_journal.proofs.AppendLemmas.{rest_stays, record_written}
use Rattle.odin_journal.proofs.StartLemmas.{added_start}
use Rattle.odin_journal.specs.Starts.{IsStartOf}
use Rattle.odin_journal.proofs.journal.Journal.append_framed.Goals as goal

pub returns-then-not-has_room-clause-any_moment : goal.returns-then-not-has_room-clause-any_moment
returns-then-not-has_room-clause-any_moment g c records rest =
    rest_stays (g.D.Disk.told c.args.disk.now) records c.args.self.now.end c.args.payload.now (λ image left. g.met.D.Disk.only_now c.args.disk.now image rest.quiet.follows left) rest

pub returns-in-Ok-clause-added : goal.returns-in-Ok-clause-added
returns-in-Ok-clause-added g c =
    let old = g.D.Disk.told c.args.disk.now in
    let new = g.D.Disk.told c.add.new.disk in
    let end = c.args.self.now.end in
    let payload = c.args.payload.now in
    let behind_is : end + 5 + length payload ≡ end + (5 + c.len-length.result) = omega (arith, c.len-length.ensures) in
    let bytes = c.as_slice.ensures in
    record {
      next_is = sym behind_is;
      rests = λ records rest. subst (λ next. AtRest new (records ++ payload ∷ []) next) behind_is (c.in-Ok.ensures.ok payload records bytes rest);
      bytes = λ quiet. record_written old.seen new.seen end payload (subst (λ b. Written old.seen end (1 ∷ b) new.seen) bytes (c.in-Ok.ensures.bytes quiet));
    }

pub returns-in-Ok-clause-state : goal.returns-in-Ok-clause-state
returns-in-Ok-clause-state g c =
    let old = g.D.Disk.told c.args.disk.now in
    let new = g.D.Disk.told c.add.new.disk in
    let end = c.args.self.now.end in
    let payload = c.args.payload.now in
    let behind_is : end + 5 + length payload ≡ end + (5 + c.len-length.result) = omega (arith, c.len-length.ensures) in
    let bytes = c.as_slice.ensures in
    let size : length c.as_slice.result.now ≡ 5 + length payload = omega (arith, ap length bytes, length-append (bytes_field payload) (0 ∷ [])) in
    record {
      ready = record { fresh = c.requires.fresh; inside = omega (arith, c.in-Ok.ensures.inside); within = omega arith; behind_front = c.requires.behind_front; before_end = omega arith };
      spent = search rules;
      rests = λ records rest. record {
        rests = subst (λ next. AtRest new (records ++ payload ∷ []) next) behind_is (c.in-Ok.ensures.ok payload records bytes rest.rests);
        starts = subst (λ image. IsStartOf image c.args.self.now.start) (sym (record_written old.seen new.seen end payload (subst (λ b. Written old.seen end (1 ∷ b) new.seen) bytes (c.in-Ok.ensures.bytes rest.rests.quiet))))
            (added_start old.seen records end payload c.args.self.now.start rest.rests.store rest.starts);
      };
    }
