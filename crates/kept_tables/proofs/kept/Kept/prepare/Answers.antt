use Rattle.std.proofs.Common.{◌≡◌, refl, rules, ap, reverse, subst, sym, ◌∙◌}
use Rattle.std.specs.List.{All}
use Rattle.std.proofs.lemmas.List.{reverse-reverse}
use Rattle.kept_contents.specs.Added.{contents_with}
use Rattle.kept_notes.specs.Facts.{IsNotedIn}
use Rattle.kept_tables.specs.Holdings.{AreNotedIn, Holding}
use Rattle.kept_tables.proofs.HeldLemmas.{kept_alike}
use Rattle.kept_tables.proofs.RecordLemmas.{records_as}
use Rattle.kept_tables.proofs.kept.Kept.prepare.Goals as goal

pub invariant_of-self : goal.invariant_of-self
invariant_of-self c = (
  rw c.reserve.ensures.texts c.self.invariant.0,
  records_as c.self.inside.contents.contents c.reserve.new.self.contents c.self.inside.records.records c.reserve.ensures.contents c.self.invariant.1,
)

pub invariant_of-self-in_err-reserve-2 : goal.invariant_of-self-in_err-reserve-2
invariant_of-self-in_err-reserve-2 c = (
  rw c.reserve.ensures.texts
      (kept_alike c.self.inside.heads c.self.inside.contents.texts c.self.inside.calls c.reserve-2.new.self c.reserve-2.ensures.entries
      c.reserve-2.ensures.marks c.self.invariant.0),
  records_as c.self.inside.contents.contents c.reserve.new.self.contents c.self.inside.records.records c.reserve.ensures.contents c.self.invariant.1,
)

pub invariant_of-self-in_err-reserve-3 : goal.invariant_of-self-in_err-reserve-3
invariant_of-self-in_err-reserve-3 c =
    let within = records_as c.self.inside.contents.contents c.reserve.new.self.contents c.self.inside.records.records c.reserve.ensures.contents
    c.self.invariant.1 in (
      rw c.reserve.ensures.texts
          (kept_alike c.self.inside.heads c.self.inside.contents.texts c.self.inside.calls c.reserve-2.new.self c.reserve-2.ensures.entries
          c.reserve-2.ensures.marks c.self.invariant.0),
      subst (AreNotedIn c.reserve.new.self.contents) (sym c.reserve-3.ensures.same) within,
    )

pub invariant_of-self-2 : goal.invariant_of-self-2
invariant_of-self-2 c =
    let within = records_as c.self.inside.contents.contents c.reserve.new.self.contents c.self.inside.records.records c.reserve.ensures.contents
    c.self.invariant.1 in (
      rw c.reserve.ensures.texts
          (kept_alike c.self.inside.heads c.self.inside.contents.texts c.self.inside.calls c.reserve-2.new.self c.reserve-2.ensures.entries
          c.reserve-2.ensures.marks c.self.invariant.0),
      subst (AreNotedIn c.reserve.new.self.contents) (sym c.reserve-3.ensures.same) within,
    )

pub returns-clause-made : goal.returns-clause-made
returns-clause-made c =
    let notes = c.args.notes.items in
    let added_is : reverse c.reverse.new.self.items ≡ c.args.added = ap reverse (c.reverse.ensures.items ∙ ap reverse c.into_vec-added.ensures)
    ∙ reverse-reverse c.args.added in
    let noted : All (IsNotedIn (contents_with c.self.inside.contents.contents c.args.added)) notes
    = subst (λ (h : Holding). All (IsNotedIn (contents_with h.tables.contents c.args.added)) notes) (sym c.self.view_is) c.requires.notes in
    record {
      fit = search rules;
      spelled = search rules;
      added_is = added_is;
      call_is = refl;
      notes_are = refl;
      commits = record {
        held = search rules;
        room = search rules;
        few = search rules;
        call = search rules;
        short = rw added_is c.requires.short;
        notes = rw (added_is, c.reserve.ensures.contents) noted;
        note_room = search rules;
        next_is = refl;
      };
    }
