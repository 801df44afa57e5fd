use Rattle.std.proofs.Common.{◌<◌, ◌≤◌, ◌++◌, length, ap, sym, subst, ◌∙◌, arith}
use Rattle.std.specs.Prelude.{Some}
use Rattle.std.specs.FinMap as map
use Rattle.object_values.specs.Texts.{Text}
use Rattle.meaning_texts.specs.Classes.{IsName}
use Rattle.odin_answers.specs.Changes.{source_changes}
use Rattle.fresh_build.specs.Edits.{changes_of}
use Rattle.fresh_build.proofs.MapLemmas.{Source, entry_named, entry_within, flat_next, flat_all}
use Rattle.fresh_build.proofs.edits.add_puts.Goals as goal
use Rattle.fresh_build.proofs.edits.add_puts.Goals.{in-Some+in_ok-add_put, in_default}

pub add_put-requires : goal.add_put-requires
add_put-requires c = subst IsName (sym c.as_slice.ensures) (entry_named c.args.wanted.now.texts c.sources.place
    (c.in-Some.name.now, c.in-Some.text.now) c.requires (sym c.in-Some.ensures))

pub sources-preserved : goal.sources-preserved
sources-preserved c =
    let sources = map.entries c.args.wanted.now.texts in
    let old = c.args.old.now.texts in
    let each = λ (s : Source). source_changes s.0 (map.get old s.0) (Some s.1) in
    elim c.match-at.branch [
      | in-Some+in_ok-add_put w ↦
          let source : Source = (w.in-Some.name.now, w.in-Some.text.now) in
          let added = w.in_ok-add_put.ensures
          ∙ ap (λ (n : Text). changes_of c.sources.edits ++ source_changes n (map.get old n) (Some w.in-Some.text.now)) w.as_slice.ensures in
          rw w.edits-is (flat_next each sources c.sources.place source (changes_of c.args.edits.now) (changes_of c.sources.edits)
          (changes_of w.add_put.new.edits) (sym w.in-Some.ensures) c.sources.invariant added)
      | in_default w ↦
          let within : c.sources.place < length sources = omega (arith, map.len-entries c.args.wanted.now.texts) in
          absurd (entry_within sources c.sources.place (sym w.in_default.ensures) within)
    ]

pub returns : goal.returns
returns c =
    let sources = map.entries c.args.wanted.now.texts in
    let old = c.args.old.now.texts in
    let all : length sources ≤ c.sources.place = omega (arith, map.len-entries c.args.wanted.now.texts) in
    flat_all (λ (s : Source). source_changes s.0 (map.get old s.0) (Some s.1)) sources c.sources.place (changes_of c.args.edits.now)
    (changes_of c.sources.edits) all c.sources.invariant
