use Rattle.std.proofs.Common.{◌<◌, ◌≤◌, ◌++◌, length, ap, sym, subst, ◌∙◌, arith}
use Rattle.std.specs.FinMap as map
use Rattle.object_values.specs.Texts.{Text}
use Rattle.meaning_texts.specs.Classes.{IsName}
use Rattle.fresh_build.specs.Edits.{changes_of, drop_of}
use Rattle.fresh_build.proofs.MapLemmas.{Source, entry_named, entry_within, flat_next, flat_all}
use Rattle.fresh_build.proofs.edits.add_drops.Goals as goal
use Rattle.fresh_build.proofs.edits.add_drops.Goals.{in-Some+in_ok-add_drop, in_default}

pub add_drop-requires : goal.add_drop-requires
add_drop-requires c = subst IsName (sym c.as_slice.ensures) (entry_named c.args.old.now.texts c.sources.place
    (c.in-Some.name.now, c.in-Some.field-0-1.now) c.requires (sym c.in-Some.ensures))

pub sources-preserved : goal.sources-preserved
sources-preserved c =
    let sources = map.entries c.args.old.now.texts in
    let wanted = c.args.wanted.now.texts in
    let each = λ (s : Source). drop_of s.0 (map.get wanted s.0) in
    elim c.match-at.branch [
      | in-Some+in_ok-add_drop w ↦
          let source : Source = (w.in-Some.name.now, w.in-Some.field-0-1.now) in
          let added = w.in_ok-add_drop.ensures ∙ ap (λ (n : Text). changes_of c.sources.edits ++ drop_of n (map.get wanted n)) w.as_slice.ensures in
          rw w.edits-is (flat_next each sources c.sources.place source (changes_of c.args.edits.now) (changes_of c.sources.edits)
          (changes_of w.add_drop.new.edits) (sym w.in-Some.ensures) c.sources.invariant added)
      | in_default w ↦
          let within : c.sources.place < length sources = omega (arith, map.len-entries c.args.old.now.texts) in
          absurd (entry_within sources c.sources.place (sym w.in_default.ensures) within)
    ]

pub returns : goal.returns
returns c =
    let sources = map.entries c.args.old.now.texts in
    let wanted = c.args.wanted.now.texts in
    let all : length sources ≤ c.sources.place = omega (arith, map.len-entries c.args.old.now.texts) in
    flat_all (λ (s : Source). drop_of s.0 (map.get wanted s.0)) sources c.sources.place (changes_of c.args.edits.now)
    (changes_of c.sources.edits) all c.sources.invariant
