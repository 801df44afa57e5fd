use Rattle.std.proofs.Common.{rules, arith, get_or, ◌≡◌, ◌≢◌, Bool, true, false, is_some, codes, sym, ap, ◌∙◌}
use Rattle.std.specs.FinMap as map
use Rattle.std.specs.Ordering.{nat_cmp}
use Rattle.std.specs.Cmp.Lexicographic.{slice_cmp}
use Rattle.object_values.specs.Texts.{no_texts}
use Rattle.object_values.specs.Gets.{put_other}
use Rattle.meaning_records.proofs.examples.edits_that_do_not.Goals as goal

b_is_not_a : codes "b.c" ≢ codes "a.c"
b_is_not_a e = let first : 98 ≡ 97 = ap (λ l. get_or l 0 0) e in omega (arith, first)

pub returns : goal.returns
returns c = record {
  put_number = search rules;
  put_kind = search rules;
  put_name = search rules;
  drop_name = search rules;
  drop_absent = λ new t.
      let none = put_other no_texts (codes "a.c") (codes "x=1") (codes "b.c") b_is_not_a ∙ map.get-empty (slice_cmp nat_cmp) (codes "b.c") in
      let e : ◌≡◌ {A = Bool} false true = sym (ap is_some none) ∙ t.1.edits.0 in
      cc;
  put_early = search rules;
}
