-- The tests of calls decide whether they are well formed.
use Rattle.std.proofs.Common.{◌≢◌, ◌≤◌, ℕ, Bool, List, length, rules}
use Rattle.std.specs.Prelude.{All, Option, Some, None, IfSome}
use Rattle.std.specs.List.{list_all}
use Rattle.std.specs.Bool.{Decides}
use Rattle.std.proofs.lemmas.Bool.{and_parts, and_from, ltb-true, lt-ltb, leb-true, le-leb}
use Rattle.std.proofs.lemmas.Bool.Decides.{Decides-eqb}
use Rattle.std.proofs.lemmas.List.Sums.{AllPass-from_list_all, list_all-from_AllPass}
use Rattle.object_values.specs.declared.calls.CallPart.{CallPart}
use Rattle.object_values.specs.declared.calls.Call.{Call}
use Rattle.meaning_texts.specs.Classes.{IsId, is_name_byte}
use Rattle.meaning_texts.specs.Expressions.{IsParamOfClass}
use Rattle.meaning_texts.specs.Limits.{body_limit}
use Rattle.meaning_texts.specs.Tests.{is_id, is_param_of_class}
use Rattle.meaning_texts.proofs.Lemmas.{word_decides, id_decides, param_decides}
use Rattle.meaning_calls.specs.Jobs.{IsLabel, IsPartOfClass, IsWellFormed}
use Rattle.kept_tables.specs.Tests.{is_label_byte, is_label, is_short, is_part_of_class, is_well_formed}

-- a test of each item decides a fact of each
pub all_decides : {X : Type 0} (p : X → Bool) (P : X → Type 0) → ((x : X) → Decides (p x) (P x)) → (xs : List X) → Decides (list_all p xs) (All P xs)
all_decides p P decides xs = (
  λ e k d h. (decides _).0 (AllPass-from_list_all p xs e k d h),
  λ all. list_all-from_AllPass p xs (λ k d h. (decides _).1 (all k d h)),
)

label_byte_decides : (b : ℕ) → Decides (is_label_byte b) ((b ≢ 32) × (b ≢ 10))
label_byte_decides b = search (rules, Decides-eqb b 32, Decides-eqb b 10)

label_decides : (text : List ℕ) → Decides (is_label text) (IsLabel text)
label_decides = all_decides is_label_byte (λ b. (b ≢ 32) × (b ≢ 10)) label_byte_decides

short_decides : (body : Option (List ℕ)) → Decides (is_short body) (IfSome body (λ (b : List ℕ). length b ≤ body_limit))
short_decides None = search rules
short_decides (Some body) = (leb-true (length body) body_limit, le-leb (length body) body_limit)

pub part_decides : (part : CallPart) → Decides (is_part_of_class part) (IsPartOfClass part)
part_decides part = (
  λ e. let h = and_parts _ _ e in let front = and_parts _ _ h.0 in record { slot = ltb-true _ _ front.0; label = (label_decides part.label).0 front.1; body = (short_decides part.body).0 h.1 },
  λ c. and_from _ _ (and_from _ _ (lt-ltb _ _ c.slot) ((label_decides part.label).1 c.label)) ((short_decides part.body).1 c.body),
)

pub formed_decides : (call : Call) → Decides (is_well_formed call) (IsWellFormed call)
formed_decides call = (
  λ e.
      let h = and_parts _ _ e in
      let g = and_parts _ _ h.0 in
      let f = and_parts _ _ g.0 in
      let d = and_parts _ _ f.0 in
      record {
        tool = (id_decides call.tool).0 d.0;
        version = (word_decides is_name_byte call.version).0 d.1;
        params = (all_decides is_param_of_class IsParamOfClass param_decides call.params).0 f.1;
        parts = (all_decides is_part_of_class IsPartOfClass part_decides call.parts).0 g.1;
        outs = (all_decides is_id IsId id_decides call.outs).0 h.1;
      },
  λ w.
      and_from _ _ (and_from _ _ (and_from _ _ (and_from _ _
      ((id_decides call.tool).1 w.tool)
      ((word_decides is_name_byte call.version).1 w.version))
      ((all_decides is_param_of_class IsParamOfClass param_decides call.params).1 w.params))
      ((all_decides is_part_of_class IsPartOfClass part_decides call.parts).1 w.parts))
      ((all_decides is_id IsId id_decides call.outs).1 w.outs),
)
