-- The numbers of elements.
use Rattle.std.proofs.Common.{◌≡◌, ◌↔◌, ℕ, Bool, true, false, sym, ap, ◌∙◌, subst, cond, ◌&&◌, nat_lt, bytes_eq, decimal, arith, refl}
use Rattle.std.specs.Prelude.{Some, None}
use Rattle.std.specs.Str.Parse.{digits_value}
use Rattle.std.specs.Cmp.Lexicographic.{bytes_decides}
use Rattle.std.proofs.lemmas.Bool.Decides.{Decides-ltb}
use Rattle.std.proofs.lemmas.Fmt.{decimal_is_IsNumeral}
use Rattle.meaning_graph.specs.Graphs.{Text}
use Rattle.std.proofs.lemmas.Bool.{and_parts, and_from, cond-true}
use Rattle.meaning_texts.proofs.Lemmas.{same_some}
use Rattle.meaning_texts.specs.Limits.{element_bound}
use Rattle.meaning_tasks.specs.Nodes.{is_number, element_number}
use Rattle.meaning_tasks.specs.NodeLaws.{IsNumberOf}

if_number : (b : Bool) (v k : ℕ) → cond b (Some v) None ≡ Some k → (b ≡ true) × (v ≡ k)
if_number true v k e = (refl, same_some e)
if_number false v k e = cc

number_so : (key : Text) (k : ℕ) → is_number k key ≡ true → IsNumberOf key k
number_so key k h =
    let a = and_parts (bytes_eq (decimal k) key && nat_lt 0 k) (nat_lt k element_bound) h in
    let b = and_parts (bytes_eq (decimal k) key) (nat_lt 0 k) a.0 in
    record { written = sym ((bytes_decides (decimal k) key).0 b.0); some = (Decides-ltb 0 k).0 b.1; small = (Decides-ltb k element_bound).0 a.1 }

so_number : (key : Text) (k : ℕ) → IsNumberOf key k → is_number k key ≡ true
so_number key k n = and_from (bytes_eq (decimal k) key && nat_lt 0 k) (nat_lt k element_bound) (and_from (bytes_eq (decimal k) key) (nat_lt 0 k) ((bytes_decides (decimal k) key).1 (sym n.written)) ((Decides-ltb 0 k).1 n.some)) ((Decides-ltb k element_bound).1 n.small)

pub element_numbers : (key : Text) (k : ℕ) → (element_number key ≡ Some k) ↔ IsNumberOf key k
element_numbers key k = (
  λ e. let r = if_number (is_number (digits_value 10 key) key) (digits_value 10 key) k e in number_so key k (subst (λ z. is_number z key ≡ true) r.1 r.0),
  λ n.
      let value : digits_value 10 key ≡ k = ap (digits_value 10) n.written ∙ (decimal_is_IsNumeral k (omega (arith, n.small))).1 in
      cond-true (is_number (digits_value 10 key) key) (Some (digits_value 10 key)) None (subst (λ z. is_number z key ≡ true) (sym value) (so_number key k n)) ∙ ap Some value,
)
