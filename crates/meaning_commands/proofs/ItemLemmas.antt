-- How an input is cut into items.
use Rattle.std.proofs.Common.{◌≡◌, ℕ, zero, suc, ◌-◌, ◌≤◌, true, false, List, [], ◌∷◌, ◌++◌, take, length, ap, sym, refl, ◌∙◌, subst, arith, inl, inr}
use Rattle.std.proofs.lemmas.List.{append_assoc, length-append, take_all}
use Rattle.std.specs.List.{concat}
use Rattle.meaning_commands.specs.Items as items
use Rattle.meaning_texts.specs.Lists.{HasNo}
use Rattle.meaning_texts.specs.Lines.{without_cr}
use Rattle.meaning_texts.proofs.Lemmas.{HasNo-split, same_cut}
use Rattle.meaning_commands.specs.Items.{Language, Item, item_bytes, all_bytes, last_item}

pub nil_right : {A : Type 0} (xs : List A) → xs ++ [] ≡ xs
nil_right [] = refl
nil_right (x ∷ xs) = ap (λ r. x ∷ r) (nil_right xs)

-- the first bytes of one text and then another
pub take-append : (n : ℕ) (a b : List ℕ) → take n (a ++ b) ≡ take n a ++ take (n - length a) b
take-append zero a b = let none : 0 - length a ≡ 0 = omega arith in ap (λ k. take k b) (sym none)
take-append (suc n) [] b = let all : suc n - 0 ≡ suc n = omega arith in ap (λ k. take k b) (sym all)
take-append (suc n) (x ∷ a) b = let less : suc n - length (x ∷ a) ≡ n - length a = omega arith in ap (λ t. x ∷ t) (take-append n a b ∙ ap (λ k. take n a ++ take k b) (sym less))

-- no more than the first bytes, and then others
pub take-front : (n : ℕ) (a b : List ℕ) → length a ≤ n → take n (a ++ b) ≡ a ++ take (n - length a) b
take-front n a b few = take-append n a b ∙ ap (λ t. t ++ take (n - length a) b) (take_all n a few)

-- two bodies of one length before two rests
pub same_front : (a b x y : List ℕ) → length a ≡ length b → a ++ x ≡ b ++ y → (a ≡ b) × (x ≡ y)
same_front [] [] x y l e = (refl, e)
same_front [] (b ∷ bs) x y l e = absurd (omega arith)
same_front (a ∷ xs) [] x y l e = absurd (omega arith)
same_front (a ∷ xs) (b ∷ ys) x y l e =
    let heads : a ≡ b = cc in
    let rest : xs ++ x ≡ ys ++ y = cc in
    let r = same_front xs ys x y (omega arith) rest in
    ((λ i. heads i ∷ r.0 i), r.1)

pub all_bytes-more : (served : List Item) (item : Item) → all_bytes (served ++ item ∷ []) ≡ all_bytes served ++ item_bytes item
all_bytes-more [] item = nil_right (item_bytes item)
all_bytes-more (x ∷ served) item = ap (λ r. item_bytes x ++ r) (all_bytes-more served item) ∙ sym (append_assoc (item_bytes x) (all_bytes served) (item_bytes item))

pub concat-more : (rs : List (List ℕ)) (r : List ℕ) → concat (rs ++ r ∷ []) ≡ concat rs ++ r
concat-more [] r = nil_right r
concat-more (x ∷ rs) r = ap (λ t. x ++ t) (concat-more rs r) ∙ sym (append_assoc x (concat rs) r)

item_first : (item : Item) (rest : List ℕ) → item_bytes item ++ rest ≡ item.line ++ 10 ∷ (item.body ++ rest)
item_first item rest = append_assoc item.line (10 ∷ item.body) rest

module _ {Command : Type 0} (lang : Language Command) where
  pub AllGoOn-more : (served : List Item) (item : Item) → items.AllGoOn lang served → items.GoesOnAt lang item → items.AllGoOn lang (served ++ item ∷ [])
  AllGoOn-more [] item h on = (on, tt)
  AllGoOn-more (x ∷ served) item h on = (h.0, AllGoOn-more served item h.1 on)

  pub part_of_short : (part : List ℕ) → items.IsCutShort lang part → items.IsPart lang part
  part_of_short part short = elim short.where_it_ends [ inl begun ↦ inr (short.command, begun) | inr line ↦ inl line.no_lf ]

  -- where a line is one command
  module _ (one : items.OneSpelled lang) where
    once : (a b : Command) (line : List ℕ) → lang.Spells a line → lang.Spells b line → lang.takes a ≡ lang.takes b
    once a b line p q = sym (ap lang.takes (one a b line p q))

    -- what begins with an item is not less than one
    item_no_part : (item : Item) (command : Command) (rest part : List ℕ) → items.IsItem lang item command → item_bytes item ++ rest ≡ part → items.IsPart lang part → ⊥
    item_no_part item command rest part i e (inl no_lf) = HasNo-split 10 item.line (item.body ++ rest) (subst (λ t. HasNo 10 t) (sym e ∙ item_first item rest) no_lf)
    item_no_part item command rest part i e (inr (command', begun)) =
        let cut = same_cut 10 item.line begun.line (item.body ++ rest) begun.body i.no_lf begun.no_lf (sym (item_first item rest) ∙ e ∙ begun.is) in
        let same = once command command' (without_cr item.line) i.spelled (subst (λ l. lang.Spells command' (without_cr l)) (sym cut.0) begun.spelled) in
        let size = i.size in
        let missing = begun.missing in
        let long = length-append item.body rest in
        let all : length (item.body ++ rest) ≡ length begun.body = ap length cut.1 in
        absurd (omega arith)

    same_item : (item item' : Item) (command command' : Command) (rest rest' : List ℕ) → items.IsItem lang item command → items.IsItem lang item' command'
        → item_bytes item ++ rest ≡ item_bytes item' ++ rest' → (item ≡ item') × (rest ≡ rest')
    same_item item item' command command' rest rest' i j e =
        let cut = same_cut 10 item.line item'.line (item.body ++ rest) (item'.body ++ rest') i.no_lf j.no_lf (sym (item_first item rest) ∙ e ∙ item_first item' rest') in
        let same = once command command' (without_cr item.line) i.spelled (subst (λ l. lang.Spells command' (without_cr l)) (sym cut.0) j.spelled) in
        let front = same_front item.body item'.body rest rest' (i.size ∙ same ∙ sym j.size) cut.1 in
        ((λ k. record { line = cut.0 k; body = front.0 k }), front.1)

    pub one_cut : items.OneCut lang
    one_cut [] [] part part' a b p q e = (refl, e)
    one_cut [] (item ∷ rest) part part' a b p q e =
        let i = b.0 in
        absurd (item_no_part item i.command (all_bytes rest ++ part') part i.item_is (sym (append_assoc (item_bytes item) (all_bytes rest) part') ∙ sym e) p)
    one_cut (item ∷ rest) [] part part' a b p q e =
        let i = a.0 in
        absurd (item_no_part item i.command (all_bytes rest ++ part) part' i.item_is (sym (append_assoc (item_bytes item) (all_bytes rest) part) ∙ e) q)
    one_cut (item ∷ rest) (item' ∷ rest') part part' a b p q e =
        let i = a.0 in
        let j = b.0 in
        let first = same_item item item' i.command j.command (all_bytes rest ++ part) (all_bytes rest' ++ part') i.item_is j.item_is
        (sym (append_assoc (item_bytes item) (all_bytes rest) part) ∙ e ∙ append_assoc (item_bytes item') (all_bytes rest') part') in
        let r = one_cut rest rest' part part' a.1 b.1 p q first.1 in
        ((λ k. first.0 k ∷ r.0 k), r.1)

    -- a text that is items and a last line doesn't end inside a command
    pub whole_not_inside : (served : List Item) (last : List ℕ) (command : Command) (text : List ℕ) → items.AllGoOn lang served → items.IsItem lang (last_item last) command
        → text ≡ all_bytes served ++ last → items.EndsInside lang text → ⊥
    whole_not_inside served last command text on is cuts inside =
        let once_cut = one_cut served inside.items last inside.part on inside.on (inl is.no_lf) (part_of_short inside.part inside.short) (sym cuts ∙ inside.cuts) in
        let short : items.IsCutShort lang last = subst (λ p. items.IsCutShort lang p) (sym once_cut.1) inside.short in
        elim short.where_it_ends [
          | inl begun ↦ HasNo-split 10 begun.line begun.body (subst (λ t. HasNo 10 t) begun.is is.no_lf)
          | inr line ↦
              let same = once short.command command (without_cr last) line.spelled is.spelled in
              let size = is.size in
              let some = line.takes_some in
              absurd (omega arith)
        ]

    -- one item is no command on which the session goes on and one that ends the run
    not_both : (item x : Item) → item ≡ x → items.EndsAt lang item → items.GoesOnAt lang x → ⊥
    not_both item x same ends goes =
        let spelled = subst (λ (i : Item). lang.Spells goes.command (without_cr i.line)) (sym same) goes.item_is.spelled in
        let command : goes.command ≡ ends.command = one ends.command goes.command (without_cr item.line) ends.item_is.spelled spelled in
        let clash : true ≡ false = sym ends.ends ∙ ap lang.ends_run (sym command) ∙ goes.on in
        cc

    -- what says that the run ends is not cut into items on which it goes on and less than one
    pub ends_only : (before others : List Item) (item : Item) (rest part : List ℕ) → items.AllGoOn lang before → items.EndsAt lang item → items.AllGoOn lang others → items.IsPart lang part
        → all_bytes before ++ (item_bytes item ++ rest) ≡ all_bytes others ++ part → ⊥
    ends_only [] [] item rest part a ends b p e = item_no_part item ends.command rest part ends.item_is e p
    ends_only [] (x ∷ xs) item rest part a ends b p e =
        let i = b.0 in
        let same = same_item item x ends.command i.command rest (all_bytes xs ++ part) ends.item_is i.item_is (e ∙ append_assoc (item_bytes x) (all_bytes xs) part) in
        not_both item x same.0 ends i
    ends_only (x ∷ xs) [] item rest part a ends b p e =
        let i = a.0 in
        item_no_part x i.command (all_bytes xs ++ (item_bytes item ++ rest)) part i.item_is (sym (append_assoc (item_bytes x) (all_bytes xs) (item_bytes item ++ rest)) ∙ e) p
    ends_only (x ∷ xs) (y ∷ ys) item rest part a ends b p e =
        let i = a.0 in
        let j = b.0 in
        let first = same_item x y i.command j.command (all_bytes xs ++ (item_bytes item ++ rest)) (all_bytes ys ++ part) i.item_is j.item_is
        (sym (append_assoc (item_bytes x) (all_bytes xs) (item_bytes item ++ rest)) ∙ e ∙ append_assoc (item_bytes y) (all_bytes ys) part) in
        ends_only xs ys item rest part a.1 ends b.1 p first.1

    -- an input that says that the run ends doesn't end inside a command
    pub said_not_inside : (text : List ℕ) → items.SaysEnd lang text → items.EndsInside lang text → ⊥
    said_not_inside text said inside =
        ends_only said.items inside.items said.item said.rest inside.part said.on said.ends inside.on (part_of_short inside.part inside.short) (sym said.cuts ∙ inside.cuts)

    -- and what says so says it with more bytes after it
    pub said_more : (text more : List ℕ) → items.SaysEnd lang text → items.SaysEnd lang (text ++ more)
    said_more text more said = record {
      items = said.items;
      on = said.on;
      item = said.item;
      ends = said.ends;
      rest = said.rest ++ more;
      cuts =
          ap (λ t. t ++ more) said.cuts
          ∙ append_assoc (all_bytes said.items) (item_bytes said.item ++ said.rest) more
          ∙ ap (λ t. all_bytes said.items ++ t) (append_assoc (item_bytes said.item) said.rest more);
    }
