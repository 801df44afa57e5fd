-- The tests of classes decide the classes.
use Rattle.std.proofs.Common.{◌≡◌, ℕ, Bool, true, List, length}
use Rattle.std.specs.Prelude.{nat_le}
use Rattle.std.specs.List.{list_all}
use Rattle.std.specs.Bool.{Decides}
use Rattle.std.proofs.lemmas.Bool.{and_parts, and_from, ltb-true, lt-ltb, leb-true, le-leb}
use Rattle.std.proofs.lemmas.List.Sums.{AllPass-from_list_all, list_all-from_AllPass}
use Rattle.meaning_texts.specs.Classes.{IsWordOf, IsId, IsParamValue, is_value_byte, is_string_byte, IsStringText}
use Rattle.meaning_texts.specs.Limits.{word_limit}
use Rattle.object_values.specs.declared.nodes.ParamValue.{ParamValue}
use Rattle.meaning_texts.specs.Expressions.{IsParamOfClass}
use Rattle.meaning_texts.specs.Tests.{is_word_of, is_id, is_param_value, is_param_of_class, is_string_text}

word_from_test : (class : ℕ → Bool) (text : List ℕ) → is_word_of class text ≡ true → IsWordOf class text
word_from_test class text e =
    let p = and_parts _ _ e in
    let q = and_parts _ _ p.0 in
    record { some = ltb-true _ _ q.0; short = leb-true _ _ q.1; each = AllPass-from_list_all class text p.1 }

test_from_word : (class : ℕ → Bool) (text : List ℕ) → IsWordOf class text → is_word_of class text ≡ true
test_from_word class text w = and_from _ _ (and_from _ _ (lt-ltb _ _ w.some) (le-leb _ _ w.short)) (list_all-from_AllPass class text w.each)

pub word_decides : (class : ℕ → Bool) (text : List ℕ) → Decides (is_word_of class text) (IsWordOf class text)
word_decides class text = (word_from_test class text, test_from_word class text)

id_from_test : (text : List ℕ) → is_id text ≡ true → IsId text
id_from_test text e = let p = and_parts _ _ e in record { key = word_from_test _ text p.0; letter = p.1 }

test_from_id : (text : List ℕ) → IsId text → is_id text ≡ true
test_from_id text i = and_from _ _ (test_from_word _ text i.key) i.letter

pub id_decides : (text : List ℕ) → Decides (is_id text) (IsId text)
id_decides text = (id_from_test text, test_from_id text)

pub value_decides : (text : List ℕ) → Decides (is_param_value text) (IsParamValue text)
value_decides text = (AllPass-from_list_all is_value_byte text, list_all-from_AllPass is_value_byte text)

-- the class of a parameter's name and value
pub param_decides : (p : ParamValue) → Decides (is_param_of_class p) (IsParamOfClass p)
param_decides p = (
  λ e. let h = and_parts (is_id p.param) (is_param_value p.value) e in record { name = id_from_test p.param h.0; value = (value_decides p.value).0 h.1 },
  λ c. and_from (is_id p.param) (is_param_value p.value) (test_from_id p.param c.name) ((value_decides p.value).1 c.value),
)

pub string_decides : (text : List ℕ) → Decides (is_string_text text) (IsStringText text)
string_decides text = (
  λ e. let p = and_parts (nat_le (length text) word_limit) (list_all is_string_byte text) e in record { short = leb-true _ _ p.0; each = AllPass-from_list_all is_string_byte text p.1 },
  λ s. and_from _ _ (le-leb _ _ s.short) (list_all-from_AllPass is_string_byte text s.each),
)
