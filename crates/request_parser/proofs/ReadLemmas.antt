-- How items are read, and where a reading of them halts.
use Rattle.std.proofs.Common.{◌≡◌, ℕ, ◌+◌, ◌<◌, ◌⊎◌, Bool, true, false, List, [], ◌∷◌, ◌++◌, length, Some, refl, sym, ap, subst, ◌∙◌, inl, inr, arith, append_assoc, append-nil, length-append}
use Rattle.std.specs.Prelude.{nat_eq}
use Rattle.std.specs.List.{list_all}
use Rattle.std.proofs.lemmas.Bool.{both_ways, eq-eqb}
use Rattle.std.proofs.lemmas.List.Sums.{list_all-from_AllPass}
use Rattle.object_values.specs.declared.nodes.ParamValue.{ParamValue}
use Rattle.object_values.specs.declared.expressions.ExprStep.{ExprStep}
use Rattle.object_values.specs.declared.expressions.ExprStep.TheVariants.{To, Pick}
use Rattle.meaning_texts.specs.Classes.{is_key_byte, is_value_byte, IsId, IsKey, IsParamValue}
use Rattle.meaning_texts.specs.Expressions.{Items, no_more, space, param_value, param_alone, type_step, pick_step}
use Rattle.request_parser.specs.declared.bytes.Wanted.{Wanted}
use Rattle.request_parser.specs.declared.bytes.Wanted.TheVariants as wanted
use Rattle.request_parser.specs.declared.items.Item.TheVariants.{Param, Step}
use Rattle.request_parser.specs.Runs.{has, word_class_of, IsWantedWord, next, IsPast, TakesWord, HaltsInWord}
use Rattle.request_parser.specs.Reads.{HaltsAt, AreItems, AreItemsBehind, HasValue, TakesValue, ReadsItem}
use Rattle.request_parser.proofs.RunLemmas.{past_alike, next_behind, SameRun, same_run}

-- ---- halts

-- bytes in front: where one kind of text after them makes the other, a halt of the one is a halt of the other
pub halts_behind : (whole part : List ℕ → Type 0) (front rest place : List ℕ) → ((t : List ℕ) → part t → whole (front ++ t)) → ((t : List ℕ) → next t ≡ next rest → whole (front ++ t) → part t) → HaltsAt part rest place → HaltsAt whole (front ++ rest) place
halts_behind whole part front rest place up down h = record {
  done = front ++ h.done;
  more = h.more;
  is = ap (λ t. front ++ t) h.is ∙ sym (append_assoc front h.done place);
  goes = rw (append_assoc front h.done h.more) (up (h.done ++ h.more) h.goes);
  stops = λ behind n w.
      let w2 : whole (front ++ (h.done ++ behind)) = rw append_assoc at w in
      let n2 : next (h.done ++ behind) ≡ next rest = next_behind h.done behind place n ∙ ap next (sym h.is) in
      h.stops behind n (down (h.done ++ behind) n2 w2);
}

-- where nothing can come, not even the end
pub halts_here : (is_text : List ℕ → Type 0) (text more : List ℕ) → is_text more → ((t : List ℕ) → next t ≡ next text → is_text t → ⊥) → HaltsAt is_text text text
halts_here is_text text more goes never = record { done = []; more = more; is = refl; goes = goes; stops = never }

-- the text begins with a word of the class, taken at its longest
pub record BeginsWithWord (w : Wanted) (text : List ℕ) : Type 0 where
  pub word : List ℕ
  pub rest : List ℕ
  pub is : text ≡ word ++ rest
  pub of : IsWantedWord w word
  pub past : IsPast (has (word_class_of w)) rest

pub halts_in_word : (is_text : List ℕ → Type 0) (w : Wanted) (text place : List ℕ) → ((word : List ℕ) → IsWantedWord w word → is_text word) → ((t : List ℕ) → is_text t → BeginsWithWord w t) → HaltsInWord w text place → HaltsAt is_text text place
halts_in_word is_text w text place up down h = record {
  done = h.done;
  more = h.more;
  is = h.is;
  goes = up (h.done ++ h.more) h.goes;
  stops = λ behind n t. let b : BeginsWithWord w (h.done ++ behind) = down (h.done ++ behind) t in h.stops behind b.word b.rest n b.is b.of b.past;
}

-- ---- what items begin with

heads : (b c : ℕ) (x y : List ℕ) → b ∷ x ≡ c ∷ y → b ≡ c
heads b c x y e = cc

tails : (b c : ℕ) (x y : List ℕ) → b ∷ x ≡ c ∷ y → x ≡ y
tails b c x y e = cc

-- two bytes that differ begin no equal texts
differ : (b c : ℕ) (x y : List ℕ) → nat_eq b c ≡ false → b ∷ x ≡ c ∷ y → ⊥
differ b c x y d e = both_ways (nat_eq b c) d (eq-eqb b c (heads b c x y e))

-- a class without the marks has no byte that items begin with
pub items_past : (test : ℕ → Bool) → test 32 ≡ false → test 43 ≡ false → test 58 ≡ false → test 37 ≡ false → (text : List ℕ) (ps : List ParamValue) (ss : List ExprStep) → Items text ps ss → IsPast test text
items_past test s p c k text ps ss no_more = tt
items_past test s p c k text ps ss (space rest qs ts i) = s
items_past test s p c k text ps ss (param_value id of rest qs ts n v i) = p
items_past test s p c k text ps ss (param_alone id rest qs ts n i) = p
items_past test s p c k text ps ss (type_step id rest qs ts n i) = c
items_past test s p c k text ps ss (pick_step key rest qs ts n i) = k

pub items_past_key : (text : List ℕ) → AreItems text → IsPast is_key_byte text
items_past_key text a = items_past is_key_byte refl refl refl refl text a.0 a.1 a.2

pub items_past_value : (text : List ℕ) → AreItems text → IsPast is_value_byte text
items_past_value text a = items_past is_value_byte refl refl refl refl text a.0 a.1 a.2

-- a word and items after it
pub record IsWordThenItems (w : Wanted) (text : List ℕ) : Type 0 where
  pub word : List ℕ
  pub rest : List ℕ
  pub is : text ≡ word ++ rest
  pub of : IsWantedWord w word
  pub items : AreItems rest

pub behind_space : (text : List ℕ) (ps : List ParamValue) (ss : List ExprStep) (u : List ℕ) → Items text ps ss → text ≡ 32 ∷ u → AreItems u
behind_space text ps ss u no_more e = let n : ⊥ = cc in absurd n
behind_space text ps ss u (space rest qs ts i) e = (qs, ts, subst (λ t. Items t qs ts) (tails 32 32 rest u e) i)
behind_space text ps ss u (param_value id of rest qs ts n v i) e = absurd (differ 43 32 _ _ refl e)
behind_space text ps ss u (param_alone id rest qs ts n i) e = absurd (differ 43 32 _ _ refl e)
behind_space text ps ss u (type_step id rest qs ts n i) e = absurd (differ 58 32 _ _ refl e)
behind_space text ps ss u (pick_step key rest qs ts n i) e = absurd (differ 37 32 _ _ refl e)

pub behind_type : (text : List ℕ) (ps : List ParamValue) (ss : List ExprStep) (u : List ℕ) → Items text ps ss → text ≡ 58 ∷ u → IsWordThenItems wanted.Id u
behind_type text ps ss u no_more e = let n : ⊥ = cc in absurd n
behind_type text ps ss u (space rest qs ts i) e = absurd (differ 32 58 _ _ refl e)
behind_type text ps ss u (param_value id of rest qs ts n v i) e = absurd (differ 43 58 _ _ refl e)
behind_type text ps ss u (param_alone id rest qs ts n i) e = absurd (differ 43 58 _ _ refl e)
behind_type text ps ss u (type_step id rest qs ts n i) e = record { word = id; rest = rest; is = sym (tails 58 58 (id ++ rest) u e); of = n; items = (qs, ts, i) }
behind_type text ps ss u (pick_step key rest qs ts n i) e = absurd (differ 37 58 _ _ refl e)

pub behind_pick : (text : List ℕ) (ps : List ParamValue) (ss : List ExprStep) (u : List ℕ) → Items text ps ss → text ≡ 37 ∷ u → IsWordThenItems wanted.Key u
behind_pick text ps ss u no_more e = let n : ⊥ = cc in absurd n
behind_pick text ps ss u (space rest qs ts i) e = absurd (differ 32 37 _ _ refl e)
behind_pick text ps ss u (param_value id of rest qs ts n v i) e = absurd (differ 43 37 _ _ refl e)
behind_pick text ps ss u (param_alone id rest qs ts n i) e = absurd (differ 43 37 _ _ refl e)
behind_pick text ps ss u (type_step id rest qs ts n i) e = absurd (differ 58 37 _ _ refl e)
behind_pick text ps ss u (pick_step key rest qs ts n i) e = record { word = key; rest = rest; is = sym (tails 37 37 (key ++ rest) u e); of = n; items = (qs, ts, i) }

-- a name, `=`, a value and items after them
pub record IsValueThenItems (text : List ℕ) : Type 0 where
  pub id : List ℕ
  pub value : List ℕ
  pub rest : List ℕ
  pub is : text ≡ id ++ 61 ∷ (value ++ rest)
  pub name : IsId id
  pub of : IsParamValue value
  pub items : AreItems rest

pub behind_plus : (text : List ℕ) (ps : List ParamValue) (ss : List ExprStep) (u : List ℕ) → Items text ps ss → text ≡ 43 ∷ u → IsValueThenItems u ⊎ IsWordThenItems wanted.Id u
behind_plus text ps ss u no_more e = let n : ⊥ = cc in absurd n
behind_plus text ps ss u (space rest qs ts i) e = absurd (differ 32 43 _ _ refl e)
behind_plus text ps ss u (param_value id of rest qs ts n v i) e = inl (record { id = id; value = of; rest = rest; is = sym (tails 43 43 (id ++ 61 ∷ (of ++ rest)) u e); name = n; of = v; items = (qs, ts, i) })
behind_plus text ps ss u (param_alone id rest qs ts n i) e = inr (record { word = id; rest = rest; is = sym (tails 43 43 (id ++ rest) u e); of = n; items = (qs, ts, i) })
behind_plus text ps ss u (type_step id rest qs ts n i) e = absurd (differ 58 43 _ _ refl e)
behind_plus text ps ss u (pick_step key rest qs ts n i) e = absurd (differ 37 43 _ _ refl e)

-- no items begin with another byte
pub no_items : (text : List ℕ) (ps : List ParamValue) (ss : List ExprStep) (b : ℕ) → Items text ps ss → next text ≡ Some b → (b ≡ 32 → ⊥) → (b ≡ 43 → ⊥) → (b ≡ 58 → ⊥) → (b ≡ 37 → ⊥) → ⊥
no_items text ps ss b no_more e s p c k = cc
no_items text ps ss b (space rest qs ts i) e s p c k = let h : 32 ≡ b = cc in s (sym h)
no_items text ps ss b (param_value id of rest qs ts n v i) e s p c k = let h : 43 ≡ b = cc in p (sym h)
no_items text ps ss b (param_alone id rest qs ts n i) e s p c k = let h : 43 ≡ b = cc in p (sym h)
no_items text ps ss b (type_step id rest qs ts n i) e s p c k = let h : 58 ≡ b = cc in c (sym h)
no_items text ps ss b (pick_step key rest qs ts n i) e s p c k = let h : 37 ≡ b = cc in k (sym h)

-- ---- words after a mark

key_run : (word : List ℕ) → IsKey word → list_all is_key_byte word ≡ true
key_run word k = list_all-from_AllPass is_key_byte word k.each

value_run : (value : List ℕ) → IsParamValue value → list_all is_value_byte value ≡ true
value_run value v = list_all-from_AllPass is_value_byte value v

-- a word of key bytes and what it is followed by are one
same_word : (a b x y : List ℕ) → IsKey a → IsKey b → IsPast is_key_byte x → IsPast is_key_byte y → a ++ x ≡ b ++ y → SameRun a b x y
same_word a b x y p q f g e = same_run is_key_byte a b x y (key_run a p) (key_run b q) f g e

shorter_by : (mark : ℕ) (word rest : List ℕ) → length rest < length (mark ∷ (word ++ rest))
shorter_by mark word rest = let l : length (word ++ rest) ≡ length word + length rest = length-append word rest in omega arith

-- `:ID`
pub reads_type : (id text rest : List ℕ) → TakesWord wanted.Id id text rest → ReadsItem (Step (To id)) (58 ∷ text) rest
reads_type id text rest t = rw t.is (record {
  reads = λ ps ss i. type_step id rest ps ss t.of i;
  halts = λ place h. halts_behind AreItems AreItems (58 ∷ id) rest place
      (λ u a. (a.0, To id ∷ a.1, type_step id u a.0 a.1 t.of a.2))
      (λ u n a.
      let w : IsWordThenItems wanted.Id (id ++ u) = behind_type (58 ∷ (id ++ u)) a.0 a.1 (id ++ u) a.2 refl in
      let past : IsPast is_key_byte u = past_alike is_key_byte u rest n t.past in
      let of : IsId w.word = w.of in
      let name : IsId id = t.of in
      let s : SameRun id w.word u w.rest = same_word id w.word u w.rest name.key of.key past (items_past_key w.rest w.items) w.is in
      subst AreItems (sym s.rest) w.items)
      h;
  shorter = shorter_by 58 id rest;
})

-- `%KEY`
pub reads_pick : (key text rest : List ℕ) → TakesWord wanted.Key key text rest → ReadsItem (Step (Pick key)) (37 ∷ text) rest
reads_pick key text rest t = rw t.is (record {
  reads = λ ps ss i. pick_step key rest ps ss t.of i;
  halts = λ place h. halts_behind AreItems AreItems (37 ∷ key) rest place
      (λ u a. (a.0, Pick key ∷ a.1, pick_step key u a.0 a.1 t.of a.2))
      (λ u n a.
      let w : IsWordThenItems wanted.Key (key ++ u) = behind_pick (37 ∷ (key ++ u)) a.0 a.1 (key ++ u) a.2 refl in
      let past : IsPast is_key_byte u = past_alike is_key_byte u rest n t.past in
      let s : SameRun key w.word u w.rest = same_word key w.word u w.rest t.of w.of past (items_past_key w.rest w.items) w.is in
      subst AreItems (sym s.rest) w.items)
      h;
  shorter = shorter_by 37 key rest;
})

-- where a word after a mark halts
pub halts_type : (text place : List ℕ) → HaltsInWord wanted.Id text place → HaltsAt (AreItemsBehind 58) text place
halts_type text place h = halts_in_word (AreItemsBehind 58) wanted.Id text place
    (λ word i. ([], To word ∷ [], subst (λ t. Items (58 ∷ t) [] (To word ∷ [])) (append-nil word) (type_step word [] [] [] i no_more)))
    (λ t a. let w : IsWordThenItems wanted.Id t = behind_type (58 ∷ t) a.0 a.1 t a.2 refl in record { word = w.word; rest = w.rest; is = w.is; of = w.of; past = items_past_key w.rest w.items })
    h

pub halts_pick : (text place : List ℕ) → HaltsInWord wanted.Key text place → HaltsAt (AreItemsBehind 37) text place
halts_pick text place h = halts_in_word (AreItemsBehind 37) wanted.Key text place
    (λ word i. ([], Pick word ∷ [], subst (λ t. Items (37 ∷ t) [] (Pick word ∷ [])) (append-nil word) (pick_step word [] [] [] i no_more)))
    (λ t a. let w : IsWordThenItems wanted.Key t = behind_pick (37 ∷ t) a.0 a.1 t a.2 refl in record { word = w.word; rest = w.rest; is = w.is; of = w.of; past = items_past_key w.rest w.items })
    h

-- ---- parameters

-- `+ID=VALUE`
reads_value : (id value text mid rest : List ℕ) → TakesWord wanted.Id id text mid → HasValue value mid rest → ReadsItem (Param (record { param = id; value = value })) (43 ∷ text) rest
reads_value id value text mid rest t v =
    let name : IsId id = t.of in
    let joined : (u : List ℕ) → (id ++ 61 ∷ value) ++ u ≡ id ++ 61 ∷ (value ++ u) = λ u. append_assoc id (61 ∷ value) u in
    let whole : text ≡ (id ++ 61 ∷ value) ++ rest = t.is ∙ ap (λ m. id ++ m) v.0 ∙ sym (joined rest) in
    let p : ParamValue = record { param = id; value = value } in
    rw whole (record {
      reads = λ ps ss i. subst (λ u. Items (43 ∷ u) (p ∷ ps) ss) (sym (joined rest)) (param_value id value rest ps ss name v.1 i);
      halts = λ place h. halts_behind AreItems AreItems (43 ∷ (id ++ 61 ∷ value)) rest place
          (λ u a. (p ∷ a.0, a.1, subst (λ x. Items (43 ∷ x) (p ∷ a.0) a.1) (sym (joined u)) (param_value id value u a.0 a.1 name v.1 a.2)))
          (λ u n a. value_down id value u name v.1 (past_alike is_value_byte u rest n v.2) (subst (AreItemsBehind 43) (joined u) a))
          h;
      shorter = shorter_by 43 (id ++ 61 ∷ value) rest;
    })
  where
    value_down : (id value u : List ℕ) → IsId id → IsParamValue value → IsPast is_value_byte u → AreItemsBehind 43 (id ++ 61 ∷ (value ++ u)) → AreItems u
    value_down id value u name of past a = elim (behind_plus (43 ∷ (id ++ 61 ∷ (value ++ u))) a.0 a.1 (id ++ 61 ∷ (value ++ u)) a.2 refl) [
      | inl w ↦
          let other : IsId w.id = w.name in
          let s : SameRun id w.id (61 ∷ (value ++ u)) (61 ∷ (w.value ++ w.rest)) = same_word id w.id (61 ∷ (value ++ u)) (61 ∷ (w.value ++ w.rest)) name.key other.key refl refl w.is in
          let r : SameRun value w.value u w.rest = same_run is_value_byte value w.value u w.rest (value_run value of) (value_run w.value w.of) past (items_past_value w.rest w.items) (tails 61 61 (value ++ u) (w.value ++ w.rest) s.rest) in
          subst AreItems (sym r.rest) w.items
      | inr w ↦
          let other : IsId w.word = w.of in
          let s : SameRun id w.word (61 ∷ (value ++ u)) w.rest = same_word id w.word (61 ∷ (value ++ u)) w.rest name.key other.key refl (items_past_key w.rest w.items) w.is in
          let wrong : IsPast is_value_byte (61 ∷ (value ++ u)) = subst (IsPast is_value_byte) (sym s.rest) (items_past_value w.rest w.items) in
          absurd (both_ways (is_value_byte 61) wrong refl)
    ]

-- `+ID`
reads_alone : (id text rest : List ℕ) → TakesWord wanted.Id id text rest → (next rest ≡ Some 61 → ⊥) → ReadsItem (Param (record { param = id; value = [] })) (43 ∷ text) rest
reads_alone id text rest t none =
    let name : IsId id = t.of in
    let p : ParamValue = record { param = id; value = [] } in
    rw t.is (record {
      reads = λ ps ss i. param_alone id rest ps ss name i;
      halts = λ place h. halts_behind AreItems AreItems (43 ∷ id) rest place
          (λ u a. (p ∷ a.0, a.1, param_alone id u a.0 a.1 name a.2))
          (λ u n a. alone_down id u name (past_alike is_key_byte u rest n t.past) (λ e. none (sym n ∙ e)) a)
          h;
      shorter = shorter_by 43 id rest;
    })
  where
    alone_down : (id u : List ℕ) → IsId id → IsPast is_key_byte u → (next u ≡ Some 61 → ⊥) → AreItemsBehind 43 (id ++ u) → AreItems u
    alone_down id u name past none a = elim (behind_plus (43 ∷ (id ++ u)) a.0 a.1 (id ++ u) a.2 refl) [
      | inl w ↦
          let other : IsId w.id = w.name in
          let s : SameRun id w.id u (61 ∷ (w.value ++ w.rest)) = same_word id w.id u (61 ∷ (w.value ++ w.rest)) name.key other.key past refl w.is in
          absurd (none (ap next s.rest))
      | inr w ↦
          let other : IsId w.word = w.of in
          let s : SameRun id w.word u w.rest = same_word id w.word u w.rest name.key other.key past (items_past_key w.rest w.items) w.is in
          subst AreItems (sym s.rest) w.items
    ]

pub reads_param : (id value text mid rest : List ℕ) → TakesWord wanted.Id id text mid → TakesValue value mid rest → ReadsItem (Param (record { param = id; value = value })) (43 ∷ text) rest
reads_param id value text mid rest t v = elim v [
  | inl h ↦ reads_value id value text mid rest t h
  | inr h ↦ rw h.0 (reads_alone id text rest (rw h.1 at t) h.2)
]

pub halts_param : (text place : List ℕ) → HaltsInWord wanted.Id text place → HaltsAt (AreItemsBehind 43) text place
halts_param text place h = halts_in_word (AreItemsBehind 43) wanted.Id text place
    (λ word i. (record { param = word; value = [] } ∷ [], [], subst (λ t. Items (43 ∷ t) (record { param = word; value = [] } ∷ []) []) (append-nil word) (param_alone word [] [] [] i no_more)))
    (λ t a. elim (behind_plus (43 ∷ t) a.0 a.1 t a.2 refl) [
      | inl w ↦ record { word = w.id; rest = 61 ∷ (w.value ++ w.rest); is = w.is; of = w.name; past = refl }
      | inr w ↦ record { word = w.word; rest = w.rest; is = w.is; of = w.of; past = items_past_key w.rest w.items }
    ])
    h

-- ---- one item

-- a halt after a mark is one before it
pub halts_mark : (mark : ℕ) (text place : List ℕ) → HaltsAt (AreItemsBehind mark) text place → HaltsAt AreItems (mark ∷ text) place
halts_mark mark text place h = record { done = mark ∷ h.done; more = h.more; is = ap (λ t. mark ∷ t) h.is; goes = h.goes; stops = h.stops }

-- no item begins here, and no space stands here
pub no_item : (text : List ℕ) → (text ≡ [] → ⊥) → (next text ≡ Some 32 → ⊥) → (next text ≡ Some 43 → ⊥) → (next text ≡ Some 58 → ⊥) → (next text ≡ Some 37 → ⊥) → HaltsAt AreItems text text
no_item [] some s p c k = absurd (some refl)
no_item (b ∷ text) some s p c k = halts_here AreItems (b ∷ text) [] ([], [], no_more)
    (λ t n a. no_items t a.0 a.1 b a.2 n (λ e. s (ap (λ x. Some x) e)) (λ e. p (ap (λ x. Some x) e)) (λ e. c (ap (λ x. Some x) e)) (λ e. k (ap (λ x. Some x) e)))
