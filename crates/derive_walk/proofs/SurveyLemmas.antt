-- What is found of nodes and one more.
use Rattle.std.proofs.Common.{◌≡◌, ℕ, ◌+◌, ◌<◌, Bool, true, false, cond, List, [], ◌∷◌, ◌++◌, inl, inr, length, get_or, take, map, flat_map, max, sym, ap, ◌∙◌, refl, subst, append_assoc, arith}
use Rattle.std.proofs.Math.Nat.{max-zero}
use Rattle.std.proofs.lemmas.List.{append-nil, map-append, take_more}
use Rattle.std.proofs.lemmas.Grind.{flat_map-append}
use Rattle.std.specs.Prelude.{Option, Some, None, IsSome, is_some, option_map}
use Rattle.object_values.specs.declared.nodes.Node.{Node}
use Rattle.meaning_texts.specs.Lists.{IsIn}
use Rattle.derive_walk.specs.declared.done.Done.{Done}
use Rattle.derive_walk.specs.declared.survey.Survey.{Survey}
use Rattle.derive_walk.specs.Tables.{Entries, Waits, done_in, height_in, height_or, heights_of, height_or_zero, top_of, are_done}
use Rattle.derive_walk.specs.Surveys.{unvisited_in, survey_of, TakesInNodes}

top_push : (heights : Node → Option ℕ) (before : List Node) (n : Node) → top_of heights (before ++ n ∷ []) ≡ max (top_of heights before) (height_or_zero (heights n))
top_push heights [] n = omega arith
top_push heights (m ∷ before) n = omega (arith, top_push heights before n)

done_push : (done : Entries) (before : List Node) (n : Node) → are_done done (before ++ n ∷ []) ≡ cond (are_done done before) (is_some (done_in done n)) false
done_push done [] n = alone (is_some (done_in done n))
  where
    alone : (b : Bool) → cond b true false ≡ b
    alone true = refl
    alone false = refl
done_push done (m ∷ before) n = ap (λ b. cond (is_some (done_in done m)) b false) (done_push done before n) ∙ behind (is_some (done_in done m)) (are_done done before) (is_some (done_in done n))
  where
    behind : (a b c : Bool) → cond a (cond b c false) false ≡ cond (cond a b false) c false
    behind true b c = refl
    behind false b c = refl

unvisited_push : (heights : Node → Option ℕ) (before : List Node) (n : Node) → unvisited_in heights (before ++ n ∷ []) ≡ unvisited_in heights before ++ unvisited_in heights (n ∷ [])
unvisited_push heights [] n = refl
unvisited_push heights (m ∷ before) n = ap (λ l. cond (is_some (heights m)) l (m ∷ l)) (unvisited_push heights before n) ∙ behind (is_some (heights m)) (unvisited_in heights before) (unvisited_in heights (n ∷ []))
  where
    behind : (b : Bool) (l more : List Node) → cond b (l ++ more) (m ∷ (l ++ more)) ≡ cond b l (m ∷ l) ++ more
    behind true l more = refl
    behind false l more = refl

module _ (done : Entries) (waits : Waits) (before : List Node) (n : Node) where
  abbrev heights : Node → Option ℕ
  heights = heights_of done waits

  -- by what is known of the node
  module _ (entry : Option Done) (height : Option ℕ) (found : done_in done n ≡ entry) (other : height_in waits n ≡ height) where
    abbrev known : Option ℕ
    known = height_or (option_map (λ d. d.height) entry) height

    abbrev unvisited_one : List Node
    unvisited_one = cond (is_some known) [] (n ∷ [])

    height_is : heights n ≡ known
    height_is = λ i. height_or (option_map (λ d. d.height) (found i)) (other i)

    pub survey_push : survey_of done waits (before ++ n ∷ []) ≡ record {
      top = max (top_of heights before) (height_or_zero known);
      done = cond (are_done done before) (is_some entry) false;
      unvisited = unvisited_in heights before ++ unvisited_one;
    }
    survey_push =
        let t = top_push heights before n ∙ ap (λ o. max (top_of heights before) (height_or_zero o)) height_is in
        let d = done_push done before n ∙ ap (λ o. cond (are_done done before) (is_some o) false) found in
        let u = unvisited_push heights before n ∙ ap (λ o. unvisited_in heights before ++ cond (is_some o) [] (n ∷ [])) height_is in
        λ i. record { top = t i; done = d i; unvisited = u i }

  -- ---- one node, by what is known of it

  cond_same : (b : Bool) → cond b true false ≡ b
  cond_same true = refl
  cond_same false = refl

  cond_false : (b : Bool) → cond b false false ≡ false
  cond_false true = refl
  cond_false false = refl

  pub add_done : (d : Done) → Some d ≡ done_in done n → (s new : Survey) → new ≡ record s { top = max s.top d.height } → s ≡ survey_of done waits before → new ≡ survey_of done waits (before ++ n ∷ [])
  add_done d found s new is same =
      is ∙ ap (λ (s : Survey). record s { top = max s.top d.height }) same
      ∙ (λ i. record { top = max (top_of heights before) d.height; done = sym (cond_same (are_done done before)) i; unvisited = sym (append-nil (unvisited_in heights before)) i })
      ∙ sym (survey_push (Some d) (height_in waits n) (sym found) refl)

  module _ (none : None ≡ done_in done n) where
    pub add_waiting : (h : ℕ) → Some h ≡ height_in waits n → (s new : Survey) → new ≡ record s { top = max s.top h; done = false } → s ≡ survey_of done waits before → new ≡ survey_of done waits (before ++ n ∷ [])
    add_waiting h found s new is same =
        is ∙ ap (λ (s : Survey). record s { top = max s.top h; done = false }) same
        ∙ (λ i. record { top = max (top_of heights before) h; done = sym (cond_false (are_done done before)) i; unvisited = sym (append-nil (unvisited_in heights before)) i })
        ∙ sym (survey_push None (Some h) (sym none) (sym found))

    pub add_unvisited : None ≡ height_in waits n → (s new : Survey) → new ≡ record s { done = false; unvisited = s.unvisited ++ n ∷ [] } → s ≡ survey_of done waits before → new ≡ survey_of done waits (before ++ n ∷ [])
    add_unvisited unseen s new is same =
        is ∙ ap (λ (s : Survey). record s { done = false; unvisited = s.unvisited ++ n ∷ [] }) same
        ∙ (λ i. record { top = sym (max-zero (top_of heights before)) i; done = sym (cond_false (are_done done before)) i; unvisited = unvisited_in heights before ++ n ∷ [] })
        ∙ sym (survey_push None None (sym none) (sym unseen))

-- ---- nodes that are taken in, one after another

module _ (done : Entries) (waits : Waits) where
  pub takes_none : (s : Survey) → TakesInNodes done waits [] s s
  takes_none s before e = e ∙ ap (survey_of done waits) (sym (append-nil before))

  pub takes_both : (xs ys : List Node) (a b c : Survey) → TakesInNodes done waits xs a b → TakesInNodes done waits ys b c → TakesInNodes done waits (xs ++ ys) a c
  takes_both xs ys a b c first more before e = more (before ++ xs) (first before e) ∙ ap (survey_of done waits) (append_assoc before xs ys)

  pub takes_as : (xs ys : List Node) → xs ≡ ys → (a b : Survey) → TakesInNodes done waits xs a b → TakesInNodes done waits ys a b
  takes_as xs ys e a b t = subst (λ l. TakesInNodes done waits l a b) e t

  takes_further : (front more all : List Node) → all ≡ front ++ more → (a b c : Survey) → TakesInNodes done waits front a b → TakesInNodes done waits more b c → TakesInNodes done waits all a c
  takes_further front more all e a b c first then = takes_as (front ++ more) all (sym e) a c (takes_both front more a b c first then)

  module _ {A : Type 0} (xs : List A) (i : ℕ) (x : A) (below : i < length xs) (is : x ≡ get_or xs i x) (a b c : Survey) where
    one_more : take (i + 1) xs ≡ take i xs ++ x ∷ []
    one_more = take_more xs i x below ∙ ap (λ y. take i xs ++ y ∷ []) (sym is)

    -- of lists, one after another
    pub takes_list : (f : A → List Node) → TakesInNodes done waits (flat_map f (take i xs)) a b → TakesInNodes done waits (f x) b c → TakesInNodes done waits (flat_map f (take (i + 1) xs)) a c
    takes_list f = takes_further (flat_map f (take i xs)) (f x) (flat_map f (take (i + 1) xs)) (ap (flat_map f) one_more ∙ flat_map-append f (take i xs) (x ∷ []) ∙ ap (λ l. flat_map f (take i xs) ++ l) (append-nil (f x))) a b c

    -- of nodes, one after another
    pub takes_node : (f : A → Node) → TakesInNodes done waits (map f (take i xs)) a b → TakesInNodes done waits (f x ∷ []) b c → TakesInNodes done waits (map f (take (i + 1) xs)) a c
    takes_node f = takes_further (map f (take i xs)) (f x ∷ []) (map f (take (i + 1) xs)) (ap (map f) one_more ∙ map-append f (take i xs) (x ∷ [])) a b c

  pub takes_one_more : (xs : List Node) (i : ℕ) (x : Node) → i < length xs → x ≡ get_or xs i x → (a b c : Survey) → TakesInNodes done waits (take i xs) a b → TakesInNodes done waits (x ∷ []) b c → TakesInNodes done waits (take (i + 1) xs) a c
  takes_one_more xs i x below is a b c = takes_further (take i xs) (x ∷ []) (take (i + 1) xs) (one_more xs i x below is a b c) a b c

-- ---- nodes that were not visited

pub is_unvisited : (heights : Node → Option ℕ) (nodes : List Node) (m : Node) → IsIn m (unvisited_in heights nodes) → IsIn m nodes × (heights m ≡ None)
is_unvisited heights [] m i = absurd i
is_unvisited heights (n ∷ nodes) m i = by (heights n) refl (is_unvisited heights nodes m) i
  where
    by : (o : Option ℕ) → heights n ≡ o → (IsIn m (unvisited_in heights nodes) → IsIn m nodes × (heights m ≡ None)) → IsIn m (cond (is_some o) (unvisited_in heights nodes) (n ∷ unvisited_in heights nodes)) → IsIn m (n ∷ nodes) × (heights m ≡ None)
    by (Some h) e more j = (inr (more j).0, (more j).1)
    by None e more (inl same) = (inl same, ap heights same ∙ e)
    by None e more (inr j) = (inr (more j).0, (more j).1)

pub none_unvisited : (heights : Node → Option ℕ) (nodes : List Node) → unvisited_in heights nodes ≡ [] → (m : Node) → IsIn m nodes → IsSome (heights m)
none_unvisited heights [] e m i = absurd i
none_unvisited heights (n ∷ nodes) e m i = by (heights n) refl (λ f. none_unvisited heights nodes f m) e i
  where
    by : (o : Option ℕ) → heights n ≡ o → (unvisited_in heights nodes ≡ [] → IsIn m nodes → IsSome (heights m)) → cond (is_some o) (unvisited_in heights nodes) (n ∷ unvisited_in heights nodes) ≡ [] → IsIn m (n ∷ nodes) → IsSome (heights m)
    by (Some h) q more f (inl same) = ap is_some (ap heights same ∙ q)
    by (Some h) q more f (inr j) = more f j
    by None q more f j = cc

-- ---- of all needs

pub begun : (done : Entries) (waits : Waits) (nodes : List Node) (new : Survey) → TakesInNodes done waits nodes (record { top = 0; done = true; unvisited = [] }) new → new ≡ survey_of done waits nodes
begun done waits nodes new takes = takes [] refl
