-- What is taken over from needs, one need after the other.
use Rattle.std.proofs.Common.{◌≡◌, ◌<◌, ◌+◌, ℕ, zero, suc, true, false, Bool, ◌&&◌, List, [], ◌∷◌, ◌++◌, flat_map, sym, ap, ◌∙◌, subst, refl, length, take, get_or, cond, nat_le, max, arith, append_assoc}
use Rattle.std.specs.Prelude.{Option, option_map}
use Rattle.std.proofs.lemmas.Bool.Decides.{nat_tests}
use Rattle.std.proofs.lemmas.Grind.{flat_map-append}
use Rattle.std.proofs.lemmas.List.{append-nil, take_more}
use Rattle.std.proofs.lemmas.List.Folds.{list_all-append}
use Rattle.object_values.specs.declared.messages.Status.{Status}
use Rattle.object_values.specs.declared.messages.Status.TheVariants.{Ok, Warning, Error, Abort}
use Rattle.object_values.specs.declared.messages.Message.{Message}
use Rattle.object_values.specs.declared.nodes.Node.{Node}
use Rattle.object_values.specs.declared.views.View.{View}
use Rattle.meaning_tasks.specs.Values.{rank, worst, inherit}
use Rattle.meaning_tasks.specs.Needs.{Results, values_of, has_value, with_elements}
use Rattle.meaning_tasks.specs.Calls.{all_valued}
use Rattle.meaning_tasks.specs.Settle.{status_in, messages_in, worst_of, messages_of}
use Rattle.odin_nodes.specs.Inheriting.{Inherits}
use Rattle.task_needs.specs.declared.taken.Taken.{Taken}
use Rattle.task_needs.specs.TakingOver.{TakesOver}

-- ---- the worst of two

-- the status of a rank
of_rank : ℕ → Status
of_rank zero = Ok
of_rank (suc zero) = Warning
of_rank (suc (suc zero)) = Error
of_rank (suc (suc (suc k))) = Abort

ranked : (a : Status) → of_rank (rank a) ≡ a
unfolding of_rank
ranked Ok = refl
ranked Warning = refl
ranked Error = refl
ranked Abort = refl

rank_chosen : (t : Bool) (x y : Status) → rank (cond t x y) ≡ cond t (rank x) (rank y)
rank_chosen true x y = refl
rank_chosen false x y = refl

greater : (x y : ℕ) → cond (nat_le x y) y x ≡ max x y
greater x y = grind (arith, nat_tests)

rank_worst : (a b : Status) → rank (worst a b) ≡ max (rank a) (rank b)
rank_worst a b = rank_chosen (nat_le (rank a) (rank b)) b a ∙ greater (rank a) (rank b)

swapped : (x y z : ℕ) → max x (max y z) ≡ max y (max x z)
swapped x y z = omega arith

worst_swaps : (a b c : Status) → worst a (worst b c) ≡ worst b (worst a c)
worst_swaps a b c =
    let ranks : rank (worst a (worst b c)) ≡ rank (worst b (worst a c)) =
    rank_worst a (worst b c) ∙ ap (max (rank a)) (rank_worst b c) ∙ swapped (rank a) (rank b) (rank c) ∙ ap (max (rank b)) (sym (rank_worst a c)) ∙ sym (rank_worst b (worst a c)) in
    sym (ranked (worst a (worst b c))) ∙ ap of_rank ranks ∙ ranked (worst b (worst a c))

worst_of_moved : (seen : Results) (own status : Status) (needs : List Node) → worst_of seen (worst status own) needs ≡ worst status (worst_of seen own needs)
worst_of_moved seen own status [] = refl
worst_of_moved seen own status (n ∷ needs) = ap (worst (status_in (seen n))) (worst_of_moved seen own status needs) ∙ worst_swaps (status_in (seen n)) status (worst_of seen own needs)

worst_of-append : (seen : Results) (own : Status) (first more : List Node) → worst_of seen own (first ++ more) ≡ worst_of seen (worst_of seen own first) more
worst_of-append seen own [] more = refl
worst_of-append seen own (n ∷ first) more = ap (worst (status_in (seen n))) (worst_of-append seen own first more) ∙ sym (worst_of_moved seen (worst_of seen own first) (status_in (seen n)) more)

-- ---- whether all have values

and_true : (b : Bool) → b ≡ (b && true)
and_true true = refl
and_true false = refl

and_assoc : (a b c : Bool) → ((a && b) && c) ≡ (a && (b && c))
and_assoc true b c = refl
and_assoc false b c = refl

-- ---- needs more

pub takes_none : (seen : Results) (t : Taken) → TakesOver seen [] t t
takes_none seen t = record { valued = and_true t.valued; status = refl; messages = λ more. refl }

module _ (seen : Results) where
  pub takes_one : (n : Node) (view : Option View) (old new : Taken) → view ≡ seen n → new.valued ≡ (old.valued && has_value (option_map (λ v. v.value) view))
      → new.status ≡ worst (status_in view) old.status → Inherits old.messages (messages_in view) new.messages → TakesOver seen (n ∷ []) old new
  takes_one n view old new same valued status messages = record {
    valued = valued ∙ ap (λ (o : Option View). old.valued && has_value (option_map (λ v. v.value) o)) same ∙ ap (λ b. old.valued && b) (and_true (has_value (values_of seen n)));
    status = status ∙ ap (λ (o : Option View). worst (status_in o) old.status) same;
    messages = subst (λ (m : List Message). Inherits old.messages m new.messages) (ap messages_in same ∙ sym (append-nil (messages_in (seen n)))) messages;
  }

  pub takes_more : (first more : List Node) (old between new : Taken) → TakesOver seen first old between → TakesOver seen more between new → TakesOver seen (first ++ more) old new
  takes_more first more old between new a b = record {
    valued =
        b.valued ∙ ap (λ v. v && all_valued (values_of seen) more) a.valued
        ∙ and_assoc old.valued (all_valued (values_of seen) first) (all_valued (values_of seen) more)
        ∙ ap (λ v. old.valued && v) (sym (list_all-append (λ (n : Node). has_value (values_of seen n)) first more));
    status = b.status ∙ ap (λ s. worst_of seen s more) a.status ∙ sym (worst_of-append seen old.status first more);
    messages = λ rest.
        b.messages rest ∙ a.messages (messages_of seen more ++ rest)
        ∙ ap (inherit old.messages) (sym (append_assoc (messages_of seen first) (messages_of seen more) rest)
        ∙ ap (λ l. l ++ rest) (sym (flat_map-append (λ (n : Node). messages_in (seen n)) first more)));
  }

  module _ (nodes : List Node) (i : ℕ) (n : Node) (below : i < length nodes) (is : n ≡ get_or nodes i n) where
    one_more : take (i + 1) nodes ≡ take i nodes ++ n ∷ []
    one_more = take_more nodes i n below ∙ ap (λ m. take i nodes ++ m ∷ []) (sym is)

    pub takes_next : (old between new : Taken) → TakesOver seen (take i nodes) old between → TakesOver seen (n ∷ []) between new → TakesOver seen (take (i + 1) nodes) old new
    takes_next old between new a b = subst (λ (l : List Node). TakesOver seen l old new) (sym one_more) (takes_more (take i nodes) (n ∷ []) old between new a b)

    pub takes_next_whole : (old between new : Taken) → TakesOver seen (flat_map (with_elements (values_of seen)) (take i nodes)) old between → TakesOver seen (with_elements (values_of seen) n) between new
        → TakesOver seen (flat_map (with_elements (values_of seen)) (take (i + 1) nodes)) old new
    takes_next_whole old between new a b =
        let whole : Node → List Node = with_elements (values_of seen) in
        let more : flat_map whole (take (i + 1) nodes) ≡ flat_map whole (take i nodes) ++ whole n =
        ap (flat_map whole) one_more ∙ flat_map-append whole (take i nodes) (n ∷ []) ∙ ap (λ l. flat_map whole (take i nodes) ++ l) (append-nil (whole n)) in
        subst (λ (l : List Node). TakesOver seen l old new) (sym more) (takes_more (flat_map whole (take i nodes)) (whole n) old between new a b)
