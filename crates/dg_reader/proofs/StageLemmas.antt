-- What is expected where tokens may go on in several ways.
use Rattle.std.proofs.Common.{◌≡◌, ℕ, false, List, [], None, refl, sym, ap, ◌∙◌}
use Rattle.std.specs.Prelude.{codes}
use Rattle.meaning_texts.specs.Tests.{is_string_text}
use Rattle.meaning_graph.specs.Tokens.{Token, word, string, semicolon, comma, opening, closing, BeginsWith}
use Rattle.meaning_graph.specs.Going.{any_string, Stage, between, kind, supers, super_ids, parts, ending, strings, used_ids, extras, Expected, expect, start, expected_after, step_at}
use Rattle.dg_reader.specs.Walks.{IsNotAt, HasNone, StopsAt, here, behind, CarriesStops}
use Rattle.dg_reader.specs.Reads.{HasNoExtra}
use Rattle.dg_reader.proofs.WalkLemmas.{other_word}

-- ---- the same is expected

-- Where the first token has the same meaning at two stages, they stop at the same places.
pub same_stops : (l m : Stage) (text place : List ℕ) → ((t : Token) (left : List ℕ) → BeginsWith text t left → step_at l t ≡ step_at m t) → (expect [] l ≡ start → ⊥) → StopsAt (expect [] m) text place → StopsAt (expect [] l) text place
same_stops l m text place same n s = go (expect [] m) text place s refl same
  where
    go : (e : Expected) (text place : List ℕ) → StopsAt e text place → e ≡ expect [] m → ((t : Token) (left : List ℕ) → BeginsWith text t left → step_at l t ≡ step_at m t) → StopsAt (expect [] l) text place
    go e text place (here e2 text2 none ends) is same = here (expect [] l) text2 (λ t left b. same t left b ∙ sym (ap (λ (x : Expected). expected_after x.must x.stage t) is) ∙ none t left b) (λ _ h. n h)
    go e text place (behind e2 f text2 t rest place2 k s more) is same = behind (expect [] l) f text2 t rest place2 k (same t k.left k.begins ∙ sym (ap (λ (x : Expected). expected_after x.must x.stage t) is) ∙ s) more

not_start : (l : Stage) → (l ≡ between → ⊥) → expect [] l ≡ start → ⊥
not_start l n e = n (ap (λ (x : Expected). x.stage) e)

-- ---- after a kind

-- without `is`, only the end of the declaration is expected after a kind
pub supers_ending : (text : List ℕ) → IsNotAt (word (codes "is")) text → CarriesStops (expect [] supers) text (expect [] ending) text
supers_ending text none place s = same_stops supers ending text place same (not_start supers (λ e. cc)) s
  where
    same : (t : Token) (left : List ℕ) → BeginsWith text t left → step_at supers t ≡ step_at ending t
    same (word w) left b = rw (other_word w (codes "is") text left none b) refl
    same (string s) left b = refl
    same semicolon left b = refl
    same comma left b = refl
    same opening left b = refl
    same closing left b = refl

-- where no comma follows, a stage whose other tokens have the meaning of another leads there
behind_ids : (l m : Stage) (text : List ℕ) → (l ≡ between → ⊥) → ((w : List ℕ) → step_at l (word w) ≡ step_at m (word w)) → ((s : List ℕ) → step_at l (string s) ≡ step_at m (string s))
    → step_at l semicolon ≡ step_at m semicolon → step_at l opening ≡ step_at m opening → step_at l closing ≡ step_at m closing → IsNotAt comma text → CarriesStops (expect [] l) text (expect [] m) text
behind_ids l m text n words texts ends opens closes none place s = same_stops l m text place same (not_start l n) s
  where
    same : (t : Token) (left : List ℕ) → BeginsWith text t left → step_at l t ≡ step_at m t
    same (word w) left b = words w
    same (string s) left b = texts s
    same semicolon left b = ends
    same comma left b = absurd (none left b)
    same opening left b = opens
    same closing left b = closes

-- and after supertypes
pub super_ids_ending : (text : List ℕ) → IsNotAt comma text → CarriesStops (expect [] super_ids) text (expect [] ending) text
super_ids_ending text none = behind_ids super_ids ending text (λ e. cc) (λ w. refl) (λ s. refl) refl refl refl none

-- ---- the options of a tool

pub strings_extras : (text : List ℕ) → HasNone any_string text → IsNotAt (word (codes "uses")) text → CarriesStops (expect [] strings) text (expect [] extras) text
strings_extras text none no_uses place s = same_stops strings extras text place same (not_start strings (λ e. cc)) s
  where
    same : (t : Token) (left : List ℕ) → BeginsWith text t left → step_at strings t ≡ step_at extras t
    same (word w) left b = rw (other_word w (codes "uses") text left no_uses b) refl
    same (string s) left b = let e : is_string_text s ≡ false = none (string s) left b in rw e refl
    same semicolon left b = refl
    same comma left b = refl
    same opening left b = refl
    same closing left b = refl

pub used_ids_extras : (text : List ℕ) → IsNotAt comma text → CarriesStops (expect [] used_ids) text (expect [] extras) text
used_ids_extras text none = behind_ids used_ids extras text (λ e. cc) (λ w. refl) (λ s. refl) refl refl refl none

pub extras_ending : (text : List ℕ) → HasNoExtra text → IsNotAt (word (codes "closure")) text → CarriesStops (expect [] extras) text (expect [] ending) text
extras_ending text none no_closure place s = same_stops extras ending text place same (not_start extras (λ e. cc)) s
  where
    same : (t : Token) (left : List ℕ) → BeginsWith text t left → step_at extras t ≡ step_at ending t
    same (word w) left b = rw (other_word w (codes "also") text left none.also b, other_word w (codes "with") text left none.with b, other_word w (codes "closure") text left no_closure b) refl
    same (string s) left b = refl
    same semicolon left b = refl
    same comma left b = refl
    same opening left b = refl
    same closing left b = refl

-- ---- where nothing goes on

pub stops_ending : (text : List ℕ) → IsNotAt semicolon text → StopsAt (expect [] ending) text text
stops_ending text none = here (expect [] ending) text stops (λ _. not_start ending (λ e. cc))
  where
    stops : (t : Token) (left : List ℕ) → BeginsWith text t left → step_at ending t ≡ None
    stops (word w) left b = refl
    stops (string s) left b = refl
    stops semicolon left b = absurd (none left b)
    stops comma left b = refl
    stops opening left b = refl
    stops closing left b = refl

pub stops_parts : (text : List ℕ) → IsNotAt comma text → IsNotAt closing text → StopsAt (expect [] parts) text text
stops_parts text no_comma no_closing = here (expect [] parts) text stops (λ _. not_start parts (λ e. cc))
  where
    stops : (t : Token) (left : List ℕ) → BeginsWith text t left → step_at parts t ≡ None
    stops (word w) left b = refl
    stops (string s) left b = refl
    stops semicolon left b = refl
    stops comma left b = absurd (no_comma left b)
    stops opening left b = refl
    stops closing left b = absurd (no_closing left b)

pub stops_kind : (text : List ℕ) → IsNotAt (word (codes "simple")) text → IsNotAt (word (codes "list")) text → IsNotAt (word (codes "compound")) text → StopsAt (expect [] kind) text text
stops_kind text no_simple no_list no_compound = here (expect [] kind) text stops (λ _. not_start kind (λ e. cc))
  where
    stops : (t : Token) (left : List ℕ) → BeginsWith text t left → step_at kind t ≡ None
    stops (word w) left b = rw (other_word w (codes "simple") text left no_simple b, other_word w (codes "list") text left no_list b, other_word w (codes "compound") text left no_compound b) refl
    stops (string s) left b = refl
    stops semicolon left b = refl
    stops comma left b = refl
    stops opening left b = refl
    stops closing left b = refl

-- No declaration begins here.
pub record HasNoDecl (text : List ℕ) : Type 0 where
  pub types : IsNotAt (word (codes "type")) text
  pub suffixes : IsNotAt (word (codes "suffix")) text
  pub params : IsNotAt (word (codes "param")) text
  pub tools : IsNotAt (word (codes "tool")) text
  pub reads : IsNotAt (word (codes "read")) text
  pub eaches : IsNotAt (word (codes "each")) text
  pub packs : IsNotAt (word (codes "pack")) text

pub stops_between : (text : List ℕ) → (text ≡ [] → ⊥) → HasNoDecl text → StopsAt start text text
stops_between text some none = here start text stops (λ e _. some e)
  where
    stops : (t : Token) (left : List ℕ) → BeginsWith text t left → step_at between t ≡ None
    stops (word w) left b = rw (other_word w (codes "type") text left none.types b, other_word w (codes "suffix") text left none.suffixes b, other_word w (codes "param") text left none.params b, other_word w (codes "tool") text left none.tools b, other_word w (codes "read") text left none.reads b, other_word w (codes "each") text left none.eaches b, other_word w (codes "pack") text left none.packs b) refl
    stops (string s) left b = refl
    stops semicolon left b = refl
    stops comma left b = refl
    stops opening left b = refl
    stops closing left b = refl
