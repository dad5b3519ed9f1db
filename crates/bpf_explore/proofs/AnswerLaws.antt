-- Answers, of which one more is put in its place.
use Rattle.std.proofs.Common.{◌≡◌, ◌∙◌, ℕ, zero, suc, ◌+◌, ◌-◌, ◌<◌, ◌≤◌, Bool, List, [], ◌∷◌, Some, inl, inr, length, get_or, take, drop}
use Rattle.std.proofs.Common.{refl, sym, ap, subst, arith}
use Rattle.std.specs.Prelude.{slice_get, insert}
use Rattle.std.specs.declared.cmp.Ordering.{Ordering}
use Rattle.std.specs.declared.cmp.Ordering.TheVariants.{Less, Equal, Greater}
use Rattle.std.specs.Ordering.{nat_cmp}
use Rattle.std.specs.Ordering.{ordering_reverse}
use Rattle.std.specs.Cmp.Lexicographic.{slice_cmp, nat_list_cmp_total}
use Rattle.std.proofs.lemmas.Bool.{cases_lt}
use Rattle.std.proofs.lemmas.List.{length-take}
use Rattle.std.specs.FinMap.{nat_cmp-IsAntisymmetric, slice_cmp-IsAntisymmetric}
use Rattle.std.proofs.lemmas.Option.{slice_get_read, slice_get_within}
use Rattle.bpf_base.proofs.Lists.{slice_get-append, slice_get-front, slice_get-take, slice_get-drop}
use Rattle.bpf_names.specs.Names.{Names}
use Rattle.bpf_machine.specs.Machine.{MachineState}
use Rattle.bpf_machine.specs.Schedule.{World}
use Rattle.bpf_explore.specs.Outcomes.{Found, EndsBy}
use Rattle.bpf_explore.specs.Private.Answers.{AreSorted, AllEnd, IsFirst, KeepsAll, IsPlaceOf, IsAnsweredAt, Gathered}

abbrev text_cmp : List ℕ → List ℕ → Ordering
text_cmp = slice_cmp nat_cmp

pub less_less : (x y z : List ℕ) → slice_cmp nat_cmp x y ≡ Less → slice_cmp nat_cmp y z ≡ Less → slice_cmp nat_cmp x z ≡ Less
less_less x y z a b = nat_list_cmp_total.trans x y z a b

pub turned_round : (x y : List ℕ) → slice_cmp nat_cmp x y ≡ Greater → slice_cmp nat_cmp y x ≡ Less
turned_round x y e = nat_list_cmp_total.antisymm y x ∙ ap ordering_reverse e

-- ---- where an element of the longer list comes from
module _ (xs : List Found) (i : ℕ) (x : Found) (within : i ≤ length xs) where
  front_length : length (take i xs) ≡ i
  front_length = let e = length-take i xs in omega arith

  pub data Origin (k : ℕ) (y : Found) : Type 0 where
    Before : k < i → slice_get xs k ≡ Some y → Origin k y
    Here : k ≡ i → x ≡ y → Origin k y
    Behind : (j : ℕ) → k ≡ suc j → i ≤ j → slice_get xs j ≡ Some y → Origin k y

  pub at_behind : (j : ℕ) → i ≤ j → slice_get (insert xs i x) (suc j) ≡ slice_get xs j
  at_behind j above =
      let n = front_length in
      slice_get-append (take i xs) (x ∷ drop i xs) (suc (j - i)) (suc j) (omega arith)
      ∙ slice_get-drop i xs (j - i) j (omega arith)

  pub at_before : (k : ℕ) → k < i → slice_get (insert xs i x) k ≡ slice_get xs k
  at_before k less =
      let n = front_length in
      slice_get-front (take i xs) (x ∷ drop i xs) k (omega arith) ∙ slice_get-take i xs k less

  pub at_here : slice_get (insert xs i x) i ≡ Some x
  at_here = let n = front_length in slice_get-append (take i xs) (x ∷ drop i xs) 0 i (omega arith)

  origin_behind : (k : ℕ) (y : Found) → i < k → slice_get (insert xs i x) k ≡ Some y → Origin k y
  origin_behind zero y above at = absurd (omega arith)
  origin_behind (suc j) y above at = Behind j refl (omega arith) (sym (at_behind j (omega arith)) ∙ at)

  pub origin : (k : ℕ) (y : Found) → slice_get (insert xs i x) k ≡ Some y → Origin k y
  origin k y at = elim (cases_lt k i) [
    | inl less ↦ Before less (sym (at_before k less) ∙ at)
    | inr past ↦ elim (cases_lt i k) [
      | inl above ↦ origin_behind k y above at
      | inr here ↦
          let e : k ≡ i = omega arith in
          let two : Some x ≡ Some y = sym at_here ∙ (ap (slice_get (insert xs i x)) (sym e) ∙ at) in
          Here e cc
    ]
  ]

  pub kept_all : KeepsAll xs (insert xs i x)
  kept_all k y at = elim (cases_lt k i) [
    | inl less ↦ (k, at_before k less ∙ at)
    | inr past ↦ (suc k, at_behind k (omega arith) ∙ at)
  ]

  pub all_end : (w : World) (names : Names) (maps : Bool) → EndsBy w names maps x → AllEnd w names maps xs → AllEnd w names maps (insert xs i x)
  all_end w names maps one all k y at = elim (origin k y at) [
    | Before less there ↦ all k y there
    | Here e same ↦ subst (EndsBy w names maps) same one
    | Behind j e above there ↦ all j y there
  ]

  pub sorted_still : AreSorted xs → IsPlaceOf xs x.text i → AreSorted (insert xs i x)
  sorted_still sorted place p q found later less a b = elim (origin p found a) [
    | Before pl pa ↦ elim (origin q later b) [
      | Before ql qa ↦ sorted p q found later less pa qa
      | Here qe qs ↦ subst (λ (y : Found). slice_cmp nat_cmp found.text y.text ≡ Less) qs (place.before p found pl pa)
      | Behind j qe above qa ↦ sorted p j found later (omega arith) pa qa
    ]
    | Here pe ps ↦ elim (origin q later b) [
      | Before ql qa ↦ absurd (omega arith)
      | Here qe qs ↦ absurd (omega arith)
      | Behind j qe above qa ↦ subst (λ (y : Found). slice_cmp nat_cmp y.text later.text ≡ Less) ps (place.behind j later above qa)
    ]
    | Behind k pe pabove pa ↦ elim (origin q later b) [
      | Before ql qa ↦ absurd (omega arith)
      | Here qe qs ↦ absurd (omega arith)
      | Behind j qe above qa ↦ sorted k j found later (omega arith) pa qa
    ]
  ]

-- ---- where more answers are
pub answered_still : (kept : List MachineState) (names : Names) (maps : Bool) (old new : List Found) (i : ℕ) → KeepsAll old new →
    IsAnsweredAt kept names maps old i → IsAnsweredAt kept names maps new i
answered_still kept names maps old new i keeps told m at ended =
    let a = told m at ended in
    let there = keeps a.0 a.1 a.2 in
    (there.0, a.1, there.1, a.3)

pub none_lost : (answers : List Found) → KeepsAll answers answers
none_lost answers i found at = (i, at)

pub more_kept : (old mid new : List Found) → KeepsAll old mid → KeepsAll mid new → KeepsAll old new
more_kept old mid new a b i found at = let there = a i found at in b there.0 found there.1

-- after an answer that is greater than a text all are
pub behind_all : (answers : List Found) (text : List ℕ) (i : ℕ) (here : Found) → AreSorted answers → slice_get answers i ≡ Some here →
    slice_cmp nat_cmp text here.text ≡ Less
    → (k : ℕ) (found : Found) → i ≤ k → slice_get answers k ≡ Some found → slice_cmp nat_cmp text found.text ≡ Less
behind_all answers text i here sorted at less k found above there = elim (cases_lt i k) [
  | inl past ↦ less_less text here.text found.text less (sorted i k here found past at there)
  | inr same ↦
      let e : i ≡ k = omega arith in
      let two : Some here ≡ Some found = sym at ∙ (ap (slice_get answers) e ∙ there) in
      let one : here ≡ found = cc in
      subst (λ (y : Found). slice_cmp nat_cmp text y.text ≡ Less) one less
]

-- ---- where a text is to be
module _ (answers : List Found) (i : ℕ) (x : Found) (text : List ℕ) (inside : i < length answers) (here : x ≡ get_or answers i x) where
  at_place : slice_get answers i ≡ Some x
  at_place = slice_get_read answers (length answers) i x refl inside here

  pub is_found : Equal ≡ slice_cmp nat_cmp x.text text → (found : Found) × (slice_get answers i ≡ Some found) × (found.text ≡ text)
  is_found e = (x, at_place, slice_cmp-IsAntisymmetric nat_cmp-IsAntisymmetric x.text text (sym e))

  pub place_before : AreSorted answers → ((k : ℕ) (found : Found) → k < i → slice_get answers k ≡ Some found → slice_cmp nat_cmp found.text
      text ≡ Less) → Greater ≡ slice_cmp nat_cmp x.text text → IsPlaceOf answers text i
  place_before sorted far e = record {
    within = omega arith;
    before = far;
    behind = behind_all answers text i x sorted at_place (turned_round x.text text (sym e));
  }

  pub next_less : ((k : ℕ) (found : Found) → k < i → slice_get answers k ≡ Some found → slice_cmp nat_cmp found.text text ≡ Less) → Less ≡
      slice_cmp nat_cmp x.text text
      → (k : ℕ) (found : Found) → k < i + 1 → slice_get answers k ≡ Some found → slice_cmp nat_cmp found.text text ≡ Less
  next_less far e k found less at = elim (cases_lt k i) [
    | inl below ↦ far k found below at
    | inr past ↦
        let same : i ≡ k = omega arith in
        let two : Some x ≡ Some found = sym at_place ∙ (ap (slice_get answers) same ∙ at) in
        let one : x ≡ found = cc in
        subst (λ (y : Found). slice_cmp nat_cmp y.text text ≡ Less) one (sym e)
  ]

pub place_behind : (answers : List Found) (text : List ℕ) (i : ℕ) → length answers ≤ i →
    ((k : ℕ) (found : Found) → k < i → slice_get answers k ≡ Some found → slice_cmp nat_cmp found.text text ≡ Less) → IsPlaceOf answers text
    (length answers)
place_behind answers text i past far = record {
  within = omega arith;
  before = λ k found less at. far k found (omega arith) at;
  behind = λ k found above at. (let inside = slice_get_within answers k found at in absurd (omega arith));
}

-- ---- what is gathered of the kept machines below a number
pub none_gathered : (kept : List MachineState) (names : Names) (maps : Bool) → Gathered kept names maps 0 []
none_gathered kept names maps = record {
  sorted = λ i j found later less at there. cc;
  ends = λ w first i found at. cc;
  answered = λ i less. absurd (omega arith);
}

pub more_gathered : (kept : List MachineState) (names : Names) (maps : Bool) (place : ℕ) (old new : List Found) → Gathered kept names maps
    place old → AreSorted new → KeepsAll old new
    → ((w : World) → IsFirst kept w → AllEnd w names maps new) → IsAnsweredAt kept names maps new place → Gathered kept names maps (place + 1) new
more_gathered kept names maps place old new far sorted keeps ends here = record {
  sorted = sorted;
  ends = ends;
  answered = λ i less. elim (cases_lt i place) [
    | inl below ↦ answered_still kept names maps old new i keeps (far.answered i below)
    | inr past ↦ let e : place ≡ i = omega arith in subst (λ (k : ℕ). IsAnsweredAt kept names maps new k) e here
  ];
}

pub all_gathered : (kept : List MachineState) (names : Names) (maps : Bool) (place : ℕ) (answers : List Found) → length kept ≤ place →
    Gathered kept names maps place answers → (i : ℕ) → IsAnsweredAt kept names maps answers i
all_gathered kept names maps place answers past far i m at ended =
    let inside = slice_get_within kept i m at in
    far.answered i (omega arith) m at ended
