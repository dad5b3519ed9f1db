-- What CPUs list the keys of the maps in: what it shows, and that it stays fit.
use Rattle.std.proofs.Common.{◌≡◌, ◌≢◌, ℕ, ◌<◌, ◌≤◌, Bool, true, false, List, [], ◌∷◌, ◌++◌, ◌+◌, Some, None, take, length, inl, inr, refl}
use Rattle.std.proofs.Common.{sym, ap, subst, ◌∙◌, if◌then◌else◌, arith}
use Rattle.std.specs.Prelude.{◌⊎◌, get_or, map, slice_get, slice_index_or, slice_set, option_map}
use mathlib.Core.Path.{fun_ext}
use Rattle.std.specs.FinMap.{keys}
use Rattle.std.proofs.Math.Seq.{map-set_same}
use Rattle.std.proofs.lemmas.Bool.{cases_lt}
use Rattle.std.proofs.lemmas.List.{length-append, length-map, length-set, map-append, map-set, get_or-map, get_or-set_other, get_or_past, take_more, take_all}
use Rattle.std.proofs.lemmas.List.FromFn.{fill_by_all}
use Rattle.std.proofs.lemmas.Option.{slice_get-map, slice_get_cases, slice_get_within, slice_get-get_or, get_or_from_slice_get}
use Rattle.bpf_base.proofs.Lists.{slice_get-append, slice_get-front, slice_get-set_known, slice_get-set_same, slice_get-set_other}
use Rattle.bpf_shared.proofs.Puts.{equal_or_not, put-same, put-other}
use Rattle.bpf_shared.specs.declared.shapes.MapShape.{MapShape}
use Rattle.bpf_shared.specs.KeyOrder.{Listed}
use Rattle.bpf_shared.specs.Store.{Plain, put}
use Rattle.bpf_cpu.specs.declared.job.Job.{Job}
use Rattle.bpf_machine.specs.declared.machine.lane.Listed as job
use Rattle.bpf_machine.specs.declared.machine.listing.KeyLists.{KeyLists}
use Rattle.bpf_machine.specs.Listings.{Listing, Never, Due, Made, first_lists, keys_by_map, listed_now, listing_at}
use Rattle.bpf_machine.specs.Private.Lanes.{first_entry}
use Rattle.bpf_machine.specs.Private.KeyLists.{shown_lists, listings, AreListsOf, HasLists, AreFirst, AreAsked, FitLists}
use Rattle.bpf_machine.proofs.MadeLaws.{listed_at}

-- ---- what is shown of one CPU
shown_at : (all : List KeyLists) (c : ℕ) (l : KeyLists) → slice_get all c ≡ Some l → listing_at (listings true all) c ≡ shown_lists l
shown_at all c l at = get_or_from_slice_get (map shown_lists all) c (shown_lists l) Due (slice_get-map shown_lists all c ∙ ap (option_map shown_lists) at)

shown_past : (all : List KeyLists) (c : ℕ) → length all ≤ c → listing_at (listings true all) c ≡ Due
shown_past all c past = get_or_past (map shown_lists all) c Due (omega (arith, length-map all shown_lists))

-- ---- as made
pub all_due : (all : List KeyLists) → AreFirst all → listing_at (listings true all) ≡ first_lists true
all_due all first = fun_ext (λ c. due_at c (slice_get_cases all c).1)
  where
    due_at : (c : ℕ) → ((x : KeyLists) × (c < length all) × (slice_get all c ≡ Some x) × (get_or all c x ≡ x)) ⊎
        ((length all ≤ c) × (slice_get all c ≡ None)) → listing_at (listings true all) c ≡ Due
    due_at c (inl (l, inside, at, same)) = shown_at all c l at ∙ ap
        (λ (b : Bool). if b then Made (map (λ list. list.keys) l.maps.items) else Due) (first c l at)
    due_at c (inr (past, none)) = shown_past all c past

pub none_asked : (all : List KeyLists) → listing_at (listings false all) ≡ first_lists false
none_asked all = fun_ext (λ c. refl)

pub first_fit : (shapes : List MapShape) (jobs : List Job) (list : List job.Listed) (keys : Bool) (all : List KeyLists) → list ≡ map
    first_entry jobs → AreAsked shapes jobs keys all → FitLists shapes list keys all
first_fit shapes jobs list false all is asked = tt
first_fit shapes jobs list true all is asked = λ k x at.
    let j = listed_at jobs k x (subst (λ (xs : List job.Listed). slice_get xs k ≡ Some x) is at) in
    let own : x.cpu ≡ j.0.cpu = ap (λ (y : job.Listed). y.cpu) j.2 in
    subst (λ (c : ℕ). HasLists shapes all c) (sym own) (asked k j.0 j.1)

-- ---- a job's entry is changed
pub still_fit : (shapes after : List MapShape) (jobs : List job.Listed) (j : ℕ) (e e' : job.Listed) (keys : Bool) (all : List KeyLists) →
    after ≡ shapes → slice_get jobs j ≡ Some e → e'.cpu ≡ e.cpu
    → FitLists shapes jobs keys all → FitLists after (slice_set jobs j e') keys all
still_fit shapes after jobs j e e' false all same at own fit = tt
still_fit shapes after jobs j e e' true all same at own fit = λ k x there. elim (equal_or_not k j) [
  | inl is ↦
      let two : Some e' ≡ Some x = sym (slice_get-set_known jobs j e' e at) ∙ subst (λ (n : ℕ). slice_get (slice_set jobs j e') n ≡ Some x) is there in
      let one : e' ≡ x = cc in
      let cpu : e.cpu ≡ x.cpu = sym own ∙ ap (λ (y : job.Listed). y.cpu) one in
      subst (λ (hs : List MapShape). HasLists hs all x.cpu) (sym same) (subst (λ (c : ℕ). HasLists shapes all c) cpu (fit j e at))
  | inr ne ↦ subst (λ (hs : List MapShape). HasLists hs all x.cpu) (sym same) (fit k x (sym (slice_get-set_other jobs j k e' ne) ∙ there))
]

-- ---- a CPU lists
module _ (all : List KeyLists) (c : ℕ) (l l' : KeyLists) (at : slice_get all c ≡ Some l) (made : l'.made ≡ true) where
  module _ (s : Plain) (keys : map (λ list. list.keys) l'.maps.items ≡ keys_by_map s) where
    due : (b : Bool) → listed_now s (if b then Made (map (λ list. list.keys) l.maps.items) else Due) ≡ Made (keys_by_map s)
    due true = refl
    due false = refl

    abbrev before : ℕ → Listing
    before = listing_at (listings true all)

    abbrev after : ℕ → Listing
    after = listing_at (listings true (slice_set all c l'))

    elsewhere : (d : ℕ) → d ≢ c → after d ≡ before d
    elsewhere d ne = ap (λ (ls : List Listing). slice_index_or ls d Due) (map-set shown_lists all c l') ∙ get_or-set_other
        (map shown_lists all) c d (shown_lists l') Due ne

    here : before c ≡ shown_lists l
    here = shown_at all c l at

    now : after c ≡ Made (keys_by_map s)
    now =
        shown_at (slice_set all c l') c l' (slice_get-set_known all c l' l at)
        ∙ (ap (λ (b : Bool). if b then Made (map (λ list. list.keys) l'.maps.items) else Due) made ∙ ap Made keys)

    shown : (d : ℕ) → put before c (listed_now s (before c)) d ≡ after d
    shown d = elim (equal_or_not d c) [
      | inl is ↦ put-same before c d (listed_now s (before c)) is ∙ (ap (listed_now s) here ∙ (due l.made ∙ (sym now ∙ ap after (sym is))))
      | inr ne ↦ put-other before c d (listed_now s (before c)) ne ∙ sym (elsewhere d ne)
    ]

    pub now_listed : put (listing_at (listings true all)) c (listed_now s (listing_at (listings true all) c)) ≡ listing_at (listings true (slice_set all c l'))
    now_listed = fun_ext shown

  pub fit_listed : (shapes after : List MapShape) (jobs : List job.Listed) → after ≡ shapes → AreListsOf shapes l'.maps.items → FitLists
      shapes jobs true all → FitLists after jobs true (slice_set all c l')
  fit_listed shapes after jobs same own fit = λ k x there. elim (equal_or_not x.cpu c) [
    | inl is ↦ subst (λ (hs : List MapShape). HasLists hs (slice_set all c l') x.cpu) (sym same)
        (l', ap (λ (n : ℕ). slice_get (slice_set all c l') n) is ∙ slice_get-set_known all c l' l at, own)
    | inr ne ↦
        let h = fit k x there in
        subst (λ (hs : List MapShape). HasLists hs (slice_set all c l') x.cpu) (sym same) (h.0, slice_get-set_other all c x.cpu l' ne ∙ h.1, h.2)
  ]

never_now : (f : ℕ → Listing) (c : ℕ) (s : Plain) → f c ≡ Never → put f c (listed_now s (f c)) ≡ f
never_now f c s never = fun_ext (λ d. elim (equal_or_not d c) [
  | inl is ↦ put-same f c d (listed_now s (f c)) is ∙ (ap (listed_now s) never ∙ (sym never ∙ ap f (sym is)))
  | inr ne ↦ put-other f c d (listed_now s (f c)) ne
])

-- where no lists are asked for, none changes
pub none_listed : (c : ℕ) (s : Plain) → put (listing_at None) c (listed_now s (listing_at None c)) ≡ listing_at None
none_listed c s = never_now (listing_at None) c s refl

-- ---- one map more, as lists are made and as they are filled
pub one_more_map : (shapes : List MapShape) (lists new : List Listed) (x : Listed) (h : MapShape) → AreListsOf (take (length lists) shapes)
    lists → slice_get shapes (length lists) ≡ Some h → length lists < 16 → x.shape ≡ h
    → new ≡ lists ++ x ∷ [] → AreListsOf (take (length new) shapes) new
one_more_map shapes lists new x h are at few same is =
    let n = length lists in
    let one : length new ≡ n + 1 = omega (arith, ap (length {A = Listed}) is, length-append lists (x ∷ [])) in
    let inside : n < length shapes = slice_get_within shapes n h at in
    record {
      shapes_are =
          ap (map (λ list. list.shape)) is
          ∙ (map-append (λ list. list.shape) lists (x ∷ [])
          ∙ (ap (λ (hs : List MapShape). hs ++ x.shape ∷ []) are.shapes_are
          ∙ (ap (λ (g : MapShape). take n shapes ++ g ∷ []) (same ∙ sym (get_or_from_slice_get shapes n h h at))
          ∙ (sym (take_more shapes n h inside) ∙ ap (λ (k : ℕ). take k shapes) (sym one)))));
      few = omega arith;
    }

pub all_maps : (shapes : List MapShape) (lists : List Listed) (n : ℕ) → n ≡ length lists → slice_get shapes n ≡ None → AreListsOf
    (take (length lists) shapes) lists → AreListsOf shapes lists
all_maps shapes lists n is none are =
    let past : length shapes ≤ n = beyond (slice_get_cases shapes n).1 in
    subst (λ (hs : List MapShape). AreListsOf hs lists) (take_all (length lists) shapes (omega arith)) are
  where
    beyond : ((x : MapShape) × (n < length shapes) × (slice_get shapes n ≡ Some x) × (get_or shapes n x ≡ x)) ⊎
        ((length shapes ≤ n) × (slice_get shapes n ≡ None)) → length shapes ≤ n
    beyond (inl (x, inside, at, same)) = let no : None ≡ Some x = sym none ∙ at in absurd cc
    beyond (inr (past, same)) = past

pub list_shape : (shapes : List MapShape) (lists : List Listed) (m : ℕ) (d : Listed) → map (λ list. list.shape) lists ≡ shapes → m < length
    lists → slice_get shapes m ≡ Some (get_or lists m d).shape
list_shape shapes lists m d are inside =
    ap (λ (hs : List MapShape). slice_get hs m) (sym are)
    ∙ (slice_get-map (λ (list : Listed). list.shape) lists m ∙ ap (option_map (λ (list : Listed). list.shape)) (slice_get-get_or lists m d inside))

pub one_more_keys : (lists : List Listed) (m : ℕ) (new : Listed) (found : ℕ → List (List ℕ)) → m < length lists →
    ((k : ℕ) (x : Listed) → k < m → slice_get lists k ≡ Some x → x.keys ≡ found k) → new.keys ≡ found m
    → (k : ℕ) (x : Listed) → k < m + 1 → slice_get (slice_set lists m new) k ≡ Some x → x.keys ≡ found k
one_more_keys lists m new found inside before here k x below at = elim (equal_or_not k m) [
  | inl is ↦
      let two : Some new ≡ Some x = sym (slice_get-set_same lists m new inside) ∙ subst (λ (n : ℕ). slice_get (slice_set lists m new) n ≡ Some x) is at in
      let one : new ≡ x = cc in
      ap (λ (y : Listed). y.keys) (sym one) ∙ (here ∙ ap found (sym is))
  | inr ne ↦ before k x (omega arith) (sym (slice_get-set_other lists m k new ne) ∙ at)
]

pub same_maps : (shapes : List MapShape) (lists : List Listed) (m : ℕ) (new d : Listed) → AreListsOf shapes lists → new.shape ≡
    (get_or lists m d).shape → AreListsOf shapes (slice_set lists m new)
same_maps shapes lists m new d are same = record {
  shapes_are = map-set_same (λ (list : Listed). list.shape) lists m new d same ∙ are.shapes_are;
  few = omega (arith, length-set lists m new, are.few);
}

pub all_keys : (shapes : List MapShape) (lists : List Listed) (s : Plain) (n : ℕ) → map (λ list. list.shape) lists ≡ shapes → s.shape.maps ≡
    shapes → length lists ≤ n
    → ((k : ℕ) (x : Listed) → k < n → slice_get lists k ≡ Some x → x.keys ≡ keys (s.maps k)) → map (λ list. list.keys) lists ≡ keys_by_map s
all_keys shapes lists s n are stands past each =
    let many : length lists ≡ length s.shape.maps = sym (length-map lists (λ (list : Listed). list.shape)) ∙ (ap length are ∙ ap length (sym stands)) in
    fill_by_all (λ m. keys (s.maps m)) (map (λ list. list.keys) lists) (length s.shape.maps) [] (length-map lists (λ (list : Listed). list.keys) ∙ many)
    (λ k below. read k (omega arith) (slice_get_cases lists k).1)
  where
    read : (k : ℕ) → k < length lists → ((x : Listed) × (k < length lists) × (slice_get lists k ≡ Some x) × (get_or lists k x ≡ x)) ⊎
        ((length lists ≤ k) × (slice_get lists k ≡ None)) → get_or (map (λ list. list.keys) lists) k [] ≡ keys (s.maps k)
    read k inside (inl (x, below, at, same)) = get_or-map (λ (list : Listed). list.keys) lists k x [] inside ∙
        (ap (λ (list : Listed). list.keys) same ∙ each k x (omega arith) at)
    read k inside (inr (out, none)) = absurd (omega arith)

-- ---- one CPU more
module _ (all new : List KeyLists) (l : KeyLists) (is : new ≡ all ++ l ∷ []) where
  last_there : slice_get new (length all) ≡ Some l
  last_there = ap (λ (xs : List KeyLists). slice_get xs (length all)) is ∙ slice_get-append all (l ∷ []) 0 (length all) (omega arith)

  others_there : (c : ℕ) → c < length all → slice_get new c ≡ slice_get all c
  others_there c below = ap (λ (xs : List KeyLists). slice_get xs c) is ∙ slice_get-front all (l ∷ []) c below

  long : length new ≡ length all + 1
  long = omega (arith, ap (length {A = KeyLists}) is, length-append all (l ∷ []))

  pub one_more_first : AreFirst all → l.made ≡ false → AreFirst new
  one_more_first first none c x at =
      let within : c < length new = slice_get_within new c x at in
      elim (cases_lt c (length all)) [
        | inl below ↦ first c x (sym (others_there c below) ∙ at)
        | inr past ↦
            let here : c ≡ length all = omega (arith, long) in
            let two : Some l ≡ Some x = sym last_there ∙ subst (λ (n : ℕ). slice_get new n ≡ Some x) here at in
            let one : l ≡ x = cc in
            ap (λ (y : KeyLists). y.made) (sym one) ∙ none
      ]

  pub one_more_cpu : (shapes : List MapShape) (jobs : List Job) →
      ((j : ℕ) (x : Job) → slice_get jobs j ≡ Some x → x.cpu < length all → HasLists shapes all x.cpu)
      → ((j : ℕ) (x : Job) → slice_get jobs j ≡ Some x → x.cpu ≡ length all → AreListsOf shapes l.maps.items)
      → (j : ℕ) (x : Job) → slice_get jobs j ≡ Some x → x.cpu < length all + 1 → HasLists shapes new x.cpu
  one_more_cpu shapes jobs have own j x at below = elim (cases_lt x.cpu (length all)) [
    | inl before ↦ let h = have j x at before in (h.0, others_there x.cpu before ∙ h.1, h.2)
    | inr past ↦ let here : x.cpu ≡ length all = omega arith in (l, ap (slice_get new) here ∙ last_there, own j x at here)
  ]
