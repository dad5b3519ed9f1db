-- Ends that came about by an exchange of two CPUs.
use Rattle.std.proofs.Common.{◌≡◌, ◌∙◌, ℕ, zero, suc, ◌+◌, ◌-◌, ◌<◌, ◌≤◌, List, [], ◌∷◌, ◌++◌, inl, inr, length, map, take, drop, replicate}
use Rattle.std.proofs.Common.{refl, sym, ap, subst, append-nil, arith}
use Rattle.std.specs.Prelude.{slice_index_or, slice_set}
use Rattle.std.proofs.lemmas.Bool.{cases_lt}
use Rattle.std.proofs.lemmas.List.{map-append, length-take-le, take-append-drop, take_all, drop_all}
use Rattle.std.proofs.lemmas.List.Edits.{map_over_more}
use Rattle.std.proofs.lemmas.Option.{slice_get_read, get_or_from_slice_get}
use Rattle.bpf_machine.specs.Machine.{MachineState}
use Rattle.bpf_machine.specs.Schedule.{World, unrolled}
use Rattle.bpf_equal.specs.Permutations.{exchanged}
use Rattle.bpf_explore.specs.declared.explorer.Origin.{Origin}
use Rattle.bpf_explore.specs.declared.spread.Swap.{Swap}
use Rattle.bpf_explore.specs.Album.{AreLedThrough, LeadsThrough}
use Rattle.bpf_explore.specs.Private.Spread.{AreRuns, AreSpread, IsSwap, exchanged_by, no_swap, swap_at}
use Rattle.bpf_explore.specs.Private.Trail.{AreOrigins}
use Rattle.bpf_explore.proofs.TrailLaws.{leads_still, are_led}

-- ---- a schedule in which two CPUs change places
abbrev pub swapped_run : ℕ → ℕ → ℕ × ℕ → ℕ × ℕ
swapped_run one other run = (exchanged one other run.0, run.1)

get_or_other : (xs : List (ℕ × ℕ)) (i : ℕ) (d e : ℕ × ℕ) → i < length xs → slice_index_or xs i d ≡ slice_index_or xs i e
get_or_other [] i d e inside = absurd (omega arith)
get_or_other (x ∷ xs) zero d e inside = refl
get_or_other (x ∷ xs) (suc i) d e inside = get_or_other xs i d e (omega arith)

replicate_swapped : (one other n c : ℕ) → replicate n (exchanged one other c) ≡ map (exchanged one other) (replicate n c)
replicate_swapped one other zero c = refl
replicate_swapped one other (suc n) c = ap (λ (cs : List ℕ). exchanged one other c ∷ cs) (replicate_swapped one other n c)

pub unrolled_swapped : (one other : ℕ) (by : List (ℕ × ℕ)) → unrolled (map (swapped_run one other) by) ≡ map (exchanged one other) (unrolled by)
unrolled_swapped one other [] = refl
unrolled_swapped one other (run ∷ by) =
    ap (λ (cs : List ℕ). cs ++ unrolled (map (swapped_run one other) by)) (replicate_swapped one other run.1 run.0)
    ∙ ap (λ (cs : List ℕ). map (exchanged one other) (replicate run.1 run.0) ++ cs) (unrolled_swapped one other by)
    ∙ sym (map-append (exchanged one other) (replicate run.1 run.0) (unrolled by))

-- each run in its turn
pub one_swapped : (one other : ℕ) (xs ys : List (ℕ × ℕ)) (i cpu : ℕ) → i < length xs → length ys ≡ length xs
    → ys ≡ map (swapped_run one other) (take i xs) ++ drop i xs → cpu ≡ exchanged one other (slice_index_or ys i (0, 0)).0
    → slice_set ys i (cpu, (slice_index_or ys i (0, 0)).1) ≡ map (swapped_run one other) (take (i + 1) xs) ++ drop (i + 1) xs
one_swapped one other xs ys i cpu inside many far is =
    let x = slice_index_or ys i (0, 0) in
    let read : x ≡ slice_index_or ys i x = get_or_other ys i (0, 0) x (omega arith) in
    ap (λ (c : ℕ). slice_set ys i (c, x.1)) is ∙ map_over_more (swapped_run one other) xs ys i x inside far read

pub all_swapped : (one other : ℕ) (xs ys : List (ℕ × ℕ)) (i : ℕ) → length xs ≤ i → ys ≡ map (swapped_run one other) (take i xs) ++ drop i xs
    → unrolled ys ≡ map (exchanged one other) (unrolled xs)
all_swapped one other xs ys i past far =
    let all : ys ≡ map (swapped_run one other) xs = far ∙ (ap (λ (rs : List (ℕ × ℕ)). map (swapped_run one other) (take i xs) ++ rs)
    (drop_all i xs past) ∙ (append-nil (map (swapped_run one other) (take i xs)) ∙ ap (map (swapped_run one other)) (take_all i xs past))) in
    ap unrolled all ∙ unrolled_swapped one other xs

pub exchanged_more : (swaps : List Swap) (swap : Swap) (schedule : List ℕ) → exchanged_by (swaps ++ swap ∷ []) schedule ≡ exchanged_by swaps
    (map (exchanged swap.one swap.other) schedule)
exchanged_more [] swap schedule = refl
exchanged_more (first ∷ swaps) swap schedule = ap (map (exchanged first.one first.other)) (exchanged_more swaps swap schedule)

-- ---- exchanges
pub none_left : (swaps : List Swap) → length swaps ≡ 0 → swaps ≡ []
none_left [] none = refl
none_left (swap ∷ swaps) none = absurd (omega arith)

pub read_swap : (swaps : List Swap) (k state first : ℕ) (swap : Swap) → k < length swaps → swap ≡ slice_index_or swaps k swap → k ≡ state - first
    → swap_at swaps (state - first) ≡ swap
read_swap swaps k state first swap inside read place =
    ap (swap_at swaps) (sym place) ∙ get_or_from_slice_get swaps k swap no_swap (slice_get_read swaps (length swaps) k swap refl inside read)

-- ---- what came about by turns alone
pub none_swapped : (runs : World → List ℕ → World → Type 0) (kept : List MachineState) (origins : List Origin) (swaps : List Swap) → swaps ≡
    [] → AreOrigins runs kept origins
    → AreSpread runs kept origins swaps
none_swapped runs kept origins swaps none are =
    let count = are.count in
    let size : length swaps ≡ 0 = ap (λ (ss : List Swap). length ss) none in
    record {
      turns = subst (λ (ms : List MachineState). AreOrigins runs ms origins)
          (sym (take_all (length origins) kept (omega arith))) are;
      count = omega arith;
      each = λ s less. absurd (omega arith);
    }

module _ (runs : World → List ℕ → World → Type 0) (law : AreRuns runs) (kept : List MachineState) (origins : List Origin)
    (swaps : List Swap) (are : AreSpread runs kept origins swaps) where
  abbrev pub First : List MachineState
  First = take (length origins) kept

  pub as_many : length First ≡ length origins
  as_many = let count = are.count in length-take-le (length origins) kept (omega arith)

  -- what leads there among the first leads there among all
  pub leads_among_all : (i : ℕ) (schedule : List ℕ) → i < length origins → LeadsThrough runs First 0 schedule i → LeadsThrough runs kept 0 schedule i
  leads_among_all i schedule inside leads =
      let many = as_many in
      subst (λ (ms : List MachineState). LeadsThrough runs ms 0 schedule i) (take-append-drop (length origins) kept)
      (leads_still runs law.join First (drop (length origins) kept) 0 i schedule (omega arith) leads)

  pub swap_is : (state : ℕ) (swap : Swap) → length origins ≤ state → state < length kept → swap_at swaps (state - length origins) ≡ swap
      → IsSwap runs kept state swap
  swap_is state swap past inside at =
      let count = are.count in
      let place : length origins + (state - length origins) ≡ state = omega arith in
      subst (λ (i : ℕ). IsSwap runs kept i swap) place
      (subst (IsSwap runs kept (length origins + (state - length origins))) at (are.each (state - length origins) (omega arith)))

  -- ---- a schedule to each
  led_within : (n i : ℕ) → i < n → i < length kept → (schedule : List ℕ) × LeadsThrough runs kept 0 schedule i
  led_within zero i less inside = absurd (omega arith)
  led_within (suc n) i less inside = elim (cases_lt i (length origins)) [
    | inl below ↦
        let many = as_many in
        let r = are_led runs law.join First origins are.turns i (omega arith) in
        (r.0, leads_among_all i r.0 below r.1)
    | inr past ↦
        let swap = swap_at swaps (i - length origins) in
        let is = swap_is i swap past inside refl in
        let before = is.before in
        let far = led_within n swap.«from» (omega arith) (omega arith) in
        (map (exchanged swap.one swap.other) far.0, is.leads far.0 far.1)
  ]

  pub all_led : AreLedThrough runs kept
  all_led i inside = led_within (suc i) i (omega arith) inside

  -- ---- the way back over exchanges
  abbrev pub WayOn : ℕ → List Swap → ℕ → Type 0
  WayOn state noted place = (schedule : List ℕ) → LeadsThrough runs kept 0 schedule state → LeadsThrough runs kept 0 (exchanged_by noted schedule) place

  pub one_swap_back : (state place : ℕ) (swap : Swap) (noted new : List Swap) → length origins ≤ state → state < length kept
      → swap_at swaps (state - length origins) ≡ swap → WayOn state noted place → new ≡ noted ++ swap ∷ []
      → (swap.«from» < length kept) × WayOn swap.«from» new place
  one_swap_back state place swap noted new past inside at way more =
      let is = swap_is state swap past inside at in
      let before = is.before in (
        omega arith,
        λ schedule leads.
            let all : exchanged_by new schedule ≡ exchanged_by noted (map (exchanged swap.one swap.other) schedule) = ap
            (λ (ss : List Swap). exchanged_by ss schedule) more ∙ exchanged_more noted swap schedule in
            subst (λ (cs : List ℕ). LeadsThrough runs kept 0 cs place) (sym all) (way (map (exchanged swap.one swap.other) schedule) (is.leads schedule leads)),
      )

-- one exchange is made in the schedule
pub one_swap_made : (runs : World → List ℕ → World → Type 0) (kept : List MachineState) (place : ℕ) (swap : Swap) (noted rest : List Swap)
    (by new : List (ℕ × ℕ))
    → noted ≡ rest ++ swap ∷ [] → unrolled new ≡ map (exchanged swap.one swap.other) (unrolled by)
    → LeadsThrough runs kept 0 (exchanged_by noted (unrolled by)) place → LeadsThrough runs kept 0 (exchanged_by rest (unrolled new)) place
one_swap_made runs kept place swap noted rest by new is made leads =
    let all : exchanged_by noted (unrolled by) ≡ exchanged_by rest (unrolled new) = ap (λ (ss : List Swap). exchanged_by ss (unrolled by)) is
    ∙ (exchanged_more rest swap (unrolled by) ∙ ap (exchanged_by rest) (sym made)) in
    subst (λ (cs : List ℕ). LeadsThrough runs kept 0 cs place) all leads
