-- Lanes that are filled anew.
use Rattle.std.proofs.Common.{◌≡◌, ◌∙◌, ◌+◌, ◌<◌, ◌≤◌, ℕ, true, false, Box, Global, List, Option, None, inl, inr, length, refl, sym, subst, arith}
use Rattle.std.specs.Prelude.{All, slice_index_or, slice_set}
use Rattle.std.proofs.lemmas.Option.{slice_get_read, get_or_from_slice_get}
use Rattle.std.proofs.lemmas.Bool.{cases_lt}
use Rattle.std.proofs.lemmas.List.{length-set, get_or-set_same, get_or-set_other}
use Rattle.bpf_cpu.specs.Task.{Task}
use Rattle.bpf_machine.specs.declared.machine.lane.Lane.{Lane}
use Rattle.bpf_machine.specs.Parts.{chosen_at, no_task}
use Rattle.bpf_machine.specs.Private.Lanes.{lane_of, no_lane, room_of}
use Rattle.bpf_machine.specs.Private.Parts.{in_hand, IsLaneOf, IsFirstHand, FitsIn, CanFill, IsSpareFor, spare_of}

-- the job of a number that was read
pub read_chosen : (parts : List Task) (numbers : List ℕ) (k : ℕ) (part : Task) → k < length numbers → All (λ n. n < length parts) numbers →
    part ≡ slice_index_or parts (slice_index_or numbers k 0) part → chosen_at parts numbers k ≡ part
read_chosen parts numbers k part inside all read = get_or_from_slice_get parts (slice_index_or numbers k 0) part no_task
    (slice_get_read parts (length parts) (slice_index_or numbers k 0) part refl (all k 0 inside) read)

-- a CPU has one first job in hand
pub one_first : (parts : List Task) (numbers : List ℕ) (c j k : ℕ) → IsFirstHand parts numbers c j → IsFirstHand parts numbers c k → j ≡ k
one_first parts numbers c j k a b = elim (cases_lt j k) [
  | inl less ↦ (let no : false ≡ true = sym (b.first j less a.of) ∙ a.found in cc)
  | inr past ↦ elim (cases_lt k j) [
    | inl more ↦ (let no : false ≡ true = sym (a.first k more b.of) ∙ b.found in cc)
    | inr same ↦ omega arith
  ]
]

pub fits_first : (parts : List Task) (numbers : List ℕ) (c j : ℕ) (l : Lane) → IsFirstHand parts numbers c j → FitsIn
    (chosen_at parts numbers j).stage (room_of l) → CanFill parts numbers c l
fits_first parts numbers c j l first fits k is = subst (λ (i : ℕ). FitsIn (chosen_at parts numbers i).stage (room_of l))
    (one_first parts numbers c j k first is) fits

pub none_first : (parts : List Task) (numbers : List ℕ) (c : ℕ) (l : Lane) →
    ((k : ℕ) → k < length numbers → (chosen_at parts numbers k).cpu ≡ c → in_hand (chosen_at parts numbers k).stage ≡ false) → CanFill parts
    numbers c l
none_first parts numbers c l none j is = absurd (let no : false ≡ true = sym (none j is.within is.of) ∙ is.found in cc)

-- ---- the lanes below a number are filled, and the others can be
pub record FilledSoFar (parts : List Task) (numbers : List ℕ) (cpus cpu : ℕ) (lanes : List Lane) : Type 0 where
  pub count : length lanes ≡ cpus
  pub filled : (c : ℕ) → c < cpu → IsLaneOf parts numbers c (lane_of lanes c)
  pub rest : (c : ℕ) → cpu ≤ c → c < cpus → CanFill parts numbers c (lane_of lanes c)

pub none_filled : (parts : List Task) (numbers : List ℕ) (cpus : ℕ) (lanes : List Lane) → length lanes ≡ cpus →
    ((c : ℕ) → c < cpus → CanFill parts numbers c (lane_of lanes c)) → FilledSoFar parts numbers cpus 0 lanes
none_filled parts numbers cpus lanes count each = record { count = count; filled = λ c less. absurd (omega arith); rest = λ c past less. each c less }

pub next_filled : (parts : List Task) (numbers : List ℕ) (cpus cpu : ℕ) (lanes : List Lane) (l : Lane) → FilledSoFar parts numbers cpus cpu
    lanes → cpu < cpus → IsLaneOf parts numbers cpu l → FilledSoFar parts numbers cpus (cpu + 1) (slice_set lanes cpu l)
next_filled parts numbers cpus cpu lanes l far inside is =
    let count = far.count in
    let within : cpu < length lanes = omega arith in
    record {
      count = length-set lanes cpu l ∙ count;
      filled = λ c less. elim (cases_lt c cpu) [
        | inl below ↦ subst (IsLaneOf parts numbers c) (sym (get_or-set_other lanes cpu c l no_lane (λ e. absurd (omega arith)))) (far.filled c below)
        | inr past ↦
            let same : cpu ≡ c = omega arith in
            subst (λ (k : ℕ). IsLaneOf parts numbers k (lane_of (slice_set lanes cpu l) k)) same
            (subst (IsLaneOf parts numbers cpu) (sym (get_or-set_same lanes cpu l no_lane within)) is)
      ];
      rest = λ c past less. subst (CanFill parts numbers c) (sym (get_or-set_other lanes cpu c l no_lane (λ e. absurd (omega arith))))
          (far.rest c (omega arith) less);
    }

pub all_filled : (parts : List Task) (numbers : List ℕ) (cpus cpu : ℕ) (lanes : List Lane) → cpus ≤ cpu → FilledSoFar parts numbers cpus cpu
    lanes → (c : ℕ) → c < cpus → IsLaneOf parts numbers c (lane_of lanes c)
all_filled parts numbers cpus cpu lanes past far c less = far.filled c (omega arith)

-- ---- lanes that are made, where those that are there can't be filled
-- the lanes below a number are renewed, and the others are as their spare ones suit
pub record RenewedSoFar (parts : List Task) (numbers : List ℕ) (cpus cpu : ℕ) (lanes : List Lane) (spares : List (Option (Box Lane Global))) : Type 0 where
  pub count : length lanes ≡ cpus
  pub many : length spares ≡ cpus
  pub renewed : (c : ℕ) → c < cpu → IsLaneOf parts numbers c (lane_of lanes c)
  pub rest : (c : ℕ) → cpu ≤ c → c < cpus → IsSpareFor parts numbers c (lane_of lanes c) (spare_of spares c)

pub none_renewed : (parts : List Task) (numbers : List ℕ) (cpus : ℕ) (lanes : List Lane) (spares : List (Option (Box Lane Global))) → length lanes ≡ cpus →
    length spares ≡ cpus → ((c : ℕ) → c < cpus → IsSpareFor parts numbers c (lane_of lanes c) (spare_of spares c)) → RenewedSoFar parts numbers
    cpus 0 lanes spares
none_renewed parts numbers cpus lanes spares count many each = record {
  count = count;
  many = many;
  renewed = λ c less. absurd (omega arith);
  rest = λ c past less. each c less;
}

pub next_renewed : (parts : List Task) (numbers : List ℕ) (cpus cpu : ℕ) (lanes : List Lane) (spares : List (Option (Box Lane Global))) (l : Lane)
    (left : Option (Box Lane Global)) → RenewedSoFar parts numbers cpus cpu lanes spares → cpu < cpus → IsLaneOf parts numbers cpu l →
    RenewedSoFar parts numbers cpus (cpu + 1) (slice_set lanes cpu l) (slice_set spares cpu left)
next_renewed parts numbers cpus cpu lanes spares l left far inside is =
    let count = far.count in
    let within : cpu < length lanes = omega arith in
    record {
      count = length-set lanes cpu l ∙ count;
      many = length-set spares cpu left ∙ far.many;
      renewed = λ c less. elim (cases_lt c cpu) [
        | inl below ↦ subst (IsLaneOf parts numbers c) (sym (get_or-set_other lanes cpu c l no_lane (λ e. absurd (omega arith)))) (far.renewed c below)
        | inr past ↦
            let same : cpu ≡ c = omega arith in
            subst (λ (k : ℕ). IsLaneOf parts numbers k (lane_of (slice_set lanes cpu l) k)) same
            (subst (IsLaneOf parts numbers cpu) (sym (get_or-set_same lanes cpu l no_lane within)) is)
      ];
      rest = λ c past less. subst (IsSpareFor parts numbers c (lane_of (slice_set lanes cpu l) c))
          (sym (get_or-set_other spares cpu c left None (λ e. absurd (omega arith))))
          (subst (λ (x : Lane). IsSpareFor parts numbers c x (spare_of spares c))
          (sym (get_or-set_other lanes cpu c l no_lane (λ e. absurd (omega arith)))) (far.rest c (omega arith) less));
    }
