-- Jobs that are alike, by their numbers, and states that are found by hashes.
use Rattle.std.proofs.Common.{◌≡◌, ◌∙◌, ℕ, zero, suc, ◌+◌, ◌<◌, ◌≤◌, List, [], ◌∷◌, ◌++◌, Some, inl, inr, length, drop, refl, sym, ap, subst}
use Rattle.std.proofs.Common.{length-append, arith}
use Rattle.std.specs.Prelude.{All, fold, slice_get, slice_index_or}
use Rattle.std.proofs.Math.ListN.{get_or-append}
use Rattle.std.proofs.lemmas.Bool.{cases_lt}
use Rattle.std.proofs.lemmas.List.{get_or_read}
use Rattle.bpf_loader.specs.Loaded.{Loaded}
use Rattle.bpf_cpu.specs.Task.{Task}
use Rattle.bpf_alike.specs.Worlds.{AllAlike, IsAlike}
use Rattle.bpf_machine.specs.Machine.{MachineState}
use Rattle.bpf_machine.specs.Parts.{CanStand, chosen, chosen_at, no_task}
use Rattle.bpf_machine.specs.Hashes.{mix}
use Rattle.bpf_explore.specs.Tuples.{TupleList, tuple_at, IsTuple, AreWhole, with_tuple}
use Rattle.bpf_explore.specs.Private.Slots.{IsPut}
use Rattle.bpf_explore.specs.Private.States.{AreLoaded, AreStatesPut, HoldsStates, state_hash}
use Rattle.bpf_explore.proofs.KeptLaws.{StillPut, tuple_still, tuple_new}

pub there : {A : Type 0} (xs : List A) (i : ℕ) → i < length xs → (x : A) × (slice_get xs i ≡ Some x)
there [] i less = absurd (omega arith)
there (x ∷ xs) zero less = (x, refl)
there (x ∷ xs) (suc i) less = there xs i (omega arith)

pub are_loaded : (m : MachineState) → CanStand m → AreLoaded m.programs m.jobs
are_loaded m stands j task at = there m.programs task.program (stands.loaded j task at)

pub part_read : (parts : List Task) (n : ℕ) (part : Task) → n < length parts → part ≡ slice_index_or parts n part → part ≡ slice_index_or parts n no_task
part_read parts n part inside read = get_or_read parts n part inside read no_task

pub chosen_there : (parts : List Task) (numbers : List ℕ) (k : ℕ) → k < length numbers → slice_get (chosen parts numbers) k ≡ Some (chosen_at parts numbers k)
chosen_there parts [] k inside = absurd (omega arith)
chosen_there parts (n ∷ ns) zero inside = refl
chosen_there parts (n ∷ ns) (suc k) inside = chosen_there parts ns k (omega arith)

-- jobs below a number are alike, of two lists of numbers
abbrev pub AlikeBelow : List Loaded → List Task → List ℕ → List ℕ → ℕ → Type 0
AlikeBelow programs parts numbers others n =
    (k : ℕ) → k < n → IsAlike programs (chosen_at parts numbers k) (chosen_at parts others k)

pub next_alike : (programs : List Loaded) (parts : List Task) (numbers others : List ℕ) (n : ℕ) → AlikeBelow programs parts numbers others n
    → IsAlike programs (chosen_at parts numbers n) (chosen_at parts others n) → AlikeBelow programs parts numbers others (n + 1)
next_alike programs parts numbers others n far one k less = elim (cases_lt k n) [
  | inl below ↦ far k below
  | inr past ↦ let e : n ≡ k = omega arith in subst (λ (i : ℕ). IsAlike programs (chosen_at parts numbers i) (chosen_at parts others i)) e one
]

pub all_alike_below : (programs : List Loaded) (parts : List Task) (numbers others : List ℕ) → length others ≡ length numbers → AlikeBelow
    programs parts numbers others (length numbers)
    → AllAlike programs (chosen parts numbers) (chosen parts others)
all_alike_below programs parts [] [] count all = tt
all_alike_below programs parts [] (o ∷ os) count all = cc
all_alike_below programs parts (n ∷ ns) [] count all = cc
all_alike_below programs parts (n ∷ ns) (o ∷ os) count all =
    let rest : length os ≡ length ns = omega arith in
    (all 0 (omega arith), all_alike_below programs parts ns os rest (λ k less. all (suc k) (omega arith)))

-- ---- states are found by hashes
-- hashes of new jobs leave those of kept states
fold_still : (hashes more numbers : List ℕ) (first : ℕ) → All (λ n. n < length hashes) numbers
    → fold (λ hash n. mix hash (slice_index_or (hashes ++ more) n 0)) first numbers ≡ fold (λ hash n. mix hash (slice_index_or hashes n 0)) first numbers
fold_still hashes more [] first all = refl
fold_still hashes more (n ∷ ns) first all =
    let here : slice_index_or (hashes ++ more) n 0 ≡ slice_index_or hashes n 0 = get_or-append hashes more 0 n (all 0 0 (omega arith)) in
    fold_still hashes more ns (mix first (slice_index_or (hashes ++ more) n 0)) (λ k d less. all (suc k) d (omega arith))
    ∙ ap (λ (h : ℕ). fold (λ hash k. mix hash (slice_index_or hashes k 0)) (mix first h) ns) here

pub hash_still : (hashes more numbers : List ℕ) → All (λ n. n < length hashes) (drop 1 numbers) → state_hash (hashes ++ more) numbers ≡
    state_hash hashes numbers
hash_still hashes more numbers all = fold_still hashes more (drop 1 numbers) (mix 0 (slice_index_or numbers 0 0)) all

pub learned_still : (hashes more numbers : List ℕ) → All (λ n. n < length hashes) numbers → All (λ n. n < length (hashes ++ more)) numbers
learned_still hashes more numbers all k d less = let here = all k d less in let both = length-append hashes more in omega arith

pub more_learned : (t : TupleList) (hashes more slots : List ℕ) → HoldsStates t hashes slots → HoldsStates t (hashes ++ more) slots
more_learned t hashes more slots is = record {
  learned = λ i less. learned_still hashes more (drop 1 (tuple_at t i)) (is.learned i less);
  put = λ i less. subst (λ (h : ℕ). IsPut slots h i) (sym (hash_still hashes more (tuple_at t i) (is.learned i less))) (is.put i less);
  apart = is.apart;
}

pub more_states_put : (t : TupleList) (hashes slots new : List ℕ) (n : ℕ) → StillPut slots new → AreStatesPut t hashes slots n → IsPut new
    (state_hash hashes (tuple_at t n)) n → AreStatesPut t hashes new (n + 1)
more_states_put t hashes slots new n still far here i less = elim (cases_lt i n) [
  | inl below ↦ still (state_hash hashes (tuple_at t i)) i (far i below)
  | inr past ↦ let e : n ≡ i = omega arith in subst (λ (k : ℕ). IsPut new (state_hash hashes (tuple_at t k)) k) e here
]

pub still_holds_states : (t : TupleList) (hashes slots new : List ℕ) → StillPut slots new → HoldsStates t hashes slots → HoldsStates t hashes new
still_holds_states t hashes slots new still is = record {
  learned = is.learned;
  put = λ i less. still (state_hash hashes (tuple_at t i)) i (is.put i less);
  apart = is.apart;
}

pub widened_states : (t : TupleList) (hashes slots new : List ℕ) (n : ℕ) → HoldsStates t hashes slots → t.count ≤ n → AreStatesPut t hashes new n →
    HoldsStates t hashes new
widened_states t hashes slots new n is past all = record { learned = is.learned; put = λ i less. all i (omega arith); apart = is.apart }

pub one_more_state : (t : TupleList) (tuple hashes slots new : List ℕ) → AreWhole t → StillPut slots new → HoldsStates t hashes slots → length tuple ≡ t.width →
    All (λ n. n < length hashes) (drop 1 tuple) → ((n : ℕ) → IsTuple t n tuple → ⊥) → IsPut new (state_hash hashes tuple) t.count
    → HoldsStates (with_tuple t tuple) hashes new
one_more_state t tuple hashes slots new whole still is size known fresh here =
    let last : tuple_at (with_tuple t tuple) t.count ≡ tuple = tuple_new t tuple whole size in
    record {
      learned = λ i less. elim (cases_lt i t.count) [
        | inl below ↦ subst (λ (x : List ℕ). All (λ n. n < length hashes) (drop 1 x)) (sym (tuple_still t tuple i whole below)) (is.learned i below)
        | inr past ↦
            let e : t.count ≡ i = omega arith in
            subst (λ (k : ℕ). All (λ n. n < length hashes) (drop 1 (tuple_at (with_tuple t tuple) k))) e
            (subst (λ (x : List ℕ). All (λ n. n < length hashes) (drop 1 x)) (sym last) known)
      ];
      put = λ i less. elim (cases_lt i t.count) [
        | inl below ↦ subst (λ (x : List ℕ). IsPut new (state_hash hashes x) i) (sym (tuple_still t tuple i whole below))
            (still (state_hash hashes (tuple_at t i)) i (is.put i below))
        | inr past ↦
            let e : t.count ≡ i = omega arith in
            subst (λ (k : ℕ). IsPut new (state_hash hashes (tuple_at (with_tuple t tuple) k)) k) e
            (subst (λ (x : List ℕ). IsPut new (state_hash hashes x) t.count) (sym last) here)
      ];
      apart = λ i j less inside same. elim (cases_lt j t.count) [
        | inl below ↦
            let lower : i < t.count = omega arith in
            is.apart i j less below (sym (tuple_still t tuple i whole lower) ∙ (same ∙ tuple_still t tuple j whole below))
        | inr past ↦
            let e : j ≡ t.count = omega arith in
            let lower : i < t.count = omega arith in
            fresh i (lower, sym (tuple_still t tuple i whole lower) ∙ (same ∙ (ap (tuple_at (with_tuple t tuple)) e ∙ last)))
      ];
    }

-- a state that is kept is put where its hash leads
pub state_put : (t : TupleList) (hashes slots tuple : List ℕ) (n hash : ℕ) → HoldsStates t hashes slots → hash ≡ state_hash hashes tuple → IsTuple
    t n tuple → IsPut slots hash n
state_put t hashes slots tuple n hash is hashed there =
    subst (λ (h : ℕ). IsPut slots h n) (sym hashed) (subst (λ (x : List ℕ). IsPut slots (state_hash hashes x) n) there.1 (is.put n there.0))
