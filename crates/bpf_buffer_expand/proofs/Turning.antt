-- What moves lead to, place by place.
use Rattle.std.proofs.Common.{◌≡◌, ◌∙◌, ℕ, zero, suc, ap, ◌+◌, ◌*◌, ◌<◌, ◌≤◌, ◌⊎◌, Bool, true, false, inl, inr, List, [], ◌∷◌, ◌++◌, Some}
use Rattle.std.proofs.Common.{length, map, refl, sym, subst, arith}
use Rattle.std.specs.Prelude.{nat_lt, slice_get}
use Rattle.std.proofs.lemmas.Bool.{cases_lt, ltb-true}
use Rattle.std.proofs.lemmas.List.{get_or_past, length-map}
use Rattle.std.proofs.lemmas.Option.{slice_get_within}
use Rattle.std.proofs.lemmas.List.Elements.{All-nil, All-push}
use Rattle.bpf_base.proofs.Lists.{slice_get-front}
use Rattle.bpf_shared.specs.declared.events.Event.{Event}
use Rattle.bpf_plain.specs.PlainStore.{has_cpu}
use Rattle.bpf_cpu.specs.Task.{Stage, Task, Waiting, InHand}
use Rattle.bpf_machine.specs.Hands.{IsAt}
use Rattle.bpf_x86.specs.Machine.{Move, TurnOf, FlushOf}
use Rattle.bpf_buffering.specs.Waiting.{event_of}
use Rattle.bpf_buffering.specs.Search.{BufferedState, buffer_at}
use Rattle.bpf_expand.specs.State.{Host}
use Rattle.bpf_buffer_expand.specs.declared.successor.Successor.{Successor}
use Rattle.bpf_buffer_expand.specs.State.{move_at, move_of, place_at, place_of, AreSuccessors, HasNoneIn, HasSomeIn, HasSuccessor, IsStateOf, IsSuccessor}
use Rattle.bpf_buffer_expand.specs.Private.Next.{AreBelow}

-- ---- places
pub one_place : (c d : ℕ) (f g : Bool) → place_at c f ≡ place_at d g → (c ≡ d) × (f ≡ g)
one_place c d false false e = (omega (arith, e), refl)
one_place c d false true e = absurd (omega (arith, e))
one_place c d true false e = absurd (omega (arith, e))
one_place c d true true e = (omega (arith, e), refl)

pub same_move : (c d : ℕ) (f g : Bool) → c ≡ d → f ≡ g → move_at c f ≡ move_at d g
same_move c d f g e k = ap (λ (n : ℕ). move_at n f) e ∙ ap (λ (b : Bool). move_at d b) k

-- a CPU beyond those that there are has no move
pub none_beyond : (h : Host) (m : BufferedState) (bytes : List ℕ) (c : ℕ) (f : Bool) → IsStateOf h m bytes → h.shape.cpus ≤ c → HasNoneIn h bytes (move_at c f)
none_beyond h m bytes c false is beyond =
    let nobody : (j : ℕ) (task : Task) (stage : Stage) → IsAt m.machine.jobs c j task stage → ⊥ = λ j task stage here. (
    let there : nat_lt c h.shape.cpus ≡ true = sym (is.of.shape.1 c) ∙ subst (λ (d : ℕ). has_cpu m.machine.store d ≡ true) here.of
    (is.of.stands.served j task here.listed) in
    let less = ltb-true c h.shape.cpus there in
    omega (arith, less, beyond)) in
    (m, is, (λ j task state left here. nobody j task (InHand state left) here, λ j task input here. nobody j task (Waiting input) here))
none_beyond h m bytes c true is beyond =
    let many : length (map (map event_of) is.waiting) ≡ h.shape.cpus = length-map is.waiting (map event_of) ∙ is.fit.count in
    (m, is, ap (λ (l : List (List Event)). buffer_at l c) is.buffers ∙ get_or_past (map (map event_of) is.waiting) c [] (omega (arith, many, beyond)))

pub none_below : (h : Host) (bytes : List ℕ) → AreBelow h bytes [] 0
none_below h bytes = record {
  each = All-nil (λ s. IsSuccessor h bytes (move_of s) s.cpu s.ahead s.bytes.items);
  work = All-nil (λ s. HasSomeIn h bytes (move_of s));
  below = λ i s at. cc;
  rising = λ i j s later less at then. cc;
  all = λ c f less. absurd (omega (arith, less));
}

pub idle_below : (h : Host) (bytes : List ℕ) (found : List Successor) (c : ℕ) (f : Bool) (n : ℕ) → AreBelow h bytes found n → place_at c f ≡ n
    → HasNoneIn h bytes (move_at c f) → AreBelow h bytes found (n + 1)
idle_below h bytes found c f n are place idle = record {
  each = are.each;
  work = are.work;
  below = λ i s at. (let less = are.below i s at in omega (arith, less));
  rising = are.rising;
  all = λ d g less. elim (cases_lt (place_at d g) n) [
    | inl below ↦ are.all d g below
    | inr past ↦
        let same : place_at c f ≡ place_at d g = omega (arith, place, less, past) in
        let one = one_place c d f g same in
        inl (subst (λ (m : Move). HasNoneIn h bytes m) (same_move c d f g one.0 one.1) idle)
  ];
}

still_has : (h : Host) (bytes : List ℕ) (found : List Successor) (more : List Successor) (move : Move) → HasSuccessor h bytes found move →
    HasSuccessor h bytes (found ++ more) move
still_has h bytes found more move (i, s, at, of, is) = (i, s, slice_get-front found more i (slice_get_within found i s at) ∙ at, of, is)

slice_get-end : (found : List Successor) (s : Successor) → slice_get (found ++ s ∷ []) (length found) ≡ Some s
slice_get-end [] s = refl
slice_get-end (x ∷ xs) s = slice_get-end xs s

-- an element of a list with one more
at_end : (found : List Successor) (s : Successor) (i : ℕ) (x : Successor) → slice_get (found ++ s ∷ []) i ≡ Some x
    → ((i < length found) × (slice_get found i ≡ Some x)) ⊎ ((i ≡ length found) × (x ≡ s))
at_end [] s zero x at = inr (refl, cc)
at_end [] s (suc i) x at = cc
at_end (y ∷ ys) s zero x at = inl (omega arith, at)
at_end (y ∷ ys) s (suc i) x at = elim (at_end ys s i x at) [
  | inl (less, there) ↦ inl (omega (arith, less), there)
  | inr (same, is) ↦ inr (omega (arith, same), is)
]

below_end : (found : List Successor) (s : Successor) (n : ℕ) → ((i : ℕ) (x : Successor) → slice_get found i ≡ Some x → place_of x < n) → place_of s ≡ n
    → (i : ℕ) (x : Successor) → slice_get (found ++ s ∷ []) i ≡ Some x → place_of x < n + 1
below_end found s n below of i x at = elim (at_end found s i x at) [
  | inl (less, there) ↦ let far = below i x there in omega (arith, far)
  | inr (same, is) ↦ let place : place_of x ≡ place_of s = ap (λ (x : Successor). place_of x) is in omega (arith, place, of)
]

rising_end : (found : List Successor) (s : Successor) (n : ℕ) → ((i : ℕ) (x : Successor) → slice_get found i ≡ Some x → place_of x < n)
    → ((i j : ℕ) (x later : Successor) → i < j → slice_get found i ≡ Some x → slice_get found j ≡ Some later → place_of x < place_of later) → place_of s ≡ n
    → (i j : ℕ) (x later : Successor) → i < j → slice_get (found ++ s ∷ []) i ≡ Some x → slice_get (found ++ s ∷ []) j ≡ Some later →
    place_of x < place_of later
rising_end found s n below rising of i j x later less at then = elim (at_end found s i x at) [
  | inl (near, there) ↦ elim (at_end found s j later then) [
    | inl (far, beyond) ↦ rising i j x later less there beyond
    | inr (same, is) ↦ let place : place_of later ≡ place_of s = ap (λ (x : Successor). place_of x) is in let first = below i x there in
        omega (arith, place, of, first)
  ]
  | inr (same, is) ↦ elim (at_end found s j later then) [
    | inl (far, beyond) ↦ absurd (omega (arith, same, far, less))
    | inr (end, be) ↦ absurd (omega (arith, same, end, less))
  ]
]

pub next_below : (h : Host) (bytes : List ℕ) (found : List Successor) (c : ℕ) (f : Bool) (n : ℕ) (s : Successor) → AreBelow h bytes found n → place_at c f ≡ n
    → (s.cpu ≡ c) × (s.is_flush ≡ f) × HasSomeIn h bytes (move_at c f) × IsSuccessor h bytes (move_at c f) c s.ahead s.bytes.items
    → AreBelow h bytes (found ++ s ∷ []) (n + 1)
next_below h bytes found c f n s are place (of, flush, works, is) = record {
  each = All-push (λ s. IsSuccessor h bytes (move_of s) s.cpu s.ahead s.bytes.items) found s are.each own;
  work = All-push (λ s. HasSomeIn h bytes (move_of s)) found s are.work (subst (λ (m : Move). HasSomeIn h bytes m) (sym move) works);
  below = below_end found s n are.below here;
  rising = rising_end found s n are.below are.rising here;
  all = λ d g less. elim (cases_lt (place_at d g) n) [
    | inl below ↦ still (are.all d g below)
    | inr past ↦
        let same : place_at c f ≡ place_at d g = omega (arith, place, less, past) in
        let one = one_place c d f g same in
        inr (subst (λ (m : Move). HasSuccessor h bytes (found ++ s ∷ []) m) (same_move c d f g one.0 one.1)
        (length found, s, slice_get-end found s, move, subst (λ (m : Move). IsSuccessor h bytes m s.cpu s.ahead s.bytes.items) move own))
  ];
}
  where
    move : move_of s ≡ move_at c f
    move = same_move s.cpu c s.is_flush f of flush

    own : IsSuccessor h bytes (move_of s) s.cpu s.ahead s.bytes.items
    own = subst (λ (d : ℕ). IsSuccessor h bytes (move_of s) d s.ahead s.bytes.items) (sym of)
        (subst (λ (m : Move). IsSuccessor h bytes m c s.ahead s.bytes.items) (sym move) is)

    here : place_of s ≡ n
    here = ap (λ (d : ℕ). place_at d s.is_flush) of ∙ ap (λ (b : Bool). place_at c b) flush ∙ place

    still : {m : Move} → (HasNoneIn h bytes m ⊎ HasSuccessor h bytes found m) → HasNoneIn h bytes m ⊎ HasSuccessor h bytes (found ++ s ∷ []) m
    still {m} (inl idle) = inl idle
    still {m} (inr has) = inr (still_has h bytes found (s ∷ []) m has)

pub all_below : (h : Host) (m : BufferedState) (bytes : List ℕ) (found : List Successor) (cpu : ℕ) → IsStateOf h m bytes → AreBelow h bytes found (2 * cpu)
    → h.shape.cpus ≤ cpu → AreSuccessors h bytes found
all_below h m bytes found cpu is are past = record {
  each = are.each;
  work = are.work;
  rising = are.rising;
  all = every;
}
  where
    at_place : (c : ℕ) (f : Bool) → HasNoneIn h bytes (move_at c f) ⊎ HasSuccessor h bytes found (move_at c f)
    at_place c f = elim (cases_lt c h.shape.cpus) [
      | inl inside ↦ are.all c f (within c f inside)
      | inr beyond ↦ inl (none_beyond h m bytes c f is beyond)
    ]
      where
        within : (c : ℕ) (f : Bool) → c < h.shape.cpus → place_at c f < 2 * cpu
        within c false less = omega (arith, less, past)
        within c true less = omega (arith, less, past)

    every : (move : Move) → HasNoneIn h bytes move ⊎ HasSuccessor h bytes found move
    every (TurnOf c) = at_place c false
    every (FlushOf c) = at_place c true
