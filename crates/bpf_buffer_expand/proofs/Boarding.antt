-- The parts of a state are those of a machine.
use Rattle.std.proofs.Common.{◌≡◌, ◌∙◌, None, ℕ, ◌+◌, ◌-◌, ◌*◌, ◌%◌, ◌≤◌, ◌⊎◌, Bool, true, false, inl, inr, List, [], ◌∷◌}
use Rattle.std.proofs.Common.{length, refl, sym, ap, subst, arith}
use Rattle.std.specs.Prelude.{All, nat_lt, nat_le, ◌&&◌, ◌||◌, slice_index_or}
use Rattle.std.proofs.lemmas.Bool.{cases_lt}
use Rattle.std.proofs.lemmas.List.{get_or_past}
use Rattle.std.proofs.lemmas.List.Elements.{All-nil, All-weaker}
use Rattle.bpf_shared.specs.Access.{bytes_in}
use Rattle.bpf_shared.specs.Passage.{IsWritable}
use Rattle.bpf_shared.specs.Shape.{Shape, Covers, array_stride, copy_stride}
use Rattle.bpf_shared.specs.declared.events.Span.{Span}
use Rattle.bpf_plain.specs.PlainStore.{Contents, held_spans, is_running, shape_of}
use Rattle.bpf_helpers.specs.Arrays.{array_start}
use Rattle.bpf_helpers.specs.Held.{AreHeld, covers, is_covered}
use Rattle.bpf_loader.specs.Loaded.{Loaded}
use Rattle.bpf_cpu.specs.Task.{Task}
use Rattle.bpf_machine.specs.Parts.{CanStand}
use Rattle.bpf_buffering.specs.declared.waiting.Stored.{Stored}
use Rattle.bpf_buffering.specs.Buffering.{IsBoard}
use Rattle.bpf_buffering.specs.Waiting.{CanWait}
use Rattle.bpf_explore.specs.Stores.{IsOfShape}
use Rattle.bpf_buffer_expand.specs.State.{AreBuffers, HasStored, IsOpen, MayHaveStored}
use Rattle.std.proofs.lemmas.Bool.{false≢true}
use Rattle.std.proofs.lemmas.Bool.Decides.{nat_tests}
use Rattle.std.proofs.lemmas.List.Elements.{All-head, All-tail}
use Rattle.bpf_shared.proofs.Puts.{true_or_false}
use Rattle.bpf_shared.specs.Shape.{IsValueSpan}

-- ---- spans
both : (a b : Bool) → a && b ≡ true → (a ≡ true) × (b ≡ true)
both true b e = (refl, e)
both false b e = absurd (false≢true e)

-- the test says that the span has the bytes
covers_true : (a n : ℕ) (p : Span) → covers a n p ≡ true → Covers p a n
covers_true a n p e =
    let first = both (nat_le p.at a) (nat_le n p.size && nat_le (a - p.at) (p.size - n)) e in
    let later = both (nat_le n p.size) (nat_le (a - p.at) (p.size - n)) first.1 in
    let from : nat_le p.at a ≡ true = first.0 in
    let short : nat_le n p.size ≡ true = later.0 in
    let to : nat_le (a - p.at) (p.size - n) ≡ true = later.1 in
    (grind (arith, nat_tests), grind (arith, nat_tests))

abbrev Reached : (Span → Bool) → Span → Type 0
Reached reach p = (reach p ≡ true) × IsValueSpan p

-- bytes that are covered lie in a span that the store lets the CPU reach
covered_held : (reach : Span → Bool) (a n : ℕ) (spans : List Span) → AreHeld reach spans → is_covered spans a n ≡ true → (p : Span) ×
    (reach p ≡ true) × Covers p a n
covered_held reach a n [] are e = absurd (false≢true e)
covered_held reach a n (p ∷ spans) are e = elim (true_or_false (covers a n p)) [
  | inl here ↦ (p, (All-head (Reached reach) p spans are).0, covers_true a n p here)
  | inr not_here ↦
      let behind : is_covered spans a n ≡ true = subst (λ (b : Bool). (b || is_covered spans a n) ≡ true) not_here e in
      covered_held reach a n spans (All-tail (Reached reach) p spans are) behind
]

-- ---- places
within_span : (s k i a n v : ℕ) → s ≤ a → k + i ≤ a - s → (a - s) + n ≤ k + i + v → ((s + k) + i ≤ a) × (a + n ≤ ((s + k) + i) + v)
within_span s k i a n v from low high = (omega (arith, from, low), omega (arith, from, high))

open_place : (h : Shape) (held : Span → Bool) (a n : ℕ) → a % n ≡ 0 → IsOpen h a n → IsWritable h held a n
open_place h held a n aligned (number, (array, is, frozen, from, within)) =
    inr (
      record {
        number = number;
        array = array;
        copy = within.copy;
        index = within.index;
        is = is;
        has_copy = within.has_copy;
        has_index = within.has_index;
        covers = within_span (array_start number) (within.copy * copy_stride array) (within.index * array_stride array) a n array.value from
            within.from within.to;
        aligned = aligned;
      },
      frozen,
    )

may_write : (h : Shape) (store : Contents) (c : ℕ) (held : List Span) → shape_of store ≡ h → AreHeld (held_spans store c) held → (e : Stored)
    → MayHaveStored h held e → IsWritable (shape_of store) (held_spans store c) e.at (bytes_in e.size)
may_write h store c held shape are e (aligned, inl covered) =
    let p = covered_held (held_spans store c) e.at (bytes_in e.size) held are covered in
    inl (record { span = p.0; holds = p.1; covers = p.2; aligned = aligned })
may_write h store c held shape are e (aligned, inr there) =
    open_place (shape_of store) (held_spans store c) e.at (bytes_in e.size) aligned
    (subst (λ (k : Shape). IsOpen k e.at (bytes_in e.size)) (sym shape) there)

-- ---- each CPU's
module _ (h : Shape) (programs : List Loaded) (store : Contents) (jobs : List Task) (waiting : List (List Stored)) (shape : IsOfShape h store)
    (stands : CanStand (record { store = store; programs = programs; jobs = jobs; lists = None })) (fit : AreBuffers h jobs waiting) where
  nothing_waits : (c : ℕ) (es : List Stored) → es ≡ [] → CanWait store c es
  nothing_waits c es none = record {
    writable = subst (λ (l : List Stored). All (λ (e : Stored). IsWritable (shape_of store) (held_spans store c) e.at (bytes_in e.size)) l) (sym none)
        (All-nil (λ (e : Stored). IsWritable (shape_of store) (held_spans store c) e.at (bytes_in e.size)));
    idle = λ no. none;
  }

  some_wait : (c : ℕ) (es : List Stored) → HasStored h jobs c es → CanWait store c es
  some_wait c es (j, task, state, left, at, all) =
      let hand = stands.hand c j task state left at in
      record {
        writable = All-weaker (MayHaveStored h state.held) (λ (e : Stored). IsWritable (shape_of store) (held_spans store c) e.at (bytes_in e.size))
            (may_write h store c state.held shape.0 hand.held) es all;
        idle = λ no. (let runs : is_running store c ≡ true = hand.runs in cc);
      }

  each_waits : (c : ℕ) (es : List Stored) → ((es ≡ []) ⊎ HasStored h jobs c es) → CanWait store c es
  each_waits c es (inl none) = nothing_waits c es none
  each_waits c es (inr has) = some_wait c es has

  pub is_board : IsBoard store programs jobs waiting
  is_board = record {
    stands = record {
      served = stands.served;
      loaded = stands.loaded;
      hand = stands.hand;
      one = stands.one;
      idle = stands.idle;
    };
    cpus = λ c. shape.1 c ∙ ap (λ (n : ℕ). nat_lt c n) (sym fit.count);
    each = λ c. elim (cases_lt c (length waiting)) [
      | inl inside ↦ each_waits c (slice_index_or waiting c []) (fit.each c inside)
      | inr past ↦ nothing_waits c (slice_index_or waiting c []) (get_or_past waiting c [] past)
    ];
  }
