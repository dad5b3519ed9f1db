-- Where there are no hash maps and calls read outside of values, a step has one event at most.
use Rattle.std.proofs.Common.{◌≡◌, ℕ, zero, suc, ◌+◌, ◌-◌, ◌/◌, ◌<◌, ◌≤◌, true, false, List, [], ◌∷◌, ◌++◌, length, take, Option, Some}
use Rattle.std.proofs.Common.{None, is_some, Result, Ok, Err, ◌⊎◌, inl, inr, refl, sym, ap, subst, ◌∙◌, arith}
use Rattle.std.specs.Prelude.{slice_get, slice_index}
use Rattle.bpf_base.specs.Bytes.{little_endian}
use Rattle.bpf_shared.specs.Access.{bytes_in}
use Rattle.bpf_shared.specs.Shape.{Shape, IsShape, fixed_span}
use Rattle.bpf_shared.specs.declared.events.Size.{Size}
use Rattle.bpf_shared.specs.declared.events.Size.TheVariants.{Word}
use Rattle.bpf_shared.specs.declared.events.Span.{Span}
use Rattle.bpf_shared.specs.declared.events.Event.{Event}
use Rattle.bpf_shared.specs.declared.events.Event.TheVariants.{Load, Store, Atomic}
use Rattle.bpf_shared.specs.declared.shapes.MapShape.{MapShape}
use Rattle.bpf_shared.specs.declared.shapes.ArrayShape.{ArrayShape}
use Rattle.bpf_insn.specs.declared.instruction.Insn.{Insn}
use Rattle.bpf_insn.specs.declared.instruction.Insn.TheVariants as insn
use Rattle.bpf_insn.specs.declared.instruction.Insn.TheVariants.{CallHelper}
use Rattle.bpf_mem.specs.declared.memory.PrivateMemory.{PrivateMemory}
use Rattle.bpf_mem.specs.Memory.{bytes_at}
use Rattle.bpf_helpers.specs.declared.fault.HelperFault.{HelperFault}
use Rattle.bpf_helpers.specs.Arrays.{IsInArray, area_of, copies, parts_of, array_refusal}
use Rattle.bpf_helpers.specs.Calls.{CallsHelper, CallsArray, IsMapAt, IsArrayAt, StopsAtKey, Answers, copy_for}
use Rattle.bpf_helpers.specs.Given.{AsksOnce}
use Rattle.bpf_helpers.proofs.Answering.{map_asks}
use Rattle.bpf_helpers.specs.Held.{reaches}
use Rattle.bpf_helpers.specs.Reads.{no_loads, AreReached, ReadsIndex}
use Rattle.bpf_loader.specs.Loaded.{Loaded}
use Rattle.bpf_loader.specs.Places.{Begins}
use Rattle.bpf_cpu.specs.declared.cpu.Cpu.{Cpu}
use Rattle.bpf_cpu.specs.declared.outcome.Progress.{Progress}
use Rattle.bpf_cpu.specs.Helping.{tried}
use Rattle.bpf_cpu.specs.Row.{TakesResult}
use Rattle.bpf_cpu.specs.Step.{Step, Executes}
use Rattle.bpf_cpu.specs.Values.{AsksValue}
use Rattle.bpf_cpu.proofs.HeldLaws.{held-quiet}
use Rattle.bpf_threads.specs.Outside.{IsOutsideValues, ReadsOutside}
use Rattle.bpf_agreement.proofs.Alike.{LeavesMaps}

-- no event, or one, which leaves the hash maps as they are
abbrev pub IsOne : List Event → Type 0
IsOne events = (events ≡ []) ⊎ ((e : Event) × (events ≡ e ∷ []) × LeavesMaps e)

-- ---- addresses
pub inside_list : {A : Type 0} (xs : List A) (i : ℕ) (x : A) → slice_get xs i ≡ Some x → i < length xs
inside_list [] i x e = absurd (none_some x e)
  where
    none_some : {A : Type 0} (x : A) → None ≡ Some x → ⊥
    none_some x e = cc
inside_list (y ∷ ys) zero x e = omega arith
inside_list (y ∷ ys) (suc i) x e = let below = inside_list ys i x e in omega (arith, below)

none_reached : (a : ℕ) → reaches [] a ≡ false
unfolding reaches
none_reached a = refl

-- an address in the area of one of sixteen arrays is among those of values
in_areas : (a : ℕ) → 0x11_0000_0000 ≤ a → (a - 0x11_0000_0000) / 0x1000_0000 < 16 → a < 0x12_0000_0000
in_areas a from below = omega arith

not_outside : (a size : ℕ) → 1 ≤ size → 0x11_0000_0000 ≤ a → a < 0x12_0000_0000 → IsOutsideValues a size → ⊥
not_outside a size some from to (inl below) = let b : a + size ≤ 0x10_0000_0000 = below in omega arith
not_outside a size some from to (inr above) = let b : 0x12_0000_0000 ≤ a = above in omega arith

module _ (shape : Shape) (is_shape : IsShape shape) where
  not_in_array : (a size : ℕ) → 1 ≤ size → IsOutsideValues a size → IsInArray shape a 1 → ⊥
  not_in_array a size some outside p =
      let below : area_of a < 16 = below_sixteen (area_of a) (length shape.arrays) (inside_list shape.arrays (area_of a) p.array p.is) is_shape.array_count in
      not_outside a size some p.after (in_areas a p.after below) outside
    where
      below_sixteen : (i n : ℕ) → i < n → n ≤ 16 → i < 16
      below_sixteen i n h k = omega arith

  -- bytes outside of values aren't reached, where nothing is held
  not_reached : (held : List Span) → held ≡ [] → (a n size : ℕ) → 1 ≤ size → 0 < n → IsOutsideValues a size → AreReached shape held a n → ⊥
  not_reached held none a n size some more outside reached = first (reached 0 more)
    where
      first : (reaches held (a + 0) ≡ true) ⊎ IsInArray shape (a + 0) 1 → ⊥
      first (inl h) = let no : false ≡ true = sym (ap (λ (spans : List Span). reaches spans (a + 0)) none ∙ none_reached (a + 0)) ∙ h in absurd cc
      first (inr p) = not_in_array a size some outside (subst (λ (x : ℕ). IsInArray shape x 1) (let e : a + 0 ≡ a = omega arith in e) p)

pub positive : (n : ℕ) → 1 ≤ n → 0 < n
positive n h = omega arith

-- ---- copies
one_copy : (from to : ℕ) (sizes : List Size) (bytes : List ℕ) → length sizes ≤ 1 → IsOne (copies no_loads from to sizes bytes)
one_copy from to [] bytes few = inl refl
one_copy from to (size ∷ []) bytes few = inr (Store to size (little_endian (take (bytes_in size) bytes)), refl, tt)
one_copy from to (size ∷ next ∷ sizes) bytes few = absurd (omega arith)

module _ (shape : Shape) (is_shape : IsShape shape) (bare : shape.maps ≡ []) (memory : PrivateMemory) (registers : List ℕ)
    (held : List Span) (none : held ≡ []) where
  no_map : (m : ℕ) (h : MapShape) → IsMapAt shape.maps registers m h → ⊥
  no_map m h at = nothing h (ap (λ (maps : List MapShape). slice_get maps m) (sym bare) ∙ at.1)
    where
      nothing : (h : MapShape) → None ≡ Some h → ⊥
      nothing h e = cc

  -- ---- keys
  key_unread : (index : ℕ) (events : List Event) → IsOutsideValues (slice_index registers 2) 64 → ReadsIndex shape memory held
      (slice_index registers 2) index events → events ≡ []
  key_unread index events outside (inl r) = r.3
  key_unread index events outside (inr r) = absurd (not_reached shape is_shape held none (slice_index registers 2) 4 64
      (let e : 1 ≤ 64 = omega arith in e) (let e : 0 < 4 = omega arith in e) outside r.1)

  one_read : (index : ℕ) (events : List Event) → ReadsIndex shape memory held (slice_index registers 2) index events → IsOne events
  one_read index events (inl r) = inl r.3
  one_read index events (inr r) = inr (Load (slice_index registers 2) Word index, r.3, tt)

  one_stop : (events : List Event) (result : Result ℕ HelperFault) (after : List Span) → StopsAtKey shape memory registers held events
      result after → IsOne events × (after ≡ held)
  one_stop events result after (inl r) = (inl r.1.0, r.1.2)
  one_stop events result after (inr r) = (inl r.1.0, r.1.2)

  -- ---- what an update copies
  module _ (to n : ℕ) (some : 0 < n) (at_once : length (parts_of n) ≤ 1) (outside : IsOutsideValues (slice_index registers 3) 65536)
      (readable : (is_some (bytes_at memory (slice_index registers 3) n) ≡ true) ⊎ AreReached shape held (slice_index registers 3) n) where
    one_answer : (refusal : Option ℕ) (events : List Event) (result : Result ℕ HelperFault) → Answers shape memory registers held to n
        refusal events result → IsOne events
    one_answer (Some refusal) events result r = inl r.0
    one_answer None events result (said, inl r) = subst IsOne (sym r.2) (one_copy (slice_index registers 3) to (parts_of n) r.0 at_once)
    one_answer None events result (said, inr r) = absurd (unread readable)
      where
        unread : (is_some (bytes_at memory (slice_index registers 3) n) ≡ true) ⊎ AreReached shape held (slice_index registers 3) n → ⊥
        unread (inl own) = let no : false ≡ true = sym (ap (λ (o : Option (List ℕ)). is_some o) r.1) ∙ own in absurd cc
        unread (inr reached) = not_reached shape is_shape held none (slice_index registers 3) n 65536 (let e : 1 ≤ 65536 = omega arith in e)
            some outside reached

  -- the key is read first, and has no event
  after_key : (first rest events : List Event) → events ≡ first ++ rest → first ≡ [] → IsOne rest → IsOne events
  after_key first rest events is nothing one = subst IsOne (sym (is ∙ ap (λ (es : List Event). es ++ rest) nothing)) one

  one_array : (cpu a : ℕ) (g : ArrayShape) (n : ℕ) (events : List Event) (result : Result ℕ HelperFault) (after : List Span) → IsArrayAt
      shape.arrays registers a g → ReadsOutside shape.arrays n registers
      → CallsArray shape memory registers held cpu a g n events result after → IsOne events × (after ≡ held)
  one_array cpu a g n events result after at outside (inl (is, inl stops)) = one_stop events result after stops
  one_array cpu a g n events result after at outside (inl (is, inr r)) = (one_read r.0 events r.1, r.3)
  one_array cpu a g n events result after at outside (inr (inl (is, inl stops))) = (inl stops.1.0, stops.1.2)
  one_array cpu a g n events result after at outside (inr (inl (is, inr (inl odd)))) = (inl odd.2.0, odd.2.2)
  one_array cpu a g n events result after at outside (inr (inl (is, inr (inr r)))) =
      let some : 0 < g.value = positive g.value (is_shape.arrays a g at.1).0.value.0 in (
        after_key r.1 r.2 events r.5 (key_unread r.0 r.1 outside.key r.4)
            (one_answer (fixed_span a g (copy_for cpu g) r.0).at g.value some (outside.at_once is a g at) (outside.value is) r.3
            (array_refusal g r.0 (slice_index registers 4)) r.2 result r.6),
        r.7,
      )
  one_array cpu a g n events result after at outside (inr (inr (is, inl stops))) = one_stop events result after stops
  one_array cpu a g n events result after at outside (inr (inr (is, inr r))) = (inl r.2, r.4)

  one_call : (n cpu : ℕ) (events : List Event) (result : Result ℕ HelperFault) (after : List Span) → AsksOnce n ⊎ ReadsOutside shape.arrays n registers
      → CallsHelper shape n cpu registers memory held events result after → IsOne events × (after ≡ held)
  one_call n cpu events result after outside (inl r) = (inl r.1, r.3)
  one_call n cpu events result after outside (inr (inl r)) = (inl r.3.0, r.3.2)
  one_call n cpu events result after outside (inr (inr (inl r))) = absurd (no_map r.0 r.1 r.2)
  one_call n cpu events result after (inr outside) (inr (inr (inr r))) = one_array cpu r.0 r.1 n events result after r.2 outside r.4
  one_call n cpu events result after (inl is) (inr (inr (inr r))) = absurd (not_quiet r.4)
    where
      not_quiet : CallsArray shape memory registers held cpu r.0 r.1 n events result after → ⊥
      not_quiet (inl c) = map_asks n (inl c.0) is
      not_quiet (inr (inl c)) = map_asks n (inr (inl c.0)) is
      not_quiet (inr (inr c)) = map_asks n (inr (inr c.0)) is

-- ---- rows
module _ (shape : Shape) (old new : Cpu) (events : List Event) (progress : Progress) where
  made : (state : Cpu) → new ≡ state → state.held ≡ old.held → new.held ≡ old.held
  made state e same = ap (λ (c : Cpu). c.held) e ∙ same

  taken : (result : Result ℕ HelperFault) (held : List Span) → held ≡ old.held → TakesResult result held old progress new → new.held ≡ old.held
  taken (Ok x) held same takes = made _ takes.1 same
  taken (Err fault) held same takes = made _ takes.1 refl

  one_value : (i : Insn) → AsksValue shape i old events progress new → IsOne events × (new.held ≡ old.held)
  one_value (insn.Load z d b o) (inl refused) = (inl refused.2, made _ refused.3.1 refl)
  one_value (insn.Load z d b o) (inr r) = (inr (Load _ _ r.1.0, r.1.1, tt), made _ r.1.3 refl)
  one_value (insn.LoadSigned z d b o) (inl refused) = (inl refused.2, made _ refused.3.1 refl)
  one_value (insn.LoadSigned z d b o) (inr r) = (inr (Load _ _ r.1.0, r.1.1, tt), made _ r.1.3 refl)
  one_value (insn.StoreImmediate z b o n) (inl refused) = (inl refused.2, made _ refused.3.1 refl)
  one_value (insn.StoreImmediate z b o n) (inr r) = (inr (Store _ _ _, r.1, tt), made _ r.3 refl)
  one_value (insn.Store z b o s) (inl refused) = (inl refused.2, made _ refused.3.1 refl)
  one_value (insn.Store z b o s) (inr r) = (inr (Store _ _ _, r.1, tt), made _ r.3 refl)
  one_value (insn.Atomic w op b o s) (inl refused) = (inl refused.2, made _ refused.3.1 refl)
  one_value (insn.Atomic w op b o s) (inr r) = (inr (Atomic _ _ _ _ _ r.1.0, r.1.1, tt), made _ r.1.3 refl)
  one_value i row = absurd row

  tried_held : (x : ℕ) → (tried old x).held ≡ old.held
  tried_held zero = refl
  tried_held (suc x) = refl

  one_row : IsShape shape → shape.maps ≡ [] → old.held ≡ [] → (i : Insn) →
      ((n : ℕ) → i ≡ CallHelper n → AsksOnce n ⊎ ReadsOutside shape.arrays n old.registers) → Executes shape i old events progress new →
      IsOne events × (new.held ≡ old.held)
  one_row is_shape bare none i outside (inl r) = (inl r.1, held-quiet old new progress i r.2)
  one_row is_shape bare none i outside (inr (inl (n, is, inl (helper, (result, after, calls, takes))))) =
      let one = one_call shape is_shape bare old.memory old.registers old.held none n old.number events result after (outside n is) calls in
      (one.0, taken result after one.1 takes)
  one_row is_shape bare none i outside (inr (inl (n, is, inr (inl asks)))) = (inl asks.3, made _ asks.5 refl)
  one_row is_shape bare none i outside (inr (inl (n, is, inr (inr (inl (lock, inl refused)))))) = (inl refused.2, made _ refused.3.1 refl)
  one_row is_shape bare none i outside (inr (inl (n, is, inr (inr (inl (lock, inr r)))))) =
      (inr (Atomic _ _ _ _ _ r.1.0, r.1.1, tt), made _ r.1.3 (tried_held r.1.0))
  one_row is_shape bare none i outside (inr (inl (n, is, inr (inr (inr (lock, inl refused)))))) = (inl refused.2, made _ refused.3.1 refl)
  one_row is_shape bare none i outside (inr (inl (n, is, inr (inr (inr (lock, inr r)))))) = (inr (Atomic _ _ _ _ _ r.1.0, r.1.1, tt), made _ r.1.3 refl)
  one_row is_shape bare none i outside (inr (inr r)) = one_value i r.1

-- a step, where nothing is held
pub one_step : (shape : Shape) → IsShape shape → shape.maps ≡ [] → (program : Loaded) (old new : Cpu) (events : List Event)
    (progress : Progress) → old.held ≡ []
    → ((n : ℕ) → Begins program.instructions old.pc (CallHelper n) → AsksOnce n ⊎ ReadsOutside shape.arrays n old.registers)
    → Step shape program old events progress new → IsOne events × (new.held ≡ [])
one_step shape is_shape bare program old new events progress none outside step =
    let one = one_row shape old new events progress is_shape bare none step.instruction
    (λ n is. outside n (subst (λ (i : Insn). Begins program.instructions old.pc i) is step.begins)) step.row in
    (one.0, one.1 ∙ none)
