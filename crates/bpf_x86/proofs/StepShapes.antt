-- The events of a step: a step with a store makes loads and stores alone, and a job's first step touches no
-- value.
use Rattle.std.proofs.Common.{◌≡◌, ℕ, zero, suc, ℤ, pos, negsuc, ◌+◌, ◌-◌, ◌*◌, ◌/◌, ◌%◌, ◌^◌, ◌<◌, ◌≤◌, Bool, true, false, List, [], ◌∷◌}
use Rattle.std.proofs.Common.{◌++◌, length, take, drop, Option, Some, None, Result, ◌⊎◌, inl, inr, refl, sym, ap, subst, ◌∙◌, arith}
use Rattle.std.specs.Prelude.{slice_index}
use Rattle.bpf_shared.specs.Access.{bytes_in}
use Rattle.bpf_shared.specs.Shape.{Shape, IsShape, map_area}
use Rattle.bpf_shared.specs.declared.shapes.ArrayShape.{ArrayShape}
use Rattle.bpf_insn.specs.declared.instruction.Insn.{Insn}
use Rattle.bpf_insn.specs.declared.instruction.Insn.TheVariants as insn
use Rattle.bpf_insn.specs.declared.operation.sizes.Size as op
use Rattle.bpf_insn.specs.declared.operation.sizes.Size.TheVariants as op_size
use Rattle.bpf_insn.specs.declared.operation.widths.Width.{Width}
use Rattle.bpf_insn.specs.declared.operation.atomics.AtomicOp.{AtomicOp}
use Rattle.bpf_insn.specs.Encoding.{Fits}
use Rattle.bpf_insn.specs.declared.register.Reg.{Reg}
use Rattle.bpf_insn.specs.declared.register.Reg.TheVariants.{R0, R1, R2, R3, R4, R5, R6, R7, R8, R9, R10}
use Rattle.std.specs.Int.{w16, w64, cast_unsigned}
use Rattle.std.specs.Prelude.{slice_get, FitsSigned}
use Rattle.std.proofs.lemmas.Bool.{cases_lt}
use native.Mathlib.Nat.{add-mul-mod_self_right, mod-eq_of_lt}
use Rattle.bpf_alu.specs.Arithmetic.{sign_extended}
use Rattle.bpf_mem.specs.Bytes.{length_of, size_of}
use Rattle.bpf_mem.specs.declared.memory.PrivateMemory.{PrivateMemory}
use Rattle.bpf_shared.specs.declared.events.Size.{Size}
use Rattle.bpf_shared.specs.declared.events.Span.{Span}
use Rattle.bpf_shared.specs.declared.events.Event.{Event}
use Rattle.bpf_shared.specs.declared.events.Event.TheVariants.{Lookup, Update, Delete, Load, Store}
use Rattle.bpf_shared.specs.declared.events.MapAnswer.{MapAnswer}
use Rattle.bpf_shared.specs.declared.shapes.MapShape.{MapShape}
use Rattle.bpf_helpers.specs.declared.fault.HelperFault.{HelperFault}
use Rattle.bpf_helpers.specs.Arrays.{IsInArray, array_start, area_of, copies, parts_of}
use Rattle.bpf_helpers.specs.Calls.{CallsHelper, CallsMap, CallsArray, IsArrayAt, StopsAtKey, Answers}
use Rattle.bpf_helpers.specs.Reads.{loads, no_loads, Reads, ReadsIndex}
use Rattle.bpf_loader.specs.Loaded.{Loaded}
use Rattle.bpf_cpu.specs.declared.cpu.Cpu.{Cpu}
use Rattle.bpf_cpu.specs.declared.input.Input.{Input}
use Rattle.bpf_cpu.specs.declared.outcome.Progress.{Progress}
use Rattle.bpf_cpu.specs.Row.{plain_size, extension_of}
use Rattle.bpf_cpu.specs.State.{start, effective_address, value}
use Rattle.bpf_cpu.specs.Step.{Step, Executes}
use Rattle.bpf_cpu.specs.Values.{event_size_of, IsThere, LoadsValue, StoresValue, ChangesValue, AsksValue}
use Rattle.bpf_x86.specs.Laws.{FirstFits}

-- each of the events fails the test
abbrev pub AreNot : (Event → Bool) → List Event → Type 0
AreNot test [] = Unit {0}
AreNot test (e ∷ es) = (test e ≡ false) × AreNot test es

abbrev pub is_store : Event → Bool
is_store (Store a size x) = true
is_store _ = false

-- neither a load nor a store
abbrev pub is_call : Event → Bool
is_call (Load a size found) = false
is_call (Store a size x) = false
is_call _ = true

AreNot-append : (test : Event → Bool) (xs ys : List Event) → AreNot test xs → AreNot test ys → AreNot test (xs ++ ys)
AreNot-append test [] ys p q = q
AreNot-append test (x ∷ xs) ys p q = (p.0, AreNot-append test xs ys p.1 q)

none_of : (test : Event → Bool) (events : List Event) → events ≡ [] → AreNot test events
none_of test events e = subst (AreNot test) (sym e) tt

-- ---- helpers
loads_not : (a : ℕ) (bytes : List ℕ) → AreNot is_store (loads a bytes)
loads_not a [] = tt
loads_not a (byte ∷ bytes) = (refl, loads_not (suc a) bytes)

loads_no_call : (a : ℕ) (bytes : List ℕ) → AreNot is_call (loads a bytes)
loads_no_call a [] = tt
loads_no_call a (byte ∷ bytes) = (refl, loads_no_call (suc a) bytes)

module _ (shape : Shape) (memory : PrivateMemory) (held : List Span) where
  module _ (test : Event → Bool)
      (reads : (a n : ℕ) (key : List ℕ) (first : List Event) → Reads shape memory held a n key first → AreNot test first)
      (looks : (m : ℕ) (key : List ℕ) (found : Option Span) → test (Lookup m key found) ≡ false)
      (updates : (m : ℕ) (key bytes : List ℕ) (flags : ℕ) (answer : MapAnswer) → test (Update m key bytes flags answer) ≡ false)
      (deletes : (m : ℕ) (key : List ℕ) (answer : MapAnswer) → test (Delete m key answer) ≡ false) where
    map_not : (registers : List ℕ) (m : ℕ) (h : MapShape) (n : ℕ) (events : List Event) (result : Result ℕ HelperFault) (after : List Span)
        → CallsMap shape memory registers held m h n events result after → AreNot test events
    map_not registers m h n events result after (inl (is, inl stops)) = none_of test events stops.1.0
    map_not registers m h n events result after (inl (is, inr r)) =
        subst (AreNot test) (sym r.4) (AreNot-append test r.1 (Lookup m r.0 r.2 ∷ []) (reads _ _ r.0 r.1 r.3) (looks m r.0 r.2, tt))
    map_not registers m h n events result after (inr (inl (is, inl stops))) = none_of test events stops.1.0
    map_not registers m h n events result after (inr (inl (is, inr r))) =
        subst (AreNot test) (sym r.7) (AreNot-append test (r.2 ++ r.3) (Update m r.0 r.1 _ r.4 ∷ [])
        (AreNot-append test r.2 r.3 (reads _ _ r.0 r.2 r.5) (reads _ _ r.1 r.3 r.6)) (updates m r.0 r.1 _ r.4, tt))
    map_not registers m h n events result after (inr (inr (is, inl stops))) = none_of test events stops.1.0
    map_not registers m h n events result after (inr (inr (is, inr r))) =
        subst (AreNot test) (sym r.4) (AreNot-append test r.1 (Delete m r.0 r.2 ∷ []) (reads _ _ r.0 r.1 r.3) (deletes m r.0 r.2, tt))

  -- a call on an array
  abbrev IsArrayCall : ℕ → ℕ → List ℕ → List Event → Result ℕ HelperFault → List Span → Type 0
  IsArrayCall n cpu registers events result after =
      (a : ℕ) × (g : ArrayShape) × IsArrayAt shape.arrays registers a g × CallsArray shape memory registers held cpu a g n events result after

  helper_kind : (test : Event → Bool)
      → ((a n : ℕ) (key : List ℕ) (first : List Event) → Reads shape memory held a n key first → AreNot test first)
      → ((m : ℕ) (key : List ℕ) (found : Option Span) → test (Lookup m key found) ≡ false)
      → ((m : ℕ) (key bytes : List ℕ) (flags : ℕ) (answer : MapAnswer) → test (Update m key bytes flags answer) ≡ false)
      → ((m : ℕ) (key : List ℕ) (answer : MapAnswer) → test (Delete m key answer) ≡ false)
      → (n cpu : ℕ) (registers : List ℕ) (events : List Event) (result : Result ℕ HelperFault) (after : List Span) → CallsHelper shape n cpu
      registers memory held events result after
      → AreNot test events ⊎ IsArrayCall n cpu registers events result after
  helper_kind test reads looks updates deletes n cpu registers events result after (inl r) = inl (none_of test events r.1)
  helper_kind test reads looks updates deletes n cpu registers events result after (inr (inl r)) = inl (none_of test events r.3.0)
  helper_kind test reads looks updates deletes n cpu registers events result after (inr (inr (inl r))) = inl
      (map_not test reads looks updates deletes registers r.0 r.1 n events result after r.3)
  helper_kind test reads looks updates deletes n cpu registers events result after (inr (inr (inr r))) = inr (r.0, r.1, r.2, r.4)

  reads_no_store : (a n : ℕ) (key : List ℕ) (first : List Event) → Reads shape memory held a n key first → AreNot is_store first
  reads_no_store a n key first (inl r) = none_of is_store first r.1
  reads_no_store a n key first (inr r) = subst (AreNot is_store) (sym r.3) (loads_not a key)

  helper_stores : (n cpu : ℕ) (registers : List ℕ) (events : List Event) (result : Result ℕ HelperFault) (after : List Span) → CallsHelper
      shape n cpu registers memory held events result after
      → AreNot is_store events ⊎ IsArrayCall n cpu registers events result after
  helper_stores = helper_kind is_store reads_no_store (λ m key found. refl) (λ m key bytes flags answer. refl) (λ m key answer. refl)

  -- ---- calls on arrays make loads and stores alone
  stops_no_call : (registers : List ℕ) (events : List Event) (result : Result ℕ HelperFault) (after : List Span) → StopsAtKey shape memory
      registers held events result after → AreNot is_call events
  stops_no_call registers events result after (inl r) = none_of is_call events r.1.0
  stops_no_call registers events result after (inr r) = none_of is_call events r.1.0

  index_no_call : (a index : ℕ) (events : List Event) → ReadsIndex shape memory held a index events → AreNot is_call events
  index_no_call a index events (inl r) = none_of is_call events r.3
  index_no_call a index events (inr r) = subst (AreNot is_call) (sym r.3) (refl, tt)

  copies_no_call : (reading : ℕ → List ℕ → List Event) → ((a : ℕ) (bytes : List ℕ) → AreNot is_call (reading a bytes)) → (sizes : List Size)
      (from to : ℕ) (bytes : List ℕ) → AreNot is_call (copies reading from to sizes bytes)
  copies_no_call reading none [] from to bytes = tt
  copies_no_call reading none (size ∷ sizes) from to bytes =
      AreNot-append is_call (reading from (take (bytes_in size) bytes)) _ (none from (take (bytes_in size) bytes))
      (refl, copies_no_call reading none sizes (from + bytes_in size) (to + bytes_in size) (drop (bytes_in size) bytes))

  answers_no_call : (registers : List ℕ) (to n : ℕ) (refusal : Option ℕ) (events : List Event) (result : Result ℕ HelperFault) → Answers
      shape memory registers held to n refusal events result → AreNot is_call events
  answers_no_call registers to n (Some refusal) events result r = none_of is_call events r.0
  answers_no_call registers to n None events result (said, inl r) = subst (AreNot is_call) (sym r.2)
      (copies_no_call no_loads (λ a bytes. tt) (parts_of n) _ to r.0)
  answers_no_call registers to n None events result (said, inr r) = subst (AreNot is_call) (sym r.3) (copies_no_call loads loads_no_call (parts_of n) _ to r.0)

  array_no_call : (n cpu : ℕ) (registers : List ℕ) (events : List Event) (result : Result ℕ HelperFault) (after : List Span) → IsArrayCall n
      cpu registers events result after → AreNot is_call events
  array_no_call n cpu registers events result after (a, g, at, inl (is, inl stops)) = stops_no_call registers events result after stops
  array_no_call n cpu registers events result after (a, g, at, inl (is, inr r)) = index_no_call _ r.0 events r.1
  array_no_call n cpu registers events result after (a, g, at, inr (inl (is, inl stops))) = none_of is_call events stops.1.0
  array_no_call n cpu registers events result after (a, g, at, inr (inl (is, inr (inl odd)))) = none_of is_call events odd.2.0
  array_no_call n cpu registers events result after (a, g, at, inr (inl (is, inr (inr r)))) =
      subst (AreNot is_call) (sym r.5) (AreNot-append is_call r.1 r.2 (index_no_call _ r.0 r.1 r.4) (answers_no_call registers _ g.value _ r.2 result r.6))
  array_no_call n cpu registers events result after (a, g, at, inr (inr (is, inl stops))) = stops_no_call registers events result after stops
  array_no_call n cpu registers events result after (a, g, at, inr (inr (is, inr r))) = none_of is_call events r.2

-- ---- accesses to values
-- no event, or one load or atomic operation; or one store
abbrev IsOne : List Event → Type 0
IsOne events = AreNot is_store events ⊎ ((a : ℕ) × (size : Size) × (x : ℕ) × (events ≡ Store a size x ∷ []))

module _ (shape : Shape) (old new : Cpu) (events : List Event) (progress : Progress) where
  loads_alone : (z : op.Size) (reading : ℕ → ℕ) (d : Reg) (a : ℕ) → LoadsValue shape z reading d a old events progress new → IsOne events
  loads_alone z reading d a (inl refused) = inl (none_of is_store events refused.2)
  loads_alone z reading d a (inr r) = inl (subst (AreNot is_store) (sym r.1.1) (refl, tt))

  stores_alone : (z : op.Size) (a x : ℕ) → StoresValue shape z a x old events progress new → IsOne events
  stores_alone z a x (inl refused) = inl (none_of is_store events refused.2)
  stores_alone z a x (inr r) = inr (a, event_size_of z, x, r.1)

  changes_alone : (w : Width) (o : AtomicOp) (s : Reg) (a : ℕ) → ChangesValue shape w o s a old events progress new → IsOne events
  changes_alone w o s a (inl refused) = inl (none_of is_store events refused.2)
  changes_alone w o s a (inr r) = inl (subst (AreNot is_store) (sym r.1.1) (refl, tt))

  value_alone : (i : Insn) → AsksValue shape i old events progress new → IsOne events
  value_alone (insn.Load z d b o) row = loads_alone z (λ x. x) d (effective_address old b o) row
  value_alone (insn.LoadSigned z d b o) row = loads_alone (plain_size z) (sign_extended (extension_of z)) d (effective_address old b o) row
  value_alone (insn.StoreImmediate z b o n) row = stores_alone z (effective_address old b o) (cast_unsigned w64 n) row
  value_alone (insn.Store z b o s) row = stores_alone z (effective_address old b o) (value old s) row
  value_alone (insn.Atomic w op b o s) row = changes_alone w op s (effective_address old b o) row
  value_alone i row = absurd row

-- loads and stores alone, or none is a store
pub stores_apart : (shape : Shape) (program : Loaded) (old new : Cpu) (events : List Event) (progress : Progress) → Step shape program old
    events progress new → AreNot is_store events ⊎ AreNot is_call events
stores_apart shape program old new events progress step = from step.row
  where
    of_helper : (n : ℕ) (result : Result ℕ HelperFault) (after : List Span) → AreNot is_store events ⊎ IsArrayCall shape old.memory old.held
        n old.number old.registers events result after → AreNot is_store events ⊎ AreNot is_call events
    of_helper n result after (inl none) = inl none
    of_helper n result after (inr call) = inr (array_no_call shape old.memory old.held n old.number old.registers events result after call)

    of_value : IsOne events → AreNot is_store events ⊎ AreNot is_call events
    of_value (inl none) = inl none
    of_value (inr one) = inr (subst (AreNot is_call) (sym one.3) (refl, tt))

    from : Executes shape step.instruction old events progress new → AreNot is_store events ⊎ AreNot is_call events
    from (inl r) = inl (none_of is_store events r.1)
    from (inr (inl (n, is, inl (helper, h)))) = of_helper n h.0 h.1 (helper_stores shape old.memory old.held n old.number old.registers events h.0 h.1 h.2)
    from (inr (inl (n, is, inr (inl asks)))) = inl (none_of is_store events asks.3)
    from (inr (inl (n, is, inr (inr (inl (lock, inl refused)))))) = inl (none_of is_store events refused.2)
    from (inr (inl (n, is, inr (inr (inl (lock, inr row)))))) = inl (subst (AreNot is_store) (sym row.1.1) (refl, tt))
    from (inr (inl (n, is, inr (inr (inr (lock, inl refused)))))) = inl (none_of is_store events refused.2)
    from (inr (inl (n, is, inr (inr (inr (lock, inr row)))))) = inl (subst (AreNot is_store) (sym row.1.1) (refl, tt))
    from (inr (inr r)) = of_value (value_alone shape old new events progress step.instruction r.1)

-- ---- a job that starts reaches no value
pub below_length : {A : Type 0} (xs : List A) (i : ℕ) (x : A) → slice_get xs i ≡ Some x → i < length xs
below_length [] i x e = absurd (let no : None ≡ Some x = e in cc)
below_length (y ∷ ys) zero x e = omega arith
below_length (y ∷ ys) (suc i) x e = let rest = below_length ys i x e in omega arith

-- from an address below those of values an offset of 16 bits leads below those of arrays, or past them all
abbrev IsFar : ℕ → Type 0
IsFar a = (a < 0x11_0000_0000) ⊎ (2 ^ 64 ≤ a + 0x8000)

far_from : (x : ℕ) (o : ℤ) → x ≤ 0x4_0000_0000 → FitsSigned w16 o → IsFar ((x + cast_unsigned w64 o) % 2 ^ 64)
far_from x (pos n) low fits =
    let small : n < 0x8000 = fits.sfits in
    let less : x + n < 2 ^ 64 = omega arith in
    let is : (x + n) % 2 ^ 64 ≡ x + n = mod-eq_of_lt less in
    inl (omega arith)
far_from x (negsuc n) low fits = elim (cases_lt n x) [
  | inl less ↦
      let whole : x + (2 ^ 64 - suc n) ≡ (x - suc n) + 1 * 2 ^ 64 = omega arith in
      let is : (x + (2 ^ 64 - suc n)) % 2 ^ 64 ≡ (x - suc n) % 2 ^ 64 = ap (λ (k : ℕ). k % 2 ^ 64) whole ∙ add-mul-mod_self_right (x - suc n) 1 (2 ^ 64) in
      let short : (x - suc n) % 2 ^ 64 ≡ x - suc n = mod-eq_of_lt (omega arith) in
      inl (omega arith)
  | inr past ↦
      let small : n < 0x8000 = fits.sfits in
      let is : (x + (2 ^ 64 - suc n)) % 2 ^ 64 ≡ x + (2 ^ 64 - suc n) = mod-eq_of_lt (omega arith) in
      inr (omega arith)
]

module _ (shape : Shape) (is : IsShape shape) (number : ℕ) (input : Input) where
  abbrev first : Cpu
  first = start number input

  low : (b : Reg) → value first b ≤ 0x4_0000_0000
  low R0 = omega arith
  low R1 = omega arith
  low R2 = omega arith
  low R3 = omega arith
  low R4 = omega arith
  low R5 = omega arith
  low R6 = omega arith
  low R7 = omega arith
  low R8 = omega arith
  low R9 = omega arith
  low R10 = omega arith

  far : (b : Reg) (o : ℤ) → FitsSigned w16 o → IsFar (effective_address first b o)
  far b o fits = far_from (value first b) o (low b) fits

  no_place : (a n : ℕ) → IsFar a → IsInArray shape a n → ⊥
  no_place a n (inl below) p = let after : array_start 0 ≤ a = p.after in omega arith
  no_place a n (inr past) p =
      let less : area_of a < length shape.arrays = below_length shape.arrays (area_of a) p.array p.is in
      let few : length shape.arrays ≤ 16 = is.array_count in
      let area : (a - array_start 0) / map_area < 17 = omega arith in
      absurd (omega arith)

  none_there : (a : ℕ) (z : op.Size) → IsFar a → IsThere shape first a z → ⊥
  none_there a z apart (inl h) = let no : false ≡ true = h in cc
  none_there a z apart (inr p) = no_place a (length_of z) apart p

  -- R1 has the context's address, where no lock is
  no_lock : IsThere shape first (slice_index first.registers 1) op_size.Word → ⊥
  no_lock = none_there 0x2_0000_0000 op_size.Word (inl (omega arith))

  -- no helper of maps asks a store: R1 is no map and no array
  no_call : (n : ℕ) (events : List Event) (result : Result ℕ HelperFault) (after : List Span) → CallsHelper shape n number first.registers
      first.memory [] events result after → events ≡ []
  no_call n events result after (inl r) = r.1
  no_call n events result after (inr (inl r)) = r.3.0
  no_call n events result after (inr (inr (inl r))) =
      let named : 0x2_0000_0000 ≡ 0x1_0000_0000 + r.0 = r.2.0 in
      let less : r.0 < length shape.maps = below_length shape.maps r.0 r.1 r.2.1 in
      let few : length shape.maps ≤ 16 = is.count in
      absurd (omega arith)
  no_call n events result after (inr (inr (inr r))) =
      let named : 0x2_0000_0000 ≡ 0x1_0000_0000 + (16 + r.0) = r.2.0 in
      let less : r.0 < length shape.arrays = below_length shape.arrays r.0 r.1 r.2.1 in
      let few : length shape.arrays ≤ 16 = is.array_count in
      absurd (omega arith)

  -- so it accesses no value
  module _ (new : Cpu) (progress : Progress) (events : List Event) where
    load_refused : (z : op.Size) (reading : ℕ → ℕ) (d : Reg) (a : ℕ) → IsFar a → LoadsValue shape z reading d a first events progress new → events ≡ []
    load_refused z reading d a apart (inl row) = row.2
    load_refused z reading d a apart (inr row) = absurd (none_there a z apart row.0.0)

    store_refused : (z : op.Size) (a x : ℕ) → IsFar a → StoresValue shape z a x first events progress new → events ≡ []
    store_refused z a x apart (inl row) = row.2
    store_refused z a x apart (inr row) = absurd (none_there a z apart row.0.0.0)

    change_refused : (w : Width) (o : AtomicOp) (s : Reg) (a : ℕ) → IsFar a → ChangesValue shape w o s a first events progress new → events ≡ []
    change_refused w o s a apart (inl row) = row.2
    change_refused w o s a apart (inr row) = absurd (none_there a (size_of w) apart row.0.0.0)

    value_refused : (i : Insn) → Fits i → AsksValue shape i first events progress new → events ≡ []
    value_refused (insn.Load z d b o) fits row = load_refused z (λ x. x) d (effective_address first b o) (far b o fits) row
    value_refused (insn.LoadSigned z d b o) fits row = load_refused (plain_size z) (sign_extended (extension_of z)) d
        (effective_address first b o) (far b o fits) row
    value_refused (insn.StoreImmediate z b o n) fits row = store_refused z (effective_address first b o) (cast_unsigned w64 n) (far b o fits.0) row
    value_refused (insn.Store z b o s) fits row = store_refused z (effective_address first b o) (value first s) (far b o fits) row
    value_refused (insn.Atomic w op b o s) fits row = change_refused w op s (effective_address first b o) (far b o fits) row
    value_refused i fits row = absurd row

pub first_asks_nothing : (shape : Shape) → IsShape shape → (program : Loaded) → FirstFits program → (number : ℕ) (input : Input) (new : Cpu)
    (events : List Event) (progress : Progress) → Step shape program (start number input) events progress new → events ≡ []
first_asks_nothing shape is program fits number input new events progress step = from step.row
  where
    from : Executes shape step.instruction (start number input) events progress new → events ≡ []
    from (inl r) = r.1
    from (inr (inl (n, at, inl (helper, h)))) = no_call shape is number input n events h.0 h.1 h.2
    from (inr (inl (n, at, inr (inl asks)))) = asks.3
    from (inr (inl (n, at, inr (inr (inl (lock, inl refused)))))) = refused.2
    from (inr (inl (n, at, inr (inr (inl (lock, inr row)))))) = absurd (no_lock shape is number input row.0.0.0)
    from (inr (inl (n, at, inr (inr (inr (unlock, inl refused)))))) = refused.2
    from (inr (inl (n, at, inr (inr (inr (unlock, inr row)))))) = absurd (no_lock shape is number input row.0.0.0)
    from (inr (inr r)) = value_refused shape is number input new progress events step.instruction (fits step.instruction step.begins) r.1
