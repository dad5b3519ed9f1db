-- How many counted events a step has, and what follows for runs.
use Rattle.std.proofs.Common.{◌≡◌, ℕ, suc, ◌+◌, ◌<◌, ◌≤◌, Bool, true, false, List, [], ◌∷◌, ◌++◌, Option, Some, None, Result, inl, inr}
use Rattle.std.proofs.Common.{refl, sym, ap, subst, ◌∙◌, take, drop, arith, eq-eqb}
use Rattle.std.specs.Prelude.{◌==◌, ◌&&◌, slice_get, slice_index}
use Rattle.bpf_insn.specs.declared.instruction.Insn.{Insn}
use Rattle.bpf_insn.specs.declared.instruction.Insn.TheVariants as insn
use Rattle.bpf_mem.specs.declared.memory.PrivateMemory.{PrivateMemory}
use Rattle.bpf_shared.specs.declared.events.Event.{Event}
use Rattle.bpf_shared.specs.declared.events.Event.TheVariants.{Lookup, Update, Delete, Load, Store, Atomic}
use Rattle.bpf_shared.specs.declared.events.Size.{Size}
use Rattle.bpf_shared.specs.declared.events.Size.TheVariants.{Byte, Word}
use Rattle.bpf_shared.specs.Access.{bytes_in}
use Rattle.bpf_shared.specs.Shape.{Shape, fixed_span}
use Rattle.bpf_base.specs.Bytes.{little_endian}
use Rattle.bpf_base.specs.declared.atomic.Change.{Change as AtomicOp}
use Rattle.bpf_base.specs.declared.atomic.Change.TheVariants.{Exchange, CompareExchange}
use Rattle.std.proofs.lemmas.Bool.Decides.{nat_tests}
use Rattle.std.specs.Int.{w64, cast_unsigned}
use Rattle.std.proofs.lemmas.Bool.{and_parts, and_from}
use Rattle.bpf_insn.specs.Atomic.{change_of}
use Rattle.bpf_insn.specs.declared.register.Reg.{Reg}
use Rattle.bpf_insn.specs.declared.operation.widths.Width.{Width}
use Rattle.bpf_insn.specs.declared.operation.sizes.Size as size
use Rattle.bpf_insn.specs.declared.operation.atomics.AtomicOp as ops
use Rattle.bpf_alu.specs.Arithmetic.{sign_extended}
use Rattle.bpf_mem.specs.Bytes.{size_of}
use Rattle.bpf_cpu.specs.State.{value, effective_address}
use Rattle.bpf_cpu.specs.Row.{plain_size, extension_of}
use Rattle.bpf_shared.specs.declared.events.MapAnswer.{MapAnswer}
use Rattle.bpf_shared.specs.declared.events.Span.{Span}
use Rattle.bpf_shared.specs.declared.shapes.MapShape.{MapShape}
use Rattle.bpf_shared.specs.declared.shapes.ArrayShape.{ArrayShape}
use Rattle.bpf_helpers.specs.Arrays.{array_refusal, copies, parts_of}
use Rattle.bpf_helpers.specs.Calls.{lookup_number, update_number, delete_number, map_value, copy_for, LooksUp, UpdatesMap, DeletesKey}
use Rattle.bpf_helpers.specs.Calls.{CallsMap, Copies, StopsAtKey, LooksUpIndex, Answers, UpdatesIndex, DeletesIndex, CallsArray}
use Rattle.bpf_helpers.specs.Calls.{CallsHelper}
use Rattle.bpf_helpers.specs.Reads.{Reads, ReadsIndex, loads, no_loads}
use Rattle.bpf_helpers.specs.declared.fault.HelperFault.{HelperFault}
use Rattle.bpf_cpu.specs.declared.cpu.Cpu.{Cpu}
use Rattle.bpf_cpu.specs.declared.outcome.Progress.{Progress}
use Rattle.bpf_cpu.specs.Helping.{Helper}
use Rattle.bpf_cpu.specs.Values.{AsksValue, LoadsValue, StoresValue, ChangesValue, event_size_of}
use Rattle.bpf_cpu.specs.Step.{Executes}
use Rattle.bpf_threads.specs.declared.counting.Kind.{Kind}
use Rattle.bpf_threads.specs.declared.counting.Kind.TheVariants.{Updates, Removals}
use Rattle.bpf_threads.specs.declared.counting.Counted.{Counted}
use Rattle.bpf_threads.specs.declared.spot.Spot.{Spot}
use Rattle.bpf_threads.specs.Chart.{IsKnownOf}
use Rattle.bpf_threads.specs.Counting.{may_replace, is_counted, one_if, how_many, may_be, may_replace_by, is_counted_call, known_in, known_at, weight}

-- ---- events
count-append : (q : Counted) (xs ys : List Event) → how_many q (xs ++ ys) ≡ how_many q xs + how_many q ys
count-append q [] ys = omega arith
count-append q (x ∷ xs) ys = omega (arith, count-append q xs ys)

-- loads aren't counted, nor are stores and atomic operations
load_uncounted : (k : Kind) (a : ℕ) (z : Size) (x m : ℕ) → is_counted k (Load a z x) m ≡ false
load_uncounted Updates a z x m = refl
load_uncounted Removals a z x m = refl

store_uncounted : (k : Kind) (a : ℕ) (z : Size) (x m : ℕ) → is_counted k (Store a z x) m ≡ false
store_uncounted Updates a z x m = refl
store_uncounted Removals a z x m = refl

atomic_uncounted : (k : Kind) (a : ℕ) (z : Size) (op : AtomicOp) (x y f m : ℕ) → is_counted k (Atomic a z op x y f) m ≡ false
atomic_uncounted Updates a z op x y f m = refl
atomic_uncounted Removals a z op x y f m = refl

lookup_uncounted : (k : Kind) (n : ℕ) (key : List ℕ) (answer : Option Span) (m : ℕ) → is_counted k (Lookup n key answer) m ≡ false
lookup_uncounted Updates n key answer m = refl
lookup_uncounted Removals n key answer m = refl

one_uncounted : (q : Counted) (e : Event) → is_counted q.kind e q.map ≡ false → how_many q (e ∷ []) ≡ 0
one_uncounted q e unseen = ap (λ (b : Bool). one_if b + 0) unseen

none_loaded : (q : Counted) (a : ℕ) (bytes : List ℕ) → how_many q (loads a bytes) ≡ 0
none_loaded q a [] = refl
none_loaded q a (b ∷ bytes) =
    let first : one_if (is_counted q.kind (Load a Byte b) q.map) ≡ 0 = ap one_if (load_uncounted q.kind a Byte b q.map) in
    omega (arith, first, none_loaded q (suc a) bytes)

-- reading a key or a value has no counted event
none_read : (q : Counted) (s : Shape) (memory : PrivateMemory) (held : List Span) (a n : ℕ) (bytes : List ℕ) (events : List Event) → Reads s
    memory held a n bytes events → how_many q events ≡ 0
none_read q s memory held a n bytes events (inl own) = ap (how_many q) own.1
none_read q s memory held a n bytes events (inr held_bytes) = ap (how_many q) held_bytes.3 ∙ none_loaded q a bytes

-- ---- a helper's call
known_there : (o : Option (Option ℕ)) (x : ℕ) → known_in o ≡ Some x → o ≡ Some (Some x)
known_there None x e = absurd cc
known_there (Some y) x e = ap (λ (z : Option ℕ). Some z) e

-- what is known of a register is so
read_known : (p : Spot) (registers : List ℕ) → IsKnownOf p.known registers → (n x : ℕ) → n < 10 → known_at p n ≡ Some x → slice_index registers n ≡ x
read_known p registers h n x below e = h n x below (known_there (slice_get p.known n) x e)

-- the call's map is the one that is known
map_seen : (known : Option ℕ) (m r : ℕ) → ((x : ℕ) → known ≡ Some x → r ≡ x) → r ≡ map_value m → may_be known m ≡ true
map_seen None m r is e = refl
map_seen (Some x) m r is e = eq-eqb x (map_value m) (sym (is x refl) ∙ e)

-- and so are its flags
flags_seen : (known : Option ℕ) (flags : ℕ) → ((x : ℕ) → known ≡ Some x → flags ≡ x) → may_replace flags ≡ true → may_replace_by known ≡ true
flags_seen None flags is may = refl
flags_seen (Some x) flags is may = subst (λ (y : ℕ). may_replace y ≡ true) (is x refl) may

at_most_one : (b : Bool) → one_if b ≤ 1
at_most_one true = omega arith
at_most_one false = omega arith

-- a counted event has this weight
counted_weight : (b c : Bool) → (b ≡ true → c ≡ true) → one_if b ≤ one_if c
counted_weight false c is = omega arith
counted_weight true c is = subst (λ (x : Bool). 1 ≤ one_if x) (sym (is refl)) (omega arith)

same_number : (a b : ℕ) → (a == b) ≡ true → a ≡ b
same_number a b e = grind (arith, nat_tests)

module _ (q : Counted) (p : Spot) (registers : List ℕ) (h : IsKnownOf p.known registers) (s : Shape) (m : ℕ) (is : slice_index registers 1 ≡ map_value m) where
  here : m ≡ q.map → may_be (known_at p 1) q.map ≡ true
  here same = map_seen (known_at p 1) q.map (slice_index registers 1) (λ x e. read_known p registers h 1 x (omega arith) e) (is ∙ ap map_value same)

  update_weight : (k : Kind) (key bytes : List ℕ) (answer : MapAnswer) → is_counted k (Update m key bytes (slice_index registers 4) answer)
      q.map ≡ true → is_counted_call k update_number (known_at p 4) && may_be (known_at p 1) q.map ≡ true
  update_weight Updates key bytes answer e = and_from true (may_be (known_at p 1) q.map) refl (here (same_number m q.map e))
  update_weight Removals key bytes answer e =
      let parts = and_parts (m == q.map) (may_replace (slice_index registers 4)) e in
      and_from (may_replace_by (known_at p 4)) (may_be (known_at p 1) q.map)
      (flags_seen (known_at p 4) (slice_index registers 4) (λ x f. read_known p registers h 4 x (omega arith) f) parts.1)
      (here (same_number m q.map parts.0))

  delete_weight : (k : Kind) (key : List ℕ) (answer : MapAnswer) → is_counted k (Delete m key answer) q.map ≡ true → is_counted_call k
      delete_number (known_at p 4) && may_be (known_at p 1) q.map ≡ true
  delete_weight Updates key answer e = absurd cc
  delete_weight Removals key answer e = and_from true (may_be (known_at p 1) q.map) refl (here (same_number m q.map e))

  -- an event after some that aren't counted
  last_counts : (first events : List Event) (e : Event) → how_many q first ≡ 0 → events ≡ first ++ e ∷ [] → how_many q events ≡ one_if
      (is_counted q.kind e q.map)
  last_counts first events e none is_last =
      ap (how_many q) is_last ∙ omega (arith, count-append q first (e ∷ []), none)

  module _ (memory : PrivateMemory) (shape : MapShape) (held after : List Span) (events : List Event) (result : Result ℕ HelperFault) where
    lookup_counts : LooksUp s memory registers held m shape events result after → how_many q events ≤ weight q p (insn.CallHelper lookup_number)
    lookup_counts (inl stops) = subst (λ (es : List Event). how_many q es ≤ weight q p (insn.CallHelper lookup_number)) (sym stops.1.0) (omega arith)
    lookup_counts (inr (key, first, answer, reads, e, takes)) =
        let none = none_read q s memory held (slice_index registers 2) shape.key key first reads in
        let last : how_many q events ≡ 0 = last_counts first events (Lookup m key answer) none e ∙ ap one_if (lookup_uncounted q.kind m key answer q.map) in
        omega (arith, last)

    update_counts : UpdatesMap s memory registers held m shape events result after → how_many q events ≤ weight q p (insn.CallHelper update_number)
    update_counts (inl stops) = subst (λ (es : List Event). how_many q es ≤ weight q p (insn.CallHelper update_number)) (sym stops.1.0) (omega arith)
    update_counts (inr (key, bytes, first, second, answer, reads, more, e, number, same)) =
        let none = none_read q s memory held (slice_index registers 2) shape.key key first reads in
        let nor = none_read q s memory held (slice_index registers 3) shape.value bytes second more in
        let both : how_many q (first ++ second) ≡ 0 = omega (arith, count-append q first second, none, nor) in
        let last = last_counts (first ++ second) events (Update m key bytes (slice_index registers 4) answer) both e in
        let most = counted_weight _ _ (update_weight q.kind key bytes answer) in
        omega (arith, last, most)

    delete_counts : DeletesKey s memory registers held m shape events result after → how_many q events ≤ weight q p (insn.CallHelper delete_number)
    delete_counts (inl stops) = subst (λ (es : List Event). how_many q es ≤ weight q p (insn.CallHelper delete_number)) (sym stops.1.0) (omega arith)
    delete_counts (inr (key, first, answer, reads, e, number, same)) =
        let none = none_read q s memory held (slice_index registers 2) shape.key key first reads in
        let last = last_counts first events (Delete m key answer) none e in
        let most = counted_weight _ _ (delete_weight q.kind key answer) in
        omega (arith, last, most)

    map_counts : (n : ℕ) → CallsMap s memory registers held m shape n events result after → how_many q events ≤ weight q p (insn.CallHelper n)
    map_counts n (inl (e, row)) = subst (λ (k : ℕ). how_many q events ≤ weight q p (insn.CallHelper k)) (sym e) (lookup_counts row)
    map_counts n (inr (inl (e, row))) = subst (λ (k : ℕ). how_many q events ≤ weight q p (insn.CallHelper k)) (sym e) (update_counts row)
    map_counts n (inr (inr (e, row))) = subst (λ (k : ℕ). how_many q events ≤ weight q p (insn.CallHelper k)) (sym e) (delete_counts row)

-- ---- a call on an array has loads and stores alone
module _ (q : Counted) where
  none_copied : (reading : ℕ → List ℕ → List Event) → ((a : ℕ) (bytes : List ℕ) → how_many q (reading a bytes) ≡ 0)
      → (from to : ℕ) (sizes : List Size) (bytes : List ℕ) → how_many q (copies reading from to sizes bytes) ≡ 0
  none_copied reading none from to [] bytes = refl
  none_copied reading none from to (z ∷ sizes) bytes =
      let part = take (bytes_in z) bytes in
      let store = Store to z (little_endian part) in
      let rest = copies reading (from + bytes_in z) (to + bytes_in z) sizes (drop (bytes_in z) bytes) in
      let both : how_many q (reading from part ++ store ∷ rest) ≡ how_many q (reading from part) + how_many q (store ∷ rest) = count-append
      q (reading from part) (store ∷ rest) in
      let stored : one_if (is_counted q.kind store q.map) ≡ 0 = ap one_if (store_uncounted q.kind to z (little_endian part) q.map) in
      let behind = none_copied reading none (from + bytes_in z) (to + bytes_in z) sizes (drop (bytes_in z) bytes) in
      omega (arith, both, none from part, stored, behind)

  value_counts : (memory : PrivateMemory) (from to n : ℕ) (events : List Event) → Copies memory from to n events → how_many q events ≡ 0
  value_counts memory from to n events (inl (bytes, own, e)) =
      ap (how_many q) e ∙ none_copied no_loads (λ a xs. refl) from to (parts_of n) bytes
  value_counts memory from to n events (inr (bytes, none, size, e)) =
      ap (how_many q) e ∙ none_copied loads (none_loaded q) from to (parts_of n) bytes

  module _ (s : Shape) (memory : PrivateMemory) (registers : List ℕ) (held : List Span) where
    index_counts : (a index : ℕ) (events : List Event) → ReadsIndex s memory held a index events → how_many q events ≡ 0
    index_counts a index events (inl (key, own, number, e)) = ap (how_many q) e
    index_counts a index events (inr (none, reached, even, e)) =
        ap (how_many q) e ∙ one_uncounted q (Load a Word index) (load_uncounted q.kind a Word index q.map)

    answer_counts : (to n : ℕ) (refusal : Option ℕ) (events : List Event) (result : Result ℕ HelperFault) → Answers s memory registers held
        to n refusal events result → how_many q events ≡ 0
    answer_counts to n (Some refusal) events result row = ap (how_many q) row.0
    answer_counts to n None events result row = value_counts memory (slice_index registers 3) to n events row.1

    module _ (cpu a : ℕ) (g : ArrayShape) (events : List Event) (result : Result ℕ HelperFault) (after : List Span) where
      stop_counts : StopsAtKey s memory registers held events result after → how_many q events ≡ 0
      stop_counts (inl bad) = ap (how_many q) bad.1.0
      stop_counts (inr odd) = ap (how_many q) odd.1.0

      look_counts : LooksUpIndex s memory registers held cpu a g events result after → how_many q events ≡ 0
      look_counts (inl stops) = stop_counts stops
      look_counts (inr (index, reads, is, same)) = index_counts (slice_index registers 2) index events reads

      change_counts : UpdatesIndex s memory registers held cpu a g events result after → how_many q events ≡ 0
      change_counts (inl bad) = ap (how_many q) bad.1.0
      change_counts (inr (inl odd)) = ap (how_many q) odd.2.0
      change_counts (inr (inr (index, first, rest, may, reads, e, answers, same))) =
          let none = index_counts (slice_index registers 2) index first reads in
          let to = (fixed_span a g (copy_for cpu g) index).at in
          let nor = answer_counts to g.value (array_refusal g index (slice_index registers 4)) rest result answers in
          let all : how_many q events ≡ how_many q first + how_many q rest = ap (how_many q) e ∙ count-append q first rest in
          omega (arith, none, nor, all)

      remove_counts : DeletesIndex s memory registers held events result after → how_many q events ≡ 0
      remove_counts (inl stops) = stop_counts stops
      remove_counts (inr row) = ap (how_many q) row.2

    array_counts : (cpu a : ℕ) (g : ArrayShape) (n : ℕ) (events : List Event) (result : Result ℕ HelperFault) (after : List Span) →
        CallsArray s memory registers held cpu a g n events result after → how_many q events ≡ 0
    array_counts cpu a g n events result after (inl (e, row)) = look_counts cpu a g events result after row
    array_counts cpu a g n events result after (inr (inl (e, row))) = change_counts cpu a g events result after row
    array_counts cpu a g n events result after (inr (inr (e, row))) = remove_counts cpu a g events result after row

module _ (q : Counted) (p : Spot) (old : Cpu) (h : IsKnownOf p.known old.registers) where
  none_at_all : (events : List Event) (i : Insn) → events ≡ [] → how_many q events ≤ weight q p i
  none_at_all events i e = subst (λ (es : List Event). how_many q es ≤ weight q p i) (sym e) (omega arith)

  call_counts : (s : Shape) (n : ℕ) (events : List Event) (result : Result ℕ HelperFault) (after : List Span)
      → CallsHelper s n old.number old.registers old.memory old.held events result after → how_many q events ≤ weight q p (insn.CallHelper n)
  call_counts s n events result after (inl own) = none_at_all events (insn.CallHelper n) own.1
  call_counts s n events result after (inr (inl none)) = none_at_all events (insn.CallHelper n) none.3.0
  call_counts s n events result after (inr (inr (inl (m, shape, is, calls)))) = map_counts q p old.registers h s m is.0 old.memory shape
      old.held after events result n calls
  call_counts s n events result after (inr (inr (inr (a, g, is, no_map, calls)))) =
      let none = array_counts q s old.memory old.registers old.held old.number a g n events result after calls in
      omega (arith, none)

  single : (i : Insn) (events : List Event) (e : Event) → is_counted q.kind e q.map ≡ false → events ≡ e ∷ [] → how_many q events ≤ weight q p i
  single i events e unseen is = let none : how_many q events ≡ 0 = ap (how_many q) is ∙ one_uncounted q e unseen in omega (arith, none)

  module _ (s : Shape) (i : Insn) (events : List Event) (progress : Progress) (new : Cpu) where
    loads_count : (z : size.Size) (reading : ℕ → ℕ) (d : Reg) (a : ℕ) → LoadsValue s z reading d a old events progress new → how_many q events ≤ weight q p i
    loads_count z reading d a (inl odd) = none_at_all events i odd.2
    loads_count z reading d a (inr row) = single i events (Load a (event_size_of z) row.1.0) (load_uncounted q.kind a (event_size_of z) row.1.0 q.map) row.1.1

    stores_count : (z : size.Size) (a x : ℕ) → StoresValue s z a x old events progress new → how_many q events ≤ weight q p i
    stores_count z a x (inl odd) = none_at_all events i odd.2
    stores_count z a x (inr row) = single i events (Store a (event_size_of z) x) (store_uncounted q.kind a (event_size_of z) x q.map) row.1

    changes_count : (w : Width) (op : ops.AtomicOp) (r : Reg) (a : ℕ) → ChangesValue s w op r a old events progress new → how_many q events ≤ weight q p i
    changes_count w op r a (inl odd) = none_at_all events i odd.2
    changes_count w op r a (inr row) = single i events _ (atomic_uncounted q.kind a (event_size_of (size_of w)) (change_of op) (value old r)
        (slice_index old.registers 0) row.1.0 q.map) row.1.1

  asks_count : (shape : Shape) (i : Insn) (events : List Event) (progress : Progress) (new : Cpu) → AsksValue shape i old events progress
      new → how_many q events ≤ weight q p i
  asks_count shape (insn.Load z d b o) events progress new row = loads_count shape (insn.Load z d b o) events progress new z (λ x. x) d
      (effective_address old b o) row
  asks_count shape (insn.LoadSigned z d b o) events progress new row = loads_count shape (insn.LoadSigned z d b o) events progress new
      (plain_size z) (sign_extended (extension_of z)) d (effective_address old b o) row
  asks_count shape (insn.StoreImmediate z b o n) events progress new row = stores_count shape (insn.StoreImmediate z b o n) events progress
      new z (effective_address old b o) (cast_unsigned w64 n) row
  asks_count shape (insn.Store z b o s) events progress new row = stores_count shape (insn.Store z b o s) events progress new z
      (effective_address old b o) (value old s) row
  asks_count shape (insn.Atomic w op b o s) events progress new row = changes_count shape (insn.Atomic w op b o s) events progress new w op
      s (effective_address old b o) row
  asks_count shape _ events progress new row = absurd row

  helper_counts : (s : Shape) (n : ℕ) (events : List Event) (progress : Progress) (new : Cpu) → Helper s n old events progress new →
      how_many q events ≤ weight q p (insn.CallHelper n)
  helper_counts s n events progress new (inl asks) = call_counts s n events asks.1.0 asks.1.1 asks.1.2
  helper_counts s n events progress new (inr (inl asks)) = none_at_all events (insn.CallHelper n) asks.3
  helper_counts s n events progress new (inr (inr (inl (is, inl refused)))) = none_at_all events (insn.CallHelper n) refused.2
  helper_counts s n events progress new (inr (inr (inl (is, inr row)))) = single (insn.CallHelper n) events _
      (atomic_uncounted q.kind (slice_index old.registers 1) Word CompareExchange 1 0 row.1.0 q.map) row.1.1
  helper_counts s n events progress new (inr (inr (inr (is, inl refused)))) = none_at_all events (insn.CallHelper n) refused.2
  helper_counts s n events progress new (inr (inr (inr (is, inr row)))) = single (insn.CallHelper n) events _
      (atomic_uncounted q.kind (slice_index old.registers 1) Word Exchange 0 0 row.1.0 q.map) row.1.1

  -- a step has at most the counted events of its instruction's weight
  pub step_counts : (s : Shape) (i : Insn) (events : List Event) (progress : Progress) (new : Cpu) → Executes s i old events progress new →
      how_many q events ≤ weight q p i
  step_counts s i events progress new (inl row) = none_at_all events i row.1
  step_counts s i events progress new (inr (inl (n, e, call))) =
      subst (λ (j : Insn). how_many q events ≤ weight q p j) (sym e) (helper_counts s n events progress new call)
  step_counts s i events progress new (inr (inr row)) = asks_count s i events progress new row.1

pub append_counts : (q : Counted) (xs ys : List Event) → how_many q (xs ++ ys) ≡ how_many q xs + how_many q ys
append_counts q xs ys = count-append q xs ys
