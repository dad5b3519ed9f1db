-- The events of a step: none is a begin or an end of a run.
use Rattle.std.proofs.Common.{◌≡◌, ℕ, zero, suc, ◌+◌, List, [], ◌∷◌, ◌++◌, take, drop, Option, Some, None, Result, inl, inr, refl, ap, ◌∙◌, arith}
use Rattle.bpf_base.specs.Bytes.{little_endian}
use Rattle.bpf_shared.specs.Access.{bytes_in}
use Rattle.bpf_shared.specs.Shape.{Shape}
use Rattle.bpf_shared.specs.Own.{turns_of}
use Rattle.bpf_shared.specs.declared.events.Size.{Size}
use Rattle.bpf_shared.specs.declared.events.Span.{Span}
use Rattle.bpf_shared.specs.declared.events.Event.{Event}
use Rattle.bpf_shared.specs.declared.events.Event.TheVariants.{Lookup, Update, Delete, Store}
use Rattle.bpf_shared.specs.declared.shapes.MapShape.{MapShape}
use Rattle.bpf_shared.specs.declared.shapes.ArrayShape.{ArrayShape}
use Rattle.bpf_shared.proofs.Chains.{turns_of-append}
use Rattle.bpf_insn.specs.declared.instruction.Insn.{Insn}
use Rattle.bpf_insn.specs.declared.instruction.Insn.TheVariants as insn
use Rattle.bpf_mem.specs.declared.memory.PrivateMemory.{PrivateMemory}
use Rattle.bpf_helpers.specs.declared.fault.HelperFault.{HelperFault}
use Rattle.bpf_helpers.specs.Arrays.{copies, parts_of}
use Rattle.bpf_helpers.specs.Calls.{CallsHelper, CallsMap, CallsArray, StopsAtKey, Answers}
use Rattle.bpf_helpers.specs.Reads.{loads, no_loads, Reads, ReadsIndex}
use Rattle.bpf_loader.specs.Loaded.{Loaded}
use Rattle.bpf_cpu.specs.declared.cpu.Cpu.{Cpu}
use Rattle.bpf_cpu.specs.declared.outcome.Progress.{Progress}
use Rattle.bpf_cpu.specs.declared.outcome.Outcome.{Outcome}
use Rattle.bpf_cpu.specs.Step.{Step, MakesSteps, Executes}
use Rattle.bpf_cpu.specs.Values.{AsksValue}

abbrev AreInside : List Event → Type 0
AreInside events = turns_of events ≡ 0

none_inside : (events : List Event) → events ≡ [] → AreInside events
none_inside events e = ap turns_of e

both_inside : (xs ys events : List Event) → events ≡ xs ++ ys → AreInside xs → AreInside ys → AreInside events
both_inside xs ys events e p q =
    let all : turns_of events ≡ turns_of xs + turns_of ys = ap turns_of e ∙ turns_of-append xs ys in
    let sum : turns_of xs + turns_of ys ≡ 0 = omega (arith, p, q) in
    all ∙ sum

loads_inside : (a : ℕ) (bytes : List ℕ) → AreInside (loads a bytes)
loads_inside a [] = refl
loads_inside a (byte ∷ bytes) = loads_inside (suc a) bytes

copies_inside : (reading : ℕ → List ℕ → List Event) → ((a : ℕ) (bytes : List ℕ) → AreInside (reading a bytes)) → (sizes : List Size)
    (from to : ℕ) (bytes : List ℕ) → AreInside (copies reading from to sizes bytes)
copies_inside reading none [] from to bytes = refl
copies_inside reading none (size ∷ sizes) from to bytes =
    let own : List Event = reading from (take (bytes_in size) bytes) in
    let rest : List Event = Store to size (little_endian (take (bytes_in size) bytes)) ∷ copies reading (from + bytes_in size)
    (to + bytes_in size) sizes (drop (bytes_in size) bytes) in
    both_inside own rest (own ++ rest) refl (none from (take (bytes_in size) bytes))
    (copies_inside reading none sizes (from + bytes_in size) (to + bytes_in size) (drop (bytes_in size) bytes))

module _ (shape : Shape) (memory : PrivateMemory) (registers : List ℕ) (held : List Span) where
  reads_inside : (a n : ℕ) (key : List ℕ) (events : List Event) → Reads shape memory held a n key events → AreInside events
  reads_inside a n key events (inl r) = none_inside events r.1
  reads_inside a n key events (inr r) = ap turns_of r.3 ∙ loads_inside a key

  index_inside : (a index : ℕ) (events : List Event) → ReadsIndex shape memory held a index events → AreInside events
  index_inside a index events (inl r) = none_inside events r.3
  index_inside a index events (inr r) = ap turns_of r.3

  map_inside : (m : ℕ) (h : MapShape) (n : ℕ) (events : List Event) (result : Result ℕ HelperFault) (after : List Span) → CallsMap shape
      memory registers held m h n events result after → AreInside events
  map_inside m h n events result after (inl (is, inl stops)) = none_inside events stops.1.0
  map_inside m h n events result after (inl (is, inr r)) = both_inside r.1 (Lookup m r.0 r.2 ∷ []) events r.4 (reads_inside _ _ r.0 r.1 r.3) refl
  map_inside m h n events result after (inr (inl (is, inl stops))) = none_inside events stops.1.0
  map_inside m h n events result after (inr (inl (is, inr r))) =
      both_inside (r.2 ++ r.3) (Update m r.0 r.1 _ r.4 ∷ []) events r.7
      (both_inside r.2 r.3 (r.2 ++ r.3) refl (reads_inside _ _ r.0 r.2 r.5) (reads_inside _ _ r.1 r.3 r.6)) refl
  map_inside m h n events result after (inr (inr (is, inl stops))) = none_inside events stops.1.0
  map_inside m h n events result after (inr (inr (is, inr r))) = both_inside r.1 (Delete m r.0 r.2 ∷ []) events r.4 (reads_inside _ _ r.0 r.1 r.3) refl

  stops_inside : (events : List Event) (result : Result ℕ HelperFault) (after : List Span) → StopsAtKey shape memory registers held events
      result after → AreInside events
  stops_inside events result after (inl r) = none_inside events r.1.0
  stops_inside events result after (inr r) = none_inside events r.1.0

  answers_inside : (to n : ℕ) (refusal : Option ℕ) (events : List Event) (result : Result ℕ HelperFault) → Answers shape memory registers
      held to n refusal events result → AreInside events
  answers_inside to n (Some refusal) events result r = none_inside events r.0
  answers_inside to n None events result (said, inl r) = ap turns_of r.2 ∙ copies_inside no_loads (λ a bytes. refl) (parts_of n) _ to r.0
  answers_inside to n None events result (said, inr r) = ap turns_of r.3 ∙ copies_inside loads loads_inside (parts_of n) _ to r.0

  array_inside : (cpu a : ℕ) (g : ArrayShape) (n : ℕ) (events : List Event) (result : Result ℕ HelperFault) (after : List Span) → CallsArray
      shape memory registers held cpu a g n events result after → AreInside events
  array_inside cpu a g n events result after (inl (is, inl stops)) = stops_inside events result after stops
  array_inside cpu a g n events result after (inl (is, inr r)) = index_inside _ r.0 events r.1
  array_inside cpu a g n events result after (inr (inl (is, inl stops))) = none_inside events stops.1.0
  array_inside cpu a g n events result after (inr (inl (is, inr (inl odd)))) = none_inside events odd.2.0
  array_inside cpu a g n events result after (inr (inl (is, inr (inr r)))) = both_inside r.1 r.2 events r.5 (index_inside _ r.0 r.1 r.4)
      (answers_inside _ g.value _ r.2 result r.6)
  array_inside cpu a g n events result after (inr (inr (is, inl stops))) = stops_inside events result after stops
  array_inside cpu a g n events result after (inr (inr (is, inr r))) = none_inside events r.2

  helper_inside : (n cpu : ℕ) (events : List Event) (result : Result ℕ HelperFault) (after : List Span) → CallsHelper shape n cpu registers
      memory held events result after → AreInside events
  helper_inside n cpu events result after (inl r) = none_inside events r.1
  helper_inside n cpu events result after (inr (inl r)) = none_inside events r.3.0
  helper_inside n cpu events result after (inr (inr (inl r))) = map_inside r.0 r.1 n events result after r.3
  helper_inside n cpu events result after (inr (inr (inr r))) = array_inside cpu r.0 r.1 n events result after r.4

module _ (shape : Shape) (old new : Cpu) (events : List Event) (progress : Progress) where
  value_inside : (i : Insn) → AsksValue shape i old events progress new → AreInside events
  value_inside (insn.Load z d b o) (inl refused) = none_inside events refused.2
  value_inside (insn.Load z d b o) (inr r) = ap turns_of r.1.1
  value_inside (insn.LoadSigned z d b o) (inl refused) = none_inside events refused.2
  value_inside (insn.LoadSigned z d b o) (inr r) = ap turns_of r.1.1
  value_inside (insn.StoreImmediate z b o n) (inl refused) = none_inside events refused.2
  value_inside (insn.StoreImmediate z b o n) (inr r) = ap turns_of r.1
  value_inside (insn.Store z b o s) (inl refused) = none_inside events refused.2
  value_inside (insn.Store z b o s) (inr r) = ap turns_of r.1
  value_inside (insn.Atomic w op b o s) (inl refused) = none_inside events refused.2
  value_inside (insn.Atomic w op b o s) (inr r) = ap turns_of r.1.1
  value_inside i row = absurd row

  row_inside : (i : Insn) → Executes shape i old events progress new → AreInside events
  row_inside i (inl r) = none_inside events r.1
  row_inside i (inr (inl (number, is, inr (inl asks)))) = none_inside events asks.3
  row_inside i (inr (inl (number, is, inr (inr (inl (lock, inl refused)))))) = none_inside events refused.2
  row_inside i (inr (inl (number, is, inr (inr (inl (lock, inr r)))))) = ap turns_of r.1.1
  row_inside i (inr (inl (number, is, inr (inr (inr (lock, inl refused)))))) = none_inside events refused.2
  row_inside i (inr (inl (number, is, inr (inr (inr (lock, inr r)))))) = ap turns_of r.1.1
  row_inside i (inr (inl (number, is, inl (helper, (result, after, calls, takes))))) = helper_inside shape old.memory old.registers old.held
      number old.number events result after calls
  row_inside i (inr (inr r)) = value_inside i r.1

pub step_inside : (shape : Shape) (program : Loaded) (old new : Cpu) (events : List Event) (progress : Progress) → Step shape program old
    events progress new → AreInside events
step_inside shape program old new events progress step = row_inside shape old new events progress step.instruction step.row

-- nor of the steps of a run
pub steps_inside : (shape : Shape) (program : Loaded) (n : ℕ) (old : Cpu) (events : List Event) (end : Outcome) (new : Cpu) → MakesSteps
    shape program n old events end new → turns_of events ≡ 0
steps_inside shape program zero old events end new made = none_inside events made.0
steps_inside shape program (suc n) old events end new (inl step) = step_inside shape program old new events _ step
steps_inside shape program (suc n) old events end new (inr (first, rest, mid, is, step, made)) =
    both_inside first rest events is (step_inside shape program old mid first _ step) (steps_inside shape program n mid rest end new made)
