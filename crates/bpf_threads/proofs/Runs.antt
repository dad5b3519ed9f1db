-- What is so of each spot of a chart is so of each run.
use Rattle.std.proofs.Common.{◌≡◌, ℕ, zero, suc, ◌+◌, ◌≤◌, List, Option, Some, None, ◌⊎◌, inl, inr, refl, sym, ap, subst, ◌∙◌, arith}
use Rattle.bpf_shared.specs.Shape.{Shape}
use Rattle.std.specs.Prelude.{Bool, ◌&&◌, IfSome, slice_get}
use Rattle.bpf_insn.specs.declared.instruction.Insn.{Insn}
use Rattle.bpf_insn.specs.declared.instruction.Insn.TheVariants.{CallHelper}
use Rattle.bpf_insn.specs.declared.register.Reg.TheVariants.{R1, R2, R3}
use Rattle.bpf_shared.specs.declared.events.Event.{Event}
use Rattle.bpf_shared.specs.declared.shapes.ArrayShape.{ArrayShape}
use Rattle.bpf_loader.specs.Loaded.{Loaded}
use Rattle.bpf_loader.specs.Places.{Begins, IsStart}
use Rattle.bpf_loader.specs.Sound.{IsSafe}
use Rattle.bpf_loader.proofs.DeterminedPlaces.{one_instruction_begins}
use Rattle.bpf_helpers.specs.Calls.{IsArrayAt, lock_number}
use Rattle.bpf_helpers.specs.Given.{AsksOnce}
use Rattle.bpf_cpu.specs.declared.cpu.Cpu.{Cpu}
use Rattle.bpf_cpu.specs.declared.input.Input.{Input}
use Rattle.bpf_cpu.specs.declared.outcome.Progress.TheVariants.{On, Done}
use Rattle.bpf_cpu.specs.declared.outcome.Outcome.{Outcome}
use Rattle.bpf_cpu.specs.State.{start}
use Rattle.bpf_cpu.specs.Step.{IsReady, Step, MakesSteps}
use Rattle.bpf_cpu.proofs.RowLaws.{start_ready}
use Rattle.bpf_cpu.proofs.ValueLaws.{executes_ready}
use Rattle.bpf_threads.specs.declared.counting.Counted.{Counted}
use Rattle.bpf_threads.specs.declared.counting.Kind.{Kind}
use Rattle.bpf_threads.specs.declared.counting.Kind.TheVariants.{Updates, Removals}
use Rattle.bpf_threads.specs.declared.spot.Spot.{Spot}
use Rattle.bpf_threads.specs.Chart.{FollowsSpots, IsChart, IsCharted}
use Rattle.bpf_threads.specs.Counting.{how_many, is_counted_call, known_at, may_be, one_if, weight, HasNumber, LeavesEnough, AreAllBounds, HasAtMost}
use Rattle.bpf_threads.specs.Outside.{IsCopiedAtOnce, IsOutsideValues, ReadsOutside, LeadsInSteps, AllReadOutside}
use Rattle.bpf_threads.specs.Private.Outside.{PlaceReadsOutside, ReadsOutsideAt, UpdatesAtOnce}
use Rattle.bpf_threads.proofs.Standing.{Stands, Arrives, Comes, Tries, comes, knows}
use Rattle.bpf_threads.proofs.Steps.{step_counts, append_counts}

-- a lock's call isn't counted
lock_weight : (k : Kind) (flags : Option ℕ) (b : Bool) → one_if (is_counted_call k lock_number flags && b) ≡ 0
lock_weight Updates flags b = refl
lock_weight Removals flags b = refl

module _ (program : Loaded) (spots : List Spot) (chart : IsChart program spots) where
  -- the instruction of a step is the spot's
  same_instruction : (p : Spot) (old : Cpu) → Stands program p old → (i j : Insn) → Begins program.instructions p.pc i → Begins
      program.instructions old.pc j → i ≡ j
  same_instruction p old at i j here there =
      one_instruction_begins program.instructions p.pc i j here (subst (λ (pc : ℕ). Begins program.instructions pc j) at.here there)

  -- what the instruction of a step is, whatever comes of the step
  follows_at : (p : Spot) (old : Cpu) → Stands program p old → (spot : IsCharted program spots p) → (i : Insn) → Begins program.instructions
      old.pc i → FollowsSpots spots p i
  follows_at p old at spot i begins =
      subst (FollowsSpots spots p) (same_instruction p old at spot.instruction i spot.begins begins) spot.follows

  ready_after : (p : Spot) (old new : Cpu) (shape : Shape) (events : List Event) → Stands program p old → IsCharted program spots p → Step
      shape program old events On new → IsReady program new
  ready_after p old new shape events at spot step =
      let same = same_instruction p old at spot.instruction step.instruction spot.begins step.begins in
      let safe = subst (λ (i : Insn). IsSafe program.named program.instructions p.pc i) same spot.safe in
      let here = subst (λ (pc : ℕ). IsSafe program.named program.instructions pc step.instruction) (sym at.here) safe in
      executes_ready program old new at.ready shape step.instruction events On here step.row

  -- a step that goes on leads to a spot that comes next
  step_comes : (p : Spot) (old new : Cpu) (shape : Shape) (events : List Event) → Stands program p old → IsCharted program spots p →
      (step : Step shape program old events On new) → Comes program spots p new ⊎ Tries step.instruction old new
  step_comes p old new shape events at spot step =
      comes program p old at spots new (ready_after p old new shape events at spot step) shape step.instruction events
      (follows_at p old at spot step.instruction step.begins) step.row

  -- runs begin at the first spot
  begins : (number : ℕ) (input : Input) → (ready : IsReady program (start number input)) → Stands program chart.first.0 (start number input)
  begins number input ready =
      let first = chart.first.2 in
      record { ready = ready; here = sym first.here; known = first.known; back = sym first.back }

  start_there : (number : ℕ) (input : Input) → IsReady program (start number input)
  start_there number input =
      let spot = chart.each 0 chart.first.0 chart.first.1 in
      let here : IsStart program.instructions 0 = (
        spot.instruction,
        subst (λ (pc : ℕ). Begins program.instructions pc spot.instruction)
            chart.first.2.here spot.begins,
      ) in
      start_ready program (start number input) input refl here

  -- ---- what is counted
  module _ (q : Counted) (most : List (Option ℕ)) (numbers : AreAllBounds q program spots most) where
    -- where a way leads, less is left
    left_there : (place : Option ℕ) (own n : ℕ) (new : Cpu) → LeavesEnough most place own n → Arrives program spots new place → (j : ℕ) ×
        (r : Spot) × (m : ℕ) × (slice_get spots j ≡ Some r) × Stands program r new × HasNumber most j m × (own + m ≤ n)
    left_there None own n new left arrives = absurd (let place = arrives.2 in cc)
    left_there (Some i) own n new left arrives =
        let same : i ≡ arrives.0 = cc in
        (arrives.0, arrives.1, left.0, arrives.3, arrives.4, subst (λ (j : ℕ). HasNumber most j left.0) same left.1, left.2)

    left_next : (p : Spot) (own n : ℕ) (new : Cpu) → LeavesEnough most p.next own n → LeavesEnough most p.jump own n → Comes program spots p
        new → (j : ℕ) × (r : Spot) × (m : ℕ) × (slice_get spots j ≡ Some r) × Stands program r new × HasNumber most j m × (own + m ≤ n)
    left_next p own n new next jump (inl arrives) = left_there p.next own n new next arrives
    left_next p own n new next jump (inr arrives) = left_there p.jump own n new jump arrives

    counts_from : (shape : Shape) (steps k n : ℕ) (p : Spot) (old : Cpu) (events : List Event) (end : Outcome) (last : Cpu)
        → slice_get spots k ≡ Some p → HasNumber most k n → Stands program p old → MakesSteps shape program steps old events end last → how_many q events ≤ n
    counts_from shape zero k n p old events end last here number at made = subst (λ (es : List Event). how_many q es ≤ n) (sym made.0) (omega arith)
    counts_from shape (suc steps) k n p old events end last here number at (inl step) =
        let spot = chart.each k p here in
        let begins_here = subst (λ (pc : ℕ). Begins program.instructions pc step.instruction) at.here step.begins in
        let falls = numbers k p n here number step.instruction begins_here in
        let own = step_counts q p old at.known shape step.instruction events (Done end) last step.row in
        omega (arith, own, falls.0)
    counts_from shape (suc steps) k n p old events end last here number at (inr (first, rest, mid, parts, step, made)) =
        let spot = chart.each k p here in
        let begins_here = subst (λ (pc : ℕ). Begins program.instructions pc step.instruction) at.here step.begins in
        let falls = numbers k p n here number step.instruction begins_here in
        let own = step_counts q p old at.known shape step.instruction first On mid step.row in
        let all : how_many q events ≡ how_many q first + how_many q rest = ap (how_many q) parts ∙ append_counts q first rest in
        elim (step_comes p old mid shape first at spot step) as (λ _. how_many q events ≤ n) [
          | inl comes ↦
              let next = left_next p (weight q p step.instruction) n mid falls.1 falls.2 comes in
              let behind = counts_from shape steps next.0 next.2 next.1 mid rest end last next.3 next.5 next.4 made in
              omega (arith, own, behind, next.6, all)
          | inr tries ↦
              let none : weight q p step.instruction ≡ 0 = ap (weight q p) tries.0 ∙ lock_weight q.kind (known_at p 4) (may_be (known_at p 1) q.map) in
              let behind = counts_from shape steps k n p mid rest end last here number (subst (λ (c : Cpu). Stands program p c) (sym tries.1) at) made in
              omega (arith, own, none, behind, all)
        ]

    pub has_at_most : (n : ℕ) → HasNumber most 0 n → HasAtMost q program n
    has_at_most n number shape cpu steps input events end last made =
        counts_from shape steps 0 n chart.first.0 (start cpu input) events end last chart.first.1 number (begins cpu input (start_there cpu input)) made

  -- ---- what is read
  module _ (shape : Shape) (outside : (k : ℕ) → PlaceReadsOutside shape.arrays program spots k) where
    at_once : (p : Spot) (now : Cpu) (at : Stands program p now) → UpdatesAtOnce shape.arrays p → (a : ℕ) (g : ArrayShape) → IsArrayAt
        shape.arrays now.registers a g → IsCopiedAtOnce g
    at_once p now at (inl (x, known, is)) a g array = is a g array.1 (sym (knows program p now at R1 x known) ∙ array.0)
    at_once p now at (inr all) a g array = all a g array.1

    lies : (p : Spot) (now : Cpu) (at : Stands program p now) (n : ℕ) → ReadsOutsideAt shape.arrays p (CallHelper n) → AsksOnce n ⊎
        ReadsOutside shape.arrays n now.registers
    lies p now at n (inl own) = inl own
    lies p now at n (inr (key, value)) = inr (record {
      key = subst (λ (a : ℕ). IsOutsideValues a 64) (sym (knows program p now at R2 key.0 key.1)) key.2;
      value = λ update. let v = (value update).0 in subst (λ (a : ℕ). IsOutsideValues a 65536) (sym (knows program p now at R3 v.0 v.1)) v.2;
      at_once = λ update. at_once p now at (value update).1;
    })

    reads_here : (k : ℕ) (p : Spot) (old now : Cpu) (helper : ℕ) → slice_get spots k ≡ Some p → Stands program p old → now ≡ old
        → Begins program.instructions now.pc (CallHelper helper) → AsksOnce helper ⊎ ReadsOutside shape.arrays helper now.registers
    reads_here k p old now helper here at same begins =
        let moved = subst (λ (c : Cpu). Stands program p c) (sym same) at in
        lies p now moved helper (outside k p here (CallHelper helper)
        (subst (λ (pc : ℕ). Begins program.instructions pc (CallHelper helper)) moved.here begins))

    reads_from : (steps k : ℕ) (p : Spot) (old now : Cpu) (helper : ℕ) → slice_get spots k ≡ Some p → Stands program p old → LeadsInSteps
        shape program steps old now
        → Begins program.instructions now.pc (CallHelper helper) → AsksOnce helper ⊎ ReadsOutside shape.arrays helper now.registers
    reads_from zero k p old now helper here at same begins = reads_here k p old now helper here at same begins
    reads_from (suc steps) k p old now helper here at (inl same) begins = reads_here k p old now helper here at same begins
    reads_from (suc steps) k p old now helper here at (inr (events, mid, step, leads)) begins =
        let spot = chart.each k p here in
        elim (step_comes p old mid shape events at spot step) as (λ _. AsksOnce helper ⊎ ReadsOutside shape.arrays helper now.registers) [
          | inl comes ↦ elim comes as (λ _. AsksOnce helper ⊎ ReadsOutside shape.arrays helper now.registers) [
            | inl next ↦ reads_from steps next.0 next.1 mid now helper next.3 next.4 leads begins
            | inr jump ↦ reads_from steps jump.0 jump.1 mid now helper jump.3 jump.4 leads begins
          ]
          | inr tries ↦ reads_from steps k p mid now helper here (subst (λ (c : Cpu). Stands program p c) (sym tries.1) at) leads begins
        ]

    pub all_read_outside : AllReadOutside shape program
    all_read_outside cpu steps input now helper leads begins_there =
        reads_from steps 0 chart.first.0 (start cpu input) now helper chart.first.1 (begins cpu input (start_there cpu input)) leads begins_there

pub found_at_most : (program : Loaded) (spots : List Spot) → IsChart program spots → (q : Counted) (most : List (Option ℕ)) → AreAllBounds q
    program spots most → (o : Option ℕ) → IfSome o (HasNumber most 0) → IfSome o (HasAtMost q program)
found_at_most program spots chart q most numbers None has = has
found_at_most program spots chart q most numbers (Some n) has = has_at_most program spots chart q most numbers n has
