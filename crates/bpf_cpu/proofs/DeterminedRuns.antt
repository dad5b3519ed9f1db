-- Steps that begin alike, and whose store replies alike, go on alike.
use Rattle.std.proofs.Common.{◌≡◌, ℕ, zero, suc, List, [], ◌∷◌, ◌++◌, length, inl, inr, refl, sym, ap, subst, ◌∙◌, arith, append-nil}
use Rattle.std.specs.Prelude.{map, slice_get, slice_index, Some, Result, Ok, Err}
use Rattle.std.specs.Int.{w64, cast_unsigned}
use Rattle.std.proofs.lemmas.List.Elements.{All-nil, All-push}
use Rattle.std.proofs.lemmas.List.{map-append}
use Rattle.std.proofs.lemmas.Bool.{false≢true}
use Rattle.bpf_insn.specs.declared.operation.sizes.Size.TheVariants.{Word}
use Rattle.bpf_insn.specs.declared.operation.sizes.Size.{Size}
use Rattle.bpf_insn.specs.declared.operation.widths.Width.{Width}
use Rattle.bpf_insn.specs.declared.operation.atomics.AtomicOp.{AtomicOp}
use Rattle.bpf_insn.specs.declared.register.Reg.{Reg}
use Rattle.bpf_alu.specs.Arithmetic.{sign_extended}
use Rattle.bpf_insn.specs.declared.instruction.Insn.{Insn}
use Rattle.bpf_insn.specs.declared.instruction.Insn.TheVariants as insn
use Rattle.bpf_mem.specs.Bytes.{length_of, size_of}
use Rattle.bpf_shared.specs.declared.events.Span.{Span}
use Rattle.bpf_shared.specs.Laws.{CallsHaveOneReply}
use Rattle.bpf_shared.specs.declared.events.Event.{Event}
use Rattle.bpf_shared.specs.declared.events.Event.TheVariants.{Begin, End}
use Rattle.bpf_shared.specs.declared.events.Entry.{Entry}
use Rattle.bpf_shared.specs.Shape.{Shape, without_arrays}
use Rattle.bpf_shared.specs.Store.{Plain}
use Rattle.bpf_shared.specs.Sound.{IsSoundStore}
use Rattle.bpf_shared.proofs.Soundness.{allowed_sound, plainly_sound}
use Rattle.bpf_shared.specs.History.{PlainlyLegal, entry}
use Rattle.bpf_loader.specs.Loaded.{Loaded}
use Rattle.bpf_loader.specs.Laws.{OneInstructionBegins}
use Rattle.bpf_mem.specs.Stack.{zeroed}
use Rattle.bpf_mem.specs.Laws.{IsMemory, WritesAreDetermined}
use Rattle.bpf_cpu.specs.Input.{IsShort}
use Rattle.bpf_cpu.specs.declared.cpu.Cpu.{Cpu}
use Rattle.bpf_cpu.specs.declared.input.Input.{Input}
use Rattle.bpf_cpu.specs.declared.outcome.Progress.{Progress}
use Rattle.bpf_cpu.specs.declared.outcome.Progress.TheVariants.{On, Done}
use Rattle.bpf_cpu.specs.declared.outcome.Outcome.{Outcome}
use Rattle.bpf_cpu.specs.declared.outcome.Fault.{Fault}
use Rattle.bpf_cpu.specs.Helping.{Helper}
use Rattle.bpf_cpu.specs.Row.{TakesResult, plain_size, extension_of}
use Rattle.bpf_helpers.specs.declared.fault.HelperFault.{HelperFault}
use Rattle.bpf_helpers.specs.Laws.{AreAskedAlike}
use Rattle.bpf_helpers.proofs.Leaving.{no_map_call}
use Rattle.bpf_helpers.specs.Arrays.{area_of}
use Rattle.bpf_helpers.specs.Held.{is_covered}
use Rattle.bpf_cpu.specs.Values.{IsThere, IsRefused, LoadsValue, StoresValue, ChangesValue, AsksValue}
use Rattle.bpf_cpu.specs.Step.{Executes, Step, MakesSteps}
use Rattle.bpf_cpu.specs.State.{value, start, effective_address}
use Rattle.bpf_base.proofs.Lists.{same_last}
use Rattle.bpf_cpu.proofs.HeldLaws.{held-quiet}
use Rattle.bpf_cpu.specs.Laws.{StepsAreDetermined, OutcomesAreDetermined, NoMapsNoEvents, PlainStepsAreDetermined}
use Rattle.bpf_cpu.proofs.Asking.{asks-first, asks-behind, asks-end, asks-end', same_beginnings}
use Rattle.bpf_cpu.proofs.DeterminedRows.{Agrees, row_agrees, whole_frame}

module _ (law : WritesAreDetermined) (one : OneInstructionBegins) (shape : Shape) (program : Loaded) where
  -- ---- one step
  pub step_agrees : (old new other : Cpu) (progress end : Progress) (events others : List Event) → IsMemory old.memory → Step shape program
      old events progress new → Step shape program old others end other → Agrees events others progress end new other
  step_agrees old new other progress end events others sound a b =
      let P = λ (i : Insn). Executes shape i old others end other in
      let same = one program.instructions old.pc b.instruction a.instruction b.begins a.begins in
      row_agrees law old new other progress end sound shape a.instruction events others a.row (subst P same b.row)

  -- ---- a chain of steps, given its events
  -- a step that ends the job, and one that doesn't
  never : (old new mid : Cpu) (end : Outcome) (events first rest : List Event) → IsMemory old.memory → events ≡ first ++ rest → Step shape
      program old events (Done end) new → Step shape program old first On mid → ⊥
  never old new mid end events first rest sound e a b =
      let agrees = step_agrees old new mid (Done end) On events first sound a b in
      let parts = same_beginnings events first [] rest agrees.asks (append-nil events ∙ e) in
      let turns : Done end ≡ On = (agrees.replied parts.0).turns in
      cc

  steps_once : (n : ℕ) (old new other : Cpu) (events : List Event) (end last : Outcome) → IsMemory old.memory → MakesSteps shape program n
      old events end new → MakesSteps shape program n old events last other → end ≡ last
  steps_once zero old new other events end last sound a b = a.1 ∙ sym b.1
  steps_once (suc n) old new other events end last sound (inl a) (inl b) =
      let same = (step_agrees old new other (Done end) (Done last) events events sound a b).replied refl in
      let turns : Done end ≡ Done last = same.turns in
      cc
  steps_once (suc n) old new other events end last sound (inl a) (inr b) = absurd (never old new b.2 end events b.0 b.1 sound b.3 a b.4)
  steps_once (suc n) old new other events end last sound (inr a) (inl b) = absurd (never old other a.2 last events a.0 a.1 sound a.3 b a.4)
  steps_once (suc n) old new other events end last sound (inr a) (inr b) =
      let agrees = step_agrees old a.2 b.2 On On a.0 b.0 sound a.4 b.4 in
      let parts = same_beginnings a.0 b.0 a.1 b.1 agrees.asks (sym a.3 ∙ b.3) in
      let same = agrees.replied parts.0 in
      let P : Cpu → Type 0 = λ mid. MakesSteps shape program n mid b.1 last other in
      let Q : List Event → Type 0 = λ rest. MakesSteps shape program n a.2 rest last other in
      steps_once n a.2 new other a.1 end last same.sound a.5 (subst Q (sym parts.1) (subst P (sym same.states) b.5))

  -- ---- the same over a plain store, whose replies are determined too
  module _ (replies : CallsHaveOneReply) where
    pub same_replies : (c : ℕ) (events others : List Event) (s t u : Plain) → IsSoundStore s → PlainlyLegal s (map (entry c) events) t →
        PlainlyLegal s (map (entry c) others) u → AreAskedAlike events others → (events ≡ others) × (t ≡ u)
    same_replies c [] [] s t u sound a b alike = (refl, sym a ∙ b)
    same_replies c [] (f ∷ fs) s t u sound a b alike = absurd (asks-end f fs alike)
    same_replies c (e ∷ es) [] s t u sound a b alike = absurd (asks-end' e es alike)
    same_replies c (e ∷ es) (f ∷ fs) s t u sound a b alike =
        let one = replies s a.0 b.0 c e f sound a.1 b.1 (asks-first e f es fs alike) in
        let behind = asks-behind e f es fs one.0 alike in
        let P : Plain → Type 0 = λ m. PlainlyLegal m (map (entry c) fs) u in
        let rest = same_replies c es fs a.0 t u (allowed_sound s a.0 c e sound a.1.0) a.2 (subst P (sym one.1) b.2) behind in
        let front : e ≡ f = one.0 in
        let back : es ≡ fs = rest.0 in
        (cc, rest.1)

    -- a history in two parts
    cut : (xs ys : List Entry) (s t : Plain) → PlainlyLegal s (xs ++ ys) t → (m : Plain) × PlainlyLegal s xs m × PlainlyLegal m ys t
    cut [] ys s t h = (s, refl, h)
    cut (x ∷ xs) ys s t h = let rest = cut xs ys h.0 t h.2 in (rest.0, (h.0, h.1, rest.1), rest.2)

    cut_events : (c : ℕ) (events first rest : List Event) (s t : Plain) → events ≡ first ++ rest → PlainlyLegal s (map (entry c) events) t →
        (m : Plain) × PlainlyLegal s (map (entry c) first) m × PlainlyLegal m (map (entry c) rest) t
    cut_events c events first rest s t e h =
        let P : List Entry → Type 0 = λ log. PlainlyLegal s log t in
        cut (map (entry c) first) (map (entry c) rest) s t (subst P (ap (map (entry c)) e ∙ map-append (entry c) first rest) h)

    pub stays_sound : (c : ℕ) (events : List Event) (s t : Plain) → IsSoundStore s → PlainlyLegal s (map (entry c) events) t → IsSoundStore t
    stays_sound c events s t sound h = plainly_sound s t (map (entry c) events) sound h

    plainly_never : (c : ℕ) (s t u : Plain) (old new mid : Cpu) (end : Outcome) (events first : List Event) → IsSoundStore s → IsMemory
        old.memory → PlainlyLegal s (map (entry c) events) t → PlainlyLegal s (map (entry c) first) u → Step shape program old events
        (Done end) new → Step shape program old first On mid → ⊥
    plainly_never c s t u old new mid end events first store sound g h a b =
        let agrees = step_agrees old new mid (Done end) On events first sound a b in
        let one = same_replies c events first s t u store g h agrees.asks in
        let turns : Done end ≡ On = (agrees.replied one.0).turns in
        cc

    pub plain_steps_once : (n c : ℕ) (s t u : Plain) (old new other : Cpu) (events others : List Event) (end last : Outcome) → IsSoundStore
        s → IsMemory old.memory
        → MakesSteps shape program n old events end new → PlainlyLegal s (map (entry c) events) t
        → MakesSteps shape program n old others last other → PlainlyLegal s (map (entry c) others) u
        → (events ≡ others) × (end ≡ last) × (new ≡ other) × (t ≡ u)
    plain_steps_once zero c s t u old new other events others end last store sound a g b h =
        let P : List Event → Type 0 = λ es. PlainlyLegal s (map (entry c) es) t in
        let Q : List Event → Type 0 = λ es. PlainlyLegal s (map (entry c) es) u in
        (a.0 ∙ sym b.0, a.1 ∙ sym b.1, a.2 ∙ sym b.2, sym (subst P a.0 g) ∙ subst Q b.0 h)
    plain_steps_once (suc n) c s t u old new other events others end last store sound (inl a) g (inl b) h =
        let agrees = step_agrees old new other (Done end) (Done last) events others sound a b in
        let one = same_replies c events others s t u store g h agrees.asks in
        let same = agrees.replied one.0 in
        let turns : Done end ≡ Done last = same.turns in
        let ends : end ≡ last = cc in
        (one.0, ends, same.states, one.1)
    plain_steps_once (suc n) c s t u old new other events others end last store sound (inl a) g (inr b) h =
        let parts = cut_events c others b.0 b.1 s u b.3 h in
        absurd (plainly_never c s t parts.0 old new b.2 end events b.0 store sound g parts.1 a b.4)
    plain_steps_once (suc n) c s t u old new other events others end last store sound (inr a) g (inl b) h =
        let parts = cut_events c events a.0 a.1 s t a.3 g in
        absurd (plainly_never c s u parts.0 old other a.2 last others a.0 store sound h parts.1 b a.4)
    plain_steps_once (suc n) c s t u old new other events others end last store sound (inr a) g (inr b) h =
        let left = cut_events c events a.0 a.1 s t a.3 g in
        let right = cut_events c others b.0 b.1 s u b.3 h in
        let agrees = step_agrees old a.2 b.2 On On a.0 b.0 sound a.4 b.4 in
        let one = same_replies c a.0 b.0 s left.0 right.0 store left.1 right.1 agrees.asks in
        let same = agrees.replied one.0 in
        let P : Cpu → Type 0 = λ mid. MakesSteps shape program n mid b.1 last other in
        let Q : Plain → Type 0 = λ m. PlainlyLegal m (map (entry c) b.1) u in
        let rest = plain_steps_once n c left.0 t u a.2 new other a.1 b.1 end last (stays_sound c a.0 s left.0 store left.1) same.sound a.5
        left.2 (subst P (sym same.states) b.5) (subst Q (sym one.1) right.2) in
        let fronts : a.0 ≡ b.0 = one.0 in
        let backs : a.1 ≡ b.1 = rest.0 in
        (a.3 ∙ ap (λ es. es ++ a.1) fronts ∙ ap (λ es. b.0 ++ es) backs ∙ sym b.3, rest.1, rest.2, rest.3)

-- ---- a whole job

pub start_memory : (number : ℕ) (input : Input) → IsShort input → IsMemory (start number input).memory
start_memory number input h = record {
  stack = record {
    some = omega arith;
    bounded = omega arith;
    sized = All-push (λ frame. length frame ≡ 512) [] zeroed (All-nil (λ (frame : List ℕ). length frame ≡ 512)) whole_frame;
    paired = omega arith;
  };
  small = h.0;
  brief = h.1;
}

-- the events between a run's begin and its end
same_inside : (xs ys : List Event) → Begin ∷ (xs ++ End ∷ []) ≡ Begin ∷ (ys ++ End ∷ []) → xs ≡ ys
same_inside xs ys e = let inside : xs ++ End ∷ [] ≡ ys ++ End ∷ [] = cc in (same_last xs ys End End inside).0

pub steps_are_determined : WritesAreDetermined → OneInstructionBegins → StepsAreDetermined
steps_are_determined law one shape program old new other events others progress end sound a b =
    let agrees = step_agrees law one shape program old new other progress end events others sound a b in
    (agrees.asks, λ e. let same = agrees.replied e in (same.turns, same.states))

pub outcomes_are_determined : WritesAreDetermined → OneInstructionBegins → OutcomesAreDetermined
outcomes_are_determined law one shape program budget number input events end other h (inl a) (inl b) =
    let inside = same_inside a.0 b.0 (sym a.2 ∙ b.2) in
    let P : List Event → Type 0 = λ es. MakesSteps shape program budget (start number input) es other b.1 in
    steps_once law one shape program budget (start number input) a.1 b.1 a.0 end other (start_memory number input h) a.3 (subst P (sym inside) b.3)
outcomes_are_determined law one shape program budget number input events end other h (inl a) (inr b) =
    let none : Begin ∷ (a.0 ++ End ∷ []) ≡ [] = sym a.2 ∙ b.0 in absurd cc
outcomes_are_determined law one shape program budget number input events end other h (inr a) (inl b) =
    let none : Begin ∷ (b.0 ++ End ∷ []) ≡ [] = sym b.2 ∙ a.0 in absurd cc
outcomes_are_determined law one shape program budget number input events end other h (inr a) (inr b) = a.1 ∙ sym b.1

-- ---- no maps

-- where there is no map, the job goes on with what it held
taken_held : (result : Result ℕ HelperFault) (held : List Span) (old new : Cpu) (progress : Progress) → TakesResult result held old progress
    new → held ≡ old.held → new.held ≡ old.held
taken_held (Ok x) held old new progress row e = ap (λ (k : Cpu). k.held) row.1 ∙ e
taken_held (Err fault) held old new progress row e = ap (λ (k : Cpu). k.held) row.1

-- where nothing is held and there is no array, no value has any bytes
none_there : (cpus : ℕ) (cpu : Cpu) (a : ℕ) (z : Size) → cpu.held ≡ [] → IsThere (without_arrays cpus []) cpu a z → ⊥
none_there cpus cpu a z e (inl covered) = false≢true (sym (ap (λ (spans : List Span). is_covered spans a (length_of z)) e) ∙ covered)
none_there cpus cpu a z e (inr there) = (let is : slice_get [] (area_of a) ≡ Some there.array = there.is in cc)

no_map_event : (cpus number : ℕ) (old new : Cpu) (progress : Progress) (events : List Event) → old.held ≡ [] → Helper
    (without_arrays cpus []) number old events progress new → (events ≡ []) × (new.held ≡ old.held)
no_map_event cpus number old new progress events none (inl asks) =
    let row = asks.1 in
    let empty = no_map_call cpus number old.number old.registers old.memory old.held row.1 events row.0 row.2 in
    (empty.0, taken_held row.0 row.1 old new progress row.3 empty.1)
no_map_event cpus number old new progress events none (inr (inl asks)) = (asks.3, ap (λ (k : Cpu). k.held) asks.5)
no_map_event cpus number old new progress events none (inr (inr (inl (is, inl refused)))) = (refused.2, ap (λ (k : Cpu). k.held) refused.3.1)
no_map_event cpus number old new progress events none (inr (inr (inl (is, inr row)))) = absurd
    (none_there cpus old (slice_index old.registers 1) Word none row.0.0.0)
no_map_event cpus number old new progress events none (inr (inr (inr (is, inl refused)))) = (refused.2, ap (λ (k : Cpu). k.held) refused.3.1)
no_map_event cpus number old new progress events none (inr (inr (inr (is, inr row)))) = absurd
    (none_there cpus old (slice_index old.registers 1) Word none row.0.0.0)

module _ (cpus : ℕ) (old new : Cpu) (progress : Progress) (events : List Event) (none : old.held ≡ []) where
  refused_event : (why : Fault → Type 0) → IsRefused why old events progress new → (events ≡ []) × (new.held ≡ old.held)
  refused_event why row = (row.2, ap (λ (k : Cpu). k.held) row.3.1)

  load_event : (z : Size) (reading : ℕ → ℕ) (d : Reg) (a : ℕ) → LoadsValue (without_arrays cpus []) z reading d a old events progress new →
      (events ≡ []) × (new.held ≡ old.held)
  load_event z reading d a (inl row) = refused_event _ row
  load_event z reading d a (inr row) = absurd (none_there cpus old a z none row.0.0)

  store_event : (z : Size) (a x : ℕ) → StoresValue (without_arrays cpus []) z a x old events progress new → (events ≡ []) × (new.held ≡ old.held)
  store_event z a x (inl row) = refused_event _ row
  store_event z a x (inr row) = absurd (none_there cpus old a z none row.0.0.0)

  change_event : (w : Width) (op : AtomicOp) (s : Reg) (a : ℕ) → ChangesValue (without_arrays cpus []) w op s a old events progress new →
      (events ≡ []) × (new.held ≡ old.held)
  change_event w op s a (inl row) = refused_event _ row
  change_event w op s a (inr row) = absurd (none_there cpus old a (size_of w) none row.0.0.0)

  value_event : (i : Insn) → AsksValue (without_arrays cpus []) i old events progress new → (events ≡ []) × (new.held ≡ old.held)
  value_event (insn.Load z d b o) row = load_event z (λ x. x) d (effective_address old b o) row
  value_event (insn.LoadSigned z d b o) row = load_event (plain_size z) (sign_extended (extension_of z)) d (effective_address old b o) row
  value_event (insn.StoreImmediate z b o n) row = store_event z (effective_address old b o) (cast_unsigned w64 n) row
  value_event (insn.Store z b o s) row = store_event z (effective_address old b o) (value old s) row
  value_event (insn.Atomic w op b o s) row = change_event w op s (effective_address old b o) row
  value_event _ row = absurd row

no_row_event : (cpus : ℕ) (i : Insn) (old new : Cpu) (progress : Progress) (events : List Event) → old.held ≡ [] → Executes
    (without_arrays cpus []) i old events progress new → (events ≡ []) × (new.held ≡ [])
no_row_event cpus i old new progress events none (inl row) = (row.1, held-quiet old new progress i row.2 ∙ none)
no_row_event cpus i old new progress events none (inr (inl row)) = let is = no_map_event cpus row.0 old new progress events none row.2 in (is.0, is.1 ∙ none)
no_row_event cpus i old new progress events none (inr (inr row)) = let is = value_event cpus old new progress events none i row.1 in (is.0, is.1 ∙ none)

no_step_events : (cpus : ℕ) (program : Loaded) (n : ℕ) (old new : Cpu) (events : List Event) (end : Outcome) → old.held ≡ [] → MakesSteps
    (without_arrays cpus []) program n old events end new → events ≡ []
no_step_events cpus program zero old new events end none a = a.0
no_step_events cpus program (suc n) old new events end none (inl a) = (no_row_event cpus a.instruction old new (Done end) events none a.row).0
no_step_events cpus program (suc n) old new events end none (inr a) =
    let first = no_row_event cpus a.4.instruction old a.2 On a.0 none a.4.row in
    let rest : a.1 ≡ [] = no_step_events cpus program n a.2 new a.1 end first.1 a.5 in
    a.3 ∙ ap (λ es. es ++ a.1) first.0 ∙ rest

pub no_maps_no_events : NoMapsNoEvents
no_maps_no_events cpus program budget number input events end (inl a) =
    a.2 ∙ ap (λ es. Begin ∷ (es ++ End ∷ [])) (no_step_events cpus program budget (start number input) a.1 a.0 end refl a.3)
no_maps_no_events cpus program budget number input events end (inr a) = absurd a.2

pub plain_steps_are_determined : WritesAreDetermined → OneInstructionBegins → CallsHaveOneReply → PlainStepsAreDetermined
plain_steps_are_determined law one replies shape program budget c s t u old new other events others end last store sound a g b h =
    plain_steps_once law one shape program replies budget c s t u old new other events others end last store sound a g b h
