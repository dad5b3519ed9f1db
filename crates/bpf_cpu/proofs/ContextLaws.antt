-- No step changes the CPU's number, how long its context and its packet are, or what else the job was given.
use Rattle.std.proofs.Common.{◌≡◌, ℕ, zero, suc, Bool, true, false, ℤ, List, inl, inr, refl, sym, subst, Result, Ok, Err}
use Rattle.std.specs.Int.{w64, cast_unsigned}
use Rattle.bpf_insn.specs.declared.operation.widths.Width.{Width}
use Rattle.bpf_insn.specs.declared.operation.atomics.AtomicOp.{AtomicOp}
use Rattle.bpf_insn.specs.declared.operation.sizes.Size.{Size}
use Rattle.bpf_insn.specs.declared.register.Reg.{Reg}
use Rattle.bpf_insn.specs.declared.instruction.Insn.{Insn}
use Rattle.bpf_insn.specs.declared.instruction.Insn.TheVariants as insn
use Rattle.bpf_alu.specs.Arithmetic.{sign_extended}
use Rattle.bpf_alu.specs.Comparison.{holds}
use Rattle.bpf_shared.specs.declared.events.Event.{Event}
use Rattle.bpf_shared.specs.declared.events.Span.{Span}
use Rattle.bpf_shared.specs.Shape.{Shape}
use Rattle.bpf_loader.specs.Loaded.{Loaded}
use Rattle.bpf_helpers.specs.declared.fault.HelperFault.{HelperFault}
use Rattle.bpf_cpu.specs.declared.cpu.Cpu.{Cpu}
use Rattle.bpf_cpu.specs.declared.outcome.Progress.{Progress}
use Rattle.bpf_cpu.specs.State.{value, operand_value, effective_address}
use Rattle.bpf_cpu.specs.Helping.{Helper, tried}
use Rattle.bpf_cpu.specs.Row.{Quiet, JumpsIf, CallsLocal, Exits, Loads, Stores, Atomics, TakesResult, plain_size, extension_of}
use Rattle.bpf_cpu.specs.Values.{LoadsValue, StoresValue, ChangesValue, AsksValue}
use Rattle.bpf_cpu.specs.Step.{Step, Executes}
use Rattle.bpf_cpu.specs.Saved.{IsOfOneJob}

module _ (old new : Cpu) (progress : Progress) where
  made : (state : Cpu) → new ≡ state → IsOfOneJob old state → IsOfOneJob old new
  made state e same = let P : Cpu → Type 0 = IsOfOneJob old in subst P (sym e) same

  -- ---- rows that no store sees
  jumped_if : (by : ℤ) (b : Bool) → JumpsIf b old by new → IsOfOneJob old new
  jumped_if by true row = made _ row.2 (refl, refl, refl, refl)
  jumped_if by false row = made _ row (refl, refl, refl, refl)

  called : (by : ℤ) → CallsLocal by old progress new → IsOfOneJob old new
  called by (inl full) = made _ full.1.1 (refl, refl, refl, refl)
  called by (inr row) = made _ row.2.2 (refl, refl, refl, refl)

  exited : Exits old progress new → IsOfOneJob old new
  exited (inl ends) = made _ ends.2 (refl, refl, refl, refl)
  exited (inr back) = made _ back.4 (refl, refl, refl, refl)

  loaded : (size : Size) (reading : ℕ → ℕ) (d : Reg) (a : ℕ) → Loads size reading d a old progress new → IsOfOneJob old new
  loaded size reading d a (inl out) = made _ out.1.1 (refl, refl, refl, refl)
  loaded size reading d a (inr row) = made _ row.3 (refl, refl, refl, refl)

  stored : (size : Size) (a x : ℕ) → Stores size a x old progress new → IsOfOneJob old new
  stored size a x (inl out) = made _ out.1.1 (refl, refl, refl, refl)
  stored size a x (inr row) = made _ row.2.2 (refl, row.2.1.context, refl, row.2.1.packet)

  operated : (w : Width) (op : AtomicOp) (s : Reg) (a : ℕ) → Atomics w op s a old progress new → IsOfOneJob old new
  operated w op s a (inl out) = made _ out.1.1 (refl, refl, refl, refl)
  operated w op s a (inr (inl odd)) = made _ odd.2.1 (refl, refl, refl, refl)
  operated w op s a (inr (inr row)) = made _ row.4.2 (refl, row.4.1.context, refl, row.4.1.packet)

  quiet_row : (i : Insn) → Quiet i old progress new → IsOfOneJob old new
  quiet_row (insn.Alu w op d s) row = made _ row.1 (refl, refl, refl, refl)
  quiet_row (insn.Negate w d) row = made _ row.1 (refl, refl, refl, refl)
  quiet_row (insn.SignExtend e d s) row = made _ row.1 (refl, refl, refl, refl)
  quiet_row (insn.SwapBytes k w d) row = made _ row.1 (refl, refl, refl, refl)
  quiet_row (insn.Jump by) row = made _ row.1.2 (refl, refl, refl, refl)
  quiet_row (insn.JumpLong by) row = made _ row.1.2 (refl, refl, refl, refl)
  quiet_row (insn.JumpIf w c d s by) row = jumped_if by (holds w c (value old d) (operand_value old s)) row.1
  quiet_row insn.Exit row = exited row
  quiet_row (insn.LoadNumber d n) row = made _ row.1 (refl, refl, refl, refl)
  quiet_row (insn.LoadMap d m) row = made _ row.1 (refl, refl, refl, refl)
  quiet_row (insn.CallHelper n) row = absurd row
  quiet_row (insn.CallLocal by) row = called by row
  quiet_row (insn.Load z d b o) row = loaded z (λ x. x) d (effective_address old b o) row
  quiet_row (insn.LoadSigned z d b o) row = loaded (plain_size z) (sign_extended (extension_of z)) d (effective_address old b o) row
  quiet_row (insn.StoreImmediate z b o n) row = stored z (effective_address old b o) (cast_unsigned w64 n) row
  quiet_row (insn.Store z b o s) row = stored z (effective_address old b o) (value old s) row
  quiet_row (insn.Atomic w op b o s) row = operated w op s (effective_address old b o) row

  -- ---- accesses to held values
  value_loaded : (h : Shape) (z : Size) (reading : ℕ → ℕ) (d : Reg) (a : ℕ) (events : List Event) → LoadsValue h z reading d a old events
      progress new → IsOfOneJob old new
  value_loaded h z reading d a events (inl refused) = made _ refused.3.1 (refl, refl, refl, refl)
  value_loaded h z reading d a events (inr row) = made _ row.1.3 (refl, refl, refl, refl)

  value_stored : (h : Shape) (z : Size) (a x : ℕ) (events : List Event) → StoresValue h z a x old events progress new → IsOfOneJob old new
  value_stored h z a x events (inl refused) = made _ refused.3.1 (refl, refl, refl, refl)
  value_stored h z a x events (inr row) = made _ row.3 (refl, refl, refl, refl)

  value_changed : (h : Shape) (w : Width) (op : AtomicOp) (s : Reg) (a : ℕ) (events : List Event) → ChangesValue h w op s a old events
      progress new → IsOfOneJob old new
  value_changed h w op s a events (inl refused) = made _ refused.3.1 (refl, refl, refl, refl)
  value_changed h w op s a events (inr row) = made _ row.1.3 (refl, refl, refl, refl)

  value_row : (h : Shape) (i : Insn) (events : List Event) → AsksValue h i old events progress new → IsOfOneJob old new
  value_row h (insn.Alu w op d s) events row = absurd row
  value_row h (insn.Negate w d) events row = absurd row
  value_row h (insn.SignExtend e d s) events row = absurd row
  value_row h (insn.SwapBytes k w d) events row = absurd row
  value_row h (insn.Jump by) events row = absurd row
  value_row h (insn.JumpLong by) events row = absurd row
  value_row h (insn.JumpIf w c d s by) events row = absurd row
  value_row h insn.Exit events row = absurd row
  value_row h (insn.LoadNumber d n) events row = absurd row
  value_row h (insn.LoadMap d m) events row = absurd row
  value_row h (insn.CallHelper n) events row = absurd row
  value_row h (insn.CallLocal by) events row = absurd row
  value_row h (insn.Load z d b o) events row = value_loaded h z (λ x. x) d (effective_address old b o) events row
  value_row h (insn.LoadSigned z d b o) events row = value_loaded h (plain_size z) (sign_extended (extension_of z)) d (effective_address old b o) events row
  value_row h (insn.StoreImmediate z b o n) events row = value_stored h z (effective_address old b o) (cast_unsigned w64 n) events row
  value_row h (insn.Store z b o s) events row = value_stored h z (effective_address old b o) (value old s) events row
  value_row h (insn.Atomic w op b o s) events row = value_changed h w op s (effective_address old b o) events row

  -- ---- a helper's call
  taken : (result : Result ℕ HelperFault) (held : List Span) → TakesResult result held old progress new → IsOfOneJob old new
  taken (Ok x) held row = made _ row.1 (refl, refl, refl, refl)
  taken (Err fault) held row = made _ row.1 (refl, refl, refl, refl)

  one_tried : (x : ℕ) → IsOfOneJob old (tried old x)
  one_tried zero = (refl, refl, refl, refl)
  one_tried (suc x) = (refl, refl, refl, refl)

  helper_row : (shape : Shape) (number : ℕ) (events : List Event) → Helper shape number old events progress new → IsOfOneJob old new
  helper_row shape number events (inl asks) = taken asks.1.0 asks.1.1 asks.1.3
  helper_row shape number events (inr (inl asks)) = made _ asks.5 (refl, refl, refl, refl)
  helper_row shape number events (inr (inr (inl (is, inl refused)))) = made _ refused.3.1 (refl, refl, refl, refl)
  helper_row shape number events (inr (inr (inl (is, inr row)))) = made _ row.1.3 (one_tried row.1.0)
  helper_row shape number events (inr (inr (inr (is, inl refused)))) = made _ refused.3.1 (refl, refl, refl, refl)
  helper_row shape number events (inr (inr (inr (is, inr row)))) = made _ row.1.3 (refl, refl, refl, refl)

  executed : (shape : Shape) (i : Insn) (events : List Event) → Executes shape i old events progress new → IsOfOneJob old new
  executed shape i events (inl quiet) = quiet_row i quiet.2
  executed shape i events (inr (inl call)) = helper_row shape call.0 events call.2
  executed shape i events (inr (inr asks)) = value_row shape i events asks.1

  pub step_keeps : (shape : Shape) (program : Loaded) (events : List Event) → Step shape program old events progress new → IsOfOneJob old new
  step_keeps shape program events step = executed shape step.instruction events step.row
