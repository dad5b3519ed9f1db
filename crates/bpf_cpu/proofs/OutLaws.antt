-- No step ends a job out of budget: that is said of the steps that aren't made.
use Rattle.std.proofs.Common.{◌≡◌, ℕ, ℤ, List, inl, inr, Result, Ok, Err}
use Rattle.std.specs.Int.{w64, cast_unsigned}
use Rattle.bpf_insn.specs.declared.operation.widths.Width.{Width}
use Rattle.bpf_insn.specs.declared.operation.atomics.AtomicOp.{AtomicOp}
use Rattle.bpf_insn.specs.declared.operation.sizes.Size.{Size}
use Rattle.bpf_insn.specs.declared.register.Reg.{Reg}
use Rattle.bpf_insn.specs.declared.instruction.Insn.{Insn}
use Rattle.bpf_insn.specs.declared.instruction.Insn.TheVariants as insn
use Rattle.bpf_alu.specs.Arithmetic.{sign_extended}
use Rattle.bpf_shared.specs.declared.events.Event.{Event}
use Rattle.bpf_shared.specs.declared.events.Span.{Span}
use Rattle.bpf_shared.specs.Shape.{Shape}
use Rattle.bpf_loader.specs.Loaded.{Loaded}
use Rattle.bpf_helpers.specs.declared.fault.HelperFault.{HelperFault}
use Rattle.bpf_cpu.specs.declared.cpu.Cpu.{Cpu}
use Rattle.bpf_cpu.specs.declared.outcome.Fault.{Fault}
use Rattle.bpf_cpu.specs.declared.outcome.Progress.TheVariants.{On, Done}
use Rattle.bpf_cpu.specs.declared.outcome.Outcome.TheVariants.{Exit, OutOfBudget}
use Rattle.bpf_cpu.specs.declared.outcome.Outcome.TheVariants as outcome
use Rattle.bpf_cpu.specs.State.{value, effective_address}
use Rattle.bpf_cpu.specs.Helping.{Helper}
use Rattle.bpf_cpu.specs.Row.{Loads, Stores, Atomics, CallsLocal, Exits, Quiet, TakesResult, plain_size, extension_of}
use Rattle.bpf_cpu.specs.Values.{LoadsValue, StoresValue, ChangesValue, AsksValue}
use Rattle.bpf_cpu.specs.Step.{Step, Executes}

module _ (old new : Cpu) (pc : ℕ) where
  never_on : Done (OutOfBudget pc) ≡ On → ⊥
  never_on e = cc

  never_fault : (f : Fault) (at : ℕ) → Done (OutOfBudget pc) ≡ Done (outcome.Fault f at) → ⊥
  never_fault f at e = cc

  never_exit : (x : ℕ) → Done (OutOfBudget pc) ≡ Done (Exit x) → ⊥
  never_exit x e = cc

  -- ---- rows that no store sees
  loaded : (z : Size) (reading : ℕ → ℕ) (d : Reg) (a : ℕ) → Loads z reading d a old (Done (OutOfBudget pc)) new → ⊥
  loaded z reading d a (inl out) = never_fault _ _ out.1.0
  loaded z reading d a (inr row) = never_on row.2

  stored : (z : Size) (a x : ℕ) → Stores z a x old (Done (OutOfBudget pc)) new → ⊥
  stored z a x (inl out) = never_fault _ _ out.1.0
  stored z a x (inr row) = never_on row.1

  operated : (w : Width) (op : AtomicOp) (s : Reg) (a : ℕ) → Atomics w op s a old (Done (OutOfBudget pc)) new → ⊥
  operated w op s a (inl out) = never_fault _ _ out.1.0
  operated w op s a (inr (inl odd)) = never_fault _ _ odd.2.0
  operated w op s a (inr (inr row)) = never_on row.3

  called : (by : ℤ) → CallsLocal by old (Done (OutOfBudget pc)) new → ⊥
  called by (inl full) = never_fault _ _ full.1.0
  called by (inr row) = never_on row.1

  exited : Exits old (Done (OutOfBudget pc)) new → ⊥
  exited (inl ends) = never_exit _ ends.1
  exited (inr back) = never_on back.3

  quiet_row : (i : Insn) → Quiet i old (Done (OutOfBudget pc)) new → ⊥
  quiet_row (insn.Alu w op d s) row = never_on row.0
  quiet_row (insn.Negate w d) row = never_on row.0
  quiet_row (insn.SignExtend e d s) row = never_on row.0
  quiet_row (insn.SwapBytes k w d) row = never_on row.0
  quiet_row (insn.Jump by) row = never_on row.0
  quiet_row (insn.JumpLong by) row = never_on row.0
  quiet_row (insn.JumpIf w c d s by) row = never_on row.0
  quiet_row insn.Exit row = exited row
  quiet_row (insn.LoadNumber d n) row = never_on row.0
  quiet_row (insn.LoadMap d m) row = never_on row.0
  quiet_row (insn.CallHelper n) row = row
  quiet_row (insn.CallLocal by) row = called by row
  quiet_row (insn.Load z d b o) row = loaded z (λ x. x) d (effective_address old b o) row
  quiet_row (insn.LoadSigned z d b o) row = loaded (plain_size z) (sign_extended (extension_of z)) d (effective_address old b o) row
  quiet_row (insn.StoreImmediate z b o n) row = stored z (effective_address old b o) (cast_unsigned w64 n) row
  quiet_row (insn.Store z b o s) row = stored z (effective_address old b o) (value old s) row
  quiet_row (insn.Atomic w op b o s) row = operated w op s (effective_address old b o) row

  -- ---- accesses to held values
  value_loaded : (h : Shape) (z : Size) (reading : ℕ → ℕ) (d : Reg) (a : ℕ) (events : List Event) → LoadsValue h z reading d a old events
      (Done (OutOfBudget pc)) new → ⊥
  value_loaded h z reading d a events (inl refused) = never_fault _ _ refused.3.0
  value_loaded h z reading d a events (inr row) = never_on row.1.2

  value_stored : (h : Shape) (z : Size) (a x : ℕ) (events : List Event) → StoresValue h z a x old events (Done (OutOfBudget pc)) new → ⊥
  value_stored h z a x events (inl refused) = never_fault _ _ refused.3.0
  value_stored h z a x events (inr row) = never_on row.2

  value_changed : (h : Shape) (w : Width) (op : AtomicOp) (s : Reg) (a : ℕ) (events : List Event) → ChangesValue h w op s a old events
      (Done (OutOfBudget pc)) new → ⊥
  value_changed h w op s a events (inl refused) = never_fault _ _ refused.3.0
  value_changed h w op s a events (inr row) = never_on row.1.2

  value_row : (h : Shape) (i : Insn) (events : List Event) → AsksValue h i old events (Done (OutOfBudget pc)) new → ⊥
  value_row h (insn.Alu w op d s) events row = row
  value_row h (insn.Negate w d) events row = row
  value_row h (insn.SignExtend e d s) events row = row
  value_row h (insn.SwapBytes k w d) events row = row
  value_row h (insn.Jump by) events row = row
  value_row h (insn.JumpLong by) events row = row
  value_row h (insn.JumpIf w c d s by) events row = row
  value_row h insn.Exit events row = row
  value_row h (insn.LoadNumber d n) events row = row
  value_row h (insn.LoadMap d m) events row = row
  value_row h (insn.CallHelper n) events row = row
  value_row h (insn.CallLocal by) events row = row
  value_row h (insn.Load z d b o) events row = value_loaded h z (λ x. x) d (effective_address old b o) events row
  value_row h (insn.LoadSigned z d b o) events row = value_loaded h (plain_size z) (sign_extended (extension_of z)) d (effective_address old b o) events row
  value_row h (insn.StoreImmediate z b o n) events row = value_stored h z (effective_address old b o) (cast_unsigned w64 n) events row
  value_row h (insn.Store z b o s) events row = value_stored h z (effective_address old b o) (value old s) events row
  value_row h (insn.Atomic w op b o s) events row = value_changed h w op s (effective_address old b o) events row

  -- ---- a helper's call
  taken : (result : Result ℕ HelperFault) (held : List Span) → TakesResult result held old (Done (OutOfBudget pc)) new → ⊥
  taken (Ok x) held row = never_on row.0
  taken (Err fault) held row = never_fault _ _ row.0

  helper_row : (shape : Shape) (number : ℕ) (events : List Event) → Helper shape number old events (Done (OutOfBudget pc)) new → ⊥
  helper_row shape number events (inl asks) = taken asks.1.0 asks.1.1 asks.1.3
  helper_row shape number events (inr (inl asks)) = never_on asks.4
  helper_row shape number events (inr (inr (inl (is, inl refused)))) = never_fault _ _ refused.3.0
  helper_row shape number events (inr (inr (inl (is, inr row)))) = never_on row.1.2
  helper_row shape number events (inr (inr (inr (is, inl refused)))) = never_fault _ _ refused.3.0
  helper_row shape number events (inr (inr (inr (is, inr row)))) = never_on row.1.2

  executed : (shape : Shape) (i : Insn) (events : List Event) → Executes shape i old events (Done (OutOfBudget pc)) new → ⊥
  executed shape i events (inl quiet) = quiet_row i quiet.2
  executed shape i events (inr (inl call)) = helper_row shape call.0 events call.2
  executed shape i events (inr (inr asks)) = value_row shape i events asks.1

  pub step_never_out : (shape : Shape) (program : Loaded) (events : List Event) → Step shape program old events (Done (OutOfBudget pc)) new → ⊥
  step_never_out shape program events step = executed shape step.instruction events step.row
