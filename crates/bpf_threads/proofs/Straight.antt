-- An instruction that goes on to the next leads to a spot.
use Rattle.std.proofs.Common.{◌≡◌, ◌+◌, ℕ, pos, true, List, Option}
use Rattle.bpf_insn.specs.Table.{words}
use Rattle.bpf_insn.specs.declared.instruction.Insn.{Insn}
use Rattle.bpf_insn.specs.declared.instruction.Insn.TheVariants as insn
use Rattle.bpf_threads.specs.declared.spot.Spot.{Spot}
use Rattle.bpf_threads.specs.Chart.{IsAfter, IsSpotThere, FollowsSpots, goes_straight}

pub straight : (spots : List Spot) (p : Spot) (i : Insn) → goes_straight i ≡ true → (known : List (Option ℕ)) → IsAfter p i known →
    IsSpotThere spots p.next (pos (p.pc + words i)) p.callers.items known → FollowsSpots spots p i
straight spots p (insn.Alu w op d s) e known after there = (known, after, there)
straight spots p (insn.Negate w d) e known after there = (known, after, there)
straight spots p (insn.SignExtend x d s) e known after there = (known, after, there)
straight spots p (insn.SwapBytes k w d) e known after there = (known, after, there)
straight spots p (insn.CallHelper n) e known after there = (known, after, there)
straight spots p (insn.Load z d b o) e known after there = (known, after, there)
straight spots p (insn.LoadSigned z d b o) e known after there = (known, after, there)
straight spots p (insn.StoreImmediate z b o n) e known after there = (known, after, there)
straight spots p (insn.Store z b o s) e known after there = (known, after, there)
straight spots p (insn.Atomic w op b o s) e known after there = (known, after, there)
straight spots p (insn.LoadNumber d n) e known after there = (known, after, there)
straight spots p (insn.LoadMap d m) e known after there = (known, after, there)
straight spots p (insn.Jump by) e known after there = absurd cc
straight spots p (insn.JumpLong by) e known after there = absurd cc
straight spots p (insn.JumpIf w c d s by) e known after there = absurd cc
straight spots p (insn.CallLocal by) e known after there = absurd cc
straight spots p insn.Exit e known after there = absurd cc
