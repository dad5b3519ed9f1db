use Rattle.std.proofs.Common.{◌≡◌, true, false}
use Rattle.bpf_reorderings.specs.Private.Answers.{CanRunOut}
use Rattle.bpf_reorderings.specs.Private.Hung.{AllHang, AllBeyondBelow}
use Rattle.bpf_reorderings.proofs.hung.list_hung.Given as goal

abbrev pub invariant-loop-place : goal.invariant-loop-place
invariant-loop-place l = record {
  same : l.explorer.kept ≡ l.fn.explorer.kept;
  patient : l.explorer.patient ≡ l.fn.explorer.patient;
  hung : AllHang l.fn.explorer.kept l.hung.items;
  listed : l.fit ≡ true → AllBeyondBelow l.fn.explorer.kept l.marks l.hung.items l.place;
  out : l.fit ≡ false → CanRunOut l.fn.explorer.kept;
}
