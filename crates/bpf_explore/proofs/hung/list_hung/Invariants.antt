use Rattle.std.proofs.Common.{◌≡◌, true, false}
use Rattle.bpf_explore.specs.Private.Hung.{AllHang, AllBeyondBelow}
use Rattle.bpf_explore.specs.Private.Replays.{CanRunOut}
use Rattle.bpf_explore.proofs.hung.list_hung.Given as goal

abbrev pub invariant-loop-place : goal.invariant-loop-place
invariant-loop-place l = record {
  same : l.explorer.kept ≡ l.fn.explorer.kept;
  peers : l.explorer.peers ≡ l.fn.explorer.peers;
  hung : AllHang l.fn.explorer.kept l.hung.items;
  listed : l.fit ≡ true → AllBeyondBelow l.fn.explorer.kept l.marks l.hung.items l.place;
  out : l.fit ≡ false → CanRunOut l.fn.explorer.kept;
}
