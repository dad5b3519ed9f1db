use Rattle.std.proofs.Common.{◌≡◌, ℕ, ◌<◌, length, Some}
use Rattle.std.specs.Prelude.{slice_get}
use Rattle.bpf_loader.specs.Loaded.{Loaded}
use Rattle.bpf_live.specs.Live.{IsLive, IsLiveTable}
use Rattle.bpf_alike.specs.declared.jobs.Merged.TheVariants.{Same}
use Rattle.bpf_alike.specs.Worlds.{table_at}
use Rattle.bpf_alike.proofs.jobs.live_tables.Given as goal

abbrev pub invariant-loop-number : goal.invariant-loop-number
invariant-loop-number l = record {
  count : length l.tables.items ≡ l.number;
  right : (n : ℕ) → n < l.number → (program : Loaded) → slice_get l.programs n ≡ Some program → IsLiveTable program.instructions (table_at l.tables.items n);
  all : l.merged ≡ Same → (n : ℕ) → n < l.number → (pc r : ℕ) → IsLive (table_at l.tables.items n) pc r;
}
