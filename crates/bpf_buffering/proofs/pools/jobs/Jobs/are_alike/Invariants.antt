use Rattle.std.proofs.Common.{◌≡◌, List, length}
use Rattle.bpf_loader.specs.Loaded.{Loaded}
use Rattle.bpf_alike.specs.Worlds.{AreLiveTables, table_at}
use Rattle.bpf_machine.specs.Parts.{chosen}
use Rattle.bpf_buffering.specs.Private.Classes.{AreLoaded}
use Rattle.bpf_buffering.proofs.ClassLaws.{AlikeBelow}
use Rattle.bpf_buffering.proofs.pools.jobs.Jobs.are_alike.Given as goal

abbrev pub invariant-loop-job : goal.invariant-loop-job
invariant-loop-job l = record {
  count : length l.others ≡ length l.numbers;
  far : (programs : List Loaded) → AreLiveTables programs (table_at l.tables) → AreLoaded programs (chosen l.self l.numbers) → AlikeBelow
      programs l.self l.numbers l.others l.job;
}
