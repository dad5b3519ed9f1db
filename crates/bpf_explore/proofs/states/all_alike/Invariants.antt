use Rattle.std.proofs.Common.{◌≡◌, List, length}
use Rattle.bpf_loader.specs.Loaded.{Loaded}
use Rattle.bpf_alike.specs.Worlds.{AreLiveTables, table_at}
use Rattle.bpf_machine.specs.Parts.{chosen}
use Rattle.bpf_explore.specs.Private.States.{AreLoaded}
use Rattle.bpf_explore.proofs.StateLaws.{AlikeBelow}
use Rattle.bpf_explore.proofs.states.all_alike.Given as goal

abbrev pub invariant-loop-job : goal.invariant-loop-job
invariant-loop-job l = record {
  count : length l.others ≡ length l.numbers;
  far : (programs : List Loaded) → AreLiveTables programs (table_at l.tables) → AreLoaded programs (chosen l.parts l.numbers) → AlikeBelow
      programs l.parts l.numbers l.others l.job;
}
