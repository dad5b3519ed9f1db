use Rattle.bpf_shared.specs.declared.events.Event.TheVariants.{Update}
use Rattle.hop_words.specs.Kinds.{AddsEvent}
use Rattle.bpf_shared.specs.declared.events.MapAnswer.TheVariants.{Invalid}
use Rattle.hop_words.proofs.lane.Lane.see_count_misflagged.Given as goal

abbrev pub ghosts-load_by : goal.ghosts-load_by
ghosts-load_by a = record {
  told = λ n l. AddsEvent a.table.now.about a.self.now.known
      (Update a._said.0 a._said.1.now.key.now a._said.1.now.value.now a._said.1.now.flags Invalid) l;
}
