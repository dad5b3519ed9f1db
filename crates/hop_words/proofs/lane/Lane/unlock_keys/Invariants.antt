use Rattle.bpf_shared.specs.declared.events.Event.TheVariants.{Keys}
use Rattle.bpf_shared.specs.KeyOrder.{in_order}
use Rattle.hop_words.specs.Listing.{AnswersGiving}
use Rattle.hop_words.proofs.lane.Lane.unlock_keys.Given as goal

abbrev pub ghosts-unlock_noted : goal.ghosts-unlock_noted
ghosts-unlock_noted a = record { told = λ n l. AnswersGiving a.table.now.about a.self.now.known (Keys a._said.0 (in_order a._said.1.now.keys)) l }
