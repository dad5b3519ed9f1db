use Rattle.hop_words.specs.Seats.{AreSettled}
use Rattle.hop_words.proofs.closing.Returned.settle.Given as goal

abbrev pub ghosts-settle_by : goal.ghosts-settle_by
ghosts-settle_by a = record { told = AreSettled a.table.now.about }
