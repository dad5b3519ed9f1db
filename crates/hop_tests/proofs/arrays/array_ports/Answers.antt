use Rattle.std.proofs.Common.{sym, subst}
use Rattle.hop_words.specs.Inside.{Shown}
use Rattle.hop_map.specs.Stores.{ArePorts}
use Rattle.hop_tests.proofs.Trials.{new_ports_idle}
use Rattle.hop_tests.proofs.arrays.array_ports.Goals as goal

pub returns : goal.returns
returns c = new_ports_idle c.ports.result.0 c.ports.result.1.items
    (subst (λ (z : Shown). ArePorts z c.ports.result.1.items) (sym c.ports.ensures.table) c.ports.ensures.ports)
