use Rattle.std.proofs.Common.{ℕ, List, subst}
use Rattle.bpf_shared.specs.Listing.{listed}
use Rattle.hop_map.specs.Private.Dumping.{IsKeyAmong}
use Rattle.hop_map.proofs.Dumps.{adds_pair, adds_key}
use Rattle.hop_map.proofs.dumping.add.Goals as goal

pub returns-clause-adds : goal.returns-clause-adds
returns-clause-adds c =
    adds_pair c.args.rest.now c.args.map c.args.pairs.now.entries c.insert.new.self.entries c.in_ok-key.key c.in_ok-value.value c.in_ok-insert.ensures.entries
    (c.args.segment, c.args.element, c.requires.inside, c.requires.reached, λ j. (c.in_ok-key.ensures j, c.in_ok-value.ensures j))

pub returns-clause-key : goal.returns-clause-key
returns-clause-key c =
    subst (λ (k : List ℕ). IsKeyAmong k (listed c.insert.new.self.entries)) c.in_ok-key.ensures
    (adds_key c.args.rest.now c.args.map c.args.pairs.now.entries c.insert.new.self.entries c.in_ok-key.key c.in_ok-value.value c.in_ok-insert.ensures.entries)
