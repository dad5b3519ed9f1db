use Rattle.std.proofs.Common.{ap, ◌∙◌}
use Rattle.hop_map.specs.Private.Peeks.{Peeked, peeked}
use Rattle.hop_map.proofs.Peeking.{rested_as}
use Rattle.hop_map.proofs.peeked.PeekedWords.read.Goals as goal

pub returns-clause-rests : goal.returns-clause-rests
returns-clause-rests c = let i = c.self.inside in
    rested_as c.args.self.now (record {
      table = i.table.now.id;
      about = i.table.now.about;
      known = c.peek.new.self.known;
      map = i.map;
      segment = i.segment;
    }) c.args.place c.peek.result
    ((λ j. record { table = i.table.now.id; about = i.table.now.about; known = c.peek.ensures.peeked j; map = i.map; segment = i.segment })
    ∙ ap (λ (x : Peeked). peeked x c.args.place c.peek.result) c.self.view_is)
