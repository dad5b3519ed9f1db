use Rattle.std.proofs.Common.{◌+◌, ◌*◌, ap, sym, ◌∙◌}
use Rattle.hop_layout.specs.declared.index.Bases.{Bases}
use Rattle.hop_layout.proofs.Indexes.{at_stamp}
use Rattle.hop_layout.proofs.index.Index.segment.Goals as goal

pub returns-clause-word : goal.returns-clause-word
returns-clause-word c = ap (λ (b : Bases). b.segments + 130 * c.args.segment) c.bases.ensures.bases ∙ sym
    (at_stamp c.args.self.now.shape c.args.map c.args.segment)
