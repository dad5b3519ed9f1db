use Rattle.std.proofs.Common.{ℕ, ◌/◌, bit_and, sym, subst}
use Rattle.hop_layout.specs.declared.place.Place.TheVariants.{FreeBits}
use Rattle.hop_words.specs.Private.Step.{Notes}
use Rattle.hop_words.specs.Owning.{ClaimsBit}
use Rattle.hop_words.proofs.Tallies.{claims}
use Rattle.hop_words.proofs.lane.Lane.claim_bit.Goals as goal

pub and_noted-requires-clause-step : goal.and_noted-requires-clause-step
and_noted-requires-clause-step c = subst (λ (k : ℕ). Notes c.args.table.now.about c.args.self.now.known
    (FreeBits c.args.map (c.args.element / 64)) (λ n. bit_and n k)
    (λ ws n l. ClaimsBit c.args.self.now.known c.args.map c.args.element n l)) (sym c.all_but-mask.ensures)
    (claims c.args.table.now.about c.args.self.now.known c.args.map c.args.element c.requires.element c.requires.empty c.requires.unlocked
    c.requires.runs)
