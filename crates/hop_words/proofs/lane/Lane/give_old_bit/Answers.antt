use Rattle.std.proofs.Common.{ℕ, ◌+◌, ◌/◌, ◌%◌, ◌^◌, sym, subst}
use Rattle.hop_layout.specs.declared.place.Place.TheVariants.{FreeBits}
use Rattle.hop_words.specs.Private.Step.{Notes}
use Rattle.hop_words.specs.Ghost.{limbo_at}
use Rattle.hop_words.specs.Owning.{tail_of, GivesOld}
use Rattle.hop_words.proofs.Tallies.{adds_old}
use Rattle.hop_words.proofs.lane.Lane.give_old_bit.Goals as goal

pub add_noted-requires-clause-step : goal.add_noted-requires-clause-step
add_noted-requires-clause-step c = subst (λ (k : ℕ). Notes c.args.table.now.about c.args.self.now.known
    (FreeBits c.args.map (c.args.element / 64)) (λ n. (n + k) % 2 ^ 64) (λ ws n l. GivesOld c.args.self.now.known c.args.map c.args.element n l))
    (sym c.bit_of-bit.ensures) (adds_old c.args.table.now.about c.args.self.now.known c.args.map c.args.element
    (tail_of (limbo_at c.args.self.now.known.limbo c.args.map).old) c.requires.even c.requires.element c.requires.room c.requires.passed)
