use Rattle.std.proofs.Common.{◌≡◌, ℕ, sym, subst}
use Rattle.hop_layout.specs.declared.place.Place.TheVariants.{Link}
use Rattle.hop_words.specs.Ghost.{limbo_at}
use Rattle.hop_words.specs.Private.Step.{Steps}
use Rattle.hop_words.specs.Kinds.{retiring}
use Rattle.hop_words.specs.Owning.{tail_of}
use Rattle.hop_words.proofs.Gives.{retire}
use Rattle.hop_words.proofs.lane.Lane.retire_used.Goals as goal

pub store_by-requires-clause-step : goal.store_by-requires-clause-step
store_by-requires-clause-step c = subst (λ (n : ℕ). Steps c.args.table.now.about c.args.self.now.known (Link c.args.map c.args.element)
    (λ _. n) (λ ws found l. l ≡ retiring c.args.self.now.known c.args.map c.args.element
    (tail_of (limbo_at c.args.self.now.known.limbo c.args.map).used))) (sym c.requires.link)
    (retire c.args.table.now.about c.args.self.now.known c.args.map c.args.element
    (tail_of (limbo_at c.args.self.now.known.limbo c.args.map).used) c.requires.element c.requires.room c.requires.unlocked c.requires.used)
