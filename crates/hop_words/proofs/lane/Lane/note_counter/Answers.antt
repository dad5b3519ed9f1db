use Rattle.std.proofs.Common.{◌≡◌, ℕ, sym, subst}
use Rattle.hop_layout.specs.declared.place.Place.TheVariants.{RunCount}
use Rattle.hop_words.specs.Private.Step.{Steps}
use Rattle.hop_words.specs.Kinds.{noting_next}
use Rattle.hop_words.proofs.Turns.{see_counter}
use Rattle.hop_words.proofs.lane.Lane.note_counter.Goals as goal

pub load_by-requires-clause-step : goal.load_by-requires-clause-step
load_by-requires-clause-step c = subst (λ (d : ℕ). Steps c.args.table.now.about c.args.self.now.known (RunCount d) (λ n. n)
    (λ ws n l. l ≡ noting_next c.args.self.now.known c.args.map n)) (sym c.requires.next)
    (see_counter c.args.table.now.about c.args.self.now.known c.args.map c.requires.room)
