use Rattle.std.proofs.Common.{◌≡◌, ℕ, sym, subst}
use Rattle.hop_layout.specs.declared.place.Place.TheVariants.{RunCount}
use Rattle.hop_words.specs.Private.Step.{Steps}
use Rattle.hop_words.specs.Kinds.{run_count}
use Rattle.hop_words.proofs.Turns.{see_own_count}
use Rattle.hop_words.proofs.lane.Lane.see_own_counter.Goals as goal

pub load_by-requires-clause-step : goal.load_by-requires-clause-step
load_by-requires-clause-step c = subst (λ (d : ℕ). Steps c.args.table.now.about c.args.self.now.known (RunCount d) (λ n. n)
    (λ ws n l. (n ≡ run_count c.args.table.now.about c.args.self.now.known) × (l ≡ c.args.self.now.known))) (sym c.requires.own)
    (see_own_count c.args.table.now.about c.args.self.now.known)
