use Rattle.std.proofs.Common.{◌≡◌, ap, inl}
use Rattle.hop_words.specs.declared.known.Known.{Known}
use Rattle.hop_words.specs.Sights.{sighted}
use Rattle.hop_words.specs.Locking.{lock_of, unlocking_last}
use Rattle.hop_words.specs.Listing.{lock_given}
use Rattle.hop_words.proofs.Unlocks.{unlock_silent}
use Rattle.hop_words.proofs.Giving.{gives_lock}
use Rattle.hop_words.proofs.lane.Lane.unlock_listed.Goals as goal

pub unlock_noted-requires-clause-step : goal.unlock_noted-requires-clause-step
unlock_noted-requires-clause-step c =
    let a = c.args.table.now.about in
    let l = c.args.self.now.known in
    let q = c.requires in
    gives_lock a l c.args.at.map c.args.at.segment c.args.at.stamp q.lock q.stamp (λ x. x ≡ unlocking_last l)
    (λ x. x ≡ sighted (unlocking_last l) (lock_given (lock_of l)))
    (λ x t. ap (λ (y : Known). sighted y (lock_given (lock_of l))) t) (unlock_silent a l (lock_of l) q.lock.0 q.elsewhere q.clean)

pub unlock_noted-requires-clause-unlocks : goal.unlock_noted-requires-clause-unlocks
unlock_noted-requires-clause-unlocks c = (c.requires.lock, inl c.requires.stamp)
