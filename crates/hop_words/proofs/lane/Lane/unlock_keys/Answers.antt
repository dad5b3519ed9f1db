use Rattle.std.proofs.Common.{refl, inl}
use Rattle.bpf_shared.specs.declared.events.Event.{Event}
use Rattle.bpf_shared.specs.declared.events.Event.TheVariants.{Keys}
use Rattle.bpf_shared.specs.KeyOrder.{in_order}
use Rattle.hop_words.specs.Kinds.{AnsweredAll}
use Rattle.hop_words.specs.Locking.{other_locks}
use Rattle.hop_words.specs.Listing.{AnswersGiving}
use Rattle.hop_words.proofs.Listings.{unlock_keys}
use Rattle.hop_words.proofs.Giving.{gives_lock}
use Rattle.hop_words.proofs.lane.Lane.unlock_keys.Goals as goal

pub unlock_noted-requires-clause-step : goal.unlock_noted-requires-clause-step
unlock_noted-requires-clause-step c =
    let a = c.args.table.now.about in
    let l = c.args.self.now.known in
    let event : Event = Keys c.args.at.map (in_order c.args.list.now.keys) in
    gives_lock a l c.args.at.map c.args.at.segment c.args.at.stamp c.requires.lock c.requires.stamp (AnsweredAll a l (other_locks l) event)
    (AnswersGiving a l event)
    (λ x t. (x, t, refl)) (unlock_keys a l c.args.at.map c.args.list.now.keys c.requires.lists)

pub unlock_noted-requires-clause-unlocks : goal.unlock_noted-requires-clause-unlocks
unlock_noted-requires-clause-unlocks c = (c.requires.lock, inl c.requires.stamp)
