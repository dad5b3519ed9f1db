use Rattle.std.proofs.Common.{inl}
use Rattle.hop_words.specs.Locking.{lock_of}
use Rattle.hop_words.specs.Kinds.{Answered}
use Rattle.bpf_shared.specs.declared.events.Event.TheVariants.{Delete}
use Rattle.hop_words.proofs.Unlocks.{unlock_answer}
use Rattle.hop_words.proofs.Locked.{only_last, at_same_stamp}
use Rattle.hop_words.proofs.lane.Lane.unlock_delete.Goals as goal

pub unlock_by-requires-clause-step : goal.unlock_by-requires-clause-step
unlock_by-requires-clause-step c = at_same_stamp c.args.table.now.about c.args.self.now.known c.args.at.map c.args.at.segment c.requires.lock
    c.args.at.stamp (λ ws n l. Answered c.args.table.now.about c.args.self.now.known (lock_of c.args.self.now.known)
    (Delete c.args.at.map c.args.key.now c.args.answer) l) c.requires.stamp
    (unlock_answer c.args.table.now.about c.args.self.now.known (lock_of c.args.self.now.known)
    (Delete c.args.at.map c.args.key.now c.args.answer) c.requires.answers)

pub unlock_by-requires-clause-unlocks : goal.unlock_by-requires-clause-unlocks
unlock_by-requires-clause-unlocks c = (only_last c.args.self.now.known c.args.at.map c.args.at.segment c.requires.lock, inl c.requires.stamp)
