use Rattle.std.proofs.Common.{List, ap, sym, subst, ◌∙◌}
use Rattle.hop_words.specs.declared.known.Known.{Known}
use Rattle.hop_words.specs.declared.known.Lock.{Lock}
use Rattle.hop_words.specs.Kinds.{AreElsewhere}
use Rattle.hop_words.specs.Locking.{lock_of, other_locks, HasLastLock}
use Rattle.hop_map.specs.Private.Listing.{Covers}
use Rattle.hop_map.proofs.Gathering.{covers_apart, covers_same, covers_others}
use Rattle.hop_map.proofs.listing.unlock_last.Goals as goal

pub unlock_listed-requires-clause-lock : goal.unlock_listed-requires-clause-lock
unlock_listed-requires-clause-lock c = subst (λ (l : Known). HasLastLock l c.args.map c.args.segment)
    (sym c.read_locked_stamp-stamp.ensures.same) c.requires.last

pub unlock_listed-requires-clause-elsewhere : goal.unlock_listed-requires-clause-elsewhere
unlock_listed-requires-clause-elsewhere c = subst (λ (l : Known). AreElsewhere (lock_of l) (other_locks l))
    (sym c.read_locked_stamp-stamp.ensures.same) (covers_apart c.args.table.now.about c.args.lane.now.known c.args.map c.args.segment
    c.requires.last c.requires.covers)

pub unlock_listed-requires-clause-clean : goal.unlock_listed-requires-clause-clean
unlock_listed-requires-clause-clean c = ap (λ (l : Known). (lock_of l).dirty) c.read_locked_stamp-stamp.ensures.same ∙ covers_same
    c.args.table.now.about c.args.lane.now.known c.args.map c.args.segment c.requires.last c.requires.covers

pub returns-clause-covers : goal.returns-clause-covers
returns-clause-covers c =
    subst (λ (ks : List Lock). Covers c.args.table.now.about c.args.map c.args.segment ks)
    (sym (ap (λ (l : Known). l.locks) c.unlock_listed.ensures.unlocked ∙ ap (λ (l : Known). other_locks l)
    c.read_locked_stamp-stamp.ensures.same))
    (covers_others c.args.table.now.about c.args.lane.now.known c.args.map c.args.segment c.requires.last c.requires.covers)
