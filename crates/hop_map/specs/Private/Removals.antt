-- A deletion.
use Rattle.std.specs.Prelude.{◌≡◌, ℕ, ◌+◌, ◌-◌, ◌^◌, ◌<◌, ◌≤◌, true, List, [], length}
use Rattle.bpf_shared.specs.declared.events.Event.TheVariants.{Delete}
use Rattle.bpf_shared.specs.declared.events.MapAnswer.{MapAnswer}
use Rattle.bpf_shared.specs.declared.events.MapAnswer.TheVariants.{Done, Absent, Busy}
use Rattle.bpf_shared.specs.Shape.{elements}
use Rattle.bpf_shared.specs.History.{events_of}
use Rattle.hop_layout.specs.declared.about.About.{About}
use Rattle.hop_words.specs.declared.known.Known.{Known}
use Rattle.hop_map.specs.declared.dropping.Deletion.{Deletion}
use Rattle.hop_map.specs.declared.dropping.Deletion.TheVariants.{Gone, Missing, Worn}
use Rattle.hop_words.specs.Ghost.{shape_at}
use Rattle.hop_words.specs.Shortage.{done_in}
use Rattle.hop_words.specs.Kinds.{TakesEffect, with_gone}
use Rattle.bpf_shared.specs.Own.{in_run}
use Rattle.hop_map.specs.LockedSegment.{locked_home}
use Rattle.hop_layout.specs.Layout.{gained}

-- a call in a run has a key of this segment
pub record NamesKey (a : About) (l : Known) (m s : ℕ) (key : List ℕ) : Type 0 where
  pub home : locked_home a l m key ≡ s
  pub size : length key ≡ (shape_at a m).key
  pub limbo : m < length l.limbo
  pub runs : in_run (events_of l.cpu l.seen) ≡ true

-- before the segment is known
pub record NamesKeyOf (a : About) (l : Known) (m : ℕ) (key : List ℕ) : Type 0 where
  pub size : length key ≡ (shape_at a m).key
  pub limbo : m < length l.limbo
  pub runs : in_run (events_of l.cpu l.seen) ≡ true

-- the deletion's event; the element that the key led to is in hand, and all else as it was
pub record Dropped (a : About) (l : Known) (m : ℕ) (key : List ℕ) (old : ℕ)
    (l2 : Known) : Type 0 where
  pub seen : TakesEffect a l (Delete m key Done) l2.seen
  pub after : l2 ≡ record l { seen = l2.seen; limbo = with_gone l m old; locks = [] }

-- the answer's event; nothing else changed
pub record Kept (a : About) (l : Known) (m : ℕ) (key : List ℕ) (answer : MapAnswer)
    (l2 : Known) : Type 0 where
  pub seen : TakesEffect a l (Delete m key answer) l2.seen
  pub after : l2 ≡ record l { seen = l2.seen; locks = [] }

-- how a deletion under the lock ends
abbrev pub DeleteEnds : About → Known → ℕ → List ℕ → Deletion → Known → Type 0
DeleteEnds a l m key (Gone e) l2 = Dropped a l m key e l2 × (e < elements (shape_at a m))
DeleteEnds a l m key Missing l2 = Kept a l m key Absent l2
DeleteEnds a l m key Worn l2 = Kept a l m key Busy l2
    × (2 ^ 56 - 1 ≤ a.version + gained (shape_at a m) + done_in m l2.seen)

abbrev pub answer_to : Deletion → MapAnswer
answer_to (Gone e) = Done
answer_to Missing = Absent
answer_to Worn = Busy
