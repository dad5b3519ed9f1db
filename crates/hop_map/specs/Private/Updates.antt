-- An update, from under the lock to the whole call.
use Rattle.std.specs.Prelude.{◌≡◌, ◌≢◌, ℕ, ◌+◌, ◌-◌, ◌^◌, ◌<◌, ◌≤◌, true, false, List, [], ◌∷◌, Option, Some, None, IfSome, length, slice_index}
use Rattle.bpf_shared.specs.Shape.{elements}
use Rattle.bpf_shared.specs.History.{events_of}
use Rattle.bpf_shared.specs.declared.events.Event.TheVariants.{Update}
use Rattle.bpf_shared.specs.declared.events.MapAnswer.{MapAnswer}
use Rattle.bpf_shared.specs.declared.events.MapAnswer.TheVariants.{Done, Busy, NoMemory}
use Rattle.hop_layout.specs.declared.about.About.{About}
use Rattle.hop_words.specs.declared.known.Known.{Known}
use Rattle.hop_layout.specs.Layout.{words_for}
use Rattle.hop_layout.specs.Words.{word_of, AreBytes}
use Rattle.hop_words.specs.Content.{HasKey}
use Rattle.hop_words.specs.Ghost.{shape_at}
use Rattle.hop_words.specs.Rule.{image}
use Rattle.hop_words.specs.Shortage.{done_in}
use Rattle.hop_words.specs.Kinds.{has, holding, TakesEffect, AnswersUnderLock}
use Rattle.bpf_shared.specs.Own.{in_run}
use Rattle.hop_words.specs.Locking.{lock_of, hand}
use Rattle.hop_seg.specs.Content.{IsAbsent as SegAbsent}
use Rattle.hop_seg.specs.Spots.{IsSpot}
use Rattle.hop_map.specs.declared.ending.Ending.{Ending}
use Rattle.hop_map.specs.declared.ending.Ending.TheVariants.{Added, Replaced, Refused}
use Rattle.hop_map.specs.declared.judging.Finding.{Finding}
use Rattle.hop_map.specs.declared.judging.Finding.TheVariants.{Refuses, There, Missing}
use Rattle.hop_map.specs.LockedSegment.{Locked, Ready}
use Rattle.hop_map.specs.Private.LockedSegment.{seen_words}
use Rattle.hop_map.specs.Noting.{BusyFirst}
use Rattle.hop_map.specs.Call.{SearchesInVain}
use Rattle.hop_arena.specs.declared.element.Element.{Element}
use Rattle.hop_epoch.specs.Batch.{KeepsBatches}
use Rattle.hop_map.specs.Private.UnderLock.{IsInsertion}
use Rattle.hop_map.specs.Private.Replacing.{IsReplacement}
use Rattle.hop_layout.specs.Layout.{gained}
use Rattle.hop_map.specs.LockedSegment.{locked_home}

-- a call in a run has a key of the map, a value, and flags that are known
pub record Brought (a : About) (l : Known) (m : ℕ) (key bytes : List ℕ) (flags : ℕ) : Type 0 where
  pub key_size : length key ≡ (shape_at a m).key
  pub size : length bytes ≡ (shape_at a m).value
  pub are_bytes : AreBytes bytes
  pub flags_known : flags ≤ 2
  pub limbo : m < length l.limbo
  pub runs : in_run (events_of l.cpu l.seen) ≡ true

-- so it has a key of the locked segment
pub record Wants (a : About) (l : Known) (m s : ℕ) (key bytes : List ℕ) (flags : ℕ) : Type 0 where
  pub home : locked_home a l m key ≡ s
  pub key_size : length key ≡ (shape_at a m).key
  pub size : length bytes ≡ (shape_at a m).value
  pub are_bytes : AreBytes bytes
  pub flags_known : flags ≤ 2
  pub limbo : m < length l.limbo
  pub runs : in_run (events_of l.cpu l.seen) ≡ true

-- the one element in hand has the value
pub record Valued (a : About) (l : Known) (m : ℕ) (bytes : List ℕ) : Type 0 where
  pub filled : length (hand l).value ≡ words_for (shape_at a m).value
  pub value : (i : ℕ) → i < words_for (shape_at a m).value →
      slice_index (hand l).value i ≡ word_of bytes i

-- under the lock, with an element in hand that has the key and the value
pub record Offers (a : About) (l : Known) (m s : ℕ) (key bytes : List ℕ) (flags element : ℕ) :
    Type 0 where
  pub wants : Wants a l m s key bytes flags
  pub valued : Valued a l m bytes
  pub in_hand : l.fresh ≡ hand l ∷ []
  pub map : (hand l).map ≡ m
  pub number : (hand l).element ≡ element
  pub inside : element < elements (shape_at a m)
  pub keyed : HasKey (shape_at a m) (image a (lock_of l).first) m element key
  -- by what the lock said
  pub apart : has element (lock_of l).known ≡ false

-- what the lock's words and the flags say of an update
abbrev pub DecidesUpdate : Locked → List ℕ → List ℕ → ℕ → Finding → Type 0
DecidesUpdate x key bytes flags (Refuses r) =
    (r ≢ Done) × (r ≢ NoMemory) × BusyFirst (lock_of x.known).stamp r
    × (Ready x.about x.known x.map x.segment →
    AnswersUnderLock x.about x.known (lock_of x.known) (Update x.map key bytes flags r))
DecidesUpdate x key bytes flags (There found) =
    ((lock_of x.known).stamp + 256 < 2 ^ 64) × (flags ≢ 1) × IsSpot (seen_words x) key found
DecidesUpdate x key bytes flags Missing =
    ((lock_of x.known).stamp + 256 < 2 ^ 64) × (flags ≢ 2) × SegAbsent (seen_words x) key

-- the answer's event, and all else as it was; Busy only where changes have worn the versions out
pub record Refusal (a : About) (l : Known) (m : ℕ) (key bytes : List ℕ) (flags : ℕ) (r : MapAnswer)
    (l2 : Known) : Type 0 where
  pub seen : TakesEffect a l (Update m key bytes flags r) l2.seen
  pub after : l2 ≡ record l { seen = l2.seen; locks = [] }
  pub refused : r ≢ Done
  pub worn : r ≡ Busy → 2 ^ 56 - 1 ≤ a.version + gained (shape_at a m) + done_in m l2.seen

-- how an update ends that has an element in hand: only with a free element to spare is none lacking
abbrev pub UpdateEnds : About → Known → ℕ → List ℕ → List ℕ → ℕ → Ending → Known → Type 0
UpdateEnds a l m key bytes flags (Added spilled) l2 = IsInsertion a l m key bytes flags l2
UpdateEnds a l m key bytes flags (Replaced e) l2 = IsReplacement a l m key bytes flags e l2
UpdateEnds a l m key bytes flags (Refused r) l2 = Refusal a l m key bytes flags r l2
    × (r ≢ NoMemory)

abbrev pub answer_of : Ending → MapAnswer
answer_of (Added spilled) = Done
answer_of (Replaced e) = Done
answer_of (Refused r) = r

-- a new key that went to an overflow list went to that of this segment
abbrev pub SpillsTo : ℕ → Ending → Type 0
SpillsTo s (Added spilled) = IfSome spilled (λ t. t ≡ s)
SpillsTo s (Replaced e) = Unit {0}
SpillsTo s (Refused r) = Unit {0}

-- the element in hand is new, or each was looked for in vain
abbrev pub ClaimsOrLacks : About → Known → ℕ → Option Element → Known → Type 0
ClaimsOrLacks a l m None l' = KeepsBatches m l l' × SearchesInVain a l m l'
ClaimsOrLacks a l m (Some x) l' = KeepsBatches m (holding l m x.number) l' × (x.map ≡ m)
    × (x.number < elements (shape_at a m))
