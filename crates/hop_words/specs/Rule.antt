-- The rule that holds between any two steps: six parts, each over the words and the fields of
-- lanes that it names.
use Rattle.std.specs.Prelude.{◌≡◌, ◌≢◌, ℕ, ◌⊎◌, ◌+◌, ◌/◌, ◌%◌, ◌<◌, ◌≤◌, Bool, true, false, ◌&&◌, List, [], ◌∷◌, Option, Some, None, length}
use Rattle.std.specs.Prelude.{take, ◌==◌, if◌then◌else◌, slice_index}
use Rattle.std.specs.Int.{bit_at}
use Rattle.std.specs.FinMap.{get, len}
use mathlib.Core.Option.{some}
use mathlib.Core.List.{IsPrefix}
use lib.ListN.{get_elem?}
use Rattle.atomic_table.specs.Table.{State}
use Rattle.bpf_shared.specs.declared.events.Entry.{Entry}
use Rattle.bpf_shared.specs.Shape.{element_span, fixed_span, IsShape}
use Rattle.bpf_shared.specs.Store.{KeyMap, Value, Plain, as_made, fixed_number}
use Rattle.bpf_shared.specs.History.{Legal, events_of}
use Rattle.bpf_shared.specs.Own.{turns_of, in_run}
use Rattle.hop_layout.specs.declared.place.Place.{Place}
use Rattle.hop_layout.specs.declared.place.Place.TheVariants.{RunCount, KeyCount, FreeBits, Stamp, Head, Hop, Slot, Link, KeyWord, ValueWord, FixedWord}
use Rattle.hop_layout.specs.declared.about.About.{About}
use Rattle.hop_words.specs.declared.known.Known.{Known}
use Rattle.hop_words.specs.declared.known.View.{View}
use Rattle.hop_words.specs.declared.known.Fresh.{Fresh}
use Rattle.hop_words.specs.declared.known.Limbo.{Limbo}
use Rattle.hop_words.specs.declared.known.Sight.{Sight}
use Rattle.hop_words.specs.declared.known.Lock.{Lock}
use Rattle.hop_words.specs.declared.known.Reading.{Reading}
use Rattle.hop_words.specs.declared.known.Peek.{Peek}
use Rattle.hop_words.specs.declared.known.Change.{Change}
use Rattle.hop_words.specs.declared.known.Change.TheVariants.{Nothing, Puts, Drops}
use Rattle.hop_layout.specs.Layout.{size, mem, words_for, first_depth}
use Rattle.hop_layout.specs.Words.{bytes_of_words}
use Rattle.hop_words.specs.Content.{one_if, MapWords, words_by_place, times, Reached, IsShare, AgreesInSegment, AgreesFront}
use Rattle.hop_words.specs.Shortage.{done_in, updates_in, HasHadValue, HaveCausesBy}
use Rattle.hop_words.specs.Sights.{IsTakenSince}
use Rattle.hop_words.specs.Ghost.{Holder, Free, Filling, Leaving, Within, is_free, is_filling, is_leaving, Carries, lane, Era, Ghost}
use Rattle.hop_words.specs.Ghost.{shape_at, HasElement, array_at, HasFixed, fixed_word, limbo_at, lock_home, IsHomeIn, child, Each}
use Rattle.hop_words.specs.Depths.{stamp_depth, IsBorn, home_by, Deep}

-- ======== history

-- the one history is legal, and of it each CPU has seen a beginning with all its own events
pub record Logged (a : About) (seen : ℕ → List Entry) (log : List Entry) (last : Plain) : Type 0
  where
    pub legal : Legal (as_made a.shape) log last
    pub begins : (c : ℕ) → c < a.shape.cpus → IsPrefix (seen c) log
    pub own : (c : ℕ) → c < a.shape.cpus → events_of c (seen c) ≡ events_of c log
    pub others : (c : ℕ) → a.shape.cpus ≤ c → events_of c log ≡ []

abbrev pub numbered : (ℕ → ℕ) → Option ℕ → Option ℕ
numbered f None = None
numbered f (Some e) = Some (f e)

-- the key counts are the numbers of keys, and each key leads to the value that lies in its element
pub record Keyed (a : About) (counts : ℕ → ℕ) (maps : ℕ → KeyMap) (linked : ℕ → List ℕ → Option ℕ)
    (number : ℕ → ℕ → ℕ) : Type 0 where
  pub counted : (m : ℕ) → m < length a.shape.maps → counts m ≡ len (maps m)
  pub leads : (m : ℕ) (key : List ℕ) → get (maps m) key ≡ numbered (number m) (linked m key)

-- versions go up by Done events and by splits alone
abbrev pub Worn : About → (ℕ → ℕ → ℕ) → (ℕ → ℕ → ℕ) → (ℕ → ℕ → Era) → List Entry → Type 0
Worn a depths stamp eras log = (m s : ℕ) → IsBorn a depths m s
    → stamp m s / 256 + (eras m s).credit + first_depth (shape_at a m)
    ≤ a.version + depths m s + done_in m log

-- ======== runs

-- the counters count begins and ends
abbrev pub Runs : About → (ℕ → ℕ) → List Entry → Type 0
Runs a counts log = (c : ℕ) → c < a.shape.cpus → counts c ≡ a.count + turns_of (events_of c log)

abbrev pub link_to : List ℕ → ℕ
link_to [] = 0
link_to (e ∷ es) = e + 1

abbrev pub Chained : (ℕ → ℕ) → List ℕ → Type 0
Chained link [] = Unit {0}
Chained link (e ∷ es) = (link e ≡ link_to es) × Chained link es

-- batches are linked, and a running CPU holds an element of an old batch only if its counter is the
-- one noted
pub record Batched (a : About) (link : ℕ → ℕ → ℕ) (counts : ℕ → ℕ) (limbo : ℕ → List Limbo)
    (held : ℕ → ℕ → Bool) (number : ℕ → ℕ → ℕ) : Type 0 where
  pub young : (c m : ℕ) → c < a.shape.cpus → Chained (link m) (limbo_at (limbo c) m).young
  pub old : (c m : ℕ) → c < a.shape.cpus → Chained (link m) (limbo_at (limbo c) m).old
  pub noted : (c m e d : ℕ) → c < a.shape.cpus → HasElement a m e
      → 1 ≤ times e (limbo_at (limbo c) m).old → d < length (limbo_at (limbo c) m).noted
      → held d (number m e) ≡ true → slice_index (limbo_at (limbo c) m).noted d ≡ counts d

-- ======== owners

-- how often the elements in hand have this one
abbrev pub times_fresh : ℕ → ℕ → List Fresh → ℕ
times_fresh m e [] = 0
times_fresh m e (f ∷ fs) = one_if ((f.map == m) && (f.element == e)) + times_fresh m e fs

-- how often what a CPU took out of its map has this one
abbrev pub times_limbo : ℕ → Limbo → ℕ
times_limbo e l = times e l.used + times e l.young + times e l.old

-- each element has one holder
pub record Owned (a : About) (free : ℕ → ℕ → ℕ) (fresh : ℕ → List Fresh) (limbo : ℕ → List Limbo)
    (holder : ℕ → ℕ → Holder) : Type 0 where
  pub bits : (m e : ℕ) → HasElement a m e → bit_at (free m (e / 64)) (e % 64)
      ≡ one_if (is_free (holder m e))
  pub fresh_is : (c m e : ℕ) → c < a.shape.cpus → HasElement a m e
      → times_fresh m e (fresh c) ≡ one_if (is_filling c (holder m e))
  pub limbo_is : (c m e : ℕ) → c < a.shape.cpus → HasElement a m e
      → times_limbo e (limbo_at (limbo c) m) ≡ one_if (is_leaving c (holder m e))

-- a key leads to an element that is linked under it
pub record Linked (a : About) (linked : ℕ → List ℕ → Option ℕ) (holder : ℕ → ℕ → Holder) : Type 0
  where
    pub within : (m : ℕ) (key : List ℕ) (e : ℕ) → linked m key ≡ Some e
        → HasElement a m e × (holder m e ≡ Within key)
    pub leads : (m e : ℕ) (key : List ℕ) → HasElement a m e → holder m e ≡ Within key
        → linked m key ≡ Some e

abbrev pub StartsWith : List ℕ → (ℕ → ℕ) → Type 0
StartsWith ns w = (k : ℕ) → k < length ns → w k ≡ slice_index ns k

-- the words that a CPU filled are in its elements
abbrev pub Filled : About → (ℕ → ℕ → ℕ → ℕ) → (ℕ → ℕ → ℕ → ℕ) → (ℕ → List Fresh) → Type 0
Filled a key value fresh = (c : ℕ) → c < a.shape.cpus
    → Each (λ (f : Fresh). StartsWith f.key (key f.map f.element)
    × StartsWith f.value (value f.map f.element)) (fresh c)

-- ======== segments

-- the words at rest stay until a lock changes something, and show the segment's share of the keys
pub record Segment (a : About) (depths : ℕ → ℕ → ℕ) (x : MapWords) (stamp : ℕ) (r : Era)
    (m s : ℕ) (f : List ℕ → Option ℕ) : Type 0 where
  pub at_rest : stamp % 2 ≡ 0 → r.dirty ≡ false
  pub clean : r.dirty ≡ false → (r.era + stamp % 2 ≡ stamp) × AgreesInSegment m s (Reached r.old m s) x r.old
  pub written : r.dirty ≡ true → r.era ≡ stamp
  pub shows : r.dirty ≡ false → IsShare a.seed (shape_at a m) (home_by a m (depths m s)) r.old m s f

abbrev pub Segments : About → (ℕ → ℕ → ℕ) → MapWords → (ℕ → ℕ → ℕ) → (ℕ → ℕ → Era)
    → (ℕ → List ℕ → Option ℕ) → Type 0
Segments a depths x stamp eras linked = (m s : ℕ) → IsBorn a depths m s
    → Segment a depths x (stamp m s) (eras m s) m s (linked m)

-- ---- locks
-- an element whose link and key words nobody but the holder c of the lock writes (home: the segment
-- of each key)
abbrev pub Minded : (List ℕ → ℕ) → ℕ → ℕ → Holder → Type 0
Minded home c s Free = ⊥
Minded home c s (Filling d) = d ≡ c
Minded home c s (Leaving d) = d ≡ c
Minded home c s (Within key) = home key ≡ s

abbrev pub key_is : List ℕ → List ℕ → Bool
key_is [] [] = true
key_is (x ∷ xs) (y ∷ ys) = (x == y) && key_is xs ys
key_is xs ys = false

abbrev pub put_key : (List ℕ → Option ℕ) → List ℕ → Option ℕ → List ℕ → Option ℕ
put_key f key o = λ q. if key_is q key then o else f q

abbrev pub changed : Change → (List ℕ → Option ℕ) → List ℕ → Option ℕ
changed Nothing f = f
changed (Puts key e) f = put_key f key (Some e)
changed (Drops key) f = put_key f key None

abbrev pub owed : Change → ℕ
owed Nothing = 0
owed (Puts key e) = 1
owed (Drops key) = 1

abbrev pub image : About → List ℕ → MapWords
image a ws = words_by_place (mem a.shape ws)

-- the keys lead where the words at the lock said, but for what took effect since: that remains to
-- be written
abbrev pub IsDue : About → Lock → (List ℕ → Option ℕ) → Type 0
IsDue a k f = (before : List ℕ → Option ℕ)
    × IsShare a.seed (shape_at a k.map) (lock_home a k) (image a k.first) k.map k.segment before
    × ((key : List ℕ) → IsHomeIn a k key → f key ≡ changed k.change before key)

-- the CPU c has the lock, and its copy is what the words are
pub record Holds (a : About) (depths : ℕ → ℕ → ℕ) (x : MapWords) (stamp : ℕ → ℕ → ℕ)
    (eras : ℕ → ℕ → Era) (linked : ℕ → List ℕ → Option ℕ) (holder : ℕ → ℕ → Holder) (c : ℕ)
    (k : Lock) : Type 0 where
  pub inside : IsBorn a depths k.map k.segment
  pub deep : stamp_depth k.stamp ≡ depths k.map k.segment
  pub even : k.stamp % 2 ≡ 0
  pub locked : stamp k.map k.segment ≡ k.stamp + 1
  pub writer : (eras k.map k.segment).writer ≡ c
  pub dirty : (eras k.map k.segment).dirty ≡ k.dirty
  pub credit : (eras k.map k.segment).credit ≡ owed k.change
  pub untouched : k.dirty ≡ false → (k.copy ≡ k.first) × (k.change ≡ Nothing)
  pub sized : length k.copy ≡ size a.shape
  pub copied : AgreesInSegment k.map k.segment (λ e. Minded (lock_home a k) c k.segment (holder k.map e)) x
      (image a k.copy)
  -- and so are the words of the segment that would be born here
  pub beside : AgreesFront k.map (child k) x (image a k.copy)
  pub beside_stamp : stamp k.map (child k) ≡ mem a.shape k.copy (Stamp k.map (child k))
  pub due : IsDue a k (linked k.map)

abbrev pub Locking : About → (ℕ → ℕ → ℕ) → MapWords → (ℕ → ℕ → ℕ) → (ℕ → ℕ → Era)
    → (ℕ → List ℕ → Option ℕ) → (ℕ → ℕ → Holder) → (ℕ → List Lock) → Type 0
Locking a depths x stamp eras linked holder locks = (c : ℕ)
    → Each (Holds a depths x stamp eras linked holder c) (locks c)

-- how often a list of locks has this segment's
abbrev pub times_lock : ℕ → ℕ → List Lock → ℕ
times_lock m s [] = 0
times_lock m s (k ∷ ks) = one_if ((k.map == m) && (k.segment == s)) + times_lock m s ks

-- a locked segment has a holder
abbrev pub Held : About → (ℕ → ℕ → ℕ) → (ℕ → ℕ → ℕ) → (ℕ → ℕ → Era) → (ℕ → List Lock) → Type 0
Held a depths stamp eras locks = (m s : ℕ) → IsBorn a depths m s → stamp m s % 2 ≡ 1
    → ((eras m s).writer < a.shape.cpus) × (1 ≤ times_lock m s (locks (eras m s).writer))

-- ---- readings
-- if the place is one of the segment's, this is its number
abbrev pub IsPeek : MapWords → ℕ → ℕ → Place → ℕ → Type 0
IsPeek x m s (Head n t) i = n ≡ m → t ≡ s → x.head m s ≡ i
IsPeek x m s (Hop n t b) i = n ≡ m → t ≡ s → x.hop m s b ≡ i
IsPeek x m s (Slot n t b) i = n ≡ m → t ≡ s → x.slot m s b ≡ i
IsPeek x m s (Link n e) i = n ≡ m → Reached x m s e → x.link m e ≡ i
IsPeek x m s (KeyWord n e k) i = n ≡ m → Reached x m s e → x.key m e k ≡ i
IsPeek x m s p i = Unit {0}

-- while the stamp is the one noted, each word peeked has the number peeked
pub record IsSoundReading (a : About) (depths : ℕ → ℕ → ℕ) (eras : ℕ → ℕ → Era) (r : Reading)
    : Type 0 where
  pub inside : IsBorn a depths r.map r.segment
  pub deep : stamp_depth r.stamp ≤ depths r.map r.segment
  pub even : r.stamp % 2 ≡ 0
  pub behind : r.stamp ≤ (eras r.map r.segment).era
  pub stays : r.stamp ≡ (eras r.map r.segment).era
      → Each (λ (p : Peek). IsPeek (eras r.map r.segment).old r.map r.segment p.place p.number)
      r.peeks

abbrev pub Readings : About → (ℕ → ℕ → ℕ) → (ℕ → ℕ → Era) → (ℕ → List Reading) → Type 0
Readings a depths eras readings = (c : ℕ) → Each (IsSoundReading a depths eras) (readings c)

-- ======== values

-- a value's bytes are those that its element's words spell, and each held value lies in an element
-- that nobody fills
pub record Valued (a : About) (words : ℕ → ℕ → ℕ → ℕ) (made : ℕ) (value : ℕ → Value)
    (held : ℕ → ℕ → Bool) (holder : ℕ → ℕ → Holder) (number : ℕ → ℕ → ℕ) : Type 0 where
  pub lies : (m e : ℕ) → HasElement a m e → Carries (holder m e)
      → value (number m e)
      ≡ record {
        bytes = take (shape_at a m).value
            (bytes_of_words (words_for (shape_at a m).value) (words m e));
        span = element_span m (shape_at a m) e;
      }
  pub older : (m e : ℕ) → HasElement a m e → Carries (holder m e) → number m e < made
  pub held_in : (c v : ℕ) → held c v ≡ true → (m : ℕ) × (e : ℕ) × HasElement a m e
      × Carries (holder m e) × (number m e ≡ v)

-- a fixed value's bytes are those that its words spell
abbrev pub ShowsFixed : About → (ℕ → ℕ → ℕ) → (ℕ → Value) → Type 0
ShowsFixed a words value = (b k i : ℕ) → HasFixed a b k i
    → value (fixed_number b k i)
    ≡ record {
      bytes = take (array_at a b).value
          (bytes_of_words (words_for (array_at a b).value)
          (λ j. words b (fixed_word (array_at a b) k i + j)));
      span = fixed_span b (array_at a b) k i;
    }

-- ======== shortage

-- 1 where the first element in hand was taken by the CPU's n-th update of the map
abbrev pub taken_at : ℕ → ℕ → List Fresh → ℕ
taken_at m n [] = 0
taken_at m n (f ∷ fs) = one_if ((f.map == m) && (f.update == n))

-- how many updates of the map a CPU has begun: those that it made, and one more where it has an
-- element in hand that the next one took
abbrev pub begun_in : List Entry → (ℕ → List Fresh) → ℕ → ℕ → ℕ
begun_in log fresh m c = updates_in log m c + taken_at m (updates_in log m c) (fresh c)

-- an update that was begun took the element
pub record Took (a : About) (log : List Entry) (fresh : ℕ → List Fresh) (taker : ℕ → ℕ → ℕ → ℕ)
    (m e : ℕ) : Type 0 where
  pub cpu : ℕ
  pub update : ℕ
  pub inside : cpu < a.shape.cpus
  pub this : taker m cpu update ≡ e
  pub begun : update < begun_in log fresh m cpu

-- the history's answers of a shortage have their causes. Who has an element in hand is in a run. An
-- element that isn't free was taken by an update of its own; so was one that a CPU saw not free,
-- since it last took one of the map or gave one back: where that update was its own, the element has
-- had a value, or it is in its hand
pub record Shown (a : About) (log : List Entry) (last : Plain) (fresh : ℕ → List Fresh)
    (tally : ℕ → List Sight) (holder : ℕ → ℕ → Holder) (taker : ℕ → ℕ → ℕ → ℕ) : Type 0 where
  pub causes : HaveCausesBy a.shape a.version (begun_in log fresh) log last
  pub running : (c : ℕ) → (fresh c ≡ []) ⊎ (in_run (events_of c log) ≡ true)
  pub took : (m e : ℕ) → HasElement a m e → holder m e ≢ Free
      → (t : Took a log fresh taker m e) × ((c : ℕ) → holder m e ≡ Filling c → t.cpu ≡ c)
  pub taken : (c m e : ℕ) → c < a.shape.cpus → HasElement a m e → IsTakenSince (tally c) m e
      → ((t : Took a log fresh taker m e)
      × (HasHadValue last (element_span m (shape_at a m) e) ⊎ (t.cpu ≢ c)))
      ⊎ (1 ≤ times_fresh m e (fresh c))

-- ======== the rule

pub record Rule (a : About) (w : Place → ℕ) (g : Ghost) : Type 0 where
  pub shaped : IsShape a.shape
  -- history
  pub logged : Logged a g.lanes.seen g.log g.last
  pub keyed : Keyed a (λ m. w (KeyCount m)) g.last.maps g.linked g.number
  pub worn : Worn a g.depths (λ m s. w (Stamp m s)) g.eras g.log
  -- runs
  pub runs : Runs a (λ c. w (RunCount c)) g.log
  pub batched : Batched a (λ m e. w (Link m e)) (λ c. w (RunCount c)) g.lanes.limbo g.last.held
      g.number
  -- owners
  pub owned : Owned a (λ m i. w (FreeBits m i)) g.lanes.fresh g.lanes.limbo g.holder
  pub linked : Linked a g.linked g.holder
  pub filled : Filled a (λ m e k. w (KeyWord m e k)) (λ m e k. w (ValueWord m e k)) g.lanes.fresh
  -- segments
  pub deep : Deep a (λ m s. w (Stamp m s)) g.depths
  pub segments : Segments a g.depths (words_by_place w) (λ m s. w (Stamp m s)) g.eras g.linked
  pub locking : Locking a g.depths (words_by_place w) (λ m s. w (Stamp m s)) g.eras g.linked
      g.holder g.lanes.locks
  pub held : Held a g.depths (λ m s. w (Stamp m s)) g.eras g.lanes.locks
  pub reading : Readings a g.depths g.eras g.lanes.readings
  -- values
  pub valued : Valued a (λ m e k. w (ValueWord m e k)) g.last.made g.last.value g.last.held g.holder
      g.number
  pub fixed : ShowsFixed a (λ b k. w (FixedWord b k)) g.last.value
  -- shortage
  pub shown : Shown a g.log g.last g.lanes.fresh g.lanes.tally g.holder g.taker

-- ======== seats

abbrev pub St : Type 0
St = State (Unit {0}) View

-- each seat's lanes are those of its CPUs, no CPU has two seats, and what a seat keeps is a
-- beginning of the history
pub record Seats (cpus : ℕ) (log : List Entry) (lanes : ℕ → Known) (views : List View) : Type 0
  where
    pub seat : ℕ → ℕ
    pub known : (i k : ℕ) (v : View) (l : Known) → get_elem? views i ≡ some v
        → get_elem? v.lanes k ≡ some l → (seat l.cpu ≡ i) × (l.cpu < cpus) × (lanes l.cpu ≡ l)
    pub distinct : (i j k : ℕ) (v : View) (l m : Known) → get_elem? views i ≡ some v
        → get_elem? v.lanes j ≡ some l → get_elem? v.lanes k ≡ some m → l.cpu ≡ m.cpu → j ≡ k
    pub kept : (i : ℕ) (v : View) → get_elem? views i ≡ some v → IsPrefix v.kept log

pub record Kept (a : About) (s : St) : Type 0 where
  pub sized : length s.words ≡ size a.shape
  pub ghost : Ghost
  pub seats : Seats a.shape.cpus ghost.log (lane ghost.lanes) s.views
  pub rule : Rule a (mem a.shape s.words) ghost
