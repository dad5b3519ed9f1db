-- The kinds of step: what each asks of the lane that makes it, and what it says.
use Rattle.std.specs.Prelude.{◌⊎◌, ◌≡◌, ◌≢◌, ℕ, ◌+◌, ◌-◌, ◌*◌, ◌/◌, ◌%◌, ◌^◌, ◌<◌, ◌≤◌, Bool, true, false, ◌||◌, List, [], ◌∷◌, ◌++◌}
use Rattle.std.specs.Prelude.{Option, Some, None, is_some, length, slice_index, slice_set, ◌==◌}
use Rattle.bpf_shared.specs.declared.events.Entry.{Entry}
use Rattle.bpf_shared.specs.declared.events.Event.{Event}
use Rattle.bpf_shared.specs.declared.events.Event.TheVariants.{Begin, End, Lookup, Update, Delete}
use Rattle.bpf_shared.specs.declared.events.MapAnswer.TheVariants.{Done, Busy, NoMemory}
use Rattle.bpf_shared.specs.declared.events.Span.{Span}
use Rattle.bpf_shared.specs.Shape.{elements, element_span, first_value, map_area, IsWithin}
use Rattle.std.specs.FinMap.{get}
use Rattle.std.specs.List.{AllByRecursion}
use Rattle.bpf_shared.specs.KeyOrder.{AreDistinct}
use Rattle.bpf_shared.specs.Store.{Plain}
use Rattle.bpf_base.specs.Bytes.{little_endian, low_bytes, part}
use Rattle.bpf_shared.specs.Events.{Allowed}
use Rattle.bpf_shared.specs.History.{IsLegal, events_of, entry}
use Rattle.hop_layout.specs.declared.about.About.{About}
use Rattle.hop_words.specs.declared.known.Known.{Known}
use Rattle.hop_words.specs.declared.known.Fresh.{Fresh}
use Rattle.hop_layout.specs.declared.place.Place.{Place}
use Rattle.hop_layout.specs.declared.place.Place.TheVariants.{Stamp}
use Rattle.hop_words.specs.declared.known.Limbo.{Limbo}
use Rattle.hop_words.specs.declared.known.Lock.{Lock}
use Rattle.hop_words.specs.declared.known.Reading.{Reading}
use Rattle.hop_words.specs.declared.known.Peek.{Peek}
use Rattle.hop_words.specs.declared.known.Change.TheVariants.{Nothing, Puts, Drops}
use Rattle.hop_layout.specs.Layout.{words_for, at, size, mem, power, depth, gained}
use Rattle.hop_words.specs.Sights.{IsTakenSince, look, lock_taken, sighted}
use Rattle.hop_layout.specs.Words.{word_of, AreBytes}
use Rattle.hop_words.specs.Content.{MapWords, IsShare}
use Rattle.hop_words.specs.Ghost.{lock_home, IsHomeIn, child, shape_at, HasElement, array_at, Each, limbo_at}
use Rattle.hop_words.specs.Shortage.{done_in, updates_of, Moment, HasCause}
use Rattle.hop_words.specs.Rule.{image, IsPeek, StartsWith, changed, numbered}
use Rattle.bpf_shared.specs.Own.{turns_of, in_run}
use Rattle.hop_words.specs.Depths.{stamp_depth, home_by}

-- the event follows all that the lane had seen, and events of others
pub record TakesEffect (a : About) (l : Known) (e : Event) (seen : List Entry) : Type 0 where
  pub others : List Entry
  pub foreign : events_of l.cpu others ≡ []
  pub after : seen ≡ l.seen ++ (others ++ entry l.cpu e ∷ [])
  pub legal : IsLegal a.shape seen

-- by the words at the lock, this may be where the keys of the locked segment lead
abbrev pub MayShow : About → Lock → (List ℕ → Option ℕ) → Type 0
MayShow a k f = IsShare a.seed (shape_at a k.map) (lock_home a k) (image a k.first) k.map k.segment f

-- and so by the words as they are by now
abbrev pub ShowsNow : About → Lock → (List ℕ → Option ℕ) → Type 0
ShowsNow a k f = IsShare a.seed (shape_at a k.map) (lock_home a k) (image a k.copy) k.map k.segment f

-- by all that the lock's words can show, the key isn't there
abbrev pub IsKeyAbsent : About → Lock → List ℕ → Type 0
IsKeyAbsent a k key = (before : List ℕ → Option ℕ)
    → MayShow a k before → before key ≡ None

-- in a run, under the lock of a key's segment in which nothing has changed yet, the lane has an
-- element in hand that is filled with the value
pub record HasFilled (a : About) (l : Known) (k : Lock) (f : Fresh) (rest : List Fresh)
    (key bytes : List ℕ) : Type 0 where
  pub lock : l.locks ≡ k ∷ []
  pub nothing : k.change ≡ Nothing
  pub hand : l.fresh ≡ f ∷ rest
  pub map : f.map ≡ k.map
  pub element : f.element < elements (shape_at a k.map)
  pub home : IsHomeIn a k key
  pub key_size : length key ≡ (shape_at a k.map).key
  pub size : length bytes ≡ (shape_at a k.map).value
  pub are_bytes : AreBytes bytes
  pub filled : length f.value ≡ words_for (shape_at a k.map).value
  pub value : (i : ℕ) → i < words_for (shape_at a k.map).value
      → slice_index f.value i ≡ word_of bytes i
  pub runs : in_run (events_of l.cpu l.seen) ≡ true

-- ---- count up: a new key, before a word of it is written
pub record Inserts (a : About) (l : Known) (k : Lock) (f : Fresh) (rest : List Fresh)
    (key bytes : List ℕ) (flags old : ℕ) : Type 0 where
  pub filled : HasFilled a l k f rest key bytes
  pub absent : IsKeyAbsent a k key
  pub flags_known : flags ≤ 1
  pub room : old < (shape_at a k.map).max

-- where the count is the one expected, the event takes effect, the element is the map's, and its
-- words remain to be written
pub record Inserted (a : About) (l : Known) (k : Lock) (f : Fresh) (rest : List Fresh)
    (key bytes : List ℕ) (flags : ℕ) (l' : Known) : Type 0 where
  pub seen : TakesEffect a l (Update k.map key bytes flags Done) l'.seen
  pub after : l' ≡ record l {
    seen = l'.seen;
    fresh = rest;
    locks = record k { change = Puts key f.element; dirty = true } ∷ [];
  }

-- ---- readings without a lock
abbrev pub noting : Known → ℕ → ℕ → ℕ → Known
noting l m s n = record l { readings = record { map = m; segment = s; stamp = n; peeks = [] } ∷ [] }

-- what a stamp says of its segment's depth
pub record SaysDepth (a : About) (m s n : ℕ) : Type 0 where
  pub room : s < power (stamp_depth n)
  pub most : stamp_depth n ≤ depth (shape_at a m)
  pub whole : (shape_at a m).grow ≡ false → stamp_depth n ≡ depth (shape_at a m)

-- the CPU knows that the segment is born: the first is, and each of a map that doesn't grow; else
-- it has seen the stamp of the segment, or of its parent with a depth above its top bit
pub data KnowsBorn (a : About) (l : Known) (m s : ℕ) : Type 0 where
  First : s ≡ 0 → KnowsBorn a l m s
  Whole : (shape_at a m).grow ≡ false → s < power (depth (shape_at a m)) → KnowsBorn a l m s
  Seen : (r : Reading) → l.readings ≡ r ∷ [] → r.map ≡ m → r.segment ≡ s → KnowsBorn a l m s
  Child : (r : Reading) (u : ℕ) → l.readings ≡ r ∷ [] → r.map ≡ m → r.segment < power u
      → u < stamp_depth r.stamp → s ≡ r.segment + power u → KnowsBorn a l m s

-- see stamp: with an unlocked one a reading begins
abbrev pub StampSeen : About → Known → ℕ → ℕ → ℕ → Known → Type 0
StampSeen a l m s n l' = SaysDepth a m s n
    × (n % 2 ≡ 0 → l' ≡ sighted (noting l m s n) (look (Stamp m s) n))
    × (n % 2 ≡ 1 → l' ≡ sighted l (look (Stamp m s) n))

-- note stamp: whether the segment is locked or not. Of the segments that the CPU has locked none
-- but this one has a home that this one has
pub record StampNoted (a : About) (l : Known) (m s n : ℕ) (l' : Known) : Type 0 where
  pub deep : SaysDepth a m s n
  pub owns : (home : ℕ) → home % power (stamp_depth n) ≡ s
      → Each (λ (k : Lock). k.map ≡ m → home % power (stamp_depth k.stamp) ≡ k.segment
      → (k.segment ≡ s) × (stamp_depth k.stamp ≡ stamp_depth n)) l.locks
  pub after : l' ≡ noting l m s (n - n % 2)

-- peek: the reading has the word, and the look is noted
abbrev pub peeking : Known → Reading → Place → ℕ → Known
peeking l r p n = record l {
  readings = record r {
    peeks = record { place = p; number = n }
        ∷ r.peeks;
  } ∷ [];
  tally = look p n ∷ l.tally;
}

abbrev pub AllPeeks : MapWords → Reading → Type 0
AllPeeks x r = Each (λ (p : Peek). IsPeek x r.map r.segment p.place p.number) r.peeks

-- keys lead to elements of the map alone
abbrev pub AreWithin : About → ℕ → (List ℕ → Option ℕ) → Type 0
AreWithin a m f = (key : List ℕ) (e : ℕ) → f key ≡ Some e → e < elements (shape_at a m)

-- the segment that a key would be at home in, by the stamp that was noted
abbrev pub reading_home : About → Reading → List ℕ → ℕ
reading_home a r = home_by a r.map (stamp_depth r.stamp)

-- what was peeked shows where the key leads: so it does in every segment of which all this was
-- peeked
abbrev pub ShowsLinkOf : About → Reading → List ℕ → Option ℕ → Type 0
ShowsLinkOf a r key o = (x : MapWords) (f : List ℕ → Option ℕ)
    → IsShare a.seed (shape_at a r.map) (reading_home a r) x r.map r.segment f
    → AreWithin a r.map f → AllPeeks x r → f key ≡ o

abbrev pub found_span : About → ℕ → Option ℕ → Option Span
found_span a m None = None
found_span a m (Some e) = Some (element_span m (shape_at a m) e)

-- see stamp again
pub record FindsByPeeks (a : About) (l : Known) (r : Reading) (key : List ℕ) (o : Option ℕ)
    : Type 0 where
  pub reading : l.readings ≡ r ∷ []
  pub key_size : length key ≡ (shape_at a r.map).key
  pub home : reading_home a r key ≡ r.segment
  pub shown : ShowsLinkOf a r key o
  pub runs : in_run (events_of l.cpu l.seen) ≡ true

pub record Found (a : About) (l : Known) (r : Reading) (key : List ℕ) (o : Option ℕ) (l' : Known)
    : Type 0 where
  pub seen : TakesEffect a l (Lookup r.map key (found_span a r.map o)) l'.seen
  pub after : l' ≡ record l {
    seen = l'.seen;
    readings = [];
    tally = look (Stamp r.map r.segment) r.stamp ∷ l.tally;
  }

-- the same stamp answers the lookup, another is a disturbed reading
abbrev pub StampSeenAgain : About → Known → Reading → List ℕ → Option ℕ → ℕ → Known → Type 0
StampSeenAgain a l r key o n l' =
    (n ≡ r.stamp → Found a l r key o l') × (n ≢ r.stamp → l'
    ≡ record l { readings = []; tally = look (Stamp r.map r.segment) n ∷ l.tally })

-- ---- lock
abbrev pub has : ℕ → List ℕ → Bool
has e [] = false
has e (x ∷ xs) = (e == x) || has e xs

abbrev pub locking : Known → ℕ → ℕ → ℕ → List ℕ → List ℕ → Known
locking l m s n ws es = record l {
  locks = record {
    map = m;
    segment = s;
    stamp = n;
    first = ws;
    copy = ws;
    change = Nothing;
    known = es;
    dirty = false;
  } ∷ l.locks;
  readings = [];
  tally = lock_taken m s n ∷ l.tally;
}

-- the words at the lock show of the keys of the segment where they lead
abbrev pub ShowsLinks : About → (ℕ → List ℕ → Option ℕ) → Lock → Type 0
ShowsLinks a linked k = MayShow a k (linked k.map)

-- by all that a lock's words can show, the key is in the map
abbrev pub ShowsIn : About → ℕ → List ℕ → Lock → Type 0
ShowsIn a m key k = (k.map ≡ m) × IsHomeIn a k key
    × ((f : List ℕ → Option ℕ) → MayShow a k f → is_some (f key) ≡ true)

-- by one of these locks
abbrev pub IsShownIn : About → ℕ → List Lock → List ℕ → Type 0
IsShownIn a m [] key = ⊥
IsShownIn a m (k ∷ ks) key = ShowsIn a m key k ⊎ IsShownIn a m ks key

-- of the keys that these locks show in the map there are no more than the map may have
abbrev pub KeysHaveRoom : About → ℕ → List Lock → Type 0
KeysHaveRoom a m ks = (keys : List (List ℕ)) → AreDistinct keys → AllByRecursion (IsShownIn a m ks) keys
    → length keys ≤ (shape_at a m).max

-- the segment is sound and has some content, and what the lane filled is in the copy
pub record LocksSegment (a : About) (l : Known) (m s n : ℕ) (l' : Known) : Type 0 where
  pub deep : SaysDepth a m s n
  -- the elements to which keys lead here
  pub known : List ℕ
  pub words : List ℕ
  pub sized : length words ≡ size a.shape
  pub after : l' ≡ locking l m s n words known
  pub content : List ℕ → Option ℕ
  pub share : IsShare a.seed (shape_at a m) (home_by a m (stamp_depth n)) (image a words) m s content
  pub filled : Each (λ (f : Fresh). StartsWith f.key ((image a words).key f.map f.element)) l.fresh
  pub known_is : (e : ℕ) → has e known ≡ true
      → (e < elements (shape_at a m)) × ((key : List ℕ) × (content key ≡ Some e)
      × (home_by a m (stamp_depth n) key ≡ s))
  -- an element in hand is none of them
  pub apart : (f : Fresh) (rest : List Fresh) → l.fresh ≡ f ∷ rest → f.map ≡ m
      → has f.element known ≡ false
  pub is_known : (key : List ℕ) (e : ℕ) → content key ≡ Some e → home_by a m (stamp_depth n) key ≡ s
      → (e < elements (shape_at a m)) × (has e known ≡ true)
  -- no key is at home here and in another segment that the CPU has locked
  pub others : Each (λ (k : Lock). k.map ≡ m → (key : List ℕ) → IsHomeIn a k key
      → home_by a m (stamp_depth n) key ≢ s) l.locks
  -- where nothing has changed under the other locks
  pub room : Each (λ (j : Lock). j.dirty ≡ false) l.locks → KeysHaveRoom a m l'.locks

-- ---- write under lock
abbrev pub writing : About → Known → Lock → Place → ℕ → Known
writing a l k p n = record l {
  locks = record k {
    copy = slice_set k.copy (at a.shape p) n;
    dirty = true;
  } ∷ [];
}

-- ---- unlock
-- the copy is written: by what the words at the lock showed, it shows that with the change
abbrev pub IsWritten : About → Lock → Type 0
IsWritten a k = (before : List ℕ → Option ℕ)
    → MayShow a k before → ShowsNow a k (changed k.change before)

abbrev pub unlocking : Known → Known
unlocking l = record l { locks = [] }

-- none of the locks is of this one's segment
abbrev pub AreElsewhere : Lock → List Lock → Type 0
AreElsewhere k ks = Each (λ (j : Lock). j.map ≡ k.map → j.segment ≢ k.segment) ks

-- the lane may write the link of the element: it fills it, or the element is linked in the locked
-- segment
abbrev pub MayLink : About → Known → Lock → ℕ → Type 0
MayLink a l k e = (e < elements (shape_at a k.map))
    × (((f : Fresh) × (rest : List Fresh) × (l.fresh ≡ f ∷ rest) × (f.map ≡ k.map)
    × (f.element ≡ e))
    ⊎ ((before : List ℕ → Option ℕ)
    → MayShow a k before
    → (key : List ℕ) × (changed k.change before key ≡ Some e)
    × (IsHomeIn a k key)))

-- by all that the lock's words can show, the key leads to this element
abbrev pub LeadsToElement : About → Lock → List ℕ → ℕ → Type 0
LeadsToElement a k key e = (before : List ℕ → Option ℕ)
    → MayShow a k before → before key ≡ Some e

-- what the lane has of the map, with one more element in hand
abbrev pub with_gone : Known → ℕ → ℕ → List Limbo
with_gone l m e = slice_set l.limbo m (record (limbo_at l.limbo m) {
  used = e
      ∷ (limbo_at l.limbo m).used;
})

-- ---- count down: a key that is there is gone, under the lock of its segment, before a word of it
-- is written
pub record Removes (a : About) (l : Known) (k : Lock) (key : List ℕ) (e : ℕ) : Type 0 where
  pub lock : l.locks ≡ k ∷ []
  pub nothing : k.change ≡ Nothing
  pub home : IsHomeIn a k key
  pub key_size : length key ≡ (shape_at a k.map).key
  pub there : LeadsToElement a k key e
  pub room : k.map < length l.limbo
  pub runs : in_run (events_of l.cpu l.seen) ≡ true

pub record Removed (a : About) (l : Known) (k : Lock) (key : List ℕ) (e : ℕ) (l' : Known) : Type 0
  where
    pub seen : TakesEffect a l (Delete k.map key Done) l'.seen
    pub after : l' ≡ record l {
      seen = l'.seen;
      limbo = with_gone l k.map e;
      locks = record k { change = Drops key; dirty = true } ∷ [];
    }

-- ---- unlock where a replacement takes effect
pub record Replaces (a : About) (l : Known) (k : Lock) (f : Fresh) (rest : List Fresh)
    (key bytes : List ℕ) (flags e : ℕ) : Type 0 where
  pub filled : HasFilled a l k f rest key bytes
  pub there : LeadsToElement a k key e
  pub written : (before : List ℕ → Option ℕ)
      → MayShow a k before
      → ShowsNow a k (changed (Puts key f.element) before)
  pub flags_known : (flags ≡ 0) ⊎ (flags ≡ 2)
  pub room : k.map < length l.limbo

pub record Replaced (a : About) (l : Known) (k : Lock) (rest : List Fresh) (key bytes : List ℕ)
    (flags e : ℕ) (l' : Known) : Type 0 where
  pub seen : TakesEffect a l (Update k.map key bytes flags Done) l'.seen
  pub after : l' ≡ record l {
    seen = l'.seen;
    fresh = rest;
    limbo = with_gone l k.map e;
    locks = [];
  }

-- with no element in hand the lane saw each element of the map not free, since it last took one or
-- gave one back
pub record SawAllTaken (a : About) (l : Known) (m : ℕ) : Type 0 where
  pub hand : l.fresh ≡ []
  pub taken : (e : ℕ) → e < elements (shape_at a m) → IsTakenSince l.tally m e

-- Busy only where the locked segment has its last version, NoMemory only where the lane saw each
-- element of the map not free
abbrev pub ShowsShortage : About → Known → Lock → Event → Type 0
ShowsShortage a l k (Update m key bytes flags Busy) = (m ≡ k.map) × (2 ^ 56 - 1 ≤ k.stamp / 256)
ShowsShortage a l k (Update m key bytes flags NoMemory) = (m ≡ k.map) × SawAllTaken a l m
ShowsShortage a l k (Delete m key Busy) = (m ≡ k.map) × (2 ^ 56 - 1 ≤ k.stamp / 256)
ShowsShortage a l k e = Unit {0}

-- ---- unlock with the same version: an answer that changed nothing takes effect, whatever the
-- store is that the lock's words can show
pub record AnswersUnderLock (a : About) (l : Known) (k : Lock) (e : Event) : Type 0 where
  pub lock : l.locks ≡ k ∷ []
  pub clean : k.dirty ≡ false
  pub quiet : turns_of (e ∷ []) ≡ 0
  pub runs : in_run (events_of l.cpu l.seen) ≡ true
  pub shortage : ShowsShortage a l k e
  pub allowed : (s : Plain) (before : List ℕ → Option ℕ) (number : ℕ → ℕ) → s.shape ≡ a.shape
      → s.running l.cpu ≡ true
      → MayShow a k before
      → ((q : List ℕ) → IsHomeIn a k q
      → get (s.maps k.map) q ≡ numbered number (before q)) → Allowed s l.cpu e s

-- and the version that was locked is paid for by Done events that were seen: so Busy shows that
-- many
pub record Answered (a : About) (l : Known) (k : Lock) (e : Event) (l' : Known) : Type 0 where
  pub seen : TakesEffect a l e l'.seen
  pub worn : k.stamp / 256 ≤ a.version + gained (shape_at a k.map) + done_in k.map l'.seen
  pub after : l' ≡ record l { seen = l'.seen; locks = [] }

-- ---- unlock of the lock taken last, of several under which nothing changed: an answer takes
-- effect, whatever the store is that the words of all of them can show
pub record AnswersAll (a : About) (l : Known) (k : Lock) (rest : List Lock) (e : Event) : Type 0
  where
    pub lock : l.locks ≡ k ∷ rest
    pub clean : Each (λ (j : Lock). j.dirty ≡ false) (k ∷ rest)
    pub elsewhere : AreElsewhere k rest
    pub quiet : turns_of (e ∷ []) ≡ 0
    -- it shows no shortage
    pub uncaused : (made : ℕ → ℕ → ℕ) (x : Moment) → HasCause a.version made x e
    pub allowed : (s : Plain) (linked : ℕ → List ℕ → Option ℕ) (number : ℕ → ℕ → ℕ)
        → s.shape ≡ a.shape → l.cpu < a.shape.cpus → Each (ShowsLinks a linked) (k ∷ rest)
        → ((m : ℕ) (q : List ℕ) → get (s.maps m) q ≡ numbered (number m) (linked m q))
        → Allowed s l.cpu e s

-- the others are still locked
pub record AnsweredAll (a : About) (l : Known) (rest : List Lock) (e : Event) (l' : Known) : Type 0
  where
    pub seen : TakesEffect a l e l'.seen
    pub after : l' ≡ record l { seen = l'.seen; locks = rest }

-- ---- unlock with the same version: a lookup takes effect, by what the lock's words show
pub record LooksUpLocked (a : About) (l : Known) (k : Lock) (key : List ℕ) (o : Option ℕ)
    : Type 0 where
  pub lock : l.locks ≡ k ∷ []
  pub clean : k.dirty ≡ false
  pub home : IsHomeIn a k key
  pub key_size : length key ≡ (shape_at a k.map).key
  pub shown : (before : List ℕ → Option ℕ)
      → MayShow a k before → before key ≡ o
  pub runs : in_run (events_of l.cpu l.seen) ≡ true

pub record LookedUp (a : About) (l : Known) (k : Lock) (key : List ℕ) (o : Option ℕ) (l' : Known)
    : Type 0 where
  pub seen : TakesEffect a l (Lookup k.map key (found_span a k.map o)) l'.seen
  pub after : l' ≡ record l { seen = l'.seen; locks = [] }

-- ---- values
-- the spans that a CPU with these events has looked up in its run, beside others
abbrev pub spans_of : List Span → List Event → List Span
spans_of ps [] = ps
spans_of ps (Begin ∷ es) = spans_of [] es
spans_of ps (End ∷ es) = spans_of [] es
spans_of ps (Lookup m key (Some p) ∷ es) = spans_of (p ∷ ps) es
spans_of ps (e ∷ es) = spans_of ps es

abbrev pub IsAmongSpans : Span → List Span → Type 0
IsAmongSpans p [] = ⊥
IsAmongSpans p (q ∷ qs) = (p ≡ q) ⊎ IsAmongSpans p qs

-- the lane holds the value in this element, and these bytes of it lie in one word
pub record TouchesHeldValue (a : About) (l : Known) (m e k o n : ℕ) : Type 0 where
  pub element : HasElement a m e
  pub word : k < words_for (shape_at a m).value
  pub fits : o + n ≤ 8
  pub within : 8 * k + o + n ≤ (shape_at a m).value
  pub held : IsAmongSpans (element_span m (shape_at a m) e) (spans_of [] (events_of l.cpu l.seen))
  pub runs : in_run (events_of l.cpu l.seen) ≡ true

abbrev pub value_address : About → ℕ → ℕ → ℕ → ℕ → ℕ
value_address a m e k o = (element_span m (shape_at a m) e).at + (8 * k + o)

-- the number that some bytes of a word read as
abbrev pub number_in_word : ℕ → ℕ → ℕ → ℕ
number_in_word x o n = little_endian (part (low_bytes 8 x) o n)

-- in a run, these bytes of a fixed value lie in one word of its array
pub record TouchesFixedValue (a : About) (l : Known) (b k o n : ℕ) : Type 0 where
  pub array : b < length a.shape.arrays
  pub within : IsWithin a.shape.cpus (array_at a b) (8 * k + o) n
  pub fits : o + n ≤ 8
  pub runs : in_run (events_of l.cpu l.seen) ≡ true

-- and they may be written
pub record ChangesFixedValue (a : About) (l : Known) (b k o n : ℕ) : Type 0 where
  pub touches : TouchesFixedValue a l b k o n
  pub writable : (array_at a b).frozen ≡ false

abbrev pub fixed_address : ℕ → ℕ → ℕ → ℕ
fixed_address b k o = first_value + map_area * (16 + b) + (8 * k + o)

-- the event is this lane's last, and all else is as it was
pub record AddsEvent (a : About) (l : Known) (e : Event) (l' : Known) : Type 0 where
  pub seen : TakesEffect a l e l'.seen
  pub after : l' ≡ record l { seen = l'.seen }

-- ---- count run
-- the lane's own counter, by its own events
abbrev pub run_count : About → Known → ℕ
run_count a l = a.count + turns_of (events_of l.cpu l.seen)

-- ---- see counter: of the CPU whose number comes next
abbrev pub limbo_set : Known → ℕ → Limbo → Known
limbo_set l m x = record l { limbo = slice_set l.limbo m x }

abbrev pub noting_next : Known → ℕ → ℕ → Known
noting_next l m n = limbo_set l m (record (limbo_at l.limbo m) {
  noted = (limbo_at l.limbo m).noted
      ++ n ∷ [];
})

-- the young batch becomes the old one, and the first counter is noted
abbrev pub ageing : Known → ℕ → ℕ → Known
ageing l m n = limbo_set l m (record (limbo_at l.limbo m) {
  young = [];
  old = (limbo_at l.limbo m).young;
  noted = n ∷ [];
})

-- a counter that is another now: its CPU holds nothing of the old batch, as one that was even
abbrev pub cleared : Known → ℕ → ℕ → Known
cleared l m d = limbo_set l m (record (limbo_at l.limbo m)
    { noted = slice_set (limbo_at l.limbo m).noted d 0 })

-- ---- retire: the used element in hand goes to the young batch, in front
abbrev pub retiring : Known → ℕ → ℕ → List ℕ → Known
retiring l m e us = limbo_set l m (record (limbo_at l.limbo m) {
  used = us;
  young = e ∷ (limbo_at l.limbo m).young;
})

-- ---- give bit, of the old batch: no running CPU may hold the element
pub record Passed (a : About) (l : Known) (m e : ℕ) (es : List ℕ) : Type 0 where
  pub old : (limbo_at l.limbo m).old ≡ e ∷ es
  pub all : length (limbo_at l.limbo m).noted ≡ a.shape.cpus
  pub even : (d : ℕ) → d < a.shape.cpus → slice_index (limbo_at l.limbo m).noted d % 2 ≡ 0

abbrev pub giving_old : Known → ℕ → List ℕ → Known
giving_old l m es = limbo_set l m (record (limbo_at l.limbo m) { old = es })

-- ---- claim bit, give bit of an element in hand, fill word
abbrev pub holding : Known → ℕ → ℕ → Known
holding l m e = record l {
  fresh = record {
    map = m;
    element = e;
    update = updates_of m (events_of l.cpu l.seen);
    key = [];
    value = [];
  } ∷ l.fresh;
}

-- ---- see count, under the lock of a segment where the key isn't: at max the map is full
pub record CountsUnderLock (a : About) (l : Known) (k : Lock) (key bytes : List ℕ) (flags : ℕ) : Type 0 where
  pub lock : l.locks ≡ k ∷ []
  pub nothing : k.change ≡ Nothing
  pub home : IsHomeIn a k key
  pub key_size : length key ≡ (shape_at a k.map).key
  pub size : length bytes ≡ (shape_at a k.map).value
  pub absent : IsKeyAbsent a k key
  pub flags_known : flags ≤ 1
  pub runs : in_run (events_of l.cpu l.seen) ≡ true

-- see count, where the flags are none of those known
pub record Misflagged (a : About) (l : Known) (m : ℕ) (key bytes : List ℕ) (flags : ℕ) : Type 0
  where
    pub map : m < length a.shape.maps
    pub key_size : length key ≡ (shape_at a m).key
    pub size : length bytes ≡ (shape_at a m).value
    pub unknown : 2 < flags
    pub runs : in_run (events_of l.cpu l.seen) ≡ true

-- ---- publish split: the child's words and stamp are written, and the parent's words are without
-- what is the child's
pub record Splits (a : About) (l : Known) (k : Lock) (n : ℕ) : Type 0 where
  pub lock : l.locks ≡ k ∷ []
  pub nothing : k.change ≡ Nothing
  pub room : stamp_depth k.stamp < depth (shape_at a k.map)
  pub stamp : mem a.shape k.copy (Stamp k.map (child k)) ≡ n
  pub even : n % 2 ≡ 0
  pub deep : stamp_depth n ≡ stamp_depth k.stamp + 1
  pub version : n / 256 ≤ a.version
  pub parted : (before : List ℕ → Option ℕ)
      → MayShow a k before
      → IsShare a.seed (shape_at a k.map) (home_by a k.map (stamp_depth k.stamp + 1))
      (image a k.copy) k.map k.segment before
      × IsShare a.seed (shape_at a k.map) (home_by a k.map (stamp_depth k.stamp + 1))
      (image a k.copy) k.map (child k) before
