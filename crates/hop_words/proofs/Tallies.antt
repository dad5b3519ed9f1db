-- A step of any kind, as the lane notes it.
use Rattle.std.proofs.Common.{◌≡◌, ◌≢◌, ℕ, ◌+◌, ◌<◌, ◌/◌, ◌%◌, ◌^◌, ◌-◌, ◌==◌, if◌then◌else◌, Bool, true, List, [], ◌∷◌, Option, length}
use Rattle.std.proofs.Common.{slice_index, bit_and, bit_or, refl, ap, sym, subst, ◌∙◌, eq-eqb, ne_eqb, ⊎_elim, arith}
use Rattle.std.specs.Int.{bit_at}
use Rattle.std.proofs.lemmas.Bool.{cases_eq}
use prog.Atomic.{either}
use Rattle.bpf_shared.specs.Store.{put}
use Rattle.bpf_shared.specs.History.{events_of}
use Rattle.bpf_shared.specs.Own.{in_run}
use Rattle.hop_layout.specs.declared.place.Place.{Place}
use Rattle.hop_layout.specs.declared.place.Place.TheVariants.{RunCount, FreeBits, Stamp}
use Rattle.hop_layout.specs.declared.about.About.{About}
use Rattle.hop_words.specs.declared.known.Known.{Known}
use Rattle.hop_words.specs.declared.known.Reading.{Reading}
use Rattle.hop_words.specs.declared.known.Sight.{Sight}
use Rattle.hop_layout.specs.Layout.{mem, put_at}
use Rattle.hop_words.specs.Ghost.{lane, Ghost, HasElement, limbo_at}
use Rattle.hop_words.specs.Sights.{sight, look, lock_taken, split_made, bit_cleared, bit_set, sighted}
use Rattle.hop_words.specs.Private.Step.{Noted, Next, Steps, Notes, NotesTaken}
use Rattle.hop_words.specs.Kinds.{holding, cleared, noting, peeking, giving_old, Passed, StampSeen, StampSeenAgain, FindsByPeeks}
use Rattle.hop_words.specs.Kinds.{LocksSegment, SaysDepth, KnowsBorn, Splits, unlocking}
use Rattle.hop_words.specs.Locking.{lock_of, HasLock}
use Rattle.hop_words.specs.Owning.{IsUpdateAnswered, ClaimsBit, GivesFresh, IsInHand, LooksAgain}
use Rattle.hop_words.proofs.Shortages.{shown_noted}
use Rattle.hop_words.proofs.Locks.{put_here, lock}
use Rattle.hop_words.proofs.Stays.{next_as, stay}
use Rattle.hop_words.proofs.Owners.{claim_bit, mask_kept}
use Rattle.hop_words.proofs.Turns.{see_counter_again}
use Rattle.hop_words.proofs.Hands.{gives}
use Rattle.hop_words.proofs.Gives.{give_old, old_added}
use Rattle.hop_words.proofs.Publishing.{publish_split}
use Rattle.hop_words.proofs.Locked.{at_stamp}
use Rattle.hop_words.proofs.Readings.{AgainSeen, read_more, peek, see_stamp, see_again}

module _ (a : About) (w : Place → ℕ) (g : Ghost) (c : ℕ) (told said : Known → Type 0) (s : Sight)
    (less : (x : Known) → told x → said (sighted x s)) (left : w s.place ≡ s.left) (n : Next a w g c told) where
  abbrev noted_ghost : Ghost
  noted_ghost = record n.ghost { lanes = record n.ghost.lanes { tally = put n.ghost.lanes.tally c (s ∷ n.ghost.lanes.tally c) } }

  noted_lane : lane noted_ghost.lanes c ≡ sighted (lane n.ghost.lanes c) s
  noted_lane = rw (eq-eqb c c refl) refl

  -- the sight goes in front: what it left is the word of its place by now
  noted_next : Noted a w g c (s ∷ []) said
  noted_next = record {
    ghost = noted_ghost;
    rule = record {
      shaped = n.rule.shaped;
      fixed = n.rule.fixed;
      deep = n.rule.deep;
      logged = n.rule.logged;
      keyed = n.rule.keyed;
      worn = n.rule.worn;
      runs = n.rule.runs;
      batched = n.rule.batched;
      owned = n.rule.owned;
      linked = n.rule.linked;
      filled = n.rule.filled;
      segments = n.rule.segments;
      locking = n.rule.locking;
      held = n.rule.held;
      reading = n.rule.reading;
      valued = n.rule.valued;
      shown = shown_noted a w n.ghost n.rule c s left;
    };
    others = λ d ne. rw (ne_eqb d c ne) (n.others d ne);
    longer = n.longer;
    tally = ap (λ (x : Known). x.tally) noted_lane ∙ ap (λ (z : List Sight). s ∷ z) n.tally;
    says = subst said (sym noted_lane) (less (lane n.ghost.lanes c) n.says);
  }

-- a kind of step that is noted besides
module _ (a : About) (l : Known) (p : Place) (f : ℕ → ℕ) (told said : List ℕ → ℕ → Known → Type 0) where
  pub noted_as : ((ws : List ℕ) (n : ℕ) (x : Known) → n < 18446744073709551616 → told ws n x → said ws n (sighted x (sight p n (f n)))) →
      Steps a l p f told → Notes a l p f said
  noted_as less step ws g sized r is inside fits =
      let n = mem a.shape ws p in
      noted_next a (put_at (mem a.shape ws) p (f n)) g l.cpu (told ws n) (said ws n) (sight p n (f n)) (λ x. less ws n x fits)
      (put_here (mem a.shape ws) p (f n)) (step ws g sized r is inside fits)

-- a compare-exchange that is noted where it takes effect
module _ (a : About) (l : Known) (p : Place) (old new : ℕ) (told said : List ℕ → ℕ → Known → Type 0) where
  pub taken_as : ((ws : List ℕ) (n : ℕ) (x : Known) → n ≡ old → told ws n x → said ws n (sighted x (sight p n new))) →
      ((ws : List ℕ) (n : ℕ) (x : Known) → n ≢ old → told ws n x → said ws n x)
      → Steps a l p (λ n. either (n == old) new n) told → NotesTaken a l p old new said
  taken_as took missed step ws g sized r is inside fits =
      let n = mem a.shape ws p in
      let w = put_at (mem a.shape ws) p (either (n == old) new n) in
      let next = step ws g sized r is inside fits in
      ⊎_elim
      (λ (same : n ≡ old). subst (λ (z : List Sight). Noted a w g l.cpu z (said ws n))
      (sym (ap (λ b. if b then sight p n new ∷ [] else []) (eq-eqb n old same)))
      (noted_next a w g l.cpu (told ws n) (said ws n) (sight p n new) (λ x. took ws n x same)
      (put_here (mem a.shape ws) p (either (n == old) new n) ∙ ap (λ (b : Bool). either b new n) (eq-eqb n old same)) next))
      (λ (ne : n ≢ old). subst (λ (z : List Sight). Noted a w g l.cpu z (said ws n)) (sym (ap (λ b. if b then sight p n new ∷ [] else []) (ne_eqb n old ne)))
      (next_as a w g l.cpu (told ws n) (said ws n) (λ x. missed ws n x ne) next))
      (cases_eq n old)

-- ---- the kinds that are noted
pub looks_at : (a : About) (l : Known) (p : Place) → Notes a l p (λ n. n) (λ ws n l'. l' ≡ sighted l (look p n))
looks_at a l p = noted_as a l p (λ n. n) (λ ws n x. x ≡ l) (λ ws n l'. l' ≡ sighted l (look p n)) (λ ws n x fits t. ap (λ (y : Known). sighted y (look p n)) t)
    (λ ws g sized r is inside fits. stay a (mem a.shape ws) g l.cpu p (λ x. x ≡ l) r is)

pub claims : (a : About) (l : Known) (m e : ℕ) → HasElement a m e → l.fresh ≡ [] → l.locks ≡ [] → in_run (events_of l.cpu l.seen) ≡ true →
    Notes a l (FreeBits m (e / 64)) (λ n. bit_and n (2 ^ 64 - 1 - 2 ^ (e % 64))) (λ ws n l'. ClaimsBit l m e n l')
claims a l m e at_e empty unlocked runs = noted_as a l (FreeBits m (e / 64)) (λ n. bit_and n (2 ^ 64 - 1 - 2 ^ (e % 64)))
    (λ ws n x. Told n x) (λ ws n l'. ClaimsBit l m e n l')
    (λ ws n x fits t. (
      (λ one. ap (λ (y : Known). sighted y (bit_cleared m e n)) (t.0 one)),
      (λ none. (λ i. sighted (t.1 none i) (sight (FreeBits m (e / 64)) n (mask_kept n (e % 64) fits (omega arith) none i)))),
    ))
    (claim_bit a l m e at_e empty unlocked runs)
  where
    Told : ℕ → Known → Type 0
    Told n y = (bit_at n (e % 64) ≡ 1 → y ≡ holding l m e) × (bit_at n (e % 64) ≡ 0 → y ≡ l)

pub gives_fresh : (a : About) (l : Known) (m e : ℕ) → HasElement a m e → IsInHand l m e → IsUpdateAnswered l m → Notes a l
    (FreeBits m (e / 64)) (λ n. bit_or n (2 ^ (e % 64))) (λ ws n l'. GivesFresh l m e n l')
gives_fresh a l m e at_e hand answered = gives a l m e at_e hand answered

pub gives_old : (a : About) (l : Known) (m e : ℕ) (es : List ℕ) → a.count % 2 ≡ 0 → HasElement a m e → m < length l.limbo → Passed a l m e
    es → Notes a l (FreeBits m (e / 64)) (λ n. bit_or n (2 ^ (e % 64))) (λ ws n l'. l' ≡ sighted (giving_old l m es) (bit_set m e n))
gives_old a l m e es even at_e room passed = noted_as a l (FreeBits m (e / 64)) (λ n. bit_or n (2 ^ (e % 64)))
    (λ ws n x. x ≡ giving_old l m es) (λ ws n l'. l' ≡ sighted (giving_old l m es) (bit_set m e n))
    (λ ws n x fits t. ap (λ (y : Known). sighted y (bit_set m e n)) t)
    (give_old a l m e es even at_e room passed)

-- by a sum, since the bit is clear
pub adds_old : (a : About) (l : Known) (m e : ℕ) (es : List ℕ) → a.count % 2 ≡ 0 → HasElement a m e → m < length l.limbo → Passed a l m e
    es → Notes a l (FreeBits m (e / 64)) (λ n. (n + 2 ^ (e % 64)) % 2 ^ 64) (λ ws n l'. l' ≡ sighted (giving_old l m es) (bit_set m e n))
adds_old a l m e es even at_e room passed ws g sized r is inside fits =
    let p = FreeBits m (e / 64) in
    let w = mem a.shape ws in
    subst (λ (k : ℕ). Noted a (put_at w p k) g l.cpu (sight p (w p) k ∷ []) (λ l'. l' ≡ sighted (giving_old l m es) (bit_set m e (w p))))
    (sym (old_added a w g l m e es r is inside at_e passed.old fits))
    (gives_old a l m e es even at_e room passed ws g sized r is inside fits)

pub looks_again : (a : About) (l : Known) (m d : ℕ) → m < length l.limbo → d < length (limbo_at l.limbo m).noted → Notes a l (RunCount d)
    (λ n. n) (λ ws n l'. LooksAgain l m d n l')
looks_again a l m d room few = noted_as a l (RunCount d) (λ n. n) (λ ws n x. Told n x) (λ ws n l'. LooksAgain l m d n l')
    (λ ws n x fits t. (
      (λ same. ap (λ (y : Known). sighted y (look (RunCount d) n)) (t.1 same)),
      (λ ne. ap (λ (y : Known). sighted y (look (RunCount d) n)) (t.0 ne)),
    ))
    (see_counter_again a l m d room few)
  where
    Told : ℕ → Known → Type 0
    Told n y = (n ≢ slice_index (limbo_at l.limbo m).noted d → y ≡ cleared l m d) × (n ≡ slice_index (limbo_at l.limbo m).noted d → y ≡ l)

pub sees_stamp : (a : About) (l : Known) (m s : ℕ) → m < length a.shape.maps → KnowsBorn a l m s → Notes a l (Stamp m s) (λ n. n)
    (λ ws n l'. StampSeen a l m s n l')
sees_stamp a l m s in_m knows = noted_as a l (Stamp m s) (λ n. n) (λ ws n x. Told n x) (λ ws n l'. StampSeen a l m s n l')
    (λ ws n x fits t. (
      t.0,
      (λ even. ap (λ (y : Known). sighted y (look (Stamp m s) n)) (t.1 even)),
      (λ odd. ap (λ (y : Known). sighted y (look (Stamp m s) n)) (t.2 odd)),
    ))
    (see_stamp a l m s in_m knows)
  where
    Told : ℕ → Known → Type 0
    Told n y = SaysDepth a m s n × (n % 2 ≡ 0 → y ≡ noting l m s n) × (n % 2 ≡ 1 → y ≡ l)

pub peeks : (a : About) (l : Known) (rd : Reading) (p : Place) → l.readings ≡ rd ∷ [] → Notes a l p (λ n. n) (λ ws n l'. l' ≡ peeking l rd p n)
peeks a l rd p reading = noted_as a l p (λ n. n) (λ ws n x. x ≡ read_more l rd p n) (λ ws n l'. l' ≡ peeking l rd p n)
    (λ ws n x fits t. ap (λ (y : Known). sighted y (look p n)) t) (peek a l rd p reading)

pub sees_again : (a : About) (l : Known) (rd : Reading) (m s : ℕ) (key : List ℕ) (o : Option ℕ) → rd.map ≡ m → rd.segment ≡ s → FindsByPeeks a l rd key o
    → Notes a l (Stamp m s) (λ n. n) (λ ws n l'. StampSeenAgain a l rd key o n l')
sees_again a l rd m s key o h u f =
    subst (λ (n : ℕ). Notes a l (Stamp n s) (λ n. n) (λ ws n l'. StampSeenAgain a l rd key o n l')) h
    (subst (λ (t : ℕ). Notes a l (Stamp rd.map t) (λ n. n) (λ ws n l'. StampSeenAgain a l rd key o n l')) u
    (noted_as a l (Stamp rd.map rd.segment) (λ n. n) (λ ws n x. AgainSeen a l rd key o n x) (λ ws n l'. StampSeenAgain a l rd key o n l')
    (λ ws n x fits t. (
      (λ same. record {
        seen = (t.0 same).seen;
        after = ap (λ (y : Known). sighted y (look (Stamp rd.map rd.segment) n)) (t.0 same).after ∙
            ap (λ (i : ℕ). record l { seen = x.seen; readings = []; tally = look (Stamp rd.map rd.segment) i ∷ l.tally }) same;
      }),
      (λ ne. ap (λ (y : Known). sighted y (look (Stamp rd.map rd.segment) n)) (t.1 ne)),
    ))
    (see_again a l rd key o f)))

pub locks : (a : About) (l : Known) (m s old : ℕ) → m < length a.shape.maps → KnowsBorn a l m s → old % 2 ≡ 0
    → NotesTaken a l (Stamp m s) old (old + 1) (λ ws n l'. (n ≡ old → LocksSegment a l m s old l') × (n ≢ old → l' ≡ l))
locks a l m s old in_m knows even = taken_as a l (Stamp m s) old (old + 1) (λ ws n x. Told n x)
    (λ ws n l'. (n ≡ old → LocksSegment a l m s old l') × (n ≢ old → l' ≡ l))
    (λ ws n x same t. (
      (λ _. subst (λ (i : ℕ). LocksSegment a l m s old (sighted x (sight (Stamp m s) i (old + 1)))) (sym same) (t.0 same)),
      (λ ne. absurd (ne same)),
    ))
    (λ ws n x ne t. ((λ same. absurd (ne same)), t.1))
    (lock a l m s old in_m knows even)
  where
    Told : ℕ → Known → Type 0
    Told n x = (n ≡ old → LocksSegment a l m s old (sighted x (lock_taken m s old))) × (n ≢ old → x ≡ l)

-- the split is noted with the lock's number and the one that it leaves
pub publishes : (a : About) (l : Known) (m s stamp n : ℕ) → HasLock l m s → stamp ≡ (lock_of l).stamp → Splits a l (lock_of l) n → Notes a l
    (Stamp m s) (λ _. stamp + 258) (λ ws i l'. l' ≡ sighted (unlocking l) (split_made m s stamp))
publishes a l m s stamp n h e i = noted_as a l (Stamp m s) (λ _. stamp + 258) (λ ws i x. (i ≡ (lock_of l).stamp + 1) × (x ≡ unlocking l))
    (λ ws i l'. l' ≡ sighted (unlocking l) (split_made m s stamp))
    (λ ws i x fits t. (λ j. sighted (t.1 j) (sight (Stamp m s) ((t.0 ∙ ap (λ (y : ℕ). y + 1) (sym e)) j) (stamp + 258))))
    (at_stamp a l m s h stamp 258 (λ ws i x. (i ≡ (lock_of l).stamp + 1) × (x ≡ unlocking l)) e (publish_split a l (lock_of l) n i))
