-- A lookup without a lock, from its first stamp to its last.
use Rattle.std.proofs.Common.{◌≡◌, ◌≢◌, ℕ, ◌%◌, List, [], ◌∷◌, ◌++◌, Option, ◌+◌, append_assoc, refl, ap, sym, subst, ◌∙◌, inl, inr, arith}
use Rattle.bpf_shared.specs.declared.events.Event.TheVariants.{Lookup}
use Rattle.hop_layout.specs.declared.about.About.{About}
use Rattle.hop_words.specs.declared.known.Known.{Known}
use Rattle.hop_words.specs.declared.known.Reading.{Reading}
use Rattle.hop_layout.specs.declared.place.Place.TheVariants.{Stamp}
use Rattle.hop_words.specs.declared.known.Sight.{Sight}
use Rattle.hop_words.specs.declared.known.Peek.{Peek}
use Rattle.hop_words.specs.Sights.{look, lock_taken, IsLook}
use Rattle.bpf_shared.specs.declared.events.Span.{Span}
use Rattle.hop_layout.specs.Home.{home_of}
use Rattle.hop_layout.specs.Layout.{power}
use Rattle.hop_words.specs.Depths.{stamp_depth, home_by}
use Rattle.hop_words.specs.Ghost.{shape_at, Each}
use Rattle.hop_words.specs.Kinds.{StampSeenAgain, Found, TakesEffect, found_span}
use Rattle.hop_words.specs.Peeking.{latest_reading, HasReading}
use Rattle.hop_map.specs.Private.Peeks.{Peeked, OnlyReads, looks_of}
use Rattle.hop_map.specs.Finding.{AsksForKey, Looked, Disturbs, ReadsOnce, TakesLock, IsWay, home_in, all_sights}
use Rattle.hop_map.specs.Private.Finding.{AsksHere, SeesDisturbances, reading_at}
use Rattle.hop_map.specs.Noting.{CallNotes}

pub all_looks : (ps : List Peek) → Each IsLook (looks_of ps)
all_looks [] = tt
all_looks (p ∷ ps) = (refl, all_looks ps)

-- the home by which the key was sought
pub walked_home : (a : About) (m s n h : ℕ) (key : List ℕ) → h ≡ home_of key a.seed (shape_at a m).mask → h % power (stamp_depth n) ≡ s →
    home_by a m (stamp_depth n) key ≡ s
walked_home a m s n h key is here = ap (λ (i : ℕ). i % power (stamp_depth n)) (sym is) ∙ here

pub way_of : (a : About) (m s h : ℕ) (key : List ℕ) (way : List Sight) → h ≡ home_of key a.seed (shape_at a m).mask → IsWay a m h s way →
    IsWay a m (home_in a m key) s way
way_of a m s h key way is w = subst (λ (i : ℕ). IsWay a m i s way) is w

module _ (a : About) (l : Known) (m s n : ℕ) (key : List ℕ) (q : AsksForKey a l m key) (way : List Sight) (is_way : IsWay a m (home_in a m key) s way) where
  -- the first stamp is locked
  pub disturbed_first : (l1 : Known) → n % 2 ≡ 1 → l1 ≡ record l { readings = l1.readings; tally = look (Stamp m s) n ∷ (way ++ l.tally) } →
      Disturbs a l m key n n l1
  disturbed_first l1 odd is = record {
    segment = s;
    way = way;
    is_way = is_way;
    sights = look (Stamp m s) n ∷ [];
    disturbed = inl (odd, refl, refl);
    after = is;
  }

  -- it isn't
  module _ (home : home_by a m (stamp_depth n) key ≡ s) (l1 : Known) (is : l1 ≡ reading_at l m s n way) where
    pub begun : HasReading l1 m s
    begun = subst (λ (z : Known). HasReading z m s) (sym is) (refl, refl, refl)

    stamp_begun : (latest_reading l1).stamp ≡ n
    stamp_begun = ap (λ (z : Known). (latest_reading z).stamp) is

    module _ (x y : Peeked) (xa : x.about ≡ a) (xk : x.known ≡ l1) (xm : x.map ≡ m) (xs : x.segment ≡ s) (r : OnlyReads x y) where
      abbrev before : List Sight
      before = look (Stamp m s) n ∷ (way ++ l.tally)

      -- the words that were looked at since
      abbrev words : List Sight
      words = looks_of r.more

      abbrev by_now : List Sight
      by_now = words ++ before

      noted_now : y.known.tally ≡ by_now
      noted_now = r.noted ∙ ap (λ (z : Known). words ++ z.tally) (xk ∙ is)

      lane_is : y.known ≡ record l { readings = y.known.readings; tally = by_now }
      lane_is = r.known ∙ (ap (λ (z : Known). record z { readings = y.known.readings; tally = y.known.tally }) (xk ∙ is) ∙
          (λ j. record l { readings = y.known.readings; tally = noted_now j }))

      abbrev there : Peeked
      there = record y { about = a; known = record l { readings = y.known.readings; tally = by_now }; map = m; segment = s }

      y_is : y ≡ there
      y_is = λ j. record { table = y.table; about = (r.about ∙ xa) j; known = lane_is j; map = (r.map ∙ xm) j; segment = (r.segment ∙ xs) j }

      first : latest_reading y.known ≡ record (latest_reading l1) { peeks = r.more ++ (latest_reading l1).peeks }
      first = r.reading ∙ ap (λ (z : Known). record (latest_reading z) { peeks = r.more ++ (latest_reading z).peeks }) xk

      read_map : (latest_reading y.known).map ≡ m
      read_map = ap (λ (z : Reading). z.map) first ∙ begun.1

      read_segment : (latest_reading y.known).segment ≡ s
      read_segment = ap (λ (z : Reading). z.segment) first ∙ begun.2

      pub read_stamp : (latest_reading y.known).stamp ≡ n
      read_stamp = ap (λ (z : Reading). z.stamp) first ∙ stamp_begun

      pub asks_there : AsksHere y.about y.known y.map y.segment (stamp_depth (latest_reading y.known).stamp) key
      asks_there = subst (λ (i : ℕ). AsksHere y.about y.known y.map y.segment (stamp_depth i) key) (sym read_stamp)
          (subst (λ (z : Peeked). AsksHere z.about z.known z.map z.segment (stamp_depth n) key) (sym y_is)
          (record { home = home; size = q.size; runs = q.runs }))

      pub home_there : (h : ℕ) → h ≡ home_of key a.seed (shape_at a m).mask → h ≡ home_of key y.about.seed (shape_at y.about y.map).mask
      home_there h is = subst (λ (z : Peeked). h ≡ home_of key z.about.seed (shape_at z.about z.map).mask) (sym y_is) is

      -- the first stamp lies between the words and the way
      apart : by_now ≡ (words ++ look (Stamp m s) n ∷ []) ++ (way ++ l.tally)
      apart = sym (append_assoc words (look (Stamp m s) n ∷ []) (way ++ l.tally))

      module _ (o : Option ℕ) (last : ℕ) (l3 : Known) (seen : StampSeenAgain y.about y.known (latest_reading y.known) key o last l3) where
        -- the last stamp is another
        pub disturbed_last : last ≢ n → Disturbs a l m key n last l3
        disturbed_last ne =
            let far : last ≢ (latest_reading y.known).stamp = λ e. ne (e ∙ read_stamp) in
            let at_end = seen.1 far in
            let rd : l3.readings ≡ [] = ap (λ (z : Known). z.readings) at_end in
            record {
              segment = s;
              way = way;
              is_way = is_way;
              sights = look (Stamp m s) last ∷ (words ++ look (Stamp m s) n ∷ []);
              disturbed = inr ((λ e. ne (sym e)), (words, all_looks r.more, refl));
              after = at_end
                  ∙ (ap (λ (z : Known). record z {
                    readings = [];
                    tally = look
                        (Stamp (latest_reading y.known).map (latest_reading y.known).segment) last ∷ z.tally;
                  }) lane_is
                  ∙ ((λ j. record l { readings = sym rd j; tally = look (Stamp (read_map j) (read_segment j)) last ∷ by_now })
                  ∙ (λ j. record l { readings = l3.readings; tally = look (Stamp m s) last ∷ apart j })));
            }

        -- it is the same
        module _ (same : last ≡ n) where
          found : Found y.about y.known (latest_reading y.known) key o l3
          found = seen.0 (same ∙ sym read_stamp)

          after : l3 ≡ record l { seen = l3.seen; readings = []; tally = look (Stamp m s) n ∷ by_now }
          after = found.after
              ∙ (ap (λ (z : Known). record z {
                seen = l3.seen;
                readings = [];
                tally = look
                    (Stamp (latest_reading y.known).map (latest_reading y.known).segment) (latest_reading y.known).stamp ∷ z.tally;
              }) lane_is
              ∙ (λ j. record l { seen = l3.seen; readings = []; tally = look (Stamp (read_map j) (read_segment j)) (read_stamp j) ∷ by_now }))

          found_tally : l3.tally ≡ look (Stamp m s) n ∷ by_now
          found_tally = ap (λ (z : Known). z.tally) after

          pub reads_once : n % 2 ≡ 0 → ReadsOnce a l m key l3
          reads_once even = record {
            segment = s;
            way = way;
            is_way = is_way;
            sights = look (Stamp m s) n ∷ (words ++ look (Stamp m s) n ∷ []);
            undisturbed = (n, words, even, all_looks r.more, refl);
            tally = found_tally ∙ ap (λ (ss : List Sight). look (Stamp m s) n ∷ ss) apart;
          }

          its_event : TakesEffect a l (Lookup m key (found_span a m o)) l3.seen
          its_event =
              let u = subst (λ (i : ℕ). TakesEffect y.about y.known (Lookup i key (found_span y.about i o)) l3.seen) read_map found.seen in
              let v = subst (λ (z : Peeked). TakesEffect z.about z.known (Lookup m key (found_span z.about m o)) l3.seen) y_is u in
              record { others = v.others; foreign = v.foreign; after = v.after; legal = v.legal }

          pub found_once : Looked a l m key (found_span a m o) l3
          found_once =
              let rd : l3.readings ≡ [] = ap (λ (z : Known). z.readings) after in
              record { seen = its_event; after = after ∙ (λ j. record l { seen = l3.seen; readings = sym rd j; tally = sym found_tally j }) }

-- ---- readings one after the other
module _ (a : About) (l : Known) (m : ℕ) (key : List ℕ) where
  pub tries_none : SeesDisturbances a l m key 0 l
  tries_none = record { more = []; count = refl; each = tt; after = refl }

  module _ (n : ℕ) (x : Known) (t : SeesDisturbances a l m key n x) where
    pub asks_still : AsksForKey a l m key → AsksForKey a x m key
    asks_still q = subst (λ (z : Known). AsksForKey a z m key) (sym t.after)
        (record { map = q.map; size = q.size; runs = q.runs; fresh = q.fresh; locks = q.locks })

    pub looked_then : (o : Option Span) (y : Known) → Looked a x m key o y → Looked a l m key o y
    looked_then o y p = record {
      seen = (let v = subst (λ (z : Known). TakesEffect a z (Lookup m key o) y.seen) t.after p.seen in record
          { others = v.others; foreign = v.foreign; after = v.after; legal = v.legal });
      after = p.after ∙ ap (λ (z : Known). record z { seen = y.seen; readings = y.readings; tally = y.tally }) t.after;
    }

    pub tries_more : (first last : ℕ) (y : Known) → Disturbs a x m key first last y → SeesDisturbances a l m key (n + 1) y
    tries_more first last y p =
        record {
          more = (p.sights ++ p.way) ∷ t.more;
          count = (let c = t.count in omega arith);
          each = ((p.segment, p.way, p.sights, first, last, p.is_way, p.disturbed, refl), t.each);
          after = p.after
              ∙ (ap (λ (z : Known). record z { readings = y.readings; tally = p.sights ++ (p.way ++ z.tally) }) t.after
              ∙ (λ j. record l {
                readings = y.readings;
                tally = (sym (append_assoc p.sights p.way (all_sights t.more ++ l.tally)) ∙ sym
                    (append_assoc (p.sights ++ p.way) (all_sights t.more) l.tally)) j;
              }));
        }

    module _ (o : Option Span) (y : Known) where
      joined : (sights : List Sight) → y.tally ≡ sights ++ x.tally → y.tally ≡ (sights ++ all_sights t.more) ++ l.tally
      joined sights is = is ∙ (ap (λ (z : Known). sights ++ z.tally) t.after ∙ sym (append_assoc sights (all_sights t.more) l.tally))

      -- after them there was one that wasn't disturbed
      pub reading_spares : ReadsOnce a x m key y → CallNotes a (Lookup m key o) l y
      reading_spares p = (
        (p.sights ++ p.way) ++ all_sights t.more,
        joined (p.sights ++ p.way) (p.tally ∙ sym (append_assoc p.sights p.way x.tally)),
        record {
          tries = t.more;
          disturbed = t.each;
          last = p.sights ++ p.way;
          all = refl;
          ends = inl
              (p.segment, p.way, p.sights, p.is_way, p.undisturbed, refl);
        },
      )

      -- after eight of them the lock was taken
      pub lock_spares : n ≡ 8 → TakesLock a x m key y → CallNotes a (Lookup m key o) l y
      lock_spares eight (s, i, own, is) = (
        lock_taken m s i ∷ all_sights t.more,
        joined (lock_taken m s i ∷ []) is,
        record { tries = t.more; disturbed = t.each; last = lock_taken m s i ∷ []; all = refl; ends = inr (t.count ∙ eight, (s, i, own, refl)) },
      )
