-- On the way to the segment of a home.
use Rattle.std.proofs.Common.{◌≡◌, ◌≢◌, ℕ, ◌+◌, ◌-◌, ◌/◌, ◌%◌, ◌≤◌, Bool, true, false, true≢false, if◌then◌else◌, List, [], ◌∷◌, ◌++◌}
use Rattle.std.proofs.Common.{length, refl, ap, sym, subst, ◌∙◌, arith}
use Rattle.bpf_shared.specs.declared.shapes.MapShape.{MapShape}
use Rattle.hop_layout.specs.declared.about.About.{About}
use Rattle.hop_layout.specs.declared.place.Place.TheVariants.{Stamp}
use Rattle.hop_layout.specs.Layout.{power, depth, first_depth}
use Rattle.hop_layout.proofs.Births.{power_less}
use Rattle.hop_layout.proofs.Depths.{depth_most}
use Rattle.hop_words.specs.declared.known.Known.{Known}
use Rattle.hop_words.specs.declared.known.Lock.{Lock}
use Rattle.hop_words.specs.declared.known.Reading.{Reading}
use Rattle.hop_words.specs.declared.known.Sight.{Sight}
use Rattle.hop_words.specs.declared.walking.Way.{Way}
use Rattle.hop_words.specs.Walking.{IsOnWay, IsNextSegment}
use Rattle.hop_words.specs.Depths.{stamp_depth}
use Rattle.hop_words.specs.Ghost.{shape_at, IsSegment, Each}
use Rattle.hop_words.specs.Sights.{look, sighted}
use Rattle.hop_words.specs.Kinds.{SaysDepth, KnowsBorn, Seen, Child, noting, StampSeen, StampNoted, LocksSegment}
use Rattle.hop_map.specs.Private.Locks.{Walking, Sought}
use Rattle.hop_map.specs.Finding.{LeadsAlong, IsWay}
use Rattle.hop_map.specs.Private.Finding.{Approaching, Walked}

pub begins : (a : About) (l : Known) (m home : ℕ) (w : Way) → IsSegment a m w.segment → KnowsBorn a l m w.segment → IsOnWay home w → w.level
    ≤ 10 → Walking a l m home w 0 l
begins a l m home w inside born way level = record { after = refl; inside = inside; born = born; way = way; level = level; so_far = omega arith }

pub small : (a : About) (m s n : ℕ) → SaysDepth a m s n → n / 2 % 32 ≤ 10
small a m s n d = let z = d.most in let y = depth_most (shape_at a m) in omega arith

-- the next segment is one of the map's
pub next_inside : (a : About) (m n : ℕ) (w next : Way) → IsSegment a m w.segment → SaysDepth a m w.segment n → IsNextSegment w
    (stamp_depth n) next → IsSegment a m next.segment
next_inside a m n w next inside d e =
    (inside.0, (let p = power_less e.0 (depth (shape_at a m)) (let z = d.most in let y = e.2 in omega arith) in let s = e.5 in let o = e.4 in omega arith))

module _ (a : About) (l : Known) (m home n i : ℕ) (w : Way) (x y : Known) (t : Walking a l m home w i x) (noted : StampNoted a x m w.segment n y) where
  abbrev r : Reading
  r = record { map = m; segment = w.segment; stamp = n - n % 2; peeks = [] }

  reads : y.readings ≡ r ∷ []
  reads = ap (λ (z : Known). z.readings) noted.after

  whole : y ≡ noting l m w.segment (n - n % 2)
  whole = noted.after ∙ ap (λ (z : Known). noting z m w.segment (n - n % 2)) t.after

  pub goes : (next : Way) → IsOnWay home next → IsNextSegment w (stamp_depth n) next → Walking a l m home next (i + 1) y
  goes next way e = record {
    after = whole ∙ (λ j. record l { readings = sym reads j });
    inside = next_inside a m n w next t.inside noted.deep e;
    born = Child r e.0 reads refl e.4 (let same : stamp_depth (n - n % 2) ≡ stamp_depth n = omega arith in let z = e.2 in omega arith) e.5;
    way = way;
    level = (let z = e.1 in let y = e.2 in let o = noted.deep.most in let ten = depth_most (shape_at a m) in omega arith);
    so_far = (let z = e.1 in let k = e.3 in let o = t.so_far in omega arith);
  }

  pub sought : home % power (stamp_depth n) ≡ w.segment → Sought a l m home w.segment n y
  sought here = record {
    inside = t.inside;
    noted = record {
      deep = noted.deep;
      owns = λ h own. subst (λ (ks : List Lock). Each (λ (k : Lock). k.map ≡ m → h % power (stamp_depth k.stamp) ≡ k.segment →
          (k.segment ≡ w.segment) × (stamp_depth k.stamp ≡ stamp_depth n)) ks) (ap (λ (z : Known). z.locks) t.after) (noted.owns h own);
      after = whole;
    };
    here = here;
  }

module _ (a : About) (l : Known) (m home s n : ℕ) (y : Known) (q : Sought a l m home s n y) where
  pub known : KnowsBorn a y m s
  known = Seen (record { map = m; segment = s; stamp = n - n % 2; peeks = [] }) (ap (λ (z : Known). z.readings) q.noted.after) refl refl

  pub still : y ≡ record l { readings = y.readings }
  still = q.noted.after ∙ (λ j. record l { readings = sym (ap (λ (z : Known). z.readings) q.noted.after) j })

-- what a lock says doesn't depend on what was read before
pub locks_before : (a : About) (l y : Known) (m s n : ℕ) (z : Known) → y ≡ record l { readings = y.readings } → LocksSegment a y m s n z →
    LocksSegment a l m s n z
locks_before a l y m s n z after k =
    let q = subst (λ (u : Known). LocksSegment a u m s n z) after k in
    record {
      deep = q.deep;
      known = q.known;
      words = q.words;
      sized = q.sized;
      after = q.after;
      content = q.content;
      share = q.share;
      filled
          = q.filled;
      known_is = q.known_is;
      apart = q.apart;
      is_known = q.is_known;
      others = q.others;
      room = q.room;
    }

-- nor what a stamp does
pub sought_before : (a : About) (l y : Known) (m home s n : ℕ) (z : Known) → y ≡ record l { readings = y.readings } → Sought a y m home s n
    z → Sought a l m home s n z
sought_before a l y m home s n z after k =
    let q = subst (λ (u : Known). Sought a u m home s n z) after k in
    record { inside = q.inside; noted = record { deep = q.noted.deep; owns = q.noted.owns; after = q.noted.after }; here = q.here }

pub read_on : (l y z : Known) → y ≡ record l { readings = y.readings } → z ≡ record y { readings = z.readings } → z ≡ record l { readings = z.readings }
read_on l y z p q = q ∙ ap (λ (u : Known). record u { readings = z.readings }) p

-- ---- without a lock
-- a map that doesn't grow is made at its depth
pub as_made : (g : MapShape) → g.grow ≡ false → first_depth g ≡ depth g
as_made g fixed = ap (λ (y : Bool). if y then 0 else depth g) fixed

module _ (a : About) (l : Known) (m home n : ℕ) (w : Way) (y : Known) (at_w : IsSegment a m w.segment) (on_way : IsOnWay home w)
    (level : w.level ≡ first_depth (shape_at a m)) (few : w.level ≤ 10) (seen : StampSeen a l m w.segment n y) where
  -- the first segment is the home's own in a map that doesn't grow
  first_way : IsWay a m home w.segment []
  first_way = record {
    leads = ap (λ (i : ℕ). home % power i) (sym level) ∙ on_way.1;
    at_once = λ fixed.
        (refl, (let e : depth (shape_at a m) ≡ w.level = sym (level ∙ as_made (shape_at a m) fixed) in ap (λ (i : ℕ). home % power i) e ∙ on_way.1));
  }

  pub first_stopped : n % 2 ≡ 1 → Walked a l m home w.segment n y
  first_stopped odd = record {
    way = [];
    is_way = first_way;
    short = omega arith;
    inside = at_w;
    free = λ even. absurd (omega arith);
    locked = λ _. seen.2 odd ∙ (λ j. record l { readings = sym (ap (λ (z : Known). z.readings) (seen.2 odd)) j; tally = look (Stamp m w.segment) n ∷ l.tally });
  }

  pub first_there : n % 2 ≡ 0 → stamp_depth n ≡ w.level → Walked a l m home w.segment n y
  first_there even same = record {
    way = [];
    is_way = first_way;
    short = omega arith;
    inside = at_w;
    free = λ _. (seen.1 even, ap (λ (i : ℕ). home % power i) same ∙ on_way.1);
    locked = λ odd. absurd (omega arith);
  }

  pub first_near : n % 2 ≡ 0 → Approaching a l m home w n [] y
  first_near even = record {
    after = seen.1 even;
    leads = first_way.leads;
    inside = at_w;
    even = even;
    deep = seen.0;
    on_way = on_way;
    level
        = few;
    few = omega arith;
    short = omega arith;
  }

  pub first_grows : stamp_depth n ≢ w.level → (shape_at a m).grow ≡ true
  first_grows ne = go (shape_at a m).grow refl
    where
      go : (b : Bool) → (shape_at a m).grow ≡ b → b ≡ true
      go true is = refl
      go false is = absurd (ne (seen.0.whole is ∙ sym (level ∙ as_made (shape_at a m) is)))

module _ (a : About) (l : Known) (m home n : ℕ) (w : Way) (way : List Sight) (x : Known) (t : Approaching a l m home w n way x) where
  abbrev rn : Reading
  rn = record { map = m; segment = w.segment; stamp = n; peeks = [] }

  read_now : x.readings ≡ rn ∷ []
  read_now = ap (λ (z : Known). z.readings) t.after

  pub near_locks : x.locks ≡ l.locks
  near_locks = ap (λ (z : Known). z.locks) t.after

  grown : (shape_at a m).grow ≡ true → (s : ℕ) (more : List Sight) → LeadsAlong a m home s more → IsWay a m home s more
  grown grows s more leads = record { leads = leads; at_once = λ fixed. absurd (true≢false (sym grows ∙ fixed)) }

  pub near_there : (shape_at a m).grow ≡ true → home % power (stamp_depth n) ≡ w.segment → Walked a l m home w.segment n x
  near_there grows here = record {
    way = way;
    is_way = grown grows w.segment way t.leads;
    short = t.short;
    inside = t.inside;
    free = λ _.
        (t.after, here);
    locked = λ odd. absurd (let z = t.even in omega arith);
  }

  module _ (next : Way) (on_way : IsOnWay home next) (e : IsNextSegment w (stamp_depth n) next) where
    pub near_inside : IsSegment a m next.segment
    near_inside = next_inside a m n w next t.inside t.deep e

    pub near_born : KnowsBorn a x m next.segment
    near_born = Child rn e.0 read_now refl e.4 e.2 e.5

    leads_on : LeadsAlong a m home next.segment (look (Stamp m w.segment) n ∷ way)
    leads_on = (w.segment, n, refl, t.even, (e.0, e.2, e.4, e.5, ap (λ (i : ℕ). home % power i) (sym e.1) ∙ on_way.1), t.leads)

    -- the way is no longer than the map is deep
    longer : length (look (Stamp m w.segment) n ∷ way) ≤ depth (shape_at a m)
    longer = let z = e.2 in let y = e.3 in let f = t.few in let o = t.deep.most in omega arith

    module _ (i : ℕ) (y : Known) (seen : StampSeen a x m next.segment i y) where
      pub nearer : i % 2 ≡ 0 → Approaching a l m home next i (look (Stamp m w.segment) n ∷ way) y
      nearer even = record {
        after = seen.1 even ∙ ap (λ (z : Known). sighted (noting z m next.segment i) (look (Stamp m next.segment) i)) t.after;
        leads = leads_on;
        inside = near_inside;
        even = even;
        deep = seen.0;
        on_way = on_way;
        level = (let z = e.1 in let k = e.2 in let o = t.deep.most in let ten = depth_most (shape_at a m) in omega arith);
        few = (let z = e.1 in let y = e.3 in let f = t.few in omega arith);
        short = longer;
      }

      pub near_stopped : (shape_at a m).grow ≡ true → i % 2 ≡ 1 → Walked a l m home next.segment i y
      near_stopped grows odd = record {
        way = look (Stamp m w.segment) n ∷ way;
        is_way = grown grows next.segment (look (Stamp m w.segment) n ∷ way) leads_on;
        short = longer;
        inside = near_inside;
        free = λ even. absurd (omega arith);
        locked = λ _.
            let is = seen.2 odd ∙ ap (λ (z : Known). sighted z (look (Stamp m next.segment) i)) t.after in
            is ∙ (λ j. record l {
              readings = sym (ap (λ (z : Known). z.readings) is) j;
              tally = look (Stamp m next.segment) i ∷
                  (look (Stamp m w.segment) n ∷ (way ++ l.tally));
            });
      }
