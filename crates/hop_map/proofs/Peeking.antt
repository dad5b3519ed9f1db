-- Words that were read while others may have been writing them.
use Rattle.std.proofs.Common.{◌≡◌, ℕ, zero, suc, ◌+◌, ◌%◌, ◌<◌, ◌≤◌, ◌↔◌, Bool, true, false, true≢false, IsTrue, ◌||◌, ◌==◌, nat_lt, List}
use Rattle.std.proofs.Common.{[], ◌∷◌, length, Option, Some, None, MatchOption, refl, ap, sym, subst, ◌∙◌, arith, ⊎_elim, inl, inr, ◌⊎◌}
use Rattle.std.proofs.lemmas.Bool.Decides.{nat_tests}
use Rattle.std.proofs.lemmas.Bool.{or_right, or_left, or_cases}
use Rattle.bpf_shared.specs.Shape.{elements}
use Rattle.hop_layout.specs.declared.about.About.{About}
use Rattle.hop_layout.specs.declared.place.Place.{Place}
use Rattle.hop_layout.specs.declared.place.Place.TheVariants.{KeyWord}
use Rattle.hop_layout.specs.Words.{AreBytes}
use Rattle.hop_layout.specs.Home.{home_of}
use Rattle.hop_words.specs.Content.{MapWords, item, times, Reached, IsOnList, HopsTo, IsShare, HasKey}
use Rattle.hop_words.specs.Ghost.{shape_at}
use Rattle.hop_words.specs.Rule.{IsPeek}
use Rattle.hop_words.specs.Kinds.{AreWithin, AllPeeks, FindsByPeeks}
use Rattle.hop_words.specs.Peeking.{latest_reading, HasReading}
use Rattle.hop_words.proofs.Shares.{one_list}
use Rattle.hop_seg.specs.Words.{Words as SegWords, IsKnown}
use Rattle.hop_seg.specs.Segment.{Sound as SegSound, element_key}
use Rattle.hop_seg.specs.Content.{IsAbsent as SegAbsent, HasPair}
use Rattle.hop_map.specs.Private.LockedSegment.{segment_view}
use Rattle.hop_map.specs.Private.Finding.{AsksHere}
use Rattle.hop_map.specs.Private.Peeks.{Peeked, peeked, HavePeeks, Agreed, OnlyReads, Spelled}
use Rattle.hop_map.proofs.Keys.{same_spelling, other_size}
use Rattle.hop_map.proofs.Bridge.{seg_sound, pair_leads, leads_pair}
use Rattle.hop_words.specs.Depths.{stamp_depth, home_by}

pub rested_by : (x : Peeked) (p : Place) (n : ℕ) → OnlyReads x (peeked x p n)
rested_by x p n = record {
  table = refl;
  about = refl;
  map = refl;
  segment = refl;
  known = refl;
  more = record { place = p; number = n } ∷
      [];
  reading = refl;
  noted = refl;
}

pub rested_as : (x y : Peeked) (p : Place) (n : ℕ) → y ≡ peeked x p n → OnlyReads x y
rested_as x y p n is = subst (OnlyReads x) (sym is) (rested_by x p n)

-- the word that was read last
pub last_peek : (x y : Peeked) (p : Place) (n : ℕ) → y ≡ peeked x p n → (w : MapWords) → HavePeeks w y → IsPeek w x.map x.segment p n
last_peek x y p n is w all = (subst (HavePeeks w) is all).0

-- the key that a known element's words spell
module _ (x : Peeked) (e : ℕ) (key : List ℕ) (w : SegWords) (g : Agreed x w) (k : IsKnown w.fixed e) where
  reached : Reached g.words x.map x.segment e
  reached = g.known_is e (subst (λ (u : SegWords). IsKnown u.fixed e) g.shown k).0

  its_key : (q : List ℕ) × HasKey (shape_at x.about x.map) g.words x.map e q
  its_key = let q = g.share.each e reached in (q.0, q.1)

  pub keyed_value : (b : Bool) → AreBytes key → length key ≡ (shape_at x.about x.map).key →
      (Reached g.words x.map x.segment e → IsTrue b ↔ Spelled x.about x.map g.words e key) → IsTrue b ↔ (element_key w e ≡ key)
  keyed_value b bytes size spells =
      let t = spells reached in
      let s = same_spelling x.about x.map g.words e its_key.0 key its_key.1 bytes size in
      subst (λ (u : SegWords). IsTrue b ↔ (element_key u e ≡ key)) (sym g.shown) (λ h. s.0 (t.0 h), λ h. t.1 (s.1 h))

  pub sized_key : element_key w e ≡ key → length key ≡ (shape_at x.about x.map).key
  sized_key h = other_size x.about x.map g.words e its_key.0 key its_key.1 (ap (λ (u : SegWords). element_key u e) (sym g.shown) ∙ h)

pub spelled_on : (x y z : Peeked) (m e k n : ℕ) → OnlyReads x y → z ≡ peeked y (KeyWord m e k) n → m ≡ y.map → (w : MapWords) → HavePeeks w
    z → Reached w x.map x.segment e → w.key x.map e k ≡ n
spelled_on x y z m e k n r is hm w all reached =
    let q : m ≡ y.map → Reached w y.map y.segment e → w.key y.map e k ≡ n = last_peek y z (KeyWord m e k) n is w all in
    subst (λ (i : ℕ). w.key i e k ≡ n) r.map (q hm (subst (λ (i : ℕ). Reached w i y.segment e) (sym r.map)
    (subst (λ (t : ℕ). Reached w x.map t e) (sym r.segment) reached)))

-- ---- the elements that words lead to, as a test
abbrev is_item : Option ℕ → ℕ → Bool
is_item None e = false
is_item (Some d) e = d == e

abbrev at_places : (ℕ → ℕ) → ℕ → ℕ → Bool
at_places slot zero e = false
at_places slot (suc n) e = is_item (item (slot n)) e || at_places slot n e

is_item_is : (o : Option ℕ) (e : ℕ) → is_item o e ≡ true → o ≡ Some e
is_item_is None e h = absurd (true≢false (sym h))
is_item_is (Some d) e h = let z : d ≡ e = grind (arith, nat_tests) in ap Some z

at_place : (slot : ℕ → ℕ) (n e : ℕ) → at_places slot n e ≡ true → (p : ℕ) × (p < n) × (item (slot p) ≡ Some e)
at_place slot zero e h = absurd (true≢false (sym h))
at_place slot (suc n) e h = ⊎_elim
    (λ (t : is_item (item (slot n)) e ≡ true). (n, (omega arith), is_item_is (item (slot n)) e t))
    (λ (t : at_places slot n e ≡ true). let r = at_place slot n e t in (r.0, (let z = r.1 in omega arith), r.2))
    (or_cases (is_item (item (slot n)) e) (at_places slot n e) h)

item_is : (o : Option ℕ) (e : ℕ) → o ≡ Some e → is_item o e ≡ true
item_is o e h = ap (λ (i : Option ℕ). is_item i e) h ∙ (let z : e == e ≡ true = grind (arith, nat_tests) in z)

place_at : (slot : ℕ → ℕ) (n p e : ℕ) → p < n → item (slot p) ≡ Some e → at_places slot n e ≡ true
place_at slot zero p e l h = absurd (omega arith)
place_at slot (suc n) p e l h = ⊎_elim
    (λ (t : p ≡ n). or_left (is_item (item (slot n)) e) (at_places slot n e) (item_is (item (slot n)) e (ap (λ (i : ℕ). item (slot i)) (sym t) ∙ h)))
    (λ (t : p < n). or_right (is_item (item (slot n)) e) (at_places slot n e) (place_at slot n p e t h))
    (last p n l)
  where
    last : (p n : ℕ) → p < suc n → (p ≡ n) ⊎ (p < n)
    last zero zero l = inl refl
    last zero (suc n) l = inr (omega arith)
    last (suc p) zero l = absurd (omega arith)
    last (suc p) (suc n) l = ⊎_elim (λ (t : p ≡ n). inl (ap suc t)) (λ (t : p < n). inr (omega arith)) (last p n (omega arith))

module _ (a : About) (m s dp : ℕ) (w : MapWords) (f : List ℕ → Option ℕ) (share : IsShare a.seed (shape_at a m) (home_by a m dp) w m s f) where
  abbrev leads_to : ℕ → Bool
  leads_to e = at_places (w.slot m s) 64 e || nat_lt 0 (times e share.sound.list)

  known_reached : (e : ℕ) → leads_to e ≡ true → Reached w m s e
  known_reached e h = ⊎_elim
      (λ (t : at_places (w.slot m s) 64 e ≡ true). let r = at_place (w.slot m s) 64 e t in let q = share.sound.hopped r.0 e r.1 r.2 in inl (q.0, q.1, q.2))
      (λ (t : nat_lt 0 (times e share.sound.list) ≡ true). inr (share.sound.list, share.sound.follows, grind (arith, nat_tests)))
      (or_cases (at_places (w.slot m s) 64 e) (nat_lt 0 (times e share.sound.list)) h)

  reached_known : (e : ℕ) → Reached w m s e → leads_to e ≡ true
  reached_known e r = ⊎_elim
      (λ (h : (b : ℕ) × (d : ℕ) × HopsTo w m s b d e). or_left (at_places (w.slot m s) 64 e) (nat_lt 0 (times e share.sound.list))
      (place_at (w.slot m s) 64 ((h.0 + h.1) % 64) e (omega arith) h.2.3))
      (λ (o : IsOnList w m s e).
      let same : o.0 ≡ share.sound.list = one_list (w.link m) (w.head m s) o.0 share.sound.list o.1 share.sound.follows in
      let few : 1 ≤ times e share.sound.list = subst (λ (es : List ℕ). 1 ≤ times e es) same o.2 in
      or_right (at_places (w.slot m s) 64 e) (nat_lt 0 (times e share.sound.list)) (grind (arith, nat_tests)))
      r

  module _ (within : AreWithin a m f) where
    all_known : (key : List ℕ) (e : ℕ) → f key ≡ Some e → home_by a m dp key ≡ s → (e < elements (shape_at a m)) × (leads_to e ≡ true)
    all_known key e is at_home = (within key e is, reached_known e (share.all key e is at_home).0)

    shown_sound : SegSound (segment_view a m s dp leads_to w)
    shown_sound = seg_sound a m s dp leads_to w f share all_known

    shown_leads : (key : List ℕ) → home_by a m dp key ≡ s → (o : Option ℕ) → MatchOption o
        (SegAbsent (segment_view a m s dp leads_to w) key) (λ e. HasPair (segment_view a m s dp leads_to w) key e) → f key ≡ o
    shown_leads key at_home (Some e) there = (pair_leads a m s dp leads_to w f share all_known key e there).0
    shown_leads key at_home None gone = go (f key) refl
      where
        go : (o : Option ℕ) → f key ≡ o → f key ≡ None
        go None is = is
        go (Some e) is = absurd (gone e (leads_pair a m s dp leads_to w f share all_known key e is at_home))

-- what a find says of all words that agree is what see stamp again asks for
module _ (y : Peeked) (key : List ℕ) (o : Option ℕ) (b : AsksHere y.about y.known y.map y.segment
    (stamp_depth (latest_reading y.known).stamp) key) (h : ℕ) (h_is : h ≡ home_of key y.about.seed (shape_at y.about y.map).mask)
    (found : (w : SegWords) → Agreed y w → SegSound w → h ≡ w.fixed.home key → MatchOption o (SegAbsent w key) (λ e. HasPair w key e)) where
  shown_here : (w : MapWords) (f : List ℕ → Option ℕ) → IsShare y.about.seed (shape_at y.about y.map)
      (home_by y.about y.map (stamp_depth (latest_reading y.known).stamp)) w y.map y.segment f → AreWithin y.about y.map f → HavePeeks w y → f key ≡ o
  shown_here w f share within all =
      let k = leads_to y.about y.map y.segment (stamp_depth (latest_reading y.known).stamp) w f share in
      shown_leads y.about y.map y.segment (stamp_depth (latest_reading y.known).stamp) w f share within key b.home o
      (found (segment_view y.about y.map y.segment (stamp_depth (latest_reading y.known).stamp) k w)
      (record {
        words = w;
        content = f;
        share = share;
        peeks = all;
        known = k;
        known_is = known_reached y.about y.map y.segment
            (stamp_depth (latest_reading y.known).stamp) w f share;
        shown = refl;
      })
      (shown_sound y.about y.map y.segment (stamp_depth (latest_reading y.known).stamp) w f share within) h_is)

  pub finds : HasReading y.known y.map y.segment → FindsByPeeks y.about y.known (latest_reading y.known) key o
  finds here = record {
    reading = here.0;
    key_size = b.size ∙ ap (λ (m : ℕ). (shape_at y.about m).key) (sym here.1);
    home = ap (λ (m : ℕ). home_by y.about m (stamp_depth (latest_reading y.known).stamp) key) here.1 ∙ (b.home ∙ sym here.2);
    shown = subst (λ (m : ℕ). (w : MapWords) (f : List ℕ → Option ℕ) → IsShare y.about.seed (shape_at y.about m)
        (home_by y.about m (stamp_depth (latest_reading y.known).stamp)) w m (latest_reading y.known).segment f → AreWithin y.about m f →
        AllPeeks w (record (latest_reading y.known) { map = m }) → f key ≡ o) (sym here.1)
        (subst (λ (t : ℕ). (w : MapWords) (f : List ℕ → Option ℕ) → IsShare y.about.seed (shape_at y.about y.map)
        (home_by y.about y.map (stamp_depth (latest_reading y.known).stamp)) w y.map t f → AreWithin y.about y.map f → AllPeeks w
        (record (latest_reading y.known) { map = y.map; segment = t }) → f key ≡ o) (sym here.2) shown_here);
    runs = b.runs;
  }
