-- A segment's share of the keys, as the rule says it and as the segment's code does.
use Rattle.std.proofs.Common.{◌≡◌, ◌≢◌, ℕ, zero, suc, ◌+◌, ◌*◌, ◌^◌, ◌%◌, ◌<◌, ◌≤◌, Bool, true, false, ◌==◌, if◌then◌else◌, List, [], ◌∷◌}
use Rattle.std.proofs.Common.{Option, Some, None, refl, ap, sym, subst, ◌∙◌, arith, eq-eqb, ⊎_elim, inl, inr}
use Rattle.std.proofs.Math.Nat.{pow-succ'}
use Rattle.std.specs.Int.{bit_at}
use Rattle.std.proofs.lemmas.Bool.Decides.{nat_tests}
use Rattle.bpf_shared.specs.Shape.{elements}
use Rattle.hop_layout.specs.declared.about.About.{About}
use Rattle.hop_layout.specs.Layout.{power}
use Rattle.hop_layout.specs.Home.{key_bucket}
use Rattle.hop_map.specs.LockedSegment.{home}
use Rattle.hop_map.specs.Private.LockedSegment.{segment_view}
use Rattle.hop_words.specs.Content.{MapWords, item, times, one_if, HopsTo, LinksThrough, Reached, HasKey, IsShare}
use Rattle.hop_words.specs.Ghost.{shape_at}
use Rattle.hop_words.specs.Rule.{put_key}
use Rattle.hop_words.proofs.Small.{equal_keys, key_self, key_apart}
use Rattle.hop_words.proofs.Shares.{some_once, times_head, times_tail}
use Rattle.hop_seg.specs.Places.{place_at, bucket_distance}
use Rattle.hop_seg.specs.Words.{Words as SegWords}
use Rattle.hop_seg.specs.Segment.{Sound as SegSound, Chain, Among, KeysDiffer, IsOwn, element_key, home_bucket}
use Rattle.hop_seg.specs.Content.{IsPlaced, IsInSegment, HasPair, IsAbsent, Gains, Loses, Changes}
use Rattle.hop_seg.proofs.Basics.{distance-place, place-distance}
use Rattle.hop_seg.proofs.Walking.{listed_among}
use Rattle.hop_map.proofs.Keys.{spells}
use Rattle.hop_map.proofs.Lows.{bit_low}
use Rattle.hop_words.specs.Depths.{home_by}

pub power_is : (n : ℕ) → power n ≡ 2 ^ n
power_is zero = refl
power_is (suc n) = ap (λ (k : ℕ). 2 * k) (power_is n) ∙ sym (pow-succ' 2 n)

-- ---- lists
pub chain_of : (link : ℕ → ℕ) (n : ℕ) (es : List ℕ) → LinksThrough link n es → Chain (λ e. item (link e)) (item n) es
chain_of link n [] h = h
chain_of link n (e ∷ es) h = (h.0, chain_of link (link e) es h.1)

follows_of : (link : ℕ → ℕ) (n : ℕ) (es : List ℕ) → Chain (λ e. item (link e)) (item n) es → LinksThrough link n es
follows_of link n [] h = h
follows_of link n (e ∷ es) h = (h.0, follows_of link (link e) es h.1)

pub among_of : (e : ℕ) (es : List ℕ) → 1 ≤ times e es → Among e es
among_of e [] h = absurd (omega arith)
among_of e (x ∷ xs) h = go (x == e) refl (λ k. among_of e xs k)
  where
    go : (b : Bool) → (x == e) ≡ b → (1 ≤ times e xs → Among e xs) → Among e (x ∷ xs)
    go true is t = inl (let z : x == e ≡ true = is in grind (arith, nat_tests))
    go false is t = inr (t (let z : one_if (x == e) ≡ 0 = ap one_if is in omega arith))

times_of : (e : ℕ) (es : List ℕ) → Among e es → 1 ≤ times e es
times_of e [] h = absurd h
times_of e (x ∷ xs) (inl h) = subst (λ (i : ℕ). 1 ≤ times e (i ∷ xs)) h (times_head e xs)
times_of e (x ∷ xs) (inr h) = times_tail e x xs (times_of e xs h)

differ_of : (key : ℕ → List ℕ) (es : List ℕ) → ((x y : ℕ) → Among x es → Among y es → key x ≡ key y → x ≡ y) → ((e : ℕ) → times e es ≤ 1) → KeysDiffer key es
differ_of key [] inj once = tt
differ_of key (x ∷ xs) inj once = (
  λ y m same.
      let z : y ≡ x = inj y x (inr m) (inl refl) same in
      let one = once x in
      let t = times_of x xs (subst (λ (i : ℕ). Among i xs) z m) in
      let u : one_if (x == x) ≡ 1 = ap one_if (eq-eqb x x refl) in
      omega arith,
  differ_of key xs (λ y z m n same. inj y z (inr m) (inr n) same) (λ e. let t = once e in omega arith),
)

once_of : (key : ℕ → List ℕ) (es : List ℕ) → KeysDiffer key es → (e : ℕ) → times e es ≤ 1
once_of key [] d e = omega arith
once_of key (x ∷ xs) d e = go (x == e) refl (once_of key xs d.1 e)
  where
    go : (b : Bool) → (x == e) ≡ b → times e xs ≤ 1 → times e (x ∷ xs) ≤ 1
    go false is t = let z : one_if (x == e) ≡ 0 = ap one_if is in omega arith
    go true is t =
        let z : one_if (x == e) ≡ 1 = ap one_if is in
        let s : x ≡ e = grind (arith, nat_tests) in
        none (times e xs) refl
      where
        none : (n : ℕ) → times e xs ≡ n → times e (x ∷ xs) ≤ 1
        none zero h = let z : one_if (x == e) ≡ 1 = ap one_if is in omega arith
        none (suc n) h = absurd (d.0 e (among_of e xs (omega arith)) (ap key (let s : e ≡ x = grind (arith, nat_tests) in s)))

module _ (a : About) (m s dp : ℕ) (known : ℕ → Bool) (x : MapWords) where
  abbrev pub v : SegWords
  v = segment_view a m s dp known x

  pub placed_of : (e b d : ℕ) → HopsTo x m s b d e → IsPlaced v e
  placed_of e b d h = (b, d, h.0, h.1, bit_low (x.hop m s b) d h.1 ∙ h.2, h.3)

  pub hops_of : (e : ℕ) → IsPlaced v e → (b : ℕ) × (d : ℕ) × HopsTo x m s b d e
  hops_of e p = (p.0, p.1, (p.2, p.3, sym (bit_low (x.hop m s p.0) p.1 p.3) ∙ p.4, p.5))

  pub linked_of : (e : ℕ) → Reached x m s e → IsInSegment v e
  linked_of e (inl h) = inl (placed_of e h.0 h.1 h.2)
  linked_of e (inr h) = inr (h.0, chain_of (x.link m) (x.head m s) h.0 h.1, among_of e h.0 h.2)

  pub reached_of : (e : ℕ) → IsInSegment v e → Reached x m s e
  reached_of e (inl p) = inl (hops_of e p)
  reached_of e (inr l) = inr (l.0, follows_of (x.link m) (x.head m s) l.0 l.1, times_of e l.0 l.2)

  -- from the rule's share to the code's soundness
  module _ (f : List ℕ → Option ℕ) (p : IsShare a.seed (shape_at a m) (home_by a m dp) x m s f)
      (all_known : (key : List ℕ) (e : ℕ) → f key ≡ Some e → home_by a m dp key ≡ s → (e < elements (shape_at a m)) × (known e ≡ true)) where
    its_key : (e : ℕ) → Reached x m s e → (key : List ℕ) × HasKey (shape_at a m) x m e key × (home_by a m dp key ≡ s) × (f key ≡ Some e) ×
        (element_key v e ≡ key)
    its_key e r = let k = p.each e r in (k.0, k.1, k.2, k.3, spells a m x e k.0 k.1)

    leads_to : (e : ℕ) → Reached x m s e → f (element_key v e) ≡ Some e
    leads_to e r = let k = its_key e r in ap f k.4 ∙ k.3

    own : (e : ℕ) → Reached x m s e → IsOwn v.fixed e
    own e r =
        let k = its_key e r in
        let z = all_known k.0 e k.3 k.2 in
        record {
          known = (z.1, z.0);
          home = ap (λ (q : List ℕ). home a.seed (shape_at a m).mask q % 2 ^ dp) k.4 ∙
              (ap (λ (n : ℕ). home a.seed (shape_at a m).mask k.0 % n) (sym (power_is dp)) ∙ k.2);
        }

    bucket_is : (e b d : ℕ) → HopsTo x m s b d e → home_bucket v e ≡ b
    bucket_is e b d h = let k = its_key e (inl (b, d, h)) in ap (λ (q : List ℕ). key_bucket a.seed (shape_at a m) q) k.4 ∙ p.sound.homes b d e k.0 h k.1

    same_element : (e d : ℕ) → Reached x m s e → Reached x m s d → element_key v e ≡ element_key v d → e ≡ d
    same_element e d r q same = some_once e d (sym (leads_to e r) ∙ (ap f same ∙ leads_to d q))

    at_slot : (q e : ℕ) → q < 64 → v.slot q ≡ Some e → (b : ℕ) × (d : ℕ) × HopsTo x m s b d e × ((b + d) % 64 ≡ q)
    at_slot q e l is = p.sound.hopped q e l is

    on_list : (e : ℕ) → Among e p.sound.list → Reached x m s e
    on_list e l = inr (p.sound.list, p.sound.follows, times_of e p.sound.list l)

    pub seg_sound : SegSound v
    seg_sound = record {
      list = p.sound.list;
      chain = chain_of (x.link m) (x.head m s) p.sound.list p.sound.follows;
      leads = λ b d bb dd bit. let t = p.sound.leads b d bb dd (sym (bit_low (x.hop m s b) d dd) ∙ bit) in (t.0, t.1.3, bucket_is t.0 b d t.1);
      hopped = λ q e l is.
          let h = at_slot q e l is in
          let b = bucket_is e h.0 h.1 h.2 in
          let dd : h.1 < 64 = (let z = h.2.1 in omega arith) in
          let far : bucket_distance (home_bucket v e) q ≡ h.1 = (λ j. bucket_distance (b j) (sym h.3 j)) ∙ distance-place h.0 h.1 h.2.0 dd in
          record {
            near = subst (λ (n : ℕ). n < 32) (sym far) h.2.1;
            bit = (λ j. bit_at (v.hop (b j)) (far j)) ∙ (bit_low (x.hop m s h.0) h.1 h.2.1 ∙ h.2.2);
          };
      apart = λ q t e d lq lt is it same.
          let h = at_slot q e lq is in
          let k = at_slot t d lt it in
          let z = same_element e d (inl (h.0, h.1, h.2)) (inl (k.0, k.1, k.2)) same in
          let o = p.sound.one_hop h.0 h.1 k.0 k.1 e h.2 (subst (λ (i : ℕ). HopsTo x m s k.0 k.1 i) (sym z) k.2) in
          sym h.3 ∙ ((λ j. (o.0 j + o.1 j) % 64) ∙ k.3);
      aside = λ q e d lq is l same.
          let h = at_slot q e lq is in
          let z = same_element d e (on_list d l) (inl (h.0, h.1, h.2)) same in
          let n = p.sound.apart h.0 h.1 e h.2 in
          let t = times_of e p.sound.list (subst (λ (i : ℕ). Among i p.sound.list) z l) in
          omega arith;
      differ = differ_of (element_key v) p.sound.list (λ e d l k same. same_element e d (on_list e l) (on_list d k) same) p.sound.one_place;
      placed_own = λ q e l is. let h = at_slot q e l is in own e (inl (h.0, h.1, h.2));
      listed_own = λ e l. own e (on_list e l);
    }

    -- the content
    pub pair_leads : (key : List ℕ) (e : ℕ) → HasPair v key e → (f key ≡ Some e) × (home_by a m dp key ≡ s)
    pair_leads key e h =
        let k = its_key e (reached_of e h.linked) in
        let z : k.0 ≡ key = sym k.4 ∙ h.keyed in
        (ap f (sym z) ∙ k.3, ap (home_by a m dp) (sym z) ∙ k.2)

    pub leads_pair : (key : List ℕ) (e : ℕ) → f key ≡ Some e → home_by a m dp key ≡ s → HasPair v key e
    leads_pair key e is home = let t = p.all key e is home in record { keyed = spells a m x e key t.1; linked = linked_of e t.0 }

  -- from the code's soundness to the rule's share
  module _ (q : SegSound v) (f : List ℕ → Option ℕ) (keyed : (e : ℕ) → known e ≡ true → (key : List ℕ) × HasKey (shape_at a m) x m e key)
      (leads : (key : List ℕ) (e : ℕ) → HasPair v key e → (f key ≡ Some e) × (home_by a m dp key ≡ s))
      (pairs : (key : List ℕ) (e : ℕ) → f key ≡ Some e → home_by a m dp key ≡ s → HasPair v key e) where
    known_linked : (e : ℕ) → IsInSegment v e → known e ≡ true
    known_linked e (inl h) = (q.placed_own (place_at h.0 h.1) e (omega arith) h.5).known.0
    known_linked e (inr l) = (q.listed_own e (listed_among v q e l)).known.0

    has : (e : ℕ) → IsInSegment v e → HasKey (shape_at a m) x m e (element_key v e)
    has e l = let k = keyed e (known_linked e l) in subst (λ (key : List ℕ). HasKey (shape_at a m) x m e key) (sym (spells a m x e k.0 k.1)) k.1

    pub share_of : IsShare a.seed (shape_at a m) (home_by a m dp) x m s f
    share_of = record {
      sound = record {
        leads = λ b d bb dd bit. let t = q.leads b d bb dd (bit_low (x.hop m s b) d dd ∙ bit) in (t.0, (bb, dd, bit, t.1));
        hopped = λ r e l is.
            let h = q.hopped r e l is in
            let b : home_bucket v e < 64 = omega arith in (
              home_bucket v e,
              bucket_distance (home_bucket v e) r,
              (
                b,
                h.near,
                sym (bit_low (x.hop m s (home_bucket v e)) (bucket_distance (home_bucket v e) r) h.near) ∙ h.bit,
                ap
                    (λ (n : ℕ). v.slot n) (place-distance (home_bucket v e) r b l) ∙ is,
              ),
              place-distance (home_bucket v e) r b l,
            );
        homes = λ b d e key h k.
            let t = q.leads b d h.0 h.1 (bit_low (x.hop m s b) d h.1 ∙ h.2) in
            let z : t.0 ≡ e = some_once t.0 e (sym t.1 ∙ h.3) in
            sym (ap (λ (i : List ℕ). key_bucket a.seed (shape_at a m) i) (spells a m x e key k)) ∙ (ap (home_bucket v) (sym z) ∙ t.2);
        one_hop = λ b d c i e h k.
            let same = q.apart (place_at b d) (place_at c i) e e (omega arith) (omega arith) h.3 k.3 refl in
            let t = q.leads b d h.0 h.1 (bit_low (x.hop m s b) d h.1 ∙ h.2) in
            let u = q.leads c i k.0 k.1 (bit_low (x.hop m s c) i k.1 ∙ k.2) in
            let z : t.0 ≡ u.0 = some_once t.0 u.0 (sym t.1 ∙ (h.3 ∙ (sym k.3 ∙ u.1))) in
            let w : b ≡ c = sym t.2 ∙ (ap (home_bucket v) z ∙ u.2) in
            (w, (let l = h.0 in let n = h.1 in let o = k.1 in omega arith));
        list = q.list;
        follows = follows_of (x.link m) (x.head m s) q.list q.chain;
        one_place = once_of (element_key v) q.list q.differ;
        apart = λ b d e h. none e (times e q.list) refl (λ l. q.aside (place_at b d) e e (omega arith) h.3 l refl);
      };
      each = λ e r. let l = linked_of e r in let t = leads (element_key v e) e (record { keyed = refl; linked = l }) in (element_key v e, has e l, t.1, t.0);
      all = λ key e is home.
          let t = pairs key e is home in (reached_of e t.linked, subst (λ (k : List ℕ). HasKey (shape_at a m) x m e k) t.keyed (has e t.linked));
    }
      where
        none : (e : ℕ) (n : ℕ) → times e q.list ≡ n → (Among e q.list → ⊥) → times e q.list ≡ 0
        none e zero h gone = h
        none e (suc n) h gone = absurd (gone (among_of e q.list (omega arith)))

-- ---- what the code's calls leave, as the rule asks for it
module _ (a : About) (m s dp : ℕ) (known : ℕ → Bool) (x y : MapWords) (f : List ℕ → Option ℕ) (p : IsShare a.seed (shape_at a m) (home_by a m dp) x m s f)
    (all_known : (key : List ℕ) (e : ℕ) → f key ≡ Some e → home_by a m dp key ≡ s → (e < elements (shape_at a m)) × (known e ≡ true))
    (keyed : (e : ℕ) → known e ≡ true → (key : List ℕ) × HasKey (shape_at a m) y m e key) (key : List ℕ) (home : home_by a m dp key ≡ s) where
  pub absent_none : IsAbsent (segment_view a m s dp known x) key → f key ≡ None
  absent_none gone = go (f key) refl
    where
      go : (o : Option ℕ) → f key ≡ o → f key ≡ None
      go None is = is
      go (Some e) is = absurd (gone e (leads_pair a m s dp known x f p all_known key e is home))

  pub none_absent : f key ≡ None → IsAbsent (segment_view a m s dp known x) key
  none_absent gone e h = let t = pair_leads a m s dp known x f p all_known key e h in let z : None ≡ Some e = sym gone ∙ t.0 in cc

  pub inserted : (e : ℕ) → f key ≡ None → Gains (segment_view a m s dp known x) (segment_view a m s dp known y) key e → IsShare a.seed
      (shape_at a m) (home_by a m dp) y m s (put_key f key (Some e))
  inserted e gone g = share_of a m s dp known y g.sound (put_key f key (Some e)) keyed
      (λ k d h. elim ((g.pairs k d).0 h) [
        | inl was ↦
            let t = pair_leads a m s dp known x f p all_known k d was in
            (other k d t.0, t.1)
        | inr new ↦ (
          (λ j. put_key f key (Some e) (new.0 j)) ∙ ((λ j. if key_self key j then Some e else f key) ∙ ap (λ (i : ℕ). Some i)
              (sym new.1)),
          ap (home_by a m dp) new.0 ∙ home,
        )
      ])
      (λ k d is at_home. (g.pairs k d).1 (⊎_elim
      (λ (same : k ≡ key). inr (same, some_once d e (sym is ∙ ((λ j. put_key f key (Some e) (same j)) ∙ (λ j. if key_self key j then Some e else f key)))))
      (λ (ne : k ≢ key). inl (leads_pair a m s dp known x f p all_known k d (sym (λ j. if key_apart k key ne j then Some e else f k) ∙ is) at_home))
      (equal_keys k key)))
    where
      other : (k : List ℕ) (d : ℕ) → f k ≡ Some d → put_key f key (Some e) k ≡ Some d
      other k d is = (λ j. if key_apart k key (λ (same : k ≡ key). let z : None ≡ Some d = sym gone ∙ (ap f (sym same) ∙ is) in cc) j then Some e else f k) ∙ is

  pub replaced : (o e : ℕ) → Changes (segment_view a m s dp known x) (segment_view a m s dp known y) key o e → IsShare a.seed (shape_at a m)
      (home_by a m dp) y m s (put_key f key (Some e))
  replaced o e g = share_of a m s dp known y g.sound (put_key f key (Some e)) keyed
      (λ k d h. elim ((g.pairs k d).0 h) [
        | inl was ↦
            let t = pair_leads a m s dp known x f p all_known k d was.0 in
            ((λ j. if key_apart k key was.1 j then Some e else f k) ∙ t.0, t.1)
        | inr new ↦ (
          (λ j. put_key f key (Some e) (new.0 j)) ∙ ((λ j. if key_self key j then Some e else f key) ∙ ap (λ (i : ℕ). Some i)
              (sym new.1)),
          ap (home_by a m dp) new.0 ∙ home,
        )
      ])
      (λ k d is at_home. (g.pairs k d).1 (⊎_elim
      (λ (same : k ≡ key). inr (same, some_once d e (sym is ∙ ((λ j. put_key f key (Some e) (same j)) ∙ (λ j. if key_self key j then Some e else f key)))))
      (λ (ne : k ≢ key). inl (leads_pair a m s dp known x f p all_known k d (sym (λ j. if key_apart k key ne j then Some e else f k) ∙ is) at_home, ne))
      (equal_keys k key)))

  pub removed : (e : ℕ) → Loses (segment_view a m s dp known x) (segment_view a m s dp known y) key e → IsShare a.seed (shape_at a m)
      (home_by a m dp) y m s (put_key f key None)
  removed e g = share_of a m s dp known y g.sound (put_key f key None) keyed
      (λ k d h.
      let was = (g.pairs k d).0 h in
      let t = pair_leads a m s dp known x f p all_known k d was.0 in
      ((λ j. if key_apart k key was.1 j then None else f k) ∙ t.0, t.1))
      (λ k d is at_home. (g.pairs k d).1 (⊎_elim
      (λ (same : k ≡ key). absurd (let z : None ≡ Some d = sym ((λ j. put_key f key None (same j)) ∙ (λ j. if key_self key j then None else f key)) ∙ is in cc))
      (λ (ne : k ≢ key). (leads_pair a m s dp known x f p all_known k d (sym (λ j. if key_apart k key ne j then None else f k) ∙ is) at_home, ne))
      (equal_keys k key)))
