-- What a split of a segment leaves, as publishing it asks for it.
use Rattle.std.proofs.Common.{◌≡◌, ℕ, ◌+◌, ◌^◌, ◌%◌, ◌<◌, Bool, true, List, Option, Some, ap, sym, ◌∙◌, arith, ⊎_elim, inl, inr}
use Rattle.bpf_shared.specs.Shape.{elements}
use Rattle.hop_layout.specs.declared.about.About.{About}
use Rattle.hop_layout.specs.Layout.{power}
use Rattle.hop_layout.specs.Home.{home_of}
use Rattle.hop_words.specs.Depths.{home_by}
use Rattle.hop_words.specs.Content.{MapWords, HasKey, IsShare}
use Rattle.hop_words.specs.Ghost.{shape_at}
use Rattle.hop_layout.proofs.Births.{mod_small, mod_once, some_power}
use Rattle.hop_words.proofs.Publishing.{home_up}
use Rattle.hop_seg.specs.Places.{place_at, home_segment}
use Rattle.hop_seg.specs.Words.{Words as SegWords}
use Rattle.hop_seg.specs.Segment.{Sound as SegSound, element_key}
use Rattle.hop_seg.specs.Content.{IsInSegment, HasPair}
use Rattle.hop_seg.specs.Split.{Splits}
use Rattle.hop_seg.proofs.Walking.{listed_among}
use Rattle.hop_map.specs.LockedSegment.{front_view}
use Rattle.hop_map.specs.Private.LockedSegment.{segment_view}
use Rattle.hop_map.proofs.Bridge.{power_is, pair_leads, leads_pair, share_of}

-- where the key of a sound segment's element belongs
own_home : (v : SegWords) → SegSound v → (e : ℕ) → IsInSegment v e → home_segment v.fixed.depth (v.fixed.home (element_key v e)) ≡ v.fixed.segment
own_home v q e (inl h) = (q.placed_own (place_at h.0 h.1) e (omega arith) h.5).home
own_home v q e (inr l) = (q.listed_own e (listed_among v q e l)).home

module _ (a : About) (m s d : ℕ) (known : ℕ → Bool) (x y : MapWords) (room : s < power d) (f : List ℕ → Option ℕ)
    (p : IsShare a.seed (shape_at a m) (home_by a m d) x m s f)
    (all_known : (key : List ℕ) (e : ℕ) → f key ≡ Some e → home_by a m d key ≡ s → (e < elements (shape_at a m)) × (known e ≡ true))
    (keyed : (e : ℕ) → known e ≡ true → (key : List ℕ) × HasKey (shape_at a m) y m e key)
    (sp : Splits (segment_view a m s d known x) (segment_view a m s d known y) (front_view m (s + 2 ^ d) y)) where
  abbrev c : ℕ
  c = s + 2 ^ d

  by : (key : List ℕ) (t : ℕ) → home_segment (d + 1) (home_of key a.seed (shape_at a m).mask) ≡ t → home_by a m (d + 1) key ≡ t
  by key t h = ap (λ (n : ℕ). home_of key a.seed (shape_at a m).mask % n) (power_is (d + 1)) ∙ h

  parent_home : (key : List ℕ) (e : ℕ) → HasPair (segment_view a m s (d + 1) known y) key e → home_by a m (d + 1) key ≡ s
  parent_home key e h = by key s (ap (λ (q : List ℕ). home_segment (d + 1) (home_of q a.seed (shape_at a m).mask)) (sym h.keyed) ∙ own_home
      (segment_view a m s (d + 1) known y) sp.parent e h.linked)

  child_home : (key : List ℕ) (e : ℕ) → HasPair (segment_view a m c (d + 1) known y) key e → home_by a m (d + 1) key ≡ c
  child_home key e h = by key c (ap (λ (q : List ℕ). home_segment (d + 1) (home_of q a.seed (shape_at a m).mask)) (sym h.keyed) ∙ own_home
      (segment_view a m c (d + 1) known y) sp.child e h.linked)

  old_of_parent : (key : List ℕ) → home_by a m (d + 1) key ≡ s → home_by a m d key ≡ s
  old_of_parent key e = home_up a m d key ∙ (ap (λ (n : ℕ). n % power d) e ∙ mod_small s (power d) room)

  old_of_child : (key : List ℕ) → home_by a m (d + 1) key ≡ c → home_by a m d key ≡ s
  old_of_child key e =
      let z = power_is d in
      home_up a m d key ∙ (ap (λ (n : ℕ). n % power d) e ∙ (mod_once c (power d) (omega arith) (omega arith) ∙ omega arith))

  some : 0 < 2 ^ d
  some = let z = power_is d in let o = some_power d in omega arith

  -- publishing asks for both
  pub parent_share : IsShare a.seed (shape_at a m) (home_by a m (d + 1)) y m s f
  parent_share = share_of a m s (d + 1) known y sp.parent f keyed
      (λ key e h. ((pair_leads a m s d known x f p all_known key e ((sp.pairs key e).0 (inl h))).0, parent_home key e h))
      (λ key e is home. ⊎_elim
      (λ (h : HasPair (segment_view a m s (d + 1) known y) key e). h)
      (λ (h : HasPair (segment_view a m c (d + 1) known y) key e). absurd (let z = sym home ∙ child_home key e h in let o = some in omega arith))
      ((sp.pairs key e).1 (leads_pair a m s d known x f p all_known key e is (old_of_parent key home))))

  pub child_share : IsShare a.seed (shape_at a m) (home_by a m (d + 1)) y m c f
  child_share = share_of a m c (d + 1) known y sp.child f keyed
      (λ key e h. ((pair_leads a m s d known x f p all_known key e ((sp.pairs key e).0 (inr h))).0, child_home key e h))
      (λ key e is home. ⊎_elim
      (λ (h : HasPair (segment_view a m s (d + 1) known y) key e). absurd (let z = sym home ∙ parent_home key e h in let o = some in omega arith))
      (λ (h : HasPair (segment_view a m c (d + 1) known y) key e). h)
      ((sp.pairs key e).1 (leads_pair a m s d known x f p all_known key e is (old_of_child key home))))
