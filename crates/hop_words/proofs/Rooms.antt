-- What several locks show together, where nothing has changed under any.
use Rattle.std.proofs.Common.{◌≡◌, ℕ, ◌<◌, true, false, List, [], ◌∷◌, Option, Some, None, is_some, length, refl, ap, subst, ◌∙◌, arith, ⊎_elim}
use Rattle.std.specs.List.{AllByRecursion}
use Rattle.std.specs.FinMap.{contains_key}
use Rattle.bpf_shared.specs.Store.{as_made}
use Rattle.bpf_shared.proofs.KeyOrder.{distinct_fits}
use Rattle.bpf_shared.proofs.Soundness.{as_made_sound, legal_sound}
use Rattle.hop_layout.specs.declared.place.Place.{Place}
use Rattle.hop_layout.specs.declared.about.About.{About}
use Rattle.hop_words.specs.declared.known.Known.{Known}
use Rattle.hop_words.specs.declared.known.Lock.{Lock}
use Rattle.hop_words.specs.Content.{MapWords}
use Rattle.hop_words.specs.Ghost.{lock_home, Holder, lane, Era, Ghost, shape_at, Each}
use Rattle.hop_words.specs.Rule.{Rule, Holds, changed, numbered, image}
use Rattle.hop_words.specs.Kinds.{ShowsLinks, ShowsIn, IsShownIn, KeysHaveRoom}
use Rattle.hop_words.proofs.Segs.{share_same}
use Rattle.hop_words.proofs.Stays.{map_there}

module _ (a : About) (depths : ℕ → ℕ → ℕ) (c : ℕ) (x : MapWords) (stamp : ℕ → ℕ → ℕ) (eras : ℕ → ℕ → Era) (linked : ℕ → List ℕ → Option ℕ)
    (holder : ℕ → ℕ → Holder) where
  -- the words at the lock show what is linked
  share_of : (j : Lock) → Holds a depths x stamp eras linked holder c j → j.dirty ≡ false → ShowsLinks a linked j
  share_of j h clean = share_same a.seed (shape_at a j.map) (lock_home a j) (image a j.first) j.map j.segment h.due.0 (linked j.map)
      (λ q home. h.due.2 q home ∙ ap (λ y. changed y h.due.0 q) (h.untouched clean).1) h.due.1

  pub shares_of : (ks : List Lock) → Each (Holds a depths x stamp eras linked holder c) ks → Each (λ (j : Lock). j.dirty ≡ false) ks → Each
      (ShowsLinks a linked) ks
  shares_of [] hs cs = tt
  shares_of (j ∷ ks) hs cs = (share_of j hs.0 cs.0, shares_of ks hs.1 cs.1)

some_numbered : (f : ℕ → ℕ) (o : Option ℕ) → is_some (numbered f o) ≡ is_some o
some_numbered f None = refl
some_numbered f (Some e) = refl

module _ (a : About) (linked : ℕ → List ℕ → Option ℕ) (m : ℕ) where
  shown : (ks : List Lock) (key : List ℕ) → Each (ShowsLinks a linked) ks → IsShownIn a m ks key → is_some (linked m key) ≡ true
  shown [] key shares s = absurd s
  shown (j ∷ ks) key shares s = ⊎_elim
      (λ (h : ShowsIn a m key j). subst (λ (i : ℕ). is_some (linked i key) ≡ true) h.0 (h.2 (linked j.map) shares.0))
      (λ (t : IsShownIn a m ks key). shown ks key shares.1 t)
      s

-- the keys that are shown are the map's, of which there are no more than it may have
module _ (a : About) (w : Place → ℕ) (g : Ghost) (r : Rule a w g) (l : Known) (is : lane g.lanes l.cpu ≡ l) (inside : l.cpu < a.shape.cpus) where
  pub room_for : (m : ℕ) → m < length a.shape.maps → (ks : List Lock) → Each (ShowsLinks a g.linked) ks → KeysHaveRoom a m ks
  room_for m there ks shares keys apart all =
      let most = (legal_sound (as_made a.shape) g.last g.log (as_made_sound a.shape r.shaped) r.logged.legal).keys m (shape_at a m)
      (map_there a w g r l is inside m there) in
      let few = distinct_fits keys (g.last.maps m) apart (each keys all) in
      omega arith
    where
      each : (js : List (List ℕ)) → AllByRecursion (IsShownIn a m ks) js → AllByRecursion (λ k. contains_key (g.last.maps m) k ≡ true) js
      each [] s = tt
      each (k ∷ js) s = (ap is_some (r.keyed.leads m k) ∙ (some_numbered (g.number m) (g.linked m k) ∙ shown a g.linked m ks k shares s.0), each js s.1)
