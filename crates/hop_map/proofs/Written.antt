-- Under the lock: which words are guarded, and what a write leaves.
use Rattle.std.proofs.Common.{◌≡◌, ℕ, Bool, true, length-set, if◌then◌else◌, refl, ap, ◌∙◌}
use Rattle.hop_layout.specs.declared.place.Place.{Place}
use Rattle.hop_layout.specs.declared.place.Place.TheVariants.{KeyWord}
use Rattle.hop_layout.specs.declared.about.About.{About}
use Rattle.hop_words.specs.declared.known.Known.{Known}
use Rattle.hop_layout.specs.Layout.{mem, at, is_place}
use Rattle.hop_words.specs.Kinds.{writing}
use Rattle.hop_words.specs.Locking.{lock_of}
use Rattle.hop_words.specs.Guarded.{IsMine}
use Rattle.hop_layout.proofs.Layouts.{wrote}
use Rattle.hop_map.specs.LockedSegment.{knows, Ready}
use Rattle.hop_map.specs.Private.LockedSegment.{IsNoKey}

pub written_ready : (a : About) (l : Known) (m s : ℕ) (p : Place) (n : ℕ) → Ready a l m s → is_place a.shape p ≡ true → IsNoKey p → Ready a
    (writing a l (lock_of l) p n) m s
written_ready a l m s p n r there no_key = record {
  held = refl;
  map = r.map;
  segment = r.segment;
  inside = r.inside;
  sized = length-set (lock_of l).copy (at a.shape p) n ∙ r.sized;
  known_is = λ e k.
      let q = r.known_is e k in (
        q.0,
        (
          q.1.0,
          (
            q.1.1.0,
            q.1.1.1,
            λ j lt.
                ap (λ (w : Place → ℕ). w (KeyWord m e j)) (wrote a.shape (lock_of l).copy p n r.sized there)
                ∙ (ap (λ (b : Bool). if b then n else mem a.shape (lock_of l).copy (KeyWord m e j)) (no_key m e j) ∙ q.1.1.2 j lt),
          ),
        ),
      );
}

pub mine : (a : About) (l : Known) (m s e : ℕ) → Ready a l m s → knows l m e ≡ true → IsMine a l m e
mine a l m s e r k = (r.map, (r.known_is e k).0)
