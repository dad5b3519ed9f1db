-- Words that stay differ in what their lock has written alone.
use Rattle.std.proofs.Common.{◌≡◌, List, [], ◌∷◌, ap, ◌∙◌}
use Rattle.hop_words.specs.declared.known.Lock.{Lock}
use Rattle.hop_words.specs.Locking.{lock_of}
use Rattle.hop_map.specs.LockedSegment.{Locked, Stays}

pub stays_is : (x z : Locked) → Stays x z → z.known.locks ≡ lock_of z.known ∷ []
    → z ≡ record x { known = record x.known { locks = record (lock_of x.known) { copy = (lock_of z.known).copy; dirty = (lock_of z.known).dirty } ∷ [] } }
stays_is x z st held = λ j. record {
  table = st.table j;
  about = st.about j;
  map = st.map j;
  segment = st.segment j;
  known = (st.known ∙ ap (λ (ks : List Lock). record x.known { locks = ks }) (held ∙ ap (λ (q : Lock). q ∷ []) st.lock)) j;
}
