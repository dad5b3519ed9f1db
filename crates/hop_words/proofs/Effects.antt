-- An event that takes effect under a lock: its segment has to change its version, and the change remains to be written.
use Rattle.std.proofs.Common.{◌≡◌, ◌≢◌, ℕ, ◌<◌, ◌≤◌, true, true≢false, List, [], ◌∷◌, ◌++◌, Option, refl, ap, sym, subst, ◌∙◌, arith, ⊎_elim}
use Rattle.bpf_shared.specs.declared.events.Event.{Event}
use Rattle.bpf_shared.specs.Store.{put}
use Rattle.bpf_shared.specs.History.{entry}
use Rattle.hop_layout.specs.declared.place.Place.{Place}
use Rattle.hop_layout.specs.declared.place.Place.TheVariants.{Stamp}
use Rattle.hop_layout.specs.declared.about.About.{About}
use Rattle.hop_words.specs.declared.known.Known.{Known}
use Rattle.hop_words.specs.declared.known.Lock.{Lock}
use Rattle.hop_words.specs.declared.known.Change.{Change}
use Rattle.hop_words.specs.declared.known.Change.TheVariants.{Nothing}
use Rattle.hop_words.specs.Content.{words_by_place, one_if}
use Rattle.hop_words.specs.Ghost.{Holder, lane, Era, Ghost, lock_home, IsHomeIn}
use Rattle.hop_words.specs.Shortage.{is_done}
use Rattle.hop_words.specs.Rule.{Rule, Segment, Segments, Locking, Readings, Minded, Holds, changed, owed, Worn, Held, times_lock}
use Rattle.hop_words.proofs.Small.{here_or, put2-same, put2-other}
use Rattle.hop_words.proofs.Histories.{done_in-append}
use Rattle.hop_words.proofs.Segs.{Elsewhere, segments_step, locking_step, readings_step, held_step, lock_once}
use Rattle.hop_words.proofs.Locks.{holds, is_odd, low, alone}
use Rattle.hop_words.specs.Depths.{IsBorn, home_by}

-- what the event does to keys and holders, as far as others are concerned
pub record Effect (a : About) (depths : ℕ → ℕ → ℕ) (c : ℕ) (k : Lock) (change : Change) (linked linked' : ℕ → List ℕ → Option ℕ)
    (holder holder' : ℕ → ℕ → Holder) : Type 0 where
  pub owes : owed change ≡ 1
  pub keys : (n t : ℕ) (q : List ℕ) → IsBorn a depths n t → (n ≡ k.map → t ≢ k.segment) → home_by a n (depths n t) q ≡ t → linked' n q ≡ linked n q
  pub theirs : (n t b d : ℕ) → b ≢ c → IsBorn a depths n t → (n ≡ k.map → t ≢ k.segment) → Minded (home_by a n (depths n t)) b t
      (holder' n d) → Minded (home_by a n (depths n t)) b t (holder n d)
  pub mine : (d : ℕ) → Minded (lock_home a k) c k.segment (holder' k.map d) → Minded (lock_home a k) c k.segment (holder k.map d)
  pub due : (before : List ℕ → Option ℕ) → ((q : List ℕ) → IsHomeIn a k q → linked k.map q ≡ before q)
      → (q : List ℕ) → IsHomeIn a k q → linked' k.map q ≡ changed change before q

module _ (a : About) (l : Known) (k : Lock) (held : l.locks ≡ k ∷ []) (w : Place → ℕ) (g : Ghost) (r : Rule a w g)
    (is : lane g.lanes l.cpu ≡ l) (none : k.change ≡ Nothing)
    (change : Change) (linked' : ℕ → List ℕ → Option ℕ) (holder' : ℕ → ℕ → Holder)
    (ef : Effect a g.depths l.cpu k change g.linked linked' g.holder holder') where
  abbrev pub owing : Era
  owing = record { era = w (Stamp k.map k.segment); writer = l.cpu; dirty = true; credit = 1; old = (g.eras k.map k.segment).old }

  abbrev pub eras' : ℕ → ℕ → Era
  eras' = put g.eras k.map (put (g.eras k.map) k.segment owing)

  abbrev pub lock' : Lock
  lock' = record k { change = change; dirty = true }

  h : Holds a g.depths (words_by_place w) (λ n t. w (Stamp n t)) g.eras g.linked g.holder l.cpu k
  h = holds a l k held w g r is

  elsewhere : Elsewhere a g.depths k.map k.segment l.cpu (words_by_place w) (words_by_place w) (λ n t. w (Stamp n t)) (λ n t. w (Stamp n t))
      g.eras eras' g.linked linked' g.holder holder'
  elsewhere = record {
    stamps = λ n t off. refl;
    same_eras = λ n t ne. put2-other g.eras k.map k.segment n t owing ne;
    keys = ef.keys;
    heads = λ n t ne. refl;
    hops = λ n t b ne. refl;
    slots = λ n t b ne. refl;
    within = λ n t d q b ne home i. (refl, λ j. refl);
    minded = λ n t b d apart at_t ne mind. (ef.theirs n t b d apart at_t ne mind, refl, λ j. refl);
  }

  now_era : eras' k.map k.segment ≡ owing
  now_era = put2-same g.eras k.map k.segment k.map k.segment owing refl refl

  own_lock : Holds a g.depths (words_by_place w) (λ n t. w (Stamp n t)) eras' linked' holder' l.cpu lock'
  own_lock = record {
    inside = h.inside;
    deep = h.deep;
    even = h.even;
    locked = h.locked;
    writer = ap (λ (y : Era). y.writer) now_era;
    dirty = ap (λ (y : Era). y.dirty) now_era;
    credit = ap (λ (y : Era). y.credit) now_era ∙ sym ef.owes;
    untouched = λ d. absurd (true≢false d);
    sized = h.sized;
    copied = record {
      head = h.copied.head;
      hop = h.copied.hop;
      slot = h.copied.slot;
      link = λ d on. h.copied.link d (ef.mine d on);
      key = λ d j on. h.copied.key d j (ef.mine d on);
    };
    beside = h.beside;
    beside_stamp = h.beside_stamp;
    due = (h.due.0, h.due.1, λ q home. ef.due h.due.0 (λ p there. h.due.2 p there ∙ ap (λ y. changed y h.due.0 p) none) q home);
  }

  pub effect_segments : Segments a g.depths (words_by_place w) (λ n t. w (Stamp n t)) eras' linked'
  effect_segments = segments_step a g.depths k.map k.segment l.cpu (words_by_place w) (words_by_place w) _ _ g.eras eras' g.linked linked'
      g.holder holder' elsewhere r.deep.sound h.inside r.segments r.linked
      (subst (λ (y : Era). Segment a g.depths (words_by_place w) (w (Stamp k.map k.segment)) y k.map k.segment (linked' k.map)) (sym now_era) (record {
        at_rest = λ even. absurd (let o = is_odd a l k held w g r is in omega arith);
        clean = λ d. absurd (true≢false d);
        written = λ d. refl;
        shows = λ d. absurd (true≢false d);
      }))

  pub effect_locking : Locking a g.depths (words_by_place w) (λ n t. w (Stamp n t)) eras' linked' holder' (put g.lanes.locks l.cpu (lock' ∷ []))
  effect_locking = locking_step a g.depths k.map k.segment l.cpu (words_by_place w) (words_by_place w) _ _ g.eras eras' g.linked linked'
      g.holder holder' elsewhere r.deep.sound h.inside g.lanes.locks (lock' ∷ []) r.locking (alone a l k held w g r is) (own_lock, tt)

  pub effect_reading : Readings a g.depths eras' g.lanes.readings
  effect_reading = readings_step a g.depths k.map k.segment g.eras eras' g.lanes.readings (record {
    same_eras = λ n t ne. put2-other g.eras k.map k.segment n t owing ne;
    up = subst (λ (y : Era). (g.eras k.map k.segment).era ≤ y.era) (sym now_era) (low a l k held w g r is);
    stays = λ i even le eq. absurd (let o = is_odd a l k held w g r is in let z = eq ∙ ap (λ (y : Era). y.era) now_era in omega arith);
  }) r.reading

  pub effect_held : l.cpu < a.shape.cpus → Held a g.depths (λ n t. w (Stamp n t)) eras' (put g.lanes.locks l.cpu (lock' ∷ []))
  effect_held inside = held_step a g.depths k.map k.segment l.cpu _ _ g.eras eras' g.lanes.locks (lock' ∷ []) inside r.held
      (λ odd. (ap (λ (y : Era). y.writer) now_era, (let z = lock_once lock' in omega arith)))
      (λ n t _ ne. (refl, put2-other g.eras k.map k.segment n t owing ne, ap (times_lock n t) (sym (ap (λ (z : Known). z.locks) is ∙ held))))

  pub effect_worn : (e : Event) → is_done k.map e ≡ true → Worn a g.depths (λ n t. w (Stamp n t)) eras' (g.log ++ entry l.cpu e ∷ [])
  effect_worn e done n t at_s = ⊎_elim
      (λ (i : (n ≡ k.map) × (t ≡ k.segment)).
      let z = ap (λ (y : Era). y.credit) (put2-same g.eras k.map k.segment n t owing i.0 i.1) in
      let old_credit : (g.eras n t).credit ≡ 0 = ap (λ (y : Era). y.credit) (λ j. g.eras (i.0 j) (i.1 j)) ∙ (h.credit ∙ ap (λ y. owed y) none) in
      let one : one_if (is_done n e) ≡ 1 = ap (λ j. one_if (is_done j e)) i.0 ∙ ap one_if done in
      let sum = done_in-append n g.log (entry l.cpu e ∷ []) in
      let b = r.worn n t at_s in
      omega arith)
      (λ (ne : n ≡ k.map → t ≢ k.segment).
      let z = ap (λ (y : Era). y.credit) (put2-other g.eras k.map k.segment n t owing ne) in
      let sum = done_in-append n g.log (entry l.cpu e ∷ []) in
      let b = r.worn n t at_s in
      omega arith)
      (here_or k.map n k.segment t)
