-- Claim bit, give bit, fill word, retire, see bits.
use Rattle.std.proofs.Common.{◌≡◌, ◌≢◌, ℕ, ◌-◌, ◌/◌, ◌%◌, ◌^◌, ◌<◌, Bool, true, false, ◌&&◌, List, [], ◌∷◌, Option, ◌==◌, refl, ap, sym}
use Rattle.std.proofs.Common.{subst, ◌∙◌, arith, eq-eqb, ne_eqb, ⊎_elim, inl, inr, ◌⊎◌, bit_and, ◌≤◌}
use Rattle.std.proofs.lemmas.Nat.Bits.{bit_at_and, bit_at-lt, bit_at-pow_same, bit_at-pow_other, bit_at_not, bit_at_above, same_from_bits}
use Rattle.std.proofs.Math.Pow.{pow-lt}
use Rattle.std.specs.Int.{bit_at, w64}
use Rattle.std.proofs.lemmas.Bool.{cases_eq}
use native.Mathlib.Decide.{ℕ_discrete, dec_lt}
use mathlib.Core.Logic.{dite}
use Rattle.bpf_shared.specs.declared.events.Event.{Event}
use Rattle.bpf_shared.specs.Store.{Value, put}
use Rattle.bpf_shared.specs.Shape.{element_span}
use Rattle.bpf_shared.specs.History.{events_of}
use Rattle.bpf_shared.specs.Own.{in_run}
use Rattle.bpf_shared.proofs.Puts.{put-same, put-other}
use Rattle.hop_layout.specs.declared.place.Place.{Place}
use Rattle.hop_layout.specs.declared.place.Place.TheVariants.{FreeBits, Stamp, KeyWord, ValueWord}
use Rattle.hop_layout.specs.declared.about.About.{About}
use Rattle.hop_words.specs.declared.known.Known.{Known}
use Rattle.hop_words.specs.declared.known.Fresh.{Fresh}
use Rattle.hop_words.specs.declared.known.Lock.{Lock}
use Rattle.hop_layout.specs.Layout.{mem, put_at}
use Rattle.hop_words.specs.Content.{MapWords, words_by_place, one_if}
use Rattle.hop_words.specs.Ghost.{Holder, Free, Filling, Leaving, Within, is_free, is_filling, is_leaving, Carries, lane, Era, Ghost}
use Rattle.hop_words.specs.Ghost.{shape_at, HasElement, Each, lock_home}
use Rattle.hop_words.specs.Rule.{Rule, Took, times_fresh, taken_at, begun_in, Linked, StartsWith, Minded, Holds, Locking, Valued}
use Rattle.hop_words.specs.Shortage.{updates_of, updates_in, HasHadValue}
use Rattle.hop_words.specs.Private.Step.{Next, Steps}
use Rattle.hop_words.specs.Kinds.{holding}
use Rattle.hop_words.proofs.Small.{here_or, put2-same, put2-other}
use Rattle.hop_words.proofs.Histories.{prefix_refl}
use Rattle.hop_words.proofs.Shortages.{begun_take, causes_made, hand_more}
use Rattle.hop_words.proofs.Stays.{next_as}
use Rattle.hop_words.proofs.Comes.{moved}
use Rattle.hop_words.proofs.Segs.{agrees_on}
use Rattle.hop_words.proofs.Locks.{put_here, put_else}

-- ---- bits
-- the bits of the elements, where one word of them changed at one bit
pub bits_step : (a : About) (w : Place → ℕ) (holder : ℕ → ℕ → Holder) (m e x : ℕ) (y : Holder) →
    ((n d : ℕ) → HasElement a n d → bit_at (w (FreeBits n (d / 64))) (d % 64) ≡ one_if (is_free (holder n d)))
    → ((j : ℕ) → j < 64 → j ≢ e % 64 → bit_at x j ≡ bit_at (w (FreeBits m (e / 64))) j) → bit_at x (e % 64) ≡ one_if (is_free y)
    → (n d : ℕ) → HasElement a n d → bit_at (put_at w (FreeBits m (e / 64)) x (FreeBits n (d / 64))) (d % 64) ≡ one_if
    (is_free (put holder m (put (holder m) e y) n d))
bits_step a w holder m e x y p others own n d l = ⊎_elim
    (λ (h : (n ≡ m) × (d ≡ e)).
    ap (λ (k : ℕ). bit_at k (d % 64)) ((λ j. put_at w (FreeBits m (e / 64)) x (FreeBits (h.0 j) (h.1 j / 64))) ∙ put_here w (FreeBits m (e / 64)) x)
    ∙ (ap (λ (k : ℕ). bit_at x (k % 64)) h.1 ∙ (own ∙ ap (λ z. one_if (is_free z)) (sym (put2-same holder m e n d y h.0 h.1)))))
    (λ (ne : n ≡ m → d ≢ e). ⊎_elim
    (λ (h : (n ≡ m) × (d / 64 ≡ e / 64)).
    let apart : d % 64 ≢ e % 64 = λ q. ne h.0 (let z = h.1 in omega arith) in
    ap (λ (k : ℕ). bit_at k (d % 64)) ((λ j. put_at w (FreeBits m (e / 64)) x (FreeBits (h.0 j) (h.1 j))) ∙ put_here w (FreeBits m (e / 64)) x)
    ∙ (others (d % 64) (omega arith) apart ∙ (ap (λ (k : ℕ). bit_at k (d % 64)) (λ j. w (FreeBits (sym h.0 j) (sym h.1 j))) ∙
    (p n d l ∙ ap (λ z. one_if (is_free z)) (sym (put2-other holder m e n d y ne))))))
    (λ (nw : n ≡ m → d / 64 ≢ e / 64).
    ap (λ (k : ℕ). bit_at k (d % 64)) (put_else w (FreeBits m (e / 64)) (FreeBits n (d / 64)) x (λ q. nw (ap map_of q) (ap word_of q)))
    ∙ (p n d l ∙ ap (λ z. one_if (is_free z)) (sym (put2-other holder m e n d y ne))))
    (here_or m n (e / 64) (d / 64)))
    (here_or m n e d)
  where
    map_of : Place → ℕ
    map_of (FreeBits m i) = m
    map_of p = 0

    word_of : Place → ℕ
    word_of (FreeBits m i) = i
    word_of p = 0

-- ---- holders that are in no map, before and after
module _ (a : About) (holder : ℕ → ℕ → Holder) (m e : ℕ) (x y : Holder) (was : holder m e ≡ x) where
  abbrev pub holder' : ℕ → ℕ → Holder
  holder' = put holder m (put (holder m) e y)

  pub linked_outside : (linked : ℕ → List ℕ → Option ℕ) → ((q : List ℕ) → x ≡ Within q → ⊥) → ((q : List ℕ) → y ≡ Within q → ⊥) → Linked a
      linked holder → Linked a linked holder'
  linked_outside linked nx ny p = record {
    within = λ n q d is. let k = p.within n q d is in (
      k.0,
      put2-other holder m e n d y
          (λ t u. nx _ (sym was ∙ ((λ j. holder (sym t j) (sym u j)) ∙ k.1))) ∙ k.1,
    );
    leads = λ n d s l is. ⊎_elim
        (λ (h : (n ≡ m) × (d ≡ e)). absurd (ny s (sym (put2-same holder m e n d y h.0 h.1) ∙ is)))
        (λ (ne : n ≡ m → d ≢ e). p.leads n d s l (sym (put2-other holder m e n d y ne) ∙ is))
        (here_or m n e d);
  }

  pub valued_outside : (words : ℕ → ℕ → ℕ → ℕ) (made : ℕ) (value : ℕ → Value) (held : ℕ → ℕ → Bool) (number : ℕ → ℕ → ℕ) → (Carries y → ⊥) →
      ((c : ℕ) → held c (number m e) ≡ true → Carries x → ⊥)
      → Valued a words made value held holder number → Valued a words made value held holder' number
  valued_outside words made value held number ny free p = record {
    lies = λ n d l has. p.lies n d l (subst Carries (put2-other holder m e n d y (away n d has)) has);
    older = λ n d l has. p.older n d l (subst Carries (put2-other holder m e n d y (away n d has)) has);
    held_in = λ c v h. let k = p.held_in c v h in (
      k.0,
      k.1,
      k.2,
      subst Carries (sym (put2-other holder m e k.0 k.1 y
          (λ t u. free c (ap (held c) ((λ j. number (sym t j) (sym u j)) ∙ k.4) ∙ h)
          (subst Carries ((λ j. holder (t j) (u j)) ∙ was) k.3)))) k.3,
      k.4,
    );
  }
    where
      away : (n d : ℕ) → Carries (holder' n d) → n ≡ m → d ≢ e
      away n d has t u = ny (subst Carries (put2-same holder m e n d y t u) has)

  pub locking_outside : (depths : ℕ → ℕ → ℕ) (xw : MapWords) (stamp : ℕ → ℕ → ℕ) (eras : ℕ → ℕ → Era) (linked : ℕ → List ℕ → Option ℕ)
      (locks : ℕ → List Lock) → ((b : ℕ) → (locks b ≡ []) ⊎ ((home : List ℕ → ℕ) (t : ℕ) → Minded home b t y → Minded home b t x))
      → Locking a depths xw stamp eras linked holder locks → Locking a depths xw stamp eras linked holder' locks
  locking_outside depths xw stamp eras linked locks fewer p b = ⊎_elim
      (λ (none : locks b ≡ []). subst (Each (Holds a depths xw stamp eras linked holder' b)) (sym none) tt)
      (λ (less : (home : List ℕ → ℕ) (t : ℕ) → Minded home b t y → Minded home b t x). go less (locks b) (p b))
      (fewer b)
    where
      go : ((home : List ℕ → ℕ) (t : ℕ) → Minded home b t y → Minded home b t x) → (ks : List Lock) → Each
          (Holds a depths xw stamp eras linked holder b) ks → Each (Holds a depths xw stamp eras linked holder' b) ks
      go less [] q = tt
      go less (k ∷ ks) q = (
        record {
          inside = q.0.inside;
          deep = q.0.deep;
          even = q.0.even;
          locked = q.0.locked;
          writer = q.0.writer;
          dirty = q.0.dirty;
          credit = q.0.credit;
          untouched = q.0.untouched;
          sized = q.0.sized;
          copied = agrees_on k.map k.segment _ _ xw xw _ q.0.copied refl (λ j. refl) (λ j. refl)
              (λ d on. (mind (lock_home a k) k.map k.segment d on, refl, λ j. refl));
          beside = q.0.beside;
          beside_stamp = q.0.beside_stamp;
          due = q.0.due;
        },
        go less ks q.1,
      )
        where
          mind : (home : List ℕ → ℕ) (n t d : ℕ) → Minded home b t (holder' n d) → Minded home b t (holder n d)
          mind home n t d on = ⊎_elim
              (λ (h : (n ≡ m) × (d ≡ e)). subst (Minded home b t) (sym ((λ j. holder (h.0 j) (h.1 j)) ∙ was))
              (less home t (subst (Minded home b t) (put2-same holder m e n d y h.0 h.1) on)))
              (λ (ne : n ≡ m → d ≢ e). subst (Minded home b t) (put2-other holder m e n d y ne) on)
              (here_or m n e d)

-- ---- claim bit
mask_other : (x mask j : ℕ) → bit_at mask j ≡ 1 → bit_at (bit_and x mask) j ≡ bit_at x j
mask_other x mask j one = bit_at_and x mask j ∙ (let z = bit_at-lt x j in let o = one in omega arith)

mask_own : (x mask j : ℕ) → bit_at mask j ≡ 0 → bit_at (bit_and x mask) j ≡ 0
mask_own x mask j none = bit_at_and x mask j ∙ (let o = none in omega arith)

pub mask_bits : (b j : ℕ) → b < 64 → j < 64 → bit_at (2 ^ 64 - 1 - 2 ^ b) j ≡ 1 - bit_at (2 ^ b) j
mask_bits b j lb lj = bit_at_not w64 (2 ^ b) j (pow-lt lb) lj

-- a bit that is clear is cleared: the word is as it was
pub mask_kept : (n b : ℕ) → n < 18446744073709551616 → b < 64 → bit_at n b ≡ 0 → bit_and n (2 ^ 64 - 1 - 2 ^ b) ≡ n
mask_kept n b fits lb none = same_from_bits (bit_and n (2 ^ 64 - 1 - 2 ^ b)) n bit
  where
    bit : (i : ℕ) → bit_at (bit_and n (2 ^ 64 - 1 - 2 ^ b)) i ≡ bit_at n i
    bit i = ⊎_elim
        (λ (t : i ≡ b). mask_own n (2 ^ 64 - 1 - 2 ^ b) i (subst (λ (j : ℕ). bit_at (2 ^ 64 - 1 - 2 ^ b) j ≡ 0) (sym t)
        (mask_bits b b lb lb ∙ (let z = bit_at-pow_same b in omega arith))) ∙ sym (subst (λ (j : ℕ). bit_at n j ≡ 0) (sym t) none))
        (λ (ne : i ≢ b). dite (dec_lt i 64)
        (λ (few : i < 64). mask_other n (2 ^ 64 - 1 - 2 ^ b) i (mask_bits b i lb few ∙ (let z = bit_at-pow_other b i ne in omega arith)))
        (λ many. let z : bit_at n i ≡ 0 = bit_at_above n 64 i fits (omega arith) in bit_at_and n (2 ^ 64 - 1 - 2 ^ b) i ∙ (omega arith)))
        (cases_eq i b)

module _ (a : About) (l : Known) (m e : ℕ) (at_e : HasElement a m e) (ws : List ℕ) (g : Ghost) (r : Rule a (mem a.shape ws) g)
    (is : lane g.lanes l.cpu ≡ l) (inside : l.cpu < a.shape.cpus) where
  abbrev cw : Place → ℕ
  cw = mem a.shape ws

  abbrev mask : ℕ
  mask = 2 ^ 64 - 1 - 2 ^ (e % 64)

  -- the number of the update that takes it
  abbrev at_update : ℕ
  at_update = updates_of m (events_of l.cpu l.seen)

  abbrev new_fresh : Fresh
  new_fresh = record { map = m; element = e; update = updates_of m (events_of l.cpu l.seen); key = []; value = [] }

  -- a free element becomes one that the lane fills
  claim_next : l.fresh ≡ [] → l.locks ≡ [] → in_run (events_of l.cpu l.seen) ≡ true → g.holder m e ≡ Free → Next a
      (put_at cw (FreeBits m (e / 64)) (bit_and (cw (FreeBits m (e / 64))) mask)) g l.cpu (λ l'. l' ≡ holding l m e)
  claim_next none unlocked runs was = record {
    ghost = g2;
    rule = record {
      shaped = r.shaped;
      fixed = r.fixed;
      deep = r.deep;
      logged = r.logged;
      keyed = r.keyed;
      worn = r.worn;
      runs = r.runs;
      batched = r.batched;
      owned = record {
        bits = bits_step a cw g.holder m e _ (Filling l.cpu) r.owned.bits
            (λ j lj ne. mask_other (cw (FreeBits m (e / 64))) mask j
            (mask_bits (e % 64) j (omega arith) lj ∙ (let z = bit_at-pow_other (e % 64) j ne in omega arith)))
            (mask_own (cw (FreeBits m (e / 64))) mask (e % 64) (mask_bits (e % 64) (e % 64) (omega arith) (omega arith) ∙
            (let z = bit_at-pow_same (e % 64) in omega arith)));
        fresh_is = λ b n d inb l2. ⊎_elim
            (λ (t : b ≡ l.cpu). subst (λ z. times_fresh n d (put g.lanes.fresh l.cpu fresh2 z) ≡ one_if (is_filling z (holder2 n d)))
            (sym t) (ap (times_fresh n d) (put-same g.lanes.fresh l.cpu l.cpu fresh2 refl) ∙ own n d l2))
            (λ (ne : b ≢ l.cpu). ap (times_fresh n d) (put-other g.lanes.fresh l.cpu b fresh2 ne) ∙
            (r.owned.fresh_is b n d inb l2 ∙ sym (moved (λ z. one_if (is_filling b z)) g.holder m e Free (Filling l.cpu) was
            (ap one_if (ne_eqb l.cpu b (λ (q : l.cpu ≡ b). ne (sym q)))) n d)))
            (cases_eq b l.cpu);
        limbo_is = λ b n d inb l2. r.owned.limbo_is b n d inb l2 ∙ sym (moved (λ z. one_if (is_leaving b z)) g.holder m e Free (Filling l.cpu) was refl n d);
      };
      linked = linked_outside a g.holder m e Free (Filling l.cpu) was g.linked (λ s q. cc) (λ s q. cc) r.linked;
      filled = λ c inc. ⊎_elim
          (λ (t : c ≡ l.cpu). subst (Each Has) (sym (put-same g.lanes.fresh l.cpu c fresh2 t))
          (((λ j lt. absurd (omega arith)), (λ j lt. absurd (omega arith))), r.filled l.cpu inside))
          (λ (ne : c ≢ l.cpu). subst (Each Has) (sym (put-other g.lanes.fresh l.cpu c fresh2 ne)) (r.filled c inc))
          (cases_eq c l.cpu);
      segments = r.segments;
      locking = locking_outside a g.holder m e Free (Filling l.cpu) was g.depths (words_by_place cw) (λ n t. cw (Stamp n t)) g.eras g.linked g.lanes.locks
          (λ b. ⊎_elim (λ (t : b ≡ l.cpu). inl (ap g.lanes.locks t ∙ (ap (λ (z : Known). z.locks) is ∙ unlocked)))
          (λ (ne : b ≢ l.cpu). inr (λ home t on. absurd (ne (sym on)))) (cases_eq b l.cpu)) r.locking;
      reading = r.reading;
      held = r.held;
      valued = valued_outside a g.holder m e Free (Filling l.cpu) was _ g.last.made g.last.value g.last.held g.number (λ z. z) (λ c h z. z) r.valued;
      shown = record {
        causes = causes_made a.shape a.version (begun_in g.log g.lanes.fresh) (begun_in g.log fresh') g.log g.last (λ n d _. takes n d) r.shown.causes;
        running = λ d. ⊎_elim
            (λ (t : d ≡ l.cpu). inr (subst (λ (i : ℕ). in_run (events_of i g.log) ≡ true) (sym t) run))
            (λ (ne : d ≢ l.cpu). subst (λ (fs : List Fresh). (fs ≡ []) ⊎ (in_run (events_of d g.log) ≡ true))
            (sym (put-other g.lanes.fresh l.cpu d fresh2 ne)) (r.shown.running d))
            (cases_eq d l.cpu);
        took = λ n d at_d held. ⊎_elim
            (λ (h : (n ≡ m) × (d ≡ e)). (
              own_took n d h.0 h.1,
              λ c q.
                  let who : Filling l.cpu ≡ Filling c = sym (put2-same g.holder m e n d (Filling l.cpu) h.0 h.1) ∙ q in let same : l.cpu ≡ c = cc in same,
            ))
            (λ (ne : n ≡ m → d ≢ e).
            let k = r.shown.took n d at_d (λ (free : g.holder n d ≡ Free). held (put2-other g.holder m e n d (Filling l.cpu) ne ∙ free)) in
            (still n d k.0, λ c q. k.1 c (sym (put2-other g.holder m e n d (Filling l.cpu) ne) ∙ q)))
            (here_or m n e d);
        taken = λ b n d inb at_d seen. ⊎_elim
            (λ (k : (t : Took a g.log g.lanes.fresh g.taker n d) × (HasHadValue g.last (element_span n (shape_at a n) d) ⊎ (t.cpu ≢ b))).
            inl (still n d k.0, k.1))
            (λ (has : 1 ≤ times_fresh n d (g.lanes.fresh b)). inr (hand_more g.lanes.fresh l.cpu new_fresh b n d has))
            (r.shown.taken b n d inb at_d seen);
      };
    };
    others = λ d ne. rw (ne_eqb d l.cpu ne) refl;
    longer = prefix_refl g.log;
    tally = refl;
    says = rw (eq-eqb l.cpu l.cpu refl) (ap (λ (z : Known). record z { fresh = new_fresh ∷ z.fresh }) is);
  }
    where
      fresh2 : List Fresh
      fresh2 = new_fresh ∷ g.lanes.fresh l.cpu

      holder2 : ℕ → ℕ → Holder
      holder2 = put g.holder m (put (g.holder m) e (Filling l.cpu))

      taker2 : ℕ → ℕ → ℕ → ℕ
      taker2 = put g.taker m (put (g.taker m) l.cpu (put (g.taker m l.cpu) at_update e))

      g2 : Ghost
      g2 = record g { lanes = record g.lanes { fresh = put g.lanes.fresh l.cpu fresh2 }; holder = holder2; taker = taker2 }

      fresh' : ℕ → List Fresh
      fresh' = put g.lanes.fresh l.cpu fresh2

      own_log : events_of l.cpu l.seen ≡ events_of l.cpu g.log
      own_log = ap (events_of l.cpu) (sym (ap (λ (z : Known). z.seen) is)) ∙ r.logged.own l.cpu inside

      run : in_run (events_of l.cpu g.log) ≡ true
      run = subst (λ (es : List Event). in_run es ≡ true) own_log runs

      at_is : at_update ≡ updates_in g.log m l.cpu
      at_is = ap (updates_of m) own_log

      no_hand : g.lanes.fresh l.cpu ≡ []
      no_hand = ap (λ (z : Known). z.fresh) is ∙ none

      takes : (n d : ℕ) → begun_in g.log g.lanes.fresh n d ≤ begun_in g.log fresh' n d
      takes = begun_take g.log g.lanes.fresh l.cpu fresh2 no_hand

      own_took : (n d : ℕ) → n ≡ m → d ≡ e → Took a g.log fresh' taker2 n d
      own_took n d at_m at_e2 = record {
        cpu = l.cpu;
        update = at_update;
        inside = inside;
        this = ap (λ (h : ℕ → ℕ). h at_update) (put2-same g.taker m l.cpu n l.cpu (put (g.taker m l.cpu) at_update e) at_m refl) ∙
            (put-same (g.taker m l.cpu) at_update at_update e refl ∙ sym at_e2);
        begun = subst (λ (i : ℕ). at_update < begun_in g.log fresh' i l.cpu) (sym at_m)
            (let here : taken_at m (updates_in g.log m l.cpu) (fresh' l.cpu) ≡ 1 = ap (taken_at m (updates_in g.log m l.cpu)) (put-same g.lanes.fresh l.cpu l.cpu fresh2 refl) ∙ rw (eq-eqb m m refl, eq-eqb at_update (updates_in g.log m l.cpu) at_is) refl in
            let s = at_is in omega arith);
      }

      -- what took another element before is another update
      still : (n d : ℕ) → Took a g.log g.lanes.fresh g.taker n d → Took a g.log fresh' taker2 n d
      still n d t = record {
        cpu = t.cpu;
        update = t.update;
        inside = t.inside;
        this = ⊎_elim
            (λ (h : (n ≡ m) × (t.cpu ≡ l.cpu)).
            ap (λ (f : ℕ → ℕ). f t.update) (put2-same g.taker m l.cpu n t.cpu (put (g.taker m l.cpu) at_update e) h.0 h.1)
            ∙ (put-other (g.taker m l.cpu) at_update t.update e (λ (q : t.update ≡ at_update). later h.0 h.1 q) ∙
            ((λ j. g.taker (sym h.0 j) (sym h.1 j) t.update) ∙ t.this)))
            (λ (ne : n ≡ m → t.cpu ≢ l.cpu). ap (λ (f : ℕ → ℕ). f t.update)
            (put2-other g.taker m l.cpu n t.cpu (put (g.taker m l.cpu) at_update e) ne) ∙ t.this)
            (here_or m n l.cpu t.cpu);
        begun = (let b = t.begun in let k = takes n t.cpu in omega arith);
      }
        where
          later : n ≡ m → t.cpu ≡ l.cpu → t.update ≡ at_update → ⊥
          later at_m at_c q =
              let b : t.update < begun_in g.log g.lanes.fresh m l.cpu = subst (λ (i : ℕ). t.update < begun_in g.log g.lanes.fresh i l.cpu)
              at_m (subst (λ (i : ℕ). t.update < begun_in g.log g.lanes.fresh n i) at_c t.begun) in
              let z : taken_at m (updates_in g.log m l.cpu) (g.lanes.fresh l.cpu) ≡ 0 = ap (taken_at m (updates_in g.log m l.cpu)) no_hand in
              let s = at_is in
              omega arith

      Has : Fresh → Type 0
      Has y = StartsWith y.key (λ j. cw (KeyWord y.map y.element j)) × StartsWith y.value (λ j. cw (ValueWord y.map y.element j))

      own : (n d : ℕ) → HasElement a n d → times_fresh n d fresh2 ≡ one_if (is_filling l.cpu (holder2 n d))
      own n d l2 =
          let q = r.owned.fresh_is l.cpu n d inside l2 in
          ⊎_elim
          (λ (t : (n ≡ m) × (d ≡ e)).
          let one : one_if ((m == n) && (e == d)) ≡ 1 = rw (t.0, t.1, eq-eqb m m refl, eq-eqb e e refl) refl in
          let zero_now : one_if (is_filling l.cpu (g.holder n d)) ≡ 0 = ap (λ z. one_if (is_filling l.cpu z)) ((λ j. g.holder (t.0 j) (t.1 j)) ∙ was) in
          let new : one_if (is_filling l.cpu (holder2 n d)) ≡ 1 = ap (λ z. one_if (is_filling l.cpu z))
          (put2-same g.holder m e n d (Filling l.cpu) t.0 t.1) ∙ ap one_if (eq-eqb l.cpu l.cpu refl) in
          omega arith)
          (λ (ne : n ≡ m → d ≢ e).
          let none : one_if ((m == n) && (e == d)) ≡ 0 = differ n d ne in
          let new : one_if (is_filling l.cpu (holder2 n d)) ≡ one_if (is_filling l.cpu (g.holder n d)) = ap
          (λ z. one_if (is_filling l.cpu z)) (put2-other g.holder m e n d (Filling l.cpu) ne) in
          omega arith)
          (here_or m n e d)
        where
          and_false : (z : Bool) → z && false ≡ false
          and_false true = refl
          and_false false = refl

          differ : (n d : ℕ) → (n ≡ m → d ≢ e) → one_if ((m == n) && (e == d)) ≡ 0
          differ n d ne = ap one_if (⊎_elim
              (λ (t : n ≡ m). ap (λ (z : Bool). (m == n) && z) (ne_eqb e d (λ (q : e ≡ d). ne t (sym q))) ∙ and_false (m == n))
              (λ (nd : n ≢ m). ap (λ (z : Bool). z && (e == d)) (ne_eqb m n (λ (q : m ≡ n). nd (sym q))))
              (cases_eq n m))

  free_or : bit_at (cw (FreeBits m (e / 64))) (e % 64) ≡ 1 → g.holder m e ≡ Free
  free_or one = go (g.holder m e) refl (sym (r.owned.bits m e at_e) ∙ one)
    where
      go : (x : Holder) → g.holder m e ≡ x → one_if (is_free (g.holder m e)) ≡ 1 → g.holder m e ≡ Free
      go Free q o = q
      go (Filling d) q o = absurd (let z : one_if (is_free (g.holder m e)) ≡ 0 = ap (λ y. one_if (is_free y)) q in omega arith)
      go (Leaving d) q o = absurd (let z : one_if (is_free (g.holder m e)) ≡ 0 = ap (λ y. one_if (is_free y)) q in omega arith)
      go (Within d) q o = absurd (let z : one_if (is_free (g.holder m e)) ≡ 0 = ap (λ y. one_if (is_free y)) q in omega arith)

  -- a bit that was clear stays clear, and so do all others
  miss_next : bit_at (cw (FreeBits m (e / 64))) (e % 64) ≡ 0 → (told : Known → Type 0) → told l → Next a
      (put_at cw (FreeBits m (e / 64)) (bit_and (cw (FreeBits m (e / 64))) mask)) g l.cpu told
  miss_next none told t = record {
    ghost = g;
    rule = record {
      shaped = r.shaped;
      fixed = r.fixed;
      deep = r.deep;
      logged = r.logged;
      keyed = r.keyed;
      worn = r.worn;
      runs = r.runs;
      batched = r.batched;
      owned = record {
        bits = λ n d l2. subst (λ (h : ℕ → ℕ → Holder). bit_at (put_at cw (FreeBits m (e / 64)) (bit_and (cw (FreeBits m (e / 64))) mask)
            (FreeBits n (d / 64))) (d % 64) ≡ one_if (is_free (h n d))) again
            (bits_step a cw g.holder m e _ (g.holder m e) r.owned.bits
            (λ j lj ne. mask_other (cw (FreeBits m (e / 64))) mask j
            (mask_bits (e % 64) j (omega arith) lj ∙ (let z = bit_at-pow_other (e % 64) j ne in omega arith)))
            (mask_own (cw (FreeBits m (e / 64))) mask (e % 64) (mask_bits (e % 64) (e % 64) (omega arith) (omega arith) ∙
            (let z = bit_at-pow_same (e % 64) in omega arith)) ∙ (sym none ∙ r.owned.bits m e at_e))
            n d l2);
        fresh_is = r.owned.fresh_is;
        limbo_is = r.owned.limbo_is;
      };
      linked = r.linked;
      filled = r.filled;
      segments = r.segments;
      locking = r.locking;
      reading = r.reading;
      held = r.held;
      valued = r.valued;
      shown = r.shown;
    };
    others = λ d ne. refl;
    longer = prefix_refl g.log;
    tally = refl;
    says = subst told (sym is) t;
  }
    where
      again : put g.holder m (put (g.holder m) e (g.holder m e)) ≡ g.holder
      again = λ i n d. ⊎_elim
          (λ (h : (n ≡ m) × (d ≡ e)). put2-same g.holder m e n d (g.holder m e) h.0 h.1 ∙ (λ j. g.holder (sym h.0 j) (sym h.1 j)))
          (λ (ne : n ≡ m → d ≢ e). put2-other g.holder m e n d (g.holder m e) ne)
          (here_or m n e d) i

pub claim_bit : (a : About) (l : Known) (m e : ℕ) → HasElement a m e → l.fresh ≡ [] → l.locks ≡ [] → in_run (events_of l.cpu l.seen) ≡ true
    → Steps a l (FreeBits m (e / 64)) (λ n. bit_and n (2 ^ 64 - 1 - 2 ^ (e % 64)))
    (λ ws n l'. (bit_at n (e % 64) ≡ 1 → l' ≡ holding l m e) × (bit_at n (e % 64) ≡ 0 → l' ≡ l))
claim_bit a l m e at_e empty unlocked runs ws g sized r is inside fits = dite (ℕ_discrete (bit_at (w (FreeBits m (e / 64))) (e % 64)) 1)
    (λ one. next_as _ _ _ _ _ _ (λ q t. ((λ _. t), (λ z. absurd (omega arith))))
    (claim_next a l m e at_e ws g r is inside empty unlocked runs (free_or a l m e at_e ws g r is inside one)))
    (λ ne. miss_next a l m e at_e ws g r is inside (let z = bit_at-lt (w (FreeBits m (e / 64))) (e % 64) in grind arith) _
    ((λ one. absurd (ne one)), (λ _. refl)))
  where
    w : Place → ℕ
    w = mem a.shape ws
