-- Give bit of the old batch, retire, fill word.
use Rattle.std.proofs.Common.{◌≡◌, ◌≢◌, ℕ, ◌+◌, ◌/◌, ◌%◌, ◌^◌, ◌<◌, ◌≤◌, Bool, true, false, true≢false, List, [], ◌∷◌, Option, ◌==◌, length}
use Rattle.std.proofs.Common.{set, slice_index, refl, ap, sym, subst, ◌∙◌, arith, eq-eqb, ne_eqb, ⊎_elim, inr, ◌*◌, bit_and, bit_or}
use Rattle.std.proofs.lemmas.Bool.Decides.{nat_tests}
use Rattle.std.specs.Int.{bit_at}
use Rattle.std.proofs.lemmas.Nat.{or_disjoint, or_lt, pow_below}
use Rattle.std.proofs.lemmas.Nat.Bits.{and_pow, bit_at_or, bit_at-lt, bit_at-pow_same, bit_at-pow_other}
use Rattle.hop_layout.proofs.Births.{mod_small}
use Rattle.std.proofs.lemmas.Bool.{cases_lt, cases_eq}
use Rattle.bpf_shared.specs.Store.{put, as_made}
use Rattle.bpf_shared.proofs.Puts.{true_or_false}
use Rattle.bpf_shared.specs.Sound.{IsSoundStore}
use Rattle.bpf_shared.proofs.Soundness.{as_made_sound, legal_sound}
use Rattle.bpf_shared.specs.History.{events_of}
use Rattle.hop_layout.specs.declared.place.Place.{Place}
use Rattle.hop_layout.specs.declared.place.Place.TheVariants.{RunCount, FreeBits, Stamp, Link}
use Rattle.hop_layout.specs.declared.about.About.{About}
use Rattle.hop_words.specs.declared.known.Known.{Known}
use Rattle.hop_words.specs.declared.known.Limbo.{Limbo}
use Rattle.hop_words.specs.declared.known.Lock.{Lock}
use Rattle.hop_layout.specs.Layout.{mem, put_at}
use Rattle.hop_words.specs.Content.{MapWords, words_by_place, one_if, times}
use Rattle.hop_words.specs.Ghost.{Holder, Free, Leaving, Within, is_free, is_filling, is_leaving, lane, Era, Ghost, HasElement, Each, limbo_at, lock_home}
use Rattle.hop_words.specs.Rule.{Rule, Chained, link_to, times_limbo, Linked, Segment, Segments, Minded, Holds, Locking}
use Rattle.bpf_shared.specs.Own.{turns_of, in_run}
use Rattle.hop_words.specs.Private.Step.{Steps}
use Rattle.hop_words.specs.Kinds.{retiring, Passed, giving_old}
use Rattle.hop_words.proofs.Small.{put2-same, put2-other}
use Rattle.hop_words.proofs.Histories.{prefix_refl, runs_as_known}
use Rattle.hop_words.proofs.Shortages.{settles_put, shown_step}
use Rattle.hop_words.proofs.Comes.{moved, in_limbo}
use Rattle.hop_words.proofs.Goes.{limbo_put}
use Rattle.hop_words.proofs.Segs.{agrees_on}
use Rattle.hop_words.proofs.Locks.{put_here, put_else}
use Rattle.hop_words.proofs.Writes.{chained_same}
use Rattle.hop_words.proofs.Owners.{bits_step, linked_outside, valued_outside, locking_outside}
use Rattle.hop_words.proofs.Stays.{stay}
use Rattle.hop_words.specs.Ghost.{child}

limbo_of : (g : Ghost) (l : Known) (m : ℕ) → lane g.lanes l.cpu ≡ l → limbo_at (g.lanes.limbo l.cpu) m ≡ limbo_at l.limbo m
limbo_of g l m is = ap (λ (z : Known). limbo_at z.limbo m) is

times_own : (e : ℕ) (es : List ℕ) → times e (e ∷ es) ≡ 1 + times e es
times_own e es = ap (λ (b : Bool). one_if b + times e es) (eq-eqb e e refl)

times_else : (e d : ℕ) (es : List ℕ) → d ≢ e → times d (e ∷ es) ≡ times d es
times_else e d es ne = let z : one_if (e == d) ≡ 0 = ap one_if (ne_eqb e d (λ (q : e ≡ d). ne (sym q))) in omega arith

-- ---- give bit of the old batch
-- who holds a value is in a run, and its counter is odd
holder_odd : (a : About) (w : Place → ℕ) (g : Ghost) → Rule a w g → a.count % 2 ≡ 0 → (d v : ℕ) → g.last.held d v ≡ true →
    (d < a.shape.cpus) × (w (RunCount d) % 2 ≡ 1)
holder_odd a w g r even d v h = (in_shape, odd)
  where
    so : IsSoundStore g.last
    so = legal_sound (as_made a.shape) g.last g.log (as_made_sound a.shape r.shaped) r.logged.legal

    running : g.last.running d ≡ true
    running = ⊎_elim (λ (t : g.last.running d ≡ true). t) (λ (f : g.last.running d ≡ false). absurd
        (true≢false (sym h ∙ (so.idle d f v).0))) (true_or_false (g.last.running d))

    known : in_run (events_of d g.log) ≡ true
    known = sym (runs_as_known a d g.last g.log g.log r.shaped r.logged.legal refl) ∙ running

    turns_odd : turns_of (events_of d g.log) % 2 ≡ 1
    turns_odd = let k = known in grind (arith, nat_tests)

    in_shape : d < a.shape.cpus
    in_shape = ⊎_elim
        (λ (t : d < a.shape.cpus). t)
        (λ (f : a.shape.cpus ≤ d). absurd (let z : turns_of (events_of d g.log) ≡ 0 = ap turns_of (r.logged.others d f) in let o = turns_odd in omega arith))
        (cases_lt d a.shape.cpus)

    odd : w (RunCount d) % 2 ≡ 1
    odd = let c = r.runs d in_shape in let o = turns_odd in let e = even in omega arith

pub give_old : (a : About) (l : Known) (m e : ℕ) (es : List ℕ) → a.count % 2 ≡ 0 → HasElement a m e → m < length l.limbo → Passed a l m e es
    → Steps a l (FreeBits m (e / 64)) (λ n. bit_or n (2 ^ (e % 64))) (λ ws n l'. l' ≡ giving_old l m es)
give_old a l m e es even at_e room i ws g sized r is inside fits = record {
  ghost = g2;
  rule = record {
    shaped = r.shaped;
    fixed = r.fixed;
    deep = r.deep;
    logged = r.logged;
    keyed = r.keyed;
    worn = r.worn;
    runs = r.runs;
    batched = record {
      young = limbo_put (λ b n y. b < a.shape.cpus → Chained (λ d. w (Link n d)) y.young) g.lanes.limbo l.cpu m x room'
          (λ _. r.batched.young l.cpu m inside) (λ b n _. r.batched.young b n);
      old = limbo_put (λ b n y. b < a.shape.cpus → Chained (λ d. w (Link n d)) y.old) g.lanes.limbo l.cpu m x room'
          (λ _. (subst (Chained (λ d. w (Link m d))) i.old (subst (λ z. Chained (λ d. w (Link m d)) z.old) q
          (r.batched.old l.cpu m inside))).1) (λ b n _. r.batched.old b n);
      noted = λ b n d c. limbo_put (λ b n y. b < a.shape.cpus → HasElement a n d → 1 ≤ times d y.old → c < length y.noted → g.last.held c
          (g.number n d) ≡ true → slice_index y.noted c ≡ w (RunCount c)) g.lanes.limbo l.cpu m x room'
          (λ _ at_d has few h. old_noted d c at_d (let z : times d y.old ≡ times d (e ∷ es) = ap (times d) i.old in omega arith) few h)
          (λ b n _. r.batched.noted b n d c) b n;
    };
    owned = record {
      bits = bits_step a w g.holder m e _ Free r.owned.bits
          (λ j lj ne. bit_at_or (w (FreeBits m (e / 64))) (2 ^ (e % 64)) j ∙ (let z = bit_at-pow_other (e % 64) j ne in omega arith))
          (bit_at_or (w (FreeBits m (e / 64))) (2 ^ (e % 64)) (e % 64) ∙
          (let z = bit_at-pow_same (e % 64) in let y = bit_at-lt (w (FreeBits m (e / 64))) (e % 64) in omega arith));
      fresh_is = λ b n d inb l2. r.owned.fresh_is b n d inb l2 ∙ sym (moved (λ z. one_if (is_filling b z)) g.holder m e (Leaving l.cpu) Free was refl n d);
      limbo_is = λ b n d inb at_d. limbo_put (λ b n y. b < a.shape.cpus → HasElement a n d → times_limbo d y ≡ one_if
          (is_leaving b (holder2 n d))) g.lanes.limbo l.cpu m x room'
          (λ _ at_m. own d at_m)
          (λ b n ne inb at_n. r.owned.limbo_is b n d inb at_n ∙ ⊎_elim
          (λ (t : b ≡ l.cpu). ap (λ z. one_if (is_leaving b z)) (sym (put2-other g.holder m e n d Free (λ u. absurd (ne t u)))))
          (λ (nb : b ≢ l.cpu). sym (moved (λ z. one_if (is_leaving b z)) g.holder m e (Leaving l.cpu) Free was
          (sym (ap one_if (ne_eqb l.cpu b (λ (z : l.cpu ≡ b). nb (sym z))))) n d))
          (cases_eq b l.cpu))
          b n inb at_d;
    };
    linked = linked_outside a g.holder m e (Leaving l.cpu) Free was g.linked (λ s z. cc) (λ s z. cc) r.linked;
    filled = r.filled;
    segments = r.segments;
    locking = locking_outside a g.holder m e (Leaving l.cpu) Free was g.depths (words_by_place w) (λ n t. w (Stamp n t)) g.eras g.linked
        g.lanes.locks (λ b. inr (λ home t z. absurd z)) r.locking;
    reading = r.reading;
    held = r.held;
    valued = valued_outside a g.holder m e (Leaving l.cpu) Free was _ g.last.made g.last.value g.last.held g.number (λ z. z) (λ c h _. nobody c h) r.valued;
    shown = shown_step a g.log g.log g.last g.last g.lanes.fresh g.lanes.fresh g.lanes.tally g.holder holder2 g.taker (λ n d. omega arith)
        r.shown.causes (λ d p. p) (λ p h. h)
        (settles_put g.holder m e Free (λ ne _. ne refl) (λ c u. cc)) (λ c n d inb at_d h. inr h) r.shown;
  };
  others = λ d ne. rw (ne_eqb d l.cpu ne) refl;
  longer = prefix_refl g.log;
  tally = refl;
  says = rw (eq-eqb l.cpu l.cpu refl) (λ j. record (is j) { limbo = set (is j).limbo m (record (limbo_at (is j).limbo m) { old = es }) });
}
  where
    w : Place → ℕ
    w = mem a.shape ws

    y : Limbo
    y = limbo_at l.limbo m

    q : limbo_at (g.lanes.limbo l.cpu) m ≡ y
    q = limbo_of g l m is

    x : Limbo
    x = record (limbo_at (g.lanes.limbo l.cpu) m) { old = es }

    room' : m < length (g.lanes.limbo l.cpu)
    room' = subst (λ (z : List Limbo). m < length z) (sym (ap (λ (z : Known). z.limbo) is)) room

    holder2 : ℕ → ℕ → Holder
    holder2 = put g.holder m (put (g.holder m) e Free)

    g2 : Ghost
    g2 = record g { lanes = record g.lanes { limbo = put g.lanes.limbo l.cpu (set (g.lanes.limbo l.cpu) m x) }; holder = holder2 }

    has_e : 1 ≤ times e y.old
    has_e = let z : times e y.old ≡ times e (e ∷ es) = ap (times e) i.old in let o = times_own e es in omega arith

    in_it : 1 ≤ times_limbo e (limbo_at (g.lanes.limbo l.cpu) m)
    in_it = let z : times_limbo e (limbo_at (g.lanes.limbo l.cpu) m) ≡ times_limbo e y = ap (times_limbo e) q in let h = has_e in omega arith

    was : g.holder m e ≡ Leaving l.cpu
    was = in_limbo a _ g.lanes.fresh g.lanes.limbo g.holder l.cpu m e r.owned inside at_e in_it

    old_noted : (d c : ℕ) → HasElement a m d → 1 ≤ times d y.old → c < length (limbo_at (g.lanes.limbo l.cpu) m).noted → g.last.held c
        (g.number m d) ≡ true → slice_index (limbo_at (g.lanes.limbo l.cpu) m).noted c ≡ w (RunCount c)
    old_noted d c at_d has few h = r.batched.noted l.cpu m d c inside at_d (subst (λ z. 1 ≤ times d z.old) (sym q) has) few h

    -- no CPU in a run holds it: its counter would be the one noted, which is even
    nobody : (c : ℕ) → g.last.held c (g.number m e) ≡ true → ⊥
    nobody c h =
        let k = holder_odd a w g r even c (g.number m e) h in
        let few : c < length (limbo_at (g.lanes.limbo l.cpu) m).noted = subst (λ z. c < length z.noted) (sym q) (let z = i.all in let t = k.0 in omega arith) in
        let n = old_noted e c at_e has_e few h in
        let same : slice_index (limbo_at (g.lanes.limbo l.cpu) m).noted c ≡ slice_index y.noted c = ap (λ z. slice_index z.noted c) q in
        let ev = i.even c k.0 in
        let od = k.1 in
        omega arith

    own : (d : ℕ) → HasElement a m d → times_limbo d x ≡ one_if (is_leaving l.cpu (holder2 m d))
    own d at_d =
        let p = r.owned.limbo_is l.cpu m d inside at_d in
        let z : times d (limbo_at (g.lanes.limbo l.cpu) m).old ≡ times d (e ∷ es) = ap (λ (u : Limbo). times d u.old) q ∙ ap (times d) i.old in
        ⊎_elim
        (λ (t : d ≡ e).
        let one : times d (e ∷ es) ≡ 1 + times d es = subst (λ (k : ℕ). times k (e ∷ es) ≡ 1 + times k es) (sym t) (times_own e es) in
        let old : one_if (is_leaving l.cpu (g.holder m d)) ≡ 1 = ap (λ h. one_if (is_leaving l.cpu h)) (ap (g.holder m) t ∙ was) ∙ ap one_if
        (eq-eqb l.cpu l.cpu refl) in
        let new : one_if (is_leaving l.cpu (holder2 m d)) ≡ 0 = ap (λ h. one_if (is_leaving l.cpu h)) (put2-same g.holder m e m d Free refl t) in
        omega arith)
        (λ (ne : d ≢ e).
        let one = times_else e d es ne in
        let new : one_if (is_leaving l.cpu (holder2 m d)) ≡ one_if (is_leaving l.cpu (g.holder m d)) = ap (λ h. one_if (is_leaving l.cpu h))
        (put2-other g.holder m e m d Free (λ _. ne)) in
        omega arith)
        (cases_eq d e)

-- the bit of an element of the old batch is clear, so to add it is to set it
pub old_added : (a : About) (w : Place → ℕ) (g : Ghost) (l : Known) (m e : ℕ) (es : List ℕ) → Rule a w g → lane g.lanes l.cpu ≡ l →
    l.cpu < a.shape.cpus → HasElement a m e → (limbo_at l.limbo m).old ≡ e ∷ es → w (FreeBits m (e / 64)) < 18446744073709551616
    → (w (FreeBits m (e / 64)) + 2 ^ (e % 64)) % 2 ^ 64 ≡ bit_or (w (FreeBits m (e / 64))) (2 ^ (e % 64))
old_added a w g l m e es r is inside at_e old fits =
    let n = w (FreeBits m (e / 64)) in
    let q = limbo_of g l m is in
    let in_old : times e (limbo_at (g.lanes.limbo l.cpu) m).old ≡ times e (e ∷ es) = ap (λ (z : Limbo). times e z.old) q ∙ ap (times e) old in
    let own = times_own e es in
    let was = in_limbo a _ g.lanes.fresh g.lanes.limbo g.holder l.cpu m e r.owned inside at_e (omega arith) in
    let clear : bit_at n (e % 64) ≡ 0 = r.owned.bits m e at_e ∙ ap (λ h. one_if (is_free h)) was in
    let apart : bit_and n (2 ^ (e % 64)) ≡ 0 = and_pow n (e % 64) ∙ (ap (λ (i : ℕ). i * 2 ^ (e % 64)) clear ∙ (omega arith)) in
    let sum = or_disjoint n (2 ^ (e % 64)) apart in
    let low : 2 ^ (e % 64) < 2 ^ 64 = pow_below (e % 64) 64 (omega arith) in
    let small : bit_or n (2 ^ (e % 64)) < 2 ^ 64 = or_lt 64 n (2 ^ (e % 64)) (omega arith) low in
    ap (λ (i : ℕ). i % 2 ^ 64) (sym sum) ∙ mod_small (bit_or n (2 ^ (e % 64))) (2 ^ 64) small

-- ---- words of elements that the lane has: nobody else minds them
-- the segments, where links and keys of linked elements are as they were
pub segments_words : (a : About) (depths : ℕ → ℕ → ℕ) (x x' : MapWords) (stamp : ℕ → ℕ → ℕ) (eras : ℕ → ℕ → Era)
    (linked : ℕ → List ℕ → Option ℕ) (holder : ℕ → ℕ → Holder) → Linked a linked holder
    → ((m s : ℕ) → x'.head m s ≡ x.head m s) → ((m s b : ℕ) → x'.hop m s b ≡ x.hop m s b) → ((m s b : ℕ) → x'.slot m s b ≡ x.slot m s b)
    → ((m d : ℕ) (q : List ℕ) → holder m d ≡ Within q → (x'.link m d ≡ x.link m d) × ((k : ℕ) → x'.key m d k ≡ x.key m d k)) → Segments a
    depths x stamp eras linked → Segments a depths x' stamp eras linked
segments_words a depths x x' stamp eras linked holder l head hop slot within p n t inside = record {
  at_rest = q.at_rest;
  clean = λ e. (
    (q.clean e).0,
    agrees_on n t _ _ x x' _ (q.clean e).1 (head n t) (hop n t) (slot n t)
        (λ d on. let k = (q.shows e).each d on in let z = within n d k.0 (l.within n k.0 d k.3).1 in (on, z.0, z.1)),
  );
  written = q.written;
  shows = q.shows;
}
  where
    q : Segment a depths x (stamp n t) (eras n t) n t (linked n)
    q = p n t inside

-- the locks of the others, where links and keys that they mind are as they were
pub locking_words : (a : About) (depths : ℕ → ℕ → ℕ) (x x' : MapWords) (stamp : ℕ → ℕ → ℕ) (eras : ℕ → ℕ → Era)
    (linked : ℕ → List ℕ → Option ℕ) (holder : ℕ → ℕ → Holder) (locks : ℕ → List Lock) (c : ℕ) → locks c ≡ []
    → ((m s : ℕ) → x'.head m s ≡ x.head m s) → ((m s b : ℕ) → x'.hop m s b ≡ x.hop m s b) → ((m s b : ℕ) → x'.slot m s b ≡ x.slot m s b)
    → ((home : List ℕ → ℕ) (m t d b : ℕ) → b ≢ c → Minded home b t (holder m d) → (x'.link m d ≡ x.link m d) ×
    ((k : ℕ) → x'.key m d k ≡ x.key m d k)) → Locking a depths x stamp eras linked holder locks → Locking a depths x' stamp eras linked
    holder locks
locking_words a depths x x' stamp eras linked holder locks c none head hop slot minded p b = ⊎_elim
    (λ (t : b ≡ c). subst (Each (Holds a depths x' stamp eras linked holder b)) (sym (ap locks t ∙ none)) tt)
    (λ (ne : b ≢ c). go ne (locks b) (p b))
    (cases_eq b c)
  where
    go : b ≢ c → (ks : List Lock) → Each (Holds a depths x stamp eras linked holder b) ks → Each (Holds a depths x' stamp eras linked holder b) ks
    go ne [] q = tt
    go ne (k ∷ ks) q = (
      record {
        inside = q.0.inside;
        deep = q.0.deep;
        even = q.0.even;
        locked = q.0.locked;
        writer = q.0.writer;
        dirty = q.0.dirty;
        credit = q.0.credit;
        untouched = q.0.untouched;
        sized = q.0.sized;
        copied = agrees_on k.map k.segment _ _ x x' _ q.0.copied (head k.map k.segment) (hop k.map k.segment) (slot k.map k.segment)
            (λ d on. let z = minded (lock_home a k) k.map k.segment d b ne on in (on, z.0, z.1));
        beside = record {
          head = head k.map (child k) ∙ q.0.beside.head;
          hop = λ j. hop k.map (child k) j ∙ q.0.beside.hop j;
          slot = λ j.
              slot k.map (child k) j ∙ q.0.beside.slot j;
        };
        beside_stamp = q.0.beside_stamp;
        due = q.0.due;
      },
      go ne ks q.1,
    )

-- ---- retire
pub retire : (a : About) (l : Known) (m e : ℕ) (us : List ℕ) → HasElement a m e → m < length l.limbo → l.locks ≡ [] → (limbo_at l.limbo m).used ≡ e ∷ us
    → Steps a l (Link m e) (λ _. link_to (limbo_at l.limbo m).young) (λ ws n l'. l' ≡ retiring l m e us)
retire a l m e us at_e room unlocked used ws g sized r is inside fits = record {
  ghost = g2;
  rule = record {
    shaped = r.shaped;
    fixed = r.fixed;
    deep = r.deep;
    logged = r.logged;
    keyed = r.keyed;
    worn = r.worn;
    runs = r.runs;
    batched = record {
      young = limbo_put (λ b n z. b < a.shape.cpus → Chained (λ d. w2 (Link n d)) z.young) g.lanes.limbo l.cpu m x room'
          (λ _. (
            put_here w (Link m e) next ∙ ap (λ z. link_to z.young) (sym q),
            own_chain (limbo_at (g.lanes.limbo l.cpu) m).young
                (λ d has. omega arith) (r.batched.young l.cpu m inside),
          ))
          (λ b n ne inb. other_chain b n (limbo_at (g.lanes.limbo b) n).young ne inb (λ d has. omega arith) (r.batched.young b n inb));
      old = limbo_put (λ b n z. b < a.shape.cpus → Chained (λ d. w2 (Link n d)) z.old) g.lanes.limbo l.cpu m x room'
          (λ _. own_chain (limbo_at (g.lanes.limbo l.cpu) m).old (λ d has. omega arith) (r.batched.old l.cpu m inside))
          (λ b n ne inb. other_chain b n (limbo_at (g.lanes.limbo b) n).old ne inb (λ d has. omega arith) (r.batched.old b n inb));
      noted = λ b n d c. limbo_put (λ b n z. b < a.shape.cpus → HasElement a n d → 1 ≤ times d z.old → c < length z.noted → g.last.held c
          (g.number n d) ≡ true → slice_index z.noted c ≡ w (RunCount c)) g.lanes.limbo l.cpu m x room'
          (λ inb. r.batched.noted l.cpu m d c inb) (λ b n _. r.batched.noted b n d c) b n;
    };
    owned = record {
      bits = r.owned.bits;
      fresh_is = r.owned.fresh_is;
      limbo_is = λ b n d inb at_d. limbo_put (λ b n z. b < a.shape.cpus → HasElement a n d → times_limbo d z ≡ one_if
          (is_leaving b (g.holder n d))) g.lanes.limbo l.cpu m x room'
          (λ inb at_m. (let z = r.owned.limbo_is l.cpu m d inb at_m in
          let u : times d (limbo_at (g.lanes.limbo l.cpu) m).used ≡ times d (e ∷ us) = ap (times d) used' in omega arith))
          (λ b n _ inb at_n. r.owned.limbo_is b n d inb at_n) b n inb at_d;
    };
    linked = r.linked;
    filled = r.filled;
    segments = segments_words a g.depths (words_by_place w) (words_by_place w2) (λ n t. w (Stamp n t)) g.eras g.linked g.holder r.linked
        (λ n t. refl) (λ n t b. refl) (λ n t b. refl)
        (λ n d q h. (link_else n d (λ u v. let z : Within q ≡ Leaving l.cpu = sym h ∙ ((λ j. g.holder (u j) (v j)) ∙ was) in cc), λ k. refl)) r.segments;
    locking = locking_words a g.depths (words_by_place w) (words_by_place w2) (λ n t. w (Stamp n t)) g.eras g.linked g.holder g.lanes.locks
        l.cpu (ap (λ (z : Known). z.locks) is ∙ unlocked) (λ n t. refl) (λ n t b. refl) (λ n t b. refl)
        (λ home n t d b ne on. (link_else n d (λ u v. ne (sym (subst (Minded home b t) ((λ j. g.holder (u j) (v j)) ∙ was) on))), λ k. refl)) r.locking;
    reading = r.reading;
    held = r.held;
    valued = r.valued;
    shown = r.shown;
  };
  others = λ d ne. rw (ne_eqb d l.cpu ne) refl;
  longer = prefix_refl g.log;
  tally = refl;
  says = rw (eq-eqb l.cpu l.cpu refl) (λ j. record (is j) {
    limbo = set (is j).limbo m
        (record (limbo_at (is j).limbo m) { used = us; young = e ∷ (limbo_at (is j).limbo m).young });
  });
}
  where
    w : Place → ℕ
    w = mem a.shape ws

    next : ℕ
    next = link_to (limbo_at l.limbo m).young

    w2 : Place → ℕ
    w2 = put_at w (Link m e) next

    q : limbo_at (g.lanes.limbo l.cpu) m ≡ limbo_at l.limbo m
    q = limbo_of g l m is

    used' : (limbo_at (g.lanes.limbo l.cpu) m).used ≡ e ∷ us
    used' = ap (λ (z : Limbo). z.used) q ∙ used

    x : Limbo
    x = record (limbo_at (g.lanes.limbo l.cpu) m) { used = us; young = e ∷ (limbo_at (g.lanes.limbo l.cpu) m).young }

    room' : m < length (g.lanes.limbo l.cpu)
    room' = subst (λ (z : List Limbo). m < length z) (sym (ap (λ (z : Known). z.limbo) is)) room

    g2 : Ghost
    g2 = record g { lanes = record g.lanes { limbo = put g.lanes.limbo l.cpu (set (g.lanes.limbo l.cpu) m x) } }

    has_used : 1 ≤ times e (limbo_at (g.lanes.limbo l.cpu) m).used
    has_used = let z : times e (limbo_at (g.lanes.limbo l.cpu) m).used ≡ times e (e ∷ us) = ap (times e) used' in let o = times_own e us in omega arith

    was : g.holder m e ≡ Leaving l.cpu
    was = in_limbo a _ g.lanes.fresh g.lanes.limbo g.holder l.cpu m e r.owned inside at_e (let h = has_used in omega arith)

    map_of : Place → ℕ
    map_of (Link m d) = m
    map_of p = 0

    element_of : Place → ℕ
    element_of (Link m d) = d
    element_of p = 0

    link_else : (n d : ℕ) → (n ≡ m → d ≡ e → ⊥) → w2 (Link n d) ≡ w (Link n d)
    link_else n d ne = put_else w (Link m e) (Link n d) next (λ z. ne (ap map_of z) (ap element_of z))

    -- the element is in hand, and in no batch
    once : times_limbo e (limbo_at (g.lanes.limbo l.cpu) m) ≡ 1
    once = r.owned.limbo_is l.cpu m e inside at_e ∙ (ap (λ h. one_if (is_leaving l.cpu h)) was ∙ ap one_if (eq-eqb l.cpu l.cpu refl))

    own_chain : (es : List ℕ) → ((d : ℕ) → 1 ≤ times d es → times d (limbo_at (g.lanes.limbo l.cpu) m).used + 1 ≤ times_limbo d
        (limbo_at (g.lanes.limbo l.cpu) m)) → Chained (λ d. w (Link m d)) es → Chained (λ d. w2 (Link m d)) es
    own_chain es more = chained_same (λ d. w (Link m d)) (λ d. w2 (Link m d)) es
        (λ d has. link_else m d (λ _ v. let k = more d has in let o = once in let h = has_used in
        let z : times_limbo d (limbo_at (g.lanes.limbo l.cpu) m) ≡ times_limbo e (limbo_at (g.lanes.limbo l.cpu) m) = ap
        (λ (i : ℕ). times_limbo i (limbo_at (g.lanes.limbo l.cpu) m)) v in
        let y : times d (limbo_at (g.lanes.limbo l.cpu) m).used ≡ times e (limbo_at (g.lanes.limbo l.cpu) m).used = ap
        (λ (i : ℕ). times i (limbo_at (g.lanes.limbo l.cpu) m).used) v in omega arith))

    other_chain : (b n : ℕ) (es : List ℕ) → (b ≡ l.cpu → n ≢ m) → b < a.shape.cpus →
        ((d : ℕ) → 1 ≤ times d es → 1 ≤ times_limbo d (limbo_at (g.lanes.limbo b) n)) → Chained (λ d. w (Link n d)) es → Chained
        (λ d. w2 (Link n d)) es
    other_chain b n es ne inb more = chained_same (λ d. w (Link n d)) (λ d. w2 (Link n d)) es (λ d has. link_else n d (λ u v.
        let at_d : HasElement a n d = subst (λ (i : ℕ). HasElement a i d) (sym u) (subst (HasElement a m) (sym v) at_e) in
        let left = in_limbo a _ g.lanes.fresh g.lanes.limbo g.holder b n d r.owned inb at_d (more d has) in
        let same : Leaving b ≡ Leaving l.cpu = sym left ∙ ((λ j. g.holder (u j) (v j)) ∙ was) in
        ne (let z : b ≡ l.cpu = cc in z) u))

-- ---- read own word: a batch's link leads to the next of the batch
pub read_old_link : (a : About) (l : Known) (m e : ℕ) (es : List ℕ) → (limbo_at l.limbo m).old ≡ e ∷ es → Steps a l (Link m e) (λ n. n)
    (λ ws n l'. (n ≡ link_to es) × (l' ≡ l))
read_old_link a l m e es old ws g sized r is inside fits =
    stay a (mem a.shape ws) g l.cpu (Link m e) _ r (
      (subst (Chained (λ d. mem a.shape ws (Link m d)))
          (ap (λ (z : Limbo). z.old) (limbo_of g l m is) ∙ old) (r.batched.old l.cpu m inside)).0,
      is,
    )
