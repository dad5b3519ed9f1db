-- The store as made keeps the rule.
use Rattle.std.proofs.Common.{◌≡◌, ℕ, zero, suc, ◌+◌, ◌<◌, ◌≤◌, false, true≢false, List, [], ◌∷◌, ◌++◌, Some, None, length, refl, ap, sym}
use Rattle.std.proofs.Common.{subst, ◌∙◌, arith, inl, inr, ◌-◌, nat_lt, Bool, true, ◌&&◌, if◌then◌else◌, ⊎_elim}
use mathlib.Core.Option.{some, some-injective, some-ne-none}
use lib.ListN.{get_elem?}
use mathlib.Core.List.{IsPrefix}
use Rattle.std.specs.Int.{bit_at}
use Rattle.std.proofs.lemmas.Nat.Bits.{bit_at-zero}
use Rattle.std.specs.Ordering.{nat_cmp}
use Rattle.std.specs.Cmp.Lexicographic.{slice_cmp}
use Rattle.std.specs.FinMap.{len-empty}
use Rattle.atomic_table.specs.Table.{opening}
use Rattle.bpf_shared.specs.declared.events.Entry.{Entry}
use Rattle.bpf_shared.specs.Store.{Plain, as_made}
use Rattle.bpf_shared.specs.History.{Legal}
use Rattle.hop_layout.specs.declared.place.Place.{Place}
use Rattle.hop_layout.specs.declared.place.Place.TheVariants.{Stamp, Head, Hop, Link}
use Rattle.hop_layout.specs.declared.about.About.{About}
use Rattle.hop_words.specs.declared.known.Known.{Known}
use Rattle.hop_words.specs.declared.known.View.{View}
use Rattle.hop_layout.specs.Layout.{mem, size, first_depth, depth, power}
use Rattle.hop_words.specs.Content.{item, words_by_place, times, Reached, LinksThrough, IsShare}
use Rattle.hop_words.specs.Ghost.{Free, Lanes, lane, Era, Ghost, shape_at, IsSegment, limbo_at, no_limbo}
use Rattle.hop_words.specs.Shortage.{HasCause}
use Rattle.hop_words.specs.Rule.{Rule, Kept, begun_in, times_limbo, Chained}
use Rattle.hop_words.specs.Private.Made.{AreNewWords}
use Rattle.hop_words.specs.Opens.{no_limbos, new_lane, lanes_from, opens}
use Rattle.hop_words.proofs.CountDown.{nothing_in}
use Rattle.hop_words.proofs.FirstBytes.{shows_first}
use Rattle.hop_words.specs.Depths.{home_by}
use Rattle.hop_layout.specs.Births.{is_born, AreDepths}
use Rattle.hop_layout.proofs.Births.{born_small, low_is, high_is}
use Rattle.bpf_shared.specs.declared.shapes.MapShape.{MapShape}
use Rattle.std.proofs.lemmas.Bool.Decides.{nat_tests}
use Rattle.std.proofs.lemmas.Bool.{cases_lt}

limbo_none : (n m : ℕ) → limbo_at (no_limbos n) m ≡ no_limbo
limbo_none zero m = refl
limbo_none (suc n) zero = refl
limbo_none (suc n) (suc m) = limbo_none n m

-- the depths as made
no_depth : (limit n s : ℕ) → is_born (λ t. 0) n s ≡ true → s ≡ 0
no_depth limit zero s b = let z = b in grind (arith, nat_tests)
no_depth limit (suc n) s b = ⊎_elim
    (λ (l : s < power n). no_depth limit n s (sym (low_is (λ t. 0) n s l) ∙ b))
    (λ (h : power n ≤ s).
    let z : nat_lt n 0 && is_born (λ t. 0) n (s - power n) ≡ true = sym (high_is (λ t. 0) n s h) ∙ b in
    let y : nat_lt n 0 ≡ false = (grind (arith, nat_tests)) in absurd (true≢false (sym z ∙ ap (λ (x : Bool). x && is_born (λ t. 0) n (s - power n)) y)))
    (cases_lt s (power n))

first_sound : (g : MapShape) → AreDepths (λ s. first_depth g) (depth g)
first_sound g s b = go (g.grow) refl
  where
    go : (x : Bool) → g.grow ≡ x → (s < power (first_depth g)) × (first_depth g ≤ depth g)
    go true e = let z : first_depth g ≡ 0 = ap (λ (y : Bool). if y then 0 else depth g) e in
        let n = no_depth (depth g) (depth g) s (subst (λ (k : ℕ). is_born (λ t. k) (depth g) s ≡ true) z b) in
        let p : power (first_depth g) ≡ 1 = ap power z in (omega arith, omega arith)
    go false e = let z : first_depth g ≡ depth g = ap (λ (y : Bool). if y then 0 else depth g) e in
        let p : power (first_depth g) ≡ power (depth g) = ap power z in
        let n = born_small (λ t. first_depth g) (depth g) s b in (omega arith, omega arith)

module _ (a : About) (w : Place → ℕ) (i : AreNewWords a w) where
  new_lanes : Lanes
  new_lanes = record { seen = λ c. []; fresh = λ c. []; limbo = λ c. no_limbos (length a.shape.maps); locks = λ c. []; readings = λ c. []; tally = λ c. [] }

  new_era : ℕ → ℕ → Era
  new_era m s = record { era = w (Stamp m s); writer = 0; dirty = false; credit = 0; old = words_by_place w }

  abbrev new_ghost : Ghost
  new_ghost = record {
    log = [];
    last = as_made a.shape;
    lanes = record { seen = λ c. []; fresh = λ c. []; limbo = λ c. no_limbos (length a.shape.maps); locks = λ c. []; readings = λ c. []; tally = λ c. [] };
    holder = λ m e. Free;
    number = λ m e. 0;
    taker = λ m c n. 0;
    linked = λ m key. None;
    depths = λ m s. first_depth (shape_at a m);
    eras = λ m s. record { era = w (Stamp m s); writer = 0; dirty = false; credit = 0; old = words_by_place w };
  }

  no_bit : (m s b d : ℕ) → IsSegment a m s → b < 64 → bit_at (w (Hop m s b)) d ≡ 1 → ⊥
  no_bit m s b d at_s lb one = let z : bit_at (w (Hop m s b)) d ≡ 0 = ap (λ (n : ℕ). bit_at n d) (i.hops m s b at_s lb) ∙ bit_at-zero d in omega arith

  nothing_reached : (m s e : ℕ) → IsSegment a m s → Reached (words_by_place w) m s e → ⊥
  nothing_reached m s e at_s (inl h) = no_bit m s h.0 h.1 at_s h.2.0 h.2.2
  nothing_reached m s e at_s (inr h) = go h.0 h.1 h.2
    where
      go : (es : List ℕ) → LinksThrough (λ d. w (Link m d)) (w (Head m s)) es → 1 ≤ times e es → ⊥
      go [] f has = omega arith
      go (x ∷ xs) f has = let z : None ≡ Some x = ap item (sym (i.heads m s at_s)) ∙ f.0 in cc

  empty_share : (m s : ℕ) → IsSegment a m s → IsShare a.seed (shape_at a m) (home_by a m (first_depth (shape_at a m))) (words_by_place w) m s (λ key. None)
  empty_share m s at_s = record {
    sound = record {
      leads = λ b d lb ld one. absurd (no_bit m s b d at_s lb one);
      hopped = λ p e lp is. let z : None ≡ Some e = ap item (sym (i.slots m s p at_s lp)) ∙ is in cc;
      homes = λ b d e key h has. absurd (no_bit m s b d at_s h.0 h.2);
      one_hop = λ b d c f e h k. absurd (no_bit m s b d at_s h.0 h.2);
      list = [];
      follows = ap item (i.heads m s at_s);
      one_place = λ e. omega arith;
      apart = λ b d e h. refl;
    };
    each = λ e r. absurd (nothing_reached m s e at_s r);
    all = λ key e is home. cc;
  }

  none_before : (before after : List Entry) (x : Entry) → [] ≡ before ++ (x ∷ after)
      → (s : Plain) × Legal (as_made a.shape) before s × Legal s (x ∷ after) (as_made a.shape) × HasCause a.version (begun_in [] (λ c. []))
      (record { shape = a.shape; before = before; store = s; cpu = x.cpu }) x.event
  none_before [] after x e = cc
  none_before (y ∷ ys) after x e = cc

  new_rule : Rule a w new_ghost
  new_rule = record {
    shaped = i.shaped;
    deep = record {
      sound = λ m in_m. first_sound (shape_at a m);
      stamped = λ m s b. (i.stamps m s (b.0, b.1)).2;
      whole = λ m s in_m in_s no. ap (λ (y : Bool). if y then 0 else depth (shape_at a m)) no;
    };
    logged = record { legal = refl; begins = λ c l. ([], refl); own = λ c l. refl; others = λ c l. refl };
    keyed = record { counted = λ m l. i.keys m l ∙ sym (len-empty (slice_cmp nat_cmp) ℕ); leads = λ m key. nothing_in key };
    worn = λ m s b. (let z = (i.stamps m s (b.0, b.1)).1 in omega arith);
    runs = λ c l. i.counts c l ∙ omega arith;
    batched = record {
      young = λ c m l. subst (λ x. Chained (λ e. w (Link m e)) x.young) (sym (limbo_none (length a.shape.maps) m)) tt;
      old = λ c m l. subst (λ x. Chained (λ e. w (Link m e)) x.old) (sym (limbo_none (length a.shape.maps) m)) tt;
      noted = λ c m e d l at_e has few h. absurd (true≢false (sym h));
    };
    owned = record {
      bits = i.bits;
      fresh_is = λ c m e l at_e. refl;
      limbo_is = λ c m e l at_e. ap (times_limbo e) (limbo_none (length a.shape.maps) m);
    };
    linked = record { within = λ m key e is. cc; leads = λ m e key l is. cc };
    filled = λ c l. tt;
    segments = λ m s b. let at_s : IsSegment a m s = (b.0, b.1) in record {
      at_rest = λ e. refl;
      clean = λ d. (
        (let z = (i.stamps m s at_s).0 in omega arith),
        record
            { head = refl; hop = λ b. refl; slot = λ b. refl; link = λ e on. refl; key = λ e k on. refl },
      );
      written = λ d. absurd (true≢false (sym d));
      shows = λ d. empty_share m s at_s;
    };
    locking = λ c. tt;
    reading = λ c. tt;
    held = λ m s b odd. absurd (let z = (i.stamps m s (b.0, b.1)).0 in omega arith);
    fixed = shows_first a i.shaped i.bytes w i.fixed;
    valued = record { lies = λ m e l has. absurd has; older = λ m e l has. absurd has; held_in = λ c v h. absurd (true≢false (sym h)) };
    shown = record {
      causes = λ before after x e. none_before before after x e;
      running = λ c. inl refl;
      took = λ m e at_e held. absurd
          (held refl);
      taken = λ c m e l at_e seen. absurd seen;
    };
  }

-- each lane of the first seat is that of its CPU
from_lane : (a : About) (c n k : ℕ) (l : Known) → get_elem? (lanes_from a c n) k ≡ some l → (l ≡ new_lane a (c + k)) × (k < n)
from_lane a c zero k l e = absurd (some-ne-none l (sym e))
from_lane a c (suc n) zero l e = (sym (some-injective _ l e) ∙ ap (new_lane a) (let z : c ≡ c + 0 = omega arith in z), omega arith)
from_lane a c (suc n) (suc k) l e =
    let r = from_lane a (c + 1) n k l e in (r.0 ∙ ap (new_lane a) (let z : c + 1 + k ≡ c + suc k = omega arith in z), (let z = r.1 in omega arith))

pub opening_kept : (a : About) (ws : List ℕ) → length ws ≡ size a.shape → AreNewWords a (mem a.shape ws) → Kept a (opening ws [] (opens a))
opening_kept a ws sized i = record {
  sized = sized;
  ghost = new_ghost a (mem a.shape ws) i;
  seats = record {
    seat = λ c. 0;
    known = λ j k v l is spot. known j v is k l spot;
    distinct = λ j k m v l n is s t e. one j v is k m l n s t e;
    kept = λ j v is. kept j v is;
  };
  rule = new_rule a (mem a.shape ws) i;
}
  where
    known : (j : ℕ) (v : View) → get_elem? (opens a ∷ []) j ≡ some v → (k : ℕ) (l : Known) → get_elem? v.lanes k ≡ some l → (0 ≡ j) ×
        (l.cpu < a.shape.cpus) × (lane (new_ghost a (mem a.shape ws) i).lanes l.cpu ≡ l)
    known zero v is k l spot =
        let f = from_lane a 0 a.shape.cpus k l (subst (λ (x : View). get_elem? x.lanes k ≡ some l) (sym (some-injective (opens a) v is)) spot) in
        let c : l.cpu ≡ 0 + k = ap (λ (x : Known). x.cpu) f.0 in
        (refl, (let z = f.1 in omega arith), ap (new_lane a) c ∙ sym f.0)
    known (suc j) v is k l spot = absurd (some-ne-none v (sym is))

    one : (j : ℕ) (v : View) → get_elem? (opens a ∷ []) j ≡ some v → (k m : ℕ) (l n : Known) → get_elem? v.lanes k ≡ some l → get_elem?
        v.lanes m ≡ some n → l.cpu ≡ n.cpu → k ≡ m
    one zero v is k m l n s t e =
        let f = from_lane a 0 a.shape.cpus k l (subst (λ (x : View). get_elem? x.lanes k ≡ some l) (sym (some-injective (opens a) v is)) s) in
        let h = from_lane a 0 a.shape.cpus m n (subst (λ (x : View). get_elem? x.lanes m ≡ some n) (sym (some-injective (opens a) v is)) t) in
        let c : l.cpu ≡ 0 + k = ap (λ (x : Known). x.cpu) f.0 in
        let d : n.cpu ≡ 0 + m = ap (λ (x : Known). x.cpu) h.0 in
        omega arith
    one (suc j) v is k m l n s t e = absurd (some-ne-none v (sym is))

    kept : (j : ℕ) (v : View) → get_elem? (opens a ∷ []) j ≡ some v → IsPrefix v.kept []
    kept zero v is = subst (λ (x : View). IsPrefix x.kept []) (some-injective (opens a) v is) ([], refl)
    kept (suc j) v is = absurd (some-ne-none v (sym is))
